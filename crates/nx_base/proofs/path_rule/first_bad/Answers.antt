use Rattle.std.proofs.Common.{◌+◌, sym, ap, ◌∙◌, cond, Some, None, Bool, drop, arith}
use Rattle.nx_base.specs.Paths.{bad_place, segments_of}
use Rattle.nx_base.proofs.PathLemmas.{place_more, place_last}
use Rattle.nx_base.proofs.path_rule.first_bad.Goals as goal
use Rattle.std.proofs.lemmas.Bool.{cases_lt}
use Rattle.std.proofs.Common.{inl, inr, length, ◌<◌}

pub returns-then-is_bad-clause-place : goal.returns-then-is_bad-clause-place
returns-then-is_bad-clause-place c =
    let text = c.args.text.now in
    let end = c.segment_end-end.result in
    let e = c.segment_end-end.ensures in
    elim (cases_lt end (length text)) [
      | inl lt ↦
          ap (λ (b : Bool). cond b (Some c.walk.start) (bad_place (end + 1) (segments_of (drop (end + 1) text)))) c.if-is_bad.ensures
          ∙ sym (place_more text c.walk.start end e.from lt e.inside (e.stops lt)) ∙ c.walk.invariant.same
      | inr ge ↦
          ap (λ (b : Bool). cond b (Some c.walk.start) None) c.if-is_bad.ensures
          ∙ sym (place_last text c.walk.start end e.from (omega arith) e.inside) ∙ c.walk.invariant.same
    ]

pub returns-then-end-text-clause-place : goal.returns-then-end-text-clause-place
returns-then-end-text-clause-place c =
    ap (λ (b : Bool). cond b (Some c.walk.start) None) c.if-is_bad.ensures
    ∙ sym (place_last c.args.text.now c.walk.start c.segment_end-end.result c.segment_end-end.ensures.from (omega arith) c.segment_end-end.ensures.inside) ∙ c.walk.invariant.same

pub walk-preserved : goal.walk-preserved
walk-preserved c =
    let text = c.args.text.now in
    let end = c.segment_end-end.result in
    let e = c.segment_end-end.ensures in
    let lt : end < length text = omega arith in
    record {
      within = omega arith;
      same = ap (λ (b : Bool). cond b (Some c.walk.start) (bad_place (end + 1) (segments_of (drop (end + 1) text)))) c.if-is_bad.ensures
          ∙ sym (place_more text c.walk.start end e.from lt e.inside (e.stops lt)) ∙ c.walk.invariant.same;
    }
