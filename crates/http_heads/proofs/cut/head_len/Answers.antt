use Rattle.std.proofs.Common.{ℕ, ◌≡◌, ◌+◌, take, subst, arith, inl, inr, length, sym, refl, ◌∙◌}
use Rattle.std.proofs.lemmas.Bool.{cases_lt, false≢true}
use Rattle.std.proofs.lemmas.List.{take_all, take-take}
use Rattle.http_heads.specs.Cut.{EndsHead}
use Rattle.http_heads.proofs.cut.head_len.Goals as goal

pub returns-then-ends_at-clause-found : goal.returns-then-ends_at-clause-found
returns-then-ends_at-clause-found c = record {
  within = omega arith;
  ends = c.if-ends_at.ensures.0 refl;
  shortest = λ m lt. c.loop-last.invariant m (omega arith);
}

pub loop-last-preserved : goal.loop-last-preserved
loop-last-preserved c m le e =
    elim (cases_lt m (c.loop-last.last + 1)) [
      | inl lt ↦ c.loop-last.invariant m (omega arith) e
      | inr ge ↦
          let same : m ≡ c.loop-last.last + 1 = omega arith in
          let here = c.if-ends_at.ensures.1 (subst (λ (n : ℕ). EndsHead (take n c.args.bytes.now)) same e) in
          absurd (false≢true here)
    ]

pub returns-clause-none : goal.returns-clause-none
returns-clause-none c m e =
    elim (cases_lt m (length c.args.bytes.now)) [
      | inl lt ↦ c.loop-last.invariant m (omega arith) e
      | inr ge ↦ c.loop-last.invariant c.loop-last.last (omega arith) (subst EndsHead (take_all m c.args.bytes.now ge ∙ sym (take_all c.loop-last.last c.args.bytes.now (omega arith))) e)
    ]

pub loop-last-init : goal.loop-last-init
loop-last-init c m le e = c.requires.none_yet m (subst EndsHead (sym (take-take m c.args.scanned c.args.bytes.now le)) e)
