use Rattle.std.proofs.Common.{ℕ, List, ◌++◌, take, drop, sym, ap, subst, ◌∙◌, arith}
use Rattle.std.proofs.Math.Seq.{take-add}
use Rattle.std.proofs.lemmas.List.{take-append-drop, take_rest, length-drop}
use Rattle.http_chunks.specs.Found.{HasReading, HasTaken, Takes}
use Rattle.http_chunks.proofs.found.some_reading.Goals as goal

pub loop-n-preserved : goal.loop-n-preserved
loop-n-preserved c =
    let stream = c.args.stream.now in
    let at = c.loop-n.at in
    let n = c.in-Some.n in
    let takes : Takes c.loop-n.chunks c.take_next.new.chunks (drop at stream) n =
    subst (λ (t : List ℕ). Takes c.loop-n.chunks c.take_next.new.chunks t n) (take_rest stream at) c.in-Some.ensures.some in
    record {
      within = omega (arith, takes.within, length-drop at stream);
      taken = subst (HasTaken c.take_next.new.chunks) (sym (take-add at n stream)) (takes.goes_on (take at stream) c.loop-n.invariant.taken);
    }

pub returns : goal.returns
returns c =
    let at = c.loop-n.at in
    let stream = c.args.stream.now in
    subst HasReading (ap (λ (t : List ℕ). take at stream ++ t) (take_rest stream at) ∙ take-append-drop at stream) (c.in_default.ensures.none (take at c.args.stream.now) c.loop-n.invariant.taken)
