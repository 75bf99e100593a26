use Rattle.std.proofs.Common.{ℕ, eqb, sym, arith}
use Rattle.std.proofs.lemmas.Bool.{eq-eqb}
use Rattle.std.proofs.lemmas.List.Sums.{position_or_len_is}
use Rattle.http_heads.proofs.words.place_of.Goals as goal

pub returns-then-b-byte-clause-place : goal.returns-then-b-byte-clause-place
returns-then-b-byte-clause-place c =
    sym (position_or_len_is (λ (b : ℕ). eqb b c.args.byte) c.args.text.now c.loop-at.at 0 (omega arith) c.loop-at.invariant (λ lt. eq-eqb _ _ c.if-b-byte.true))

pub returns-clause-place : goal.returns-clause-place
returns-clause-place c =
    sym (position_or_len_is (λ (b : ℕ). eqb b c.args.byte) c.args.text.now _ 0 (omega arith) (λ k lt. c.loop-at.invariant k (omega arith)) (λ lt. absurd (omega arith)))
