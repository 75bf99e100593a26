use Rattle.std.proofs.Common.{ℕ, ◌≤◌, take}
use Rattle.http_heads.specs.Cut.{EndsHead}
use Rattle.http_heads.proofs.cut.head_len.Given as goal

abbrev pub invariant-loop-last : goal.invariant-loop-last
invariant-loop-last l = (m : ℕ) → m ≤ l.last → ¬ (EndsHead (take m l.bytes))
