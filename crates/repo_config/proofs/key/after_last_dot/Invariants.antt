use Rattle.std.proofs.Common.{◌≡◌, ◌+◌, ◌≤◌, not, length, take}
use Rattle.std.specs.List.{suffix_len}
use Rattle.repo_config.specs.Keys.{is_dot}
use Rattle.repo_config.proofs.key.after_last_dot.Given as goal

abbrev pub invariant-loop-at : goal.invariant-loop-at
invariant-loop-at l = (l.at + suffix_len (λ b. not (is_dot b)) l.text ≡ length l.text + suffix_len (λ b. not (is_dot b)) (take l.at l.text)) × (l.at ≤ length l.text)

abbrev pub decreases-loop-at : goal.decreases-loop-at
decreases-loop-at l = l.at
