use Rattle.std.proofs.Common.{◌≡◌, not, filter, drop, slice_get}
use Rattle.std.specs.Option.{option_map}
use Rattle.repo_model.proofs.plain.stores.nth_writable.Given as goal

-- the one at `left` of what is left is the one at n of all
abbrev pub invariant-loop-m : goal.invariant-loop-m
invariant-loop-m l =
    option_map (λ m. m.store) (slice_get (filter (λ m. not m.read_only) (drop l.m-index l.members)) l.left) ≡ option_map (λ m. m.store) (slice_get (filter (λ m. not m.read_only) l.members) l.n)
