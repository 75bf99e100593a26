use Rattle.std.proofs.Common.{◌≡◌, not, filter, drop}
use Rattle.std.specs.List.{list_any}
use Rattle.nx_base.specs.Order.{same_name}
use Rattle.repo_model.proofs.plain.stores.has_writable.Given as goal

-- what is left has one as all had
abbrev pub invariant-loop-m : goal.invariant-loop-m
invariant-loop-m l =
    list_any (λ m. same_name m.store l.store) (filter (λ m. not m.read_only) (drop l.m-index l.members)) ≡ list_any (λ m. same_name m.store l.store) (filter (λ m. not m.read_only) l.members)
