use Rattle.std.proofs.Common.{◌≡◌, drop, find}
use Rattle.nx_base.specs.Texts.{same_name}
use Rattle.repo_config.proofs.build.find_store.Given as goal

abbrev pub invariant-loop-store : goal.invariant-loop-store
invariant-loop-store l = find (λ store. same_name store l.name) l.stores ≡ find (λ store. same_name store l.name) (drop l.store-index l.stores)
