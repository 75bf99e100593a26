use Rattle.std.proofs.Common.{arith, Bor, List, ℕ}
use Rattle.repo_config.specs.declared.form.Subject.TheVariants.{OfStore}
use Rattle.repo_config.specs.Lists.{may_name}
use Rattle.repo_config.proofs.Passed.{all_at}
use Rattle.repo_config.proofs.build.store_names.Goals as goal

pub store_name-requires : goal.store_name-requires
store_name-requires c =
    all_at (may_name OfStore) (λ (name : Bor (List ℕ)). name.now) c.args.names.now c.loop-name.name-index _ (omega arith) c.loop-name.invariant.1
