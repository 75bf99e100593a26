use Rattle.nx_base.specs.Cleanup.{is_hit, last_used}
use Rattle.nx_base.proofs.Criteria.{each-holds}
use Rattle.nx_base.proofs.laws.each_criterion_counts.Goals as goal

pub returns : goal.returns
returns c = λ criteria key asset now.
    each-holds criteria.age criteria.usage criteria.path asset.blob.timestamp (last_used asset) now (λ pattern. is_hit pattern key.path)
