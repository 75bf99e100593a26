use Rattle.blob_paths.proofs.Parts.{split_parts}
use Rattle.blob_paths.proofs.place.cut.Goals as goal

pub returns-clause-parts : goal.returns-clause-parts
returns-clause-parts c =
    split_parts c.args.name.now c.split_at.result.0.now c.split_at.result.1.now c.split_at-2.result.0.now c.split_at-2.result.1.now c.split_at-3.result.0.now c.split_at-3.result.1.now
    c.split_at.ensures.by_index.0 c.split_at-2.ensures.by_index.0 c.split_at-3.ensures.by_index.0 c.split_at-2.ensures.front_len c.split_at-3.ensures.front_len
