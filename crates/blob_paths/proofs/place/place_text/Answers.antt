use Rattle.std.proofs.Common.{◌++◌, ◌∙◌, ap₂}
use Rattle.blob_paths.proofs.Parts.{joined_place, on_ok}
use Rattle.blob_paths.proofs.place.place_text.Goals as goal

pub returns-clause-text : goal.returns-clause-text
returns-clause-text c =
    on_ok c.joined-2.result c.joined-2.ensures (λ text e.
    joined_place c.args.store.now c.args.id.now c.in_ok-prefix.prefix.items c.folders.result c.text-id.result text.items
    (c.in_ok-prefix.ensures ∙ ap₂ ◌++◌ c.as_bytes.ensures.text c.as_slice.ensures) c.folders.ensures c.text-id.ensures.text
    (e ∙ ap₂ ◌++◌ c.as_slice-2.ensures.value c.as_slice-3.ensures))
