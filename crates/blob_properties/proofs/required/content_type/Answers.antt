use Rattle.std.proofs.Common.{◌≡◌, sym, ap, ◌∙◌, subst, Some}
use Rattle.nx_base.specs.ContentTypes.{content_type_of}
use Rattle.blob_properties.specs.Keys.{type_key}
use Rattle.blob_properties.specs.FromPairs.{Gives}
use Rattle.blob_properties.specs.Values.{type_in}
use Rattle.blob_properties.proofs.Meanings.{required-some}
use Rattle.blob_properties.proofs.required.content_type.Goals as goal

pub returns : goal.returns
returns c =
    let read = required-some type_key type_in c.args.pairs.now c.as_bytes.result.now (ap Some c.as_bytes.ensures.value ∙ c.in-Some.ensures) in
    subst (λ wanted. Gives wanted c.meant.result) (sym read) (c.meant.ensures (content_type_of c.as_bytes.result.now) c.parse.ensures)
