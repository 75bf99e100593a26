use Rattle.std.proofs.Common.{◌≡◌, sym, ap, ◌∙◌, subst, Some}
use Rattle.nx_base.specs.Names.{name_of}
use Rattle.blob_properties.specs.Keys.{repo_key}
use Rattle.blob_properties.specs.FromPairs.{Gives}
use Rattle.blob_properties.specs.Values.{repo_in}
use Rattle.blob_properties.proofs.Meanings.{required-some}
use Rattle.blob_properties.proofs.required.repo.Goals as goal

pub returns : goal.returns
returns c =
    let read = required-some repo_key repo_in c.args.pairs.now c.as_bytes.result.now (ap Some c.as_bytes.ensures.value ∙ c.in-Some.ensures) in
    subst (λ wanted. Gives wanted c.meant.result) (sym read) (c.meant.ensures (name_of c.as_bytes.result.now) c.parse.ensures)
