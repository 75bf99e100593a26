use Rattle.std.proofs.Common.{◌≡◌, List, ℕ, Option, Some, Vec, Global, sym, ◌∙◌, ap}
use Rattle.std.specs.Option.{option_map}
use Rattle.blob_properties.specs.Props.{Props}
use Rattle.blob_properties.specs.Readable.{readable_of, read_as}
use Rattle.blob_files.proofs.ReadLemmas.{prefix_says}
use Rattle.blob_files.proofs.reading.read_props.Goals as goal

pub returns-in-Ok-clause-props : goal.returns-in-Ok-clause-props
returns-in-Ok-clause-props g c told =
    let tree = g.D.Disk.tree c.args.disk.now in
    ap (λ (o : Option Props). Some o) (c.in-Ok.ensures ∙ ap readable_of c.deref.ensures.value)
    ∙ prefix_says (tree c.properties.result.now) c.in-Some.text.items
    (sym (ap (λ (o : Option (Vec ℕ Global)). option_map (λ v. v.items) o) c.in-Some.is) ∙ c.in_ok-text.ensures.bytes told)
    ∙ ap (λ (n : List ℕ). option_map readable_of (tree n)) c.properties.ensures
