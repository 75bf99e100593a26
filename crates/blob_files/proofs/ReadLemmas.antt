-- A text is judged by its prefix.
use Rattle.std.proofs.Common.{◌≡◌, ℕ, ◌<◌, List, take, Option, Some, None, ◌∙◌, ap, lit<}
use Rattle.std.specs.Option.{option_map}
use Rattle.disk_model.specs.Disk.{small_limit}
use Rattle.blob_properties.specs.Readable.{readable_of}
use Rattle.blob_properties.proofs.Lengths.{readable-prefix}

enough : 65536 < small_limit
unfolding small_limit
enough = lit< tt

-- what the front of a file says, the file says
pub prefix_says : (file : Option (List ℕ)) (text : List ℕ) → Some text ≡ option_map (λ (bytes : List ℕ). take small_limit bytes) file
    → Some (readable_of text) ≡ option_map readable_of file
prefix_says None text is = absurd cc
prefix_says (Some bytes) text is =
    let same : text ≡ take small_limit bytes = cc in
    ap (λ (t : List ℕ). Some (readable_of t)) same ∙ ap (λ o. Some o) (readable-prefix bytes small_limit enough)
