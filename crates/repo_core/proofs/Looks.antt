-- What was found where a blob's properties were looked for.
use Rattle.std.proofs.Common.{◌≡◌, ◌<◌, List, ℕ, length, Option, Some, None, refl, sym, ◌∙◌, ap, arith}
use Rattle.std.specs.Option.{option_map}
use Rattle.nx_base.specs.declared.blob_ref.BlobRef.{BlobRef}
use Rattle.disk_model.specs.Disk.{Tree}
use Rattle.blob_paths.specs.Places.{place_of}
use Rattle.blob_properties.specs.Props.{Props}
use Rattle.blob_properties.specs.Readable.{Readable, readable_of}
use Rattle.blob_properties.proofs.Lengths.{readable-room}
use Rattle.tree_content.specs.Blobs.{props_at, props_name}
use Rattle.repo_core.specs.Marks.{IsUnreadable}

some_same : {A : Type 0} (a b : A) → Some a ≡ Some b → a ≡ b
some_same a b e = cc

none_some : {A : Type 0} (a : A) → None ≡ Some a → ⊥
none_some a e = cc

pub found_text : (o : Option (List ℕ)) (p : Props) → Some (Some p) ≡ option_map readable_of o → (text : List ℕ) × (o ≡ Some text) × Readable text p
found_text None p e = absurd (none_some (Some p) (sym e))
found_text (Some text) p e = (text, refl, sym (some_same (Some p) (readable_of text) e))

-- a blob's properties were read and say these
pub says_at : (tree : Tree) (blob : BlobRef) (place : List ℕ) (p : Props) → place ≡ place_of blob → Some (Some p) ≡ option_map readable_of (tree (props_at place))
    → (text : List ℕ) × (tree (props_name blob) ≡ Some text) × Readable text p
says_at tree blob place p at e =
    let w = found_text (tree (props_at place)) p e in
    (w.0, ap (λ (q : List ℕ). tree (props_at q)) (sym at) ∙ w.1, w.2)

bad_text : (o : Option (List ℕ)) (text : List ℕ) (p : Props) → Some None ≡ option_map readable_of o → o ≡ Some text → Readable text p → ⊥
bad_text o text p e is says =
    none_some p (some_same None (readable_of text) (e ∙ ap (option_map readable_of) is) ∙ says)

no_text : (o : Option (List ℕ)) (text : List ℕ) → None ≡ option_map readable_of o → o ≡ Some text → ⊥
no_text o text e is = none_some (readable_of text) (e ∙ ap (option_map readable_of) is)

-- they can't be read
pub bad_at : (tree : Tree) (blob : BlobRef) (place : List ℕ) → place ≡ place_of blob → Some None ≡ option_map readable_of (tree (props_at place)) → IsUnreadable tree blob
bad_at tree blob place at e text p is says = bad_text (tree (props_at place)) text p e (ap (λ (q : List ℕ). tree (props_at q)) at ∙ is) says

-- they aren't there
pub absent_at : (tree : Tree) (blob : BlobRef) (place : List ℕ) → place ≡ place_of blob → None ≡ option_map readable_of (tree (props_at place)) → IsUnreadable tree blob
absent_at tree blob place at e text p is says = no_text (tree (props_at place)) text e (ap (λ (q : List ℕ). tree (props_at q)) at ∙ is)

-- what is readable has room for a mark
pub never_full : (tree : Tree) (blob : BlobRef) (place : List ℕ) (p : Props) → place ≡ place_of blob → Some (Some p) ≡ option_map readable_of (tree (props_at place)) → 247 < length p.others → ⊥
never_full tree blob place p at e full =
    let w = says_at tree blob place p at e in
    let room = readable-room w.0 p w.2 in
    let few = room.pairs in
    omega (arith, few, full)
