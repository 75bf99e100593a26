-- Which blobs are readable where the files of one blob change.
use Rattle.std.proofs.Common.{◌≡◌, ◌⊎◌, inl, inr, None, sym, ◌∙◌, ap}
use Rattle.nx_base.specs.declared.blob_ref.BlobRef.{BlobRef}
use Rattle.disk_model.specs.Disk.{Tree, Rest}
use Rattle.blob_paths.specs.Places.{place_of}
use Rattle.blob_paths.specs.declared.ending.Ending.TheVariants.{Bytes, Properties}
use Rattle.blob_properties.specs.Props.{Props}
use Rattle.tree_content.specs.Blobs.{IsRef, Reads, SameFiles, props_name}
use Rattle.tree_content.specs.Files.{RestOfPlace}
use Rattle.tree_content.proofs.Names.{outside, same_names, same_files, same_or_other}
use Rattle.tree_content.proofs.Blobs.{blob_same, says_same, none_or_some}

pub same_to_files : (a b : BlobRef) → a ≡ b → SameFiles a b
same_to_files a b e = (ap (λ (r : BlobRef). r.store) e, ap (λ (r : BlobRef). r.id) e)

pub reads_at : (tree new : Tree) (b : BlobRef) (q : Props) → new (props_name b) ≡ tree (props_name b) → Reads tree b q → Reads new b q
reads_at tree new b q same r = record { named = r.named; text = r.text; stands = same ∙ r.stands; says = r.says; timestamp_is = r.timestamp_is }

pub of_rest : (blob : BlobRef) (tree new : Tree) → Rest (props_name blob) tree new → RestOfPlace (place_of blob) tree new
of_rest blob tree new rest n out not_bytes not_props = rest n out not_props

module _ (tree new : Tree) (blob : BlobRef) (ref : IsRef blob) (rest : RestOfPlace (place_of blob) tree new) where
  pub apart_name : (b : BlobRef) → IsRef b → (SameFiles b blob → ⊥) → new (props_name b) ≡ tree (props_name b)
  apart_name b is apart = rest (props_name b) (outside b Properties is)
      (λ at. apart (same_files b blob Properties Bytes is ref at)) (λ at. apart (same_files b blob Properties Properties is ref at))

  pub reads_kept : (b : BlobRef) (q : Props) → (SameFiles b blob → ⊥) → Reads tree b q → Reads new b q
  reads_kept b q apart r = reads_at tree new b q (apart_name b r.named apart) r

  pub reads_back : (b : BlobRef) (q : Props) → (SameFiles b blob → ⊥) → Reads new b q → Reads tree b q
  reads_back b q apart r = reads_at new tree b q (sym (apart_name b r.named apart)) r

  -- what is readable afterwards is the blob, with what it says now, or was readable before
  pub reads_new : (props : Props) → Reads new blob props → (b : BlobRef) (q : Props) → Reads new b q
      → ((b ≡ blob) × (q ≡ props)) ⊎ ((SameFiles b blob → ⊥) × Reads tree b q)
  reads_new props now b q r = elim (same_or_other b blob) [
    | inl same ↦ inl (blob_same new b blob q props r now same, says_same new b blob q props r now same)
    | inr apart ↦ inr (apart, reads_back b q apart r)
  ]

-- where the properties file of a blob is absent, nothing readable has its files
pub free_apart : (tree : Tree) (blob : BlobRef) → tree (props_name blob) ≡ None → (b : BlobRef) (q : Props) → Reads tree b q → SameFiles b blob → ⊥
free_apart tree blob free b q r same = none_or_some r.text (sym free ∙ ap tree (sym (same_names b blob Properties same)) ∙ r.stands)
