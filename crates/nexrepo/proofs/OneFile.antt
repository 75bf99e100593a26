-- A disk with nothing on it but the configuration's file.
use Rattle.std.proofs.Common.{◌≡◌, ◌≢◌, ℕ, Bool, true, false, ◌||◌, ◌==◌, List, [], ◌∷◌, ◌++◌, Some, None, Result, Ok, Err, IfOk, Vec, refl, sym, ap, ◌∙◌, bytes_eq}
use Rattle.std.specs.List.{list_any}
use Rattle.std.specs.declared.alloc.Global.{Global}
use Rattle.std.proofs.lemmas.Slice.Eq.{bytes_eq-Decides}
use Rattle.nx_base.specs.declared.blob_ref.BlobRef.{BlobRef}
use Rattle.nx_base.specs.declared.name_err.NoMemory.{NoMemory}
use Rattle.disk_model.specs.declared.memory.disk.MemDisk.{MemDisk}
use Rattle.disk_model.specs.Disk.{Tree}
use Rattle.disk_model.specs.Memory.{tree_in}
use Rattle.disk_model.specs.Past.{Files, lookup}
use Rattle.blob_paths.specs.declared.ending.Ending.TheVariants.{Properties}
use Rattle.tree_content.specs.Blobs.{IsRef, props_name}
use Rattle.tree_content.proofs.Names.{in_content}
use Rattle.repo_core.specs.Fresh.{HasNoBlob}
use Rattle.nexrepo.specs.Statuses.{config_file}

slash_inside : (prefix rest : List ℕ) → list_any (λ b. b == 47) (prefix ++ 47 ∷ rest) ≡ true
slash_inside [] rest = refl
slash_inside (b ∷ prefix) rest = elim (b == 47) as (λ t. (t || list_any (λ b. b == 47) (prefix ++ 47 ∷ rest)) ≡ true) [ true ↦ refl | false ↦ slash_inside prefix rest ]

-- the configuration's file is no blob's
other_name : (blob : BlobRef) → IsRef blob → props_name blob ≢ config_file
other_name blob ref is =
    let named = in_content blob Properties ref in
    let same : config_file ≡ named.0 ++ _ = sym is ∙ named.3 in
    let slash : list_any (λ b. b == 47) config_file ≡ true = ap (λ (n : List ℕ). list_any (λ b. b == 47) n) same ∙ slash_inside named.0 _ in
    cc

no_blob : (tree : Tree) (text : Vec ℕ Global) → tree ≡ (λ n. lookup n ((config_file, text) ∷ [])) → HasNoBlob tree
no_blob tree text is blob ref = ap (λ (t : Tree). t (props_name blob)) is ∙ by_test (bytes_eq (props_name blob) config_file) refl
  where
    by_test : (b : Bool) → bytes_eq (props_name blob) config_file ≡ b → lookup (props_name blob) ((config_file, text) ∷ []) ≡ None
    by_test true test = absurd (other_name blob ref ((bytes_eq-Decides (props_name blob) config_file).0 test))
    by_test false test = rw test refl

module _ (result : Result MemDisk NoMemory) (files : Files) (text : Vec ℕ Global) (made : IfOk result (λ disk. tree_in disk ≡ (λ n. lookup n files))) (one : files ≡ (config_file, text) ∷ []) where
  -- it holds the text, and no blob
  pub holds_text : (config : List ℕ) → text.items ≡ config → IfOk result (λ disk. tree_in disk config_file ≡ Some config)
  holds_text config is = by_result result made
    where
      by_result : (r : Result MemDisk NoMemory) → IfOk r (λ disk. tree_in disk ≡ (λ n. lookup n files)) → IfOk r (λ disk. tree_in disk config_file ≡ Some config)
      by_result (Ok disk) tree = ap (λ (t : Tree). t config_file) tree ∙ ap (λ (fs : Files). lookup config_file fs) one ∙ ap (λ (bytes : List ℕ). Some bytes) is
      by_result (Err why) tree = tt

  pub holds_no_blob : IfOk result (λ disk. HasNoBlob (tree_in disk))
  holds_no_blob = by_result result made
    where
      by_result : (r : Result MemDisk NoMemory) → IfOk r (λ disk. tree_in disk ≡ (λ n. lookup n files)) → IfOk r (λ disk. HasNoBlob (tree_in disk))
      by_result (Ok disk) tree = no_blob (tree_in disk) text (tree ∙ (λ i n. lookup n (one i)))
      by_result (Err why) tree = tt
