-- What the making and the marking of blobs leave of the contents of others.
use Rattle.std.proofs.Common.{◌≡◌, ◌≢◌, List, ℕ, Option, None, sym, ◌∙◌, ap}
use Rattle.nx_base.specs.declared.blob_ref.BlobRef.{BlobRef}
use Rattle.disk_model.specs.Disk.{Tree, Same, Rest}
use Rattle.blob_paths.specs.Places.{place_of}
use Rattle.blob_paths.specs.declared.ending.Ending.TheVariants.{Bytes, Properties}
use Rattle.blob_paths.proofs.Apart.{same_ending}
use Rattle.tree_content.specs.Blobs.{bytes_at, props_at, bytes_name, props_name}
use Rattle.tree_content.specs.Files.{RestOfPlace}
use Rattle.tree_content.proofs.Names.{outside, same_files, same_names}
use Rattle.repo_core.specs.declared.staging.NewBlob.{NewBlob}
use Rattle.repo_core.specs.Puts.{IsPlaced}
use Rattle.repo_core.specs.Stays.{BytesStay}
use Rattle.repo_core.proofs.Puttings.{none_is_some}

-- no properties file has the name of a bytes file
pub bytes_apart : (blob : BlobRef) (place : List ℕ) → bytes_name blob ≢ props_at place
bytes_apart blob place is = let all = same_ending (place_of blob) place Bytes Properties is in let differ = all.0 in cc

pub stay_same : (old new : Tree) → Same old new → BytesStay old new
stay_same old new same = λ blob ref stood. same (bytes_name blob) (outside blob Bytes ref)

-- after the mark of a blob
pub stay_marked : (old mid new : Tree) (place : List ℕ) → BytesStay old mid → Rest (props_at place) mid new → BytesStay old new
stay_marked old mid new place before rest = λ blob ref stood. rest (bytes_name blob) (outside blob Bytes ref) (bytes_apart blob place) ∙ before blob ref stood

-- after the files of a new blob are made
pub stay_made : (old mid new : Tree) (made : NewBlob) → IsPlaced made → old (props_name made.asset.blob) ≡ None → Same old mid → RestOfPlace made.files.place mid new → BytesStay old new
stay_made old mid new made placed free same rest = λ blob ref stood.
    let its : BlobRef = made.asset.blob in
    let apart : bytes_name blob ≢ bytes_at made.files.place =
    λ e. let files = same_files blob its Bytes Bytes ref placed.ref (e ∙ ap bytes_at placed.place_is) in
    none_is_some (old (props_name blob)) (ap old (same_names blob its Properties files) ∙ free) stood in
    rest (bytes_name blob) (outside blob Bytes ref) apart (bytes_apart blob made.files.place) ∙ same (bytes_name blob) (outside blob Bytes ref)

-- the bytes stand at the name of the blob's file
pub at_blob : (tree : Tree) (bytes : Option (List ℕ)) (made : NewBlob) → IsPlaced made → tree (bytes_at made.files.place) ≡ bytes → tree (bytes_name made.asset.blob) ≡ bytes
at_blob tree bytes made placed is = ap tree (sym (ap bytes_at placed.place_is)) ∙ is
