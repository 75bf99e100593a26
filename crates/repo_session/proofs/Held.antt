-- Contents of rows that stay held, and new ones that join.
use Rattle.std.proofs.Common.{◌≡◌, ◌⊎◌, inl, inr, ℕ, Bool, true, false, List, [], ◌∷◌, ◌++◌, find, is_some, IsTrue, IsSome, if◌then◌else◌, Option, Some, None, refl, sym, ◌∙◌, ap, subst}
use Rattle.std.specs.Option.{option_map, option_or}
use Rattle.std.specs.FinMap as map
use Rattle.std.proofs.lemmas.List.Folds.{find-append}
use Rattle.nx_base.specs.Given.{given}
use Rattle.nx_base.specs.declared.key.Key.{Key}
use Rattle.nx_base.specs.declared.asset.Asset.{Asset}
use Rattle.nx_base.specs.declared.blob_ref.BlobRef.{BlobRef}
use Rattle.disk_model.specs.Disk.{Tree}
use Rattle.tree_content.specs.Blobs.{bytes_name, props_name, IsRef}
use Rattle.repo_model.specs.Config.{Config}
use Rattle.repo_model.specs.State.{State}
use Rattle.repo_model.specs.Removal.{same_blob}
use Rattle.http_front.specs.Contents.{Contents, bytes_of}
use Rattle.http_front.specs.Served.{Has}
use Rattle.repo_core.specs.Rows.{content_in}
use Rattle.repo_core.specs.Agree.{FilesAgree}
use Rattle.repo_core.specs.Stays.{BytesStay}
use Rattle.repo_core.proofs.Maps.{same_ref, ref_test}
use Rattle.repo_session.specs.Standing.{IsHeld, AreHeld}

-- of two lists the first one's find comes first

first_found : {A : Type 0} (a b : Option A) → IsTrue (is_some a) → option_or a b ≡ a
first_found None b h = cc
first_found (Some x) b h = refl

then_found : {A : Type 0} (a b : Option A) → (IsTrue (is_some a) → ⊥) → option_or a b ≡ b
then_found None b h = refl
then_found (Some x) b h = absurd (h refl)

abbrev at_blob : BlobRef → BlobRef × List ℕ → Bool
at_blob blob c = same_blob c.0 blob

still_found : (contents more : Contents) (blob : BlobRef) → Has contents blob → find (at_blob blob) (contents ++ more) ≡ find (at_blob blob) contents
still_found contents more blob has =
    find-append (at_blob blob) contents more ∙ first_found (find (at_blob blob) contents) (find (at_blob blob) more) has

-- what is there stays there, and stays what it is
pub still_has : (contents more : Contents) (blob : BlobRef) → Has contents blob → Has (contents ++ more) blob
still_has contents more blob has = ap (λ (o : Option (BlobRef × List ℕ)). is_some o) (still_found contents more blob has) ∙ has

pub same_bytes : (contents more : Contents) (blob : BlobRef) → Has contents blob → bytes_of (contents ++ more) blob ≡ bytes_of contents blob
same_bytes contents more blob has = ap (λ (o : Option (BlobRef × List ℕ)). given o [] (λ c. c.1)) (still_found contents more blob has)

-- a new blob, with its content behind the others

abbrev pub joined : Contents → BlobRef → List ℕ → Contents
joined contents blob content = contents ++ (blob, content) ∷ []

picked : {A : Type 0} (x : A) (b : Bool) → b ≡ true → (if b then Some x else None) ≡ Some x
picked x true e = refl
picked x false e = cc

found_alone : (blob : BlobRef) (content : List ℕ) → find (at_blob blob) ((blob, content) ∷ []) ≡ Some (blob, content)
found_alone blob content = picked {A = BlobRef × List ℕ} (blob, content) (same_blob blob blob) (ref_test blob blob refl)

new_found : (contents : Contents) (blob : BlobRef) (content : List ℕ) → (Has contents blob → ⊥) → find (at_blob blob) (joined contents blob content) ≡ Some (blob, content)
new_found contents blob content none =
    find-append (at_blob blob) contents ((blob, content) ∷ [])
    ∙ then_found (find (at_blob blob) contents) (find (at_blob blob) ((blob, content) ∷ [])) none
    ∙ found_alone blob content

-- is held, where its file has the content
pub new_held : (tree : Tree) (contents : Contents) (blob : BlobRef) (content : List ℕ) → (Has contents blob → ⊥) → tree (bytes_name blob) ≡ Some content
    → IsHeld tree (joined contents blob content) blob
new_held tree contents blob content none file =
    let found = new_found contents blob content none in
    record {
      there = ap (λ (o : Option (BlobRef × List ℕ)). is_some o) found;
      file = file ∙ ap (λ (l : List ℕ). Some l) (sym (ap (λ (o : Option (BlobRef × List ℕ)). given o [] (λ c. c.1)) found));
    }

found_by : {A : Type 0} (a b : Option A) → IsTrue (is_some (option_or a b)) → IsTrue (is_some a) ⊎ IsTrue (is_some b)
found_by None b h = inr h
found_by (Some x) b h = inl refl

only_true : {A : Type 0} (x : A) (b : Bool) → IsTrue (is_some (if b then Some x else None)) → b ≡ true
only_true x true has = refl
only_true x false has = cc

alone_is : (blob other : BlobRef) (content : List ℕ) → IsTrue (is_some (find (at_blob other) ((blob, content) ∷ []))) → same_blob blob other ≡ true
alone_is blob other content has = only_true {A = BlobRef × List ℕ} (blob, content) (same_blob blob other) has

-- nothing else joins
pub has_before : (contents : Contents) (blob other : BlobRef) (content : List ℕ) → Has (joined contents blob content) other → Has contents other ⊎ (blob ≡ other)
has_before contents blob other content has =
    elim (found_by (find (at_blob other) contents) (find (at_blob other) ((blob, content) ∷ []))
    (sym (ap (λ (o : Option (BlobRef × List ℕ)). is_some o) (find-append (at_blob other) contents ((blob, content) ∷ []))) ∙ has)) [
      | inl was ↦ inl was
      | inr new ↦ inr (same_ref blob other (alone_is blob other content new))
    ]

-- the row's blob stands in the tree
pub row_reads : (config : Config) (tree : Tree) (s : State) (key : Key) (asset : Asset) → FilesAgree config tree s → map.get s.rows key ≡ Some asset
    → IsRef asset.blob × IsSome (tree (props_name asset.blob))
row_reads config tree s key asset a row =
    let w = a.names.named key (content_in asset) (ap (option_map content_in) row) in
    let reads = w.1.intact.readable in
    (reads.named, ap (λ (o : Option (List ℕ)). is_some o) reads.stands)

-- so its content is held where the contents of blobs stay, and contents join at the end
pub row_held : (config : Config) (tree new : Tree) (s : State) (contents more : Contents) (key : Key) (asset : Asset) (blob : BlobRef)
    → FilesAgree config tree s → BytesStay tree new → AreHeld tree s.rows contents → map.get s.rows key ≡ Some asset → asset.blob ≡ blob → IsHeld new (contents ++ more) blob
row_held config tree new s contents more key asset blob a stays held row is =
    let at = row_reads config tree s key asset a row in
    let was = held key asset row in
    subst (λ (b : BlobRef). IsHeld new (contents ++ more) b) is (record {
      there = still_has contents more asset.blob was.there;
      file = stays asset.blob at.0 at.1 ∙ was.file ∙ ap (λ (l : List ℕ). Some l) (sym (same_bytes contents more asset.blob was.there));
    })
