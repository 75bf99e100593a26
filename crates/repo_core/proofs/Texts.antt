-- What the properties say of a blob that was marked, and of a new one.
use Rattle.std.proofs.Common.{◌≡◌, ℕ, List, Option, Some, None, IsSome, is_some, Result, Ok, Err, IfOk, sym, ◌∙◌, ap, subst}
use Rattle.nx_base.specs.declared.asset.Asset.{Asset}
use Rattle.nx_base.specs.declared.blob_ref.BlobRef.{BlobRef}
use Rattle.disk_model.specs.Disk.{Tree, Rest}
use Rattle.blob_paths.specs.declared.ending.Ending.TheVariants.{Properties}
use Rattle.blob_properties.specs.Props.{Props}
use Rattle.blob_properties.specs.Readable.{Readable}
use Rattle.tree_content.specs.Blobs.{props_at, props_name}
use Rattle.tree_content.proofs.Blobs.{some_is}
use Rattle.tree_content.proofs.Names.{outside}
use Rattle.repo_core.specs.declared.marking.Mark.{Mark}
use Rattle.repo_core.specs.declared.denial.Denial.{Denial}
use Rattle.repo_core.specs.declared.staging.NewBlob.{NewBlob}
use Rattle.repo_core.specs.declared.staging.Staged.{Staged}
use Rattle.repo_core.specs.Marks.{IsMarkOf, HasMark, HasOld, HasProps}
use Rattle.repo_core.specs.Puts.{IsPlaced, StagesOld}

-- the mark that was staged was placed
pub has_mark : {S : Type 0} (content : S → List ℕ) (tree new : Tree) (blob : BlobRef) (reason : List ℕ) (at : ℕ) (mark : Mark S) → IsMarkOf content tree blob reason at mark
    → new (props_at mark.files.place) ≡ Some (content mark.file) → HasMark tree new blob reason at
has_mark content tree new blob reason at mark staged named = record {
  text = staged.text;
  props = staged.props;
  was = staged.was;
  read = staged.read;
  is = ap new (sym (ap props_at staged.place_is)) ∙ named ∙ ap (λ (t : List ℕ). Some t) staged.content_is;
}

-- of the blob that a row names
pub row_marked : (tree new : Tree) (reason : List ℕ) (at now : ℕ) (a b : Asset) (row : Option Asset) → row ≡ Some a → row ≡ Some b → at ≡ now → HasMark tree new a.blob reason at → HasMark tree new b.blob reason now
row_marked tree new reason at now a b row is_a is_b same marked =
    subst (λ (n : ℕ). HasMark tree new b.blob reason n) same (subst (λ (x : Asset). HasMark tree new x.blob reason at) (some_is a b (sym is_a ∙ is_b)) marked)

-- the text of a new blob was shown
pub has_props : (tree : Tree) (made : NewBlob) (props : Props) → IsPlaced made → Readable made.text.items props → tree (props_at made.files.place) ≡ Some made.text.items → HasProps tree made.asset.blob props
has_props tree made props placed says named = (made.text.items, ap tree (sym (ap props_at placed.place_is)) ∙ named, says)

-- the old file is there of each mark that is staged
old_is_there : {S : Type 0} (content : S → List ℕ) (tree : Tree) (at : ℕ) (old : Option Asset) (mark : Option (Mark S)) → StagesOld content tree at old mark → HasOld tree mark
old_is_there content tree at None mark is = subst (λ (m : Option (Mark _)). HasOld tree m) (sym is) tt
old_is_there content tree at (Some old) None is = tt
old_is_there content tree at (Some old) (Some mark) is = ap (λ (o : Option (List ℕ)). is_some o) (ap tree (ap props_at is.place_is) ∙ is.was)

pub olds_are_there : {S : Type 0} (content : S → List ℕ) (tree : Tree) (at : ℕ) (old : Option Asset) (done : Result (Staged S) Denial) → IfOk done (λ staged. StagesOld content tree at old staged.mark)
    → IfOk done (λ staged. HasOld tree staged.mark)
olds_are_there content tree at old (Ok staged) is = old_is_there content tree at old staged.mark is
olds_are_there content tree at old (Err why) is = tt

some_not_none : {A : Type 0} (o : Option A) → IsSome o → o ≡ None → ⊥
some_not_none None some e = cc
some_not_none (Some a) some e = cc

-- it stays where a mark was placed beside it: under a name that had a value while the new blob's was free
pub still_has_props : {S : Type 0} (tree mid new : Tree) (made : NewBlob) (props : Props) (mark : Mark S) → IsPlaced made → tree (props_name made.asset.blob) ≡ None → HasOld tree (Some mark)
    → Rest (props_at mark.files.place) mid new → HasProps mid made.asset.blob props → HasProps new made.asset.blob props
still_has_props tree mid new made props mark placed free there rest has =
    let name = props_at mark.files.place in
    (has.0, rest (props_name made.asset.blob) (outside made.asset.blob Properties placed.ref) (λ e. some_not_none (tree name) there (ap tree (sym e) ∙ free)) ∙ has.1, has.2)
