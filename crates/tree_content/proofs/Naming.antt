-- Contents and live blobs that name each other.
use Rattle.std.proofs.Common.{◌≡◌, ◌≢◌, ◌⊎◌, inl, inr, Bool, true, false, cond, Option, Some, None, refl, sym, ◌∙◌, ap, subst}
use Rattle.std.specs.Ordering.{is_eq}
use Rattle.nx_base.specs.Order.{key_cmp}
use Rattle.nx_base.specs.declared.key.Key.{Key}
use Rattle.nx_base.specs.declared.blob_ref.BlobRef.{BlobRef}
use Rattle.disk_model.specs.Disk.{Tree}
use Rattle.blob_paths.specs.Places.{place_of}
use Rattle.blob_properties.specs.Props.{Props}
use Rattle.tree_content.specs.Blobs.{SameFiles, IsRef, Homes, Live}
use Rattle.tree_content.specs.Contents.{Content, content_of, ContentOf, Contents, HasContents, with_content, OnlyLive, NoneLive, NamesEachLive}
use Rattle.tree_content.specs.Files.{RestOfPlace}
use Rattle.tree_content.proofs.Blobs.{some_is, none_or_some, key_is, other_key, says_same}
use Rattle.tree_content.proofs.Changes.{there, back, new_or_old, still}

-- what contents are after a change at one key: there, and elsewhere
module _ (key : Key) (changed : Option Content) (contents : Contents) where
  at_or_beside : (k : Key) → ((k ≡ key) × (with_content key changed contents k ≡ changed)) ⊎ ((k ≢ key) × (with_content key changed contents k ≡ contents k))
  at_or_beside k = by_test (is_eq (key_cmp k key)) refl
    where
      by_test : (b : Bool) → is_eq (key_cmp k key) ≡ b → ((k ≡ key) × (with_content key changed contents k ≡ changed)) ⊎ ((k ≢ key) × (with_content key changed contents k ≡ contents k))
      by_test true is = inl (key_is k key is, ap (λ (c : Bool). cond c changed (contents k)) is)
      by_test false is = inr (other_key k key is, ap (λ (c : Bool). cond c changed (contents k)) is)

module _ (homes : Homes) (contents : Contents) (tree : Tree) (names : NamesEachLive homes contents tree) where
  pub named_contents : HasContents homes contents tree
  named_contents key = of_key (contents key) refl
    where
      of_key : (content : Option Content) → contents key ≡ content → ContentOf homes tree key content
      of_key None is = λ blob props live. let w = names.only key blob props live in none_or_some w.0 (sym is ∙ w.1)
      of_key (Some content) is = (
        names.named key content is,
        λ blob props live. let w = names.only key blob props live in
            inl (sym w.2 ∙ ap (λ (c : Content). c.blob) (some_is w.0 content (sym w.1 ∙ is))),
      )

  -- a live blob of a key is that of its content
  pub its_blob : (key : Key) (content : Content) (blob : BlobRef) (props : Props) → contents key ≡ Some content → Live homes tree key blob props → blob ≡ content.blob
  its_blob key content blob props is live =
      let w = names.only key blob props live in
      sym w.2 ∙ ap (λ (c : Content). c.blob) (some_is w.0 content (sym w.1 ∙ is))

  pub its_files : (key : Key) (content : Content) → contents key ≡ Some content → OnlyLive homes tree key content.blob
  its_files key content is other props live =
      let same = its_blob key content other props is live in
      (ap (λ (b : BlobRef). b.store) same, ap (λ (b : BlobRef). b.id) same)

  -- a live blob of another key has other files
  pub other_files : (key k : Key) (content : Content) (blob : BlobRef) (props : Props) → contents key ≡ Some content → k ≢ key → Live homes tree k blob props → SameFiles blob content.blob → ⊥
  other_files key k content blob props is differ live same =
      let w = names.named key content is in
      let said = says_same tree blob content.blob props w.0 live.intact.readable w.1.intact.readable same in
      differ (sym live.of_key ∙ ap (λ (p : Props). p.key) said ∙ w.1.of_key)

  pub ref_of : (key : Key) (content : Content) → contents key ≡ Some content → IsRef content.blob
  ref_of key content is = (names.named key content is).1.intact.readable.named

module _ (homes : Homes) (contents : Contents) (old new : Tree) (key : Key) where
  -- the blob of a key is lost
  pub lost_names : (content : Content) → NamesEachLive homes contents old → contents key ≡ Some content → RestOfPlace (place_of content.blob) old new → NoneLive homes new content.blob
      → NamesEachLive homes (with_content key None contents) new
  lost_names content names has rest after = record { named = named; only = only }
    where
      ref : IsRef content.blob
      ref = ref_of homes contents old names key content has

      named : (k : Key) (c : Content) → with_content key None contents k ≡ Some c → (props : Props) × Live homes new k c.blob props × (c ≡ content_of c.blob props)
      named k c is = elim (at_or_beside key None contents k) [
        | inl here ↦ absurd (none_or_some c (sym here.1 ∙ is))
        | inr beside ↦
            let w = names.named k c (sym beside.1 ∙ is) in
            let apart = other_files homes contents old names key k content c.blob w.0 has beside.0 w.1 in
            (w.0, there homes content.blob ref old new rest k c.blob w.0 apart w.1, w.2)
      ]

      only : (k : Key) (b : BlobRef) (p : Props) → Live homes new k b p → (c : Content) × (with_content key None contents k ≡ Some c) × (c.blob ≡ b)
      only k b p live =
          let differ = after k b p live in
          let before = back homes content.blob ref old new rest k b p differ live in
          elim (at_or_beside key None contents k) [
            | inl here ↦ absurd (differ (its_files homes contents old names key content has b p (subst (λ (x : Key). Live homes old x b p) here.0 before)))
            | inr beside ↦ let w = names.only k b p before in (w.0, beside.1 ∙ w.1, w.2)
          ]

  -- the first blob of a key
  pub first_names : (blob : BlobRef) (props : Props) → NamesEachLive homes contents old → contents key ≡ None → RestOfPlace (place_of blob) old new → NoneLive homes old blob → Live homes new key blob props
      → NamesEachLive homes (with_content key (Some (content_of blob props)) contents) new
  first_names blob props names none rest was live = record { named = named; only = only }
    where
      ref : IsRef blob
      ref = live.intact.readable.named

      named : (k : Key) (c : Content) → with_content key (Some (content_of blob props)) contents k ≡ Some c → (p : Props) × Live homes new k c.blob p × (c ≡ content_of c.blob p)
      named k c is = elim (at_or_beside key (Some (content_of blob props)) contents k) [
        | inl here ↦
            let value : content_of blob props ≡ c = some_is (content_of blob props) c (sym here.1 ∙ is) in
            subst (λ (x : Content). (p : Props) × Live homes new k x.blob p × (x ≡ content_of x.blob p)) value
            (props, subst (λ (x : Key). Live homes new x blob props) (sym here.0) live, refl)
        | inr beside ↦
            let w = names.named k c (sym beside.1 ∙ is) in
            (w.0, still homes blob ref old new rest props was live.intact.readable k c.blob w.0 w.1, w.2)
      ]

      only : (k : Key) (b : BlobRef) (p : Props) → Live homes new k b p → (c : Content) × (with_content key (Some (content_of blob props)) contents k ≡ Some c) × (c.blob ≡ b)
      only k b p here_now = elim (at_or_beside key (Some (content_of blob props)) contents k) [
        | inl here ↦ elim (new_or_old homes blob ref old new rest props was live.intact.readable k b p here_now) [
          | inl is ↦ (content_of blob props, here.1, sym is.0)
          | inr before ↦ let w = names.only key b p (subst (λ (x : Key). Live homes old x b p) here.0 before) in absurd (none_or_some w.0 (sym none ∙ w.1))
        ]
        | inr beside ↦ elim (new_or_old homes blob ref old new rest props was live.intact.readable k b p here_now) [
          | inl is ↦ absurd (beside.0 (sym here_now.of_key ∙ ap (λ (x : Props). x.key) is.1 ∙ live.of_key))
          | inr before ↦ let w = names.only k b p before in (w.0, beside.1 ∙ w.1, w.2)
        ]
      ]

-- a new blob of a key, and then the one that it had is lost
pub replaced_names : (homes : Homes) (contents : Contents) (blob : BlobRef) (old mid new : Tree) (key : Key) (content : Content) (props : Props) → NamesEachLive homes contents old → contents key ≡ Some content
    → RestOfPlace (place_of blob) old mid → NoneLive homes old blob → Live homes mid key blob props
    → RestOfPlace (place_of content.blob) mid new → NoneLive homes new content.blob
    → NamesEachLive homes (with_content key (Some (content_of blob props)) contents) new
replaced_names homes contents blob old mid new key content props names has first_rest was live second_rest after = record { named = named; only = only }
  where
    ref : IsRef blob
    ref = live.intact.readable.named

    had : IsRef content.blob
    had = ref_of homes contents old names key content has

    -- the new blob isn't the one that is lost
    new_apart : SameFiles blob content.blob → ⊥
    new_apart same = let w = names.named key content has in was key content.blob w.0 w.1 (sym same.0, sym same.1)

    stays : Live homes new key blob props
    stays = there homes content.blob had mid new second_rest key blob props new_apart live

    named : (k : Key) (c : Content) → with_content key (Some (content_of blob props)) contents k ≡ Some c → (p : Props) × Live homes new k c.blob p × (c ≡ content_of c.blob p)
    named k c is = elim (at_or_beside key (Some (content_of blob props)) contents k) [
      | inl here ↦
          let value : content_of blob props ≡ c = some_is (content_of blob props) c (sym here.1 ∙ is) in
          subst (λ (x : Content). (p : Props) × Live homes new k x.blob p × (x ≡ content_of x.blob p)) value
          (props, subst (λ (x : Key). Live homes new x blob props) (sym here.0) stays, refl)
      | inr beside ↦
          let w = names.named k c (sym beside.1 ∙ is) in
          let apart = other_files homes contents old names key k content c.blob w.0 has beside.0 w.1 in
          (w.0, there homes content.blob had mid new second_rest k c.blob w.0 apart (still homes blob ref old mid first_rest props was live.intact.readable k c.blob w.0 w.1), w.2)
    ]

    only : (k : Key) (b : BlobRef) (p : Props) → Live homes new k b p → (c : Content) × (with_content key (Some (content_of blob props)) contents k ≡ Some c) × (c.blob ≡ b)
    only k b p now =
        let differ = after k b p now in
        let between = back homes content.blob had mid new second_rest k b p differ now in
        elim (at_or_beside key (Some (content_of blob props)) contents k) [
          | inl here ↦ elim (new_or_old homes blob ref old mid first_rest props was live.intact.readable k b p between) [
            | inl is ↦ (content_of blob props, here.1, sym is.0)
            | inr before ↦ absurd (differ (its_files homes contents old names key content has b p (subst (λ (x : Key). Live homes old x b p) here.0 before)))
          ]
          | inr beside ↦ elim (new_or_old homes blob ref old mid first_rest props was live.intact.readable k b p between) [
            | inl is ↦ absurd (beside.0 (sym between.of_key ∙ ap (λ (x : Props). x.key) is.1 ∙ live.of_key))
            | inr before ↦ let w = names.only k b p before in (w.0, beside.1 ∙ w.1, w.2)
          ]
        ]
