-- How the content of a tree changes where the files of one blob do.
use Rattle.std.proofs.Common.{◌≡◌, ◌≢◌, ◌⊎◌, inl, inr, ⊎_elim, ℕ, ◌<◌, Bool, true, false, cond, List, Option, Some, None, refl, sym, ◌∙◌, ap, subst}
use Rattle.std.specs.declared.cmp.Ordering.TheVariants.{Less}
use Rattle.std.specs.Ordering.{is_eq}
use Rattle.nx_base.specs.Order.{key_cmp, age_cmp}
use Rattle.nx_base.specs.declared.key.Key.{Key}
use Rattle.nx_base.specs.declared.blob_ref.BlobRef.{BlobRef}
use Rattle.disk_model.specs.Disk.{Tree, Same}
use Rattle.blob_paths.specs.Places.{place_of, file_of}
use Rattle.blob_paths.specs.declared.ending.Ending.{Ending}
use Rattle.blob_paths.specs.declared.ending.Ending.TheVariants.{Bytes, Properties}
use Rattle.blob_properties.specs.Props.{Props}
use Rattle.blob_properties.specs.Readable.{readable_of}
use Rattle.tree_content.specs.Blobs.{props_name, SameFiles, IsRef, timestamped, Homes, Reads, Live, IsInContent}
use Rattle.tree_content.specs.Contents.{Content, content_of, ContentOf, HasContents, SameContents, SameBeside, OldOrNew, OldOrBlob, IsFrom, OldOrLost, IsNoContent, NoneLive, OnlyLive, Contents, with_content}
use Rattle.tree_content.specs.Files.{RestOfPlace}
use Rattle.tree_content.proofs.Names.{outside, in_content, same_files, same_or_other}
use Rattle.tree_content.proofs.Blobs.{key_is, other_key, same_or_other_key, ages, not_older, older_than, older_by_timestamp, says_same, blob_same, live_or_not, absent_is_not_live, unreadable_is_not_live}

-- a key has one content at most
pub one_content : (homes : Homes) (tree : Tree) (key : Key) (a b : Option Content) → ContentOf homes tree key a → ContentOf homes tree key b → a ≡ b
one_content homes tree key None None x y = refl
one_content homes tree key None (Some b) none y = absurd (none b.blob y.0.0 y.0.1)
one_content homes tree key (Some a) None x none = absurd (none a.blob x.0.0 x.0.1)
one_content homes tree key (Some a) (Some b) x y =
    ap Some (x.0.2 ∙ ap (λ (d : Props). content_of a.blob d) said ∙ ap (λ (r : BlobRef). content_of r y.0.0) blob ∙ sym y.0.2)
  where
    blob : a.blob ≡ b.blob
    blob = ⊎_elim (λ (is : a.blob ≡ b.blob). is) (λ older. ⊎_elim (λ (is : b.blob ≡ a.blob). sym is) (λ newer. absurd (not_older a.blob (older_than a.blob b.blob a.blob older newer))) (x.1 b.blob y.0.0 y.0.1)) (y.1 a.blob x.0.0 x.0.1)

    said : x.0.0 ≡ y.0.0
    said = says_same tree a.blob b.blob x.0.0 y.0.0 x.0.1.intact.readable y.0.1.intact.readable (ap (λ (r : BlobRef). r.store) blob, ap (λ (r : BlobRef). r.id) blob)

module _ (homes : Homes) where
  -- where the two files are the same, a live blob of one tree is live in the other
  pub live_moves : (old new : Tree) (key : Key) (blob : BlobRef) (props : Props) → ((ending : Ending) → new (file_of blob ending) ≡ old (file_of blob ending))
      → Live homes old key blob props → Live homes new key blob props
  live_moves old new key blob props same live =
      let reads = live.intact.readable in
      let whole = live.intact in
      record {
        intact = record {
          readable = record { named = reads.named; text = reads.text; stands = same Properties ∙ reads.stands; says = reads.says; timestamp_is = reads.timestamp_is };
          bytes = whole.bytes;
          there = same Bytes ∙ whole.there;
          sized = whole.sized;
          digested = whole.digested;
        };
        unmarked = live.unmarked;
        of_key = live.of_key;
        home = live.home;
      }

  -- where both trees have the same live blobs, each content of one is a content of the other
  pub content_moves : (old new : Tree) (key : Key) → ((blob : BlobRef) (props : Props) → Live homes old key blob props → Live homes new key blob props)
      → ((blob : BlobRef) (props : Props) → Live homes new key blob props → Live homes old key blob props)
      → (content : Option Content) → ContentOf homes old key content → ContentOf homes new key content
  content_moves old new key there back None none = λ blob props live. none blob props (back blob props live)
  content_moves old new key there back (Some content) is = (
    (is.0.0, there content.blob is.0.0 is.0.1, is.0.2),
    λ blob props live. is.1 blob props (back blob props live),
  )

  -- trees that have the same files of blobs have the same contents
  pub files_same : (old new : Tree) → ((blob : BlobRef) (ending : Ending) → IsRef blob → new (file_of blob ending) ≡ old (file_of blob ending)) → SameContents homes old new
  files_same old new same key content = (content_moves old new key there back content, content_moves new old key back there content)
    where
      there : (blob : BlobRef) (props : Props) → Live homes old key blob props → Live homes new key blob props
      there blob props live = live_moves old new key blob props (λ ending. same blob ending live.intact.readable.named) live

      back : (blob : BlobRef) (props : Props) → Live homes new key blob props → Live homes old key blob props
      back blob props live = live_moves new old key blob props (λ ending. sym (same blob ending live.intact.readable.named)) live

  pub tmp_same : (old new : Tree) → Same old new → SameContents homes old new
  tmp_same old new same = files_same old new (λ blob ending ref. same (file_of blob ending) (outside blob ending ref))

  pub folders_same : (old new : Tree) → ((name : List ℕ) → IsInContent name → new name ≡ old name) → SameContents homes old new
  folders_same old new same = files_same old new (λ blob ending ref. same (file_of blob ending) (in_content blob ending ref))

  -- the files of one blob may have changed
  module _ (blob : BlobRef) (ref : IsRef blob) (old new : Tree) (rest : RestOfPlace (place_of blob) old new) where
    others : (other : BlobRef) (ending : Ending) → IsRef other → (SameFiles other blob → ⊥) → new (file_of other ending) ≡ old (file_of other ending)
    others other ending is apart = rest (file_of other ending) (outside other ending is)
        (λ at. apart (same_files other blob ending Bytes is ref at)) (λ at. apart (same_files other blob ending Properties is ref at))

    -- a live blob of other files is live in both
    pub there : (key : Key) (other : BlobRef) (props : Props) → (SameFiles other blob → ⊥) → Live homes old key other props → Live homes new key other props
    there key other props apart live = live_moves old new key other props (λ ending. others other ending live.intact.readable.named apart) live

    pub back : (key : Key) (other : BlobRef) (props : Props) → (SameFiles other blob → ⊥) → Live homes new key other props → Live homes old key other props
    back key other props apart live = live_moves new old key other props (λ ending. sym (others other ending live.intact.readable.named apart)) live

    -- the blob is live in neither: no content changes
    pub kept : NoneLive homes old blob → NoneLive homes new blob → SameContents homes old new
    kept before after key content = (content_moves old new key to from content, content_moves new old key from to content)
      where
        to : (other : BlobRef) (props : Props) → Live homes old key other props → Live homes new key other props
        to other props live = there key other props (before key other props live) live

        from : (other : BlobRef) (props : Props) → Live homes new key other props → Live homes old key other props
        from other props live = back key other props (after key other props live) live

    -- the blob is not live any more: each key has the content that it had, or that was the blob
    pub lost : NoneLive homes new blob → OldOrLost homes old blob new
    lost after key None none = inl (λ other props live. none other props (back key other props (after key other props live) live))
    lost after key (Some content) is = elim (same_or_other content.blob blob) [
      | inl from ↦ inr from
      | inr apart ↦ inl (
        (is.0.0, there key content.blob is.0.0 apart is.0.1, is.0.2),
        λ other props live. is.1 other props (back key other props (after key other props live) live),
      )
    ]

    -- of the live blobs that are left the newest is the content
    pub next : NoneLive homes new blob → (key : Key) (content : Content) (props : Props) → Live homes old key content.blob props
        → content ≡ content_of content.blob props → (SameFiles content.blob blob → ⊥)
        → ((other : BlobRef) (d : Props) → Live homes old key other d → SameFiles other blob ⊎ ((other ≡ content.blob) ⊎ (age_cmp other content.blob ≡ Less)))
        → ContentOf homes new key (Some content)
    next after key content props live is apart newest = (
      (props, there key content.blob props apart live, is),
      λ other d now. let differ = after key other d now in
          ⊎_elim (λ same. absurd (differ same)) (λ older. older) (newest other d (back key other d differ now)),
    )

    -- where none is left, there is no content
    pub nothing_left : NoneLive homes new blob → (key : Key) → OnlyLive homes old key blob → ContentOf homes new key None
    nothing_left after key alone other d now = let differ = after key other d now in differ (alone other d (back key other d differ now))

    -- so the key of a blob that was its only live one has no content any more, and the other keys keep theirs
    pub given_up : (props : Props) → Reads old blob props → NoneLive homes new blob → OnlyLive homes old props.key blob → OldOrNew homes old props.key None new
    given_up props reads after alone key content is = elim (same_or_other_key key props.key) [
      | inl same ↦ inr (same, subst (λ (k : Key). ContentOf homes new k None) (sym same) (nothing_left after props.key alone))
      | inr differ ↦ ⊎_elim (λ old_one. inl old_one) (λ from. absurd (differ (its_key key content is from))) (lost after key content is)
    ]
      where
        its_key : (k : Key) (c : Option Content) → ContentOf homes old k c → IsFrom blob c → k ≡ props.key
        its_key k None has from = absurd from
        its_key k (Some c) has from =
            let live = has.0.1 in
            sym live.of_key ∙ ap (λ (d : Props). d.key) (says_same old c.blob blob has.0.0 props live.intact.readable reads from)

    -- what stands under the blob's names afterwards
    module _ (props : Props) (was : NoneLive homes old blob) (reads : Reads new blob props) where
      -- a live blob is the new one, or was live before
      pub new_or_old : (k : Key) (other : BlobRef) (d : Props) → Live homes new k other d → ((other ≡ blob) × (d ≡ props)) ⊎ Live homes old k other d
      new_or_old k other d live = elim (same_or_other other blob) [
        | inl same ↦ inl (blob_same new other blob d props live.intact.readable reads same, says_same new other blob d props live.intact.readable reads same)
        | inr apart ↦ inr (back k other d apart live)
      ]

      pub still : (k : Key) (other : BlobRef) (d : Props) → Live homes old k other d → Live homes new k other d
      still k other d live = there k other d (was k other d live) live

      -- other keys keep theirs
      beside : (k : Key) → k ≢ props.key → (other : BlobRef) (d : Props) → Live homes new k other d → Live homes old k other d
      beside k differ other d live = ⊎_elim (λ is. absurd (differ (sym live.of_key ∙ ap (λ (x : Props). x.key) is.1))) (λ before. before) (new_or_old k other d live)

      pub gained_beside : SameBeside homes props.key old new
      gained_beside k content differ =
          (content_moves old new k (still k) (beside k differ) content, content_moves new old k (beside k differ) (still k) content)

      -- where it is newer than all that were live, the key has it
      pub newest : Live homes new props.key blob props → ((other : BlobRef) (d : Props) → Live homes old props.key other d → age_cmp other blob ≡ Less)
          → ContentOf homes new props.key (Some (content_of blob props))
      newest live older = (
        (props, live, refl),
        λ other d now. ⊎_elim (λ is. inl is.0) (λ before. inr (older other d before)) (new_or_old props.key other d now),
      )

      -- the key has the content that it had, or the new one
      at_key : Live homes new props.key blob props → (content : Option Content) → ContentOf homes old props.key content
          → ContentOf homes new props.key content ⊎ ContentOf homes new props.key (Some (content_of blob props))
      at_key live None none = inr (newest live (λ other d before. absurd (none other d before)))
      at_key live (Some content) is = elim (ages content.blob blob) [
        | inl older ↦ inr (newest live (λ other d before. ⊎_elim (λ same. subst (λ (r : BlobRef). age_cmp r blob ≡ Less) (sym same) older) (λ less. older_than other content.blob blob less older) (is.1 other d before)))
        | inr not ↦ elim not [
          | inl same ↦ absurd (was props.key content.blob is.0.0 is.0.1 (ap (λ (r : BlobRef). r.store) same, ap (λ (r : BlobRef). r.id) same))
          | inr newer ↦ inl (
            (is.0.0, still props.key content.blob is.0.0 is.0.1, is.0.2),
            λ other d now. ⊎_elim (λ new. inr (subst (λ (r : BlobRef). age_cmp r content.blob ≡ Less) (sym new.0) newer)) (λ before. is.1 other d before) (new_or_old props.key other d now),
          )
        ]
      ]

      none_if : (Live homes new props.key blob props → ⊥) → NoneLive homes new blob
      none_if never k other d live same =
          let is_blob = blob_same new other blob d props live.intact.readable reads same in
          let said = says_same new other blob d props live.intact.readable reads same in
          let of_key : k ≡ props.key = sym live.of_key ∙ ap (λ (x : Props). x.key) said in
          never (subst (λ (x : Props). Live homes new props.key blob x) said
          (subst (λ (r : BlobRef). Live homes new props.key r d) is_blob
          (subst (λ (x : Key). Live homes new x other d) of_key live)))

      -- the blob was not live: each key has the content that it had, or it is the blob's key and has the blob
      pub gained : OldOrNew homes old props.key (Some (content_of blob props)) new
      gained k content is = elim (live_or_not new homes blob props reads) [
        | inr never ↦ inl ((kept was (none_if never) k content).0 is)
        | inl live ↦ elim (same_or_other_key k props.key) [
          | inr differ ↦ inl ((gained_beside k content differ).0 is)
          | inl same ↦
              let here = at_key live content (subst (λ (x : Key). ContentOf homes old x content) same is) in
              subst (λ (x : Key). ContentOf homes new x content ⊎ ((x ≡ props.key) × ContentOf homes new x (Some (content_of blob props)))) (sym same)
              (⊎_elim (λ old_one. inl old_one) (λ new_one. inr (refl, new_one)) here)
        ]
      ]

  module _ (blob : BlobRef) (ref : IsRef blob) (old new : Tree) (rest : RestOfPlace (place_of blob) old new) where
    -- a text of the properties: each key has the content that it had, or the blob, if the text can be read
    pub gained_text : (text : List ℕ) → NoneLive homes old blob → new (props_name blob) ≡ Some text → OldOrBlob homes old blob (readable_of text) new
    gained_text text was stands = by_reading (readable_of text) refl
      where
        by_reading : (read : Option Props) → readable_of text ≡ read → OldOrBlob homes old blob read new
        by_reading None is = kept blob ref old new rest was (unreadable_is_not_live homes new blob text stands is)
        by_reading (Some props) is =
            let its : IsRef (timestamped blob props.timestamp) = record { store = ref.store; id = ref.id } in
            gained (timestamped blob props.timestamp) its old new rest props was (record { named = its; text = text; stands = stands; says = is; timestamp_is = refl })

    -- a blob that is no key's content is not live any more: no content changes
    pub forgotten : NoneLive homes new blob → IsNoContent homes old blob → SameContents homes old new
    forgotten after unnamed key content = (
      λ is. ⊎_elim (λ same. same) (λ from. absurd (unnamed key content is from)) (lost blob ref old new rest after key content is),
      λ is. back_text (old (props_name blob)) refl is,
    )
      where
        flipped : RestOfPlace (place_of blob) new old
        flipped n out not_bytes not_props = sym (rest n out not_bytes not_props)

        back_blob : (read : Option Props) → OldOrBlob homes new blob read old → ContentOf homes new key content → ContentOf homes old key content
        back_blob None same is = (same key content).0 is
        back_blob (Some props) may is = ⊎_elim (λ had. had)
            (λ other. absurd (unnamed key (Some (content_of (timestamped blob props.timestamp) props)) other.1 (refl, refl)))
            (may key content is)

        back_text : (value : Option (List ℕ)) → old (props_name blob) ≡ value → ContentOf homes new key content → ContentOf homes old key content
        back_text None gone is = (kept blob ref old new rest (absent_is_not_live homes old blob gone) after key content).1 is
        back_text (Some text) stands is = back_blob (readable_of text) (by_reading (readable_of text) refl) is
          where
            by_reading : (read : Option Props) → readable_of text ≡ read → OldOrBlob homes new blob read old
            by_reading None says = kept blob ref new old flipped after (unreadable_is_not_live homes old blob text stands says)
            by_reading (Some props) says =
                let its : IsRef (timestamped blob props.timestamp) = record { store = ref.store; id = ref.id } in
                gained (timestamped blob props.timestamp) its new old flipped props after (record { named = its; text = text; stands = stands; says = says; timestamp_is = refl })

-- a live blob with a greater timestamp than all that were live of its key is the key's content
pub newest_timestamp : (homes : Homes) (blob : BlobRef) (ref : IsRef blob) (old new : Tree) (rest : RestOfPlace (place_of blob) old new) (key : Key) (props : Props) → NoneLive homes old blob
    → Live homes new key blob props → ((other : BlobRef) (d : Props) → Live homes old key other d → other.timestamp < blob.timestamp)
    → ContentOf homes new key (Some (content_of blob props))
newest_timestamp homes blob ref old new rest key props was live older =
    subst (λ (k : Key). ContentOf homes new k (Some (content_of blob props))) live.of_key
    (newest homes blob ref old new rest props was live.intact.readable (subst (λ (k : Key). Live homes new k blob props) (sym live.of_key) live)
    (λ other d before. older_by_timestamp other blob (older other d (subst (λ (k : Key). Live homes old k other d) live.of_key before))))

-- a tree whose contents may have changed at one key has the contents before, or with that change
pub before_or_after : (homes : Homes) (old new : Tree) (key : Key) (changed : Option Content) (contents : Contents) → OldOrNew homes old key changed new → HasContents homes contents old
    → HasContents homes contents new ⊎ HasContents homes (with_content key changed contents) new
before_or_after homes old new key changed contents may has = ⊎_elim
    (λ kept_it. inl (λ k. elim (same_or_other_key k key) [
      | inl same ↦ subst (λ (x : Key). ContentOf homes new x (contents x)) (sym same) kept_it
      | inr differ ↦ elsewhere k differ
    ]))
    (λ now. inr (λ k. at k (is_eq (key_cmp k key)) refl now.1))
    (may key (contents key) (has key))
  where
    elsewhere : (k : Key) → k ≢ key → ContentOf homes new k (contents k)
    elsewhere k differ = ⊎_elim (λ is. is) (λ other. absurd (differ other.0)) (may k (contents k) (has k))

    at : (k : Key) (b : Bool) → is_eq (key_cmp k key) ≡ b → ContentOf homes new key changed → ContentOf homes new k (with_content key changed contents k)
    at k true is now =
        let same : k ≡ key = key_is k key is in
        let value : with_content key changed contents k ≡ changed = ap (λ (c : Bool). cond c changed (contents k)) is in
        subst (λ (c : Option Content). ContentOf homes new k c) (sym value) (subst (λ (x : Key). ContentOf homes new x changed) (sym same) now)
    at k false is now =
        let value : with_content key changed contents k ≡ contents k = ap (λ (c : Bool). cond c changed (contents k)) is in
        subst (λ (c : Option Content). ContentOf homes new k c) (sym value) (elsewhere k (not_key k is))
      where
        not_key : (k : Key) → is_eq (key_cmp k key) ≡ false → k ≢ key
        not_key k test same = other_key k key test same

pub contents_move : (homes : Homes) (old new : Tree) (contents : Contents) → SameContents homes old new → HasContents homes contents old → HasContents homes contents new
contents_move homes old new contents same has key = (same key (contents key)).0 (has key)
