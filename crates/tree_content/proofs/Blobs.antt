-- What one tree says of its blobs.
use Rattle.std.proofs.Common.{◌≡◌, ◌≢◌, ◌⊎◌, inl, inr, ℕ, ◌<◌, Bool, true, false, List, length, Option, Some, None, is_some, true≢false, refl, sym, ◌∙◌, ap, subst}
use Rattle.std.proofs.lemmas.Bool.{cases_eq}
use Rattle.std.specs.Ordering.{ordering_reverse, ordering_then, is_eq}
use Rattle.std.specs.Cmp.{eq_by_cmp_equiv, nat_cmp_is}
use Rattle.std.specs.declared.cmp.Ordering.{Ordering}
use Rattle.std.specs.declared.cmp.Ordering.TheVariants.{Less, Equal, Greater}
use Rattle.sha1.specs.Sha1.{sha1}
use Rattle.nx_base.specs.Order.{name_cmp, key_cmp, age_cmp}
use Rattle.nx_base.specs.declared.key.Key.{Key}
use Rattle.nx_base.specs.declared.blob_ref.BlobRef.{BlobRef}
use Rattle.nx_base.proofs.Orders.{key_cmp_total, age_cmp_total, exact_keys, exact_blobs}
use Rattle.disk_model.specs.Disk.{Tree}
use Rattle.disk_model.proofs.Names.{same_or_not}
use Rattle.blob_paths.specs.Places.{place_of}
use Rattle.blob_paths.specs.declared.ending.Ending.TheVariants.{Properties}
use Rattle.blob_properties.specs.Props.{Props}
use Rattle.blob_properties.specs.Readable.{readable_of}
use Rattle.tree_content.specs.Blobs.{bytes_name, props_name, SameFiles, Homes, Reads, IsIntact, IsStray, Live}
use Rattle.tree_content.specs.Contents.{NoneLive}
use Rattle.tree_content.specs.Files.{SaysMarked, MarkedOrGone}
use Rattle.tree_content.proofs.Names.{same_names}

pub some_is : {A : Type 0} (a b : A) → Some a ≡ Some b → a ≡ b
some_is a b e = cc

pub none_or_some : {A : Type 0} (a : A) → None ≡ Some a → ⊥
none_or_some a e = cc

true_or_false : (b : Bool) → (b ≡ true) ⊎ (b ≡ false)
true_or_false true = inl refl
true_or_false false = inr refl

there_or_not : {A : Type 0} (o : Option A) → (o ≡ None) ⊎ ((a : A) × (o ≡ Some a))
there_or_not None = inl refl
there_or_not (Some a) = inr (a, refl)

pub same_or_other_key : (a b : Key) → (a ≡ b) ⊎ (a ≢ b)
same_or_other_key a b = elim (same_or_not a.repo b.repo) [
  | inl repo ↦ elim (same_or_not a.path b.path) [
    | inl path ↦ inl (λ i. record { repo = repo i; path = path i })
    | inr other ↦ inr (λ e. other (ap (λ (k : Key). k.path) e))
  ]
  | inr other ↦ inr (λ e. other (ap (λ (k : Key). k.repo) e))
]

-- what the order of keys says of two keys
pub key_is : (a b : Key) → is_eq (key_cmp a b) ≡ true → a ≡ b
key_is a b e = exact_keys a b (equal (key_cmp a b) e)
  where
    equal : (o : Ordering) → is_eq o ≡ true → o ≡ Equal
    equal Less e = cc
    equal Equal e = refl
    equal Greater e = cc

pub other_key : (a b : Key) → is_eq (key_cmp a b) ≡ false → a ≢ b
other_key a b e same =
    let self : is_eq (key_cmp b b) ≡ true = (eq_by_cmp_equiv key_cmp_total).refl b in
    let this : is_eq (key_cmp b b) ≡ false = subst (λ (k : Key). is_eq (key_cmp k b) ≡ false) same e in
    cc

-- one blob is older, or they are the same
pub ages : (a b : BlobRef) → (age_cmp a b ≡ Less) ⊎ ((a ≡ b) ⊎ (age_cmp b a ≡ Less))
ages a b = by_order (age_cmp a b) refl
  where
    back : age_cmp a b ≡ Greater → age_cmp b a ≡ Less
    back e = let turned = age_cmp_total.antisymm b a in turned ∙ ap ordering_reverse e

    by_order : (o : Ordering) → age_cmp a b ≡ o → (age_cmp a b ≡ Less) ⊎ ((a ≡ b) ⊎ (age_cmp b a ≡ Less))
    by_order Less e = inl e
    by_order Equal e = inr (inl (exact_blobs a b e))
    by_order Greater e = inr (inr (back e))

-- no blob is older than itself, nor two than each other
pub not_older : (a : BlobRef) → age_cmp a a ≡ Less → ⊥
not_older a e = let turned = age_cmp_total.antisymm a a in let greater : Less ≡ Greater = sym e ∙ turned ∙ ap ordering_reverse e in cc

pub older_than : (a b c : BlobRef) → age_cmp a b ≡ Less → age_cmp b c ≡ Less → age_cmp a c ≡ Less
older_than a b c = age_cmp_total.trans a b c

-- a blob with a lesser timestamp is older
pub older_by_timestamp : (a b : BlobRef) → a.timestamp < b.timestamp → age_cmp a b ≡ Less
older_by_timestamp a b less = ap (λ (o : Ordering). ordering_then o (ordering_then (name_cmp a.store b.store) (name_cmp a.id b.id))) (sym (nat_cmp_is a.timestamp b.timestamp Less less))

module _ (tree : Tree) where
  -- a properties file says one thing of one blob
  pub says_same : (a b : BlobRef) (x y : Props) → Reads tree a x → Reads tree b y → SameFiles a b → x ≡ y
  says_same a b x y p q same =
      let names = same_names a b Properties same in
      let texts : Some p.text ≡ Some q.text = sym p.stands ∙ ap tree names ∙ q.stands in
      let text = some_is p.text q.text texts in
      some_is x y (sym p.says ∙ ap readable_of text ∙ q.says)

  pub blob_same : (a b : BlobRef) (x y : Props) → Reads tree a x → Reads tree b y → SameFiles a b → a ≡ b
  blob_same a b x y p q same =
      let timestamp : a.timestamp ≡ b.timestamp = sym p.timestamp_is ∙ ap (λ (d : Props). d.timestamp) (says_same a b x y p q same) ∙ q.timestamp_is in
      λ i. record { store = same.0 i; id = same.1 i; timestamp = timestamp i }

  -- a blob is intact or it isn't
  pub intact_or_not : (blob : BlobRef) (props : Props) → Reads tree blob props → IsIntact tree blob props ⊎ (IsIntact tree blob props → ⊥)
  intact_or_not blob props reads = elim (there_or_not (tree (bytes_name blob))) [
    | inl gone ↦ inr (λ intact. none_or_some intact.bytes (sym gone ∙ intact.there))
    | inr found ↦ elim (cases_eq (length found.0) props.size) [
      | inl sized ↦ elim (same_or_not (sha1 found.0) props.sha1) [
        | inl digested ↦ inl (record { readable = reads; bytes = found.0; there = found.1; sized = sized; digested = digested })
        | inr other ↦ inr (λ intact. other (ap sha1 (some_is found.0 intact.bytes (sym found.1 ∙ intact.there)) ∙ intact.digested))
      ]
      | inr other ↦ inr (λ intact. other (ap length (some_is found.0 intact.bytes (sym found.1 ∙ intact.there)) ∙ intact.sized))
    ]
  ]

  -- and it is live or it isn't
  pub live_or_not : (homes : Homes) (blob : BlobRef) (props : Props) → Reads tree blob props → Live homes tree props.key blob props ⊎ (Live homes tree props.key blob props → ⊥)
  live_or_not homes blob props reads = elim (intact_or_not blob props reads) [
    | inl intact ↦ elim (there_or_not props.deleted) [
      | inr marked ↦ inr (λ live. none_or_some marked.0 (sym live.unmarked ∙ marked.1))
      | inl unmarked ↦ elim (true_or_false (homes props.key.repo blob.store)) [
        | inl home ↦ inl (record { intact = intact; unmarked = unmarked; of_key = refl; home = home })
        | inr stray ↦ inr (λ live. let home = live.home in cc)
      ]
    ]
    | inr broken ↦ inr (λ live. broken live.intact)
  ]

module _ (homes : Homes) (tree : Tree) (blob : BlobRef) where
  -- a blob without a properties file is not live
  pub absent_is_not_live : tree (props_name blob) ≡ None → NoneLive homes tree blob
  absent_is_not_live gone key other props live same =
      let reads = live.intact.readable in
      none_or_some reads.text (sym gone ∙ ap tree (sym (same_names other blob Properties same)) ∙ reads.stands)

  -- nor is one whose text can't be read
  pub unreadable_is_not_live : (text : List ℕ) → tree (props_name blob) ≡ Some text → readable_of text ≡ None → NoneLive homes tree blob
  unreadable_is_not_live text stands not key other props live same =
      let reads = live.intact.readable in
      let texts : Some reads.text ≡ Some text = sym reads.stands ∙ ap tree (same_names other blob Properties same) ∙ stands in
      none_or_some props (sym not ∙ ap readable_of (sym (some_is reads.text text texts)) ∙ reads.says)

  -- nor a marked one
  pub marked_is_not_live : (text : List ℕ) → tree (props_name blob) ≡ Some text → SaysMarked text → NoneLive homes tree blob
  marked_is_not_live text stands marked key other props live same =
      let reads = live.intact.readable in
      let texts : Some reads.text ≡ Some text = sym reads.stands ∙ ap tree (same_names other blob Properties same) ∙ stands in
      let said : props ≡ marked.0 = some_is props marked.0 (sym reads.says ∙ ap readable_of (some_is reads.text text texts) ∙ marked.1) in
      let unmarked : marked.0.deleted ≡ None = sym (ap (λ (p : Props). p.deleted) said) ∙ live.unmarked in
      let is_marked : is_some marked.0.deleted ≡ true = marked.2 in
      let is_not : is_some marked.0.deleted ≡ false = ap is_some unmarked in
      true≢false (sym is_marked ∙ is_not)

  -- nor a stray
  pub stray_is_not_live : (props : Props) → Reads tree blob props → IsStray homes blob props → NoneLive homes tree blob
  stray_is_not_live props reads stray key other said live same =
      let is : said ≡ props = says_same tree other blob said props live.intact.readable reads same in
      let of_key : key ≡ props.key = sym live.of_key ∙ ap (λ (p : Props). p.key) is in
      let home : homes props.key.repo blob.store ≡ true = subst (λ (s : List ℕ). homes props.key.repo s ≡ true) same.0 (subst (λ (k : Key). homes k.repo other.store ≡ true) of_key live.home) in
      true≢false (sym home ∙ stray)

  -- nor one that isn't intact
  pub broken_is_not_live : (props : Props) → Reads tree blob props → (IsIntact tree blob props → ⊥) → NoneLive homes tree blob
  broken_is_not_live props reads broken key other said live same =
      let is : said ≡ props = says_same tree other blob said props live.intact.readable reads same in
      let is_blob : other ≡ blob = blob_same tree other blob said props live.intact.readable reads same in
      broken (subst (λ (p : Props). IsIntact tree blob p) is (subst (λ (b : BlobRef). IsIntact tree b said) is_blob live.intact))

  pub marked_or_gone_is_not_live : MarkedOrGone (place_of blob) tree → NoneLive homes tree blob
  marked_or_gone_is_not_live (inl marked) = marked_is_not_live marked.0 marked.1 marked.2
  marked_or_gone_is_not_live (inr gone) = absent_is_not_live gone.0
