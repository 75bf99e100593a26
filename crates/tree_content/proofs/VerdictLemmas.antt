-- Each blob has one verdict.
use Rattle.std.proofs.Common.{◌≡◌, ◌⊎◌, inl, inr, ◌↔◌, ℕ, List, length, Option, Some, None, refl, sym, ◌∙◌, ap}
use Rattle.std.proofs.lemmas.Bool.{cases_eq}
use Rattle.sha1.specs.Sha1.{sha1}
use Rattle.nx_base.specs.declared.blob_ref.BlobRef.{BlobRef}
use Rattle.disk_model.specs.Disk.{Tree}
use Rattle.disk_model.proofs.Names.{same_or_not}
use Rattle.blob_properties.specs.Props.{Props}
use Rattle.blob_properties.specs.Readable.{readable_of}
use Rattle.blob_properties.specs.declared.found.Verdict.{Verdict}
use Rattle.blob_properties.specs.declared.found.Verdict.TheVariants.{Intact, Unreadable, NoBytes, WrongSize, WrongSha1}
use Rattle.tree_content.specs.Blobs.{bytes_name, props_name, timestamped, IsRef, IsIntact}
use Rattle.tree_content.specs.Verdicts.{SaysProps, HasVerdict}
use Rattle.tree_content.proofs.Blobs.{some_is, none_or_some}

there_or_not : {A : Type 0} (o : Option A) → (o ≡ None) ⊎ ((a : A) × (o ≡ Some a))
there_or_not None = inl refl
there_or_not (Some a) = inr (a, refl)

module _ (tree : Tree) (blob : BlobRef) where
  -- a blob has a verdict
  pub some_verdict : (text : List ℕ) → tree (props_name blob) ≡ Some text → (verdict : Verdict) × HasVerdict tree blob verdict
  some_verdict text stands = by_reading (readable_of text) refl
    where
      by_bytes : (props : Props) → SaysProps tree blob props → (bytes : Option (List ℕ)) → tree (bytes_name blob) ≡ bytes → (verdict : Verdict) × HasVerdict tree blob verdict
      by_bytes props says None gone = (NoBytes, (props, says, gone))
      by_bytes props says (Some bytes) there = elim (cases_eq (length bytes) props.size) [
        | inr other ↦ (WrongSize (length bytes), (props, bytes, says, there, refl, other))
        | inl sized ↦ elim (same_or_not (sha1 bytes) props.sha1) [
          | inr other ↦ (WrongSha1, (props, bytes, says, there, sized, other))
          | inl digested ↦ (Intact, (props, bytes, says, there, sized, digested))
        ]
      ]

      by_reading : (read : Option Props) → readable_of text ≡ read → (verdict : Verdict) × HasVerdict tree blob verdict
      by_reading None not = (Unreadable, (text, stands, not))
      by_reading (Some props) is = by_bytes props (text, stands, is) (tree (bytes_name blob)) refl

  -- what a verdict says of the properties and the bytes
  says_one : (p q : Props) → SaysProps tree blob p → SaysProps tree blob q → p ≡ q
  says_one p q x y = some_is p q (sym x.2 ∙ ap readable_of (some_is x.0 y.0 (sym x.1 ∙ y.1)) ∙ y.2)

  says_some : (text : List ℕ) (p : Props) → tree (props_name blob) ≡ Some text → readable_of text ≡ None → SaysProps tree blob p → ⊥
  says_some text p stands not says = none_or_some p (sym not ∙ ap readable_of (some_is text says.0 (sym stands ∙ says.1)) ∙ says.2)

  bytes_one : (a b : List ℕ) → tree (bytes_name blob) ≡ Some a → tree (bytes_name blob) ≡ Some b → a ≡ b
  bytes_one a b x y = some_is a b (sym x ∙ y)

  bytes_some : (a : List ℕ) → tree (bytes_name blob) ≡ None → tree (bytes_name blob) ≡ Some a → ⊥
  bytes_some a x y = none_or_some a (sym x ∙ y)

  sizes : (p q : Props) (a b : List ℕ) → SaysProps tree blob p → SaysProps tree blob q → tree (bytes_name blob) ≡ Some a → tree (bytes_name blob) ≡ Some b
      → length a ≡ p.size → length b ≡ q.size
  sizes p q a b x y s t is = sym (ap length (bytes_one a b s t)) ∙ is ∙ ap (λ (r : Props). r.size) (says_one p q x y)

  digests : (p q : Props) (a b : List ℕ) → SaysProps tree blob p → SaysProps tree blob q → tree (bytes_name blob) ≡ Some a → tree (bytes_name blob) ≡ Some b
      → sha1 a ≡ p.sha1 → sha1 b ≡ q.sha1
  digests p q a b x y s t is = sym (ap sha1 (bytes_one a b s t)) ∙ is ∙ ap (λ (r : Props). r.sha1) (says_one p q x y)

  wrong : (f g : ℕ) → f ≡ g → WrongSize f ≡ WrongSize g
  wrong f g e = ap (λ (n : ℕ). WrongSize n) e

  -- and no other
  pub one_verdict : (a b : Verdict) → HasVerdict tree blob a → HasVerdict tree blob b → a ≡ b
  one_verdict Unreadable Unreadable x y = refl
  one_verdict Unreadable NoBytes x y = absurd (says_some x.0 y.0 x.1 x.2 y.1)
  one_verdict Unreadable (WrongSize g) x y = absurd (says_some x.0 y.0 x.1 x.2 y.2)
  one_verdict Unreadable WrongSha1 x y = absurd (says_some x.0 y.0 x.1 x.2 y.2)
  one_verdict Unreadable Intact x y = absurd (says_some x.0 y.0 x.1 x.2 y.2)
  one_verdict NoBytes Unreadable x y = absurd (says_some y.0 x.0 y.1 y.2 x.1)
  one_verdict NoBytes NoBytes x y = refl
  one_verdict NoBytes (WrongSize g) x y = absurd (bytes_some y.1 x.2 y.3)
  one_verdict NoBytes WrongSha1 x y = absurd (bytes_some y.1 x.2 y.3)
  one_verdict NoBytes Intact x y = absurd (bytes_some y.1 x.2 y.3)
  one_verdict (WrongSize f) Unreadable x y = absurd (says_some y.0 x.0 y.1 y.2 x.2)
  one_verdict (WrongSize f) NoBytes x y = absurd (bytes_some x.1 y.2 x.3)
  one_verdict (WrongSize f) (WrongSize g) x y = wrong f g (sym x.4 ∙ ap length (bytes_one x.1 y.1 x.3 y.3) ∙ y.4)
  one_verdict (WrongSize f) WrongSha1 x y = absurd (x.5 (sym x.4 ∙ sizes y.0 x.0 y.1 x.1 y.2 x.2 y.3 x.3 y.4))
  one_verdict (WrongSize f) Intact x y = absurd (x.5 (sym x.4 ∙ sizes y.0 x.0 y.1 x.1 y.2 x.2 y.3 x.3 y.4))
  one_verdict WrongSha1 Unreadable x y = absurd (says_some y.0 x.0 y.1 y.2 x.2)
  one_verdict WrongSha1 NoBytes x y = absurd (bytes_some x.1 y.2 x.3)
  one_verdict WrongSha1 (WrongSize g) x y = absurd (y.5 (sym y.4 ∙ sizes x.0 y.0 x.1 y.1 x.2 y.2 x.3 y.3 x.4))
  one_verdict WrongSha1 WrongSha1 x y = refl
  one_verdict WrongSha1 Intact x y = absurd (x.5 (digests y.0 x.0 y.1 x.1 y.2 x.2 y.3 x.3 y.5))
  one_verdict Intact Unreadable x y = absurd (says_some y.0 x.0 y.1 y.2 x.2)
  one_verdict Intact NoBytes x y = absurd (bytes_some x.1 y.2 x.3)
  one_verdict Intact (WrongSize g) x y = absurd (y.5 (sym y.4 ∙ sizes x.0 y.0 x.1 y.1 x.2 y.2 x.3 y.3 x.4))
  one_verdict Intact WrongSha1 x y = absurd (y.5 (digests x.0 y.0 x.1 y.1 x.2 y.2 x.3 y.3 x.5))
  one_verdict Intact Intact x y = refl

  -- the verdict on the blob of that timestamp is Intact just where it is intact
  pub intact_is : IsRef blob → HasVerdict tree blob Intact ↔ ((props : Props) × IsIntact tree (timestamped blob props.timestamp) props)
  intact_is ref = (
    λ v. (
      v.0,
      record {
        readable = record { named = record { store = ref.store; id = ref.id }; text = v.2.0; stands = v.2.1; says = v.2.2; timestamp_is = refl };
        bytes = v.1;
        there = v.3;
        sized = v.4;
        digested = v.5;
      },
    ),
    λ w. let i = w.1 in (w.0, i.bytes, (i.readable.text, i.readable.stands, i.readable.says), i.there, i.sized, i.digested),
  )
