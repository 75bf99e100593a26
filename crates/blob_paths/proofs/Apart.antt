-- No two files of blobs have one name, and none lies in `tmp`.
use Rattle.std.proofs.Common.{◌≡◌, ℕ, true≢false, true, false, ◌&&◌, eqb, List, [], ◌∷◌, ◌++◌, length, take, drop, Ok, refl, sym, ap, ◌∙◌, append_assoc, arith, length-append, inl, inr, codes, get_or}
use Rattle.std.specs.List.{list_all}
use Rattle.std.proofs.lemmas.List.{append_cancel_right}
use Rattle.std.proofs.lemmas.Cmp.{nat_list_cmp_total, tied_itself}
use Rattle.std.proofs.lemmas.Map.Lookups.{exact_bytes}
use Rattle.std.proofs.lemmas.Bool.Decides.{nat_tests}
use Rattle.nx_base.specs.Ids.{id_text}
use Rattle.nx_base.specs.Names.{is_name_byte, store_name_of, is_reserved}
use Rattle.nx_base.specs.Texts.{name_cmp}
use Rattle.nx_base.proofs.IdOrder.{id_text-cmp}
use Rattle.blob_paths.specs.declared.ending.Ending.{Ending}
use Rattle.blob_paths.specs.declared.ending.Ending.TheVariants.{Bytes, Properties}
use Rattle.blob_paths.specs.Ids.{IsId}
use Rattle.blob_paths.specs.Places.{folders_of, volume_place, file_at, IsOutsideTmp}
use Rattle.blob_paths.proofs.Segments.{both, no_slash}
use Rattle.blob_paths.proofs.Named.{id_text-length, folders_of-length, store_parts}
use Rattle.blob_paths.proofs.Parts.{split, regroup}

-- two texts that differ at a place
differ : (s t : List ℕ) (at : ℕ) → s ≡ t → eqb (get_or s at 0) (get_or t at 0) ≡ false → ⊥
differ s t at e other = let same = ap (λ (x : List ℕ). get_or x at 0) e in grind (arith, nat_tests)

-- ---- ids and endings

pub same_id : (a b : List ℕ) → IsId a → IsId b → id_text a ≡ id_text b → a ≡ b
same_id a b ia ib e =
    exact_bytes a b (
    sym (id_text-cmp a b ia.sixteen ib.sixteen ia.bytes ib.bytes)
    ∙ ap (λ (t : List ℕ). name_cmp t (id_text b)) e
    ∙ tied_itself nat_list_cmp_total (id_text b)
    )

-- the last three bytes tell the endings apart
other_end : (p q : List ℕ) → p ++ codes ".bytes" ≡ q ++ codes ".properties" → ⊥
other_end p q e =
    let long = ap length e in
    let parts = split (p ++ codes ".by") (q ++ codes ".propert") (codes "tes") (codes "ies")
    (omega (arith, long, length-append p (codes ".bytes"), length-append q (codes ".properties"), length-append p (codes ".by"), length-append q (codes ".propert")))
    (append_assoc p (codes ".by") (codes "tes") ∙ e ∙ sym (append_assoc q (codes ".propert") (codes "ies"))) in
    differ (codes "tes") (codes "ies") 0 parts.1 refl

pub same_ending : (p q : List ℕ) (e f : Ending) → file_at p e ≡ file_at q f → (e ≡ f) × (p ≡ q)
same_ending p q Bytes Bytes h = (refl, append_cancel_right p q (codes ".bytes") h)
same_ending p q Bytes Properties h = absurd (other_end p q h)
same_ending p q Properties Bytes h = absurd (other_end q p (sym h))
same_ending p q Properties Properties h = (refl, append_cancel_right p q (codes ".properties") h)

-- ---- places

pub same_place : (store store' id id' : List ℕ) → volume_place store id ≡ volume_place store' id' → (store ≡ store') × (id_text id ≡ id_text id')
unfolding volume_place
same_place store store' id id' e =
    let f = folders_of (id_text id) in
    let f' = folders_of (id_text id') in
    let lf = folders_of-length (id_text id) in
    let lf' = folders_of-length (id_text id') in
    let li = id_text-length id in
    let li' = id_text-length id' in
    let long = ap length e in
    let first = split store store' (f ++ id_text id) (f' ++ id_text id')
    (omega (arith, long, length-append store (f ++ id_text id), length-append store' (f' ++ id_text id'), length-append f (id_text id), length-append f' (id_text id'))) e in
    let second = split f f' (id_text id) (id_text id') (lf ∙ sym lf') first.1 in
    (first.0, second.1)

-- ---- outside tmp

-- what follows the store in a place, and behind it
begins : (store id e : List ℕ) → volume_place store id ++ e ≡ store ++ 47 ∷ drop 1 (folders_of (id_text id) ++ (id_text id ++ e))
unfolding volume_place folders_of
begins store id e = regroup store (folders_of (id_text id)) (id_text id) e

-- no name of a store is `tmp`, and none has a slash
below : (store rest : List ℕ) → is_reserved store ≡ false → list_all is_name_byte store ≡ true → take 4 (store ++ 47 ∷ rest) ≡ codes "tmp/" → ⊥
below [] rest free named e = differ (take 4 (47 ∷ rest)) (codes "tmp/") 0 e refl
below (a ∷ []) rest free named e = differ (take 4 (a ∷ 47 ∷ rest)) (codes "tmp/") 1 e refl
below (a ∷ b ∷ []) rest free named e = differ (take 4 (a ∷ b ∷ 47 ∷ rest)) (codes "tmp/") 2 e refl
below (a ∷ b ∷ c ∷ []) rest free named e =
    let store : a ∷ b ∷ c ∷ [] ≡ codes "tmp" = ap (take 3) e in
    true≢false (sym (ap is_reserved store) ∙ free)
below (a ∷ b ∷ c ∷ d ∷ store) rest free named e =
    let fourth : d ≡ 47 = ap (λ (t : List ℕ). get_or t 3 0) e in
    let bytes = both (is_name_byte a) (is_name_byte b && (is_name_byte c && (is_name_byte d && list_all is_name_byte store))) named in
    let more = both (is_name_byte b) (is_name_byte c && (is_name_byte d && list_all is_name_byte store)) bytes.1 in
    let even = both (is_name_byte c) (is_name_byte d && list_all is_name_byte store) more.1 in
    let last = both (is_name_byte d) (list_all is_name_byte store) even.1 in
    let not_slash : eqb d 47 ≡ false = no_slash d last.0 in
    grind (arith, nat_tests)

pub outside : (store id e : List ℕ) → store_name_of store ≡ Ok store → IsOutsideTmp (volume_place store id ++ e)
unfolding volume_place
outside store id e is_store h =
    let parts = store_parts store is_store in
    let is = begins store id e in
    elim h [
      | inl tmp ↦
          let l = ap length tmp in
          let lf = folders_of-length (id_text id) in
          omega (arith, l, length-append (store ++ (folders_of (id_text id) ++ id_text id)) e, length-append store (folders_of (id_text id) ++ id_text id), length-append (folders_of (id_text id)) (id_text id))
      | inr under ↦ below store (drop 1 (folders_of (id_text id) ++ (id_text id ++ e))) parts.0 parts.3 (sym (ap (take 4) is) ∙ under)
    ]
