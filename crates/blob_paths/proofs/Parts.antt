-- A name of a file as its four parts: the store, the folders, the text of an id, and an ending.
use Rattle.std.proofs.Common.{◌≡◌, ℕ, ◌+◌, List, [], ◌∷◌, ◌++◌, length, refl, sym, ap, ◌∙◌, append_assoc, arith, length-append, Result, Ok, Err, IfOk}
use Rattle.nx_base.specs.Ids.{id_text}
use Rattle.blob_paths.specs.declared.ending.Ending.{Ending}
use Rattle.blob_paths.specs.Places.{folders_of, volume_place, ending_of, file_at}
use Rattle.blob_paths.specs.Parts.{AreParts}
use Rattle.blob_paths.proofs.Named.{id_text-length, folders_of-length}

-- what holds of an Ok
pub on_ok : {T E : Type 0} {P Q : T → Type 0} (r : Result T E) → IfOk r P → ((x : T) → P x → Q x) → IfOk r Q
on_ok (Ok x) p f = f x p
on_ok (Err e) p f = tt

-- the place that the parts make
pub joined_place : (store id prefix folders text place : List ℕ) → prefix ≡ store ++ folders → folders ≡ folders_of text → text ≡ id_text id → place ≡ prefix ++ text
    → place ≡ volume_place store id
unfolding volume_place
joined_place store id prefix folders text place f g t p =
    p ∙ ap (λ (x : List ℕ). x ++ text) f ∙ append_assoc store folders text
    ∙ ap (λ (x : List ℕ). store ++ (x ++ text)) g ∙ ap (λ (x : List ℕ). store ++ (folders_of x ++ x)) t

-- two lists in front of others are the same where they are as long
pub split : {A : Type 0} (a b c d : List A) → length a ≡ length b → a ++ c ≡ b ++ d → (a ≡ b) × (c ≡ d)
split [] [] c d l e = (refl, e)
split [] (y ∷ b) c d l e = absurd (omega arith)
split (x ∷ a) [] c d l e = absurd (omega arith)
split (x ∷ a) (y ∷ b) c d l e =
    let rest : a ++ c ≡ b ++ d = cc in
    let head : x ≡ y = cc in
    let more = split a b c d (omega arith) rest in
    (let same = more.0 in cc, more.1)

-- the other grouping
pub regroup : (a b c d : List ℕ) → (a ++ (b ++ c)) ++ d ≡ a ++ (b ++ (c ++ d))
regroup a b c d = append_assoc a (b ++ c) d ∙ ap (λ (x : List ℕ). a ++ x) (append_assoc b c d)

-- the file with the parts of its name
pub file_from : (store id name prefix middle text end : List ℕ) (ending : Ending) → AreParts name prefix middle text end
    → prefix ≡ store → middle ≡ folders_of text → text ≡ id_text id → end ≡ ending_of ending → name ≡ file_at (volume_place store id) ending
unfolding volume_place
file_from store id name prefix middle text end ending parts f m t e =
    parts.whole
    ∙ ap (λ (x : List ℕ). x ++ (middle ++ (text ++ end))) f
    ∙ ap (λ (x : List ℕ). store ++ (x ++ (text ++ end))) m
    ∙ ap (λ (x : List ℕ). store ++ (folders_of x ++ (x ++ end))) t
    ∙ ap (λ (x : List ℕ). store ++ (folders_of (id_text id) ++ (id_text id ++ x))) e
    ∙ sym (regroup store (folders_of (id_text id)) (id_text id) (ending_of ending))

-- the parts of a file's name
pub file_parts : (store id name prefix middle text end : List ℕ) (ending : Ending) → AreParts name prefix middle text end
    → length prefix ≡ length store → name ≡ file_at (volume_place store id) ending
    → (prefix ≡ store) × (middle ≡ folders_of text) × (text ≡ id_text id) × (end ≡ ending_of ending)
unfolding volume_place
file_parts store id name prefix middle text end ending parts long is =
    let folders = folders_of (id_text id) in
    let first = split prefix store (middle ++ (text ++ end)) (folders ++ (id_text id ++ ending_of ending)) long
    (sym parts.whole ∙ is ∙ regroup store folders (id_text id) (ending_of ending)) in
    let second = split middle folders (text ++ end) (id_text id ++ ending_of ending) (parts.folders_length ∙ sym (folders_of-length (id_text id))) first.1 in
    let third = split text (id_text id) end (ending_of ending) (parts.text_length ∙ sym (id_text-length id)) second.1 in
    (first.0, second.0 ∙ ap folders_of (sym third.0), third.0, third.1)

pub file-length : (store id : List ℕ) (ending : Ending) → length (file_at (volume_place store id) ending) ≡ length store + 60 + length (ending_of ending)
unfolding volume_place
file-length store id ending =
    let f = folders_of-length (id_text id) in
    let t = id_text-length id in
    omega (arith, length-append (store ++ (folders_of (id_text id) ++ id_text id)) (ending_of ending), length-append store (folders_of (id_text id) ++ id_text id), length-append (folders_of (id_text id)) (id_text id))

-- the parts that a name is split into
pub split_parts : (name prefix rest middle others text end : List ℕ) → name ≡ prefix ++ rest → rest ≡ middle ++ others → others ≡ text ++ end
    → length middle ≡ 24 → length text ≡ 36 → AreParts name prefix middle text end
split_parts name prefix rest middle others text end n r o m t = record {
  whole = n ∙ ap (λ (x : List ℕ). prefix ++ x) (r ∙ ap (λ (x : List ℕ). middle ++ x) o);
  folders_length = m;
  text_length = t;
}
