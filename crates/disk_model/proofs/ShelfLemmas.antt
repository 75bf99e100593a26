-- The values of names in a map, and the log that they are tied to.
use Rattle.std.proofs.Common.{◌≡◌, ℕ, Bool, true, false, true≢false, cond, List, [], ◌∷◌, ◌++◌, Option, Some, None, Vec, refl, sym, ap, ◌∙◌, inl, inr}
use Rattle.std.specs.Prelude.{option_map, if◌then◌else◌}
use Rattle.std.specs.declared.alloc.Global.{Global}
use Rattle.std.specs.Ordering.{nat_cmp}
use Rattle.std.specs.Cmp.Lexicographic.{slice_cmp}
use Rattle.std.specs.Prelude.{String}
use Rattle.std.specs.String.{string_bytes, string_cmp}
use Rattle.std.specs.Str.{bytes_eq}
use Rattle.std.specs.BTreeMap.{BTreeMap, get_by_text, UpdatesBy}
use Rattle.std.proofs.lemmas.Map.Text.{btree_map_updates_text}
use Rattle.std.proofs.lemmas.Slice.Eq.{bytes_eq-Decides}
use Rattle.std.proofs.lemmas.Bool.{cases_Bool}
use Rattle.disk_model.specs.declared.memory.change.Change.{Change}
use Rattle.disk_model.specs.Past.{same_value, now_of, now_step}

bytes_eq-sym : (a b : List ℕ) → bytes_eq a b ≡ bytes_eq b a
bytes_eq-sym a b = elim (cases_Bool (bytes_eq a b)) [
  | inl same ↦ same ∙ sym ((bytes_eq-Decides b a).1 (sym ((bytes_eq-Decides a b).0 same)))
  | inr other ↦ elim (cases_Bool (bytes_eq b a)) [
    | inl same ↦ absurd (true≢false (sym ((bytes_eq-Decides a b).1 (sym ((bytes_eq-Decides b a).0 same))) ∙ other))
    | inr too ↦ other ∙ sym too
  ]
]

abbrev items_of : Option (Vec ℕ Global) → Option (List ℕ)
items_of o = option_map (λ v. v.items) o

picks : (b : Bool) (w o : Option (Vec ℕ Global)) → items_of (cond b w o) ≡ cond b (items_of w) (items_of o)
picks true w o = refl
picks false w o = refl

-- what a change of one key does to the values of all names
pub updated : (name : List ℕ) (m m' : BTreeMap (String Global) (Vec ℕ Global)) (w : Option (Vec ℕ Global))
    → UpdatesBy string_cmp (λ k. slice_cmp nat_cmp name (string_bytes k)) m m' w
    → (n : List ℕ) → items_of (get_by_text m' n) ≡ (if bytes_eq n name then items_of w else items_of (get_by_text m n))
updated name m m' w updates n =
    ap items_of (btree_map_updates_text name m m' w updates n)
    ∙ picks (bytes_eq name n) w (get_by_text m n)
    ∙ ap (λ (b : Bool). cond b (items_of w) (items_of (get_by_text m n))) (bytes_eq-sym name n)

-- ---- two values that are the same

pub same_value-eq : (a b : Option (List ℕ)) → same_value a b ≡ true → a ≡ b
same_value-eq None None same = refl
same_value-eq None (Some b) same = absurd (true≢false (sym same))
same_value-eq (Some a) None same = absurd (true≢false (sym same))
same_value-eq (Some a) (Some b) same = ap Some ((bytes_eq-Decides a b).0 same)

same_value-refl : (a : Option (List ℕ)) → same_value a a ≡ true
same_value-refl None = refl
same_value-refl (Some a) = (bytes_eq-Decides a a).1 refl

pub same_value-from : (a b : Option (List ℕ)) → a ≡ b → same_value a b ≡ true
same_value-from a b same = rw same (same_value-refl b)

-- ---- one more change

pub now_of-push : (n : List ℕ) (log : List Change) (c : Change) (v : Option (List ℕ)) → now_of n (log ++ c ∷ []) v ≡ now_step n c (now_of n log v)
now_of-push n [] c v = refl
now_of-push n (x ∷ log) c v = now_of-push n log c (now_step n x v)

-- values that follow each change stay tied to the log
pub tied_more : (old new first : Option (List ℕ)) (n : List ℕ) (log log' : List Change) (c : Change) → log' ≡ log ++ c ∷ []
    → new ≡ now_step n c old → same_value old (now_of n log first) ≡ true → same_value new (now_of n log' first) ≡ true
tied_more old new first n log log' c pushed stepped tied =
    same_value-from new (now_of n log' first)
    (stepped ∙ ap (now_step n c) (same_value-eq old (now_of n log first) tied) ∙ sym (now_of-push n log c first)
    ∙ ap (λ (l : List Change). now_of n l first) (sym pushed))
