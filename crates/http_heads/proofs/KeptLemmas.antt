-- One more field in the map.
use Rattle.std.proofs.Common.{◌≡◌, ◌≢◌, ℕ, ◌+◌, ◌<◌, ◌≤◌, Bool, true, false, cond, List, [], ◌∷◌, ◌++◌, length, get_or, take, map, bytes_eq, refl, sym, ap, subst, ◌∙◌, arith, inl, inr}
use Rattle.std.specs.List.{filter}
use Rattle.std.specs.Char.{to_ascii_lowercase}
use Rattle.std.proofs.lemmas.Bool.{cases_Bool}
use Rattle.std.proofs.lemmas.List.Sums.{sum_by-cons}
use Rattle.std.proofs.lemmas.List.{take_more, map-append, length-append, append-nil}
use Rattle.std.proofs.lemmas.Slice.Eq.{bytes_eq-Decides}
use Rattle.http_header.specs.FieldValue.{FieldValue, plain_value}
use Rattle.http_header.specs.HeaderMap.{Entries, get_all, append, value_count}
use Rattle.http_header.specs.Token.{lowercase}
use Rattle.http_header.proofs.HeaderMapLemmas.{get_all-append_same, get_all-append_other}
use Rattle.httparse.specs.declared.spans.HeaderSpan.{HeaderSpan}
use Rattle.httparse.specs.Spans.{header_bytes}
use Rattle.http_heads.specs.Fields.{Pair, same_word, values_of}
use Rattle.http_heads.specs.Kept.{values_under, KeepsFields}

pub length-append_le : (m : Entries FieldValue) (name : List ℕ) (value : FieldValue) → length (append m name value) ≤ length m + 1
length-append_le [] name value = omega arith
length-append_le (e ∷ m) name value = by (bytes_eq e.0 name) (length-append_le m name value)
  where
    by : (b : Bool) → length (append m name value) ≤ length m + 1 → length (cond b ((e.0, e.1 ++ value ∷ []) ∷ m) (e ∷ append m name value)) ≤ length (e ∷ m) + 1
    by true rest = omega arith
    by false rest = omega (arith, rest)

pub value_count-append : (m : Entries FieldValue) (name : List ℕ) (value : FieldValue) → value_count (append m name value) ≡ value_count m + 1
value_count-append [] name value = refl
value_count-append (e ∷ m) name value = by (bytes_eq e.0 name) (value_count-append m name value)
  where
    by : (b : Bool) → value_count (append m name value) ≡ value_count m + 1 → value_count (cond b ((e.0, e.1 ++ value ∷ []) ∷ m) (e ∷ append m name value)) ≡ value_count (e ∷ m) + 1
    by true rest =
        let head : (f : List ℕ × List FieldValue) → value_count (f ∷ m) ≡ length f.1 + value_count m = λ f. sum_by-cons (λ (x : List ℕ × List FieldValue). length x.1) f m in
        let both : value_count ((e.0, e.1 ++ value ∷ []) ∷ m) ≡ value_count (e ∷ m) + 1 = omega (arith, head e, head (e.0, e.1 ++ value ∷ []), length-append e.1 (value ∷ [])) in
        both
    by false rest =
        let head : (k : Entries FieldValue) → value_count (e ∷ k) ≡ length e.1 + value_count k = λ k. sum_by-cons (λ (x : List ℕ × List FieldValue). length x.1) e k in
        let both : value_count (e ∷ append m name value) ≡ value_count (e ∷ m) + 1 = omega (arith, head m, head (append m name value), rest) in
        both

filter-push : (p : Pair → Bool) (fields : List Pair) (field : Pair) → filter p (fields ++ field ∷ []) ≡ filter p fields ++ cond (p field) (field ∷ []) []
filter-push p [] field = by (p field)
  where
    by : (b : Bool) → cond b (field ∷ []) [] ≡ [] ++ cond b (field ∷ []) []
    by true = refl
    by false = refl
filter-push p (f ∷ fields) field = by (p f) (filter-push p fields field)
  where
    by : (b : Bool) → filter p (fields ++ field ∷ []) ≡ filter p fields ++ cond (p field) (field ∷ []) [] → cond b (f ∷ filter p (fields ++ field ∷ [])) (filter p (fields ++ field ∷ [])) ≡ cond b (f ∷ filter p fields) (filter p fields) ++ cond (p field) (field ∷ []) []
    by true rest = ap (λ (fs : List Pair). f ∷ fs) rest
    by false rest = rest

values_of-push_yes : (name : List ℕ) (fields : List Pair) (field : Pair) → same_word field.0 name ≡ true → values_of name (fields ++ field ∷ []) ≡ values_of name fields ++ field.1 ∷ []
unfolding values_of
values_of-push_yes name fields field e =
    ap (λ (fs : List Pair). map (λ (f : Pair). f.1) fs) (filter-push (λ (f : Pair). same_word f.0 name) fields field ∙ ap (λ (b : Bool). filter (λ (f : Pair). same_word f.0 name) fields ++ cond b (field ∷ []) []) e)
    ∙ map-append (λ (f : Pair). f.1) (filter (λ (f : Pair). same_word f.0 name) fields) (field ∷ [])

values_of-push_no : (name : List ℕ) (fields : List Pair) (field : Pair) → same_word field.0 name ≡ false → values_of name (fields ++ field ∷ []) ≡ values_of name fields
unfolding values_of
values_of-push_no name fields field e =
    ap (λ (fs : List Pair). map (λ (f : Pair). f.1) fs) (filter-push (λ (f : Pair). same_word f.0 name) fields field ∙ ap (λ (b : Bool). filter (λ (f : Pair). same_word f.0 name) fields ++ cond b (field ∷ []) []) e)
    ∙ map-append (λ (f : Pair). f.1) (filter (λ (f : Pair). same_word f.0 name) fields) []
    ∙ append-nil (map (λ (f : Pair). f.1) (filter (λ (f : Pair). same_word f.0 name) fields))

texts : List FieldValue → List (List ℕ)
texts values = map (λ (v : FieldValue). v.bytes) values

-- the map keeps one more field
pub keeps_more : (m : Entries FieldValue) (fields : List Pair) (field : Pair) → KeepsFields m fields → KeepsFields (append m (lowercase field.0) (plain_value field.1)) (fields ++ field ∷ [])
unfolding texts
keeps_more m fields field keeps name lower =
    elim (cases_Bool (same_word field.0 name)) [
      | inl same_name ↦
          let same : lowercase field.0 ≡ name = (bytes_eq-Decides (lowercase field.0) (lowercase name)).0 same_name ∙ lower in
          let all = ap texts (get_all-append_same m (lowercase field.0) (plain_value field.1)) ∙ map-append (λ (v : FieldValue). v.bytes) (get_all m (lowercase field.0)) (plain_value field.1 ∷ []) in
          let at_name : values_under name (append m (lowercase field.0) (plain_value field.1)) ≡ values_under name m ++ field.1 ∷ [] =
          subst (λ (n : List ℕ). values_under n (append m (lowercase field.0) (plain_value field.1)) ≡ values_under n m ++ field.1 ∷ []) same all in
          at_name ∙ ap (λ (vs : List (List ℕ)). vs ++ field.1 ∷ []) (keeps name lower) ∙ sym (values_of-push_yes name fields field same_name)
      | inr other_name ↦
          let other : lowercase field.0 ≢ name = λ e. differ field.0 name lower e other_name in
          ap texts (get_all-append_other m (lowercase field.0) name (plain_value field.1) other) ∙ keeps name lower ∙ sym (values_of-push_no name fields field other_name)
    ]
  where
    differ : (text name : List ℕ) → map to_ascii_lowercase name ≡ name → lowercase text ≡ name → same_word text name ≡ false → ⊥
    differ text name lower e unequal =
        let equal : same_word text name ≡ true = (bytes_eq-Decides (lowercase text) (lowercase name)).1 (e ∙ sym lower) in
        let clash : true ≡ false = sym equal ∙ unequal in
        cc

-- the fields so far, one on
pub fields_more : (text : List ℕ) (fields : List HeaderSpan) (i : ℕ) (d : HeaderSpan) → i < length fields
    → map (header_bytes text) (take (i + 1) fields) ≡ map (header_bytes text) (take i fields) ++ header_bytes text (get_or fields i d) ∷ []
fields_more text fields i d lt = ap (λ (fs : List HeaderSpan). map (header_bytes text) fs) (take_more fields i d lt) ∙ map-append (header_bytes text) (take i fields) (get_or fields i d ∷ [])

pub keeps_nothing : KeepsFields [] []
unfolding values_of
keeps_nothing name lower = refl

abbrev pub zero_span : HeaderSpan
zero_span = record { name = record { start = 0; end = 0 }; value = record { start = 0; end = 0 } }
