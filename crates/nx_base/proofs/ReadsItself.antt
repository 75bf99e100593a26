-- A text that is kept reads as itself.
use Rattle.std.proofs.Common.{◌≡◌, ℕ, Bool, true, false, true≢false, if◌then◌else◌, ◌==◌, nat_lt, List, [], ◌∷◌, length, Option, Some, None, Result, Ok, Err, is_ok, is_some, refl, sym, ap, ◌∙◌}
use Rattle.nx_base.specs.declared.name_err.NameErr.{NameErr}
use Rattle.nx_base.specs.declared.name_err.NameErr.TheVariants.{Empty, TooLong, BadByte}
use Rattle.nx_base.specs.Texts.{text_of}
use Rattle.nx_base.specs.Names.{name_of, is_name, is_reserved, store_name_of, is_store_name, is_name_byte}
use Rattle.nx_base.specs.ContentTypes.{content_type_of, is_content_type, good_type_len}
use Rattle.nx_base.specs.Paths.{slashed_of, unless_bad, good_len, bad_place, segments_of, is_path, path_of, after_slash, onto_first, file_name_of, is_file_name}
use Rattle.std.specs.List.{prefix_len}

-- an answer that is an Ok isn't the refusal in front
past : {A : Type 0} (refused : Bool) (e : NameErr) (answer : Result A NameErr) → is_ok (if refused then Err e else answer) ≡ true
    → ((if refused then Err e else answer) ≡ answer) × (is_ok answer ≡ true)
past true e answer ok = absurd (true≢false (sym ok))
past false e answer ok = (refl, ok)

text_of-same : (most good : ℕ) (text : List ℕ) → is_ok (text_of most good text) ≡ true → text_of most good text ≡ Ok text
text_of-same most good text ok =
    let some = past (length text == 0) Empty (if nat_lt most (length text) then Err (TooLong (length text)) else (if nat_lt good (length text) then Err (BadByte good) else Ok text)) ok in
    let short = past (nat_lt most (length text)) (TooLong (length text)) (if nat_lt good (length text) then Err (BadByte good) else Ok text) some.1 in
    some.0 ∙ short.0 ∙ (past (nat_lt good (length text)) (BadByte good) (Ok text) short.1).0

pub name_of-same : (text : List ℕ) → is_name text ≡ true → name_of text ≡ Ok text
name_of-same text = text_of-same 64 (prefix_len is_name_byte text) text

pub store_name_of-same : (text : List ℕ) → is_store_name text ≡ true → store_name_of text ≡ Ok text
store_name_of-same text ok =
    let free = past (is_reserved text) (BadByte 0) (name_of text) ok in
    free.0 ∙ name_of-same text free.1

pub content_type_of-same : (text : List ℕ) → is_content_type text ≡ true → content_type_of text ≡ Ok text
content_type_of-same text = text_of-same 255 (good_type_len text) text

unless_bad-same : (text : List ℕ) (bad : Option ℕ) → is_ok (unless_bad text bad) ≡ true → (unless_bad text bad ≡ Ok text) × (bad ≡ None)
unless_bad-same text None ok = (refl, refl)
unless_bad-same text (Some at) ok = absurd (true≢false (sym ok))

slashed : (most : ℕ) (text : List ℕ) → is_ok (slashed_of most text) ≡ true → (slashed_of most text ≡ Ok text) × (bad_place 0 (segments_of text) ≡ None)
unfolding slashed_of
slashed most text ok =
    let last = unless_bad text (bad_place 0 (segments_of text)) in
    let some = past (length text == 0) Empty (if nat_lt most (length text) then Err (TooLong (length text)) else (if nat_lt (good_len text) (length text) then Err (BadByte (good_len text)) else last)) ok in
    let short = past (nat_lt most (length text)) (TooLong (length text)) (if nat_lt (good_len text) (length text) then Err (BadByte (good_len text)) else last) some.1 in
    let bytes = past (nat_lt (good_len text) (length text)) (BadByte (good_len text)) last short.1 in
    let segments = unless_bad-same text (bad_place 0 (segments_of text)) bytes.1 in
    (some.0 ∙ short.0 ∙ bytes.0 ∙ segments.0, segments.1)

pub file_name_of-same : (text : List ℕ) → is_file_name text ≡ true → file_name_of text ≡ Ok text
file_name_of-same text ok = (slashed 1000 text ok).0

-- a slash in front would end an empty segment
stays : (slash : Bool) (b : ℕ) (path : List ℕ) → bad_place 0 (if slash then [] ∷ segments_of path else onto_first b (segments_of path)) ≡ None
    → (if slash then path else b ∷ path) ≡ b ∷ path
unfolding bad_place
stays true b path good = absurd (true≢false (ap is_some good))
stays false b path good = refl

no_slash : (path : List ℕ) → bad_place 0 (segments_of path) ≡ None → after_slash path ≡ path
unfolding segments_of
no_slash [] good = refl
no_slash (b ∷ path) good = stays (b == 47) b path good

pub path_of-same : (path : List ℕ) → is_path path ≡ true → path_of path ≡ Ok path
path_of-same path ok =
    let read = slashed 512 path ok in
    let same : after_slash path ≡ path = no_slash path read.1 in
    rw (same, read.0) refl
