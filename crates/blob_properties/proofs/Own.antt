-- The properties of a blob of this product leave room for a mark: how long written texts can be.
use Rattle.std.proofs.Common.{◌≡◌, ℕ, zero, suc, ◌+◌, ◌-◌, ◌*◌, ◌/◌, ◌%◌, ◌^◌, ◌<◌, ◌≤◌, Bool, true, false, true≢false, ◌||◌, eqb, ltb, cond, List, [], ◌∷◌, ◌++◌, length, length-append, Option, Some, None, Result, Ok, Err, is_ok, decimal, codes, replicate, refl, sym, ap, ◌∙◌, subst, arith}
use Rattle.std.specs.List.{flat_map}
use Rattle.std.specs.Str.{chars, chars_after, continuation_len, lead_bits}
use Rattle.std.specs.Char.Escape.{encode_utf16}
use Rattle.std.proofs.lemmas.Fmt.{length-decimal-le}
use Rattle.std.proofs.lemmas.List.{length-replicate}
use Rattle.std.proofs.lemmas.Bool.Decides.{nat_tests}
use Rattle.hex.specs.Hex.{encode_lower, lower_digits}
use Rattle.hex.proofs.HexLemmas.{length-encode_with}
use Rattle.nx_base.specs.declared.name_err.NameErr.{NameErr}
use Rattle.nx_base.specs.declared.name_err.NameErr.TheVariants.{Empty, TooLong, BadByte}
use Rattle.nx_base.specs.Texts.{text_of}
use Rattle.nx_base.specs.Names.{name_of}
use Rattle.nx_base.specs.Paths.{path_of, slashed_of, after_slash, behind, good_len, unless_bad, bad_place, segments_of}
use Rattle.nx_base.specs.ContentTypes.{content_type_of}
use Rattle.java_props.specs.Kept.{Entries, put, value_of}
use Rattle.java_props.specs.Writing.{is_special, unit_text, char_text, guarded_text, key_text, value_chars, value_text, line_text, written}
use Rattle.blob_properties.specs.Keys.{path_key, type_key, repo_key, timestamp_key, sha1_key, size_key, deleted_key, date_key, reason_key}
use Rattle.blob_properties.specs.Props.{Props, IsProps, AreOthers}
use Rattle.blob_properties.specs.ToPairs.{plain_entries, marked_entries}
use Rattle.blob_properties.specs.Readable.{longest_text, HasRoom}
use Rattle.blob_properties.proofs.Puts.{written-put_new, value_of-others}
use Rattle.blob_properties.proofs.Round.{passes, own-path, own-type, own-repo, own-timestamp, own-sha1, own-size}
use Rattle.blob_properties.proofs.Lengths.{marked-text-length, mark_length, line-length}

-- ---- characters

units-length : (us : List ℕ) → length (flat_map unit_text us) ≡ 6 * length us
units-length [] = refl
units-length (u ∷ us) = let more = units-length us in omega (arith, length-append (unit_text u) (flat_map unit_text us))

either : (b : Bool) (x y : List ℕ) (n : ℕ) → length x ≤ n → length y ≤ n → length (cond b x y) ≤ n
either true x y n h k = h
either false x y n h k = k

-- a character has at most two units in UTF-16
utf16-length : (c : ℕ) → length (encode_utf16 c) ≤ 2
utf16-length c = either (ltb c 65536) (c ∷ []) ((0xD800 + (c - 65536) / 1024) ∷ (0xDC00 + (c - 65536) % 1024) ∷ []) 2 (omega arith) (omega arith)

escaped-length : (c : ℕ) → length (flat_map unit_text (encode_utf16 c)) ≤ 12
escaped-length c = let few = utf16-length c in omega (arith, units-length (encode_utf16 c))

char-length : (c : ℕ) → length (char_text c) ≤ 12
unfolding char_text
char-length c =
    let escaped = flat_map unit_text (encode_utf16 c) in
    let last = either (ltb c 32 || ltb 126 c) escaped (c ∷ []) 12 (escaped-length c) (omega arith) in
    let form = either (eqb c 12) (92 ∷ 102 ∷ []) _ 12 (omega arith) last in
    let return = either (eqb c 13) (92 ∷ 114 ∷ []) _ 12 (omega arith) form in
    let feed = either (eqb c 10) (92 ∷ 110 ∷ []) _ 12 (omega arith) return in
    let tab = either (eqb c 9) (92 ∷ 116 ∷ []) _ 12 (omega arith) feed in
    either (is_special c) (92 ∷ c ∷ []) _ 12 (omega arith) tab

guarded-length : (c : ℕ) → length (guarded_text c) ≤ 12
guarded-length c = either (eqb c 32) (92 ∷ 32 ∷ []) (char_text c) 12 (omega arith) (char-length c)

all-length : (f : ℕ → List ℕ) → ((c : ℕ) → length (f c) ≤ 12) → (cs : List ℕ) → length (flat_map f cs) ≤ 12 * length cs
all-length f h [] = omega arith
all-length f h (c ∷ cs) =
    let here = h c in
    let more = all-length f h cs in
    omega (arith, length-append (f c) (flat_map f cs))

after-length : (n c : ℕ) (bs : List ℕ) → length (chars_after n c bs) ≤ 1 + length bs
after-length zero c [] = omega arith
after-length zero c (b ∷ bs) = let more = after-length (continuation_len b) (lead_bits b) bs in omega arith
after-length (suc n) c [] = omega arith
after-length (suc n) c (b ∷ bs) = let more = after-length n (c * 64 + (b - 128)) bs in omega arith

chars-length : (bs : List ℕ) → length (chars bs) ≤ length bs
unfolding chars
chars-length [] = omega arith
chars-length (b ∷ bs) = let more = after-length (continuation_len b) (lead_bits b) bs in omega arith

value_chars-length : (cs : List ℕ) → length (value_chars cs) ≤ 12 * length cs
value_chars-length [] = omega arith
value_chars-length (c ∷ cs) =
    let here = guarded-length c in
    let more = all-length char_text char-length cs in
    omega (arith, length-append (guarded_text c) (flat_map char_text cs))

-- a text is written in at most twelve times as many bytes
value-length : (v : List ℕ) → length (value_text v) ≤ 12 * length v
unfolding value_text
value-length v = let few = chars-length v in let all = value_chars-length (chars v) in omega arith

key-length : (k : List ℕ) → length (key_text k) ≤ 12 * length k
unfolding key_text
key-length k = let few = chars-length k in let all = all-length guarded_text guarded-length (chars k) in omega arith

line-short : (k v : List ℕ) → length (line_text (k, v)) ≤ 12 * length k + 12 * length v + 2
line-short k v = let a = key-length k in let b = value-length v in omega (arith, line-length k v)

-- ---- the texts of properties

past : {A B : Type 0} (refused : Bool) (e : B) (answer : Result A B) → is_ok (cond refused (Err e) answer) ≡ true → (refused ≡ false) × (is_ok answer ≡ true)
past true e answer h = absurd (true≢false (sym h))
past false e answer h = (refl, h)

name-short : (most good : ℕ) (text : List ℕ) → text_of most good text ≡ Ok text → length text ≤ most
name-short most good text h =
    let bytes = cond (ltb good (length text)) (Err (BadByte good)) (Ok text) in
    let some = past (eqb (length text) 0) Empty (cond (ltb most (length text)) (Err (TooLong (length text))) bytes) (ap is_ok h) in
    let short = past (ltb most (length text)) (TooLong (length text)) bytes some.1 in
    let e : ltb most (length text) ≡ false = short.0 in
    grind (arith, nat_tests)

slashed-short : (most : ℕ) (text : List ℕ) → is_ok (slashed_of most text) ≡ true → length text ≤ most
unfolding slashed_of
slashed-short most text h =
    let bytes = cond (ltb (good_len text) (length text)) (Err (BadByte (good_len text))) (unless_bad text (bad_place 0 (segments_of text))) in
    let some = past (eqb (length text) 0) Empty (cond (ltb most (length text)) (Err (TooLong (length text))) bytes) h in
    let short = past (ltb most (length text)) (TooLong (length text)) bytes some.1 in
    let e : ltb most (length text) ≡ false = short.0 in
    grind (arith, nat_tests)

read-behind : (prefix : ℕ) (part : Result (List ℕ) NameErr) (text : List ℕ) → behind prefix part ≡ Ok text → is_ok part ≡ true
read-behind prefix (Ok t) text h = refl
read-behind prefix (Err e) text h = absurd (true≢false (sym (ap is_ok h)))

after_slash-length : (text : List ℕ) → length text ≤ length (after_slash text) + 1
after_slash-length [] = omega arith
after_slash-length (b ∷ text) = by_test (eqb b 47) where
  by_test : (t : Bool) → length (b ∷ text) ≤ length (cond t text (b ∷ text)) + 1
  by_test true = omega arith
  by_test false = omega arith

path-short : (text : List ℕ) → path_of text ≡ Ok text → length text ≤ 513
path-short text h =
    let short = slashed-short 512 (after_slash text) (read-behind (length text - length (after_slash text)) (slashed_of 512 (after_slash text)) text h) in
    let slash = after_slash-length text in
    omega arith

-- ---- the six lines

-- the lines without a mark
plain-written : (props : Props) → AreOthers props.others
    → length (written (plain_entries props))
    ≡ length (written props.others) + length (line_text (path_key, props.key.path)) + length (line_text (type_key, props.content_type)) + length (line_text (repo_key, props.key.repo))
    + length (line_text (timestamp_key, decimal props.timestamp)) + length (line_text (sha1_key, encode_lower props.sha1)) + length (line_text (size_key, decimal props.size))
unfolding plain_entries
plain-written props are =
    let one = put path_key props.key.path props.others in
    let two = put type_key props.content_type one in
    let three = put repo_key props.key.repo two in
    let four = put timestamp_key (decimal props.timestamp) three in
    let five = put sha1_key (encode_lower props.sha1) four in
    let a = written-put_new path_key props.key.path props.others (value_of-others path_key props.others own-path are) in
    let b = written-put_new type_key props.content_type one (passes path_key type_key props.key.path props.others refl ∙ value_of-others type_key props.others own-type are) in
    let c = written-put_new repo_key props.key.repo two
    (passes type_key repo_key props.content_type one refl ∙ passes path_key repo_key props.key.path props.others refl ∙ value_of-others repo_key props.others own-repo are) in
    let d = written-put_new timestamp_key (decimal props.timestamp) three
    (passes repo_key timestamp_key props.key.repo two refl ∙ passes type_key timestamp_key props.content_type one refl ∙ passes path_key timestamp_key props.key.path props.others refl ∙ value_of-others timestamp_key props.others own-timestamp are) in
    let e = written-put_new sha1_key (encode_lower props.sha1) four
    (passes timestamp_key sha1_key (decimal props.timestamp) three refl ∙ passes repo_key sha1_key props.key.repo two refl ∙ passes type_key sha1_key props.content_type one refl ∙ passes path_key sha1_key props.key.path props.others refl ∙ value_of-others sha1_key props.others own-sha1 are) in
    let f = written-put_new size_key (decimal props.size) five
    (passes sha1_key size_key (encode_lower props.sha1) four refl ∙ passes timestamp_key size_key (decimal props.timestamp) three refl ∙ passes repo_key size_key props.key.repo two refl ∙ passes type_key size_key props.content_type one refl ∙ passes path_key size_key props.key.path props.others refl ∙ value_of-others size_key props.others own-size are) in
    omega arith

nothing-written : (e : Entries) → e ≡ [] → length (written e) ≡ 0
unfolding written
nothing-written e h = ap (λ (x : Entries). length (flat_map line_text x)) h

-- a blob without other pairs has room
pub own-room : (props : Props) → IsProps props → props.others ≡ [] → HasRoom props
unfolding longest_text
own-room props is none =
    let lines = plain-written props is.in_range.3 in
    let no_others = nothing-written props.others none in
    let count = ap length none in
    let path = path-short props.key.path is.path in
    let content_type = name-short 255 _ props.content_type is.content_type in
    let repo = name-short 64 _ props.key.repo is.repo in
    let timestamp_small = is.in_range.1 in
    let size_small = is.in_range.0 in
    let timestamp = length-decimal-le 15 props.timestamp (omega arith) (omega arith) (omega arith) in
    let size = length-decimal-le 19 props.size (omega arith) (omega arith) (omega arith) in
    let sha1_length = is.sha1_length in
    let sha1 = length-encode_with lower_digits props.sha1 in
    let a = line-short path_key props.key.path in
    let b = line-short type_key props.content_type in
    let c = line-short repo_key props.key.repo in
    let d = line-short timestamp_key (decimal props.timestamp) in
    let e = line-short sha1_key (encode_lower props.sha1) in
    let f = line-short size_key (decimal props.size) in
    let g = line-short deleted_key (codes "true") in
    let h = line-short date_key (replicate 15 57) in
    let i = line-short reason_key (replicate 100 120) in
    let j = length-replicate {A = ℕ} 15 57 in
    let k = length-replicate {A = ℕ} 100 120 in
    let whole = marked-text-length props (replicate 15 57) (replicate 100 120) is.in_range.3 in
    record { pairs = omega arith; bytes = omega arith }
