-- How long written texts are, and that there is room for a mark.
use Rattle.std.proofs.Common.{slice_index, ◌≡◌, ◌≢◌, ℕ, zero, suc, ◌+◌, ◌*◌, ◌^◌, ◌<◌, ◌≤◌, Bool, true, false, true≢false, not, ◌&&◌, ◌||◌, eqb, ltb, cond, List, [], ◌∷◌, ◌++◌, length, length-append, Option, Some, None, is_some, Result, Ok, Err, decimal, codes, replicate, refl, sym, ap, ◌∙◌, subst, arith}
use Rattle.std.specs.Prelude.{nat_le}
use Rattle.std.specs.List.{flat_map, list_all}
use Rattle.std.specs.Str.{chars}
use Rattle.std.specs.Str.Parse.{AllDigits}
use Rattle.std.specs.Char.{is_ascii_digit}
use Rattle.std.specs.Char.Escape.{encode_utf16}
use Rattle.std.proofs.lemmas.List.{length-replicate}
use Rattle.std.proofs.lemmas.Str.{chars-IsAscii}
use Rattle.std.proofs.lemmas.Fmt.{decimal_is_IsNumeral, length-decimal-le}
use Rattle.std.proofs.lemmas.Bool.Decides.{nat_tests}
use Rattle.std.proofs.Common.{◌⊎◌, inl, inr, take, min}
use Rattle.std.proofs.lemmas.Bool.{cases_lt}
use Rattle.std.proofs.lemmas.List.{take_all}
use Rattle.std.proofs.Math.ListN.{length-take}
use Rattle.java_props.specs.declared.PropsErr.TheVariants.{TooLong}
use Rattle.java_props.specs.declared.PropsErr.{PropsErr}
use Rattle.java_props.specs.Kept.{Entries, put, value_of}
use Rattle.java_props.specs.Reading.{Reads, reading}
use Rattle.java_props.specs.Writing.{is_special, char_text, guarded_text, key_text, value_chars, value_text, line_text, written}
use Rattle.blob_properties.specs.Keys.{deleted_key, date_key, reason_key}
use Rattle.blob_properties.specs.Props.{Props, IsProps, IsInRange, AreOthers, with_mark, without_mark}
use Rattle.blob_properties.specs.declared.blob_props_err.BlobPropsErr.{BlobPropsErr}
use Rattle.blob_properties.specs.declared.blob_props_err.BlobPropsErr.TheVariants.{Missing, BadValue, NoMemory}
use Rattle.blob_properties.specs.FromPairs.{Refusal, Gives, props_of}
use Rattle.blob_properties.specs.ToPairs.{plain_entries, marked_entries, with_deleted, entries_of}
use Rattle.blob_properties.specs.Plain.{is_plain, IsPlain}
use Rattle.blob_properties.specs.Readable.{longest_text, HasRoom, has_room, if_room, from_pairs, readable_of, text_of}
use Rattle.blob_properties.proofs.Puts.{both, written-put_new}
use Rattle.blob_properties.proofs.Numbers.{and_true, digits_all}
use Rattle.blob_properties.proofs.Round.{passes, no-mark, said_back}

-- ---- values that are written as they are

plain-char : (b : ℕ) → is_plain b ≡ true → char_text b ≡ b ∷ []
unfolding char_text
plain-char b h =
    let parts = both (nat_le 32 b) (nat_le b 126 && not (is_special b)) h in
    let more = both (nat_le b 126) (not (is_special b)) parts.1 in
    let low = parts.0 in
    let high = more.0 in
    let special : is_special b ≡ false = negated (is_special b) more.1 in
    let tab : eqb b 9 ≡ false = grind (arith, nat_tests) in
    let feed : eqb b 10 ≡ false = grind (arith, nat_tests) in
    let return : eqb b 13 ≡ false = grind (arith, nat_tests) in
    let form : eqb b 12 ≡ false = grind (arith, nat_tests) in
    let below : ltb b 32 ≡ false = grind (arith, nat_tests) in
    let above : ltb 126 b ≡ false = grind (arith, nat_tests) in
    rw (special, tab, feed, return, form, below, above) refl where
      negated : (x : Bool) → not x ≡ true → x ≡ false
      negated true k = absurd (true≢false (sym k))
      negated false k = refl

plain-guarded : (b : ℕ) → is_plain b ≡ true → b ≢ 32 → guarded_text b ≡ b ∷ []
plain-guarded b h other =
    let space : eqb b 32 ≡ false = grind (arith, nat_tests) in
    rw space (plain-char b h)

plain-chars : (text : List ℕ) → list_all is_plain text ≡ true → flat_map char_text text ≡ text
plain-chars [] h = refl
plain-chars (b ∷ text) h =
    let parts = both (is_plain b) (list_all is_plain text) h in
    rw (plain-char b parts.0, plain-chars text parts.1) refl

plain-ascii : (text : List ℕ) → list_all is_plain text ≡ true → (at : ℕ) → slice_index text at < 128
plain-ascii [] h at = omega arith
plain-ascii (b ∷ text) h zero =
    let parts = both (nat_le 32 b) (nat_le b 126 && not (is_special b)) (both (is_plain b) (list_all is_plain text) h).0 in
    let high = (both (nat_le b 126) (not (is_special b)) parts.1).0 in
    grind (arith, nat_tests)
plain-ascii (b ∷ text) h (suc at) = plain-ascii text (both (is_plain b) (list_all is_plain text) h).1 at

-- a plain text is written as it is
pub plain-value : (text : List ℕ) → IsPlain text → value_text text ≡ text
unfolding value_text
plain-value text plain = ap value_chars (chars-IsAscii text (plain-ascii text plain.bytes)) ∙ by_first text plain.bytes plain.first where
  by_first : (text : List ℕ) → list_all is_plain text ≡ true → slice_index text 0 ≢ 32 → value_chars text ≡ text
  by_first [] h other = refl
  by_first (b ∷ text) h other =
      let parts = both (is_plain b) (list_all is_plain text) h in
      rw (plain-guarded b parts.0 other, plain-chars text parts.1) refl

digit-plain : (b : ℕ) → is_ascii_digit b ≡ true → is_plain b ≡ true
digit-plain b h = grind (arith, nat_tests)

digits-plain : (text : List ℕ) → list_all is_ascii_digit text ≡ true → list_all is_plain text ≡ true
digits-plain [] h = refl
digits-plain (b ∷ text) h =
    let parts = both (is_ascii_digit b) (list_all is_ascii_digit text) h in
    and_true (is_plain b) (list_all is_plain text) (digit-plain b parts.0) (digits-plain text parts.1)

digits-first : (text : List ℕ) → list_all is_ascii_digit text ≡ true → slice_index text 0 ≢ 32
digits-first [] h e = omega arith
digits-first (b ∷ text) h e =
    let digit = (both (is_ascii_digit b) (list_all is_ascii_digit text) h).0 in
    grind (arith, nat_tests)

-- a time is written in at most fifteen bytes
pub date-length : (at : ℕ) → at < 2 ^ 48 → length (value_text (decimal at)) ≤ 15
date-length at small =
    let numeral = (decimal_is_IsNumeral at (omega arith)).0 in
    let digits = digits_all (decimal at) numeral.1 in
    let same = plain-value (decimal at) (record { bytes = digits-plain (decimal at) digits; first = digits-first (decimal at) digits }) in
    let short = length-decimal-le 15 at (omega arith) (omega arith) (omega arith) in
    subst (λ (t : List ℕ). length t ≤ 15) (sym same) short

copies-plain : (n b : ℕ) → is_plain b ≡ true → list_all is_plain (replicate n b) ≡ true
copies-plain zero b h = refl
copies-plain (suc n) b h = and_true (is_plain b) (list_all is_plain (replicate n b)) h (copies-plain n b h)

copies-first : (n b : ℕ) → b ≢ 32 → slice_index (replicate n b) 0 ≢ 32
copies-first zero b other e = omega arith
copies-first (suc n) b other e = other e

copies-length : (n b : ℕ) → is_plain b ≡ true → b ≢ 32 → length (value_text (replicate n b)) ≡ n
copies-length n b h other =
    ap length (plain-value (replicate n b) (record { bytes = copies-plain n b h; first = copies-first n b other })) ∙ length-replicate n b

-- ---- the lines of a mark

pub line-length : (k v : List ℕ) → length (line_text (k, v)) ≡ length (key_text k) + length (value_text v) + 2
line-length k v = omega (arith, length-append (key_text k ++ 61 ∷ value_text v) (10 ∷ []), length-append (key_text k) (61 ∷ value_text v))

-- what a mark adds to the written text
abbrev pub mark_length : List ℕ → List ℕ → ℕ
mark_length date reason = length (line_text (deleted_key, codes "true")) + length (line_text (date_key, date)) + length (line_text (reason_key, reason))

pub marked-text-length : (props : Props) (date reason : List ℕ) → AreOthers props.others
    → length (written (marked_entries date reason (plain_entries props))) ≡ length (written (plain_entries props)) + mark_length date reason
unfolding marked_entries
marked-text-length props date reason are =
    let e = plain_entries props in
    let none = no-mark props are in
    let said = put deleted_key (codes "true") e in
    let dated = put date_key date said in
    let a = written-put_new deleted_key (codes "true") e none.0 in
    let b = written-put_new date_key date said (passes deleted_key date_key (codes "true") e refl ∙ none.1) in
    let c = written-put_new reason_key reason dated (passes date_key reason_key date said refl ∙ passes deleted_key reason_key (codes "true") e refl ∙ none.2) in
    omega arith

-- the longest mark is at least as long as another one
longest : (date reason : List ℕ) → length (value_text date) ≤ 15 → length (value_text reason) ≤ 100
    → mark_length date reason ≤ mark_length (replicate 15 57) (replicate 100 120)
longest date reason short brief =
    let a = copies-length 15 57 refl (λ e. omega arith) in
    let b = copies-length 100 120 refl (λ e. omega arith) in
    omega (arith, a, b, line-length date_key date, line-length date_key (replicate 15 57), line-length reason_key reason, line-length reason_key (replicate 100 120))

-- the text with a mark is no longer than the one with the longest mark
pub marked-fits : (props : Props) (date reason : List ℕ) → AreOthers props.others → length (value_text date) ≤ 15 → length (value_text reason) ≤ 100 → HasRoom props
    → length (written (marked_entries date reason (plain_entries props))) ≤ 65536
unfolding longest_text
marked-fits props date reason are short brief room =
    let bytes = room.bytes in
    let a = marked-text-length props date reason are in
    let b = marked-text-length props (replicate 15 57) (replicate 100 120) are in
    let c = longest date reason short brief in
    omega arith

pub plain-fits : (props : Props) → AreOthers props.others → HasRoom props → length (written (plain_entries props)) ≤ 65536
unfolding longest_text
plain-fits props are room =
    let bytes = room.bytes in
    let b = marked-text-length props (replicate 15 57) (replicate 100 120) are in
    omega arith

-- ---- readable texts

room-test : (props : Props) → HasRoom props → has_room props ≡ true
room-test props room =
    let pairs = room.pairs in
    let bytes = room.bytes in
    let a : nat_le (length props.others) 247 ≡ true = grind (arith, nat_tests) in
    let b : nat_le (length (longest_text props)) 65536 ≡ true = grind (arith, nat_tests) in
    rw (a, b) refl

test-room : (props : Props) → has_room props ≡ true → HasRoom props
test-room props h =
    let parts = both (nat_le (length props.others) 247) (nat_le (length (longest_text props)) 65536) h in
    let a = parts.0 in
    let b = parts.1 in
    record { pairs = grind (arith, nat_tests); bytes = grind (arith, nat_tests) }

-- a text that says pairs, which say properties that leave room
pub is_readable : (text : List ℕ) (pairs : Entries) (props : Props) → Reads text pairs → props_of pairs ≡ Ok props → HasRoom props → readable_of text ≡ Some props
unfolding readable_of
is_readable text pairs props reads says room =
    ap from_pairs reads ∙ ap if_room says ∙ ap (λ (b : Bool). cond b (Some props) None) (room-test props room)

pub bad_text : (text : List ℕ) (e : PropsErr) → reading text ≡ Err e → readable_of text ≡ None
unfolding readable_of
bad_text text e refused = ap from_pairs refused

-- readable properties leave room
pub readable-room : (text : List ℕ) (props : Props) → readable_of text ≡ Some props → HasRoom props
unfolding readable_of
readable-room text props h = by_pairs (reading text) h where
  by_props : (r : Result Props Refusal) → if_room r ≡ Some props → HasRoom props
  by_props (Ok other) k = by_test (has_room other) refl k where
    by_test : (b : Bool) → has_room other ≡ b → cond b (Some other) None ≡ Some props → HasRoom props
    by_test true t k = let same : other ≡ props = cc in subst HasRoom same (test-room other t)
    by_test false t k = absurd (true≢false (sym (ap is_some k)))
  by_props (Err e) k = absurd (true≢false (sym (ap is_some k)))

  by_pairs : (r : Result Entries PropsErr) → from_pairs r ≡ Some props → HasRoom props
  by_pairs (Ok pairs) k = by_props (props_of pairs) k
  by_pairs (Err e) k = absurd (true≢false (sym (ap is_some k)))

-- a mark changes neither the other pairs nor the longest text
pub mark-room : (props : Props) (reason : List ℕ) (at : ℕ) → HasRoom props → HasRoom (with_mark props reason at)
unfolding longest_text plain_entries
mark-room props reason at room = record { pairs = room.pairs; bytes = room.bytes }

pub unmark-room : (props : Props) → HasRoom props → HasRoom (without_mark props)
unfolding longest_text plain_entries
unmark-room props room = record { pairs = room.pairs; bytes = room.bytes }

pub plain-marked : (props : Props) (reason : List ℕ) (at : ℕ) → plain_entries (with_mark props reason at) ≡ plain_entries props
unfolding plain_entries
plain-marked props reason at = refl

pub plain-unmarked : (props : Props) → plain_entries (without_mark props) ≡ plain_entries props
unfolding plain_entries
plain-unmarked props = refl

pub mark-props : (props : Props) (reason : List ℕ) (at : ℕ) → at < 2 ^ 48 → IsProps props → IsProps (with_mark props reason at)
mark-props props reason at small is = record {
  path = is.path;
  repo = is.repo;
  content_type = is.content_type;
  sha1_length = is.sha1_length;
  sha1_bytes = is.sha1_bytes;
  in_range = (is.in_range.0, is.in_range.1, small, is.in_range.3);
}

pub unmark-props : (props : Props) → IsProps props → IsProps (without_mark props)
unmark-props props is = record {
  path = is.path;
  repo = is.repo;
  content_type = is.content_type;
  sha1_length = is.sha1_length;
  sha1_bytes = is.sha1_bytes;
  in_range = (is.in_range.0, is.in_range.1, tt, is.in_range.3);
}

-- properties that were read, by the test of their room
pub by_room : (b : Bool) (props : Props) → b ≡ has_room props → cond b (Some props) None ≡ if_room (Ok props)
by_room b props e = ap (λ (x : Bool). cond x (Some props) None) e

-- a text that is read says what its pairs say
pub readable-pairs : (text : List ℕ) (pairs : Entries) → Reads text pairs → readable_of text ≡ if_room (props_of pairs)
unfolding readable_of
readable-pairs text pairs reads = ap from_pairs reads

too_long : (text : List ℕ) → 65536 < length text → reading text ≡ Err (TooLong (length text))
unfolding reading
too_long text long = let over : ltb 65536 (length text) ≡ true = grind (arith, nat_tests) in rw over refl

-- no text of more than 65,536 bytes is readable, whatever stands behind
pub readable-prefix : (text : List ℕ) (n : ℕ) → 65536 < n → readable_of (take n text) ≡ readable_of text
unfolding readable_of reading
readable-prefix text n more = by_length (cases_lt 65536 (length text)) where
  by_length : (65536 < length text) ⊎ (length text ≤ 65536) → readable_of (take n text) ≡ readable_of text
  by_length (inl long) =
      let prefix : 65536 < length (take n text) = omega (arith, length-take n text) in
      bad_text (take n text) (TooLong (length (take n text))) (too_long (take n text) prefix) ∙ sym (bad_text text (TooLong (length text)) (too_long text long))
  by_length (inr short) = ap readable_of (take_all n text (omega arith))
