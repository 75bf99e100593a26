-- The pairs of properties say these properties.
use Rattle.std.proofs.Common.{◌≡◌, ◌≢◌, ℕ, ◌+◌, ◌^◌, ◌<◌, ◌≤◌, Bool, true, false, true≢false, ◌||◌, cond, if◌then◌else◌, is_some, List, [], length, Option, Some, None, Result, Ok, Err, OnOk, unwrap_or, decimal, codes, refl, sym, ap, ap₂, ◌∙◌, subst, arith}
use Rattle.std.specs.Prelude.{option_and_then}
use Rattle.std.specs.Result.{result_ok}
use Rattle.std.specs.Ordering.{is_eq}
use Rattle.std.proofs.lemmas.Cmp.{nat_list_cmp_total, tied_itself}
use Rattle.std.proofs.lemmas.Fmt.{decimal_is_IsNumeral, length-decimal-le}
use Rattle.hex.specs.Hex.{encode_lower, decode_sized}
use Rattle.hex.proofs.HexLemmas.{decode_sized-encode_lower}
use Rattle.nx_base.specs.Given.{given}
use Rattle.nx_base.specs.Texts.{same_name}
use Rattle.nx_base.specs.Names.{name_of}
use Rattle.nx_base.specs.Paths.{path_of}
use Rattle.nx_base.specs.ContentTypes.{content_type_of}
use Rattle.java_props.specs.Kept.{Entries, put, value_of}
use Rattle.java_props.proofs.MapLaws.{set_gives, set_keeps}
use Rattle.blob_properties.specs.declared.deleted.Deleted.{Deleted}
use Rattle.blob_properties.specs.Keys.{path_key, type_key, repo_key, timestamp_key, sha1_key, size_key, deleted_key, date_key, reason_key, is_own_key, others_of}
use Rattle.blob_properties.specs.Values.{number_of, time_of, size_of, sha1_of, path_in, type_in, repo_in, says_true}
use Rattle.blob_properties.specs.Props.{Props, IsProps, IsInRange, IsMarkInRange, AreOthers}
use Rattle.blob_properties.specs.FromPairs.{Refusal, ◌>>=◌, meant, required, required_by, mark_of, props_of}
use Rattle.blob_properties.specs.ToPairs.{plain_entries, marked_entries, with_deleted, entries_of}
use Rattle.blob_properties.proofs.Numbers.{number_of-some}
use Rattle.blob_properties.proofs.Puts.{length-put_new, others-put, others-others, value_of-others}

-- what holds on Ok
pub on_ok : {T E P Q : Type 0} (r : Result T E) → OnOk r P → (P → Q) → OnOk r Q
on_ok (Ok x) p f = f p
on_ok (Err e) p f = tt

-- ---- keys

-- two texts that the test tells apart
pub apart : (a b : List ℕ) → same_name a b ≡ false → a ≢ b
apart a b other e = true≢false (sym (ap is_eq (tied_itself nat_list_cmp_total a)) ∙ ap (same_name a) e ∙ other)

-- the value of another key stays
pub passes : (key other v : List ℕ) (e : Entries) → same_name other key ≡ false → value_of other (put key v e) ≡ value_of other e
passes key other v e ne = set_keeps key other v e (apart other key ne)

pub own-path : is_own_key path_key ≡ true
unfolding is_own_key
own-path = refl

pub own-type : is_own_key type_key ≡ true
unfolding is_own_key
own-type = refl

pub own-repo : is_own_key repo_key ≡ true
unfolding is_own_key
own-repo = refl

pub own-timestamp : is_own_key timestamp_key ≡ true
unfolding is_own_key
own-timestamp = refl

pub own-sha1 : is_own_key sha1_key ≡ true
unfolding is_own_key
own-sha1 = refl

pub own-size : is_own_key size_key ≡ true
unfolding is_own_key
own-size = refl

pub own-deleted : is_own_key deleted_key ≡ true
unfolding is_own_key
own-deleted = refl

pub own-date : is_own_key date_key ≡ true
unfolding is_own_key
own-date = refl

pub own-reason : is_own_key reason_key ≡ true
unfolding is_own_key
own-reason = refl

-- ---- values

pub number-decimal : (most end n : ℕ) → n < end → end ≤ 2 ^ 64 → 0 < most → n < 10 ^ most → number_of most end (decimal n) ≡ Some n
number-decimal most end n small fits some short =
    let wide : n < 2 ^ 64 = omega arith in
    let numeral = decimal_is_IsNumeral n wide in
    let value = numeral.1 in
    number_of-some most end (decimal n) numeral.0 (length-decimal-le most n some short wide) (omega arith) ∙ ap Some value

pub time-decimal : (n : ℕ) → n < 2 ^ 48 → time_of (decimal n) ≡ Some n
time-decimal n small = number-decimal 15 (2 ^ 48) n small (omega arith) (omega arith) (omega arith)

pub size-decimal : (n : ℕ) → n < 2 ^ 63 → size_of (decimal n) ≡ Some n
size-decimal n small = number-decimal 19 (2 ^ 63) n small (omega arith) (omega arith) (omega arith)

-- ---- the pairs without a mark

module _ (props : Props) where
  abbrev one : Entries
  one = put path_key props.key.path props.others

  abbrev two : Entries
  two = put type_key props.content_type one

  abbrev three : Entries
  three = put repo_key props.key.repo two

  abbrev four : Entries
  four = put timestamp_key (decimal props.timestamp) three

  abbrev five : Entries
  five = put sha1_key (encode_lower props.sha1) four

  -- a key that is none of the six has the value that it has among the other pairs
  pub plain-other : (key : List ℕ) → same_name key path_key ≡ false → same_name key type_key ≡ false → same_name key repo_key ≡ false
      → same_name key timestamp_key ≡ false → same_name key sha1_key ≡ false → same_name key size_key ≡ false
      → value_of key (plain_entries props) ≡ value_of key props.others
  unfolding plain_entries
  plain-other key a b c d e f =
      passes size_key key (decimal props.size) five f
      ∙ passes sha1_key key (encode_lower props.sha1) four e
      ∙ passes timestamp_key key (decimal props.timestamp) three d
      ∙ passes repo_key key props.key.repo two c
      ∙ passes type_key key props.content_type one b
      ∙ passes path_key key props.key.path props.others a

  pub plain-size : value_of size_key (plain_entries props) ≡ Some (decimal props.size)
  unfolding plain_entries
  plain-size = set_gives size_key (decimal props.size) five

  pub plain-sha1 : value_of sha1_key (plain_entries props) ≡ Some (encode_lower props.sha1)
  unfolding plain_entries
  plain-sha1 = passes size_key sha1_key (decimal props.size) five refl ∙ set_gives sha1_key (encode_lower props.sha1) four

  pub plain-timestamp : value_of timestamp_key (plain_entries props) ≡ Some (decimal props.timestamp)
  unfolding plain_entries
  plain-timestamp =
      passes size_key timestamp_key (decimal props.size) five refl
      ∙ passes sha1_key timestamp_key (encode_lower props.sha1) four refl
      ∙ set_gives timestamp_key (decimal props.timestamp) three

  pub plain-repo : value_of repo_key (plain_entries props) ≡ Some props.key.repo
  unfolding plain_entries
  plain-repo =
      passes size_key repo_key (decimal props.size) five refl
      ∙ passes sha1_key repo_key (encode_lower props.sha1) four refl
      ∙ passes timestamp_key repo_key (decimal props.timestamp) three refl
      ∙ set_gives repo_key props.key.repo two

  pub plain-type : value_of type_key (plain_entries props) ≡ Some props.content_type
  unfolding plain_entries
  plain-type =
      passes size_key type_key (decimal props.size) five refl
      ∙ passes sha1_key type_key (encode_lower props.sha1) four refl
      ∙ passes timestamp_key type_key (decimal props.timestamp) three refl
      ∙ passes repo_key type_key props.key.repo two refl
      ∙ set_gives type_key props.content_type one

  pub plain-path : value_of path_key (plain_entries props) ≡ Some props.key.path
  unfolding plain_entries
  plain-path =
      passes size_key path_key (decimal props.size) five refl
      ∙ passes sha1_key path_key (encode_lower props.sha1) four refl
      ∙ passes timestamp_key path_key (decimal props.timestamp) three refl
      ∙ passes repo_key path_key props.key.repo two refl
      ∙ passes type_key path_key props.content_type one refl
      ∙ set_gives path_key props.key.path props.others

  pub plain-others : AreOthers props.others → others_of (plain_entries props) ≡ props.others
  unfolding plain_entries
  plain-others are =
      others-put size_key (decimal props.size) five own-size
      ∙ others-put sha1_key (encode_lower props.sha1) four own-sha1
      ∙ others-put timestamp_key (decimal props.timestamp) three own-timestamp
      ∙ others-put repo_key props.key.repo two own-repo
      ∙ others-put type_key props.content_type one own-type
      ∙ others-put path_key props.key.path props.others own-path
      ∙ others-others props.others are

  -- six pairs more
  pub plain-length : AreOthers props.others → length (plain_entries props) ≡ length props.others + 6
  unfolding plain_entries
  plain-length are =
      let absent : (key : List ℕ) → is_own_key key ≡ true → value_of key props.others ≡ None = λ key own. value_of-others key props.others own are in
      let a = length-put_new path_key props.key.path props.others (absent path_key own-path) in
      let b = length-put_new type_key props.content_type one (passes path_key type_key props.key.path props.others refl ∙ absent type_key own-type) in
      let c = length-put_new repo_key props.key.repo two
      (passes type_key repo_key props.content_type one refl ∙ passes path_key repo_key props.key.path props.others refl ∙ absent repo_key own-repo) in
      let d = length-put_new timestamp_key (decimal props.timestamp) three
      (passes repo_key timestamp_key props.key.repo two refl ∙ passes type_key timestamp_key props.content_type one refl ∙ passes path_key timestamp_key props.key.path props.others refl ∙ absent timestamp_key own-timestamp) in
      let e = length-put_new sha1_key (encode_lower props.sha1) four
      (passes timestamp_key sha1_key (decimal props.timestamp) three refl ∙ passes repo_key sha1_key props.key.repo two refl ∙ passes type_key sha1_key props.content_type one refl ∙ passes path_key sha1_key props.key.path props.others refl ∙ absent sha1_key own-sha1) in
      let f = length-put_new size_key (decimal props.size) five
      (passes sha1_key size_key (encode_lower props.sha1) four refl ∙ passes timestamp_key size_key (decimal props.timestamp) three refl ∙ passes repo_key size_key props.key.repo two refl ∙ passes type_key size_key props.content_type one refl ∙ passes path_key size_key props.key.path props.others refl ∙ absent size_key own-size) in
      omega arith

-- ---- a mark

module _ (date reason : List ℕ) (e : Entries) where
  abbrev said : Entries
  said = put deleted_key (codes "true") e

  abbrev dated : Entries
  dated = put date_key date said

  pub marked-other : (key : List ℕ) → same_name key deleted_key ≡ false → same_name key date_key ≡ false → same_name key reason_key ≡ false
      → value_of key (marked_entries date reason e) ≡ value_of key e
  unfolding marked_entries
  marked-other key a b c =
      passes reason_key key reason dated c ∙ passes date_key key date said b ∙ passes deleted_key key (codes "true") e a

  pub marked-reason : value_of reason_key (marked_entries date reason e) ≡ Some reason
  unfolding marked_entries
  marked-reason = set_gives reason_key reason dated

  pub marked-date : value_of date_key (marked_entries date reason e) ≡ Some date
  unfolding marked_entries
  marked-date = passes reason_key date_key reason dated refl ∙ set_gives date_key date said

  pub marked-deleted : value_of deleted_key (marked_entries date reason e) ≡ Some (codes "true")
  unfolding marked_entries
  marked-deleted =
      passes reason_key deleted_key reason dated refl
      ∙ passes date_key deleted_key date said refl
      ∙ set_gives deleted_key (codes "true") e

  pub marked-others : others_of (marked_entries date reason e) ≡ others_of e
  unfolding marked_entries
  marked-others =
      others-put reason_key reason dated own-reason
      ∙ others-put date_key date said own-date
      ∙ others-put deleted_key (codes "true") e own-deleted

  -- three pairs more
  pub marked-length : value_of deleted_key e ≡ None → value_of date_key e ≡ None → value_of reason_key e ≡ None
      → length (marked_entries date reason e) ≡ length e + 3
  unfolding marked_entries
  marked-length a b c =
      let x = length-put_new deleted_key (codes "true") e a in
      let y = length-put_new date_key date said (passes deleted_key date_key (codes "true") e refl ∙ b) in
      let z = length-put_new reason_key reason dated (passes date_key reason_key date said refl ∙ passes deleted_key reason_key (codes "true") e refl ∙ c) in
      omega arith

mark_of-none : (e : Entries) → value_of deleted_key e ≡ None → mark_of e ≡ None
unfolding mark_of
mark_of-none e h = rw h refl

mark_of-marked : (at : ℕ) (reason : List ℕ) (e : Entries) → at < 2 ^ 48 → mark_of (marked_entries (decimal at) reason e) ≡ Some (record { reason = reason; at = at })
unfolding mark_of
mark_of-marked at reason e small =
    rw (marked-deleted (decimal at) reason e, marked-reason (decimal at) reason e, marked-date (decimal at) reason e, time-decimal at small) refl

-- ---- properties and their pairs

kept : (deleted : Option Deleted) (e : Entries) (key : List ℕ) → same_name key deleted_key ≡ false → same_name key date_key ≡ false → same_name key reason_key ≡ false
    → value_of key (with_deleted deleted e) ≡ value_of key e
kept None e key a b c = refl
kept (Some mark) e key a b c = marked-other (decimal mark.at) mark.reason e key a b c

kept-others : (deleted : Option Deleted) (e : Entries) → others_of (with_deleted deleted e) ≡ others_of e
kept-others None e = refl
kept-others (Some mark) e = marked-others (decimal mark.at) mark.reason e

kept-mark : (deleted : Option Deleted) (e : Entries) → value_of deleted_key e ≡ None → IsMarkInRange deleted → mark_of (with_deleted deleted e) ≡ deleted
kept-mark None e none small = mark_of-none e none
kept-mark (Some mark) e none small = mark_of-marked mark.at mark.reason e small

required-ok : {A : Type 0} (key : List ℕ) (meaning : List ℕ → Option A) (pairs : Entries) (text : List ℕ) (x : A)
    → value_of key pairs ≡ Some text → meaning text ≡ Some x → required key meaning pairs ≡ Ok x
required-ok key meaning pairs text x v m = ap (required_by key meaning) v ∙ ap (meant key) m

-- no pair of a mark among those without one
pub no-mark : (props : Props) → AreOthers props.others
    → (value_of deleted_key (plain_entries props) ≡ None) × (value_of date_key (plain_entries props) ≡ None) × (value_of reason_key (plain_entries props) ≡ None)
no-mark props are = (
  plain-other props deleted_key refl refl refl refl refl refl ∙ value_of-others deleted_key props.others own-deleted are,
  plain-other props date_key refl refl refl refl refl refl ∙ value_of-others date_key props.others own-date are,
  plain-other props reason_key refl refl refl refl refl refl ∙ value_of-others reason_key props.others own-reason are,
)

pub said_back : (props : Props) → IsProps props → props_of (entries_of props) ≡ Ok props
unfolding props_of
said_back props is =
    let e = entries_of props in
    let plain = plain_entries props in
    let are = is.in_range.3 in
    let path = required-ok path_key path_in e props.key.path props.key.path (kept props.deleted plain path_key refl refl refl ∙ plain-path props) (ap result_ok is.path) in
    let content_type = required-ok type_key type_in e props.content_type props.content_type (kept props.deleted plain type_key refl refl refl ∙ plain-type props) (ap result_ok is.content_type) in
    let repo = required-ok repo_key repo_in e props.key.repo props.key.repo (kept props.deleted plain repo_key refl refl refl ∙ plain-repo props) (ap result_ok is.repo) in
    let timestamp = required-ok timestamp_key time_of e (decimal props.timestamp) props.timestamp (kept props.deleted plain timestamp_key refl refl refl ∙ plain-timestamp props) (time-decimal props.timestamp is.in_range.1) in
    let sha1 = required-ok sha1_key sha1_of e (encode_lower props.sha1) props.sha1 (kept props.deleted plain sha1_key refl refl refl ∙ plain-sha1 props)
    (ap result_ok (decode_sized-encode_lower props.sha1 20 is.sha1_length is.sha1_bytes)) in
    let size = required-ok size_key size_of e (decimal props.size) props.size (kept props.deleted plain size_key refl refl refl ∙ plain-size props) (size-decimal props.size is.in_range.0) in
    let mark = kept-mark props.deleted plain (no-mark props are).0 is.in_range.2 in
    let others = kept-others props.deleted plain ∙ plain-others props are in
    rw (path, content_type, repo, timestamp, sha1, size, mark, others) refl

-- how many pairs there are
pub with_deleted-length : (deleted : Option Deleted) (props : Props) → AreOthers props.others
    → length (with_deleted deleted (plain_entries props)) ≡ length props.others + (if is_some deleted then 9 else 6)
with_deleted-length None props are = plain-length props are
with_deleted-length (Some mark) props are =
    let none = no-mark props are in
    let plain = plain-length props are in
    let marked = marked-length (decimal mark.at) mark.reason (plain_entries props) none.0 none.1 none.2 in
    omega arith

-- pairs that were set one after another
pub plain_built : (props : Props) (path content_type repo timestamp sha1 size : List ℕ) (p0 p1 p2 p3 p4 p5 p6 : Entries)
    → p0 ≡ props.others → p1 ≡ put path_key path p0 → p2 ≡ put type_key content_type p1 → p3 ≡ put repo_key repo p2
    → p4 ≡ put timestamp_key timestamp p3 → p5 ≡ put sha1_key sha1 p4 → p6 ≡ put size_key size p5
    → path ≡ props.key.path → content_type ≡ props.content_type → repo ≡ props.key.repo
    → timestamp ≡ decimal props.timestamp → sha1 ≡ encode_lower props.sha1 → size ≡ decimal props.size
    → p6 ≡ plain_entries props
unfolding plain_entries
plain_built props path content_type repo timestamp sha1 size p0 p1 p2 p3 p4 p5 p6 e0 e1 e2 e3 e4 e5 e6 path-is type-is repo-is timestamp-is sha1-is size-is =
    e6 ∙ ap₂ (put size_key) size-is
    (e5 ∙ ap₂ (put sha1_key) sha1-is
    (e4 ∙ ap₂ (put timestamp_key) timestamp-is
    (e3 ∙ ap₂ (put repo_key) repo-is
    (e2 ∙ ap₂ (put type_key) type-is
    (e1 ∙ ap₂ (put path_key) path-is e0)))))

pub entries-length : (props : Props) → IsInRange props → length (entries_of props) ≡ length props.others + (if is_some props.deleted then 9 else 6)
entries-length props in_range = with_deleted-length props.deleted props in_range.3
