-- The properties that pairs give, or the first required key that gives none.
use Rattle.std.specs.Prelude.{◌≡◌, ◌⊎◌, ℕ, List, [], Option, Some, None, Result, Ok, Err, unwrap_or, option_and_then, false, if◌then◌else◌}
use Rattle.java_props.specs.Kept.{Entries, value_of}
use Rattle.nx_base.specs.Given.{given}
use Rattle.blob_properties.specs.declared.blob_props_err.BlobPropsErr.{BlobPropsErr}
use Rattle.blob_properties.specs.declared.blob_props_err.BlobPropsErr.TheVariants as refused
use Rattle.blob_properties.specs.declared.deleted.Deleted.{Deleted}
use Rattle.blob_properties.specs.Keys.{path_key, type_key, repo_key, timestamp_key, sha1_key, size_key, deleted_key, date_key, reason_key, others_of}
use Rattle.blob_properties.specs.Values.{path_in, type_in, repo_in, time_of, sha1_of, size_of, says_true}
use Rattle.blob_properties.specs.Props.{Props}

-- a required key that isn't there, or whose value isn't one
pub data Refusal : Type 0 where
  missing : (key : List ℕ) → Refusal
  bad : (key : List ℕ) → Refusal

infixl 10 ◌>>=◌
-- the first refusal is the answer
abbrev pub ◌>>=◌ : {A B : Type 0} → Result A Refusal → (A → Result B Refusal) → Result B Refusal
(Ok x) >>= f = f x
(Err e) >>= f = Err e

-- the meaning of a value
abbrev pub meant : {A : Type 0} → List ℕ → Option A → Result A Refusal
meant key None = Err (bad key)
meant key (Some x) = Ok x

-- the meaning of the value of a required key
abbrev pub required_by : {A : Type 0} → List ℕ → (List ℕ → Option A) → Option (List ℕ) → Result A Refusal
required_by key meaning None = Err (missing key)
required_by key meaning (Some text) = meant key (meaning text)

abbrev pub required : {A : Type 0} → List ℕ → (List ℕ → Option A) → Entries → Result A Refusal
required key meaning pairs = required_by key meaning (value_of key pairs)

-- the mark that pairs have. A time that is none counts as 0, and a missing reason as empty.
unfoldable pub mark_of : Entries → Option Deleted
mark_of pairs =
    if given (value_of deleted_key pairs) false says_true
    then Some (record { reason = unwrap_or (value_of reason_key pairs) []; at = unwrap_or (option_and_then time_of (value_of date_key pairs)) 0 })
    else None

-- the properties that pairs give; else the first required key, in byte order, that is missing or has a bad value
unfoldable pub props_of : Entries → Result Props Refusal
props_of pairs =
    required path_key path_in pairs >>= λ path.
    required type_key type_in pairs >>= λ content_type.
    required repo_key repo_in pairs >>= λ repo.
    required timestamp_key time_of pairs >>= λ timestamp.
    required sha1_key sha1_of pairs >>= λ sha1.
    required size_key size_of pairs >>= λ size.
    Ok (record {
      key = record { repo = repo; path = path };
      content_type = content_type;
      size = size;
      sha1 = sha1;
      timestamp = timestamp;
      deleted = mark_of pairs;
      others = others_of pairs;
    })

-- the answer is the one that is wanted; memory may be refused in place of each
abbrev pub Gives : {A : Type 0} → Result A Refusal → Result A BlobPropsErr → Type 0
Gives wanted (Ok x) = wanted ≡ Ok x
Gives wanted (Err (refused.Missing key)) = wanted ≡ Err (missing key.now)
Gives wanted (Err (refused.BadValue key)) = wanted ≡ Err (bad key.now)
Gives wanted (Err refused.NoMemory) = Unit {0}
