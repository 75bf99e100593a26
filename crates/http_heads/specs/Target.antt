-- What a request's target names: `/repository/`, the name of a repository, `/` and the path of an asset. What follows the
-- first `?` is dropped, and the path is percent-decoded once.
use Rattle.std.specs.Prelude.{ℕ, ◌==◌, if◌then◌else◌, List, drop, Result, Ok, Err, codes, eqb}
use Rattle.std.specs.List.{starts_with, before_first, after_first}
use Rattle.percent_encoding.specs.Percent.{percent_decode}
use Rattle.nx_base.specs.declared.name_err.NameErr.{NameErr}
use Rattle.nx_base.specs.declared.key.Key.{Key}
use Rattle.nx_base.specs.Names.{name_of}
use Rattle.nx_base.specs.Paths.{path_of}
use Rattle.http_heads.specs.declared.head_err.HeadErr.{HeadErr}
use Rattle.http_heads.specs.declared.head_err.HeadErr.TheVariants.{BadPath}

-- the bytes that a target is cut at
abbrev pub question_mark : ℕ
question_mark = 63

abbrev pub slash : ℕ
slash = 47

-- what stands before the first byte of that value, and behind it
abbrev pub text_before : ℕ → List ℕ → List ℕ
text_before b text = before_first (λ c. c == b) text

abbrev pub text_behind : ℕ → List ℕ → List ℕ
text_behind b text = after_first (λ c. c == b) text

-- a name or a path that a text gives, or that the target is bad
abbrev pub or_bad_path : {A : Type 0} → Result A NameErr → Result A HeadErr
or_bad_path (Ok name) = Ok name
or_bad_path (Err why) = Err BadPath

abbrev pub key_with : Result (List ℕ) HeadErr → Result (List ℕ) HeadErr → Result Key HeadErr
key_with (Err why) path = Err why
key_with (Ok repo) (Err why) = Err why
key_with (Ok repo) (Ok path) = Ok (record { repo = repo; path = path })

-- the key that stands behind `/repository/`: the name as its bytes stand, and the path decoded
unfoldable pub named_key : List ℕ → Result Key HeadErr
named_key text = key_with (or_bad_path (name_of (text_before slash text))) (or_bad_path (path_of (percent_decode (text_behind slash text))))

-- the key that a target names, or that it names none
unfoldable pub key_of : List ℕ → Result Key HeadErr
key_of target =
    if starts_with eqb (text_before question_mark target) (codes "/repository/") then named_key (drop 12 (text_before question_mark target)) else Err BadPath
