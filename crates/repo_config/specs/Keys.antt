-- The keys of the configuration: `<word>` alone, `store.<name>.<word>` and `repo.<name>.<word>`. The name is what stands
-- between the first and the last dot, so it may hold dots itself.
use Rattle.std.specs.Prelude.{ℕ, Bool, not, ◌==◌, nat_lt, List, length, ◌∷◌, ◌++◌, Option, Some, None, codes, if◌then◌else◌}
use Rattle.std.specs.List.{before_first, after_first, before_last, after_last, position_or_len}
use Rattle.nx_base.specs.Texts.{same_name}
use Rattle.repo_config.specs.declared.form.Subject.{Subject}
use Rattle.repo_config.specs.declared.form.Subject.TheVariants.{OfAll, OfStore, OfRepo}
use Rattle.repo_config.specs.declared.form.Word.{Word}
use Rattle.repo_config.specs.Words.{text}

abbrev pub is_dot : ℕ → Bool
is_dot b = b == 46

-- a dot stands in it
abbrev pub has_dot : List ℕ → Bool
has_dot key = nat_lt (position_or_len is_dot key) (length key)

-- what stands before the first dot
abbrev pub head_of : List ℕ → List ℕ
head_of key = before_first is_dot key

-- what stands between the first and the last dot
abbrev pub middle_of : List ℕ → List ℕ
middle_of key = after_first is_dot (before_last is_dot key)

-- what stands behind the last dot, or all where there is none
abbrev pub tail_of : List ℕ → List ℕ
tail_of key = after_last is_dot key

-- what a key is a key of
abbrev pub subject_of : List ℕ → Option Subject
subject_of key =
    if not (has_dot key) then Some OfAll
    else if same_name (head_of key) (codes "store") then Some OfStore
    else if same_name (head_of key) (codes "repo") then Some OfRepo
    else None

-- the key of a subject, a name and a word; a key of the whole has no name
abbrev pub key_text : Subject → List ℕ → Word → List ℕ
key_text OfAll name word = text word
key_text OfStore name word = codes "store." ++ name ++ 46 ∷ text word
key_text OfRepo name word = codes "repo." ++ name ++ 46 ∷ text word
