-- Why pairs are no configuration. The refusals are asked for in steps, and the first one that is found is told:
--     test_keys        each key in byte order: UnknownKey, then DuplicateName, then BadValue
--     test_missing     a required key that isn't there is BadValue: of the stores first, then of the repositories, each in
--                      the order of its list
--     test_stores      the store of each repository, by key in byte order: NoStore
use Rattle.std.specs.Prelude.{ℕ, Bool, true, false, not, ◌&&◌, List, [], ◌∷◌, find, fold, Option, Some, None, is_none, if◌then◌else◌}
use Rattle.std.specs.Option.{option_or, option_map}
use Rattle.nx_base.specs.Texts.{same_name}
use Rattle.java_props.specs.Kept.{Entries, value_of, put}
use Rattle.repo_config.specs.declared.config_err.ConfigErr.{ConfigErr}
use Rattle.repo_config.specs.declared.config_err.ConfigErr.TheVariants.{UnknownKey, BadValue, DuplicateName, NoStore}
use Rattle.repo_config.specs.declared.form.Form.{Form}
use Rattle.repo_config.specs.declared.form.Subject.{Subject}
use Rattle.repo_config.specs.declared.form.Subject.TheVariants.{OfStore, OfRepo}
use Rattle.repo_config.specs.declared.form.Word.TheVariants as word
use Rattle.repo_config.specs.declared.form.Rule.{Rule}
use Rattle.repo_config.specs.declared.form.Rule.TheVariants.{Names, KindName, LayoutName, StoreOf, PolicyWord, Number}
use Rattle.repo_config.specs.declared.form.Absent.{Absent}
use Rattle.repo_config.specs.declared.form.Absent.TheVariants.{Empty, IsKind, IsLayout, IsPolicy, IsNumber, Required}
use Rattle.repo_config.specs.Words.{text}
use Rattle.repo_config.specs.Keys.{subject_of, middle_of, tail_of, key_text}
use Rattle.repo_config.specs.Lists.{has_name}
use Rattle.repo_config.specs.Table.{rows, is_good, repeats}
use Rattle.repo_config.specs.Settings.{text_at, declared, is_declared, kind_of, has_key}

-- the first refusal of some elements
abbrev pub first_refusal : {A : Type 0} → (A → Option ConfigErr) → List A → Option ConfigErr
first_refusal test [] = None
first_refusal test (x ∷ xs) = option_or (test x) (first_refusal test xs)

-- the row with that word
abbrev pub row_with : Subject → List ℕ → Option Form
row_with subject last = find (λ row. same_name last (text row.word)) (rows subject)

-- a store or a repository of that name has the key of that row
abbrev pub has_row : Subject → Entries → List ℕ → Form → Bool
has_row subject pairs name row = has_key row.kinds (kind_of subject pairs name)

-- a key that is in the table: of a declared name, and one that its kind has
abbrev pub row_refusal : Subject → Entries → List ℕ → List ℕ → Form → Option ConfigErr
row_refusal subject pairs key value row =
    if not (is_declared subject pairs (middle_of key) && has_row subject pairs (middle_of key) row) then Some (UnknownKey key)
    else if repeats row.rule value then Some (DuplicateName key)
    else if is_good subject row.rule value then None
    else Some (BadValue key)

-- a key of a subject, where the table has a row for it or none
abbrev pub found_refusal : Subject → Entries → List ℕ → List ℕ → Option Form → Option ConfigErr
found_refusal subject pairs key value None = Some (UnknownKey key)
found_refusal subject pairs key value (Some row) = row_refusal subject pairs key value row

abbrev pub subject_refusal : Entries → List ℕ → List ℕ → Option Subject → Option ConfigErr
subject_refusal pairs key value None = Some (UnknownKey key)
subject_refusal pairs key value (Some subject) = found_refusal subject pairs key value (row_with subject (tail_of key))

-- why a key with its value is refused
abbrev pub key_refusal : Entries → List ℕ × List ℕ → Option ConfigErr
key_refusal pairs pair = subject_refusal pairs pair.0 pair.1 (subject_of pair.0)

abbrev pub test_keys : Entries → Option ConfigErr
test_keys pairs = first_refusal (key_refusal pairs) pairs

abbrev pub is_required : Absent → Bool
is_required Empty = false
is_required (IsKind kind) = false
is_required (IsLayout layout) = false
is_required (IsPolicy policy) = false
is_required (IsNumber n) = false
is_required Required = true

-- the store of a repository is asked for later
abbrev pub names_store : Rule → Bool
names_store (Names of) = false
names_store KindName = false
names_store LayoutName = false
names_store StoreOf = true
names_store PolicyWord = false
names_store (Number least most) = false

-- a key that is required, and isn't there
abbrev pub lacks : Subject → Entries → List ℕ → Form → Bool
lacks subject pairs name row =
    is_required row.absent && not (names_store row.rule) && has_row subject pairs name row
    && is_none (value_of (key_text subject name row.word) pairs)

abbrev pub missing_refusal : Subject → Entries → List ℕ → Option ConfigErr
missing_refusal subject pairs name =
    option_map (λ row. BadValue (key_text subject name row.word)) (find (lacks subject pairs name) (rows subject))

abbrev pub test_missing : Entries → Option ConfigErr
test_missing pairs =
    option_or (first_refusal (missing_refusal OfStore pairs) (declared OfStore pairs))
    (first_refusal (missing_refusal OfRepo pairs) (declared OfRepo pairs))

-- the keys of the stores of some repositories, in byte order. One that isn't there counts as the empty text.
abbrev pub store_keys_of : Entries → List (List ℕ) → Entries
store_keys_of pairs names =
    fold (λ keys name. put (key_text OfRepo name word.Store) (text_at pairs (key_text OfRepo name word.Store)) keys) [] names

-- those of all declared repositories
abbrev pub store_keys : Entries → Entries
store_keys pairs = store_keys_of pairs (declared OfRepo pairs)

abbrev pub store_refusal : Entries → List ℕ × List ℕ → Option ConfigErr
store_refusal pairs pair = if has_name (declared OfStore pairs) pair.1 then None else Some (NoStore pair.0)

abbrev pub test_stores : Entries → Option ConfigErr
test_stores pairs = first_refusal (store_refusal pairs) (store_keys pairs)

-- the first refusal of the steps
abbrev pub refusal : Entries → Option ConfigErr
refusal pairs = option_or (test_keys pairs) (option_or (test_missing pairs) (test_stores pairs))
