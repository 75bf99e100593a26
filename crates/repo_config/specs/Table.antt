-- The table of keys. A row says with which word a key ends, which kinds of stores or repositories have it, the rule of its
-- value, and what counts where the key isn't there.
use Rattle.std.specs.Prelude.{ℕ, Bool, List, [], ◌∷◌, is_some, true, false}
use Rattle.nx_base.specs.declared.layout.Layout.TheVariants as layout
use Rattle.nx_base.specs.declared.policy.Policy.TheVariants as policy
use Rattle.repo_config.specs.declared.form.Form.{Form}
use Rattle.repo_config.specs.declared.form.Subject.{Subject}
use Rattle.repo_config.specs.declared.form.Subject.TheVariants.{OfAll, OfStore, OfRepo}
use Rattle.repo_config.specs.declared.form.Word.{Word}
use Rattle.repo_config.specs.declared.form.Word.TheVariants as word
use Rattle.repo_config.specs.declared.form.Kinds.{Kinds}
use Rattle.repo_config.specs.declared.form.Kinds.TheVariants.{Every, Only}
use Rattle.repo_config.specs.declared.form.Rule.{Rule}
use Rattle.repo_config.specs.declared.form.Rule.TheVariants.{Names, KindName, LayoutName, StoreOf, PolicyWord, Number}
use Rattle.repo_config.specs.declared.form.Absent.{Absent}
use Rattle.repo_config.specs.declared.form.Absent.TheVariants.{Empty, IsKind, IsLayout, IsPolicy, IsNumber, Required}
use Rattle.repo_config.specs.declared.form.PartKind.TheVariants.{FileStore, HostedRepo}
use Rattle.repo_config.specs.Lists.{is_list, names_in, has_double}
use Rattle.repo_config.specs.Values.{kind_said, layout_said, policy_said, number_said}

abbrev pub row : Word → Kinds → Rule → Absent → Form
row word kinds rule absent = record { word = word; kinds = kinds; rule = rule; absent = absent }

abbrev pub journal_row : Form
journal_row = row word.Journal Every (Number 1 1000000) (IsNumber 100000)

abbrev pub store_kind_row : Form
store_kind_row = row word.Kind Every KindName (IsKind FileStore)

abbrev pub store_layout_row : Form
store_layout_row = row word.Layout (Only FileStore) LayoutName (IsLayout layout.Volume)

abbrev pub repo_kind_row : Form
repo_kind_row = row word.Kind Every KindName (IsKind HostedRepo)

abbrev pub repo_store_row : Form
repo_store_row = row word.Store Every StoreOf Required

abbrev pub repo_policy_row : Form
repo_policy_row = row word.Policy (Only HostedRepo) PolicyWord (IsPolicy policy.Redeploy)

abbrev pub rows : Subject → List Form
rows OfAll =
    row word.Stores Every (Names OfStore) Empty
    ∷ row word.Repositories Every (Names OfRepo) Empty
    ∷ journal_row
    ∷ []
rows OfStore = store_kind_row ∷ store_layout_row ∷ []
rows OfRepo = repo_kind_row ∷ repo_store_row ∷ repo_policy_row ∷ []

-- the row of the kind
abbrev pub kind_row : Subject → Form
kind_row OfAll = store_kind_row
kind_row OfStore = store_kind_row
kind_row OfRepo = repo_kind_row

-- whether a rule takes a value, where a store's name isn't asked for (that comes later, as `NoStore`)
abbrev pub is_good : Subject → Rule → List ℕ → Bool
is_good subject (Names of) value = is_list of value
is_good subject KindName value = is_some (kind_said subject value)
is_good subject LayoutName value = is_some (layout_said value)
is_good subject StoreOf value = true
is_good subject PolicyWord value = is_some (policy_said value)
is_good subject (Number least most) value = is_some (number_said least most value)

-- a name stands twice in the list
abbrev pub repeats : Rule → List ℕ → Bool
repeats (Names of) value = has_double (names_in value)
repeats KindName value = false
repeats LayoutName value = false
repeats StoreOf value = false
repeats PolicyWord value = false
repeats (Number least most) value = false
