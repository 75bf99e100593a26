-- What the pairs of a text set. A key that isn't there counts as its row in the table says, and so does a kind, a layout, a
-- policy or a number that isn't good: such a text is refused, but until then other keys are tested beside it.
use Rattle.std.specs.Prelude.{ℕ, Bool, true, false, List, [], ◌∷◌, fold, find, map, Option, Some, None, unwrap_or, codes}
use Rattle.std.specs.Option.{option_and_then, option_map}
use Rattle.std.specs.Map.{lookup}
use Rattle.std.specs.BTreeMap.{insert_entry}
use Rattle.nx_base.specs.declared.layout.Layout.{Layout}
use Rattle.nx_base.specs.declared.layout.Layout.TheVariants.{Volume}
use Rattle.nx_base.specs.declared.fill.Fill.TheVariants.{First}
use Rattle.nx_base.specs.declared.policy.Policy.{Policy}
use Rattle.nx_base.specs.declared.policy.Policy.TheVariants.{Redeploy}
use Rattle.nx_base.specs.declared.repo_kind.RepoKind.{RepoKind}
use Rattle.nx_base.specs.declared.repo_kind.RepoKind.TheVariants.{Hosted}
use Rattle.nx_base.specs.Fills.{Group}
use Rattle.nx_base.specs.Texts.{name_cmp, same_name}
use Rattle.java_props.specs.Kept.{Entries, value_of}
use Rattle.repo_config.specs.declared.form.Subject.{Subject}
use Rattle.repo_config.specs.declared.form.Subject.TheVariants.{OfAll, OfStore, OfRepo}
use Rattle.repo_config.specs.declared.form.Word.TheVariants as word
use Rattle.repo_config.specs.declared.form.Kinds.{Kinds}
use Rattle.repo_config.specs.declared.form.Kinds.TheVariants.{Every, Only}
use Rattle.repo_config.specs.declared.form.Rule.{Rule}
use Rattle.repo_config.specs.declared.form.Rule.TheVariants.{Names, KindName, LayoutName, StoreOf, PolicyWord, Number}
use Rattle.repo_config.specs.declared.form.Absent.{Absent}
use Rattle.repo_config.specs.declared.form.Absent.TheVariants.{Empty, IsKind, IsLayout, IsPolicy, IsNumber, Required}
use Rattle.repo_config.specs.declared.form.PartKind.{PartKind}
use Rattle.repo_config.specs.declared.form.PartKind.TheVariants.{FileStore, HostedRepo}
use Rattle.repo_config.specs.Keys.{key_text}
use Rattle.repo_config.specs.Lists.{names_in, has_name}
use Rattle.repo_config.specs.Values.{kind_said, layout_said, policy_said, number_said}
use Rattle.repo_config.specs.Table.{kind_row, journal_row}

-- the text at a key, which is empty where the key isn't there
abbrev pub text_at : Entries → List ℕ → List ℕ
text_at pairs key = unwrap_or (value_of key pairs) []

-- what a reader makes of the value at a key, or else the other value
abbrev pub said : {A : Type 0} → (List ℕ → Option A) → Entries → List ℕ → A → A
said read pairs key other = unwrap_or (option_and_then read (value_of key pairs)) other

-- what a row says of an absent key
abbrev pub absent_kind : Absent → PartKind
absent_kind Empty = FileStore
absent_kind (IsKind kind) = kind
absent_kind (IsLayout layout) = FileStore
absent_kind (IsPolicy policy) = FileStore
absent_kind (IsNumber n) = FileStore
absent_kind Required = FileStore

abbrev pub absent_number : Absent → ℕ
absent_number Empty = 0
absent_number (IsKind kind) = 0
absent_number (IsLayout layout) = 0
absent_number (IsPolicy policy) = 0
absent_number (IsNumber n) = n
absent_number Required = 0

abbrev pub number_by : Rule → List ℕ → Option ℕ
number_by (Names of) value = None
number_by KindName value = None
number_by LayoutName value = None
number_by StoreOf value = None
number_by PolicyWord value = None
number_by (Number least most) value = number_said least most value

-- the declared stores, or repositories
abbrev pub declared : Subject → Entries → List (List ℕ)
declared OfAll pairs = []
declared OfStore pairs = names_in (text_at pairs (codes "stores"))
declared OfRepo pairs = names_in (text_at pairs (codes "repositories"))

-- a key of the whole has no name to be declared
abbrev pub is_declared : Subject → Entries → List ℕ → Bool
is_declared OfAll pairs name = true
is_declared OfStore pairs name = has_name (declared OfStore pairs) name
is_declared OfRepo pairs name = has_name (declared OfRepo pairs) name

-- the kind of a store or of a repository
abbrev pub kind_of : Subject → Entries → List ℕ → PartKind
kind_of subject pairs name =
    said (kind_said subject) pairs (key_text subject name word.Kind) (absent_kind (kind_row subject).absent)

abbrev pub same_kind : PartKind → PartKind → Bool
same_kind FileStore FileStore = true
same_kind FileStore HostedRepo = false
same_kind HostedRepo FileStore = false
same_kind HostedRepo HostedRepo = true

-- whether a store or a repository of that kind has the key
abbrev pub has_key : Kinds → PartKind → Bool
has_key Every kind = true
has_key (Only one) kind = same_kind one kind

-- how many entries the journal takes
abbrev pub journal_of : Entries → ℕ
journal_of pairs = said (number_by journal_row.rule) pairs (key_text OfAll [] word.Journal) (absent_number journal_row.absent)

abbrev pub repo_kind : PartKind → RepoKind
repo_kind FileStore = Hosted
repo_kind HostedRepo = Hosted

-- A repository. `max_age` and `not_found` are in minutes, and `cleanup` names cleanup policies. No key sets the last three
-- fields yet, so they have what counts where no key does.
pub record Repository : Type 0 where
  pub kind : RepoKind
  pub store : Option (List ℕ)
  pub policy : Policy
  pub max_age : Option ℕ
  pub not_found : ℕ
  pub cleanup : List (List ℕ)

-- the declared store that a repository names
abbrev pub store_named : Entries → List ℕ → Option (List ℕ)
store_named pairs name =
    find (λ store. same_name store (text_at pairs (key_text OfRepo name word.Store))) (declared OfStore pairs)

-- what a repository lets be written
abbrev pub policy_of : Entries → List ℕ → Policy
policy_of pairs name = said policy_said pairs (key_text OfRepo name word.Policy) Redeploy

abbrev pub repository : Entries → List ℕ → Repository
repository pairs name = record {
  kind = repo_kind (kind_of OfRepo pairs name);
  store = store_named pairs name;
  policy = policy_of pairs name;
  max_age = Some 1440;
  not_found = 1440;
  cleanup = [];
}

-- A declared store: the group that it is, and how the places of its blobs are chosen where it is a file store.
pub record Store : Type 0 where
  pub group : Group
  pub layout : Option Layout

-- a file store is a group of one
abbrev pub alone : List ℕ → Group
alone name = record { members = record { store = name; read_only = false } ∷ []; fill = First }

abbrev pub layout_of : Entries → List ℕ → Layout
layout_of pairs name = said layout_said pairs (key_text OfStore name word.Layout) Volume

abbrev pub store : Entries → List ℕ → Store
store pairs name = record { group = alone name; layout = Some (layout_of pairs name) }

-- what f gives for each name, by name in byte order
abbrev pub by_name : {A : Type 0} → (List ℕ → A) → List (List ℕ) → List (List ℕ × A)
by_name f names = fold (λ entries name. insert_entry name_cmp entries name (f name)) [] names

-- A configuration: the file stores in the order of `stores`, stores and repositories by name in byte order, the most
-- entries of the journal, and the SHA-1 of the text.
pub record Settings : Type 0 where
  pub file_stores : List (List ℕ)
  pub stores : List (List ℕ × Store)
  pub repos : List (List ℕ × Repository)
  pub journal : ℕ
  pub sha1 : List ℕ

abbrev pub settings : List ℕ → Entries → Settings
settings digest pairs = record {
  file_stores = declared OfStore pairs;
  stores = by_name (store pairs) (declared OfStore pairs);
  repos = by_name (repository pairs) (declared OfRepo pairs);
  journal = journal_of pairs;
  sha1 = digest;
}

-- the repository of that name, if it is declared
abbrev pub repo_at : Settings → List ℕ → Option Repository
repo_at settings name = lookup (same_name name) settings.repos

-- the declared store of that name
abbrev pub store_at : Settings → List ℕ → Option Store
store_at settings name = lookup (same_name name) settings.stores

abbrev pub group_at : Settings → List ℕ → Option Group
group_at settings name = option_map (λ store. store.group) (store_at settings name)

abbrev pub layout_at : Settings → List ℕ → Option Layout
layout_at settings name = option_and_then (λ store. store.layout) (store_at settings name)
