-- The properties of a blob.
use Rattle.std.specs.Prelude.{◌≡◌, ℕ, ◌^◌, ◌<◌, List, length, slice_index, Option, Some, None, Ok, true, not}
use Rattle.std.specs.List.{list_all}
use Rattle.java_props.specs.Kept.{Entries}
use Rattle.nx_base.specs.Names.{name_of}
use Rattle.nx_base.specs.Paths.{path_of}
use Rattle.nx_base.specs.ContentTypes.{content_type_of}
use Rattle.nx_base.specs.declared.key.Key.{Key}
use Rattle.blob_properties.specs.declared.deleted.Deleted.{Deleted}
use Rattle.blob_properties.specs.Keys.{is_own_key}

pub record Props : Type 0 where
  pub key : Key
  pub content_type : List ℕ
  pub size : ℕ
  pub sha1 : List ℕ
  pub timestamp : ℕ
  -- the mark of a blob that is deleted
  pub deleted : Option Deleted
  -- the pairs that have no meaning here, which are kept and written again
  pub others : Entries

-- the same blob, deleted for that reason at that time
abbrev pub with_mark : Props → List ℕ → ℕ → Props
with_mark props reason at = record props { deleted = Some (record { reason = reason; at = at }) }

-- the same blob, not deleted
abbrev pub without_mark : Props → Props
without_mark props = record props { deleted = None }

-- the time of a mark is in range
abbrev pub IsMarkInRange : Option Deleted → Type 0
IsMarkInRange None = Unit {0}
IsMarkInRange (Some mark) = mark.at < 2 ^ 48

-- no pair has one of the nine keys
abbrev pub AreOthers : Entries → Type 0
AreOthers pairs = list_all (λ p. not (is_own_key p.0)) pairs ≡ true

-- what each `BlobProps` keeps
abbrev pub IsInRange : Props → Type 0
IsInRange props = (props.size < 2 ^ 63) × (props.timestamp < 2 ^ 48) × IsMarkInRange props.deleted × AreOthers props.others

-- the properties of some blob: the texts are what their rules ask for, and the digest has twenty bytes
pub record IsProps (props : Props) : Type 0 where
  pub path : path_of props.key.path ≡ Ok props.key.path
  pub repo : name_of props.key.repo ≡ Ok props.key.repo
  pub content_type : content_type_of props.content_type ≡ Ok props.content_type
  pub sha1_length : length props.sha1 ≡ 20
  pub sha1_bytes : (at : ℕ) → slice_index props.sha1 at < 256
  pub in_range : IsInRange props
