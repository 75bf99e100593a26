-- The repository as one thread sees it, for a fixed configuration.
use Rattle.std.specs.Prelude.{ℕ, List, Option, None}
use Rattle.std.specs.Option.{option_map}
use Rattle.std.specs.FinMap as map
use Rattle.std.specs.FinSet as set
use Rattle.nx_base.specs.declared.key.Key.{Key}
use Rattle.nx_base.specs.declared.asset.Asset.{Asset}
use Rattle.nx_base.specs.declared.blob_ref.BlobRef.{BlobRef}
use Rattle.nx_base.specs.Order.{name_cmp, key_cmp, age_cmp}
use Rattle.repo_model.specs.declared.deletion.Deletion.{Deletion}
use Rattle.repo_model.specs.declared.reply.Cause.{Cause}
use Rattle.repo_model.specs.Spots.{spot_cmp}

-- rows: the asset of each key. trash: the deleted blobs. loose: the readable, undeleted blobs in stores of their repositories that no row names, with their keys.
-- taken: where properties files stand. notes: when the remote of a proxy last said that it has nothing of a key. last: the greatest timestamp.
-- counts: the uploads begun in each store or group. broken: what broke the repository, if it is broken.
pub record State : Type 0 where
  pub rows : map.FinMap key_cmp Asset
  pub trash : map.FinMap age_cmp Deletion
  pub loose : map.FinMap age_cmp Key
  pub taken : set.FinSet spot_cmp
  pub notes : map.FinMap key_cmp ℕ
  pub last : ℕ
  pub counts : map.FinMap name_cmp ℕ
  pub broken : Option Cause

abbrev pub row_of : State → Key → Option Asset
row_of state key = map.get state.rows key

-- what a repository has of a key
pub record Content : Type 0 where
  pub blob : BlobRef
  pub size : ℕ
  pub sha1 : List ℕ

abbrev pub content_of : Asset → Content
content_of asset = record { blob = asset.blob; size = asset.size; sha1 = asset.sha1 }

-- what the state has of each key
abbrev pub contents_of : State → Key → Option Content
contents_of state key = option_map content_of (row_of state key)

-- nothing is stored, and no upload was begun
abbrev pub empty_state : State
empty_state = record { rows = map.empty; trash = map.empty; loose = map.empty; taken = set.empty; notes = map.empty; last = 0; counts = map.empty; broken = None }
