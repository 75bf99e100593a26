-- The contents that a look gives out.
use Rattle.std.specs.Prelude.{◌≡◌, ℕ, List}
use Rattle.nx_base.specs.declared.asset.Asset.{Asset}
use Rattle.blob_files.specs.declared.download.Download.{Download}
use Rattle.blob_files.specs.Downloads.{IsWhole}
use Rattle.repo_model.specs.declared.transfer.GotOf.{GotOf}
use Rattle.repo_model.specs.declared.transfer.GotOf.TheVariants as got
use Rattle.http_front.specs.Contents.{Contents, bytes_of}
use Rattle.http_front.specs.Served.{Has}

-- the file has just the bytes of the asset's content
pub record GivesContent {R : Type 0} (left : R → List ℕ) (contents : Contents) (asset : Asset) (download : Download R) : Type 0 where
  pub there : Has contents asset.blob
  pub bytes : left download.reader ≡ bytes_of contents asset.blob
  pub whole : IsWhole left download

-- the content of the asset is there, and where its bytes are given, they are these
abbrev pub GivesHeld : {R : Type 0} → (R → List ℕ) → Contents → GotOf (Download R) → Type 0
GivesHeld left contents (got.Hit asset download) = GivesContent left contents asset download
GivesHeld left contents (got.Seen asset) = Has contents asset.blob
GivesHeld left contents (got.NeedFetch key) = Unit {0}
