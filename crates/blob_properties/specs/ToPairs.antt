-- The pairs of a blob's properties.
use Rattle.std.specs.Prelude.{ℕ, List, Option, Some, None, decimal, codes}
use Rattle.hex.specs.Hex.{encode_lower}
use Rattle.java_props.specs.Kept.{Entries, put}
use Rattle.blob_properties.specs.declared.deleted.Deleted.{Deleted}
use Rattle.blob_properties.specs.Keys.{path_key, type_key, repo_key, timestamp_key, sha1_key, size_key, deleted_key, date_key, reason_key}
use Rattle.blob_properties.specs.Props.{Props}

-- the pairs without a mark: numbers without leading zeros, the digest in lower case, and the other pairs as they came
unfoldable pub plain_entries : Props → Entries
plain_entries props =
    put size_key (decimal props.size)
    (put sha1_key (encode_lower props.sha1)
    (put timestamp_key (decimal props.timestamp)
    (put repo_key props.key.repo
    (put type_key props.content_type
    (put path_key props.key.path props.others)))))

-- pairs with a mark of that time and reason, as they are written
unfoldable pub marked_entries : List ℕ → List ℕ → Entries → Entries
marked_entries date reason pairs = put reason_key reason (put date_key date (put deleted_key (codes "true") pairs))

-- pairs with a mark, if there is one
abbrev pub with_deleted : Option Deleted → Entries → Entries
with_deleted None pairs = pairs
with_deleted (Some mark) pairs = marked_entries (decimal mark.at) mark.reason pairs

-- the pairs of a blob's properties
abbrev pub entries_of : Props → Entries
entries_of props = with_deleted props.deleted (plain_entries props)
