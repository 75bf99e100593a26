-- Which properties files are readable, and the texts that are written.
use Rattle.std.specs.Prelude.{◌≡◌, ◌≤◌, ℕ, ◌&&◌, nat_le, Bool, true, List, length, replicate, Option, Some, None, Result, Ok, Err, if◌then◌else◌}
use Rattle.java_props.specs.declared.PropsErr.{PropsErr}
use Rattle.java_props.specs.Kept.{Entries}
use Rattle.java_props.specs.Reading.{reading}
use Rattle.java_props.specs.Writing.{written}
use Rattle.blob_properties.specs.Props.{Props, with_mark, without_mark}
use Rattle.blob_properties.specs.FromPairs.{Refusal, props_of}
use Rattle.blob_properties.specs.ToPairs.{plain_entries, marked_entries, entries_of}
use Rattle.blob_properties.specs.declared.props_read.PropsRead.{PropsRead}
use Rattle.blob_properties.specs.declared.props_read.PropsRead.TheVariants.{Good, Unreadable}

-- the written text of a blob
abbrev pub text_of : Props → List ℕ
text_of props = written (entries_of props)

-- the written text of a blob that is marked, and of one that isn't
abbrev pub marked_text_of : Props → List ℕ → ℕ → List ℕ
marked_text_of props reason at = text_of (with_mark props reason at)

abbrev pub unmarked_text_of : Props → List ℕ
unmarked_text_of props = text_of (without_mark props)

-- the written text with the longest mark that there has to be room for: a time of 15 digits, and a reason of 100 bytes
unfoldable pub longest_text : Props → List ℕ
longest_text props = written (marked_entries (replicate 15 57) (replicate 100 120) (plain_entries props))

-- there is room for a mark, in pairs and in bytes
pub record HasRoom (props : Props) : Type 0 where
  pub pairs : length props.others ≤ 247
  pub bytes : length (longest_text props) ≤ 65536

-- the same as a test
abbrev pub has_room : Props → Bool
has_room props = nat_le (length props.others) 247 && nat_le (length (longest_text props)) 65536

abbrev pub if_room : Result Props Refusal → Option Props
if_room (Ok props) = if has_room props then Some props else None
if_room (Err e) = None

abbrev pub from_pairs : Result Entries PropsErr → Option Props
from_pairs (Ok pairs) = if_room (props_of pairs)
from_pairs (Err e) = None

-- the properties that a text of bytes says, where it is readable: it is read, all required keys have good values, and there
-- is room for a mark
unfoldable pub readable_of : List ℕ → Option Props
readable_of text = from_pairs (reading text)

-- the text is readable, and says these properties
abbrev pub Readable : List ℕ → Props → Type 0
Readable text props = readable_of text ≡ Some props

-- what was read
abbrev pub read_as : PropsRead → Option Props
read_as (Good props) = Some props
read_as Unreadable = None
