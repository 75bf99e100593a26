-- The media types of contents.
use Rattle.std.specs.Prelude.{ℕ, ◌-◌, Bool, ◌&&◌, nat_le, ◌==◌, if◌then◌else◌, min, List, length, slice_index, Result, is_ok}
use Rattle.std.specs.List.{prefix_len}
use Rattle.nx_base.specs.declared.name_err.NameErr.{NameErr}
use Rattle.nx_base.specs.Texts.{text_of}

-- a printing character of ASCII, or the space
abbrev pub is_printing : ℕ → Bool
is_printing b = nat_le 32 b && nat_le b 126

-- how many bytes in front break no rule: all print, and no space stands at an end of the text
abbrev pub good_type_len : List ℕ → ℕ
good_type_len text =
    if slice_index text 0 == 32 then 0
    else if slice_index text (length text - 1) == 32 then min (prefix_len is_printing text) (length text - 1)
    else prefix_len is_printing text

-- the media type that a text gives, or why it gives none
abbrev pub content_type_of : List ℕ → Result (List ℕ) NameErr
content_type_of text = text_of 255 (good_type_len text) text

-- whether a text is a media type
abbrev pub is_content_type : List ℕ → Bool
is_content_type text = is_ok (content_type_of text)
