-- Values that are written as they are.
use Rattle.std.specs.Prelude.{◌≡◌, ◌≢◌, ℕ, nat_le, Bool, true, not, ◌&&◌, List, slice_index}
use Rattle.std.specs.List.{list_all}
use Rattle.java_props.specs.Writing.{is_special}

-- a byte of ASCII that prints, and needs no backslash
abbrev pub is_plain : ℕ → Bool
is_plain b = nat_le 32 b && (nat_le b 126 && not (is_special b))

-- such bytes alone, and no space first
pub record IsPlain (text : List ℕ) : Type 0 where
  pub bytes : list_all is_plain text ≡ true
  pub first : slice_index text 0 ≢ 32
