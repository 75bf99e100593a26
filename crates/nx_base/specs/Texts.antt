-- The order of texts, and the rule of those that are bounded in length and in the bytes that may stand in them.
use Rattle.std.specs.Prelude.{ℕ, Bool, ◌==◌, nat_lt, if◌then◌else◌, List, length, Result, Ok, Err}
use Rattle.std.specs.declared.cmp.Ordering.{Ordering}
use Rattle.std.specs.Ordering.{nat_cmp, is_eq}
use Rattle.std.specs.Cmp.Lexicographic.{slice_cmp}
use Rattle.nx_base.specs.declared.name_err.NameErr.{NameErr}
use Rattle.nx_base.specs.declared.name_err.NameErr.TheVariants.{Empty, TooLong, BadByte}

-- texts in byte order
abbrev pub name_cmp : List ℕ → List ℕ → Ordering
name_cmp = slice_cmp nat_cmp

-- whether two texts are the same
abbrev pub same_name : List ℕ → List ℕ → Bool
same_name a b = is_eq (name_cmp a b)

-- the text itself, if it has 1 to `most` bytes, of which the first `good` break no rule; else why not
abbrev pub text_of : ℕ → ℕ → List ℕ → Result (List ℕ) NameErr
text_of most good text =
    if length text == 0 then Err Empty
    else if nat_lt most (length text) then Err (TooLong (length text))
    else if nat_lt good (length text) then Err (BadByte good)
    else Ok text
