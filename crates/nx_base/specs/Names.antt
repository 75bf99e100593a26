-- The names of repositories, stores and cleanup policies.
use Rattle.std.specs.Prelude.{ℕ, Bool, ◌&&◌, ◌||◌, nat_le, ◌==◌, if◌then◌else◌, List, Result, Err, is_ok, codes}
use Rattle.std.specs.List.{prefix_len}
use Rattle.nx_base.specs.declared.name_err.NameErr.{NameErr}
use Rattle.nx_base.specs.declared.name_err.NameErr.TheVariants.{BadByte}
use Rattle.nx_base.specs.Texts.{text_of, same_name}

-- a letter, a digit, `.`, `_` or `-`
abbrev pub is_name_byte : ℕ → Bool
is_name_byte b =
    (nat_le 97 b && nat_le b 122) || (nat_le 65 b && nat_le b 90) || (nat_le 48 b && nat_le b 57)
    || b == 46 || b == 95 || b == 45

-- the name that a text gives, or why it gives none
abbrev pub name_of : List ℕ → Result (List ℕ) NameErr
name_of text = text_of 64 (prefix_len is_name_byte text) text

-- whether a text is a name
abbrev pub is_name : List ℕ → Bool
is_name text = is_ok (name_of text)

-- what stands in the folder of the repository beside the stores
abbrev pub is_reserved : List ℕ → Bool
is_reserved text =
    same_name text (codes ".") || same_name text (codes "..") || same_name text (codes "tmp")
    || same_name text (codes "state") || same_name text (codes "config.properties") || same_name text (codes "assets.db")

-- the name of a store that a text gives, or why it gives none
abbrev pub store_name_of : List ℕ → Result (List ℕ) NameErr
store_name_of text = if is_reserved text then Err (BadByte 0) else name_of text

-- whether a text is the name of a store
abbrev pub is_store_name : List ℕ → Bool
is_store_name text = is_ok (store_name_of text)
