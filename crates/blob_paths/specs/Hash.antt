-- Java's hash of a text of ASCII (String.hashCode), and the two numbers between 1 and 43 and between 1 and 47 that it gives.
use Rattle.std.specs.Prelude.{ℕ, ℤ, pos, ◌+◌, ◌+ℤ◌, ◌*ℤ◌, List, fold, int_rem, unsigned_abs}
use Rattle.std.specs.Int.{w32, int_wrap}

-- the hash with one byte more: 31 times the hash and the byte, as signed numbers of 32 bits wrap
abbrev pub hash_step : ℤ → ℕ → ℤ
hash_step hash byte = int_wrap w32 ((hash *ℤ pos 31) +ℤ pos byte)

-- the hash of a text, from 0
abbrev pub java_hash_of : List ℕ → ℤ
java_hash_of text = fold hash_step (pos 0) text

-- one of that many numbers from 1 on: the remainder goes toward zero, and then its sign is dropped
abbrev pub number_by : ℕ → ℤ → ℕ
number_by count hash = unsigned_abs (int_rem hash (pos count)) + 1

-- the volume and the chapter of a text
abbrev pub tier_of : List ℕ → ℕ × ℕ
tier_of text = (number_by 43 (java_hash_of text), number_by 47 (java_hash_of text))
