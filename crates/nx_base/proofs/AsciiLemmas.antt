-- Texts of bytes below 128 are UTF-8.
use Rattle.std.proofs.Common.{◌≡◌, ℕ, ◌<◌, ◌≤◌, Bool, true, List, length, arith}
use Rattle.std.specs.Str.{IsUtf8}
use Rattle.std.specs.List.{prefix_len}
use Rattle.std.proofs.lemmas.Str.{IsUtf8-from_ascii}
use Rattle.std.proofs.lemmas.Str.Ascii.{IsAscii-from_reads}
use Rattle.std.proofs.lemmas.List.Sums.{prefix_len_passes}
use Rattle.std.proofs.lemmas.Bool.Decides.{nat_tests}
use Rattle.nx_base.specs.Names.{is_name_byte}
use Rattle.nx_base.specs.ContentTypes.{is_printing, good_type_len}

-- a text is UTF-8 if all its bytes pass a test that no byte from 128 on passes
IsUtf8-from_passes : (p : ℕ → Bool) → ((b : ℕ) → p b ≡ true → b < 128) → (text : List ℕ) → length text ≤ prefix_len p text → IsUtf8 text
IsUtf8-from_passes p small text all =
    IsUtf8-from_ascii text (IsAscii-from_reads text (prefix_len p text) all (λ k lt. small _ (prefix_len_passes p text k 0 lt)))

name_byte-small : (b : ℕ) → is_name_byte b ≡ true → b < 128
name_byte-small b passes = grind (arith, nat_tests)

printing-small : (b : ℕ) → is_printing b ≡ true → b < 128
printing-small b passes = grind (arith, nat_tests)

pub IsUtf8-from_name : (text : List ℕ) → length text ≤ prefix_len is_name_byte text → IsUtf8 text
IsUtf8-from_name = IsUtf8-from_passes is_name_byte name_byte-small

pub IsUtf8-from_printing : (text : List ℕ) → length text ≤ prefix_len is_printing text → IsUtf8 text
IsUtf8-from_printing = IsUtf8-from_passes is_printing printing-small

-- a media type whose bytes all are good is of printing bytes
pub all-print : (text : List ℕ) → 0 < length text → length text ≤ good_type_len text → length text ≤ prefix_len is_printing text
all-print text some good = grind (arith, nat_tests)
