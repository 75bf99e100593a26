-- Words of a command line.
use Rattle.std.proofs.Common.{◌≡◌, ℕ, zero, suc, ◌<◌, ◌≤◌, true, false, nat_eq, List, [], ◌∷◌, length, get_or, sym, subst, T, arith, codes, bytes_eq, string_bytes, string_len}
use Rattle.std.proofs.lemmas.Slice.Eq.{bytes_eq-Decides}
use Rattle.std.specs.declared.string.String.{String}
use Rattle.std.specs.declared.alloc.Global.{Global}
use Rattle.nexrepo.specs.Commands.{IsStdio, texts_of}

-- a list of two elements
pub two_items : {A : Type 0} (xs : List A) (a b : A) → 2 ≤ length xs → length xs < 3 → a ≡ get_or xs 0 a → b ≡ get_or xs 1 b → xs ≡ a ∷ b ∷ []
two_items [] a b le lt e f = absurd (omega (arith, le))
two_items (x ∷ []) a b le lt e f = absurd (omega (arith, le))
two_items (x ∷ y ∷ []) a b le lt e f = λ i. sym e i ∷ sym f i ∷ []
two_items (x ∷ y ∷ z ∷ xs) a b le lt e f = absurd (omega (arith, lt))

some_byte : (n m : ℕ) → n ≡ m → nat_eq n 0 ≡ false → 0 < m
some_byte zero m e f = absurd (subst (λ b. T b) f tt)
some_byte (suc n) m e f = omega (arith, e)

-- a folder that has a byte, and `stdio`
pub stdio_words : (words : List (String Global)) (folder command : String Global) (copy : List ℕ)
    → words ≡ folder ∷ command ∷ [] → nat_eq (string_len folder) 0 ≡ false
    → bytes_eq (string_bytes command) (codes "stdio") ≡ true → copy ≡ string_bytes folder → IsStdio (texts_of words) copy
stdio_words words folder command copy two some stdio same =
    let texts : texts_of words ≡ string_bytes folder ∷ string_bytes command ∷ [] = λ i. texts_of (two i) in
    let word : string_bytes command ≡ codes "stdio" = (bytes_eq-Decides (string_bytes command) (codes "stdio")).0 stdio in
    let len : string_len folder ≡ length copy = subst (λ bs. string_len folder ≡ length bs) (sym same) folder.bytes.ok.0 in
    record {
      words = subst (λ line. texts_of words ≡ line) (λ i. sym same i ∷ word i ∷ []) texts;
      some = some_byte (string_len folder) (length copy) len some;
    }
