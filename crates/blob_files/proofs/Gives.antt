-- What a reader gives into the front of a part of a buffer, for the whole buffer.
use Rattle.std.proofs.Common.{◌≡◌, ℕ, ◌+◌, ◌-◌, ◌≤◌, List, ◌++◌, length, take, drop, sym, ◌∙◌, ap, arith, append_assoc, min}
use Rattle.std.proofs.lemmas.List.{take-append-drop, drop-append-le, drop-take, length-take, take-take}

long : (n room : ℕ) (buf : List ℕ) → n ≤ room → room ≤ length buf → n ≤ length (take room buf)
long n room buf fits inside = let is : length (take room buf) ≡ min room (length buf) = length-take room buf in omega arith

-- the bytes behind those that were given stay
pub given : (n d room : ℕ) (bytes buf part : List ℕ) → n ≤ d → n ≤ room → room ≤ length buf
    → part ≡ take n bytes ++ drop n (take room buf) → part ++ drop room buf ≡ take n (take d bytes) ++ drop n buf
given n d room bytes buf part within fits inside is =
    ap (λ (x : List ℕ). x ++ drop room buf) is
    ∙ append_assoc (take n bytes) (drop n (take room buf)) (drop room buf)
    ∙ ap (λ (x : List ℕ). x ++ (drop n (take room buf) ++ drop room buf)) (sym (take-take n d bytes within))
    ∙ ap (λ (x : List ℕ). take n (take d bytes) ++ x)
    (sym (drop-append-le n (take room buf) (drop room buf) (long n room buf fits inside)) ∙ ap (drop n) (take-append-drop room buf))

-- what is still to come is the rest
pub rest : (n size had : ℕ) (bytes : List ℕ) → n ≤ size - had → take (size - (had + n)) (drop n bytes) ≡ drop n (take (size - had) bytes)
rest n size had bytes within =
    sym (drop-take n (size - (had + n)) bytes) ∙ ap (λ (k : ℕ). drop n (take k bytes)) (omega arith)
