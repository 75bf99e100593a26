-- The bytes of a buffer after a step.
use Rattle.std.proofs.Common.{◌≡◌, ℕ, ◌+◌, ◌-◌, ◌≤◌, List, ◌++◌, length, take, drop, sym, ap, ◌∙◌, arith}
use Rattle.std.proofs.lemmas.List.{drop-drop, drop-take, length-take-le, length-drop, drop-append-le, take-take}
use Rattle.std.proofs.Math.Seq.{take-append-add}
use Rattle.std.proofs.lemmas.Slice.{take-put_mid}
use borrow.Rule.Slice.PartMut.{put_mid, same_len_mid}

pub taken : (xs : List ℕ) (s e n : ℕ) → n ≤ e - s → take (e - (s + n)) (drop (s + n) xs) ≡ drop n (take (e - s) (drop s xs))
taken xs s e n le =
    let m : n + (e - (s + n)) ≡ e - s = omega arith in
    ap (take (e - (s + n))) (sym (drop-drop n s xs))
    ∙ sym (drop-take n (e - (s + n)) (drop s xs))
    ∙ ap (λ (k : ℕ). drop n (take k (drop s xs))) m

pub held_len : (xs : List ℕ) (s e : ℕ) → s ≤ e → e ≤ length xs → length (take (e - s) (drop s xs)) ≡ e - s
held_len xs s e le in_xs = length-take-le (e - s) (drop s xs) (omega (arith, length-drop s xs))

-- n bytes written behind those from s to e
pub fed : (xs part : List ℕ) (s e n : ℕ) → s ≤ e → e + n ≤ length xs → length part ≡ n → take (e + n - s) (drop s (put_mid e (e + n - e) xs part)) ≡ take (e - s) (drop s xs) ++ part
fed xs part s e n order le len =
    let m : s + (e + n - s) ≡ e + n = omega arith in
    let k : s + (e - s) ≡ e = omega arith in
    sym (drop-take s (e + n - s) (put_mid e (e + n - e) xs part))
    ∙ ap (λ (j : ℕ). drop s (take j (put_mid e (e + n - e) xs part))) m
    ∙ ap (drop s) (take-put_mid e (e + n - e) xs part (e + n) (omega (arith, len)) (omega arith))
    ∙ drop-append-le s (take e xs) part (omega (arith, length-take-le e xs (omega arith)))
    ∙ ap (λ (t : List ℕ). t ++ part) (sym (ap (λ (j : ℕ). drop s (take j xs)) k) ∙ drop-take s (e - s) xs)

pub same : (xs part : List ℕ) (k n : ℕ) → k + n ≤ length xs → length part ≡ n → length (put_mid k (k + n - k) xs part) ≡ length xs
same xs part k n le len =
    let z : k + n - k ≡ n = omega arith in
    same_len_mid k (k + n - k) xs part (len ∙ sym z ∙ sym (length-take-le (k + n - k) (drop k xs) (omega (arith, z, length-drop k xs))))

-- the same, where only the first of them count
pub fed_prefix : (xs part : List ℕ) (s e n m j : ℕ) → s ≤ e → e + n ≤ length xs → length part ≡ n → m ≤ n → j ≡ e + m - s → take j (drop s (put_mid e (e + n - e) xs part)) ≡ take (e - s) (drop s xs) ++ take m part
fed_prefix xs part s e n m j order le len few is =
    let all : List ℕ = drop s (put_mid e (e + n - e) xs part) in
    let kept : List ℕ = take (e - s) (drop s xs) in
    let long : length kept ≡ e - s = held_len xs s e order (omega arith) in
    sym (take-take j (e + n - s) all (omega (arith, is)))
    ∙ ap (take j) (fed xs part s e n order le len)
    ∙ ap (λ (i : ℕ). take i (kept ++ part)) (omega (arith, is, long))
    ∙ take-append-add kept part m
