-- Copying the first entries of a list as rows.
use Rattle.std.proofs.Common.{◌≡◌, ◌<◌, ◌+◌, ◌-◌, ℕ, suc, List, [], ◌∷◌, ◌++◌, length-append, length, map, take, ap, arith}
use Rattle.std.proofs.lemmas.List.{append_assoc}
use Rattle.nx_base.specs.declared.key.Key.{Key}
use Rattle.nx_base.specs.declared.asset.Asset.{Asset}
use Rattle.nx_base.specs.declared.row.Row.{Row}
use Rattle.asset_keeper.specs.Table.{row_of}

pub one_more : (out : List Row) (e : Key × Asset) (rest : List (Key × Asset)) (n : ℕ) → length out < n
    → (out ++ row_of e ∷ []) ++ map row_of (take (n - length (out ++ row_of e ∷ [])) rest) ≡ out ++ map row_of (take (n - length out) (e ∷ rest))
one_more out e rest n lt =
    let k = n - (length out + 1) in
    let a : n - length (out ++ row_of e ∷ []) ≡ k = ap (λ m. n - m) (length-append out (row_of e ∷ [])) in
    let b : n - length out ≡ suc k = omega (arith, lt) in
    rw (a, b) (append_assoc out (row_of e ∷ []) (map row_of (take k rest)))
