-- Keys are taken apart into what they are made of.
use Rattle.std.proofs.Common.{◌≡◌, ◌∙◌, ap, ℕ, ◌+◌, ◌-◌, List, ◌∷◌, ◌++◌, Bool, true, not, cond, length, take, drop, Some, arith, codes, length-append}
use Rattle.std.specs.List.{prefix_len, suffix_len, before_last, after_first}
use Rattle.std.proofs.lemmas.Bool.{lt-ltb}
use Rattle.std.proofs.lemmas.List.{reverse-append}
use Rattle.std.proofs.Math.Seq.{take-append_seam, drop-append-add}
use Rattle.repo_config.specs.declared.form.Subject.TheVariants.{OfAll, OfStore, OfRepo}
use Rattle.repo_config.specs.declared.form.Word.{Word}
use Rattle.repo_config.specs.declared.form.Word.TheVariants.{Stores, Repositories, Journal, Kind, Layout, Store, Policy}
use Rattle.repo_config.specs.Words.{text}
use Rattle.repo_config.specs.Keys.{is_dot, has_dot, tail_of, key_text}
use Rattle.repo_config.specs.Laws.{IsParted}

abbrev is_other : ℕ → Bool
is_other b = not (is_dot b)

-- a word has no dot, so behind a dot it is what no dot ends
behind : (prefix : List ℕ) (word : Word) → suffix_len is_other (prefix ++ 46 ∷ text word) ≡ length (text word)
behind prefix Stores = ap (prefix_len is_other) (reverse-append prefix (46 ∷ text Stores))
behind prefix Repositories = ap (prefix_len is_other) (reverse-append prefix (46 ∷ text Repositories))
behind prefix Journal = ap (prefix_len is_other) (reverse-append prefix (46 ∷ text Journal))
behind prefix Kind = ap (prefix_len is_other) (reverse-append prefix (46 ∷ text Kind))
behind prefix Layout = ap (prefix_len is_other) (reverse-append prefix (46 ∷ text Layout))
behind prefix Store = ap (prefix_len is_other) (reverse-append prefix (46 ∷ text Store))
behind prefix Policy = ap (prefix_len is_other) (reverse-append prefix (46 ∷ text Policy))

-- where the last dot stands
place : (prefix : List ℕ) (word : Word) → length (prefix ++ 46 ∷ text word) - suffix_len is_other (prefix ++ 46 ∷ text word) ≡ length prefix + 1
place prefix word =
    let key = behind prefix word in
    let whole = length-append prefix (46 ∷ text word) in
    omega (arith, key, whole)

last : (prefix : List ℕ) (word : Word) → tail_of (prefix ++ 46 ∷ text word) ≡ text word
last prefix word =
    ap (λ n. drop n (prefix ++ 46 ∷ text word)) (place prefix word) ∙ drop-append-add prefix (46 ∷ text word) 1

before : (prefix : List ℕ) (word : Word) → before_last is_dot (prefix ++ 46 ∷ text word) ≡ prefix
before prefix word =
    let at : length prefix + 1 - 1 ≡ length prefix = omega arith in
    ap (λ n. take (n - 1) (prefix ++ 46 ∷ text word)) (place prefix word)
    ∙ ap (λ n. take n (prefix ++ 46 ∷ text word)) at ∙ take-append_seam prefix (46 ∷ text word)

pub store_parted : (name : List ℕ) (word : Word) → IsParted OfStore name word
store_parted name word = record {
  prefix = ap (λ b. cond (not b) (Some OfAll) (Some OfStore)) (let d : has_dot (key_text OfStore name word) ≡ true = lt-ltb 5 (length (key_text OfStore name word)) (omega (arith, length-append (codes "store." ++ name) (46 ∷ text word))) in d);
  middle = ap (after_first is_dot) (before (codes "store." ++ name) word);
  last = last (codes "store." ++ name) word;
}

pub repo_parted : (name : List ℕ) (word : Word) → IsParted OfRepo name word
repo_parted name word = record {
  prefix = ap (λ b. cond (not b) (Some OfAll) (Some OfRepo)) (let d : has_dot (key_text OfRepo name word) ≡ true = lt-ltb 4 (length (key_text OfRepo name word)) (omega (arith, length-append (codes "repo." ++ name) (46 ∷ text word))) in d);
  middle = ap (after_first is_dot) (before (codes "repo." ++ name) word);
  last = last (codes "repo." ++ name) word;
}
