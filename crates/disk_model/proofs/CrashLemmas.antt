-- The disk that a crash leaves.
use Rattle.std.proofs.Common.{true, ◌≡◌, ℕ, zero, suc, ◌<◌, List, [], ◌∷◌, length, drop, ap, ◌∙◌}
use Rattle.std.specs.Prelude.{Result, Ok, Err, IfOk}
use Rattle.nx_base.specs.declared.name_err.NoMemory.{NoMemory}
use Rattle.disk_model.specs.declared.memory.change.Change.{Change}
use Rattle.disk_model.specs.declared.memory.disk.MemDisk.{MemDisk}
use Rattle.disk_model.specs.Disk.{Tree, Lists, Rises}
use Rattle.disk_model.specs.Moments.{IsImage}
use Rattle.disk_model.specs.Past.{Files, lookup, run, first_of, tree_of, lists_of, all_before}
use Rattle.disk_model.specs.PastLaws.{from_test, until-all}
use Rattle.disk_model.specs.Picked.{picked, AreNames}
use Rattle.disk_model.proofs.PickLemmas.{rises-rest, picked-image}

pub rises-drop : (i : ℕ) (xs : List (List ℕ)) → Rises xs → Rises (drop i xs)
rises-drop zero xs rises = rises
rises-drop (suc i) [] rises = tt
rises-drop (suc i) (x ∷ xs) rises = rises-drop i xs (rises-rest x xs rises)

-- the lists of now are those of the whole log
pub names-now : (files : Files) (log : List Change) (t : ℕ) (names : List (List ℕ)) → all_before t log ≡ true
    → AreNames (λ n. (run n log (first_of n files)).1) names → AreNames (lists_of files log t) names
names-now files log t names before are = record {
  rises = are.rises;
  outside = are.outside;
  others = λ n out absent. ap (λ (l : List Change). (run n l (first_of n files)).1) (until-all t log (from_test t log before)) ∙ are.others n out absent;
}

abbrev tree_of_disk : MemDisk → Tree
tree_of_disk d = tree_of d.history.files.items d.history.log.items

module _ (lists : Lists) (names : List (List ℕ)) (pick : ℕ) (files : Files) (are : AreNames lists names) (is : (n : List ℕ) → lookup n files ≡ picked lists names pick n) where
  pub crash-picked : (r : Result MemDisk NoMemory) → IfOk r (λ d. tree_of_disk d ≡ (λ n. lookup n files))
      → IfOk r (λ d. (xs : List (List ℕ)) × AreNames lists xs × ((n : List ℕ) → tree_of_disk d n ≡ picked lists xs pick n))
  crash-picked (Err e) tree = tt
  crash-picked (Ok d) tree = (names, are, λ n. ap (λ (t : Tree). t n) tree ∙ is n)

  pub crash-image : ((n : List ℕ) → 0 < length (lists n)) → (r : Result MemDisk NoMemory) → IfOk r (λ d. tree_of_disk d ≡ (λ n. lookup n files))
      → IfOk r (λ d. IsImage lists (tree_of_disk d))
  crash-image some (Err e) tree = tt
  crash-image some (Ok d) tree = picked-image lists names pick (tree_of_disk d) are some (λ n. ap (λ (t : Tree). t n) tree ∙ is n)
