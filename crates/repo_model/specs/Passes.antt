-- What a caller has seen of the history.
use Rattle.std.specs.Prelude.{ℕ, ◌==◌, List, filter}
use Rattle.repo_model.specs.declared.entry.Entry.{Entry}

-- a caller's number, and the entries that it has seen, from the first on
pub record PassView : Type 0 where
  pub number : ℕ
  pub seen : List Entry

-- the entries of its own calls
abbrev pub own_entries : PassView → List Entry
own_entries pass = filter (λ entry. entry.caller == pass.number) pass.seen
