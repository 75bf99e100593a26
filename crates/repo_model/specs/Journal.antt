-- A journal: its entries in order, and for how many there is room.
use Rattle.std.specs.Prelude.{ℕ, List}
use Rattle.repo_model.specs.declared.entry.Entry.{Entry}

pub record JournalView : Type 0 where
  pub entries : List Entry
  pub room : ℕ
