-- What a borrowed value shows, and what a map of names shows.
use Rattle.std.specs.Prelude.{List, ℕ, Option, Some, None, option_map}
use Rattle.std.specs.BTreeMap.{get_by_text}
use Rattle.disk_model.specs.declared.memory.shelf.Shelf.{Shelf}
use Rattle.disk_model.specs.Disk.{Tree}
use denote.Ref.{Bor}

abbrev pub seen : Option (Bor (List ℕ)) → Option (List ℕ)
seen (Some b) = Some b.now
seen None = None

-- the value that a shelf has of each name
abbrev pub shown : Shelf → Tree
shown shelf n = option_map (λ v. v.items) (get_by_text shelf.values n)
