-- What contracts see of the two devices of a core.
use Rattle.std.specs.Prelude.{ℕ, Option}
use Rattle.disk_model.specs.Disk.{Tree, Lists}
use Rattle.disk_model.specs.declared.disk.Disk as disk
use Rattle.asset_keeper.specs.Table.{Table}
use Rattle.asset_keeper.specs.declared.keeper.Keeper as keeper

-- Whether the disk tells its files; these, and what a crash may leave of them at each moment of its clock; what its last look at a file
-- found; the table, where the keeper tells it, and whether it then goes on telling; how many calls of each device have failed; and how
-- often each has shown something, or may have: by an install, a removal, or a change of the rows, whatever it answered.
pub record Devices (D T : Type 0) : Type 1 where
  pub told : Type 0
  pub tree : D → Tree
  pub clock : D → ℕ
  pub lists : D → ℕ → Lists
  pub last_look : D → Option ℕ
  pub disk_faults : D → ℕ
  pub shown : D → ℕ
  pub table : T → Option Table
  pub lasts : Type 0
  pub keeper_faults : T → ℕ
  pub changes : T → ℕ

-- those of a core, from the members of the bounds: `devices D.Disk T.Keeper`
abbrev pub devices : {D S W R T : Type 0} → disk.Ghosts D S W R → keeper.Ghosts T → Devices D T
devices d t = record {
  told = d.told;
  tree = d.tree;
  clock = d.clock;
  lists = d.lists;
  last_look = d.last_look;
  disk_faults = d.faults;
  shown = d.shown;
  table = t.table;
  lasts = t.lasts;
  keeper_faults = t.faults;
  changes = t.changes;
}
