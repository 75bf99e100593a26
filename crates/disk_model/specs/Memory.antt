-- What a disk in memory holds, as its callers see it.
use Rattle.std.specs.Prelude.{ℕ, Option}
use Rattle.disk_model.specs.declared.memory.disk.MemDisk.{MemDisk}
use Rattle.disk_model.specs.Disk.{Tree, Lists}
use Rattle.disk_model.specs.Past.{tree_of, lists_of}
use Rattle.disk_model.specs.Plan.{Plan}

abbrev pub tree_in : MemDisk → Tree
tree_in disk = tree_of disk.history.files.items disk.history.log.items

-- at each moment of the clock
abbrev pub lists_in : MemDisk → ℕ → Lists
lists_in disk = lists_of disk.history.files.items disk.history.log.items

abbrev pub clock_in : MemDisk → ℕ
clock_in disk = disk.calls

abbrev pub faults_in : MemDisk → ℕ
faults_in disk = disk.faults

abbrev pub look_in : MemDisk → Option ℕ
look_in disk = disk.looked

abbrev pub shown_in : MemDisk → ℕ
shown_in disk = disk.shown

abbrev pub plan_in : MemDisk → Plan
plan_in disk = record {
  failing = disk.failing.items;
  stop_after = disk.stop_after;
  writers = disk.writers;
  writes = disk.fail_writes.items;
  readers = disk.readers;
  reads = disk.fail_reads.items;
}
