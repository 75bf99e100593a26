-- What a refusal tells of, and a reply that is one.
use Rattle.std.specs.Prelude.{Bool, true, false}
use Rattle.repo_model.specs.declared.reply.Fault.{Fault}
use Rattle.repo_model.specs.declared.reply.Fault.TheVariants as fault
use Rattle.repo_model.specs.declared.reply.Refusal.{Refusal}
use Rattle.repo_model.specs.declared.reply.Refusal.TheVariants as refusal
use Rattle.repo_model.specs.declared.reply.Reply.{Reply}
use Rattle.repo_model.specs.declared.reply.Reply.TheVariants as reply

-- A refusal is what the step says, or tells of a content that isn't what its row says, or of a fault.
pub data Class : Type 0 where
  OfStep : Class
  OfContent : Class
  OfFault : Fault → Class

-- the class of each refusal
abbrev pub class_of : Refusal → Class
class_of (refusal.Damaged size found) = OfContent
class_of refusal.DiskFault = OfFault fault.Disk
class_of refusal.KeeperFault = OfFault fault.Keeper
class_of refusal.NoMemory = OfFault fault.Memory
class_of why = OfStep

-- whether the step says it
abbrev pub is_of_step : Class → Bool
is_of_step OfStep = true
is_of_step class = false

-- whether it tells of such a fault, of such a fault by a type, and of none
abbrev pub is_of_fault : (Fault → Bool) → Class → Bool
is_of_fault is (OfFault what) = is what
is_of_fault is class = false

abbrev pub IsOfFault : (Fault → Type 0) → Class → Type 0
IsOfFault Is (OfFault what) = Is what
IsOfFault Is class = ⊥

abbrev pub IsOfNoFault : Class → Type 0
IsOfNoFault (OfFault what) = ⊥
IsOfNoFault class = Unit {0}

-- the device that failed
abbrev pub is_disk : Fault → Bool
is_disk fault.Disk = true
is_disk what = false

abbrev pub is_keeper : Fault → Bool
is_keeper fault.Keeper = true
is_keeper what = false

-- something of a reply that is a refusal, and something else of all others
abbrev pub on_refused : {A : Type 0} → A → (Refusal → A) → Reply → A
on_refused other of (reply.Refused why) = of why
on_refused other of said = other

-- what holds of a reply that is a refusal, and always of all others
abbrev pub OnRefused : (Refusal → Type 0) → Reply → Type 0
OnRefused Of (reply.Refused why) = Of why
OnRefused Of said = Unit {0}
