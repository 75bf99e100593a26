-- Which calls of a disk, and of the writers and readers that it gives, are to fail, where that is planned.
use Rattle.std.specs.Prelude.{◌≡◌, ℕ, ◌+◌, ◌-◌, ◌^◌, min, Bool, true, false, ◌||◌, ◌==◌, nat_le, List, [], map, filter, Option, Some, None, Result, Ok, Err, MatchResult}
use Rattle.std.specs.List.{list_any}
use Rattle.std.specs.Option.{option_map_or}
use Rattle.disk_model.specs.declared.disk_err.DiskErr.{DiskErr}
use Rattle.disk_model.specs.Disk.{After}

-- the plan of a disk. The number of a call is the value of the clock at its beginning; those of the writers and readers that were given, and of their calls, count from 0.
pub record Plan : Type 0 where
  -- the numbers of the calls that are to fail, and the number from which on all are
  pub failing : List ℕ
  pub stop_after : Option ℕ
  -- how many writers were given, and pairs of a writer and its call that is to fail
  pub writers : ℕ
  pub writes : List (ℕ × ℕ)
  -- how many readers were given, and pairs of a reader and its call that is to fail
  pub readers : ℕ
  pub reads : List (ℕ × ℕ)

-- before the first writer and the first reader
abbrev pub first_plan : List ℕ → Option ℕ → Plan
first_plan failing stop_after = record { failing = failing; stop_after = stop_after; writers = 0; writes = []; readers = 0; reads = [] }

-- the plan of a writer or of a reader: the numbers of its calls that are to fail, and how many calls there were
pub record PartPlan : Type 0 where
  pub failing : List ℕ
  pub calls : ℕ

-- numbers stand still at their greatest value
abbrev pub one_more : ℕ → ℕ
one_more n = min (n + 1) (2 ^ 64 - 1)

abbrev pub is_listed : List ℕ → ℕ → Bool
is_listed numbers n = list_any (λ k. k == n) numbers

-- whether the call with that number is to fail: it is listed, or comes after the last one that goes well
abbrev pub fails_at : List ℕ → Option ℕ → ℕ → Bool
fails_at failing stop_after call = option_map_or (λ k. nat_le k call) stop_after false || is_listed failing call

-- the calls of one part that are to fail
abbrev pub calls_listed : ℕ → List (ℕ × ℕ) → List ℕ
calls_listed part pairs = map (λ pair. pair.1) (filter (λ pair. pair.0 == part) pairs)

-- before the first call of the part with that number
abbrev pub part_plan : ℕ → List (ℕ × ℕ) → PartPlan
part_plan part pairs = record { failing = calls_listed part pairs; calls = 0 }

-- the call failed where it is to fail, and else went well; memory may run out in place of both
abbrev pub FailsWhere : {T : Type 0} → Bool → Result T DiskErr → Type 0
FailsWhere fails result = After result (fails ≡ false) (fails ≡ true) (Unit {0})

-- where there is a plan, just the calls fail that are to
abbrev pub FailsByPlan : {T : Type 0} → Option Plan → ℕ → Result T DiskErr → Type 0
FailsByPlan None call result = Unit {0}
FailsByPlan (Some plan) call result = FailsWhere (fails_at plan.failing plan.stop_after call) result

-- a failure that was planned leaves what the call would have changed
abbrev pub PlannedLeaves : {T : Type 0} → Option Plan → Result T DiskErr → Type 0 → Type 0
PlannedLeaves None result Stays = Unit {0}
PlannedLeaves (Some plan) result Stays = After result (Unit {0}) Stays (Unit {0})

-- A writer that is given has the next number, and the plan of that number.
abbrev pub GivesWriter : {W : Type 0} → (W → Option PartPlan) → Option Plan → Option Plan → Result W DiskErr → Type 0
GivesWriter plan_of None new result = new ≡ None
GivesWriter plan_of (Some old) new (Ok writer) = (new ≡ Some (record old { writers = one_more old.writers })) × (plan_of writer ≡ Some (part_plan old.writers old.writes))
GivesWriter plan_of (Some old) new (Err refusal) = new ≡ Some old

-- The same for a reader. Where there is no file, none is given.
abbrev pub GivesReader : {R : Type 0} → (R → Option PartPlan) → Option Plan → Option Plan → Result (Option R) DiskErr → Type 0
GivesReader plan_of None new result = new ≡ None
GivesReader plan_of (Some old) new (Ok (Some reader)) = (new ≡ Some (record old { readers = one_more old.readers })) × (plan_of reader ≡ Some (part_plan old.readers old.reads))
GivesReader plan_of (Some old) new (Ok None) = new ≡ Some old
GivesReader plan_of (Some old) new (Err refusal) = new ≡ Some old

-- where a writer has a plan, each call counts, and just those fail that are listed
abbrev pub WritesByPlan : {T : Type 0} → Option PartPlan → Option PartPlan → Result T DiskErr → Type 0
WritesByPlan None new result = new ≡ None
WritesByPlan (Some old) new result = (new ≡ Some (record old { calls = one_more old.calls })) × FailsWhere (is_listed old.failing old.calls) result

-- the same for a reader
abbrev pub ReadsByPlan : {E : Type 0} → Option PartPlan → Option PartPlan → Result ℕ E → Type 0
ReadsByPlan None new result = new ≡ None
ReadsByPlan (Some old) new result =
    (new ≡ Some (record old { calls = one_more old.calls })) × MatchResult result (λ n. is_listed old.failing old.calls ≡ false) (λ e. is_listed old.failing old.calls ≡ true)
