-- Which calls of a keeper are to fail, where that is planned.
use Rattle.std.specs.Prelude.{◌≡◌, ℕ, ◌+◌, ◌-◌, ◌^◌, min, List, Contains, Option, Some, None, Result, Ok, Err}
use Rattle.asset_keeper.specs.declared.keep_err.KeepErr.{KeepErr}
use Rattle.asset_keeper.specs.declared.keep_err.KeepErr.TheVariants as keep

-- the numbers of the calls that are to fail, from 0 on, and how many calls there were, which stands still at 2 ^ 64 - 1
pub record Plan : Type 0 where
  pub failing : List ℕ
  pub calls : ℕ

-- the call failed where it is to fail, and else went well; memory may run out in place of both
abbrev pub FailsWhere : {T : Type 0} → Type 0 → Result T KeepErr → Type 0
FailsWhere listed (Ok x) = listed → ⊥
FailsWhere listed (Err keep.Failed) = listed
FailsWhere listed (Err keep.NoMemory) = Unit {0}

-- where there is a plan, each call counts, and just those fail that are listed
abbrev pub ByPlan : {T : Type 0} → Option Plan → Option Plan → Result T KeepErr → Type 0
ByPlan None new result = new ≡ None
ByPlan (Some old) new result =
    (new ≡ Some (record { failing = old.failing; calls = min (old.calls + 1) (2 ^ 64 - 1) })) × FailsWhere (Contains old.failing old.calls) result

-- a failure that was planned leaves what the call would have changed
abbrev pub PlannedLeaves : {T : Type 0} → Option Plan → Result T KeepErr → Type 0 → Type 0
PlannedLeaves None result Stays = Unit {0}
PlannedLeaves (Some plan) (Ok x) Stays = Unit {0}
PlannedLeaves (Some plan) (Err keep.Failed) Stays = Stays
PlannedLeaves (Some plan) (Err keep.NoMemory) Stays = Unit {0}
