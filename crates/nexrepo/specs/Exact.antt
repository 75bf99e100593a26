-- What a run says in which nothing failed.
use Rattle.std.specs.Prelude.{◌≡◌, ◌≢◌, ℕ, Bool, List, [], Option}
use Rattle.nx_io.specs.Causes.{Rose}
use Rattle.nx_base.specs.declared.moment.Moment.{Moment}
use Rattle.repo_model.specs.State.{empty_state}
use Rattle.repo_config.specs.Settings.{Settings}
use Rattle.http_requests.specs.Requests.{Item}
use Rattle.http_front.specs.declared.end.End.{End}
use Rattle.http_front.specs.declared.end.End.TheVariants as ends
use Rattle.http_front.specs.Output.{output_of}
use Rattle.http_front.specs.Sessions.{EndsAs}
use Rattle.http_front.specs.Sound.{NoneWanted}
use Rattle.http_front.specs.Turns.{Turn, entries_of, requests_of, turns_said}
use Rattle.repo_core.specs.Devices.{Devices}
use Rattle.nexrepo.specs.declared.run.Ran.{Ran}
use Rattle.nexrepo.specs.declared.status.Status.{Status}
use Rattle.nexrepo.specs.declared.status.Status.TheVariants as status
use Rattle.nexrepo.specs.Configs.{FileGives}
use Rattle.nexrepo.specs.Ends.{Counts}
use Rattle.nexrepo.specs.Running.{setting_with}
use Rattle.nexrepo.specs.Statuses.{config_file}

-- No device failed: no count rose, and none stands at its greatest value.
pub record NoneRose (old new : Counts) : Type 0 where
  pub reads : Rose old.reads new.reads → ⊥
  pub writes : Rose old.writes new.writes → ⊥
  pub disk : Rose old.disk new.disk → ⊥
  pub keeper : Rose old.keeper new.keeper → ⊥

-- a status of a run that was held, and to whose end neither its input nor the memory was too small
pub record IsHeldStatus (s : Status) : Type 0 where
  pub command : s ≢ status.Usage
  pub configured : (key : Option (List ℕ)) → s ≢ status.BadConfig key
  pub short : s ≢ status.InputTooLong
  pub memory : s ≢ status.NoMemory

-- The requests were answered with these bytes, in these turns, whose entries are the journal. Where none of their answers was a want of
-- memory, bytes and entries are exactly those that the one-thread repository makes of the requests, from the state in which nothing was
-- stored.
pub record IsExact {D T : Type 0} (settings : Settings) (moments : List Moment) (ran : Ran D T) (requests : List Item) (written : List ℕ) : Type 0 where
  pub turns : List Turn
  pub asked : requests_of turns ≡ requests
  pub said : written ≡ turns_said [] turns
  pub journal : ran.journal ≡ record { entries = entries_of turns; room = settings.journal }
  pub bytes : NoneWanted turns → written ≡ (output_of (setting_with settings moments) 0 0 empty_state [] requests).bytes
  pub entries : NoneWanted turns → ran.journal.entries ≡ (output_of (setting_with settings moments) 0 0 empty_state [] requests).entries

-- an end of the input, or of an answer that ends the session
abbrev pub IsWholeEnd : End → Type 0
IsWholeEnd ends.Clean = Unit {0}
IsWholeEnd ends.Closed = Unit {0}
IsWholeEnd ends.Cut = Unit {0}
IsWholeEnd ends.ReadFault = ⊥
IsWholeEnd ends.WriteFault = ⊥
IsWholeEnd ends.DownloadFault = ⊥
IsWholeEnd ends.InputTooLong = ⊥
IsWholeEnd ends.NoMemory = ⊥

-- The input was read to such an end, and to its requests was said exactly that.
pub record HeldExactly {D T : Type 0} (devices : Devices D T) (moments : List Moment) (disk : D) (left left' : Option (List ℕ)) (ended : Bool) (taken taken' : Option (List ℕ)) (ran : Ran D T) : Type 0 where
  pub settings : Settings
  pub given : devices.told → FileGives (devices.tree disk config_file) settings
  pub end : End
  pub over : Bool
  pub whole : IsWholeEnd end
  pub ends : EndsAs (IsExact settings moments ran) (λ requests written count. ⊥) ⊥ over end left left' ended taken taken'
