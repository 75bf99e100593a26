-- Where a timestamp is left, a content is stored under the next one.
use Rattle.std.proofs.Common.{◌≡◌, ℕ, ◌<◌, List, Bool, cond}
use Rattle.std.proofs.lemmas.Bool.{lt-leb}
use Rattle.nx_base.specs.declared.moment.Moment.{Moment}
use Rattle.nx_base.specs.Ids.{id_made}
use Rattle.repo_model.specs.declared.upload.Upload.{Upload}
use Rattle.repo_model.specs.State.{State}
use Rattle.repo_model.specs.Timestamps.{time_of, greatest_time, next_timestamp}
use Rattle.repo_model.specs.Storing.{stored, stored_as}

pub stored_next : (state : State) (store : List ℕ) (upload : Upload) (moment : Moment) (is_fetched : Bool) (timestamp verified : ℕ) (id : List ℕ)
    → state.last < greatest_time → timestamp ≡ next_timestamp state.last moment.now → id ≡ id_made timestamp moment.random
    → verified ≡ cond is_fetched (time_of moment.now) timestamp
    → stored state store upload moment is_fetched ≡ stored_as state upload moment.now (record { store = store; id = id; timestamp = timestamp }) verified
stored_next state store upload moment is_fetched timestamp verified id left timestamp_is id_is verified_is =
    rw (verified_is, id_is, timestamp_is, lt-leb greatest_time state.last left)
