use Rattle.blob_properties.proofs.Lengths.{readable-room}
use Rattle.blob_properties.proofs.Own.{own-room}
use Rattle.blob_properties.proofs.laws.there_is_room.Goals as goal

pub returns-clause-readable : goal.returns-clause-readable
returns-clause-readable c = readable-room

pub returns-clause-own : goal.returns-clause-own
returns-clause-own c = own-room
