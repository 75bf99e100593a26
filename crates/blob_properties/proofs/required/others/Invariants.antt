use Rattle.std.proofs.Common.{◌≡◌, take}
use Rattle.blob_properties.specs.Keys.{others_of}
use Rattle.blob_properties.proofs.required.others.Given as goal

abbrev pub invariant-loop-at : goal.invariant-loop-at
invariant-loop-at l = l.others ≡ others_of (take l.at l.pairs)
