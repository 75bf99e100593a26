use Rattle.std.proofs.Common.{◌≡◌, drop}
use Rattle.nx_base.specs.Ids.{bad_id_place}
use Rattle.nx_base.proofs.blob_id.BlobId.parse.Given as goal

-- the first bad place of the whole text is that of what is left
abbrev pub invariant-loop-at : goal.invariant-loop-at
invariant-loop-at l = bad_id_place 0 l.text ≡ bad_id_place l.at (drop l.at l.text)
