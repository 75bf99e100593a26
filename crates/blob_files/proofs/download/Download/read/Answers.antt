use Rattle.std.proofs.Common.{◌≡◌, ◌-◌, ◌+◌, ◌≤◌, length, take, ap, ◌∙◌, min, arith}
use Rattle.std.proofs.lemmas.List.{length-take}
use Rattle.blob_files.proofs.Gives.{given, rest}
use Rattle.blob_files.proofs.download.Download.read.Goals as goal

pub returns-in-Ok-clause-bytes : goal.returns-in-Ok-clause-bytes
returns-in-Ok-clause-bytes g c told =
    let old = c.args.self.now in
    let room_is : c.min-room.result ≡ min (length c.args.buf.now) (old.size - old.given) = c.min-room.ensures in
    let some : length (take c.min-room.result c.args.buf.now) ≡ min c.min-room.result (length c.args.buf.now) = length-take c.min-room.result c.args.buf.now in
    let within : c.in-Ok.count ≤ length (take c.min-room.result c.args.buf.now) = c.in-Ok.ensures.within in
    let fits : c.in-Ok.count ≤ c.min-room.result = omega (arith, some, within) in
    let left : c.in-Ok.count ≤ old.size - old.given = omega (arith, fits, room_is) in (
      given c.in-Ok.count (old.size - old.given) c.min-room.result (g.R.Reader.left old.reader) c.args.buf.now c.read.new.buf left fits (omega (arith, room_is)) (c.in-Ok.ensures.bytes told),
      ap (take (old.size - (old.given + c.in-Ok.count))) (c.in-Ok.ensures.left told) ∙ rest c.in-Ok.count old.size old.given (g.R.Reader.left old.reader) left,
    )
