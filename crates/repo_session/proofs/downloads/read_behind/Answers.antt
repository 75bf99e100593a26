-- The bytes stand behind the first ones of the piece.
use Rattle.std.proofs.Common.{ℕ, take, ap, arith}
use Rattle.repo_session.proofs.GivingOut.{Gave, behind_first, part_read}
use Rattle.repo_session.proofs.downloads.read_behind.Goals as goal

pub returns-in-Ok-clause-read : goal.returns-in-Ok-clause-read
returns-in-Ok-clause-read g c =
    let buf = c.read.new.buf in
    let count = c.in-Ok.count in
    let gave : Gave g.R.Reader.told g.R.Reader.left c.args.download.now c.read.new.self _ buf count = record {
      given = c.in-Ok.ensures.given;
      size = c.in-Ok.ensures.size;
      within = c.read.new.self.within;
      bytes = c.in-Ok.ensures.bytes;
    } in
    record {
      part = take count buf;
      filled = behind_first c.args.piece.now buf _ c.args.at count (omega (arith, c.told-piece, c.requires)) (let same = c.read.auto.buf in let within = c.in-Ok.ensures.within in omega arith);
      given = gave.given;
      size = gave.size;
      rest = λ told whole. part_read _ _ c.args.download.now c.read.new.self _ buf count gave told whole;
      whole = c.in-Ok.ensures.whole;
      none = λ none. ap (λ (k : ℕ). take k buf) none;
      later = c.in-Ok.ensures.cause.later;
    }
