use Rattle.disk_model.proofs.Recorded.{test-more}
use Rattle.disk_model.proofs.Effects.{lists_same}
use Rattle.std.proofs.Common.{refl}
use Rattle.disk_model.proofs.memory.disk.MemDisk.skip.Goals as goal

pub invariant_of-self : goal.invariant_of-self
invariant_of-self c = record { before = test-more c.args.self.now.calls c.next-self.result c.args.self.now.history.log.items c.next-self.ensures.later c.args.self.now.before }

pub returns-clause-crash : goal.returns-clause-crash
returns-clause-crash c =
    lists_same c.args.self.now.history.files.items c.args.self.now.history.files.items c.args.self.now.history.log.items c.args.self.now.history.log.items c.args.self.now.calls c.next-self.result refl refl c.args.self.now.before
    (test-more c.args.self.now.calls c.next-self.result c.args.self.now.history.log.items c.next-self.ensures.later c.args.self.now.before)
