use Rattle.std.proofs.Common.{◌+◌, ◌<◌, ◌^◌, arith}
use Rattle.disk_model.proofs.Recorded.{test-more, test-added}
use Rattle.disk_model.proofs.memory.disk.MemDisk.record.Goals as goal

pub invariant_of-self : goal.invariant_of-self
invariant_of-self c = record {
  before = test-more c.args.self.now.calls c.next-self.result c.args.self.now.history.log.items c.next-self.ensures.later c.args.self.now.before;
}

pub invariant_of-self-in-Break-1 : goal.invariant_of-self-in-Break-1
invariant_of-self-in-Break-1 c = record {
  before = test-more c.args.self.now.calls c.next-self.result c.args.self.now.history.log.items c.next-self.ensures.later c.args.self.now.before;
}

pub invariant_of-self-2 : goal.invariant_of-self-2
invariant_of-self-2 c =
    let room : c.args.self.now.calls + 1 < 2 ^ 64 = omega arith in
    let lt : c.args.self.now.calls < c.next-self.result = omega (arith, c.next-self.ensures.moves room) in
    record {
      before = test-added c.args.self.now.calls c.next-self.result c.args.self.now.history.log.items c.add.new.self.log.items _ c.add.result
          c.add.ensures.added c.add.ensures.refused c.next-self.ensures.later lt c.args.self.now.before;
    }
