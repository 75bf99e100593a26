use Rattle.disk_model.proofs.Effects.{same_tree_of, kept_lists_of, settles_of, ticks_of}
use Rattle.std.proofs.Common.{true, None}
use Rattle.disk_model.proofs.memory.disk.MemDisk.settle.Goals as goal

pub returns-clause-tree : goal.returns-clause-tree
returns-clause-tree c =
    same_tree_of c.note.result c.args.self.now.history.files.items c.note.new.self.history.files.items c.args.self.now.calls c.args.name.now c.args.self.now.history.log.items c.note.new.self.history.log.items c.note.ensures.files c.note.ensures.log

pub returns-clause-crash : goal.returns-clause-crash
returns-clause-crash c =
    settles_of c.note.result c.args.self.now.history.files.items c.note.new.self.history.files.items c.args.self.now.calls c.note.new.self.calls c.args.name.now c.args.self.now.history.log.items c.note.new.self.history.log.items c.note.ensures.files c.note.ensures.log c.args.self.now.before c.note.new.self.before

pub returns-clause-time : goal.returns-clause-time
returns-clause-time c =
    ticks_of c.note.result c.args.self.now.history.files.items c.note.new.self.history.files.items c.args.self.now.calls c.note.new.self.calls c.args.name.now None true c.args.self.now.history.log.items c.note.new.self.history.log.items c.note.ensures.files c.note.ensures.log c.note.ensures.room c.note.ensures.calls

pub returns-clause-effect : goal.returns-clause-effect
returns-clause-effect c =
    kept_lists_of c.note.result c.args.self.now.history.files.items c.note.new.self.history.files.items c.args.self.now.calls c.note.new.self.calls c.args.name.now c.args.self.now.history.log.items c.note.new.self.history.log.items c.note.ensures.files c.note.ensures.log c.args.self.now.before c.note.new.self.before
