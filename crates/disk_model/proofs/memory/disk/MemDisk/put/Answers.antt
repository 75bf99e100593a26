use Rattle.disk_model.proofs.Effects.{puts_of, kept_tree_of, joins_of, ticks_of}
use Rattle.std.proofs.Common.{false}
use Rattle.disk_model.proofs.memory.disk.MemDisk.put.Goals as goal

pub returns-clause-tree : goal.returns-clause-tree
returns-clause-tree c =
    puts_of c.note.result c.args.self.now.history.files.items c.note.new.self.history.files.items c.args.self.now.calls c.args.name.now c.args.value c.args.self.now.history.log.items c.note.new.self.history.log.items c.note.ensures.files c.note.ensures.log

pub returns-clause-crash : goal.returns-clause-crash
returns-clause-crash c =
    joins_of c.note.result c.args.self.now.history.files.items c.note.new.self.history.files.items c.args.self.now.calls c.note.new.self.calls c.args.name.now c.args.value c.args.self.now.history.log.items c.note.new.self.history.log.items c.note.ensures.files c.note.ensures.log c.args.self.now.before c.note.new.self.before

pub returns-clause-time : goal.returns-clause-time
returns-clause-time c =
    ticks_of c.note.result c.args.self.now.history.files.items c.note.new.self.history.files.items c.args.self.now.calls c.note.new.self.calls c.args.name.now c.args.value false c.args.self.now.history.log.items c.note.new.self.history.log.items c.note.ensures.files c.note.ensures.log c.note.ensures.room c.note.ensures.calls

pub returns-clause-effect : goal.returns-clause-effect
returns-clause-effect c =
    kept_tree_of c.note.result c.args.self.now.history.files.items c.note.new.self.history.files.items c.args.self.now.calls c.args.name.now c.args.value c.args.self.now.history.log.items c.note.new.self.history.log.items c.note.ensures.files c.note.ensures.log
