use Rattle.std.proofs.Common.{None}
use Rattle.disk_model.specs.Moments.{MayPut}
use Rattle.disk_model.proofs.Chain.{started, goes_on, put_start, put_joins, put_settles}
use Rattle.disk_model.proofs.replace.remove_settled.Goals as goal

pub returns-in_err-there-clause-any_moment : goal.returns-in_err-there-clause-any_moment
returns-in_err-there-clause-any_moment g c = λ told.
    let clock = g.D.Disk.clock in
    let lists = g.D.Disk.lists in
    let d0 = c.args.disk.now in
    let d1 = c.remove.new.self in
    let first = lists d0 (clock d0) in
    let name = c.args.name.now in
    let P = MayPut name None first in
    let here = put_joins name None first first (lists d1 (clock d1)) (put_start name None first) c.remove.result (c.remove.ensures.crash told) in
    goes_on clock lists P d0 d0 d1 (started clock lists P d0 (put_start name None first)) (c.remove.ensures.time told) here

pub returns-in_err-sync-clause-any_moment : goal.returns-in_err-sync-clause-any_moment
returns-in_err-sync-clause-any_moment g c = λ told.
    let clock = g.D.Disk.clock in
    let lists = g.D.Disk.lists in
    let d0 = c.args.disk.now in
    let d1 = c.remove.new.self in
    let d2 = c.sync.new.self in
    let first = lists d0 (clock d0) in
    let name = c.args.name.now in
    let P = MayPut name None first in
    let here = put_joins name None first first (lists d1 (clock d1)) (put_start name None first) c.remove.result (c.remove.ensures.crash told) in
    let removed = goes_on clock lists P d0 d0 d1 (started clock lists P d0 (put_start name None first)) (c.remove.ensures.time told) here in
    let there = put_settles name None first (lists d1 (clock d1)) (lists d2 (clock d2)) here c.sync.result (g.D.Disk.tree d1 name) (g.met.D.Disk.present d1 told name) (c.sync.ensures.crash told) in
    goes_on clock lists P d0 d1 d2 removed (c.sync.ensures.time told) there

pub returns-clause-any_moment : goal.returns-clause-any_moment
returns-clause-any_moment g c = λ told.
    let clock = g.D.Disk.clock in
    let lists = g.D.Disk.lists in
    let d0 = c.args.disk.now in
    let d1 = c.remove.new.self in
    let d2 = c.sync.new.self in
    let first = lists d0 (clock d0) in
    let name = c.args.name.now in
    let P = MayPut name None first in
    let here = put_joins name None first first (lists d1 (clock d1)) (put_start name None first) c.remove.result (c.remove.ensures.crash told) in
    let removed = goes_on clock lists P d0 d0 d1 (started clock lists P d0 (put_start name None first)) (c.remove.ensures.time told) here in
    let there = put_settles name None first (lists d1 (clock d1)) (lists d2 (clock d2)) here c.sync.result (g.D.Disk.tree d1 name) (g.met.D.Disk.present d1 told name) (c.sync.ensures.crash told) in
    goes_on clock lists P d0 d1 d2 removed (c.sync.ensures.time told) there
