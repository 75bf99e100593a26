use Rattle.std.proofs.Common.{inl, ◌∙◌, ap}
use Rattle.repo_core.specs.declared.denial.Denial.TheVariants as denial
use Rattle.disk_model.proofs.Chain.{goes_on}
use Rattle.disk_model.specs.Disk.{Same}
use Rattle.repo_core.proofs.Reasons.{deleted_is_short}
use Rattle.repo_core.proofs.Runs.{at_end}
use Rattle.repo_core.proofs.deleting.stage.Goals as goal

pub stage_mark-requires-clause-short : goal.stage_mark-requires-clause-short
stage_mark-requires-clause-short g c = deleted_is_short

pub returns-in-Err-clause-denied : goal.returns-in-Err-clause-denied
returns-in-Err-clause-denied g c = inl (c.in-Err.refusal, ap denial.Failed c.disk_fault.ensures)

pub returns-then-is_err-clause-any_moment : goal.returns-then-is_err-clause-any_moment
returns-then-is_err-clause-any_moment g c = λ told.
    let clock = g.D.Disk.clock in
    let lists = g.D.Disk.lists in
    let old = c.args.disk.now in
    let mid = c.stage_mark.new.disk in
    let run = c.stage_mark.ensures.any_moment told in
    let here = at_end clock lists old mid (Same (lists old (clock old))) run in
    goes_on clock lists (Same (lists old (clock old))) old mid c.discard-then-is_err.new.self run (c.discard-then-is_err.ensures.time told)
    (λ n out. c.discard-then-is_err.ensures.crash told n out ∙ here n out)
