use Rattle.repo_core.proofs.Runs.{nothing_ran, still_same}
use Rattle.repo_core.proofs.repository.Core.drop_file.Goals as goal

pub returns-clause-back : goal.returns-clause-back
returns-clause-back g c = rw (← c.self.view_is) (
    let clock = g.D.Disk.clock in
    let lists = g.D.Disk.lists in
    let old = c.self.inside.disk in
    record {
      quiet = record {
        files = c.discard.ensures.tree;
        moments = λ told. still_same clock lists old old c.discard.new.self (nothing_ran clock lists old) (c.discard.ensures.time told) (c.discard.ensures.crash told);
        shown = c.discard.ensures.shown;
      };
      faults = c.discard.ensures.cause;
    })
