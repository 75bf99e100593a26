use Rattle.std.proofs.Common.{refl}
use Rattle.nexrepo.proofs.Exactly.{run_exactly}
use Rattle.nexrepo.proofs.Held.{nothing_stands}
use Rattle.nexrepo.proofs.run.run.Goals as goal
use Rattle.nexrepo.proofs.run.run.Goals.{in-Ok-Stdio, in-Err-Words, in-Err-NoMemory}

pub returns-clause-history : goal.returns-clause-history
returns-clause-history g c = elim c.match-read_words.branch [
  | in-Ok-Stdio w ↦ rw w.result-is w.stdio.ensures.history
  | in-Err-Words w ↦ rw (w.result-is, w.unopened.ensures) (λ settings given fresh. nothing_stands _ c.args.disk c.args.disk c.args.table c.args.table (λ told. refl) refl settings fresh)
  | in-Err-NoMemory w ↦ rw (w.result-is, w.unopened-in-Err-NoMemory.ensures) (λ settings given fresh. nothing_stands _ c.args.disk c.args.disk c.args.table c.args.table (λ told. refl) refl settings fresh)
]

pub returns-clause-exact : goal.returns-clause-exact
returns-clause-exact g c = elim c.match-read_words.branch [
  | in-Ok-Stdio w ↦
      rw (w.input-is, w.output-is, w.result-is) (λ none held fresh.
      run_exactly _ c.args.moments.now c.args.disk c.args.table _ _ _ _ _ w.stdio.result _ _ _ _ w.stdio.ensures.cause none held fresh _ _ _ _ w.stdio.ensures.session)
  | in-Err-Words w ↦ rw (w.result-is, w.unopened.ensures) (λ none held fresh. absurd (held.command refl))
  | in-Err-NoMemory w ↦ rw (w.result-is, w.unopened-in-Err-NoMemory.ensures) (λ none held fresh. absurd (held.memory refl))
]
