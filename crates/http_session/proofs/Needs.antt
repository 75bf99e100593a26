-- A session that waits for bytes.
use Rattle.std.proofs.Common.{◌≡◌, ℕ, true, List, ap}
use Rattle.session_history.specs.Phases.{Phase, between, asked, beginning, inside, putting, over}
use Rattle.http_session.specs.declared.step.Step.TheVariants as steps
use Rattle.http_session.specs.Views.{SessionView, reads_at, NeedsBytes}
use Rattle.http_session.specs.Taken.{Past, phase_of, StandsAt, reads}
use Rattle.http_session.specs.Steps.{Gives}

-- where bytes come next, by its phase
place_reads : (s : SessionView) (part came : List ℕ) (p : Phase) → reads p ≡ true → StandsAt p s.place part came → reads_at s.place ≡ true
place_reads s part came between is x = ap reads_at x.0
place_reads s part came (asked head) is x = absurd cc
place_reads s part came (beginning head) is x = absurd cc
place_reads s part came (inside head) is x = ap reads_at x.1
place_reads s part came (putting head) is x = absurd cc
place_reads s part came over is x = absurd cc

-- where more bytes are needed, it waits for them
pub needs_bytes : (s : SessionView) (fed : List ℕ) (past : Past) → Gives fed past s steps.Need → NeedsBytes s
needs_bytes s fed past (still, going, short, room) = record {
  reads = place_reads s _ _ (phase_of past) still.reads still.took.stands;
  quiet = still.quiet;
  taken = still.taken;
  going = going;
  short = short;
  room = room;
}
