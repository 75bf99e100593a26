use Rattle.std.proofs.Common.{Some, refl, sym, ◌∙◌}
use Rattle.raw_repos.proofs.HoldLemmas.{found_at, not_yet, nowhere, from_false}
use Rattle.raw_repos.proofs.holds.holds_blob.Goals as goal

pub returns-then-reads : goal.returns-then-reads
returns-then-reads c =
    (λ _. found_at c.args.blobs.now c.loop-held.held-index c.held-item.result (Some c.args.blob.now) c.loop-held-test.true c.held-item.is (c.reads.ensures.0 c.if-reads.true), λ _. refl)

pub loop-held-preserved : goal.loop-held-preserved
loop-held-preserved c =
    not_yet c.args.blobs.now c.loop-held.held-index c.held-item.result (Some c.args.blob.now) c.loop-held-test.true c.held-item.is
    (λ is. from_false (sym c.if-reads.false ∙ c.reads.ensures.1 is)) c.loop-held.invariant

pub returns : goal.returns
returns c = (λ h. from_false h, λ found. absurd (nowhere c.args.blobs.now c.loop-held.held-index (Some c.args.blob.now) c.loop-held-test.false c.loop-held.invariant found))
