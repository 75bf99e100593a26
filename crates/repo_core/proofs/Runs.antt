-- Runs of calls on a disk by which nothing can be seen.
use Rattle.std.proofs.Common.{◌≡◌, ◌∙◌, ℕ, refl, ap, arith}
use Rattle.disk_model.specs.Disk.{Lists, Same}
use Rattle.disk_model.specs.Moments.{During, Ticks}
use Rattle.disk_model.proofs.Chain.{started, goes_on}

module _ {D : Type 0} (clock : D → ℕ) (lists : D → ℕ → Lists) where
  pub nothing_ran : (d : D) → During clock lists d d (Same (lists d (clock d)))
  nothing_ran d = started clock lists (Same (lists d (clock d))) d (λ n out. refl)

  -- a look at a file
  pub looked : (old new : D) → Ticks (clock old) (clock new) (lists old) (lists new) → lists new (clock new) ≡ lists old (clock old) → During clock lists old new (Same (lists old (clock old)))
  looked old new time crash = goes_on clock lists (Same (lists old (clock old))) old old new (nothing_ran old) time (λ n out. ap (λ (l : Lists). l n) crash)

  -- what holds at the end of a run
  pub at_end : (old new : D) (P : Lists → Type 0) → During clock lists old new P → P (lists new (clock new))
  at_end old new P run = run.each (clock new) run.later (omega arith)

  -- a run by which nothing can be seen, and then one call more
  pub still_same : (old mid new : D) → During clock lists old mid (Same (lists old (clock old))) → Ticks (clock mid) (clock new) (lists mid) (lists new) → Same (lists mid (clock mid)) (lists new (clock new))
      → During clock lists old new (Same (lists old (clock old)))
  still_same old mid new run time same =
      let here = at_end old mid (Same (lists old (clock old))) run in
      goes_on clock lists (Same (lists old (clock old))) old mid new run time (λ n out. same n out ∙ here n out)
