-- A legal history goes on by one entry.
use Rattle.std.proofs.Common.{◌≡◌, ℕ, ◌+◌, List, [], ◌∷◌, ◌++◌, length, refl, subst, arith, add-zero}
use Rattle.repo_model.specs.declared.entry.Entry.{Entry}
use Rattle.repo_model.specs.Config.{Config}
use Rattle.repo_model.specs.State.{State}
use Rattle.repo_model.specs.History.{Follows, LegalFrom}

pub LegalFrom-push : (config : Config) (n : ℕ) (state : State) (es : List Entry) (mid : State) (e : Entry) (new : State)
    → LegalFrom config n state es mid → Follows config (n + length es) mid e new → LegalFrom config n state (es ++ e ∷ []) new
LegalFrom-push config n state [] mid e new is next =
    let here : Follows config n mid e new = subst (λ k. Follows config k mid e new) (add-zero n) next in
    (new, subst (λ s. Follows config n s e new) is here, refl)
LegalFrom-push config n state (x ∷ es) mid e new legal next =
    let same : n + length (x ∷ es) ≡ (n + 1) + length es = omega arith in
    (legal.0, legal.1, LegalFrom-push config (n + 1) legal.0 es mid e new legal.2 (subst (λ k. Follows config k mid e new) same next))
