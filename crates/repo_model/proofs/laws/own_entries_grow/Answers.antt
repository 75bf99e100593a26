use Rattle.std.proofs.Common.{◌≡◌, ◌==◌, Bool, true, false, cond, List, [], ◌∷◌, ◌++◌, filter, refl, ap}
use Rattle.repo_model.specs.declared.entry.Entry.{Entry}
use Rattle.repo_model.proofs.laws.own_entries_grow.Goals as goal

filter_push : (p : Entry → Bool) (es : List Entry) (e : Entry) → filter p (es ++ e ∷ []) ≡ filter p es ++ filter p (e ∷ [])
filter_push p [] e = refl
filter_push p (x ∷ es) e =
    elim (p x) as (λ b. cond b (x ∷ filter p (es ++ e ∷ [])) (filter p (es ++ e ∷ [])) ≡ cond b (x ∷ filter p es) (filter p es) ++ filter p (e ∷ [])) [
      | true ↦ ap (λ l. x ∷ l) (filter_push p es e)
      | false ↦ filter_push p es e
    ]

pub returns : goal.returns
returns c = λ pass e. filter_push (λ entry. entry.caller == pass.number) pass.seen e
