use Rattle.std.proofs.Common.{◌≤◌, ◌<◌, ℕ, sym, ◌∙◌, ap, subst}
use Rattle.std.specs.FinMap.{len, remove}
use Rattle.repo_model.specs.Notes.{Notes, notes_limit}
use Rattle.raw_repos.proofs.NoteLemmas.{removed_within, no_oldest, undone}
use Rattle.raw_repos.proofs.notes.Notes.note_in_full.Goals as goal

pub invariant_of-self-in-Ok-Some : goal.invariant_of-self-in-Ok-Some
invariant_of-self-in-Ok-Some c =
    removed_within c.self.inside.notes c.insert.new.self c.remove.new.self c.args.key c.in-Ok-Some.oldest c.args.at c.self.invariant c.in_ok-insert.ensures.ok
    (sym c.in-Ok-Some.field-0-is ∙ c.in-Ok-Some.ensures) c.remove.ensures

pub invariant_of-self-in-Ok-None : goal.invariant_of-self-in-Ok-None
invariant_of-self-in-Ok-None c = no_oldest c.insert.new.self (sym c.in-Ok-None.field-0-is ∙ c.in-Ok-None.ensures)

pub invariant_of-self-in-Err : goal.invariant_of-self-in-Err
invariant_of-self-in-Err c =
    subst (λ (m : Notes). len m ≤ notes_limit)
    (sym (undone c.self.inside.notes c.insert.new.self c.remove-in-Err.new.self c.args.key c.args.at c.self.invariant c.in_ok-insert.ensures.ok
    (subst (λ (n : ℕ). notes_limit < n) c.len.ensures c.if-len-le-NOTES_LIMIT.false)
    (c.remove-in-Err.ensures ∙ ap (remove c.insert.new.self) c.in_ok-again.ensures)))
    c.self.invariant

pub returns-clause-err : goal.returns-clause-err
returns-clause-err c =
    undone c.self.inside.notes c.insert.new.self c.remove-in-Err.new.self c.args.key c.args.at c.self.invariant c.in_ok-insert.ensures.ok
    (subst (λ (n : ℕ). notes_limit < n) c.len.ensures c.if-len-le-NOTES_LIMIT.false)
    (c.remove-in-Err.ensures ∙ ap (remove c.insert.new.self) c.in_ok-again.ensures)
    ∙ c.self.view_is
