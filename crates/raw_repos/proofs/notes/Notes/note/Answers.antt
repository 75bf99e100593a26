use Rattle.std.proofs.Common.{◌<◌, ◌≤◌, ℕ, sym, ◌∙◌, ap, subst}
use Rattle.std.specs.FinMap.{len, insert}
use Rattle.repo_model.specs.Notes.{Notes, notes_limit, trimmed}
use Rattle.raw_repos.proofs.NoteLemmas.{insert_within, trimmed_within}
use Rattle.raw_repos.proofs.notes.Notes.note.Goals as goal

pub invariant_of-self-then-len-lt-NOTES_LIMIT : goal.invariant_of-self-then-len-lt-NOTES_LIMIT
invariant_of-self-then-len-lt-NOTES_LIMIT c =
    insert_within c.self.inside.notes c.insert.new.self c.args.key c.args.at (subst (λ (n : ℕ). n < notes_limit) c.len.ensures c.if-len-lt-NOTES_LIMIT.true) c.in_ok-insert.ensures.ok

pub returns-then-len-lt-NOTES_LIMIT-clause-ok : goal.returns-then-len-lt-NOTES_LIMIT-clause-ok
returns-then-len-lt-NOTES_LIMIT-clause-ok c =
    let few : len c.insert.new.self ≤ notes_limit = insert_within c.self.inside.notes c.insert.new.self c.args.key c.args.at (subst (λ (n : ℕ). n < notes_limit) c.len.ensures c.if-len-lt-NOTES_LIMIT.true) c.in_ok-insert.ensures.ok in
    sym (trimmed_within c.insert.new.self few) ∙ ap (λ (m : Notes). trimmed m) (c.in_ok-insert.ensures.ok ∙ ap (λ (m : Notes). insert m c.args.key c.args.at) c.self.view_is)
