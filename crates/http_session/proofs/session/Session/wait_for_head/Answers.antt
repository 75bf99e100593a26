use Rattle.std.proofs.Common.{◌≡◌, ◌<◌, true, false, [], length, refl, sym, ap, subst, ◌∙◌}
use Rattle.session_history.specs.Phases.{Phase}
use Rattle.http_session.specs.declared.step.Step.{Step}
use Rattle.http_session.specs.Views.{SessionView}
use Rattle.http_session.specs.Taken.{reads}
use Rattle.http_session.specs.Steps.{IsStill, Gives, Progresses, wait_step}
use Rattle.http_session.proofs.Heads.{head_waits}
use Rattle.http_session.proofs.Progress.{same, steps_on, waits_without_head}
use Rattle.http_session.proofs.Waits.{waits_for_head}
use Rattle.http_session.proofs.session.Session.wait_for_head.Goals as goal

pub returns-clause-gives : goal.returns-clause-gives
returns-clause-gives c fed past took =
    let s = c.args.self.now in
    let w = head_waits s fed past c.requires.place c.requires.none c.requires.still c.requires.head took in
    let still : IsStill fed past s = record { took = took; history = w.1; reads = subst (λ (p : Phase). reads p ≡ true) (sym w.0) refl; quiet = c.requires.quiet; taken = c.requires.none } in
    let inside = c.has_held-inside.result in
    let step : c.wait.result ≡ wait_step s.longer s.ended inside = c.wait.ensures ∙ ap (λ (v : SessionView). wait_step v.longer v.ended inside) c.note_scanned.ensures in
    let some : inside ≡ true → 0 < length s.held = subst (λ (v : SessionView). inside ≡ true → 0 < length v.held) c.note_scanned.ensures c.has_held-inside.ensures.some in
    let none : inside ≡ false → s.held ≡ [] = subst (λ (v : SessionView). inside ≡ false → v.held ≡ []) c.note_scanned.ensures c.has_held-inside.ensures.none in
    subst (λ (v : SessionView). Gives fed past v c.wait.result) (sym c.note_scanned.ensures)
    (subst (λ (x : Step). Gives fed past s x) (sym step) (waits_for_head s fed past inside still w.0 c.requires.still c.requires.head some none))

pub returns-clause-progresses : goal.returns-clause-progresses
returns-clause-progresses c =
    let s = c.args.self.now in
    let mid = c.note_scanned.new.self in
    let inside = c.has_held-inside.result in
    subst (λ (v : SessionView). Progresses s v c.wait.result) (sym c.note_scanned.ensures)
    (subst (λ (x : Step). Progresses s s x) (sym c.wait.ensures) (steps_on s s (wait_step mid.longer mid.ended inside) (waits_without_head mid.longer mid.ended inside) (same s)))
