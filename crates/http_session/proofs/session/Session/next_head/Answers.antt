use Rattle.std.proofs.Common.{◌≡◌, ℕ, List, take, refl, sym, ap, subst, ◌∙◌}
use Rattle.http_heads.specs.Cut.{drop_blank, HasNoHead}
use Rattle.http_front.proofs.Blanks.{drop_blank-drop_blank}
use Rattle.http_front.specs.Looks.{IsLook}
use Rattle.http_front.specs.declared.look.Look.TheVariants as looks
use Rattle.http_front.specs.declared.end.End.TheVariants as ends
use Rattle.http_session.specs.declared.step.Step.TheVariants as steps
use Rattle.http_session.specs.Views.{SessionView}
use Rattle.http_session.specs.Taken.{Past, Took}
use Rattle.http_session.proofs.Heads.{blank_taken, in_between}
use Rattle.http_session.proofs.Progress.{steps_on, steps_behind, blank_shrinks}
use Rattle.http_session.proofs.session.Session.next_head.Goals as goal

-- what is left begins with no line end
still : (s new : SessionView) → new ≡ record s { held = drop_blank s.held } → drop_blank new.held ≡ new.held
still s new e = ap (λ (v : SessionView). drop_blank v.held) e ∙ drop_blank-drop_blank s.held ∙ sym (ap (λ (v : SessionView). v.held) e)

-- behind the line ends
behind : (s new : SessionView) (fed : List ℕ) (past : Past) → new ≡ record s { held = drop_blank s.held } → Took (record s { held = drop_blank s.held }) fed past → Took new fed past
behind s new fed past e t = subst (λ (v : SessionView). Took v fed past) (sym e) t

pub ask-requires-clause-still : goal.ask-requires-clause-still
ask-requires-clause-still c = still c.args.self.now c.skip_blank.new.self c.skip_blank.ensures

pub refuse-requires-clause-still : goal.refuse-requires-clause-still
refuse-requires-clause-still c = still c.args.self.now c.skip_blank.new.self c.skip_blank.ensures

pub wait_for_head-requires-clause-still : goal.wait_for_head-requires-clause-still
wait_for_head-requires-clause-still c = still c.args.self.now c.skip_blank.new.self c.skip_blank.ensures

pub wait_for_head-requires-clause-head : goal.wait_for_head-requires-clause-head
wait_for_head-requires-clause-head c = subst (λ (l : List ℕ). IsLook l looks.Open) c.held.ensures.held c.in-Open.ensures

pub returns-in-Head-clause-gives : goal.returns-in-Head-clause-gives
returns-in-Head-clause-gives c fed past took =
    c.ask.ensures.gives fed past (behind c.args.self.now c.skip_blank.new.self fed past c.skip_blank.ensures (blank_taken c.args.self.now fed past c.requires.place c.requires.none took))

pub returns-in-Refused-clause-gives : goal.returns-in-Refused-clause-gives
returns-in-Refused-clause-gives c fed past took =
    c.refuse.ensures.gives fed past (behind c.args.self.now c.skip_blank.new.self fed past c.skip_blank.ensures (blank_taken c.args.self.now fed past c.requires.place c.requires.none took))

pub returns-in-Open-clause-gives : goal.returns-in-Open-clause-gives
returns-in-Open-clause-gives c fed past took =
    c.wait_for_head.ensures.gives fed past (behind c.args.self.now c.skip_blank.new.self fed past c.skip_blank.ensures (blank_taken c.args.self.now fed past c.requires.place c.requires.none took))

pub returns-in-NoMemory-clause-gives : goal.returns-in-NoMemory-clause-gives
returns-in-NoMemory-clause-gives c fed past took =
    let s = c.args.self.now in
    let x = in_between s fed past c.requires.place c.requires.none took in
    (behind s c.skip_blank.new.self fed past c.skip_blank.ensures (blank_taken s fed past c.requires.place c.requires.none took), x.phase)

pub look_at-requires-clause-none_yet : goal.look_at-requires-clause-none_yet
look_at-requires-clause-none_yet c = subst (λ (l : List ℕ). HasNoHead (take c.scanned.result l)) (sym c.held.ensures.held) c.scanned.ensures.none

pub returns-in-Head-clause-progresses : goal.returns-in-Head-clause-progresses
returns-in-Head-clause-progresses c =
    let s = c.args.self.now in
    let mid = c.skip_blank.new.self in
    steps_behind s mid c.ask.new.self c.ask.result (blank_shrinks s mid c.skip_blank.ensures) c.ask.ensures.progresses

pub returns-in-Refused-clause-progresses : goal.returns-in-Refused-clause-progresses
returns-in-Refused-clause-progresses c =
    let s = c.args.self.now in
    let mid = c.skip_blank.new.self in
    steps_behind s mid c.refuse.new.self c.refuse.result (blank_shrinks s mid c.skip_blank.ensures) c.refuse.ensures.progresses

pub returns-in-Open-clause-progresses : goal.returns-in-Open-clause-progresses
returns-in-Open-clause-progresses c =
    let s = c.args.self.now in
    let mid = c.skip_blank.new.self in
    steps_behind s mid c.wait_for_head.new.self c.wait_for_head.result (blank_shrinks s mid c.skip_blank.ensures) c.wait_for_head.ensures.progresses

pub returns-in-NoMemory-clause-progresses : goal.returns-in-NoMemory-clause-progresses
returns-in-NoMemory-clause-progresses c =
    let s = c.args.self.now in
    let mid = c.skip_blank.new.self in
    steps_on s mid (steps.Done ends.NoMemory) refl (blank_shrinks s mid c.skip_blank.ensures)
