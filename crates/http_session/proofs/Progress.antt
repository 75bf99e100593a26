-- The bytes that wait, after a step.
use Rattle.std.proofs.Common.{◌≡◌, ℕ, ◌+◌, ◌<◌, ◌≤◌, Bool, true, false, List, [], length, take, drop, refl, sym, ap, subst, ◌∙◌, arith, length-append}
use Rattle.std.proofs.lemmas.List.{length-drop, length-take-le}
use Rattle.http_heads.specs.Cut.{drop_blank}
use Rattle.http_front.proofs.Blanks.{blank_prefix, splits}
use Rattle.http_session.specs.declared.place.Place.{Place}
use Rattle.http_session.specs.declared.step.Step.{Step}
use Rattle.http_session.specs.Views.{SessionView, waiting}
use Rattle.http_session.specs.Steps.{Progresses, takes_head, wait_step}

-- no bytes came, and some may have been taken
pub record Shrinks (old new : SessionView) : Type 0 where
  pub total : new.total ≡ old.total
  pub ended : new.ended ≡ old.ended
  pub longer : new.longer ≡ old.longer
  pub fewer : waiting new ≤ waiting old

pub same : (s : SessionView) → Shrinks s s
same s = record { total = refl; ended = refl; longer = refl; fewer = omega arith }

pub along : (a b c : SessionView) → Shrinks a b → Shrinks b c → Shrinks a c
along a b c x y = record { total = y.total ∙ x.total; ended = y.ended ∙ x.ended; longer = y.longer ∙ x.longer; fewer = omega (arith, x.fewer, y.fewer) }

-- what is borrowed and held, where it stands and what there is to say were changed
pub changed : (s new : SessionView) (borrowed held out : List ℕ) (place : Place) → new ≡ record s { borrowed = borrowed; held = held; place = place; out = out }
    → length borrowed + length held ≤ waiting s → Shrinks s new
changed s new borrowed held out place e le = record {
  total = ap (λ (v : SessionView). v.total) e;
  ended = ap (λ (v : SessionView). v.ended) e;
  longer = ap (λ (v : SessionView). v.longer) e;
  fewer = subst (λ (v : SessionView). waiting v ≤ waiting s) (sym e) le;
}

-- a step that takes no head
pub steps_on : (old new : SessionView) (step : Step) → takes_head step ≡ false → Shrinks old new → Progresses old new step
steps_on old new step none x = record {
  total = x.total;
  ended = x.ended;
  longer = x.longer;
  fewer = x.fewer;
  head = λ some. absurd cc;
}

-- behind a change
pub steps_behind : (old mid new : SessionView) (step : Step) → Shrinks old mid → Progresses mid new step → Progresses old new step
steps_behind old mid new step x y = record {
  total = y.total ∙ x.total;
  ended = y.ended ∙ x.ended;
  longer = y.longer ∙ x.longer;
  fewer = omega (arith, x.fewer, y.fewer);
  head = λ some. omega (arith, x.fewer, y.head some);
}

-- where the bytes decide nothing no head is taken
pub waits_without_head : (l e i : Bool) → takes_head (wait_step l e i) ≡ false
waits_without_head true e i = refl
waits_without_head false true true = refl
waits_without_head false true false = refl
waits_without_head false false i = refl

-- line ends were taken
pub blank_shrinks : (s new : SessionView) → new ≡ record s { held = drop_blank s.held } → Shrinks s new
blank_shrinks s new e = changed s new s.borrowed (drop_blank s.held) s.out s.place e (omega (arith, ap length (splits s.held), length-append (blank_prefix s.held) (drop_blank s.held)))

-- bytes in front were taken
pub prefix_shrinks : (s new : SessionView) (n : ℕ) (place : Place) → new ≡ record s { held = drop n s.held; place = place } → Shrinks s new
prefix_shrinks s new n place e = changed s new s.borrowed (drop n s.held) s.out place e (omega (arith, length-drop n s.held))

-- bytes in front were borrowed
pub borrowed_shrinks : (s new : SessionView) (n : ℕ) (place : Place) → n ≤ length s.held → new ≡ record s { borrowed = take n s.held; held = drop n s.held; place = place } → Shrinks s new
borrowed_shrinks s new n place le e = changed s new (take n s.held) (drop n s.held) s.out place e (omega (arith, length-drop n s.held, length-take-le n s.held le))

-- all bytes that are held were taken
pub all_shrinks : (s new : SessionView) (out : List ℕ) (place : Place) → new ≡ record s { held = []; place = place; out = out } → Shrinks s new
all_shrinks s new out place e = changed s new s.borrowed [] out place e (omega arith)

-- a head was taken
pub head_progresses : (s new : SessionView) (step : Step) (n : ℕ) (place : Place) → 1 < n → n ≤ length s.held → new ≡ record s { held = drop n s.held; place = place } → Progresses s new step
head_progresses s new step n place some le e =
    let x = prefix_shrinks s new n place e in
    record {
      total = x.total;
      ended = x.ended;
      longer = x.longer;
      fewer = x.fewer;
      head = λ h. subst (λ (v : SessionView). waiting v < waiting s) (sym e) (omega (arith, length-drop n s.held, some, le));
    }
