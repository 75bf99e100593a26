-- A session whose bytes decide nothing.
use Rattle.std.proofs.Common.{◌≡◌, ℕ, Bool, true, false, ◌<◌, List, [], length, inl, inr, refl, sym, ap, subst, arith}
use Rattle.http_heads.specs.Cut.{drop_blank, head_limit}
use Rattle.http_front.specs.Looks.{IsLook}
use Rattle.http_front.specs.declared.look.Look.TheVariants as looks
use Rattle.http_requests.specs.Heads.{EndsInHead}
use Rattle.http_requests.specs.Requests.{AreRequests}
use Rattle.session_history.specs.Phases.{between}
use Rattle.http_session.specs.Views.{SessionView, waiting}
use Rattle.http_session.specs.Taken.{Past, phase_of, is_inside}
use Rattle.http_session.specs.Steps.{IsStill, Gives, wait_step}

-- where a head may still come there is room for more bytes
room_behind : (s : SessionView) → s.borrowed ≡ [] → length s.held < head_limit → waiting s < 32768
unfolding head_limit
room_behind s none few =
    let short : length s.held < 16384 = few in
    omega (arith, ap length none, short)

-- the bytes end inside a head
in_head : (bytes : List ℕ) → drop_blank bytes ≡ bytes → IsLook bytes looks.Open → 0 < length bytes → AreRequests bytes [] true
in_head bytes still look some = subst EndsInHead (sym still) (record { some = some; short = look.1; none = look.0 })

by_head : (s : SessionView) (fed : List ℕ) (past : Past) → IsStill fed past s → phase_of past ≡ between → drop_blank s.held ≡ s.held → IsLook s.held looks.Open
    → (l e i : Bool) → s.longer ≡ l → s.ended ≡ e → (i ≡ true → 0 < length s.held) → (i ≡ false → s.held ≡ []) → Gives fed past s (wait_step l e i)
by_head s fed past still phase begins look true e i le ee some none = (still, le)
by_head s fed past still phase begins look false true true le ee some none = (still, ee, inr (phase, some refl, in_head s.held begins look (some refl)))
by_head s fed past still phase begins look false true false le ee some none = (still, ee, phase, none refl)
by_head s fed past still phase begins look false false i le ee some none = (still, ee, le, room_behind s still.taken look.1)

pub waits_for_head : (s : SessionView) (fed : List ℕ) (past : Past) (inside : Bool) → IsStill fed past s → phase_of past ≡ between → drop_blank s.held ≡ s.held → IsLook s.held looks.Open
    → (inside ≡ true → 0 < length s.held) → (inside ≡ false → s.held ≡ []) → Gives fed past s (wait_step s.longer s.ended inside)
waits_for_head s fed past inside still phase begins look some none = by_head s fed past still phase begins look s.longer s.ended inside refl refl some none

by_content : (s : SessionView) (fed : List ℕ) (past : Past) → IsStill fed past s → is_inside (phase_of past) ≡ true → length s.held < 32768
    → (l e : Bool) → s.longer ≡ l → s.ended ≡ e → Gives fed past s (wait_step l e true)
by_content s fed past still phase few true e le ee = (still, le)
by_content s fed past still phase few false true le ee = (still, ee, inl phase)
by_content s fed past still phase few false false le ee = (still, ee, le, omega (arith, ap length still.taken, few))

pub waits_for_content : (s : SessionView) (fed : List ℕ) (past : Past) → IsStill fed past s → is_inside (phase_of past) ≡ true → length s.held < 32768
    → Gives fed past s (wait_step s.longer s.ended true)
waits_for_content s fed past still phase few = by_content s fed past still phase few s.longer s.ended refl refl
