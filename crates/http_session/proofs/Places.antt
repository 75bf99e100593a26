-- The phase of a session, by its place.
use Rattle.std.proofs.Common.{◌≡◌, ℕ, Bool, true, List, [], refl, subst}
use Rattle.http_heads.specs.declared.head.Head.{Head}
use Rattle.http_heads.specs.declared.framing.Framing.{Framing}
use Rattle.http_front.specs.Asking.{is_head}
use Rattle.http_front.specs.Skips.{IsBlank}
use Rattle.session_history.specs.Phases.{Phase, between, asked, beginning, inside, putting, over}
use Rattle.http_session.specs.declared.body.Body.{Body}
use Rattle.http_session.specs.declared.place.Place.{Place}
use Rattle.http_session.specs.declared.place.Place.TheVariants as places
use Rattle.http_session.specs.Bodies.{IsReading}
use Rattle.http_session.specs.Taken.{StandsAt, awaits}

pub at_between : (p : Phase) (part came : List ℕ) → StandsAt p places.Between part came → (p ≡ between) × IsBlank part × (came ≡ [])
at_between between part came x = (refl, x.1, x.2)
at_between (asked head) part came x = let e = x.0 in absurd cc
at_between (beginning head) part came x = let e = x.0 in absurd cc
at_between (inside head) part came x = let e = x.1 in absurd cc
at_between (putting head) part came x = let e = x.0 in absurd cc
at_between over part came x = let e = x.0 in absurd cc

pub at_asked : (p : Phase) (bare closes : Bool) (part came : List ℕ) → StandsAt p (places.Asked bare closes) part came
    → (head : Head) × (p ≡ asked head) × (bare ≡ is_head head.method) × (closes ≡ head.closes) × (part ≡ []) × (came ≡ [])
at_asked between bare closes part came x = let e = x.0 in absurd cc
at_asked (asked head) bare closes part came x = let e = x.0 in (head, refl, cc, cc, x.1, x.2)
at_asked (beginning head) bare closes part came x = let e = x.0 in absurd cc
at_asked (inside head) bare closes part came x = let e = x.1 in absurd cc
at_asked (putting head) bare closes part came x = let e = x.0 in absurd cc
at_asked over bare closes part came x = let e = x.0 in absurd cc

pub at_beginning : (p : Phase) (framing : Framing) (expects closes : Bool) (part came : List ℕ) → StandsAt p (places.Beginning framing expects closes) part came
    → (head : Head) × (p ≡ beginning head) × (framing ≡ head.framing) × (expects ≡ head.expects) × (closes ≡ head.closes) × (part ≡ []) × (came ≡ [])
at_beginning between framing expects closes part came x = let e = x.0 in absurd cc
at_beginning (asked head) framing expects closes part came x = let e = x.0 in absurd cc
at_beginning (beginning head) framing expects closes part came x = let e = x.0 in (head, refl, cc, cc, cc, x.1, x.2)
at_beginning (inside head) framing expects closes part came x = let e = x.1 in absurd cc
at_beginning (putting head) framing expects closes part came x = let e = x.0 in absurd cc
at_beginning over framing expects closes part came x = let e = x.0 in absurd cc

pub at_inside : (p : Phase) (body : Body) (closes : Bool) (part came : List ℕ) → StandsAt p (places.Inside body closes) part came
    → (head : Head) × (p ≡ inside head) × (closes ≡ head.closes) × IsReading head.framing body part came
at_inside between body closes part came x = let e = x.0 in absurd cc
at_inside (asked head) body closes part came x = let e = x.0 in absurd cc
at_inside (beginning head) body closes part came x = let e = x.0 in absurd cc
at_inside (inside head) body closes part came x =
    let e = x.1 in
    let same : x.0 ≡ body = cc in
    (head, refl, cc, subst (λ (b : Body). IsReading head.framing b part came) same x.2)
at_inside (putting head) body closes part came x = let e = x.0 in absurd cc
at_inside over body closes part came x = let e = x.0 in absurd cc

pub at_putting : (p : Phase) (closes : Bool) (part came : List ℕ) → StandsAt p (places.Putting closes) part came
    → (head : Head) × (p ≡ putting head) × (closes ≡ head.closes) × (part ≡ []) × (came ≡ [])
at_putting between closes part came x = let e = x.0 in absurd cc
at_putting (asked head) closes part came x = let e = x.0 in absurd cc
at_putting (beginning head) closes part came x = let e = x.0 in absurd cc
at_putting (inside head) closes part came x = let e = x.1 in absurd cc
at_putting (putting head) closes part came x = let e = x.0 in (head, refl, cc, x.1, x.2)
at_putting over closes part came x = let e = x.0 in absurd cc

pub at_over : (p : Phase) (part came : List ℕ) → StandsAt p places.Over part came → (p ≡ over) × (part ≡ []) × (came ≡ [])
at_over between part came x = let e = x.0 in absurd cc
at_over (asked head) part came x = let e = x.0 in absurd cc
at_over (beginning head) part came x = let e = x.0 in absurd cc
at_over (inside head) part came x = let e = x.1 in absurd cc
at_over (putting head) part came x = let e = x.0 in absurd cc
at_over over part came x = (refl, x.1, x.2)

-- where an answer comes next no part of anything was taken
pub nothing_taken : (p : Phase) (place : Place) (part came : List ℕ) → awaits p ≡ true → StandsAt p place part came → part ≡ []
nothing_taken between place part came due x = absurd cc
nothing_taken (asked head) place part came due x = x.1
nothing_taken (beginning head) place part came due x = x.1
nothing_taken (inside head) place part came due x = absurd cc
nothing_taken (putting head) place part came due x = x.1
nothing_taken over place part came due x = absurd cc
