-- A match, criterion by criterion.
use Rattle.std.proofs.Common.{◌≡◌, ℕ, ◌-◌, ◌*◌, ◌≤◌, ◌↔◌, Bool, true, false, true≢false, ◌&&◌, List, Option, Some, None, refl, sym, arith}
use Rattle.std.specs.Prelude.{IfSome}
use Rattle.std.proofs.lemmas.Bool.Decides.{nat_tests}
use Rattle.nx_base.specs.Given.{given}
use Rattle.nx_base.specs.Cleanup.{day, has_passed}

-- a criterion of days, where it is set
days_hold : (days : Option ℕ) (since now : ℕ) → (given days true (λ d. has_passed d since now) ≡ true) ↔ IfSome days (λ d. d * day ≤ now - since)
days_hold None since now = (λ _. tt, λ _. refl)
days_hold (Some d) since now = (λ h. grind (arith, nat_tests), λ h. grind (arith, nat_tests))

pattern_holds : (is_hit : List ℕ → Bool) (pattern : Option (List ℕ)) → (given pattern true is_hit ≡ true) ↔ IfSome pattern (λ p. is_hit p ≡ true)
pattern_holds is_hit None = (λ _. tt, λ _. refl)
pattern_holds is_hit (Some p) = (λ h. h, λ h. h)

both : (a b : Bool) → (a && b) ≡ true → (a ≡ true) × (b ≡ true)
both true b h = (refl, h)
both false b h = absurd (true≢false (sym h))

and : (a b : Bool) → a ≡ true → b ≡ true → (a && b) ≡ true
and a b ha hb = rw (ha, hb) refl

pub each-holds : (age usage : Option ℕ) (pattern : Option (List ℕ)) (timestamp used now : ℕ) (is_hit : List ℕ → Bool)
    → (((given age true (λ d. has_passed d timestamp now)) && (given usage true (λ d. has_passed d used now)) && (given pattern true is_hit)) ≡ true)
    ↔ (IfSome age (λ d. d * day ≤ now - timestamp) × IfSome usage (λ d. d * day ≤ now - used) × IfSome pattern (λ p. is_hit p ≡ true))
each-holds age usage pattern timestamp used now is_hit =
    let a = given age true (λ d. has_passed d timestamp now) in
    let u = given usage true (λ d. has_passed d used now) in
    let p = given pattern true is_hit in (
      λ h.
          let first = both (a && u) p h in
          let prefix = both a u first.0 in
          ((days_hold age timestamp now).0 prefix.0, (days_hold usage used now).0 prefix.1, (pattern_holds is_hit pattern).0 first.1),
      λ h. and (a && u) p (and a u ((days_hold age timestamp now).1 h.0) ((days_hold usage used now).1 h.1)) ((pattern_holds is_hit pattern).1 h.2),
    )
