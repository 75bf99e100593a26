use Rattle.std.proofs.Common.{◌≡◌, ◌⊎◌, Result, Ok, Err, inl, inr, refl}
use Rattle.java_props.specs.declared.PropsErr.{PropsErr}
use Rattle.java_props.specs.Reading.{reading}
use Rattle.java_props.proofs.laws.exactly_one_meaning.Goals as goal

either : {A : Type 0} (r : Result A PropsErr) → ((x : A) × (r ≡ Ok x)) ⊎ ((e : PropsErr) × (r ≡ Err e))
either (Ok x) = inl (x, refl)
either (Err e) = inr (e, refl)

pub returns-clause-some : goal.returns-clause-some
returns-clause-some c = λ bytes. either (reading bytes)
