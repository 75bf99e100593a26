use Rattle.std.proofs.Common.{◌≡◌, ◌⊎◌, Result, Ok, Err, inl, inr, refl}
use Rattle.repo_config.specs.declared.config_err.ConfigErr.{ConfigErr}
use Rattle.repo_config.specs.Settings.{Settings}
use Rattle.repo_config.specs.Reading.{config_of}
use Rattle.repo_config.proofs.laws.exactly_one_meaning.Goals as goal

some : (r : Result Settings ConfigErr) → ((settings : Settings) × (r ≡ Ok settings)) ⊎ ((e : ConfigErr) × (r ≡ Err e))
some (Ok settings) = inl (settings, refl)
some (Err e) = inr (e, refl)

never_both : (r : Result Settings ConfigErr) (settings : Settings) (e : ConfigErr) → r ≡ Ok settings → r ≡ Err e → ⊥
never_both r settings e h k = cc

one_ok : (r : Result Settings ConfigErr) (settings other : Settings) → r ≡ Ok settings → r ≡ Ok other → settings ≡ other
one_ok r settings other h k = cc

one_err : (r : Result Settings ConfigErr) (e other : ConfigErr) → r ≡ Err e → r ≡ Err other → e ≡ other
one_err r e other h k = cc

pub returns : goal.returns
returns c = record {
  some = λ bytes. some (config_of bytes);
  never_both = λ bytes. never_both (config_of bytes);
  one_configuration = λ bytes. one_ok (config_of bytes);
  one_refusal = λ bytes. one_err (config_of bytes);
}
