-- How keys are stored in a finite map that is a model's value.
use Rattle.std.specs.Prelude.{ℕ, List, refl}
use Rattle.std.specs.Coded.{Coded, code_by, coded×, coded_list, coded_ℕ}
use Rattle.nx_base.specs.declared.key.Key.{Key}

-- a key is stored as the pair of its texts
abbrev pub coded_key : Coded Key
coded_key = code_by (List ℕ × List ℕ) (coded× (coded_list coded_ℕ) (coded_list coded_ℕ)) (λ k. (k.repo, k.path)) (λ p. record { repo = p.0; path = p.1 }) (λ _. refl)
