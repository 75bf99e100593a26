use Rattle.std.proofs.Common.{◌≡◌, ◌∙◌, ap, map, List, ℕ, Bor, codes}
use Rattle.std.specs.List.{list_all}
use Rattle.repo_config.specs.declared.form.Subject.TheVariants.{OfStore, OfRepo}
use Rattle.repo_config.specs.Lists.{may_name}
use Rattle.repo_config.specs.Settings.{text_at, declared}
use Rattle.repo_config.proofs.Passed.{names_named, stores_good, repos_good}
use Rattle.repo_config.proofs.Sound.{keys_pass, all_usable}
use Rattle.repo_config.proofs.build.configure.Goals as goal

pub store_names-requires : goal.store_names-requires
store_names-requires c =
    let pairs = c.args.pairs.now in
    ap (λ (names : List (Bor (List ℕ))). list_all (may_name OfStore) (map (λ name. name.now) names)) c.as_slice.ensures.value
    ∙ ap (list_all (may_name OfStore)) c.in-Ok.ensures
    ∙ names_named OfStore (text_at pairs (codes "stores")) (stores_good pairs (keys_pass pairs c.requires))

pub repo_names-requires : goal.repo_names-requires
repo_names-requires c =
    let pairs = c.args.pairs.now in
    ap (λ (names : List (Bor (List ℕ))). list_all (may_name OfRepo) (map (λ name. name.now) names)) c.as_slice-2.ensures.value
    ∙ ap (list_all (may_name OfRepo)) c.in-Ok-declared.ensures
    ∙ names_named OfRepo (text_at pairs (codes "repositories")) (repos_good pairs (keys_pass pairs c.requires))

pub invariant_of-result : goal.invariant_of-result
invariant_of-result c =
    let pairs = c.args.pairs.now in
    let names : c.as_slice-5.result.now ≡ declared OfRepo pairs =
    c.as_slice-5.ensures.value ∙ c.in_ok-repos.ensures ∙ ap (λ (names : List (Bor (List ℕ))). map (λ name. name.now) names) c.as_slice-2.ensures.value ∙ c.in-Ok-declared.ensures in
    rw (c.in_ok-repo_table.ensures, names) (all_usable pairs c.requires)
