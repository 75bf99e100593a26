-- The repositories of a configuration are hosted.
use Rattle.std.proofs.Common.{◌≡◌, refl, subst, ℕ, List, [], ◌∷◌, true, false, cond, Option, Some, None, Result, Ok, Err}
use Rattle.std.specs.FinMap as map_of
use Rattle.java_props.specs.declared.PropsErr.{PropsErr}
use Rattle.java_props.specs.Kept.{Entries}
use Rattle.java_props.specs.Reading.{reading}
use Rattle.sha1.specs.Sha1.{sha1}
use Rattle.nx_base.specs.Texts.{name_cmp, same_name}
use Rattle.repo_model.specs.Config as step
use Rattle.repo_config.specs.declared.config_err.ConfigErr.{ConfigErr}
use Rattle.repo_config.specs.Settings.{Settings, Repository, settings}
use Rattle.repo_config.specs.Refusals.{refusal}
use Rattle.repo_config.specs.Reading.{config_from, unless}
use Rattle.repo_config.specs.Model.{repo_read, repos_read, model_of}
use Rattle.repo_config.specs.Hosted.{AllHosted, AllUsable, ReadsHosted}
use Rattle.repo_config.proofs.Sound.{all_usable}

-- what a name finds is hosted
pub found_hosted : (repos : List (List ℕ × Repository)) → AllUsable repos → (name : List ℕ) (repo : step.Repo) → map_of.find name_cmp name (repos_read repos) ≡ Some repo → step.is_hosted repo.kind ≡ true
found_hosted [] all name repo is = cc
found_hosted (e ∷ es) all name repo is =
    let rest = found_hosted es all.1 name repo in
    elim (same_name name e.0) as (λ b. cond b (Some (repo_read e.1)) (map_of.find name_cmp name (repos_read es)) ≡ Some repo → step.is_hosted repo.kind ≡ true) [
      | true ↦ λ s. subst (λ (r : step.Repo). step.is_hosted r.kind ≡ true) (let same : repo_read e.1 ≡ repo = cc in same) all.0.hosted
      | false ↦ λ s. rest s
    ] is

by_refusal : (o : Option ConfigErr) (given found : Settings) → (o ≡ None → AllHosted (model_of given)) → unless o given ≡ Ok found → AllHosted (model_of found)
by_refusal None given found h e = subst (λ (s : Settings). AllHosted (model_of s)) (let same : given ≡ found = cc in same) (h refl)
by_refusal (Some why) given found h e = cc

by_props : (digest : List ℕ) (r : Result Entries PropsErr) (found : Settings) → config_from digest r ≡ Ok found → AllHosted (model_of found)
by_props digest (Err why) found e = cc
by_props digest (Ok pairs) found e = by_refusal (refusal pairs) (settings digest pairs) found (λ none. found_hosted (settings digest pairs).repos (all_usable pairs none)) e

pub reads_hosted : ReadsHosted
reads_hosted bytes found e = by_props (sha1 bytes) (reading bytes) found e
