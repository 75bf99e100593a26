-- What single values say, where they are good.
use Rattle.std.specs.Prelude.{ℕ, Bool, ◌&&◌, nat_le, List, Option, Some, None, codes, decimal, if◌then◌else◌}
use Rattle.std.specs.Str.Parse.{digits_value}
use Rattle.nx_base.specs.declared.layout.Layout.{Layout}
use Rattle.nx_base.specs.declared.layout.Layout.TheVariants.{Volume}
use Rattle.nx_base.specs.declared.policy.Policy.{Policy}
use Rattle.nx_base.specs.declared.policy.Policy.TheVariants.{Redeploy, NoRedeploy, ReadOnly}
use Rattle.nx_base.specs.Texts.{same_name}
use Rattle.repo_config.specs.declared.form.Subject.{Subject}
use Rattle.repo_config.specs.declared.form.Subject.TheVariants.{OfAll, OfStore, OfRepo}
use Rattle.repo_config.specs.declared.form.PartKind.{PartKind}
use Rattle.repo_config.specs.declared.form.PartKind.TheVariants.{FileStore, HostedRepo}

-- the kind of a store or of a repository
abbrev pub kind_said : Subject → List ℕ → Option PartKind
kind_said OfAll value = None
kind_said OfStore value = if same_name value (codes "file") then Some FileStore else None
kind_said OfRepo value = if same_name value (codes "hosted") then Some HostedRepo else None

abbrev pub layout_said : List ℕ → Option Layout
layout_said value = if same_name value (codes "volume") then Some Volume else None

-- what a hosted repository lets be written
abbrev pub policy_said : List ℕ → Option Policy
policy_said value =
    if same_name value (codes "redeploy") then Some Redeploy
    else if same_name value (codes "no-redeploy") then Some NoRedeploy
    else if same_name value (codes "read-only") then Some ReadOnly
    else None

-- digits alone, and no zero before other digits: the value is what is written for the number that it is read as
abbrev pub is_decimal : List ℕ → Bool
is_decimal value = same_name value (decimal (digits_value 10 value))

abbrev pub is_between : ℕ → ℕ → ℕ → Bool
is_between least most n = nat_le least n && nat_le n most

abbrev pub number_said : ℕ → ℕ → List ℕ → Option ℕ
number_said least most value =
    if is_decimal value && is_between least most (digits_value 10 value) then Some (digits_value 10 value) else None
