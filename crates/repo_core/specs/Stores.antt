-- Which stores are those of a repository.
use Rattle.std.specs.Prelude.{false}
use Rattle.std.specs.List.{list_any}
use Rattle.nx_base.specs.Given.{given}
use Rattle.nx_base.specs.Order.{same_name}
use Rattle.repo_model.specs.Config.{Config, repo_of, group_of}
use Rattle.tree_content.specs.Blobs.{Homes}

-- a store is one of a declared repository where it is a member of the group that the repository writes to, read-only or not
abbrev pub homes_of : Config → Homes
homes_of config repo store =
    given (repo_of config repo) false (λ r. list_any (λ m. same_name m.store store) (group_of config r).members)
