use Rattle.std.proofs.Common.{◌≡◌, ◌∙◌, ap, sym, Result, Ok, List, ℕ}
use Rattle.nx_base.specs.declared.name_err.NameErr.{NameErr}
use Rattle.nx_base.specs.Names.{store_name_of}
use Rattle.nx_base.proofs.ReadsItself.{store_name_of-same}
use Rattle.repo_config.proofs.build.store_name.Goals as goal

-- one text at most is read
same : (a b : List ℕ) (r : Result (List ℕ) NameErr) → r ≡ Ok a → r ≡ Ok b → a ≡ b
same a b r e h = cc

pub returns-in-Ok : goal.returns-in-Ok
returns-in-Ok c =
    let name = c.args.name.now in
    same c.in-Ok.store name (store_name_of name) (ap store_name_of (sym c.as_bytes.ensures.value) ∙ c.in-Ok.ensures) (store_name_of-same name c.requires)
