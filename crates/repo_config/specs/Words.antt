-- The words with which keys end, or of which they consist.
use Rattle.std.specs.Prelude.{ℕ, List, codes}
use Rattle.repo_config.specs.declared.form.Word.{Word}
use Rattle.repo_config.specs.declared.form.Word.TheVariants.{Stores, Repositories, Journal, Kind, Layout, Store, Policy}

abbrev pub text : Word → List ℕ
text Stores = codes "stores"
text Repositories = codes "repositories"
text Journal = codes "journal"
text Kind = codes "kind"
text Layout = codes "layout"
text Store = codes "store"
text Policy = codes "policy"
