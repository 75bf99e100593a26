-- What a call that is stopped halfway leaves.
use Rattle.std.proofs.Common.{◌≡◌, ◌⊎◌, inl, inr, ⊎_elim, ℕ, List, Option, Some, None, IsTrue, IsSome, sym, ◌∙◌, ap}
use Rattle.std.specs.FinMap as map
use Rattle.nx_base.specs.Given.{given}
use Rattle.nx_base.specs.Order.{key_cmp}
use Rattle.nx_base.specs.declared.key.Key.{Key}
use Rattle.nx_base.specs.declared.asset.Asset.{Asset}
use Rattle.repo_model.specs.declared.call.Call.{Call}
use Rattle.repo_model.specs.declared.reply.Reply.{Reply}
use Rattle.repo_model.specs.Config.{Config}
use Rattle.repo_model.specs.State.{State}
use Rattle.repo_model.specs.Outcome.{answered}
use Rattle.repo_model.specs.Step.{outcome}
use Rattle.disk_model.specs.Disk.{Tree, Outside, Same}
use Rattle.asset_keeper.specs.Table.{Table, changed}
use Rattle.asset_keeper.specs.Told.{Tells}
use Rattle.asset_keeper.specs.declared.change.Change.{Change}
use Rattle.tree_content.specs.Blobs.{bytes_at, props_at}
use Rattle.tree_content.specs.Files.{IsCreatedIn}
use Rattle.repo_core.specs.Looking.{IsChangeTo}
use Rattle.repo_core.specs.Rows.{rows_in}
use Rattle.repo_core.specs.Standing.{BeforeOrAfter, is_done}
use Rattle.repo_core.proofs.Tables.{told_of, still_told, rows_same}

-- what holds of the state, or of the one after the step
pub one_of : (config : Config) (s : State) (store : List ℕ) (c : Call) (P : State → Type 0) (after : State) (said : Reply) → outcome config s store c ≡ answered after said → IsTrue (is_done said) → P s ⊎ P after
    → BeforeOrAfter config s store c P
one_of config s store c P after said step done either = ⊎_elim (λ before. inl before) (λ now. inr (said, after, step, done, now)) either

-- files that were made, or not, stay so where nothing can be seen
pub created_still : (place bytes text : List ℕ) → Outside (bytes_at place) → Outside (props_at place) → (before mid new : Tree) → IsCreatedIn place bytes text before mid → Same mid new → IsCreatedIn place bytes text before new
created_still place bytes text out_b out_p before mid new created same = (
  λ n out not_bytes not_props. same n out ∙ created.0 n out not_bytes not_props,
  ⊎_elim
      (λ none. inl (same (props_at place) out_p ∙ none))
      (λ both. inr (same (props_at place) out_p ∙ both.0, same (bytes_at place) out_b ∙ both.1))
      created.1,
)

-- a change that notes a download, where it may have been made
pub noted_between : (key : Key) (old new : Asset) (s t : Table) (c : Option Change) → IsChangeTo key old new c → (t ≡ s) ⊎ (t ≡ given c s (changed s))
    → (t ≡ s) ⊎ (map.get s.rows key ≡ Some old → t.rows ≡ map.insert s.rows key new)
noted_between key old new s t None is either = ⊎_elim (λ same. inl same) (λ same. inl same) either
noted_between key old new s t (Some c) is (inl same) = inl same
noted_between key old new s t (Some c) is (inr made) = inr (λ there. ap (λ (u : Table). u.rows) made ∙ ap (λ (x : Change). (changed s x).rows) is)

pub rows_between : (before mid after : Option Table) (key : Key) (old new : Asset) (rows : map.FinMap key_cmp Asset) → IsSome after → Tells before mid (λ s t. t ≡ s)
    → Tells mid after (λ s t. (t ≡ s) ⊎ (map.get s.rows key ≡ Some old → t.rows ≡ map.insert s.rows key new)) → rows_in before ≡ rows → map.get rows key ≡ Some old
    → (rows_in after ≡ rows) ⊎ (rows_in after ≡ map.insert rows key new)
rows_between before mid after key old new rows some first second is there =
    let Q : Table → Table → Type 0 = λ s t. (t ≡ s) ⊎ (map.get s.rows key ≡ Some old → t.rows ≡ map.insert s.rows key new) in
    let w = told_of Q mid after some second in
    let was : w.before.rows ≡ rows = sym (ap rows_in w.was) ∙ rows_same before mid (still_told Q mid after some second) first ∙ is in
    ⊎_elim
    (λ same. inl (ap rows_in w.is ∙ ap (λ (t : Table). t.rows) same ∙ was))
    (λ made. inr (ap rows_in w.is ∙ made (ap (λ (m : map.FinMap key_cmp Asset). map.get m key) was ∙ there) ∙ ap (λ (m : map.FinMap key_cmp Asset). map.insert m key new) was)) w.holds
