-- Looks at contents: what a download leaves of the rows, and what is given.
use Rattle.std.proofs.Common.{◌≡◌, ◌≢◌, inl, inr, ℕ, List, [], length, Option, Some, None, IsSome, is_some, refl, sym, ◌∙◌, ap, subst}
use Rattle.std.specs.Option.{option_map}
use Rattle.std.specs.FinMap as map
use Rattle.nx_base.specs.Given.{given}
use Rattle.nx_base.specs.Order.{key_cmp}
use Rattle.nx_base.specs.declared.key.Key.{Key}
use Rattle.nx_base.specs.declared.asset.Asset.{Asset}
use Rattle.nx_base.specs.declared.moment.Moment.{Moment}
use Rattle.nx_base.proofs.Orders.{key_cmp_total, exact_keys}
use Rattle.asset_keeper.specs.declared.change.Change.{Change}
use Rattle.asset_keeper.specs.Table.{Table, changed}
use Rattle.asset_keeper.specs.Told.{Tells}
use Rattle.disk_model.specs.Disk.{Tree, Lists, Same}
use Rattle.disk_model.specs.Moments.{During, Settled, EachImage}
use Rattle.disk_model.proofs.Chain.{weaker}
use Rattle.disk_model.proofs.Images.{same_image}
use Rattle.repo_model.specs.declared.call.Call.TheVariants as call
use Rattle.repo_model.specs.declared.call.Look.{Look}
use Rattle.repo_model.specs.declared.call.RemoteSaid.TheVariants as remote
use Rattle.repo_model.specs.declared.reply.Refusal.TheVariants as refusal
use Rattle.repo_model.specs.Config.{Repo, Config, repo_of}
use Rattle.repo_model.specs.State.{State, row_of}
use Rattle.repo_model.specs.Outcome.{refused}
use Rattle.repo_model.specs.Serving.{served}
use Rattle.repo_model.specs.Step.{outcome, on_get}
use Rattle.tree_content.specs.Blobs.{bytes_name}
use Rattle.tree_content.specs.Contents.{Content, HasContents}
use Rattle.tree_content.proofs.Blobs.{some_is, same_or_other_key}
use Rattle.repo_core.specs.declared.own.Own.{Own}
use Rattle.repo_core.specs.Stores.{homes_of}
use Rattle.repo_core.specs.Rows.{content_in, contents_in, rows_in}
use Rattle.repo_core.specs.Agree.{FilesAgree, Agrees}
use Rattle.repo_config.specs.Hosted.{AllHosted}
use Rattle.repo_core.specs.Got.{IsContentOf}
use Rattle.repo_core.specs.Looking.{IsChangeTo}
use Rattle.repo_core.proofs.Maps.{set_at, set_beside}
use Rattle.repo_core.proofs.Samenesses.{files_same, files_seen}
use Rattle.repo_core.proofs.Givings.{same_contents}
use Rattle.repo_core.proofs.Steps.{sound_is}
use Rattle.repo_core.proofs.Tables.{told_of}

-- what is set already
pub set_same : (m : map.FinMap key_cmp Asset) (key : Key) (asset : Asset) → map.get m key ≡ Some asset → m ≡ map.insert m key asset
set_same m key asset is = map.same_map key_cmp_total exact_keys m (map.insert m key asset) (λ q. elim (same_or_other_key q key) [
  | inl at ↦ ap (λ (k : Key). map.get m k) at ∙ is ∙ sym (set_at m key asset q at)
  | inr differ ↦ sym (set_beside m key asset q differ)
])

-- the rows after a download was noted
after_change : (s t : Table) (c : Option Change) (key : Key) (old new : Asset) → IsChangeTo key old new c → t ≡ given c s (changed s) → map.get s.rows key ≡ Some old → t.rows ≡ map.insert s.rows key new
after_change s t None key old new same is there =
    ap (λ (u : Table). u.rows) is ∙ set_same s.rows key old there ∙ ap (λ (a : Asset). map.insert s.rows key a) (sym same)
after_change s t (Some c) key old new sets is there =
    ap (λ (u : Table). u.rows) is ∙ ap (λ (x : Change). (changed s x).rows) sets

pub tells_noted : (before after : Option Table) (c : Option Change) (key : Key) (old new : Asset) → IsChangeTo key old new c
    → Tells before after (λ s t. t ≡ given c s (changed s)) → Tells before after (λ s t. map.get s.rows key ≡ Some old → t.rows ≡ map.insert s.rows key new)
tells_noted before None c key old new is tells = tt
tells_noted None (Some t) c key old new is tells = absurd tells
tells_noted (Some s) (Some t) c key old new is tells = after_change s t c key old new is tells

pub rows_noted : (before mid after : Option Table) (key : Key) (old new : Asset) (rows : map.FinMap key_cmp Asset) → IsSome after → Tells before mid (λ s t. t ≡ s)
    → Tells mid after (λ s t. map.get s.rows key ≡ Some old → t.rows ≡ map.insert s.rows key new) → rows_in before ≡ rows → map.get rows key ≡ Some old
    → rows_in after ≡ map.insert (rows_in before) key new
rows_noted before mid after key old new rows some same noted rows_are there =
    let second = told_of (λ s t. map.get s.rows key ≡ Some old → t.rows ≡ map.insert s.rows key new) mid after some noted in
    let mid_some : IsSome mid = ap (λ (o : Option Table). is_some o) second.was in
    let first = told_of (λ s t. t ≡ s) before mid mid_some same in
    let here : second.before ≡ first.before = some_is second.before first.before (sym second.was ∙ first.is ∙ ap (λ (t : Table). Some t) first.holds) in
    let was : rows_in before ≡ second.before.rows = ap rows_in first.was ∙ ap (λ (t : Table). t.rows) (sym here) in
    ap rows_in second.is
    ∙ second.holds (ap (λ (m : map.FinMap key_cmp Asset). map.get m key) (sym was ∙ rows_are) ∙ there)
    ∙ ap (λ (m : map.FinMap key_cmp Asset). map.insert m key new) (sym was)

-- the state after a download agrees
pub agrees_seen : (config : Config) (tree new : Tree) (rows rows_now : map.FinMap key_cmp Asset) (own : Own) (s : State) (key : Key) (old seen : Asset)
    → Agrees config tree rows own s → Same tree new → row_of s key ≡ Some old → content_in seen ≡ content_in old → rows_now ≡ map.insert rows key seen
    → Agrees config new rows_now own (record s { rows = map.insert s.rows key seen })
agrees_seen config tree new rows rows_now own s key old seen a same row content rows_are = record {
  sound = a.sound;
  files = files_same config tree new (record s { rows = map.insert s.rows key seen }) same (files_seen config tree s key old seen row content a.files);
  rows_are = rows_are ∙ ap (λ (m : map.FinMap key_cmp Asset). map.insert m key seen) a.rows_are;
  trash_are = a.trash_are;
  notes_are = a.notes_are;
  last_are = a.last_are;
  counts_are = a.counts_are;
}

-- the step of a look without a remote, by what is found
module _ (config : Config) (s : State) (key : Key) (l : Look) (moment : Moment) (sound : s.broken ≡ None) (hosted : AllHosted config) where
  asked : outcome config s [] (call.Get key l moment remote.NotAsked) ≡ on_get config s [] key l moment remote.NotAsked
  asked = sound_is config s [] (call.Get key l moment remote.NotAsked) sound

  pub look_unknown : repo_of config key.repo ≡ None → outcome config s [] (call.Get key l moment remote.NotAsked) ≡ refused s refusal.UnknownRepo
  look_unknown is = asked ∙ rw is refl

  pub look_absent : (repo : Repo) → repo_of config key.repo ≡ Some repo → row_of s key ≡ None → outcome config s [] (call.Get key l moment remote.NotAsked) ≡ refused s refusal.NotFound
  look_absent repo is row = asked ∙ rw (is, row, hosted key.repo repo is) refl

  pub look_found : (repo : Repo) (asset : Asset) → repo_of config key.repo ≡ Some repo → row_of s key ≡ Some asset → outcome config s [] (call.Get key l moment remote.NotAsked) ≡ served s key l moment.now asset
  look_found repo asset is row = asked ∙ rw (is, row, hosted key.repo repo is) refl

-- what agrees gives each key the bytes of its content
module _ (config : Config) (tree : Tree) (s : State) (a : FilesAgree config tree s) (key : Key) (asset : Asset) (row : row_of s key ≡ Some asset) where
  pub its_bytes : (bytes : List ℕ) × (tree (bytes_name asset.blob) ≡ Some bytes) × IsContentOf asset bytes
  its_bytes =
      let w = a.names.named key (content_in asset) (ap (option_map content_in) row) in
      let live = w.1.intact in (
        live.bytes,
        live.there,
        record {
          sized = live.sized ∙ sym (ap (λ (c : Content). c.size) w.2);
          digested = live.digested ∙ sym (ap (λ (c : Content). c.sha1) w.2);
        },
      )

  -- those of its file, by whoever reads it
  pub file_content : (bytes : List ℕ) → tree (bytes_name asset.blob) ≡ Some bytes → IsContentOf asset bytes
  file_content bytes there = let w = its_bytes in subst (λ (b : List ℕ). IsContentOf asset b) (some_is w.0 bytes (sym w.1 ∙ there)) w.2

  -- so it is never found to be missing or of another length
  pub never_other : (found : Option ℕ) → found ≢ Some asset.size → found ≡ option_map length (tree (bytes_name asset.blob)) → ⊥
  never_other found differs is = let w = its_bytes in differs (is ∙ ap (option_map length) w.1 ∙ ap (λ (n : ℕ). Some n) w.2.sized)

-- while nothing can be seen, each image has the contents of the rows
pub images_kept : (config : Config) (tree : Tree) (s : State) (a : FilesAgree config tree s) {D : Type 0} (clock : D → ℕ) (lists : D → ℕ → Lists) (old new : D) → Settled tree (lists old (clock old))
    → During clock lists old new (Same (lists old (clock old))) → During clock lists old new (EachImage (HasContents (homes_of config) (contents_in s.rows)))
images_kept config tree s a clock lists old new settled run =
    let start = lists old (clock old) in
    weaker clock lists (Same start) (EachImage (HasContents (homes_of config) (contents_in s.rows))) old new
    (λ l same image is. same_contents config tree s a image (same_image tree start l settled same image is)) run
