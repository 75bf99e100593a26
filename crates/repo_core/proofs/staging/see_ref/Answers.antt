use Rattle.std.proofs.Common.{◌<◌, ℕ, List, length, slice_index, sym, ◌∙◌, ap, subst}
use Rattle.repo_core.proofs.staging.see_ref.Goals as goal

pub returns : goal.returns
returns c = record {
  store = c.as_bytes-store.ensures.reads;
  id = record {
    sixteen = ap length (sym c.as_bytes.ensures.bytes) ∙ c.as_bytes.ensures.len;
    bytes = subst (λ (b : List ℕ). (at : ℕ) → slice_index b at < 256) c.as_bytes.ensures.bytes c.see_bytes.ensures;
  };
}
