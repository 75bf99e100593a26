-- A run that makes the files of a blob, and then one by which nothing can be seen.
use Rattle.std.proofs.Common.{inl, inr, ⊎_elim, ℕ, List, Option, ◌∙◌, subst}
use Rattle.disk_model.specs.Disk.{Lists, Outside, Same, Among}
use Rattle.disk_model.specs.Moments.{During}
use Rattle.disk_model.proofs.Chain.{and_then, weaker}
use Rattle.tree_content.specs.Blobs.{bytes_at, props_at}
use Rattle.tree_content.specs.Files.{Creates}
use Rattle.repo_core.proofs.Runs.{at_end}

module _ (place bytes text : List ℕ) (bytes_out : Outside (bytes_at place)) (props_out : Outside (props_at place)) where
  still : (first mid l : Lists) → Creates place bytes text first mid → Same mid l → Creates place bytes text first l
  still first mid l made same = record {
    bytes_list = λ v here. made.bytes_list v (subst (λ (list : List (Option (List ℕ))). Among v list) (same (bytes_at place) bytes_out) here);
    props_list = λ v here. ⊎_elim
        (λ was. inl was)
        (λ new. inr (new.0, λ w there. new.1 w (subst (λ (list : List (Option (List ℕ))). Among w list) (same (bytes_at place) bytes_out) there)))
        (made.props_list v (subst (λ (list : List (Option (List ℕ))). Among v list) (same (props_at place) props_out) here));
    others = λ n out not_bytes not_props. same n out ∙ made.others n out not_bytes not_props;
  }

  pub made_still : {D : Type 0} (clock : D → ℕ) (lists : D → ℕ → Lists) (old mid new : D) → During clock lists old mid (Creates place bytes text (lists old (clock old)))
      → During clock lists mid new (Same (lists mid (clock mid))) → During clock lists old new (Creates place bytes text (lists old (clock old)))
  made_still clock lists old mid new run next =
      let first = lists old (clock old) in
      let between = lists mid (clock mid) in
      let here = at_end clock lists old mid (Creates place bytes text first) run in
      and_then clock lists (Creates place bytes text first) old mid new run
      (weaker clock lists (Same between) (Creates place bytes text first) mid new (λ l same. still first between l here same) next)
