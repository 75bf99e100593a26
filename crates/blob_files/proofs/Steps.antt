-- What the lists and the images are while a blob is made, and while it is removed.
use Rattle.std.proofs.Common.{◌≡◌, ◌≢◌, ◌⊎◌, inl, inr, ⊎_elim, ℕ, List, Option, Some, None, Result, Ok, Err, OnOk, OnErr, sym, ◌∙◌, subst, arith}
use Rattle.disk_model.specs.Disk.{Tree, Lists, Outside, Among, Rest}
use Rattle.disk_model.specs.Moments.{During, MayPut, Settled, EachImage}
use Rattle.disk_model.proofs.Chain.{weaker}
use Rattle.tree_content.specs.Blobs.{bytes_at, props_at}
use Rattle.tree_content.specs.Files.{Creates, IsCreatedIn}
use Rattle.tree_content.proofs.Moments.{two_names}

-- what a crash leaves of a disk that was settled and had no such properties file, at every moment while both files are put
pub each_image : (place bytes text : List ℕ) → Outside (bytes_at place) → Outside (props_at place) → {D : Type 0} (clock : D → ℕ) (lists : D → ℕ → Lists) (old new : D) (tree : Tree)
    → Settled tree (lists old (clock old)) → tree (props_at place) ≡ None
    → During clock lists old new (Creates place bytes text (lists old (clock old)))
    → During clock lists old new (EachImage (IsCreatedIn place bytes text tree))
each_image place bytes text out_b out_p clock lists old new tree settled absent run =
    weaker clock lists (Creates place bytes text (lists old (clock old))) (EachImage (IsCreatedIn place bytes text tree)) old new (λ l creates. image_of l creates) run
  where
    image_of : (l : Lists) → Creates place bytes text (lists old (clock old)) l → EachImage (IsCreatedIn place bytes text tree) l
    image_of l creates image is = (
      λ n out nb np. settled n out (image n) (subst (λ (v : List (Option (List ℕ))). Among (image n) v) (creates.others n out nb np) (is n out)),
      ⊎_elim
          (λ was. inl (settled (props_at place) out_p (image (props_at place)) was ∙ absent))
          (λ new. inr (new.0, new.1 (image (bytes_at place)) (is (bytes_at place) out_b)))
          (creates.props_list (image (props_at place)) (is (props_at place) out_p)),
    )

-- the same run, where the name is another word for the one
pub renamed : {D : Type 0} (clock : D → ℕ) (lists : D → ℕ → Lists) (old new : D) (name wanted : List ℕ) (value : Option (List ℕ)) → name ≡ wanted
    → During clock lists old new (MayPut name value (lists old (clock old))) → During clock lists old new (MayPut wanted value (lists old (clock old)))
renamed clock lists old new name wanted value is run = subst (λ (n : List ℕ). During clock lists old new (MayPut n value (lists old (clock old)))) is run

-- a list that a run leaves alone is at its end what it was
pub left_alone : {D : Type 0} (clock : D → ℕ) (lists : D → ℕ → Lists) (old new : D) (name other : List ℕ) (value : Option (List ℕ)) → Outside other → other ≢ name
    → During clock lists old new (MayPut name value (lists old (clock old))) → lists new (clock new) other ≡ lists old (clock old) other
left_alone clock lists old new name other value out differs run = (run.each (clock new) run.later (omega arith)).rest other out differs

-- what holds after any answer
pub on_any : {T E : Type 0} {P : Type 0} (result : Result T E) → P → OnOk result P
on_any (Ok x) p = p
on_any (Err e) p = tt

-- the tree where the bytes alone may have been put
pub bytes_alone : (place bytes text : List ℕ) → Outside (props_at place) → (old new : Tree) → Rest (bytes_at place) old new → old (props_at place) ≡ None → IsCreatedIn place bytes text old new
bytes_alone place bytes text out_p old new rest absent = (λ n out not_bytes not_props. rest n out not_bytes, inl (rest (props_at place) out_p (λ e. two_names place (sym e)) ∙ absent))

-- and where the properties may have been put behind them
pub props_behind : (place bytes text : List ℕ) → Outside (bytes_at place) → Outside (props_at place) → (old mid new : Tree) → Rest (bytes_at place) old mid → mid (bytes_at place) ≡ Some bytes → Rest (props_at place) mid new
    → (new (props_at place) ≡ mid (props_at place)) ⊎ (new (props_at place) ≡ Some text) → old (props_at place) ≡ None → IsCreatedIn place bytes text old new
props_behind place bytes text out_b out_p old mid new first its_bytes second either absent = (
  λ n out not_bytes not_props. second n out not_props ∙ first n out not_bytes,
  ⊎_elim
      (λ same. inl (same ∙ first (props_at place) out_p (λ e. two_names place (sym e)) ∙ absent))
      (λ is. inr (is, second (bytes_at place) out_b (two_names place) ∙ its_bytes))
      either,
)

-- what holds after Ok, or after a refusal
pub on_either : {T E : Type 0} {P Q : Type 0} (result : Result T E) → OnOk result Q → OnErr result (P ⊎ Q) → P ⊎ Q
on_either (Ok x) done refused = inr done
on_either (Err e) done refused = refused
