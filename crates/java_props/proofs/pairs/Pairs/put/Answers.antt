use Rattle.std.proofs.Common.{◌≡◌, ℕ, true, Result, Ok, Err, OnOk, OnErr, List, sym, subst, string_bytes}
use Rattle.java_props.specs.declared.pairs.Pair.{Pair}
use Rattle.java_props.specs.Kept.{ArePairs, put, has_room}
use Rattle.java_props.specs.Seen.{all_seen}
use Rattle.java_props.proofs.Ordered.{are_put}
use Rattle.java_props.proofs.pairs.Pairs.put.Goals as goal

-- either way these are pairs
kept : {E : Type 0} (r : Result (Unit {0}) E) (old new : List Pair) (key value : List ℕ) → ArePairs (all_seen old) → has_room key (all_seen old) ≡ true
    → OnOk r (all_seen new ≡ put key value (all_seen old)) → OnErr r (new ≡ old) → ArePairs (all_seen new)
kept (Ok x) old new key value h r ok err = subst ArePairs (sym ok) (are_put key value (all_seen old) h r)
kept (Err e) old new key value h r ok err = subst (λ items. ArePairs (all_seen items)) (sym err) h

pub invariant_of-self : goal.invariant_of-self
invariant_of-self c =
    kept c.put_pair.result c.self.inside.items.items c.put_pair.new.items.items (string_bytes c.args.key) (string_bytes c.args.value) c.self.invariant (subst (λ ps. has_room (string_bytes c.args.key) ps ≡ true) (sym c.self.view_is) c.requires) c.put_pair.ensures.ok c.put_pair.ensures.err
