-- A tree of entries in the keys' order, seen as a finite map.
use Rattle.std.proofs.Common.{◌≡◌, ℕ, List, [], ◌∷◌, length, Bool, true, false, not, ◌||◌, ◌&&◌, cond, Option, Some, None, refl, sym, ap, subst, ◌∙◌}
use lib.Dec.{T}
use Rattle.std.specs.declared.cmp.Ordering.{Ordering}
use Rattle.std.specs.declared.cmp.Ordering.TheVariants.{Less}
use Rattle.std.specs.List.{AllByRecursion, list_any}
use Rattle.std.specs.List.Sorted.{IsStrictlySortedBy}
use Rattle.std.specs.Map.{keys_of, lookup}
use Rattle.std.specs.FinMap.Entries.{below_all, is_sorted}
use Rattle.std.specs.Ordering.{is_eq, eq_by_cmp}
use Rattle.std.specs.Cmp.{IsTotalOrder, eq_by_cmp_equiv}
use Rattle.std.specs.BTreeMap.{is_at}
use Rattle.std.specs.FinMap.{IsAntisymmetric, find, get, insert, remove, entries, len, len-entries, from_entries, get-from_entries, get-insert, get-remove, same_map, from_sorted, entries-from_sorted, get-from_sorted}
use Rattle.std.specs.FinSet as set

module _ {K X : Type 0} {R : K → K → Ordering} (total : IsTotalOrder R) (exact : IsAntisymmetric R) where
  -- what the entries have at a key
  abbrev pub at : List (K × X) → K → Option X
  at es q = lookup (is_at (R q)) es

  find_at : (es : List (K × X)) (q : K) → find R q es ≡ at es q
  find_at [] q = refl
  find_at (e ∷ es) q = ap (cond (is_at (R q) e.0) (Some e.1)) (find_at es q)

  -- and what the map that they make has there
  pub get_at : (es : List (K × X)) (q : K) → get (from_entries {R = R} es) q ≡ at es q
  get_at es q = get-from_entries total es q ∙ find_at es q

  -- entries that differ at one key make maps that differ there
  pub one_set : (es fs : List (K × X)) (k : K) (x : X) → ((q : K) → at fs q ≡ cond (is_at (R k) q) (Some x) (at es q)) → from_entries {R = R} fs ≡ insert (from_entries es) k x
  one_set es fs k x h = same_map total exact _ _ (λ q.
      get_at fs q ∙ h q ∙ ap (λ b. cond b (Some x) (at es q)) ((eq_by_cmp_equiv total).symm k q)
      ∙ sym (get-insert total (from_entries es) k x q ∙ ap (cond (is_at (R q) k) (Some x)) (get_at es q)))

  pub one_removed : (es fs : List (K × X)) (k : K) → ((q : K) → at fs q ≡ cond (is_at (R k) q) None (at es q)) → from_entries {R = R} fs ≡ remove (from_entries es) k
  one_removed es fs k h = same_map total exact _ _ (λ q.
      get_at fs q ∙ h q ∙ ap (λ b. cond b None (at es q)) ((eq_by_cmp_equiv total).symm k q)
      ∙ sym (get-remove total (from_entries es) k q ∙ ap (cond (is_at (R q) k) None) (get_at es q)))

  below : (k : K) (es : List (K × X)) → AllByRecursion (λ y. R k y ≡ Less) (keys_of es) → below_all R k es ≡ true
  below k [] h = refl
  below k (e ∷ es) h = rw (h.0, below k es h.1) refl

  rising : (es : List (K × X)) → IsStrictlySortedBy R (keys_of es) → is_sorted R es ≡ true
  unfolding IsStrictlySortedBy
  rising [] h = refl
  rising (e ∷ es) h = rw (below e.0 es h.0, rising es h.1) refl

  -- the entries of the map are those of the tree, where their keys rise
  pub entries_are : (es : List (K × X)) → IsStrictlySortedBy R (keys_of es) → entries (from_entries {R = R} es) ≡ es
  entries_are es h =
      let up = subst T (sym (rising es h)) tt in
      ap entries (same_map total exact (from_entries es) (from_sorted es) (λ q. get-from_entries total es q ∙ sym (get-from_sorted R es q up))) ∙ entries-from_sorted R es up

  pub len_is : (es : List (K × X)) → IsStrictlySortedBy R (keys_of es) → len (from_entries {R = R} es) ≡ length es
  len_is es h = len-entries (from_entries {R = R} es) ∙ ap length (entries_are es h)

module _ {K : Type 0} {R : K → K → Ordering} (total : IsTotalOrder R) (exact : IsAntisymmetric R) where
  orb : (b c : Bool) → cond b true c ≡ (b || c)
  orb true c = refl
  orb false c = refl

  andb : (b c : Bool) → cond b false c ≡ (not b && c)
  andb true c = refl
  andb false c = refl

  -- keys that differ in one make sets that differ in it
  pub one_added : (ks ls : List K) (k : K) → ((q : K) → list_any (is_at (R q)) ls ≡ cond (is_at (R k) q) true (list_any (is_at (R q)) ks)) → set.from_list {R = R} ls ≡ set.insert (set.from_list ks) k
  one_added ks ls k h = set.same_set total exact _ _ (λ q.
      set.contains-from_list total ls q ∙ h q ∙ ap (λ b. cond b true (list_any (is_at (R q)) ks)) ((eq_by_cmp_equiv total).symm k q)
      ∙ orb (is_at (R q) k) (list_any (is_at (R q)) ks)
      ∙ ap (λ b. is_at (R q) k || b) (sym (set.contains-from_list total ks q)) ∙ sym (set.contains-insert total (set.from_list ks) k q))

  pub one_dropped : (ks ls : List K) (k : K) → ((q : K) → list_any (is_at (R q)) ls ≡ cond (is_at (R k) q) false (list_any (is_at (R q)) ks)) → set.from_list {R = R} ls ≡ set.remove (set.from_list ks) k
  one_dropped ks ls k h = set.same_set total exact _ _ (λ q.
      set.contains-from_list total ls q ∙ h q ∙ ap (λ b. cond b false (list_any (is_at (R q)) ks)) ((eq_by_cmp_equiv total).symm k q)
      ∙ andb (is_at (R q) k) (list_any (is_at (R q)) ks)
      ∙ ap (λ b. not (is_at (R q) k) && b) (sym (set.contains-from_list total ks q)) ∙ sym (set.contains-remove total (set.from_list ks) k q))
