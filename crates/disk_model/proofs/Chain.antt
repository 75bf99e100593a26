-- How a run of disk calls goes on, and what each call does to what joined so far.
use Rattle.std.proofs.Common.{◌≡◌, ◌⊎◌, inl, inr, ⊎_elim, ℕ, ◌≤◌, List, [], ◌∷◌, ◌++◌, Option, Result, Ok, Err, refl, sym, ◌∙◌, subst, arith}
use Rattle.std.proofs.lemmas.Bool.{cases_eq, cases_lt}
use Rattle.disk_model.specs.declared.disk_err.DiskErr.{DiskErr}
use Rattle.disk_model.specs.declared.disk_err.DiskErr.TheVariants.{Failed, NoMemory}
use Rattle.disk_model.specs.Disk.{Lists, Outside, Among, After, Same, Joins, Settles}
use Rattle.disk_model.specs.Moments.{Ticks, During, MayPut}

module _ {D : Type 0} (clock : D → ℕ) (lists : D → ℕ → Lists) where
  -- before the first call
  pub started : (P : Lists → Type 0) (d : D) → P (lists d (clock d)) → During clock lists d d P
  started P d here = record {
    later = omega arith;
    each = λ t ge le. let same : clock d ≡ t = omega (arith, ge, le) in subst (λ (k : ℕ). P (lists d k)) same here;
    kept = λ t le. refl;
  }

  -- one call more
  pub goes_on : (P : Lists → Type 0) (old mid new : D) → During clock lists old mid P → Ticks (clock mid) (clock new) (lists mid) (lists new) → P (lists new (clock new)) → During clock lists old new P
  goes_on P old mid new so_far time here = record {
    later = omega (arith, so_far.later, time.later);
    each = λ t ge le. elim (cases_eq t (clock new)) [
      | inl now ↦ subst (λ (k : ℕ). P (lists new k)) (sym now) here
      | inr earlier ↦
          let before : t ≤ clock mid = omega (arith, le, earlier, time.at_most) in
          subst P (sym (time.kept t before)) (so_far.each t ge before)
    ];
    kept = λ t le. time.kept t (omega (arith, le, so_far.later)) ∙ so_far.kept t le;
  }

  -- a run after a run
  pub and_then : (P : Lists → Type 0) (old mid new : D) → During clock lists old mid P → During clock lists mid new P → During clock lists old new P
  and_then P old mid new first second = record {
    later = omega (arith, first.later, second.later);
    each = λ t ge le. elim (cases_lt (clock mid) t) [
      | inl after ↦ second.each t (omega (arith, after)) le
      | inr before ↦ subst P (sym (second.kept t before)) (first.each t ge before)
    ];
    kept = λ t le. second.kept t (omega (arith, le, first.later)) ∙ first.kept t le;
  }

  pub weaker : (P Q : Lists → Type 0) (old new : D) → ((l : Lists) → P l → Q l) → During clock lists old new P → During clock lists old new Q
  weaker P Q old new f run = record { later = run.later; each = λ t ge le. f (lists new t) (run.each t ge le); kept = run.kept }

pub among_push : (v w : Option (List ℕ)) (list : List (Option (List ℕ))) → Among v (list ++ w ∷ []) → Among v list ⊎ (v ≡ w)
among_push v w [] (inl is) = inr is
among_push v w [] (inr none) = absurd none
among_push v w (x ∷ list) (inl is) = inl (inl is)
among_push v w (x ∷ list) (inr there) = ⊎_elim (λ a. inl (inr a)) (λ e. inr e) (among_push v w list there)

-- what a call does to lists that at most one value joined
module _ (name : List ℕ) (value : Option (List ℕ)) (first mid new : Lists) (so_far : MayPut name value first mid) where
  pub put_same : Outside name → Same mid new → MayPut name value first new
  put_same out same = record {
    named = λ v here. so_far.named v (subst (λ (l : List (Option (List ℕ))). Among v l) (same name out) here);
    rest = λ n is_out other. same n is_out ∙ so_far.rest n is_out other;
  }

  pub put_joins : {T : Type 0} (result : Result T DiskErr) → Joins result name value mid new → MayPut name value first new
  put_joins result joins = record {
    named = λ v here. joined v (joined_or_not result joins.named) here;
    rest = λ n is_out other. joins.rest n is_out other ∙ so_far.rest n is_out other;
  }
    where
      joined_or_not : {T : Type 0} (r : Result T DiskErr) → After r (new name ≡ mid name ++ value ∷ []) (new name ≡ mid name ++ value ∷ []) (new name ≡ mid name) → (new name ≡ mid name ++ value ∷ []) ⊎ (new name ≡ mid name)
      joined_or_not (Ok x) is = inl is
      joined_or_not (Err Failed) is = inl is
      joined_or_not (Err NoMemory) is = inr is

      joined : (v : Option (List ℕ)) → (new name ≡ mid name ++ value ∷ []) ⊎ (new name ≡ mid name) → Among v (new name) → Among v (first name) ⊎ (v ≡ value)
      joined v (inl is) here = ⊎_elim (λ old. so_far.named v old) (λ e. inr e) (among_push v value (mid name) (subst (λ (l : List (Option (List ℕ))). Among v l) is here))
      joined v (inr is) here = so_far.named v (subst (λ (l : List (Option (List ℕ))). Among v l) is here)

  pub put_settles : {T : Type 0} (result : Result T DiskErr) (now : Option (List ℕ)) → Among now (mid name) → Settles result name now mid new → MayPut name value first new
  put_settles result now there settles = record {
    named = λ v here. kept v (settled_or_not result settles.named) here;
    rest = λ n is_out other. settles.rest n is_out other ∙ so_far.rest n is_out other;
  }
    where
      settled_or_not : {T : Type 0} (r : Result T DiskErr) → After r (new name ≡ now ∷ []) ((new name ≡ mid name) ⊎ (new name ≡ now ∷ [])) (new name ≡ mid name) → (new name ≡ mid name) ⊎ (new name ≡ now ∷ [])
      settled_or_not (Ok x) is = inr is
      settled_or_not (Err Failed) is = is
      settled_or_not (Err NoMemory) is = inl is

      alone : (v : Option (List ℕ)) → Among v (now ∷ []) → v ≡ now
      alone v (inl is) = is
      alone v (inr none) = absurd none

      kept : (v : Option (List ℕ)) → (new name ≡ mid name) ⊎ (new name ≡ now ∷ []) → Among v (new name) → Among v (first name) ⊎ (v ≡ value)
      kept v (inl is) here = so_far.named v (subst (λ (l : List (Option (List ℕ))). Among v l) is here)
      kept v (inr is) here = so_far.named v (subst (λ (w : Option (List ℕ)). Among w (mid name)) (sym (alone v (subst (λ (l : List (Option (List ℕ))). Among v l) is here))) there)

pub put_start : (name : List ℕ) (value : Option (List ℕ)) (l : Lists) → MayPut name value l l
put_start name value l = record { named = λ v here. inl here; rest = λ n is_out other. refl }

pub put_after_same : (name : List ℕ) (value : Option (List ℕ)) (first mid new : Lists) → Outside name → Same first mid → MayPut name value mid new → MayPut name value first new
put_after_same name value first mid new out same put = record {
  named = λ v here. ⊎_elim (λ old. inl (subst (λ (l : List (Option (List ℕ))). Among v l) (same name out) old)) (λ e. inr e) (put.named v here);
  rest = λ n is_out other. put.rest n is_out other ∙ same n is_out;
}

-- a run that changes no list, and then one that puts a value
pub same_then_put : {D : Type 0} (clock : D → ℕ) (lists : D → ℕ → Lists) (name : List ℕ) (value : Option (List ℕ)) (old mid new : D) → Outside name
    → During clock lists old mid (Same (lists old (clock old)))
    → During clock lists mid new (MayPut name value (lists mid (clock mid)))
    → During clock lists old new (MayPut name value (lists old (clock old)))
same_then_put clock lists name value old mid new out first second =
    let start = lists old (clock old) in
    let P : Lists → Type 0 = MayPut name value start in
    and_then clock lists P old mid new
    (weaker clock lists (Same start) P old mid (λ l same. put_after_same name value start l l out same (put_start name value l)) first)
    (weaker clock lists (MayPut name value (lists mid (clock mid))) P mid new
    (λ l put. put_after_same name value start (lists mid (clock mid)) l out (first.each (clock mid) first.later (omega arith)) put) second)

-- a run that changes no list, and then another
pub same_then_same : {D : Type 0} (clock : D → ℕ) (lists : D → ℕ → Lists) (old mid new : D)
    → During clock lists old mid (Same (lists old (clock old)))
    → During clock lists mid new (Same (lists mid (clock mid)))
    → During clock lists old new (Same (lists old (clock old)))
same_then_same clock lists old mid new first second =
    let start = lists old (clock old) in
    let P : Lists → Type 0 = Same start in
    let here : P (lists mid (clock mid)) = first.each (clock mid) first.later (omega arith) in
    and_then clock lists P old mid new first
    (weaker clock lists (Same (lists mid (clock mid))) P mid new (λ l same n out. same n out ∙ here n out) second)
