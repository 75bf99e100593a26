-- The entries of a turn are its request's own, in a list that they begin.
use Rattle.std.proofs.Common.{◌≡◌, ℕ, ◌+◌, ◌≤◌, Bool, true, false, ◌&&◌, if◌then◌else◌, List, [], ◌∷◌, ◌++◌, length, Option, Some, None, refl, inl, inr, arith}
use Rattle.nx_base.specs.declared.moment.Moment.{Moment}
use Rattle.repo_model.specs.declared.call.Call.{Call}
use Rattle.repo_model.specs.declared.entry.Entry.{Entry}
use Rattle.repo_model.specs.State.{State}
use Rattle.http_requests.specs.Requests.{Item, refused, whole, stopped, cut}
use Rattle.http_front.specs.declared.stop.Stop.{Stop}
use Rattle.http_front.specs.declared.stop.Stop.TheVariants as stops
use Rattle.http_front.specs.Entries.{begins, goes_on, asks_nothing, own, others}
use Rattle.http_front.specs.Calls.{call_of, put_of, next_call}
use Rattle.http_front.specs.Turns.{Setting, Makes}

-- in front of the rest stand the request's own entries
pub record Splits (q : Item) (stop : Option Stop) (made rest : List Entry) : Type 0 where
  pub mine : own q stop (made ++ rest) ≡ made
  pub left : others q stop (made ++ rest) ≡ rest

-- none
at_end : (q : Item) (stop : Option Stop) (rest : List Entry) → rest ≡ [] → Splits q stop [] rest
at_end q stop [] e = record { mine = refl; left = refl }
at_end q stop (x ∷ rest) e = cc

none : (q : Item) (stop : Option Stop) (rest : List Entry) → asks_nothing q ≡ true → Splits q stop [] rest
none q stop [] a = record { mine = refl; left = refl }
none q stop (e ∷ rest) a = record { mine = rw a refl; left = rw a refl }

-- one
one : (q : Item) (stop : Option Stop) (e : Entry) (rest : List Entry) → asks_nothing q ≡ false → (begins e && goes_on q stop) ≡ false → Splits q stop (e ∷ []) rest
one q stop e rest a b = record { mine = rw (a, b) refl; left = rw (a, b) refl }

alone : (q : Item) (stop : Option Stop) (e : Entry) (rest : List Entry) (b : Bool) → asks_nothing q ≡ false → (begins e && goes_on q stop) ≡ b → rest ≡ [] → Splits q stop (e ∷ []) rest
alone q stop e rest false a b none = one q stop e rest a b
alone q stop e [] true a b none = record { mine = rw (a, b) refl; left = rw (a, b) refl }
alone q stop e (x ∷ rest) true a b none = cc

-- two
two : (q : Item) (stop : Option Stop) (e f : Entry) (rest : List Entry) → asks_nothing q ≡ false → (begins e && goes_on q stop) ≡ true → Splits q stop (e ∷ f ∷ []) rest
two q stop e f rest a b = record { mine = rw (a, b) refl; left = rw (a, b) refl }

-- a request that makes no call, and one that makes one
silent : (m : Moment) (q : Item) → call_of m q ≡ None → asks_nothing q ≡ true
silent m (refused w bare) e = refl
silent m (whole a c) e = cc
silent m (stopped a c w) e = cc
silent m (cut a c) e = cc

asks : (m : Moment) (q : Item) (x : Call) → call_of m q ≡ Some x → asks_nothing q ≡ false
asks m (refused w bare) x e = cc
asks m (whole a c) x e = refl
asks m (stopped a c w) x e = refl
asks m (cut a c) x e = refl

-- behind the beginning of an upload that goes on stands a call
puts : (d : List ℕ → List ℕ) (m : Moment) (q : Item) (stop : Option Stop) → goes_on q stop ≡ true → put_of d m q ≡ None → ⊥
puts d m (refused w bare) stop g e = cc
puts d m (whole a c) stop g e = cc
puts d m (stopped a c w) stop g e = cc
puts d m (cut a c) stop g e = cc

no_second : (d : List ℕ → List ℕ) (m : Moment) (q : Item) (stop : Option Stop) (x y : Bool) → goes_on q stop ≡ y → (if x && y then put_of d m q else None) ≡ None → (x && y) ≡ false
no_second d m q stop true true g e = absurd (puts d m q stop g e)
no_second d m q stop false y g e = refl
no_second d m q stop true false g e = refl

second : (x : Bool) (put : Option Call) (c : Call) → (if x then put else None) ≡ Some c → x ≡ true
second true put c e = refl
second false put c e = cc

-- where a call is left out, nothing stands behind
pub splits : (setting : Setting) (m : Moment) (q : Item) (stop : Option Stop) (n : ℕ) (s : State) (es : List Entry) (new : State) (rest : List Entry)
    → Makes setting m q stop [] n s es new → (setting.room ≤ n + length es → rest ≡ []) → (stop ≡ Some stops.NoMemory → rest ≡ []) → Splits q stop es rest
splits setting m q stop n s [] new rest (inl e, x) full short = none q stop rest (silent m q e)
splits setting m q stop n s [] new rest (inr (inl h), x) full short = at_end q stop rest (full (omega arith))
splits setting m q stop n s [] new rest (inr (inr h), x) full short = at_end q stop rest (short h)
splits setting m q stop n s (e ∷ []) new rest (mid, here, (inl x, y)) full short =
    one q stop e rest (asks m q e.call here.asked) (no_second setting.digest m q stop (begins e) (goes_on q stop) refl x)
splits setting m q stop n s (e ∷ []) new rest (mid, here, (inr (inl h), y)) full short =
    alone q stop e rest _ (asks m q e.call here.asked) refl (full (omega arith))
splits setting m q stop n s (e ∷ []) new rest (mid, here, (inr (inr h), y)) full short =
    alone q stop e rest _ (asks m q e.call here.asked) refl (short h)
splits setting m q stop n s (e ∷ f ∷ []) new rest (mid, here, (next, there, last)) full short =
    two q stop e f rest (asks m q e.call here.asked) (second (begins e && goes_on q stop) (put_of setting.digest m q) f.call there.asked)
splits setting m q stop n s (e ∷ f ∷ g ∷ es) new rest (mid, here, (next, there, (third, extra, last))) full short =
    let none : next_call setting.digest m q stop (e ∷ f ∷ []) ≡ Some g.call = extra.asked in
    cc
