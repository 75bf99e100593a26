-- Turns in which nothing failed are those of the one-thread repository.
use Rattle.std.proofs.Common.{◌≡◌, ◌⊎◌, ℕ, ◌+◌, Bool, true, false, if◌then◌else◌, List, [], ◌∷◌, ◌++◌, length, Option, None, refl, sym, ◌∙◌, ap, subst, inl, inr, arith}
use Rattle.repo_model.specs.State.{State}
use Rattle.http_requests.specs.Requests.{Item}
use Rattle.http_front.specs.declared.stop.Stop.{Stop}
use Rattle.http_front.specs.Contents.{Contents}
use Rattle.http_front.specs.Turns.{Setting, Turn, Makes, AreTurns, contents_after, turn_answer, requests_of}
use Rattle.http_front.specs.Sound.{AreSound}
use Rattle.http_front.specs.Output.{Made, made_by, Output, at_end, in_front, output_of}
use Rattle.http_front.specs.TurnLaws.{IsOutput}
use Rattle.http_front.proofs.Made.{made_is}

-- the run from a request on, of which these entries were made
abbrev run_from : Setting → ℕ → ℕ → Contents → Item → List Item → Made → Option Stop → Output
run_from setting n number k q qs made stop =
    let turn : Turn = record { request = q; stop = stop; entries = made.entries } in
    in_front made.entries (turn_answer k turn)
    (if (turn_answer k turn).ends then at_end true made.new (contents_after turn k)
    else output_of setting (n + 1) (number + length made.entries) made.new (contents_after turn k) qs)

-- what stands behind a turn
tail_is : (ts : List Turn) (b : Bool) (s new : State) (k l : Contents) (rest : Output) → (b ≡ false) ⊎ (ts ≡ [])
    → (ts ≡ [] → (new ≡ s) × (l ≡ k)) → IsOutput rest k ts new l → IsOutput (if b then at_end true s k else rest) k ts new l
tail_is ts false s new k l rest x none is = is
tail_is ts true s new k l rest (inl e) none is = cc
tail_is [] true s new k l rest (inr e) none is = record { entries = refl; bytes = refl; new_is = sym (none refl).0; contents_are = sym (none refl).1 }
tail_is (t ∷ ts) true s new k l rest (inr e) none is = cc

-- no turn changes nothing
unchanged : (ts : List Turn) (setting : Setting) (n number : ℕ) (s new : State) (k l : Contents) → AreTurns setting n number s k ts new l → ts ≡ [] → (new ≡ s) × (l ≡ k)
unchanged [] setting n number s new k l are e = are
unchanged (t ∷ ts) setting n number s new k l are e = (cc, cc)

-- a turn in front
pub in_front_is : (t : Turn) (ts : List Turn) (new : State) (k l : Contents) (rest : Output) → IsOutput rest (contents_after t k) ts new l
    → IsOutput (in_front t.entries (turn_answer k t) rest) k (t ∷ ts) new l
in_front_is t ts new k l rest is = record {
  entries = ap (λ es. t.entries ++ es) is.entries;
  bytes = ap (λ x. (turn_answer k t).bytes ++ x) is.bytes;
  new_is = is.new_is;
  contents_are = is.contents_are;
}

pub sound_output : (ts : List Turn) (setting : Setting) (n number : ℕ) (s new : State) (k l : Contents)
    → AreTurns setting n number s k ts new l → AreSound ts → IsOutput (output_of setting n number s k (requests_of ts)) k ts new l
sound_output [] setting n number s new k l (e, f) sound = record { entries = refl; bytes = refl; new_is = sym e; contents_are = sym f }
sound_output (t ∷ ts) setting n number s new k l (mid, is, end, rest) (unstopped, good, sound) =
    let makes = subst (λ (x : Option Stop). Makes setting (setting.draws n) t.request x [] number s t.entries mid) unstopped is.makes in
    let made : made_by setting (setting.draws n) t.request number s ≡ record { entries = t.entries; new = mid } =
    made_is 2 setting (setting.draws n) t.request [] number s t.entries mid (omega arith) makes good in
    let same : output_of setting n number s k (requests_of (t ∷ ts)) ≡ run_from setting n number k t.request (requests_of ts) (record { entries = t.entries; new = mid }) t.stop =
    ap (λ (m : Made). run_from setting n number k t.request (requests_of ts) m None) made
    ∙ ap (run_from setting n number k t.request (requests_of ts) (record { entries = t.entries; new = mid })) (sym unstopped) in
    subst (λ (o : Output). IsOutput o k (t ∷ ts) new l) (sym same)
    (in_front_is t ts new k l _
    (tail_is ts (turn_answer k t).ends mid new (contents_after t k) l _ end
    (unchanged ts setting (n + 1) (number + length t.entries) mid new (contents_after t k) l rest)
    (sound_output ts setting (n + 1) (number + length t.entries) mid new (contents_after t k) l rest sound)))
