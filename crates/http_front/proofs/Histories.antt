-- The entries of turns are a history of the repository.
use Rattle.std.proofs.Common.{◌≡◌, ℕ, ◌+◌, List, [], ◌∷◌, ◌++◌, length, Option, inl, inr, subst, arith, add-zero}
use Rattle.nx_base.specs.declared.moment.Moment.{Moment}
use Rattle.repo_model.specs.declared.entry.Entry.{Entry}
use Rattle.repo_model.specs.Config.{Config}
use Rattle.repo_model.specs.State.{State}
use Rattle.repo_model.specs.History.{Follows, LegalFrom}
use Rattle.http_requests.specs.Requests.{Item}
use Rattle.http_front.specs.declared.stop.Stop.{Stop}
use Rattle.http_front.specs.Contents.{Contents}
use Rattle.http_front.specs.Calls.{store_in}
use Rattle.http_front.specs.Turns.{Setting, Turn, FollowsAt, Makes, AreTurns, contents_after, entries_of}

-- an entry that follows at a store follows
follows : (config : Config) (number : ℕ) (s : State) (store : List ℕ) (e : Entry) (t : State) → FollowsAt config number s store e t → Follows config number s e t
follows config number s store e t (inl x) = inl (store, x)
follows config number s store e t (inr fails) = inr (inl fails)

-- two histories, one behind the other
pub joined : (config : Config) (n : ℕ) (s : State) (es fs : List Entry) (mid new : State)
    → LegalFrom config n s es mid → LegalFrom config (n + length es) mid fs new → LegalFrom config n s (es ++ fs) new
joined config n s [] fs mid new is rest =
    subst (λ (m : State). LegalFrom config n m fs new) is (subst (λ (k : ℕ). LegalFrom config k mid fs new) (add-zero n) rest)
joined config n s (e ∷ es) fs mid new (m, here, legal) rest =
    let same : n + length (e ∷ es) ≡ (n + 1) + length es = omega arith in
    (m, here, joined config (n + 1) m es fs mid new legal (subst (λ (k : ℕ). LegalFrom config k mid fs new) same rest))

-- the entries of one request
pub made_legal : (setting : Setting) (moment : Moment) (q : Item) (stop : Option Stop) (done : List Entry) (n : ℕ) (s : State) (es : List Entry) (new : State)
    → Makes setting moment q stop done n s es new → LegalFrom setting.config n s es new
made_legal setting moment q stop done n s [] new (x, e) = e
made_legal setting moment q stop done n s (e ∷ es) new (mid, here, rest) =
    (mid, follows setting.config n s (store_in done) e mid here.follows, made_legal setting moment q stop (done ++ e ∷ []) (n + 1) mid es new rest)

-- those of all
pub turns_legal : (turns : List Turn) (setting : Setting) (n number : ℕ) (s new : State) (k l : Contents)
    → AreTurns setting n number s k turns new l → LegalFrom setting.config number s (entries_of turns) new
turns_legal [] setting n number s new k l (e, f) = e
turns_legal (t ∷ ts) setting n number s new k l (mid, is, end, rest) =
    joined setting.config number s t.entries (entries_of ts) mid new
    (made_legal setting (setting.draws n) t.request t.stop [] number s t.entries mid is.makes)
    (turns_legal ts setting (n + 1) (number + length t.entries) mid new (contents_after t k) l rest)
