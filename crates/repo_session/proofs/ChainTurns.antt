-- Requests that a session answered one after another were answered by turns.
use Rattle.std.proofs.Common.{◌≡◌, ◌⊎◌, inl, inr, ℕ, ◌+◌, Bool, false, List, [], ◌∷◌, ◌++◌, length, refl, sym, ap, ◌∙◌, subst, arith}
use Rattle.nx_io.specs.Causes.{RoseBy}
use Rattle.nx_base.specs.declared.moment.Moment.{Moment}
use Rattle.http_requests.specs.Requests.{Item}
use Rattle.http_front.specs.Answers.{Answer}
use Rattle.http_front.specs.Chains.{Replying, Chain, ChainsPast}
use Rattle.http_front.specs.Sessions.{ChainFails}
use Rattle.http_front.specs.Turns.{Turn, entries_of, requests_of}
use Rattle.repo_core.specs.View.{CoreView}
use Rattle.repo_session.specs.Answering.{AnsweringView, Answered}
use Rattle.repo_core.specs.Devices.{Devices}
use Rattle.repo_session.specs.Drawing.{HasDrawn}
use Rattle.repo_session.specs.Resting.{Rests}
use Rattle.repo_session.specs.Turned.{DownloadFails, keeper_faults_in}
use Rattle.repo_session.specs.Serving.{HasTurns, HasTurnsFrom, HasTurnsPast, TurnsLead}
use Rattle.repo_session.proofs.TurnsMade.{rose_before, rose_by_later, rose_later, since_rests, told_before}
use Rattle.repo_session.proofs.TurnsChained.{runs_none, runs_more}

-- no request, no turn
none_made : (turns : List Turn) → requests_of turns ≡ [] → turns ≡ []
none_made [] e = refl
none_made (turn ∷ turns) e = absurd (omega (arith, ap length e))

module _ {A D T W R : Type 0} (devices : Devices D T) (view : A → AnsweringView D T W R) where
  -- a request is answered as the session is seen
  abbrev Says : Replying A
  Says = λ x y item answer. Answered devices (view x) (view y) item answer

  -- no request ended the session
  at_end : (x y : A) (items : List Item) (bytes : List ℕ) (over : Bool) → Chain Says x items bytes y over → items ≡ [] → over ≡ false
  at_end x y [] bytes over (e, same, not) none = not
  at_end x y (item ∷ items) bytes over chain none = absurd (omega (arith, ap length none))

  -- a turn that ends the session, behind which there is none
  alone : (moments : List Moment) (n : ℕ) (item : Item) (x mid : A) (answer : Answer) → HasDrawn (view x).draws moments n → Says x mid item answer
      → HasTurnsFrom devices (view x).core (view mid).core answer.ends moments n (item ∷ []) (answer.bytes ++ [])
  alone moments n item x mid answer drawn answered =
      let t = answered.turned in
      let turn : Turn = record { request = item; stop = t.stop; entries = t.entries } in (
        turn ∷ [],
        refl,
        runs_more devices (view x).core (view mid).core (view mid).core answer.ends answer.ends moments n answered.moment turn [] answer.bytes [] (answered.drawn moments n drawn).0 t.made t.says (inr refl)
            (λ none. refl) (runs_none devices (view mid).core answer.ends moments (n + 1)),
      )

  pub chain_turns : (moments : List Moment) (n : ℕ) (requests : List Item) (written : List ℕ) (x y : A) (over : Bool) → HasDrawn (view x).draws moments n → Chain Says x requests written y over
      → HasTurnsFrom devices (view x).core (view y).core over moments n requests written
  chain_turns moments n [] written x y over drawn (e, same, not) =
      subst (λ (l : List ℕ). HasTurnsFrom devices (view x).core (view y).core over moments n [] l) (sym e)
      (subst (λ (p : A). HasTurnsFrom devices (view x).core (view p).core over moments n [] []) (sym same)
      ([], refl, runs_none devices (view x).core over moments n))
  chain_turns moments n (item ∷ items) written x y over drawn (mid, answer, rest, answered, e, inl (goes, chain)) =
      let draw = answered.drawn moments n drawn in
      let t = answered.turned in
      let behind = chain_turns moments (n + 1) items rest mid y over draw.1 chain in
      let turn : Turn = record { request = item; stop = t.stop; entries = t.entries } in
      let last : behind.0 ≡ [] → answer.ends ≡ over = λ is. goes ∙ sym (at_end mid y items rest over chain (sym behind.1 ∙ ap requests_of is)) in
      subst (λ (l : List ℕ). HasTurnsFrom devices (view x).core (view y).core over moments n (item ∷ items) l) (sym e) (
        turn ∷ behind.0,
        ap (λ (l : List Item). item ∷ l) behind.1,
        runs_more devices (view x).core (view mid).core (view y).core answer.ends over moments n answered.moment turn behind.0 answer.bytes rest draw.0 t.made t.says (inl goes) last behind.2,
      )
  chain_turns moments n (item ∷ items) written x y over drawn (mid, answer, rest, answered, e, inr (ends, none, no_rest, same, was)) =
      subst (λ (l : List ℕ). HasTurnsFrom devices (view x).core (view y).core over moments n (item ∷ items) l) (sym (e ∙ ap (λ (l : List ℕ). answer.bytes ++ l) no_rest))
      (subst (λ (l : List Item). HasTurnsFrom devices (view x).core (view y).core over moments n (item ∷ l) (answer.bytes ++ [])) (sym none)
      (subst (λ (p : A). HasTurnsFrom devices (view x).core (view p).core over moments n (item ∷ []) (answer.bytes ++ [])) (sym same)
      (subst (λ (o : Bool). HasTurnsFrom devices (view x).core (view mid).core o moments n (item ∷ []) (answer.bytes ++ [])) (ends ∙ sym was)
      (alone moments n item x mid answer drawn answered))))

  pub past_turns : (moments : List Moment) (requests : List Item) (written : List ℕ) (x y : A) (over : Bool) (count : ℕ) → HasDrawn (view x).draws moments 0
      → ChainsPast Says x requests written y over count → HasTurnsPast devices (view x).core moments requests written count
  past_turns moments requests written x y over count drawn c = record {
    prefix = c.prefix;
    last = c.last;
    before = c.before;
    answer = c.answer.bytes;
    mid = (view c.mid).core;
    requests_are = c.requests;
    parts = c.parts;
    made = chain_turns moments 0 c.prefix c.before x c.mid false drawn c.made;
    past = c.past;
  }

  pub chain_fails : (moments : List Moment) (x y : A) → HasDrawn (view x).draws moments 0 → ChainFails Says (λ x y. DownloadFails devices (view x).core (view y).core) x y
      → DownloadFails devices (view x).core (view y).core
  chain_fails moments x y drawn c = λ is table.
      let failed = c.fails is table in
      let before = chain_turns moments 0 c.prefix c.before x c.start false drawn c.made in
      let runs = before.2 in (
        runs.since.tells failed.0,
        λ state contents stands.
            let led = runs.leads is failed.0 state contents stands in
            rose_before _ _ _ runs.since.disk_later (failed.1 led.next led.after led.stands),
      )

-- What a session left open is let go behind its turns.

pub turns_rest : {D T : Type 0} (devices : Devices D T) (old mid new : CoreView D T) (over : Bool) (moments : List Moment) (requests : List Item) (written : List ℕ)
    → Rests devices mid new → HasTurns devices old mid over moments requests written → HasTurns devices old new over moments requests written
turns_rest {D} {T} devices old mid new over moments requests written rests (turns, are, runs) = (
  turns,
  are,
  record {
    since = since_rests devices old mid new (entries_of turns) runs.since rests;
    disk = rose_by_later _ _ _ _ runs.disk rests.later;
    keeper = subst (λ (t : T). RoseBy (keeper_faults_in (entries_of turns)) (devices.keeper_faults old.table) (devices.keeper_faults t))
        (sym (ap (λ (v : CoreView D T). v.table) rests.same)) runs.keeper;
    leads = λ told is state contents stands.
        let led : TurnsLead devices old mid over moments 0 turns written state contents = runs.leads told (told_before devices mid new rests is) state contents stands in
        record { next = led.next; after = led.after; are = led.are; stands = rests.stands told led.next led.after led.stands; said = led.said; ends = led.ends };
  },
)

pub fails_rest : {D T : Type 0} (devices : Devices D T) (old mid new : CoreView D T) → Rests devices mid new → DownloadFails devices old mid → DownloadFails devices old new
fails_rest devices old mid new rests fails = λ told is.
    let failed = fails told (told_before devices mid new rests is) in
    (failed.0, λ state contents stands. rose_later _ _ _ (failed.1 state contents stands) rests.later)
