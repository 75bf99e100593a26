-- Turns in which no device failed and no memory was refused are sound.
use Rattle.std.proofs.Common.{◌≡◌, ◌≢◌, inl, inr, ℕ, ◌+◌, Bool, true, false, ◌&&◌, cond, IsTrue, List, [], ◌∷◌, ◌++◌, length, Option, Some, None, refl, sym, ◌∙◌, ap, subst, arith}
use Rattle.std.proofs.lemmas.List.Sums.{sum_by-append, sum_by-cons}
use Rattle.nx_base.specs.declared.moment.Moment.{Moment}
use Rattle.repo_model.specs.declared.call.Call.{Call}
use Rattle.repo_model.specs.declared.entry.Entry.{Entry}
use Rattle.repo_model.specs.declared.reply.Fault.{Fault}
use Rattle.repo_model.specs.declared.reply.Fault.TheVariants as fault
use Rattle.repo_model.specs.declared.reply.Refusal.TheVariants as refusal
use Rattle.repo_model.specs.declared.reply.Reply.{Reply}
use Rattle.repo_model.specs.declared.reply.Reply.TheVariants as reply
use Rattle.repo_model.specs.Config.{Config}
use Rattle.repo_model.specs.State.{State}
use Rattle.repo_model.specs.History.{refusal_of}
use Rattle.http_heads.specs.declared.head.Head.{Head}
use Rattle.http_heads.specs.declared.method.Method.{Method}
use Rattle.http_heads.specs.declared.method.Method.TheVariants as methods
use Rattle.http_requests.specs.Requests.{Item, refused, whole, stopped, cut}
use Rattle.http_front.specs.declared.stop.Stop.{Stop}
use Rattle.http_front.specs.declared.stop.Stop.TheVariants as stops
use Rattle.http_front.specs.Calls.{first_call, call_of, put_of, next_call, store_in}
use Rattle.http_front.specs.Contents.{Contents}
use Rattle.http_front.specs.Entries.{begins, goes_on}
use Rattle.http_front.specs.Sound.{is_sound, AreSoundEntries, AreSound, HaveMemory, NoneWanted}
use Rattle.http_front.specs.Turns.{Setting, Turn, FollowsAt, Makes, AreTurns, contents_after, entries_of}
use Rattle.repo_session.specs.Turned.{refuses_by, says_disk, says_keeper, disk_faults_in, keeper_faults_in, stop_faults}
use Rattle.repo_session.specs.Serving.{all_stop_faults}
use Rattle.repo_session.proofs.Leading.{IsAsked, step_plain}

-- the calls of a request are those of a session

first_asked : (moment : Moment) (head : Head) (method : Method) → IsAsked (first_call moment head method)
first_asked moment head methods.Get = tt
first_asked moment head methods.Head = tt
first_asked moment head methods.Put = tt
first_asked moment head methods.Delete = tt

its_call : (a b : Call) → Some a ≡ Some b → IsAsked a → IsAsked b
its_call a b e asked = let same : a ≡ b = cc in subst (λ (c : Call). IsAsked c) same asked

none_asked : (c : Call) → None ≡ Some c → IsAsked c
none_asked c e = cc

call_asked : (moment : Moment) (item : Item) (c : Call) → call_of moment item ≡ Some c → IsAsked c
call_asked moment (refused why bare) c e = none_asked c e
call_asked moment (whole head content) c e = its_call (first_call moment head head.method) c e (first_asked moment head head.method)
call_asked moment (stopped head content why) c e = its_call (first_call moment head head.method) c e (first_asked moment head head.method)
call_asked moment (cut head content) c e = its_call (first_call moment head head.method) c e (first_asked moment head head.method)

put_asked : (digest : List ℕ → List ℕ) (moment : Moment) (item : Item) (c : Call) → put_of digest moment item ≡ Some c → IsAsked c
put_asked digest moment (refused why bare) c e = none_asked c e
put_asked digest moment (whole head content) c e = its_call _ c e tt
put_asked digest moment (stopped head content why) c e = none_asked c e
put_asked digest moment (cut head content) c e = none_asked c e

next_asked : (digest : List ℕ → List ℕ) (moment : Moment) (item : Item) (stop : Option Stop) (done : List Entry) (c : Call) → next_call digest moment item stop done ≡ Some c → IsAsked c
next_asked digest moment item stop [] c e = call_asked moment item c e
next_asked digest moment item stop (first ∷ []) c e = by (begins first && goes_on item stop) e
  where
    by : (b : Bool) → cond b (put_of digest moment item) None ≡ Some c → IsAsked c
    by true is = put_asked digest moment item c is
    by false is = none_asked c is
next_asked digest moment item stop (first ∷ second ∷ done) c e = none_asked c e

-- an entry of such a call that tells of no fault of a device and of no want of memory is sound
entry_sound : (config : Config) (number : ℕ) (s : State) (store : List ℕ) (e : Entry) (new : State) → IsAsked e.call → FollowsAt config number s store e new
    → refuses_by says_disk e.reply ≡ false → refuses_by says_keeper e.reply ≡ false → e.reply ≢ reply.Refused refusal.NoMemory → IsTrue (is_sound e.reply)
entry_sound config number s store e new asked (inl x) disk keeper memory = (step_plain config s e.call e.reply new asked (store, x)).sound
entry_sound config number s store e new asked (inr fails) disk keeper memory = by fails.what fails.says
  where
    by : (what : Fault) → e.reply ≡ refusal_of what → IsTrue (is_sound e.reply)
    by fault.Disk says = let told : refuses_by says_disk e.reply ≡ true = ap (refuses_by says_disk) says in cc
    by fault.Keeper says = let told : refuses_by says_keeper e.reply ≡ true = ap (refuses_by says_keeper) says in cc
    by fault.Memory says = absurd (memory says)

-- what was counted nowhere is nowhere
not_one : (b : Bool) (more all : ℕ) → all ≡ cond b 1 0 + more → all ≡ 0 → (b ≡ false) × (more ≡ 0)
not_one true more all is none = absurd (omega (arith, is, none))
not_one false more all is none = (refl, omega (arith, is, none))

first_counted : (says : Reply → Bool) (all : List Entry → ℕ) → ((e : Entry) (es : List Entry) → all (e ∷ es) ≡ cond (says e.reply) 1 0 + all es)
    → (e : Entry) (es : List Entry) → all (e ∷ es) ≡ 0 → (says e.reply ≡ false) × (all es ≡ 0)
first_counted says all more e es none = not_one (says e.reply) (all es) (all (e ∷ es)) (more e es) none

disk_more : (e : Entry) (es : List Entry) → disk_faults_in (e ∷ es) ≡ cond (refuses_by says_disk e.reply) 1 0 + disk_faults_in es
disk_more e es = sum_by-cons (λ (e : Entry). cond (refuses_by says_disk e.reply) 1 0) e es

keeper_more : (e : Entry) (es : List Entry) → keeper_faults_in (e ∷ es) ≡ cond (refuses_by says_keeper e.reply) 1 0 + keeper_faults_in es
keeper_more e es = sum_by-cons (λ (e : Entry). cond (refuses_by says_keeper e.reply) 1 0) e es

makes_sound : (es : List Entry) (setting : Setting) (moment : Moment) (item : Item) (stop : Option Stop) (done : List Entry) (number : ℕ) (s new : State)
    → Makes setting moment item stop done number s es new → disk_faults_in es ≡ 0 → keeper_faults_in es ≡ 0 → HaveMemory es → AreSoundEntries es
makes_sound [] setting moment item stop done number s new makes disk keeper memory = tt
makes_sound (e ∷ es) setting moment item stop done number s new (mid, here, rest) disk keeper (has, memory) =
    let at_disk = first_counted (refuses_by says_disk) disk_faults_in disk_more e es disk in
    let at_keeper = first_counted (refuses_by says_keeper) keeper_faults_in keeper_more e es keeper in (
      entry_sound setting.config number s (store_in done) e mid (next_asked setting.digest moment item stop done e.call here.asked) here.follows at_disk.0 at_keeper.0 has,
      makes_sound es setting moment item stop (done ++ e ∷ []) (number + 1) mid new rest at_disk.1 at_keeper.1 memory,
    )

-- a stop is a fault of the disk or a want of memory
no_stop : (stop : Option Stop) → stop_faults stop ≡ 0 → stop ≢ Some stops.NoMemory → stop ≡ None
no_stop None none memory = refl
no_stop (Some stops.DiskFault) none memory = absurd (omega (arith, none))
no_stop (Some stops.NoMemory) none memory = absurd (memory refl)

pub turns_sound : (ts : List Turn) (setting : Setting) (n number : ℕ) (s new : State) (k l : Contents) → AreTurns setting n number s k ts new l
    → disk_faults_in (entries_of ts) + all_stop_faults ts ≡ 0 → keeper_faults_in (entries_of ts) ≡ 0 → NoneWanted ts → AreSound ts
turns_sound [] setting n number s new k l are disk keeper wanted = tt
turns_sound (t ∷ ts) setting n number s new k l (mid, is, end, rest) disk keeper (stop, memory, wanted) =
    let of_disk : disk_faults_in (t.entries ++ entries_of ts) ≡ disk_faults_in t.entries + disk_faults_in (entries_of ts) =
    sum_by-append (λ (e : Entry). cond (refuses_by says_disk e.reply) 1 0) t.entries (entries_of ts) in
    let of_keeper : keeper_faults_in (t.entries ++ entries_of ts) ≡ keeper_faults_in t.entries + keeper_faults_in (entries_of ts) =
    sum_by-append (λ (e : Entry). cond (refuses_by says_keeper e.reply) 1 0) t.entries (entries_of ts) in
    let at_disk : disk_faults_in (t.entries ++ entries_of ts) + all_stop_faults (t ∷ ts) ≡ 0 = disk in
    let at_keeper : keeper_faults_in (t.entries ++ entries_of ts) ≡ 0 = keeper in
    let of_stops : all_stop_faults (t ∷ ts) ≡ stop_faults t.stop + all_stop_faults ts = sum_by-cons (λ (t : Turn). stop_faults t.stop) t ts in (
      no_stop t.stop (omega (arith, of_disk, of_stops, at_disk)) stop,
      makes_sound t.entries setting (setting.draws n) t.request t.stop [] number s mid is.makes (omega (arith, of_disk, of_stops, at_disk)) (omega (arith, of_keeper, at_keeper)) memory,
      turns_sound ts setting (n + 1) (number + length t.entries) mid new (contents_after t k) l rest (omega (arith, of_disk, of_stops, at_disk)) (omega (arith, of_keeper, at_keeper)) wanted,
    )
