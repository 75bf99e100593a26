-- The turn of a request that makes one call, from what the call made of the core and what the disk took back behind it.
use Rattle.std.proofs.Common.{◌≡◌, inl, inr, ℕ, ◌+◌, ◌≤◌, Bool, false, if◌then◌else◌, List, [], ◌∷◌, ◌++◌, length, Some, None, IsSome, refl, sym, ap, ◌∙◌, subst, arith}
use Rattle.sha1.specs.Sha1.{sha1}
use Rattle.nx_io.specs.Causes.{Rose, RoseBy}
use Rattle.nx_base.specs.declared.moment.Moment.{Moment}
use Rattle.repo_model.specs.declared.call.Call.{Call}
use Rattle.repo_model.specs.declared.entry.Entry.{Entry}
use Rattle.repo_model.specs.declared.reply.Reply.{Reply}
use Rattle.repo_model.specs.declared.reply.Reply.TheVariants as reply
use Rattle.repo_model.specs.declared.reply.Refusal.TheVariants as refusal
use Rattle.repo_model.specs.State.{State}
use Rattle.http_requests.specs.Requests.{Item}
use Rattle.http_front.specs.Answers.{last_reply, full}
use Rattle.http_front.specs.Calls.{call_of, next_call}
use Rattle.http_front.specs.Contents.{Contents, with_content}
use Rattle.http_front.specs.Entries.{begins}
use Rattle.http_front.specs.Served.{Serves}
use Rattle.http_front.specs.Turns.{content_of}
use Rattle.repo_core.specs.View.{CoreView}
use Rattle.repo_core.specs.Devices.{Devices}
use Rattle.repo_session.specs.Standing.{Stands}
use Rattle.repo_session.specs.Leads.{IsEntryOf}
use Rattle.repo_session.specs.Called.{Since, HasDeviceCause, Called}
use Rattle.repo_session.specs.Resting.{Rests}
use Rattle.repo_session.specs.Turned.{disk_faults_in, keeper_faults_in, setting_of, TurnMade, TurnLeads}
use Rattle.repo_session.proofs.Makings.{said_to, makes_one}

-- counts of faults

pub rose_later : (before mid now : ℕ) → Rose before mid → mid ≤ now → Rose before now
rose_later before mid now rose le = grind (arith, rose, le)

pub rose_before : (before mid now : ℕ) → before ≤ mid → Rose mid now → Rose before now
rose_before before mid now le rose = grind (arith, le, rose)

-- no fault
pub rose_none : (before now : ℕ) → before ≤ now → RoseBy 0 before now
rose_none before now le = grind (arith, le)

-- of faults that were counted the count may be later
pub rose_by_later : (faults before mid now : ℕ) → RoseBy faults before mid → mid ≤ now → RoseBy faults before now
rose_by_later faults before mid now rose le = grind (arith, rose, le)

-- one behind another
pub rose_by_both : (first second before mid now : ℕ) → RoseBy first before mid → RoseBy second mid now → RoseBy (first + second) before now
rose_by_both first second before mid now rose more = grind (arith, rose, more)

-- give-backs

pub rests_same : {D T : Type 0} (devices : Devices D T) (core : CoreView D T) → Rests devices core core
rests_same devices core = record { same = refl; later = omega arith; durable = λ told is. is; files = λ told n out. refl; tracks = λ told state tracks. tracks; stands = λ told state contents stands. stands }

-- one behind another
pub rests_both : {D T : Type 0} (devices : Devices D T) (old mid new : CoreView D T) → Rests devices old mid → Rests devices mid new → Rests devices old new
rests_both {D} {T} devices old mid new first second = record {
  same = second.same ∙ ap (λ (c : CoreView D T). record c { disk = new.disk; holds = new.holds }) first.same;
  later = grind (arith, first.later, second.later);
  durable = λ told is. second.durable told (first.durable told is);
  files = λ told n out. second.files told n out ∙ first.files told n out;
  tracks = λ told state tracks. second.tracks told state (first.tracks told state tracks);
  stands = λ told state contents stands. second.stands told state contents (first.stands told state contents stands);
}

pub since_rests : {D T : Type 0} (devices : Devices D T) (old mid new : CoreView D T) (entries : List Entry) → Since devices old mid entries → Rests devices mid new → Since devices old new entries
since_rests {D} {T} devices old mid new entries since rests = record {
  journal = ap (λ (c : CoreView D T). c.journal) rests.same ∙ since.journal;
  config = ap (λ (c : CoreView D T). c.config) rests.same ∙ since.config;
  tells = λ is. since.tells (subst (λ (t : T). IsSome (devices.table t)) table is);
  disk_later = grind (arith, since.disk_later, rests.later);
  keeper_later = subst (λ (t : T). devices.keeper_faults old.table ≤ devices.keeper_faults t) (sym table) since.keeper_later;
  broken = λ cause is. broken ∙ since.broken cause is;
  disk_broke = λ cause was is says. rose_later _ _ _ (since.disk_broke cause was (sym broken ∙ is) says) rests.later;
  keeper_broke = λ cause was is says. subst (λ (t : T). Rose (devices.keeper_faults old.table) (devices.keeper_faults t)) (sym table) (since.keeper_broke cause was (sym broken ∙ is) says);
  durable = λ told sound is. rests.durable told (since.durable told (sym broken ∙ sound) is);
  others = λ told some state tracks.
      let m = since.others told (subst (λ (t : T). IsSome (devices.table t)) table some) state tracks in
      (m.0, rests.tracks told m.0 m.1, λ n out no. rests.files told n out ∙ m.2 n out no);
}
  where
    table : new.table ≡ mid.table
    table = ap (λ (c : CoreView D T). c.table) rests.same

    broken : new.broken ≡ mid.broken
    broken = ap (λ (c : CoreView D T). c.broken) rests.same

pub rests_since : {D T : Type 0} (devices : Devices D T) (old mid new : CoreView D T) (entries : List Entry) → Rests devices old mid → Since devices mid new entries → Since devices old new entries
rests_since {D} {T} devices old mid new entries rests since = record {
  journal = subst (λ (c : CoreView D T). new.journal ≡ record c.journal { entries = c.journal.entries ++ entries }) rests.same since.journal;
  config = since.config ∙ ap (λ (c : CoreView D T). c.config) rests.same;
  tells = λ is. subst (λ (t : T). IsSome (devices.table t)) table (since.tells is);
  disk_later = grind (arith, since.disk_later, rests.later);
  keeper_later = subst (λ (t : T). devices.keeper_faults t ≤ devices.keeper_faults new.table) table since.keeper_later;
  broken = λ cause is. since.broken cause (broken ∙ is);
  disk_broke = λ cause was is says. rose_before _ _ _ rests.later (since.disk_broke cause (broken ∙ was) is says);
  keeper_broke = λ cause was is says. subst (λ (t : T). Rose (devices.keeper_faults t) (devices.keeper_faults new.table)) table (since.keeper_broke cause (broken ∙ was) is says);
  durable = λ told sound is. since.durable told sound (rests.durable told is);
  others = λ told some state tracks.
      let m = since.others told some state (rests.tracks told state tracks) in
      (m.0, m.1, λ n out no. m.2 n out no ∙ rests.files told n out);
}
  where
    table : mid.table ≡ old.table
    table = ap (λ (c : CoreView D T). c.table) rests.same

    broken : mid.broken ≡ old.broken
    broken = ap (λ (c : CoreView D T). c.broken) rests.same

-- a table that is told behind a give-back was told before it
pub told_before : {D T : Type 0} (devices : Devices D T) (mid new : CoreView D T) → Rests devices mid new → IsSome (devices.table new.table) → IsSome (devices.table mid.table)
told_before {D} {T} devices mid new rests is = subst (λ (t : T). IsSome (devices.table t)) (ap (λ (c : CoreView D T). c.table) rests.same) is

-- the faults of one call

-- what one entry with that reply tells
disk_by_reply : {D T : Type 0} (devices : Devices D T) (old new : CoreView D T) (c : Call) (said : Reply) → devices.disk_faults old.disk ≤ devices.disk_faults new.disk → HasDeviceCause devices old new said
    → RoseBy (disk_faults_in (said_to c said ∷ []) + 0) (devices.disk_faults old.disk) (devices.disk_faults new.disk)
disk_by_reply devices old new c (reply.Refused refusal.DiskFault) later cause = cause.disk refl
disk_by_reply devices old new c said later cause = rose_none _ _ later

keeper_by_reply : {D T : Type 0} (devices : Devices D T) (old new : CoreView D T) (c : Call) (said : Reply) → devices.keeper_faults old.table ≤ devices.keeper_faults new.table → HasDeviceCause devices old new said
    → RoseBy (keeper_faults_in (said_to c said ∷ [])) (devices.keeper_faults old.table) (devices.keeper_faults new.table)
keeper_by_reply devices old new c (reply.Refused refusal.KeeperFault) later cause = cause.keeper refl
keeper_by_reply devices old new c said later cause = rose_none _ _ later

pub disk_of_call : {D T : Type 0} (devices : Devices D T) (old new : CoreView D T) (room number : ℕ) (c : Call) (said : Reply) (entries : List Entry) → IsEntryOf room number c said entries
    → devices.disk_faults old.disk ≤ devices.disk_faults new.disk → HasDeviceCause devices old new said
    → RoseBy (disk_faults_in entries + 0) (devices.disk_faults old.disk) (devices.disk_faults new.disk)
disk_of_call devices old new room number c said entries (inl (fits, is)) later cause =
    subst (λ (l : List Entry). RoseBy (disk_faults_in l + 0) (devices.disk_faults old.disk) (devices.disk_faults new.disk)) (sym is) (disk_by_reply devices old new c said later cause)
disk_of_call devices old new room number c said entries (inr (at_end, is, says)) later cause =
    subst (λ (l : List Entry). RoseBy (disk_faults_in l + 0) (devices.disk_faults old.disk) (devices.disk_faults new.disk)) (sym is) (rose_none _ _ later)

pub keeper_of_call : {D T : Type 0} (devices : Devices D T) (old new : CoreView D T) (room number : ℕ) (c : Call) (said : Reply) (entries : List Entry) → IsEntryOf room number c said entries
    → devices.keeper_faults old.table ≤ devices.keeper_faults new.table → HasDeviceCause devices old new said
    → RoseBy (keeper_faults_in entries) (devices.keeper_faults old.table) (devices.keeper_faults new.table)
keeper_of_call devices old new room number c said entries (inl (fits, is)) later cause =
    subst (λ (l : List Entry). RoseBy (keeper_faults_in l) (devices.keeper_faults old.table) (devices.keeper_faults new.table)) (sym is) (keeper_by_reply devices old new c said later cause)
keeper_of_call devices old new room number c said entries (inr (at_end, is, says)) later cause =
    subst (λ (l : List Entry). RoseBy (keeper_faults_in l) (devices.keeper_faults old.table) (devices.keeper_faults new.table)) (sym is) (rose_none _ _ later)

-- the turn of one call

-- the last reply of the entries of one call that begins no upload is its answer
pub last_of_call : (room number : ℕ) (c : Call) (said : Reply) (entries : List Entry) → begins (said_to c said) ≡ false → IsEntryOf room number c said entries → last_reply entries ≡ said
last_of_call room number c said entries e (inl (fits, is)) = ap last_reply is ∙ ap (λ (b : Bool). if b then full else said) e
last_of_call room number c said entries e (inr (at_end, is, says)) = ap last_reply is ∙ sym says

-- and then no call comes next
none_next : (moment : Moment) (request : Item) (c : Call) (said : Reply) → begins (said_to c said) ≡ false → next_call sha1 moment request None (said_to c said ∷ []) ≡ None
none_next moment request c said e = rw e refl

-- A reply that changes no contents, and gives none or such as are there.
pub record Gives (said : Reply) (contents : Contents) : Type 0 where
  pub keeps : (content : List ℕ) → with_content said content contents ≡ contents
  pub served : Serves contents said

-- The turn of a request that makes one call, which begins no upload and stores nothing; behind it the disk may take something back.
pub turn_of_one : {D T : Type 0} (devices : Devices D T) (old mid new : CoreView D T) (moment : Moment) (request : Item) (c : Call) (said : Reply)
    → call_of moment request ≡ Some c → begins (said_to c said) ≡ false → (called : Called devices old mid c [] said (λ contents. contents)) → Rests devices mid new
    → (devices.told → IsSome (devices.table mid.table) → (state : State) (contents : Contents) → Stands devices old state contents → Gives said contents)
    → TurnMade devices old new moment (record { request = request; stop = None; entries = called.entries })
turn_of_one {D} {T} devices old mid new moment request c said asks one called rests gives = record {
  since = since_rests devices old mid new called.entries called.since rests;
  stops = tt;
  disk = rose_by_later _ _ _ _ (disk_of_call devices old mid _ _ c said called.entries called.made called.since.disk_later called.cause) rests.later;
  keeper = subst (λ (t : T). RoseBy (keeper_faults_in called.entries) (devices.keeper_faults old.table) (devices.keeper_faults t)) (sym table)
      (keeper_of_call devices old mid _ _ c said called.entries called.made called.since.keeper_later called.cause);
  leads = leads;
}
  where
    table : new.table ≡ mid.table
    table = ap (λ (v : CoreView D T). v.table) rests.same

    leads : devices.told → IsSome (devices.table new.table) → (draws : ℕ → Moment) (state : State) (contents : Contents) → Stands devices old state contents
        → TurnLeads devices old new moment (record { request = request; stop = None; entries = called.entries }) draws state contents
    leads told is draws state contents stands =
        let tells = told_before devices mid new rests is in
        let led = called.leads told tells state contents stands in
        let given = gives told tells state contents stands in
        let last : last_reply called.entries ≡ said = last_of_call _ _ c said called.entries one called.made in
        let same : with_content (last_reply called.entries) (content_of request) contents ≡ contents =
        ap (λ (r : Reply). with_content r (content_of request) contents) last ∙ given.keeps (content_of request) in
        record {
          next = led.0;
          makes = makes_one (setting_of old draws) refl moment request None (length old.journal.entries) state led.0 c said called.entries asks (none_next moment request c said one) called.made led.1;
          served = subst (λ (r : Reply). Serves (with_content (last_reply called.entries) (content_of request) contents) r) (sym last)
              (subst (λ (l : Contents). Serves l said) (sym same) given.served);
          stands = subst (λ (l : Contents). Stands devices new led.0 l) (sym same) (rests.stands told led.0 contents led.2);
        }
