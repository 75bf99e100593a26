-- The turn of an upload that came whole and was put.
use Rattle.std.proofs.Common.{◌≡◌, ℕ, ◌+◌, ◌<◌, ◌≤◌, true, false, List, [], ◌∷◌, ◌++◌, length, Option, Some, None, IsSome, Result, Ok, Err, refl, sym, ap, ◌∙◌, subst, arith, append_assoc, length-append, unwrap_or}
use Rattle.sha1.specs.Sha1.{sha1}
use Rattle.nx_io.specs.Causes.{Rose}
use Rattle.nx_base.specs.declared.key.Key.{Key}
use Rattle.nx_base.specs.declared.moment.Moment.{Moment}
use Rattle.blob_files.specs.declared.upload.Target.{Target}
use Rattle.blob_files.specs.declared.upload.Upload.{Upload}
use Rattle.blob_files.specs.declared.ready.Ready.{Ready}
use Rattle.blob_files.specs.Uploads.{HasTaken, IsReady}
use Rattle.repo_model.specs.declared.call.Call.{Call}
use Rattle.repo_model.specs.declared.call.Call.TheVariants as call
use Rattle.repo_model.specs.declared.entry.Entry.{Entry}
use Rattle.repo_model.specs.declared.reply.Cause.{Cause}
use Rattle.repo_model.specs.declared.reply.Refusal.{Refusal}
use Rattle.repo_model.specs.declared.reply.Reply.{Reply}
use Rattle.repo_model.specs.declared.reply.Reply.TheVariants as reply
use Rattle.repo_model.specs.declared.call.Begin.{Begin}
use Rattle.repo_model.specs.declared.plain.config.PlainConfig.{PlainConfig}
use Rattle.repo_model.specs.Config.{Config}
use Rattle.repo_model.specs.History.{is_begin}
use Rattle.repo_model.specs.Journal.{JournalView}
use Rattle.repo_model.specs.Plain.{config_of}
use Rattle.repo_model.specs.State.{State}
use Rattle.http_heads.specs.declared.head.Head.{Head}
use Rattle.http_heads.specs.Head.{is_put}
use Rattle.http_requests.specs.Requests.{whole}
use Rattle.http_front.specs.Answers.{last_reply}
use Rattle.http_front.specs.Calls.{put_call}
use Rattle.http_front.specs.Contents.{Contents, with_content}
use Rattle.http_front.specs.Served.{Serves}
use Rattle.session_history.specs.Asking.{begin_of}
use Rattle.repo_core.specs.Puts.{MayGo, AreBytes, upload_of}
use Rattle.repo_core.specs.Puts.{put_for as core_put}
use Rattle.repo_core.specs.View.{CoreView}
use Rattle.repo_core.specs.Devices.{Devices}
use Rattle.repo_session.specs.Standing.{Stands}
use Rattle.repo_session.specs.Leads.{IsEntryOf, LeadsBy}
use Rattle.repo_session.specs.Called.{Since, Called}
use Rattle.repo_session.specs.Resting.{Rests}
use Rattle.repo_session.specs.Answering.{HasBegun, IsBegun}
use Rattle.repo_session.specs.Turned.{setting_of, TurnMade, TurnLeads}
use Rattle.repo_session.specs.Putting.{IsPut, IsPutReply}
use Rattle.repo_session.proofs.Makings.{makes_two}
use Rattle.repo_session.proofs.Sayings.{last_of_two}
use Rattle.repo_session.proofs.TurnsMade.{rose_later, rose_before, since_rests, told_before, disk_of_call, keeper_of_call}
use Rattle.repo_session.proofs.Uploads.{begin_entry, begun_entries, asks_begin}

-- what broke a core in the first leg or in the second
broke_in : (before mid now : ℕ) (broken broken' : Option Cause) (cause : Cause) → before ≤ mid → mid ≤ now
    → (broken ≡ Some cause → Rose before mid) → (broken ≡ None → Rose mid now) → ((c : Cause) → broken ≡ Some c → broken' ≡ Some c) → broken' ≡ Some cause → Rose before now
broke_in before mid now None broken' cause later more first second stays is = rose_before before mid now later (second refl)
broke_in before mid now (Some c) broken' cause later more first second stays is =
    rose_later before mid now (first (sym (stays c refl) ∙ is)) more

-- a core that isn't broken wasn't
unbroken : (before now : Option Cause) → ((cause : Cause) → before ≡ Some cause → now ≡ Some cause) → now ≡ None → before ≡ None
unbroken None now stays none = refl
unbroken (Some cause) now stays none = let both : Some cause ≡ None = sym (stays cause refl) ∙ none in cc

-- One behind another.
pub since_both : {D T : Type 0} (devices : Devices D T) (old mid new : CoreView D T) (first second : List Entry) → Since devices old mid first → Since devices mid new second → Since devices old new (first ++ second)
since_both {D} {T} devices old mid new first second one two = record {
  journal = two.journal ∙ ap (λ (j : JournalView). record j { entries = j.entries ++ second }) one.journal
      ∙ ap (λ (l : List Entry). record old.journal { entries = l }) (append_assoc old.journal.entries first second);
  config = two.config ∙ one.config;
  tells = λ is. one.tells (two.tells is);
  disk_later = grind (arith, one.disk_later, two.disk_later);
  keeper_later = grind (arith, one.keeper_later, two.keeper_later);
  broken = λ cause is. two.broken cause (one.broken cause is);
  disk_broke = λ cause was is says. broke_in _ _ _ mid.broken new.broken cause one.disk_later two.disk_later
      (λ broke. one.disk_broke cause was broke says) (λ none. two.disk_broke cause none is says) two.broken is;
  keeper_broke = λ cause was is says. broke_in _ _ _ mid.broken new.broken cause one.keeper_later two.keeper_later
      (λ broke. one.keeper_broke cause was broke says) (λ none. two.keeper_broke cause none is says) two.broken is;
  durable = λ told sound is. two.durable told sound (one.durable told (unbroken mid.broken new.broken two.broken sound) is);
  others = λ told some state tracks.
      let m = one.others told (two.tells some) state tracks in
      let k = two.others told some m.0 m.1 in
      (k.0, k.1, λ n out no. k.2 n out no ∙ m.2 n out no);
}

-- what is stored or refused gives nothing out
serves_put : (result : Result (Unit {0}) Refusal) (said : Reply) (contents : Contents) → IsPutReply result said → Serves contents said
serves_put (Ok x) said contents (asset, is) = subst (λ (r : Reply). Serves contents r) (sym is) tt
serves_put (Err why) said contents is = subst (λ (r : Reply). Serves contents r) (sym is) tt

-- The calls of an upload that came whole: it was begun, its writer was given back, and it was put. Told, the put is that of the content.
pub record PutCalled {D T : Type 0} (devices : Devices D T) (start mid rest new : CoreView D T) (moment : Moment) (head : Head) (content store : List ℕ) (c : Call) (said : Reply) : Type 0 where
  pub begun : HasBegun devices start mid head store
  pub rests : Rests devices mid rest
  pub called : Called devices rest new c store said (λ contents. with_content said content contents)
  pub plain : is_begin c ≡ false
  pub is : devices.told → c ≡ put_call sha1 moment head content

put_turn : {D T : Type 0} (devices : Devices D T) (start mid rest new : CoreView D T) (moment : Moment) (head : Head) (content store : List ℕ) (c : Call) (said : Reply)
    → is_put head.method ≡ true → ((contents : Contents) → Serves contents said) → (p : PutCalled devices start mid rest new moment head content store c said)
    → TurnMade devices start new moment (record { request = whole head content; stop = None; entries = begin_entry head store ∷ p.called.entries })
put_turn {D} {T} devices start mid rest new moment head content store c said put serves p = record {
  since = since_both devices start rest new (begin_entry head store ∷ []) p.called.entries since p.called.since;
  stops = tt;
  disk = grind (arith, since.disk_later, disk_of_call devices rest new _ _ c said p.called.entries p.called.made p.called.since.disk_later p.called.cause);
  keeper = grind (arith, since.keeper_later, keeper_of_call devices rest new _ _ c said p.called.entries p.called.made p.called.since.keeper_later p.called.cause);
  leads = leads;
}
  where
    entry : (length start.journal.entries < start.journal.room) × (p.begun.entries ≡ begin_entry head store ∷ [])
    entry = begun_entries _ _ head store p.begun.entries p.begun.made

    begun : Since devices start mid (begin_entry head store ∷ [])
    begun = subst (λ (l : List Entry). Since devices start mid l) entry.1 p.begun.since

    since : Since devices start rest (begin_entry head store ∷ [])
    since = since_rests devices start mid rest (begin_entry head store ∷ []) begun p.rests

    room : rest.journal.room ≡ start.journal.room
    room = ap (λ (j : JournalView). j.room) since.journal

    number : length rest.journal.entries ≡ length start.journal.entries + 1
    number = ap (λ (j : JournalView). length j.entries) since.journal ∙ length-append start.journal.entries (begin_entry head store ∷ [])

    config : config_of rest.config ≡ config_of start.config
    config = ap config_of since.config

    last : last_reply (begin_entry head store ∷ p.called.entries) ≡ said
    last = last_of_two _ _ (begin_of head) store c said p.called.entries p.plain p.called.made

    leads : devices.told → IsSome (devices.table new.table) → (draws : ℕ → Moment) (state : State) (contents : Contents) → Stands devices start state contents
        → TurnLeads devices start new moment (record { request = whole head content; stop = None; entries = begin_entry head store ∷ p.called.entries }) draws state contents
    leads told is draws state contents stands =
        let begins = p.begun.leads told (told_before devices mid rest p.rests (p.called.since.tells is)) state contents stands in
        let led = p.called.leads told is begins.0 contents (p.rests.stands told begins.0 contents begins.2) in
        let follows = subst (λ (l : List Entry). LeadsBy (config_of start.config) (length start.journal.entries) state [] l begins.0) entry.1 begins.1 in
        let made = subst (λ (n : ℕ). IsEntryOf start.journal.room n c said p.called.entries) number
        (subst (λ (r : ℕ). IsEntryOf r (length rest.journal.entries) c said p.called.entries) room p.called.made) in
        let by = subst (λ (n : ℕ). LeadsBy (config_of start.config) n begins.0 store p.called.entries led.0) number
        (subst (λ (g : Config). LeadsBy g (length rest.journal.entries) begins.0 store p.called.entries led.0) config led.1) in
        let after : with_content (last_reply (begin_entry head store ∷ p.called.entries)) content contents ≡ with_content said content contents =
        ap (λ (r : Reply). with_content r content contents) last in
        record {
          next = led.0;
          makes = makes_two (setting_of start draws) refl moment (whole head content) None (length start.journal.entries) state begins.0 led.0
              (call.Begin (begin_of head)) c (reply.Begun store) said p.called.entries
              (asks_begin moment head (whole head content) refl put) (ap Some (sym (p.is told))) entry.0 follows.0 made by;
          served = subst (λ (r : Reply). Serves (with_content (last_reply (begin_entry head store ∷ p.called.entries)) content contents) r) (sym last) (serves _);
          stands = subst (λ (l : Contents). Stands devices new led.0 l) (sym after) led.2;
        }

-- An upload that came whole was put, or that was refused.
pub upload_put : {D T : Type 0} (devices : Devices D T) (start mid rest new : CoreView D T) (moment : Moment) (head : Head) (content store : List ℕ) (c : Call) (said : Reply) (result : Result (Unit {0}) Refusal)
    → is_put head.method ≡ true → IsPutReply result said → PutCalled devices start mid rest new moment head content store c said
    → IsPut devices start new moment head content result
upload_put devices start mid rest new moment head content store c said result put answers p = record {
  entries = begin_entry head store ∷ p.called.entries;
  made = put_turn devices start mid rest new moment head content store c said put (λ contents. serves_put result said contents answers) p;
  begun = refl;
  said = subst (λ (r : Reply). IsPutReply result r) (sym (last_of_two _ _ (begin_of head) store c said p.called.entries p.plain p.called.made)) answers;
}

-- what an upload that was sealed is for
same_target : (a b : Target) → Some a ≡ Some b → a ≡ b
same_target a b e = ap (λ (o : Option Target). unwrap_or o a) e

-- An upload was sealed, its writer was given back, and the ready content was put.
pub sealed_put : {D T W S : Type 0} (devices : Devices D T) (told : Type 0) (written : W → List ℕ) (bytes_in : S → List ℕ) (start core rest new : CoreView D T) (moment : Moment) (head : Head) (content : List ℕ)
    (upload : Upload W) (ready : Ready S) (said : Reply) (result : Result (Unit {0}) Refusal)
    → is_put head.method ≡ true → IsBegun devices told written start core head upload content
    → upload.target ≡ Some (record { begin = ready.begin; store = ready.store })
    → ((bytes : List ℕ) → HasTaken told written upload bytes → IsReady told bytes_in ready bytes) → (devices.told → told)
    → Rests devices core rest
    → (MayGo (config_of rest.config) ready.begin.key ready.store → (bytes : List ℕ) → (devices.told → AreBytes (upload_of ready) bytes × (bytes_in ready.file ≡ bytes))
    → Called devices rest new (core_put (upload_of ready) moment) ready.store said (λ contents. with_content said bytes contents))
    → IsPutReply result said
    → IsPut devices start new moment head content result
sealed_put {D} {T} {W} {S} devices told written bytes_in start core rest new moment head content upload ready said result put begun target is_ready tells rests calls answers =
    upload_put devices start core rest new moment head content ready.store (core_put (upload_of ready) moment) said result put answers (record {
      begun = subst (λ (l : List ℕ). HasBegun devices start core head l) store begun.begun;
      rests = rests;
      called = calls goes content (λ is. (record { sized = sym (made is).sized; digested = sym (made is).digested }, (made is).content_is (tells is)));
      plain = refl;
      is = λ is.
          ap (λ (b : Begin). call.Put b.key b.content_type ready.size ready.sha1 moment) begin
          ∙ ap (λ (n : ℕ). call.Put head.key head.content_type n ready.sha1 moment) (made is).sized
          ∙ ap (λ (l : List ℕ). call.Put head.key head.content_type (length content) l moment) (made is).digested;
    })
  where
    asked : Target
    asked = record { begin = begin_of head; store = begun.store }

    got : Target
    got = record { begin = ready.begin; store = ready.store }

    same : asked ≡ got
    same = same_target asked got (sym begun.target ∙ target)

    begin : ready.begin ≡ begin_of head
    begin = ap (λ (t : Target). t.begin) (sym same)

    store : begun.store ≡ ready.store
    store = ap (λ (t : Target). t.store) same

    made : devices.told → IsReady told bytes_in ready content
    made is = is_ready content (begun.taken is)

    goes : MayGo (config_of rest.config) ready.begin.key ready.store
    goes = subst (λ (g : PlainConfig). MayGo (config_of g) ready.begin.key ready.store) (sym (ap (λ (v : CoreView D T). v.config) rests.same))
        (subst (λ (k : Key). MayGo (config_of core.config) k ready.store) (ap (λ (b : Begin). b.key) (sym begin))
        (subst (λ (l : List ℕ). MayGo (config_of core.config) head.key l) store begun.goes))
