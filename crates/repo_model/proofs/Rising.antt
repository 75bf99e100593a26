-- Along a legal history timestamps rise, and no entry says that the journal is full.
use Rattle.std.proofs.Common.{◌≡◌, ◌≢◌, ℕ, ◌+◌, ◌<◌, ◌≤◌, List, [], ◌∷◌, Option, refl, sym, ap, subst, ◌∙◌, inl, inr, arith}
use Rattle.std.specs.Prelude.{IfSome}
use Rattle.nx_base.specs.declared.asset.Asset.{Asset}
use Rattle.repo_model.specs.declared.entry.Entry.{Entry}
use Rattle.repo_model.specs.declared.reply.Fault.{Fault}
use Rattle.repo_model.specs.declared.reply.Fault.TheVariants as fault
use Rattle.repo_model.specs.declared.reply.Refusal.TheVariants as refusal
use Rattle.repo_model.specs.declared.reply.Reply.{Reply}
use Rattle.repo_model.specs.declared.reply.Reply.TheVariants as reply
use Rattle.repo_model.specs.Config.{Config}
use Rattle.repo_model.specs.State.{State}
use Rattle.repo_model.specs.Outcome.{Outcome}
use Rattle.repo_model.specs.Step.{Step}
use Rattle.repo_model.specs.History.{refusal_of, Fails, IsDamaged, Follows, LegalFrom}
use Rattle.repo_model.specs.Laws.{IsLawful, timestamps_of, with_timestamp, IsRising, NoneFull}
use Rattle.repo_model.proofs.Lawful.{outcome_lawful}

-- what an entry does to the last timestamp
record Follows-facts (state : State) (said : Reply) (new : State) : Type 0 where
  rising : state.last ≤ new.last
  newest : (asset : Asset) → said ≡ reply.Stored asset → (state.last < asset.blob.timestamp) × (new.last ≡ asset.blob.timestamp)
  never_full : said ≢ reply.Refused refusal.JournalFull

of_step : (config : Config) (state : State) (e : Entry) (new : State) → Step config state e.call e.reply new → Follows-facts state e.reply new
of_step config state e new step =
    let lawful : IsLawful state (record { reply = e.reply; new = new }) =
    subst (λ (o : Option Outcome). IfSome o (IsLawful state)) step.1 (outcome_lawful config state step.0 e.call) in
    record { rising = lawful.rising; newest = lawful.newest; never_full = lawful.never_full }

fault_stores : (what : Fault) (asset : Asset) → refusal_of what ≢ reply.Stored asset
fault_stores fault.Disk asset e = cc
fault_stores fault.Keeper asset e = cc
fault_stores fault.Memory asset e = cc

fault_full : (what : Fault) → refusal_of what ≢ reply.Refused refusal.JournalFull
fault_full fault.Disk e = cc
fault_full fault.Keeper e = cc
fault_full fault.Memory e = cc

same_last : (number : ℕ) (state : State) (e : Entry) (new : State) → Fails number state e.call e.reply new → new.last ≡ state.last
same_last number state e new fails = elim fails.leaves [ inl same ↦ ap (λ (s : State). s.last) same | inr broke ↦ ap (λ (s : State). s.last) broke.1 ]

of_fault : (number : ℕ) (state : State) (e : Entry) (new : State) → Fails number state e.call e.reply new → Follows-facts state e.reply new
of_fault number state e new fails =
    let last = same_last number state e new fails in
    record {
      rising = omega (arith, last);
      newest = λ asset stored. absurd (fault_stores fails.what asset (sym fails.says ∙ stored));
      never_full = λ full. fault_full fails.what (sym fails.says ∙ full);
    }

of_damage : (state : State) (e : Entry) (new : State) → IsDamaged state e.call e.reply new → Follows-facts state e.reply new
of_damage state e new damage =
    let last : new.last ≡ state.last = ap (λ (s : State). s.last) damage.leaves in
    let says = damage.says in
    record {
      rising = omega (arith, last);
      newest = λ asset stored. cc (sym says ∙ stored);
      never_full = λ full. cc (sym says ∙ full);
    }

of_entry : (config : Config) (number : ℕ) (state : State) (e : Entry) (new : State) → Follows config number state e new → Follows-facts state e.reply new
of_entry config number state e new follows =
    elim follows [
      | inl step ↦ of_step config state e new step
      | inr other ↦ elim other [ inl fails ↦ of_fault number state e new fails | inr damage ↦ of_damage state e new damage ]
    ]

lower : (k m : ℕ) (timestamps : List ℕ) → k ≤ m → IsRising m timestamps → IsRising k timestamps
lower k m [] le rising = tt
lower k m (s ∷ timestamps) le rising = (omega (arith, le, rising.0), rising.1)

one_more : (state new : State) (said : Reply) (timestamps : List ℕ) → Follows-facts state said new → IsRising new.last timestamps → IsRising state.last (with_timestamp said timestamps)
one_more state new (reply.Begun store) timestamps facts rising = lower state.last new.last timestamps facts.rising rising
one_more state new (reply.Stored asset) timestamps facts rising =
    let newest = facts.newest asset refl in (newest.0, subst (λ last. IsRising last timestamps) newest.1 rising)
one_more state new (reply.Found asset) timestamps facts rising = lower state.last new.last timestamps facts.rising rising
one_more state new reply.Gone timestamps facts rising = lower state.last new.last timestamps facts.rising rising
one_more state new reply.Removed timestamps facts rising = lower state.last new.last timestamps facts.rising rising
one_more state new (reply.Reconciled kept) timestamps facts rising = lower state.last new.last timestamps facts.rising rising
one_more state new (reply.Refused why) timestamps facts rising = lower state.last new.last timestamps facts.rising rising

pub timestamps_rise : (config : Config) (number : ℕ) (state : State) (es : List Entry) (new : State) → LegalFrom config number state es new → IsRising state.last (timestamps_of es)
timestamps_rise config number state [] new legal = tt
timestamps_rise config number state (e ∷ es) new legal =
    one_more state legal.0 e.reply (timestamps_of es) (of_entry config number state e legal.0 legal.1) (timestamps_rise config (number + 1) legal.0 es new legal.2)

pub none_full : (config : Config) (number : ℕ) (state : State) (es : List Entry) (new : State) → LegalFrom config number state es new → NoneFull es
none_full config number state [] new legal = tt
none_full config number state (e ∷ es) new legal =
    ((of_entry config number state e legal.0 legal.1).never_full, none_full config (number + 1) legal.0 es new legal.2)
