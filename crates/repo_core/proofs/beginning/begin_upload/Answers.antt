use Rattle.std.proofs.Common.{rules, ◌≡◌, ⊎_elim, ℕ, ◌+◌, ◌%◌, ◌^◌, List, [], Option, unwrap_or, refl, sym, ◌∙◌, ap, subst}
use Rattle.std.specs.FinMap as map
use Rattle.std.specs.Option.{option_map}
use Rattle.nx_base.specs.Order.{name_cmp}
use Rattle.repo_model.specs.declared.call.Call.TheVariants as call
use Rattle.repo_model.specs.declared.reply.Fault.TheVariants as fault
use Rattle.repo_model.specs.declared.reply.Fault.{Fault}
use Rattle.repo_model.specs.declared.reply.Reply.TheVariants as reply
use Rattle.repo_model.specs.Config.{write_store}
use Rattle.repo_model.specs.Outcome.{answered}
use Rattle.repo_model.specs.Writing.{counted}
use Rattle.repo_model.specs.Plain.{config_of}
use Rattle.repo_core.specs.declared.denial.Denial.{Denial}
use Rattle.repo_core.specs.declared.denial.Denial.TheVariants as denial
use Rattle.repo_core.specs.Ends.{Denies}
use Rattle.repo_core.specs.Faults.{of_disk, of_keeper}
use Rattle.repo_core.specs.Rows.{rows_in}
use Rattle.repo_core.specs.declared.own.Own.{Own}
use Rattle.blob_files.specs.declared.upload.Target.{Target}
use Rattle.repo_model.specs.declared.reply.Reply.{Reply}
use Rattle.repo_core.specs.Begun.{begun_in}
use Rattle.repo_core.proofs.Steps.{fault_denies}
use Rattle.repo_core.proofs.Tables.{rows_same}
use Rattle.repo_core.proofs.Runs.{nothing_ran, still_same}
use Rattle.repo_core.proofs.Samenesses.{files_same, files_counted}
use Rattle.repo_core.proofs.Givings.{agrees_same}
use Rattle.repo_core.proofs.BeginSteps.{kept_row, begins}
use Rattle.repo_core.specs.Faults.{refusal_of_fault}
use Rattle.repo_core.specs.Why.{WhyNotBegun}
use Rattle.repo_core.proofs.Whys.{barred_begin, failed_begin}
use Rattle.repo_core.proofs.beginning.begin_upload.Goals as goal

pub returns-in-Err-clause-ends : goal.returns-in-Err-clause-ends
returns-in-Err-clause-ends g c = λ told some s a. (c.in-Err.ensures.row s a.sound a.counts_are, a)

pub returns-in-Err-may_replace-clause-ends : goal.returns-in-Err-may_replace-clause-ends
returns-in-Err-may_replace-clause-ends g c = λ told some s a.
    let config = config_of c.args.config.now in
    let tree = g.D.Disk.tree c.args.disk.now in
    let before = g.T.Keeper.table c.args.table.now in
    let after = g.T.Keeper.table c.may_replace.new.table in
    let asked = call.Begin c.args.begin.now in
    let chosen = c.in-Ok.ensures.row s a.sound a.counts_are in (
      ⊎_elim
          (λ failed. subst (λ (w : Denial). Denies config s asked w) (sym failed.1) (fault_denies config s asked (of_keeper failed.0) a.sound))
          (λ kept. subst (λ (w : Denial). Denies config s asked w) (sym kept.0) (kept_row config s c.args.begin.now a.sound c.requires c.in-Ok.chosen chosen kept.1))
          (c.in-Err-may_replace.ensures.row some s a.rows_are),
      agrees_same config tree tree (rows_in before) (rows_in after) c.args.own.now c.args.own.now s (λ n out. refl) (rows_same before after some c.may_replace.ensures.same) refl a,
    )

pub returns-in-Err-temp-clause-ends : goal.returns-in-Err-temp-clause-ends
returns-in-Err-temp-clause-ends g c = λ told some s a.
    let config = config_of c.args.config.now in
    let tree = g.D.Disk.tree in
    let before = g.T.Keeper.table c.args.table.now in
    let after = g.T.Keeper.table c.may_replace.new.table in
    let asked = call.Begin c.args.begin.now in (
      subst (λ (w : Fault). Denies config s asked (denial.Failed w)) (sym c.disk_fault.ensures) (fault_denies config s asked (of_disk c.in-Err-temp.refusal) a.sound),
      agrees_same config (tree c.args.disk.now) (tree c.temp.new.self) (rows_in before) (rows_in after) c.args.own.now c.args.own.now s (c.temp.ensures.tree told) (rows_same before after some c.may_replace.ensures.same) refl a,
    )

pub returns-then-is_err-clause-ends : goal.returns-then-is_err-clause-ends
returns-then-is_err-clause-ends g c = λ told some s a.
    let config = config_of c.args.config.now in
    let tree = g.D.Disk.tree in
    let before = g.T.Keeper.table c.args.table.now in
    let after = g.T.Keeper.table c.may_replace.new.table in
    let own : c.count_upload.new.own ≡ c.args.own.now = search rules in (
      fault_denies config s (call.Begin c.args.begin.now) fault.Memory a.sound,
      agrees_same config (tree c.args.disk.now) (tree c.give_up.new.self) (rows_in before) (rows_in after) c.args.own.now c.count_upload.new.own s
          (λ n out. c.give_up.ensures.tree told n out ∙ c.temp.ensures.tree told n out) (rows_same before after some c.may_replace.ensures.same) own a,
    )

pub returns-then-is_err-clause-any_moment : goal.returns-then-is_err-clause-any_moment
returns-then-is_err-clause-any_moment g c = λ told.
    let clock = g.D.Disk.clock in
    let lists = g.D.Disk.lists in
    let d0 = c.args.disk.now in
    let d1 = c.temp.new.self in
    still_same clock lists d0 d1 c.give_up.new.self
    (still_same clock lists d0 d0 d1 (nothing_ran clock lists d0) (c.temp.ensures.time told) (c.temp.ensures.crash told)) (c.give_up.ensures.time told) (c.give_up.ensures.crash told)

pub returns-clause-any_moment : goal.returns-clause-any_moment
returns-clause-any_moment g c = λ told.
    let clock = g.D.Disk.clock in
    let lists = g.D.Disk.lists in
    still_same clock lists c.args.disk.now c.args.disk.now c.temp.new.self (nothing_ran clock lists c.args.disk.now) (c.temp.ensures.time told) (c.temp.ensures.crash told)

pub returns-clause-ends : goal.returns-clause-ends
returns-clause-ends g c = λ told some s a.
    let config = config_of c.args.config.now in
    let tree = g.D.Disk.tree in
    let before = g.T.Keeper.table c.args.table.now in
    let after = g.T.Keeper.table c.may_replace.new.table in
    let own = c.args.own.now in
    let chosen = c.in-Ok.chosen in
    let is = c.in-Ok.ensures.row s a.sound a.counts_are in
    let opened = c.in_default.ensures.row some s a.rows_are in
    let store = write_store is.repo in
    let own_is : c.count_upload.new.own ≡ record own { counts = map.insert own.counts chosen.group ((chosen.count + 1) % 2 ^ 64) } = search rules in
    let said : reply.Begun chosen.store ≡ begun_in c.new.result = ap (λ (o : Option Target). reply.Begun (unwrap_or (option_map (λ (t : Target). t.store) o) [])) (sym c.new.ensures.target) in
    let counts : own.counts ≡ s.counts = a.counts_are in (
      counted s store,
      ([], begins config s c.args.begin.now a.sound c.requires chosen is opened ∙ ap (λ (r : Reply). answered (counted s store) r) said),
      record {
        sound = a.sound;
        files = files_counted config (tree c.temp.new.self) s (counted s store).counts (files_same config (tree c.args.disk.now) (tree c.temp.new.self) s (c.temp.ensures.tree told) a.files);
        rows_are = rows_same before after some c.may_replace.ensures.same ∙ a.rows_are;
        trash_are = ap (λ (o : Own). o.trash) own_is ∙ a.trash_are;
        notes_are = ap (λ (o : Own). o.notes) own_is ∙ a.notes_are;
        last_are = ap (λ (o : Own). o.last) own_is ∙ a.last_are;
        counts_are = ap (λ (o : Own). o.counts) own_is
            ∙ ap (λ (m : map.FinMap name_cmp ℕ). map.insert m chosen.group ((chosen.count + 1) % 2 ^ 64)) counts
            ∙ ap (λ (n : List ℕ). map.insert s.counts n ((chosen.count + 1) % 2 ^ 64)) is.group_is
            ∙ ap (λ (n : ℕ). map.insert s.counts store ((n + 1) % 2 ^ 64)) is.count_is;
      },
    )

pub returns-in-Err-clause-why : goal.returns-in-Err-clause-why
returns-in-Err-clause-why g c = c.in-Err.ensures.why (g.T.Keeper.found c.args.table.now)

pub returns-in-Err-may_replace-clause-why : goal.returns-in-Err-may_replace-clause-why
returns-in-Err-may_replace-clause-why g c =
    let opens = c.in-Ok.ensures.opens in
    let denied = c.in-Err-may_replace.ensures.denied in
    barred_begin (config_of c.args.config.now) c.args.own.now.counts c.args.begin.now.key (g.T.Keeper.found c.may_replace.new.table) opens.0 opens.1 c.in-Err-may_replace.why (opens.2 ∙ denied.0) denied.1

pub returns-in-Err-temp-clause-why : goal.returns-in-Err-temp-clause-why
returns-in-Err-temp-clause-why g c =
    let opens = c.in-Ok.ensures.opens in
    let config = config_of c.args.config.now in
    let counts = c.args.own.now.counts in
    let key = c.args.begin.now.key in
    let found = g.T.Keeper.found c.may_replace.new.table in
    subst (λ (w : Fault). WhyNotBegun config counts key found (refusal_of_fault w)) (sym c.disk_fault.ensures)
    (failed_begin config counts key found opens.0 opens.1 (λ keeps. c.in_default.ensures.free (sym opens.2 ∙ keeps)) c.in-Err-temp.refusal)

pub returns-clause-counted : goal.returns-clause-counted
returns-clause-counted g c =
    let own = c.args.own.now in
    let chosen = c.in-Ok.chosen in
    let group = c.in-Ok.ensures.group in
    let own_is : c.count_upload.new.own ≡ record own { counts = map.insert own.counts chosen.group ((chosen.count + 1) % 2 ^ 64) } = search rules in (
      group.0,
      group.1,
      own_is
          ∙ ap (λ (n : List ℕ). record own { counts = map.insert own.counts n ((chosen.count + 1) % 2 ^ 64) }) group.2
          ∙ ap (λ (n : ℕ). record own { counts = map.insert own.counts (write_store group.0) ((n + 1) % 2 ^ 64) }) group.3,
    )

pub returns-in_default-copy_begin-clause-ends : goal.returns-in_default-copy_begin-clause-ends
returns-in_default-copy_begin-clause-ends g c = λ told some s a.
    let config = config_of c.args.config.now in
    let tree = g.D.Disk.tree c.args.disk.now in
    let before = g.T.Keeper.table c.args.table.now in
    let after = g.T.Keeper.table c.may_replace.new.table in (
      fault_denies config s (call.Begin c.args.begin.now) fault.Memory a.sound,
      agrees_same config tree tree (rows_in before) (rows_in after) c.args.own.now c.args.own.now s (λ n out. refl) (rows_same before after some c.may_replace.ensures.same) refl a,
    )
