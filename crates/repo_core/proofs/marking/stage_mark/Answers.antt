use Rattle.std.proofs.Common.{Err, Some, sym, ◌∙◌, ap}
use Rattle.std.specs.Option.{option_map}
use Rattle.blob_properties.specs.declared.props_read.PropsRead.{PropsRead}
use Rattle.blob_properties.specs.Readable.{read_as}
use Rattle.blob_properties.proofs.Lengths.{readable-room}
use Rattle.disk_model.proofs.Chain.{same_then_same}
use Rattle.repo_core.proofs.Looks.{says_at, never_full}
use Rattle.repo_core.proofs.Runs.{looked}
use Rattle.repo_core.proofs.marking.stage_mark.Goals as goal

pub returns-in-Ok-stage_mark-clause-stages : goal.returns-in-Ok-stage_mark-clause-stages
returns-in-Ok-stage_mark-clause-stages g c = λ told.
    let said = sym (ap (λ (x : PropsRead). Some (read_as x)) c.in-Ok-Some-Good.field-0-0-is) ∙ ap (option_map read_as) (sym c.in-Ok-Some-Good.field-0-is) ∙ c.in-Ok-Some-Good.ensures.props told in
    let w = says_at (g.D.Disk.tree c.args.disk.now) c.args.blob.now c.in-Ok.files.place c.in-Ok-Some-Good.props c.in-Ok.ensures said in
    let room = readable-room w.0 c.in-Ok-Some-Good.props w.2 in
    record {
      text = w.0;
      props = c.in-Ok-Some-Good.props;
      was = w.1;
      read = w.2;
      place_is = c.in-Ok.ensures;
      content_is = c.in-Ok-stage_mark.ensures.content told;
      says = c.in-Ok-stage_mark.ensures.readable room c.requires.short;
    }

pub returns-in-Ok-stage_mark-clause-any_moment : goal.returns-in-Ok-stage_mark-clause-any_moment
returns-in-Ok-stage_mark-clause-any_moment g c = λ told.
    let clock = g.D.Disk.clock in
    let lists = g.D.Disk.lists in
    same_then_same clock lists c.args.disk.now c.read_props.new.disk c.stage_mark.new.disk
    (looked clock lists c.args.disk.now c.read_props.new.disk (c.read_props.ensures.time told) (c.read_props.ensures.crash told)) (c.stage_mark.ensures.any_moment told)

pub returns-in-Err-Full-clause-stages : goal.returns-in-Err-Full-clause-stages
returns-in-Err-Full-clause-stages g c = λ told text props is says.
    let said = sym (ap (λ (x : PropsRead). Some (read_as x)) c.in-Ok-Some-Good.field-0-0-is) ∙ ap (option_map read_as) (sym c.in-Ok-Some-Good.field-0-is) ∙ c.in-Ok-Some-Good.ensures.props told in
    absurd (never_full (g.D.Disk.tree c.args.disk.now) c.args.blob.now c.in-Ok.files.place c.in-Ok-Some-Good.props c.in-Ok.ensures said (c.in-Err-Full.ensures.full.0 (ap Err c.in-Err-Full.field-0-is)))

pub returns-in-Err-Full-clause-any_moment : goal.returns-in-Err-Full-clause-any_moment
returns-in-Err-Full-clause-any_moment g c = λ told.
    let clock = g.D.Disk.clock in
    let lists = g.D.Disk.lists in
    same_then_same clock lists c.args.disk.now c.read_props.new.disk c.stage_mark.new.disk
    (looked clock lists c.args.disk.now c.read_props.new.disk (c.read_props.ensures.time told) (c.read_props.ensures.crash told)) (c.stage_mark.ensures.any_moment told)

pub returns-in-Err-NoMemory-clause-any_moment : goal.returns-in-Err-NoMemory-clause-any_moment
returns-in-Err-NoMemory-clause-any_moment g c = λ told.
    let clock = g.D.Disk.clock in
    let lists = g.D.Disk.lists in
    same_then_same clock lists c.args.disk.now c.read_props.new.disk c.stage_mark.new.disk
    (looked clock lists c.args.disk.now c.read_props.new.disk (c.read_props.ensures.time told) (c.read_props.ensures.crash told)) (c.stage_mark.ensures.any_moment told)

pub returns-clause-any_moment : goal.returns-clause-any_moment
returns-clause-any_moment g c = λ told.
    let clock = g.D.Disk.clock in
    let lists = g.D.Disk.lists in
    same_then_same clock lists c.args.disk.now c.read_props.new.disk c.stage_mark.new.disk
    (looked clock lists c.args.disk.now c.read_props.new.disk (c.read_props.ensures.time told) (c.read_props.ensures.crash told)) (c.stage_mark.ensures.any_moment told)
