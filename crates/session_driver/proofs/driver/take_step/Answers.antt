use Rattle.http_session.proofs.Needs.{needs_bytes}
use Rattle.session_driver.proofs.Asks.{asked, refuses}
use Rattle.session_driver.proofs.Distances.{no_farther}
use Rattle.session_driver.proofs.Dones.{done, done_cause}
use Rattle.session_driver.proofs.Places.{stands_on}
use Rattle.session_driver.proofs.Steps.{step_fed, called, taken, part_inside, took_of, nearer_than}
use Rattle.session_driver.proofs.driver.take_step.Goals as goal

pub returns-in-Ask-clause-goes : goal.returns-in-Ask-clause-goes
returns-in-Ask-clause-goes g c = λ x left taken0 fed k at.
    let past = at.0 in
    let stands = at.1 in
    let y = c.args.repository.now in
    let s = c.args.session.now in
    let u = c.next.new.self in
    let left' = g.I.Input.left c.args.input.now in
    let ended = g.I.Input.ended c.args.input.now in
    let m = g.K.Sink.taken c.args.output.now in
    let v = g.K.Sink.taken c.make_call.new.output in
    let is = c.in-Ask.ensures.gives fed past (took_of g.R.Repository.Answers g.R.Repository.Uploads x y s fed past taken0 m stands) in
    called g.R.Repository.Answers g.R.Repository.Uploads g.R.Repository.Fails x y c.make_call.new.repository s u c.make_call.new.session fed past left left' ended taken0 m v stands c.in-Ask.ask c.make_call.result is c.in-Ask.ensures.progresses
    c.make_call.ensures.keeps
    (c.make_call.ensures.goes x left left' ended taken0 fed (asked g.R.Repository.Answers g.R.Repository.Uploads x y s u fed past taken0 m c.in-Ask.ask stands is) (step_fed s u left left' ended fed _ c.in-Ask.ensures.progresses k))

pub returns-in-Body-clause-goes : goal.returns-in-Body-clause-goes
returns-in-Body-clause-goes g c = λ x left taken0 fed k at.
    let past = at.0 in
    let stands = at.1 in
    let y = c.args.repository.now in
    let s = c.args.session.now in
    let u = c.next.new.self in
    let left' = g.I.Input.left c.args.input.now in
    let ended = g.I.Input.ended c.args.input.now in
    let m = g.K.Sink.taken c.args.output.now in
    let v = g.K.Sink.taken c.take_part.new.output in
    let is = c.in-Body.ensures.gives fed past (took_of g.R.Repository.Answers g.R.Repository.Uploads x y s fed past taken0 m stands) in
    taken g.R.Repository.Answers g.R.Repository.Uploads g.R.Repository.Fails x y c.take_part.new.repository s u c.take_part.new.session fed past left left' ended taken0 m v stands _ _ c.take_part.result c.in-Body.ensures.progresses is.2 is.3
    c.take_part.ensures.taken
    (c.take_part.ensures.goes x left left' ended taken0 fed (part_inside g.R.Repository.Answers g.R.Repository.Uploads g.R.Repository.Fails x y y s u u fed past left left' ended taken0 m m stands is.0 is.1) (step_fed s u left left' ended fed _ c.in-Body.ensures.progresses k))

pub returns-in-Say-clause-goes : goal.returns-in-Say-clause-goes
returns-in-Say-clause-goes g c = λ x left taken0 fed k at.
    let past = at.0 in
    let stands = at.1 in
    let y = c.args.repository.now in
    let s = c.args.session.now in
    let u = c.next.new.self in
    let left' = g.I.Input.left c.args.input.now in
    let ended = g.I.Input.ended c.args.input.now in
    let m = g.K.Sink.taken c.args.output.now in
    let is = c.in-Say.ensures.gives fed past (took_of g.R.Repository.Answers g.R.Repository.Uploads x y s fed past taken0 m stands) in
    c.refuse_head.ensures.ends x left left' ended taken0 fed (refuses g.R.Repository.Answers g.R.Repository.Uploads x y s u fed past taken0 m stands is) (step_fed s u left left' ended fed _ c.in-Say.ensures.progresses k)

pub returns-in-Done-clause-goes : goal.returns-in-Done-clause-goes
returns-in-Done-clause-goes g c = λ x left taken0 fed k at.
    let past = at.0 in
    let stands = at.1 in
    let y = c.args.repository.now in
    let s = c.args.session.now in
    let u = c.next.new.self in
    let left' = g.I.Input.left c.args.input.now in
    let ended = g.I.Input.ended c.args.input.now in
    let m = g.K.Sink.taken c.args.output.now in
    let is = c.in-Done.ensures.gives fed past (took_of g.R.Repository.Answers g.R.Repository.Uploads x y s fed past taken0 m stands) in
    done g.R.Repository.Answers g.R.Repository.Uploads g.R.Repository.Fails x y c.cut_short.new.repository s u fed past c.in-Done.end left left' taken0 m ended stands k c.in-Done.ensures.progresses.ended c.in-Done.ensures.progresses.longer is
    c.cut_short.ensures.elsewhere c.cut_short.ensures.inside

pub returns-in-Need-clause-goes : goal.returns-in-Need-clause-goes
returns-in-Need-clause-goes g c = λ x left taken0 fed k at.
    let past = at.0 in
    let stands = at.1 in
    let y = c.args.repository.now in
    let s = c.args.session.now in
    let u = c.next.new.self in
    let left' = g.I.Input.left c.args.input.now in
    let ended = g.I.Input.ended c.args.input.now in
    let m = g.K.Sink.taken c.args.output.now in
    let is = c.in-Need.ensures.gives fed past (took_of g.R.Repository.Answers g.R.Repository.Uploads x y s fed past taken0 m stands) in
    let still = is.0 in
    nearer_than g.R.Repository.Answers g.R.Repository.Uploads g.R.Repository.Fails x c.read_more.new.repository u c.read_more.new.session s left (g.I.Input.left c.read_more.new.input) (g.I.Input.ended c.read_more.new.input) taken0 m c.read_more.result
    (no_farther g.R.Repository.Answers g.R.Repository.Uploads x y s u fed past taken0 m _ stands still.took c.in-Need.ensures.progresses)
    (c.read_more.ensures.goes x left taken0 m fed past (step_fed s u left left' ended fed _ c.in-Need.ensures.progresses k) is.1 still (stands_on g.R.Repository.Answers g.R.Repository.Uploads x y s u fed fed past taken0 m stands still.took still.quiet))

pub read_more-requires : goal.read_more-requires
read_more-requires g c =
    let past = c.requires.past in
    needs_bytes c.next.new.self past.0 past.1 (c.in-Need.ensures.gives past.0 past.1 past.2)

pub returns-in-Done-clause-cause : goal.returns-in-Done-clause-cause
returns-in-Done-clause-cause g c =
    let past = c.requires.past in
    done_cause c.next.new.self past.0 past.1 c.in-Done.end _ _ (c.in-Done.ensures.gives past.0 past.1 past.2)
