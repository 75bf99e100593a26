use Rattle.std.proofs.Common.{rules, ◌∙◌, sym, ap, refl, length, true≢false, is_some, arith}
use Rattle.std.proofs.lemmas.Bool.Decides.{nat_tests}
use Rattle.nx_base.specs.Ids.{id_text}
use Rattle.nx_base.proofs.IdPlaces.{bad_here, bad_later, parses, bytes, bad_short, bad_whole, same_bytes, refusal_is, refusal_none}
use Rattle.nx_base.proofs.blob_id.BlobId.parse.Goals as goal

pub loop-at-preserved : goal.loop-at-preserved
loop-at-preserved c =
    c.loop-at.invariant ∙ bad_later c.args.text.now c.loop-at.at c.loop-at-test.true (search rules)

pub returns-then-not-is_id_byte-clause-refused : goal.returns-then-not-is_id_byte-clause-refused
returns-then-not-is_id_byte-clause-refused c =
    refusal_is c.args.text.now c.loop-at.at (omega arith) (omega arith)
    (c.loop-at.invariant ∙ bad_here c.args.text.now c.loop-at.at c.loop-at-test.true (search rules))

pub returns-then-not-is_id_byte-clause-accepted : goal.returns-then-not-is_id_byte-clause-accepted
returns-then-not-is_id_byte-clause-accepted c =
    let why = refusal_is c.args.text.now c.loop-at.at (omega arith) (omega arith)
    (c.loop-at.invariant ∙ bad_here c.args.text.now c.loop-at.at c.loop-at-test.true (search rules)) in
    (λ e. absurd (true≢false (sym e)), λ none. absurd (true≢false (ap is_some (sym why ∙ none))))

pub returns-then-text-lt-ID_LENGTH-clause-refused :
    goal.returns-then-text-lt-ID_LENGTH-clause-refused
returns-then-text-lt-ID_LENGTH-clause-refused c =
    refusal_is c.args.text.now (length c.args.text.now) (grind (arith, nat_tests, c.if-is_empty.ensures)) (omega arith)
    (bad_short c.args.text.now c.loop-at.at c.loop-at-test.false c.loop-at.auto.at-end c.if-text-lt-ID_LENGTH.true c.loop-at.invariant)

pub returns-then-text-lt-ID_LENGTH-clause-accepted :
    goal.returns-then-text-lt-ID_LENGTH-clause-accepted
returns-then-text-lt-ID_LENGTH-clause-accepted c =
    let why = refusal_is c.args.text.now (length c.args.text.now) (grind (arith, nat_tests, c.if-is_empty.ensures)) (omega arith)
    (bad_short c.args.text.now c.loop-at.at c.loop-at-test.false c.loop-at.auto.at-end c.if-text-lt-ID_LENGTH.true c.loop-at.invariant) in
    (λ e. absurd (true≢false (sym e)), λ none. absurd (true≢false (ap is_some (sym why ∙ none))))

pub unreachable-requires : goal.unreachable-requires
unreachable-requires c =
    let good = bad_whole c.args.text.now c.loop-at.at c.loop-at-test.false c.loop-at.auto.at-end (omega arith) c.if-text-lt-ID_LENGTH.false c.loop-at.invariant in
    true≢false (sym (c.in-Err.ensures.ok.1 (bytes c.args.text.now good, sym (parses c.args.text.now good))))

pub returns-clause-read : goal.returns-clause-read
returns-clause-read c =
    let good = bad_whole c.args.text.now c.loop-at.at c.loop-at-test.false c.loop-at.auto.at-end (omega arith) c.if-text-lt-ID_LENGTH.false c.loop-at.invariant in
    ap id_text c.as_bytes.ensures ∙ same_bytes c.args.text.now c.in-Ok.uuid good c.in-Ok.ensures.bytes

pub returns-clause-accepted : goal.returns-clause-accepted
returns-clause-accepted c =
    let good = bad_whole c.args.text.now c.loop-at.at c.loop-at-test.false c.loop-at.auto.at-end (omega arith) c.if-text-lt-ID_LENGTH.false c.loop-at.invariant in
    (λ _. refusal_none c.args.text.now (omega arith) (omega arith) good, λ _. refl)
