use Rattle.std.proofs.Common.{◌≡◌, false, Ok, Err, string_bytes, inl, inr, ⊎_elim, sym, ap, ◌∙◌, rules}
use Rattle.java_props.specs.Lines.{trim}
use Rattle.java_props.specs.From.{head_of, line}
use Rattle.java_props.specs.Reading.{text_of, after_gap}
use Rattle.java_props.proofs.LinePairs.{pair_none, pair_bad_key, pair_no_room, pair_value, on_refusal}
use Rattle.java_props.proofs.reading.line_at.Goals as goal

pub returns-then-is_end-clause-pair : goal.returns-then-is_end-clause-pair
returns-then-is_end-clause-pair c =
    pair_none c.args.pairs.now c.args.bytes.now c.after_blanks-first.result (trim (line c.args.bytes.now c.args.at))
    (ap (λ m. trim (head_of m)) c.next_place.ensures.same ∙ c.after_blanks-first.ensures.trimmed) (λ h. sym (c.is_end.ensures.here h) ∙ c.if-is_end.true)

pub returns-in_err-key-clause-pair : goal.returns-in_err-key-clause-pair
returns-in_err-key-clause-pair c =
    let lt = c.is_end.ensures.within c.if-is_end.false in
    let t : trim (line c.args.bytes.now c.args.at) ≡ line c.args.bytes.now c.after_blanks-first.result = ap (λ m. trim (head_of m)) c.next_place.ensures.same ∙ c.after_blanks-first.ensures.trimmed in
    let same : c.from_residual.result ≡ Err c.in_err-key.field-0.0 = search rules in
    on_refusal _ _ _ _ same
    (⊎_elim (λ n. inl n) (λ e. inr (pair_bad_key c.args.pairs.now c.args.bytes.now c.after_blanks-first.result _ c.in_err-key.field-0.0 t lt c.after_blanks-first.ensures.stands (sym (c.is_end.ensures.here lt) ∙ c.if-is_end.false) e)) c.in_err-key.ensures.fault)

pub returns-then-not-has_room-clause-pair : goal.returns-then-not-has_room-clause-pair
returns-then-not-has_room-clause-pair c =
    let lt = c.is_end.ensures.within c.if-is_end.false in
    let t : trim (line c.args.bytes.now c.args.at) ≡ line c.args.bytes.now c.after_blanks-first.result = ap (λ m. trim (head_of m)) c.next_place.ensures.same ∙ c.after_blanks-first.ensures.trimmed in
    let room = rw c.as_str.ensures.value at c.has_room.ensures in
    inr (pair_no_room c.args.pairs.now c.args.bytes.now c.after_blanks-first.result _ (string_bytes c.in_ok-key.key) t lt c.after_blanks-first.ensures.stands (sym (c.is_end.ensures.here lt) ∙ c.if-is_end.false) c.in_ok-key.ensures.key (sym room ∙ c.if-not-has_room.true))

pub returns-in_err-value-clause-pair : goal.returns-in_err-value-clause-pair
returns-in_err-value-clause-pair c =
    let lt = c.is_end.ensures.within c.if-is_end.false in
    let t : trim (line c.args.bytes.now c.args.at) ≡ line c.args.bytes.now c.after_blanks-first.result = ap (λ m. trim (head_of m)) c.next_place.ensures.same ∙ c.after_blanks-first.ensures.trimmed in
    let room = rw c.as_str.ensures.value at c.has_room.ensures in
    let same : c.from_residual-in_err-value.result ≡ Err c.in_err-value.field-0.0 = search rules in
    on_refusal _ _ _ _ same
    (⊎_elim (λ n. inl n)
    (λ e. inr (pair_value c.args.pairs.now c.args.bytes.now c.after_blanks-first.result _ (string_bytes c.in_ok-key.key) (Err c.in_err-value.field-0.0) t lt c.after_blanks-first.ensures.stands (sym (c.is_end.ensures.here lt) ∙ c.if-is_end.false) c.in_ok-key.ensures.key (sym room ∙ c.if-not-has_room.false)
    (ap (text_of false) (ap after_gap c.in_ok-key.ensures.left ∙ c.after_key.ensures.left) ∙ e)))
    c.in_err-value.ensures.fault)

pub returns-clause-pair : goal.returns-clause-pair
returns-clause-pair c =
    let lt = c.is_end.ensures.within c.if-is_end.false in
    let t : trim (line c.args.bytes.now c.args.at) ≡ line c.args.bytes.now c.after_blanks-first.result = ap (λ m. trim (head_of m)) c.next_place.ensures.same ∙ c.after_blanks-first.ensures.trimmed in
    let room = rw c.as_str.ensures.value at c.has_room.ensures in
    pair_value c.args.pairs.now c.args.bytes.now c.after_blanks-first.result _ (string_bytes c.in_ok-key.key) (Ok (string_bytes c.in_ok-value.value)) t lt c.after_blanks-first.ensures.stands (sym (c.is_end.ensures.here lt) ∙ c.if-is_end.false) c.in_ok-key.ensures.key (sym room ∙ c.if-not-has_room.false)
    (ap (text_of false) (ap after_gap c.in_ok-key.ensures.left ∙ c.after_key.ensures.left) ∙ c.in_ok-value.ensures.value)
    ∙ ap (λ ps. Ok ps) (sym c.in_ok-put.ensures.ok)
