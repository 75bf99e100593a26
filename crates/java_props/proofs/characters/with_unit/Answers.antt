use Rattle.std.proofs.Common.{◌∷◌, ◌∙◌, Some, not, eqb, sym, ap, subst, List, slice_index}
use Rattle.std.specs.Char.Utf16.{surrogate_pair_char}
use Rattle.java_props.specs.declared.PropsErr.TheVariants.{BadSurrogate}
use Rattle.java_props.specs.Reading.{Piece, pieces}
use Rattle.java_props.specs.From.{line}
use Rattle.java_props.specs.Texts.{TakesChar, HasError}
use Rattle.java_props.proofs.Spelled.{takes-one, takes-two, error-high, error-low}
use Rattle.java_props.proofs.characters.with_unit.Goals as goal

pub returns-in-None-clause-char : goal.returns-in-None-clause-char
returns-in-None-clause-char c =
    subst (λ (ps : List Piece). HasError ps (BadSurrogate c.args.at)) (sym c.requires.piece.0)
    (error-high c.args.at _ c.args.unit _ (sym c.is_high.ensures ∙ c.if-is_high.true) c.in-None.ensures.piece)

pub returns-in-Some-clause-char : goal.returns-in-Some-clause-char
returns-in-Some-clause-char c =
    let p : Piece = record { at = c.args.at; plain = not (eqb (slice_index c.args.bytes.now c.args.at) 92); unit = Some c.args.unit } in
    rw c.pair_char.ensures
    (subst (λ (ps : List Piece). TakesChar ps (surrogate_pair_char c.args.unit c.in-Some.found.0) (pieces 0 (line c.args.bytes.now c.in-Some.found.1)))
    (sym (c.requires.piece.0 ∙ ap (λ (ps : List Piece). p ∷ ps) c.in-Some.ensures.piece.0))
    (takes-two c.args.at c.args.next _ _ c.args.unit c.in-Some.found.0 _ (sym c.is_high.ensures ∙ c.if-is_high.true) c.in-Some.ensures.low))

pub returns-then-is_low-clause-char : goal.returns-then-is_low-clause-char
returns-then-is_low-clause-char c =
    subst (λ (ps : List Piece). HasError ps (BadSurrogate c.args.at)) (sym c.requires.piece.0)
    (error-low c.args.at _ c.args.unit _ (sym c.is_high.ensures ∙ c.if-is_high.false) (sym c.is_low.ensures ∙ c.if-is_low.true))

pub returns-clause-char : goal.returns-clause-char
returns-clause-char c =
    rw c.lone_char.ensures
    (subst (λ (ps : List Piece). TakesChar ps c.args.unit (pieces 0 (line c.args.bytes.now c.args.next))) (sym c.requires.piece.0)
    (takes-one c.args.at _ c.args.unit _ (sym c.is_high.ensures ∙ c.if-is_high.false) (sym c.is_low.ensures ∙ c.if-is_low.false)))
