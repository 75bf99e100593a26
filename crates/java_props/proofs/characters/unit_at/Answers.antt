use Rattle.std.proofs.Common.{◌≡◌, ◌∙◌, ◌+◌, ◌∷◌, ℕ, Option, List, Some, false, not, eqb, ap, arith, slice_index}
use Rattle.java_props.specs.From.{rest, middle, line}
use Rattle.java_props.specs.Reading.{Piece, pieces, four_digits}
use Rattle.java_props.proofs.Steps.{plain_unit, letter_unit, u_pieces}
use Rattle.java_props.proofs.characters.unit_at.Goals as goal

pub returns-then-bytes-at-ne92-clause-piece : goal.returns-then-bytes-at-ne92-clause-piece
returns-then-bytes-at-ne92-clause-piece c = plain_unit c.args.bytes.now c.args.at c.next_place.result c.requires.within c.requires.inside c.if-bytes-at-ne92.true c.next_place.ensures.same

pub returns-then-bytes-at-ne117-clause-piece : goal.returns-then-bytes-at-ne117-clause-piece
returns-then-bytes-at-ne117-clause-piece c =
    let b : slice_index c.args.bytes.now c.args.at ≡ 92 = omega arith in
    let s = c.requires.stands c.requires.within b in
    let n : c.args.at + 1 + 1 ≡ c.args.at + 2 = omega arith in
    rw c.escaped_byte.ensures (letter_unit c.args.bytes.now c.args.at c.next_place-next.result s.0 b s.1 c.if-bytes-at-ne117.true (ap (λ k. middle (rest c.args.bytes.now k)) n ∙ c.next_place-next.ensures.same))

pub returns-in-None-clause-piece : goal.returns-in-None-clause-piece
returns-in-None-clause-piece c =
    let b : slice_index c.args.bytes.now c.args.at ≡ 92 = omega arith in
    let s = c.requires.stands c.requires.within b in
    let n : c.args.at + 1 + 1 ≡ c.args.at + 2 = omega arith in
    let u : slice_index c.args.bytes.now (c.args.at + 1) ≡ 117 = omega arith in
    let rest_of = line c.args.bytes.now c.next_place-next.result in
    let h = u_pieces c.args.bytes.now c.args.at c.next_place-next.result s.0 b u (ap (λ k. middle (rest c.args.bytes.now k)) n ∙ c.next_place-next.ensures.same) in (
      pieces 4 rest_of,
      h.0
          ∙ ap (λ (x : ℕ). record { at = c.args.at; plain = not (eqb x 92); unit = four_digits rest_of } ∷ pieces 4 rest_of) b
          ∙ ap (λ (o : Option ℕ). record { at = c.args.at; plain = false; unit = o } ∷ pieces 4 rest_of) c.in-None.ensures.number,
    )

pub returns-in-Some-clause-piece : goal.returns-in-Some-clause-piece
returns-in-Some-clause-piece c =
    let b : slice_index c.args.bytes.now c.args.at ≡ 92 = omega arith in
    let s = c.requires.stands c.requires.within b in
    let n : c.args.at + 1 + 1 ≡ c.args.at + 2 = omega arith in
    let u : slice_index c.args.bytes.now (c.args.at + 1) ≡ 117 = omega arith in
    let rest_of = line c.args.bytes.now c.next_place-next.result in
    let h = u_pieces c.args.bytes.now c.args.at c.next_place-next.result s.0 b u (ap (λ k. middle (rest c.args.bytes.now k)) n ∙ c.next_place-next.ensures.same) in (
      h.0
          ∙ ap (λ (o : Option ℕ). record { at = c.args.at; plain = not (eqb (slice_index c.args.bytes.now c.args.at) 92); unit = o } ∷ pieces 4 rest_of) c.in-Some.ensures.number
          ∙ ap (λ (ps : List Piece). record { at = c.args.at; plain = not (eqb (slice_index c.args.bytes.now c.args.at) 92); unit = Some c.in-Some.found.0 } ∷ ps) c.in-Some.ensures.moves,
      h.1 ∙ c.in-Some.ensures.others,
    )
