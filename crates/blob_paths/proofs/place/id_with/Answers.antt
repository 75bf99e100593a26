use Rattle.std.proofs.Common.{◌∙◌, length, sym, ap, arith, is_some, true≢false}
use Rattle.nx_base.specs.Ids.{id_refusal}
use Rattle.nx_base.proofs.IdPlaces.{id_refusal-text}
use Rattle.blob_paths.proofs.Parts.{file_parts, file_from, file-length}
use Rattle.blob_paths.proofs.place.id_with.Goals as goal

pub returns-then-name-store-clause-none : goal.returns-then-name-store-clause-none
returns-then-name-store-clause-none c = λ id h.
    let whole = ap length h in
    let parts = file-length c.args.store.now id c.args.ending in
    let end = ap length c.text-ending.ensures in
    c.if-name-store.true (omega arith)

pub returns-in_default-clause-none : goal.returns-in_default-clause-none
returns-in_default-clause-none c = λ id h.
    let found = file_parts c.args.store.now id c.args.name.now c.cut-parts.result.prefix.now c.cut-parts.result.folders.now c.cut-parts.result.text.now c.cut-parts.result.end.now c.args.ending c.cut-parts.ensures.parts c.cut-parts.ensures.prefix h in
    true≢false (ap is_some (sym c.in_default.ensures.refused ∙ ap id_refusal found.2 ∙ id_refusal-text id))

pub returns-then-are_those-clause-found : goal.returns-then-are_those-clause-found
returns-then-are_those-clause-found c =
    let same = c.are_those.ensures.0 c.if-are_those.true in
    file_from c.args.store.now c.in-Ok.id c.args.name.now c.cut-parts.result.prefix.now c.cut-parts.result.folders.now c.cut-parts.result.text.now c.cut-parts.result.end.now c.args.ending c.cut-parts.ensures.parts
    same.0 same.1 (sym c.in-Ok.ensures.read) (same.2 ∙ c.text-ending.ensures)

pub returns-else-are_those-clause-none : goal.returns-else-are_those-clause-none
returns-else-are_those-clause-none c = λ id h.
    let found = file_parts c.args.store.now id c.args.name.now c.cut-parts.result.prefix.now c.cut-parts.result.folders.now c.cut-parts.result.text.now c.cut-parts.result.end.now c.args.ending c.cut-parts.ensures.parts c.cut-parts.ensures.prefix h in
    true≢false (sym (c.are_those.ensures.1 (found.0, found.1, found.3 ∙ sym c.text-ending.ensures)) ∙ c.if-are_those.false)
