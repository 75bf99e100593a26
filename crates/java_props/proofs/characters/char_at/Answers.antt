use Rattle.std.proofs.Common.{sym, subst, List}
use Rattle.java_props.specs.declared.PropsErr.TheVariants.{BadEscape}
use Rattle.java_props.specs.Reading.{Piece}
use Rattle.java_props.specs.Texts.{HasError}
use Rattle.java_props.proofs.Spelled.{error-escape}
use Rattle.java_props.proofs.characters.char_at.Goals as goal

pub returns-in-None-clause-char : goal.returns-in-None-clause-char
returns-in-None-clause-char c = subst (λ (ps : List Piece). HasError ps (BadEscape c.args.at)) (sym c.in-None.ensures.piece.1) (error-escape c.args.at _ c.in-None.ensures.piece.0)
