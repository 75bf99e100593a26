use Rattle.std.proofs.Common.{◌∙◌, ℕ, Option, ap}
use Rattle.http_heads.specs.declared.kept.Given.TheVariants.{Nothing, One, Several}
use Rattle.http_heads.specs.Framings.{sized}
use Rattle.http_heads.proofs.FramingLemmas.{given_at, neither, one_coding, several_codings, one_length, several_lengths, from_one, from_several, both}
use Rattle.http_heads.proofs.framing_rule.framing.Goals as goal

pub returns-in-Nothing-codings : goal.returns-in-Nothing-codings
returns-in-Nothing-codings c texts words t w =
    let put = c.args.put in
    let minor = c.args.minor in
    let lengths = given_at texts c.args.lengths Nothing c.in-Nothing.is t in
    let codings = given_at words c.args.codings Nothing c.in-Nothing-codings.is w in
    c.unframed.ensures ∙ neither put minor texts words lengths codings

pub returns-in-One-codings : goal.returns-in-One-codings
returns-in-One-codings c texts words t w =
    let put = c.args.put in
    let minor = c.args.minor in
    let lengths = given_at texts c.args.lengths Nothing c.in-Nothing.is t in
    let codings = given_at words c.args.codings (One c.in-One-codings.coding) c.in-One-codings.is w in
    c.coded.ensures ∙ one_coding put minor texts words c.in-One-codings.coding.now lengths codings

pub returns-in-Several-codings : goal.returns-in-Several-codings
returns-in-Several-codings c texts words t w =
    let put = c.args.put in
    let minor = c.args.minor in
    let lengths = given_at texts c.args.lengths Nothing c.in-Nothing.is t in
    let codings = given_at words c.args.codings Several c.in-Several-codings.is w in
    several_codings put minor texts words lengths codings

pub returns-in-Nothing-codings-2 : goal.returns-in-Nothing-codings-2
returns-in-Nothing-codings-2 c texts words t w =
    let put = c.args.put in
    let minor = c.args.minor in
    let lengths = given_at texts c.args.lengths (One c.in-One.text) c.in-One.is t in
    let codings = given_at words c.args.codings Nothing c.in-Nothing-codings-2.is w in
    c.sized.ensures ∙ ap (λ (n : Option ℕ). sized put n) c.decimal.ensures ∙ one_length put minor texts words c.in-One.text.now lengths codings

pub returns-in-One-codings-2 : goal.returns-in-One-codings-2
returns-in-One-codings-2 c texts words t w =
    let put = c.args.put in
    let minor = c.args.minor in
    let lengths = given_at texts c.args.lengths (One c.in-One.text) c.in-One.is t in
    let codings = given_at words c.args.codings (One c.in-One-codings-2.field-0) c.in-One-codings-2.is w in
    both put minor texts words (from_one texts c.in-One.text.now lengths) (from_one words c.in-One-codings-2.field-0.now codings)

pub returns-in-Several-codings-2 : goal.returns-in-Several-codings-2
returns-in-Several-codings-2 c texts words t w =
    let put = c.args.put in
    let minor = c.args.minor in
    let lengths = given_at texts c.args.lengths (One c.in-One.text) c.in-One.is t in
    let codings = given_at words c.args.codings Several c.in-Several-codings-2.is w in
    both put minor texts words (from_one texts c.in-One.text.now lengths) (from_several words codings)

pub returns-in-Nothing-codings-3 : goal.returns-in-Nothing-codings-3
returns-in-Nothing-codings-3 c texts words t w =
    let put = c.args.put in
    let minor = c.args.minor in
    let lengths = given_at texts c.args.lengths Several c.in-Several.is t in
    let codings = given_at words c.args.codings Nothing c.in-Nothing-codings-3.is w in
    several_lengths put minor texts words lengths codings

pub returns-in-One-codings-3 : goal.returns-in-One-codings-3
returns-in-One-codings-3 c texts words t w =
    let put = c.args.put in
    let minor = c.args.minor in
    let lengths = given_at texts c.args.lengths Several c.in-Several.is t in
    let codings = given_at words c.args.codings (One c.in-One-codings-3.field-0) c.in-One-codings-3.is w in
    both put minor texts words (from_several texts lengths) (from_one words c.in-One-codings-3.field-0.now codings)

pub returns-in-Several-codings-3 : goal.returns-in-Several-codings-3
returns-in-Several-codings-3 c texts words t w =
    let put = c.args.put in
    let minor = c.args.minor in
    let lengths = given_at texts c.args.lengths Several c.in-Several.is t in
    let codings = given_at words c.args.codings Several c.in-Several-codings-3.is w in
    both put minor texts words (from_several texts lengths) (from_several words codings)
