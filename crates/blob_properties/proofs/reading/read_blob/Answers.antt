use Rattle.std.proofs.Common.{◌≡◌, ◌⊎◌, ℕ, List, None, Some, Option, Result, Ok, Err, IfOk, OnOk, sym, ap, ◌∙◌, inl, inr}
use Rattle.nx_base.specs.declared.name_err.NoMemory.{NoMemory}
use Rattle.java_props.specs.declared.PropsErr.{PropsErr}
use Rattle.java_props.specs.declared.PropsErr.TheVariants as unread
use Rattle.java_props.specs.Reading.{Refuses}
use Rattle.blob_properties.specs.declared.props_read.PropsRead.{PropsRead}
use Rattle.blob_properties.specs.Props.{Props}
use Rattle.blob_properties.specs.Readable.{readable_of, read_as}
use Rattle.blob_properties.proofs.Lengths.{bad_text, readable-pairs}
use Rattle.blob_properties.proofs.reading.read_blob.Goals as goal

-- a text that is refused
refused : (r : Result PropsRead NoMemory) (bytes : List ℕ) (e : PropsErr) → IfOk r (λ read. read_as read ≡ None) → OnOk r (e ≡ unread.NoMemory → ⊥)
    → (e ≡ unread.NoMemory) ⊎ Refuses bytes e → IfOk r (λ read. read_as read ≡ readable_of bytes)
refused (Ok read) bytes e none memory (inl same) = absurd (memory same)
refused (Ok read) bytes e none memory (inr refuses) = none ∙ sym (bad_text bytes e refuses)
refused (Err e') bytes e none memory why = tt

-- a text that is read
taken : (r : Result PropsRead NoMemory) (x y : Option Props) → IfOk r (λ read. read_as read ≡ x) → x ≡ y → IfOk r (λ read. read_as read ≡ y)
taken (Ok read) x y e same = e ∙ same
taken (Err e') x y e same = tt

pub returns-in-Ok : goal.returns-in-Ok
returns-in-Ok c =
    taken c.read_pairs.result _ (readable_of c.args.bytes.now) c.read_pairs.ensures (sym (readable-pairs c.args.bytes.now c.in-Ok.pairs c.in-Ok.ensures.ok))

pub returns-in-Err : goal.returns-in-Err
returns-in-Err c =
    refused c.of_refused.result c.args.bytes.now c.in-Err.refusal c.of_refused.ensures.unreadable c.of_refused.ensures.memory c.in-Err.ensures.err
