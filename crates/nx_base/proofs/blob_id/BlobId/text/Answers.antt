use Rattle.std.proofs.Common.{ap, length, sym, ◌∙◌}
use Rattle.uuid.proofs.TextLemmas.{by_index_length}
use Rattle.nx_base.specs.Ids.{id_refusal}
use Rattle.nx_base.proofs.IdPlaces.{id_refusal-text}
use Rattle.nx_base.proofs.blob_id.BlobId.text.Goals as goal

pub copy_from_slice-requires : goal.copy_from_slice-requires
copy_from_slice-requires c =
    sym (ap length (c.as_bytes.ensures.value ∙ c.encode_lower-text.ensures.text) ∙ by_index_length 36 _)

pub returns-clause-readable : goal.returns-clause-readable
returns-clause-readable c =
    ap id_refusal (c.copy_from_slice.ensures.after ∙ c.as_bytes.ensures.value ∙ c.encode_lower-text.ensures.text)
    ∙ id_refusal-text _
