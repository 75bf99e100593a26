-- The meaning of the value of a required key.
use Rattle.std.proofs.Common.{◌≡◌, ℕ, List, Option, Some, None, Result, Ok, Err, refl, sym, ap, ◌∙◌}
use Rattle.std.specs.Result.{result_ok}
use Rattle.java_props.specs.Kept.{Entries, value_of}
use Rattle.blob_properties.specs.FromPairs.{Refusal, bad, missing, meant, required, required_by}

-- a required key that is there
pub required-some : {A : Type 0} (key : List ℕ) (meaning : List ℕ → Option A) (pairs : Entries) (text : List ℕ)
    → Some text ≡ value_of key pairs → required key meaning pairs ≡ meant key (meaning text)
required-some key meaning pairs text v = ap (required_by key meaning) (sym v)
