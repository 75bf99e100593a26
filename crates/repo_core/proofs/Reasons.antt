-- The reasons of deletions have at most 100 written bytes.
use Rattle.std.proofs.Common.{◌≡◌, ◌≢◌, ◌≤◌, ℕ, List, length, true, codes, slice_index, refl, sym, subst, arith}
use Rattle.std.specs.List.{list_all}
use Rattle.java_props.specs.Writing.{value_text}
use Rattle.blob_properties.specs.Plain.{is_plain}
use Rattle.blob_properties.proofs.Lengths.{plain-value}

-- a plain reason is written as it is
short_if_plain : (reason : List ℕ) → list_all is_plain reason ≡ true → slice_index reason 0 ≢ 32 → length reason ≤ 100 → length (value_text reason) ≤ 100
short_if_plain reason bytes first few = subst (λ (t : List ℕ). length t ≤ 100) (sym (plain-value reason (record { bytes = bytes; first = first }))) few

pub deleted_is_short : length (value_text (codes "Deleted by request")) ≤ 100
deleted_is_short = short_if_plain (codes "Deleted by request") refl (λ e. cc) (omega arith)

pub replaced_is_short : length (value_text (codes "Replaced")) ≤ 100
replaced_is_short = short_if_plain (codes "Replaced") refl (λ e. cc) (omega arith)
