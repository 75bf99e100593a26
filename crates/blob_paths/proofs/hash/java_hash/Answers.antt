use Rattle.std.proofs.Common.{rules, ◌≡◌, ℕ, ℤ, pos, ◌+◌, ◌*◌, ◌%◌, ◌^◌, ◌<◌, ◌+ℤ◌, ◌*ℤ◌, FitsSigned, w32, take, sym, ap, ◌∙◌, arith}
use Rattle.std.specs.Int.{cast_signed, cast_unsigned, int_wrap}
use Rattle.std.proofs.lemmas.Int.{wrapping_add_onto, wrapping_mul-bits, int_wrap-add_left}
use Rattle.std.proofs.lemmas.List.Sums.{fold_more}
use Rattle.blob_paths.specs.Hash.{hash_step, java_hash_of}
use Rattle.blob_paths.proofs.hash.java_hash.Goals as goal

-- one byte more, from the bits of the hash
step : (bits : ℕ) (hash : ℤ) (byte : ℤ) → bits < 2 ^ 32 → FitsSigned w32 byte → cast_signed w32 bits ≡ hash
    → cast_signed w32 ((bits * 31 % 2 ^ 32 + cast_unsigned w32 byte) % 2 ^ 32) ≡ int_wrap w32 ((hash *ℤ pos 31) +ℤ byte)
step bits hash byte small fits is =
    wrapping_add_onto w32 (bits * 31 % 2 ^ 32) byte (omega arith) fits
    ∙ ap (λ z. int_wrap w32 (z +ℤ byte)) (wrapping_mul-bits w32 bits 31 small (omega arith))
    ∙ int_wrap-add_left w32 (cast_signed w32 bits *ℤ pos 31) byte
    ∙ ap (λ z. int_wrap w32 ((z *ℤ pos 31) +ℤ byte)) is

pub loop-byte-preserved : goal.loop-byte-preserved
loop-byte-preserved c =
    let fits : FitsSigned w32 c.from.result = search rules in
    step c.loop-byte.hash-bits (java_hash_of (take c.loop-byte.byte-index c.args.text.now)) c.from.result (search rules) fits c.loop-byte.invariant
    ∙ ap (λ z. int_wrap w32 ((java_hash_of (take c.loop-byte.byte-index c.args.text.now) *ℤ pos 31) +ℤ z)) c.from.ensures
    ∙ sym (fold_more hash_step (pos 0) c.args.text.now c.loop-byte.byte-index 0 c.loop-byte-test.true)
