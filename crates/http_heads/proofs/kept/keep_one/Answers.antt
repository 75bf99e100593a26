use Rattle.std.proofs.Common.{Result, Bool, Err, arith, ap, inl, inr}
use Rattle.http_header.specs.declared.map.HeaderMapError.{HeaderMapError}
use Rattle.http_heads.proofs.kept.keep_one.Goals as goal

pub unreachable-requires : goal.unreachable-requires
unreachable-requires c =
    let err : HeaderMapError → Result Bool HeaderMapError = λ e. Err e in
    elim (c.in-Err-MaxSizeReached.ensures.full.0 (ap err c.in-Err-MaxSizeReached.field-0-is)) [
      | inl full ↦ absurd (omega (arith, full, c.requires.values))
      | inr new ↦ elim new.1 [ inl names ↦ absurd (omega (arith, names, c.requires.names)) | inr full ↦ absurd (omega (arith, full, c.requires.values)) ]
    ]
