use Rattle.std.proofs.Common.{◌≡◌, take}
use Rattle.blob_paths.specs.Hash.{java_hash_of}
use Rattle.blob_paths.proofs.hash.java_hash.Given as goal

abbrev pub invariant-loop-byte : goal.invariant-loop-byte
invariant-loop-byte l = l.hash ≡ java_hash_of (take l.byte-index l.text)
