use Rattle.blob_paths.specs.declared.ending.Ending.TheVariants as endings
use Rattle.blob_paths.proofs.files.BlobFiles.of.Goals as goal

pub invariant_of-result : goal.invariant_of-result
invariant_of-result c = record {
  bytes_is = c.in_ok-bytes.ensures.name;
  properties_is = c.in_ok-properties.ensures.name;
  bytes_outside = c.in_ok-place.ensures.outside endings.Bytes;
  properties_outside = c.in_ok-place.ensures.outside endings.Properties;
}
