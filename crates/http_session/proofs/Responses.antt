-- A response has bytes.
use Rattle.std.proofs.Common.{◌<◌, Bool, length, arith}
use Rattle.http_heads.specs.Response.{Why, refused_with, status_line}

pub response_some : (bare closes : Bool) (w : Why) → 0 < length (refused_with bare closes w)
unfolding status_line
response_some bare closes w = omega arith
