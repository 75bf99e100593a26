-- The most bytes of a head, as a number.
use Rattle.std.proofs.Common.{◌≡◌, refl}
use Rattle.http_heads.specs.Cut.{head_limit}

pub head_limit_is : head_limit ≡ 16384
unfolding head_limit
head_limit_is = refl
