use Rattle.std.proofs.Common.{inl, inr, arith}
use Rattle.http_heads.specs.Cut.{head_limit}
use Rattle.http_heads.proofs.head.is_too_long.Goals as goal

pub returns-then-text-eq-HEAD_LIMIT : goal.returns-then-text-eq-HEAD_LIMIT
unfolding head_limit
returns-then-text-eq-HEAD_LIMIT c = (
  λ none. inr (c.if-text-eq-HEAD_LIMIT.true, c.has_no_head.ensures.0 none),
  λ long. elim long [ inl over ↦ absurd (omega (arith, over)) | inr same ↦ c.has_no_head.ensures.1 same.1 ],
)
