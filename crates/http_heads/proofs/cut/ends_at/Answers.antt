use Rattle.std.proofs.Common.{arith, ◌≡◌, inl, inr, true}
use Rattle.std.proofs.Common.{eqb, ℕ}
use Rattle.std.proofs.lemmas.Bool.{eqb-true}
use Rattle.std.proofs.lemmas.Bool.Decides.{eqb_tells}
use Rattle.http_heads.proofs.CutLemmas.{EndsByBytes-from, EndsHead-from}
use Rattle.http_heads.proofs.cut.ends_at.Goals as goal

yes-eqb : (a b : ℕ) → a ≡ b → eqb a b ≡ true
yes-eqb a b e = elim (eqb_tells a b) [ inl eq ↦ eq.0 | inr ne ↦ absurd (ne.1 e) ]

pub returns : goal.returns
returns c = (
  λ t. EndsHead-from c.args.bytes.now c.args.last c.requires (omega arith, inr (omega arith, omega arith, eqb-true _ _ t)),
  λ e. elim (EndsByBytes-from c.args.bytes.now c.args.last c.requires e).1 [
    | inl two ↦ absurd (omega arith)
    | inr three ↦ yes-eqb _ _ three.2
  ],
)
