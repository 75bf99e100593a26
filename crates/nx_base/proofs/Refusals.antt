-- From an exact answer to what a reader may give.
use Rattle.std.proofs.Common.{◌≡◌, ℕ, ap, List, Result, Err}
use Rattle.nx_base.specs.declared.name_err.NameErr.{NameErr}
use Rattle.nx_base.specs.declared.name_err.NameErr.TheVariants.{Empty, TooLong, BadByte, BadSegment, NoMemory}
use Rattle.nx_base.specs.NameErr.{Gives, SpeaksOf, refusal_behind}
use Rattle.nx_base.specs.Paths.{behind}

pub Gives-Err : {A : Type 0} (wanted : Result A NameErr) (n : ℕ) (e : NameErr) → wanted ≡ Err e → SpeaksOf n e → Gives wanted (Err e)
Gives-Err wanted n Empty is about = is
Gives-Err wanted n (TooLong length) is about = is
Gives-Err wanted n (BadByte at) is about = is
Gives-Err wanted n (BadSegment at) is about = is
Gives-Err wanted n NoMemory is about = absurd about

behind-Err : (prefix : ℕ) (part : Result (List ℕ) NameErr) (n : ℕ) (e : NameErr) → part ≡ Err e → SpeaksOf n e → Gives (behind prefix part) (Err (refusal_behind prefix e))
behind-Err prefix part n Empty is about = ap (behind prefix) is
behind-Err prefix part n (TooLong length) is about = ap (behind prefix) is
behind-Err prefix part n (BadByte at) is about = ap (behind prefix) is
behind-Err prefix part n (BadSegment at) is about = ap (behind prefix) is
behind-Err prefix part n NoMemory is about = absurd about

pub Gives-behind : (prefix : ℕ) (part : Result (List ℕ) NameErr) (n : ℕ) (e told : NameErr) → told ≡ refusal_behind prefix e → part ≡ Err e → SpeaksOf n e → Gives (behind prefix part) (Err told)
Gives-behind prefix part n e told same is about = rw same (behind-Err prefix part n e is about)
