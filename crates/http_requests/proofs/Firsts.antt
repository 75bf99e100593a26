-- The first head of a stream: where it was found, and that it is refused for its own cause.
use Rattle.std.proofs.Common.{◌≡◌, ◌≢◌, ℕ, ◌≤◌, Bool, List, length, take, drop, Err, refl, sym, ap, ◌∙◌, subst, arith, inl, inr}
use Rattle.std.proofs.lemmas.List.{take_all, take_at, take-append-drop, length-take, length-take-le}
use Rattle.http_heads.specs.declared.head_err.HeadErr.{HeadErr}
use Rattle.http_heads.specs.declared.head_err.HeadErr.TheVariants.{HeadTooLarge, TooManyHeaders, BadHead, BadMethod, BadPath, BothFramings, BadCoding, BadLength, LengthRequired, BodyTooLarge, NoMemory}
use Rattle.http_heads.specs.Cut.{EndsHead, IsHeadLen, head_limit}
use Rattle.http_heads.specs.Head.{IsTooLong, GivesHead}
use Rattle.http_heads.proofs.Appends.{IsHeadLen-append}
use Rattle.http_requests.specs.Heads.{asks_for_head, FirstHead, IsRefused}

-- the head that was found among the first bytes, in all bytes
pub first_head : (bytes : List ℕ) (m n : ℕ) → m ≤ head_limit → IsHeadLen (take m bytes) n → FirstHead bytes (take n bytes) (drop n bytes)
first_head bytes m n le h =
    let big : IsHeadLen bytes n = subst (λ (l : List ℕ). IsHeadLen l n) (take-append-drop m bytes) (IsHeadLen-append (take m bytes) (drop m bytes) n h) in
    let len : length (take n bytes) ≡ n = length-take-le n bytes big.within in
    record {
      parts = sym (take-append-drop n bytes);
      shortest = subst (IsHeadLen bytes) (sym len) big;
      room = omega (arith, len, h.within, length-take m bytes, le);
    }

-- a head that ends with an empty line isn't too long
pub not_long : (bytes t r : List ℕ) → FirstHead bytes t r → IsTooLong t → ⊥
not_long bytes t r f (inl over) = omega (arith, over, f.room)
not_long bytes t r f (inr same) =
    let prefix : take (length t) bytes ≡ t = ap (take (length t)) f.parts ∙ take_at t r (length t) refl in
    same.1 (length t) (subst EndsHead (prefix ∙ sym (take_all (length t) t (omega arith))) f.shortest.ends)

pub refuses : (bytes t r : List ℕ) (why : HeadErr) (bare : Bool) → FirstHead bytes t r → GivesHead t (Err why) → why ≢ NoMemory → bare ≡ asks_for_head t → IsRefused bytes why bare
refuses bytes t r HeadTooLarge bare f g n b = absurd (not_long bytes t r f g)
refuses bytes t r TooManyHeaders bare f g n b = record { text = t; rest = r; first = f; gives = g; begins = b }
refuses bytes t r BadHead bare f g n b = record { text = t; rest = r; first = f; gives = g; begins = b }
refuses bytes t r BadMethod bare f g n b = record { text = t; rest = r; first = f; gives = g; begins = b }
refuses bytes t r BadPath bare f g n b = record { text = t; rest = r; first = f; gives = g; begins = b }
refuses bytes t r BothFramings bare f g n b = record { text = t; rest = r; first = f; gives = g; begins = b }
refuses bytes t r BadCoding bare f g n b = record { text = t; rest = r; first = f; gives = g; begins = b }
refuses bytes t r BadLength bare f g n b = record { text = t; rest = r; first = f; gives = g; begins = b }
refuses bytes t r LengthRequired bare f g n b = record { text = t; rest = r; first = f; gives = g; begins = b }
refuses bytes t r BodyTooLarge bare f g n b = record { text = t; rest = r; first = f; gives = g; begins = b }
refuses bytes t r NoMemory bare f g n b = absurd (n refl)
