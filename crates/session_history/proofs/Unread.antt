-- A content of which nothing was read.
use Rattle.std.proofs.Common.{◌≡◌, ℕ, zero, suc, Bool, true, false, if◌then◌else◌, List, [], ◌∷◌, ◌++◌, length, None, IsTrue, refl, sym, ap, arith, append-nil, length-append}
use Rattle.std.specs.Char.{is_ascii_hexdigit}
use Rattle.std.proofs.lemmas.List.Elements.{All-cons, All-nil}
use Rattle.http_heads.specs.declared.framing.Framing.{Framing}
use Rattle.http_heads.specs.declared.framing.Framing.TheVariants as framings
use Rattle.http_chunks.specs.declared.place.Place.TheVariants.{Line}
use Rattle.http_chunks.specs.Lines.{line_limit, HasLine, IsOpenLine}
use Rattle.http_chunks.specs.Reading as readings
use Rattle.http_chunks.specs.Reading.{Holds}
use Rattle.http_chunks.proofs.BodyLemmas.{none_yet}
use Rattle.http_chunks.proofs.LineLemmas.{length-line}
use Rattle.http_requests.specs.Bodies.{HoldsBody}
use Rattle.http_front.specs.Asking.{is_empty}
use Rattle.session_history.proofs.Made.{empty_holds}

-- something that is valid is printed by some bytes, which may follow on none
written : {A : Type 0} (print : A → List ℕ) (Valid : A → Type 0) (a : A) → Valid a → (more : List ℕ) × (b : A) × (Valid b × ([] ++ more ≡ print b ++ []))
written print Valid a valid = (print a, a, (valid, sym (append-nil (print a))))

-- no bytes are a proper beginning of a size line
open_line : IsOpenLine []
unfolding line_limit
open_line = record {
  short = omega arith;
  none = λ line rest reads.
      let none = simp length-append at (ap length reads.1) in
      let has : HasLine [] line rest = record { short = record { valid = reads.0; short = omega (arith, none) }; parts = reads.1 } in
      let some = length-line [] rest line has in
      absurd (omega (arith, some.0, some.2));
  open_end = written _ _ (record { digits = 48 ∷ []; pad = []; extension = None }) (record {
    digits = (omega arith, omega arith, All-cons (λ b. IsTrue (is_ascii_hexdigit b)) 48 [] refl (All-nil (λ b. IsTrue (is_ascii_hexdigit b))));
    pad = All-nil _;
    extension = tt;
  });
}

-- so no bytes are a content in chunks that is cut off
no_chunk : Holds [] (readings.cut [])
no_chunk = (Line, [], record { prefix = []; parts = refl; reached = none_yet }, open_line)

-- a content that isn't empty is cut off where nothing of it is there
pub unread_cut : (framing : Framing) → is_empty framing ≡ false → HoldsBody framing [] (readings.cut [])
unread_cut framings.None e = absurd cc
unread_cut (framings.Length zero) e = absurd cc
unread_cut (framings.Length (suc n)) e = (omega arith, refl)
unread_cut framings.Chunked e = no_chunk

-- of a content nothing is there: it is whole if it is empty, and else cut off
pub unread_holds : (framing : Framing) → HoldsBody framing [] (if is_empty framing then readings.whole [] [] else readings.cut [])
unread_holds framing = by_empty (is_empty framing) refl
  where
    by_empty : (empty : Bool) → is_empty framing ≡ empty → HoldsBody framing [] (if empty then readings.whole [] [] else readings.cut [])
    by_empty true e = empty_holds framing e []
    by_empty false e = unread_cut framing e
