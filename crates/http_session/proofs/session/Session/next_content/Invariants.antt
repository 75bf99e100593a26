use Rattle.std.proofs.Common.{◌≡◌, ℕ, List, [], length}
use Rattle.http_session.specs.declared.place.Place.TheVariants as places
use Rattle.http_session.specs.Taken.{Past, Took}
use Rattle.http_session.proofs.Progress.{Shrinks}
use Rattle.http_session.proofs.session.Session.next_content.Given as goal

-- framing was taken, and the machine stands in the content
abbrev pub invariant-pieces : goal.invariant-pieces
invariant-pieces l = record {
  took : (fed : List ℕ) (past : Past) → Took l.initial.self fed past → Took l.self fed past;
  none : l.self.borrowed ≡ [];
  quiet : l.self.out ≡ [];
  place : l.self.place ≡ places.Inside l.body l.closes;
  shrinks : Shrinks l.initial.self l.self;
}

abbrev pub decreases-pieces : goal.decreases-pieces
decreases-pieces l = length l.self.held
