-- At each end of a session some requests were answered.
use Rattle.std.proofs.Common.{ℕ, inl, inr, ◌++◌, Bool, List, [], ◌∷◌, Option, refl}
use Rattle.http_requests.specs.Requests.{Item, cut}
use Rattle.http_front.specs.Sessions.{MadeOf, PastOf, HasClosed, EndsAs}
use Rattle.http_front.specs.declared.end.End.{End}
use Rattle.http_front.specs.declared.end.End.TheVariants as ends

abbrev pub Some : MadeOf → Type 0
Some Made = (requests : List Item) × (written : List ℕ) × Made requests written

closed : (Made : MadeOf) (a b t u : Option (List ℕ)) → HasClosed Made a b t u → Some Made
closed Made a b t u (inl s) = (s.0.requests, s.0.written, s.0.made)
closed Made a b t u (inr (inl s)) = (s.requests ++ cut s.head [] ∷ [], s.written, s.made (cut s.head []) refl)
closed Made a b t u (inr (inr s)) = (s.0.requests, s.0.written, s.0.made)

pub some_made : (Made : MadeOf) (Past : PastOf) (F : Type 0) (over : Bool) (end : End) (a b t u : Option (List ℕ)) (ended : Bool) → EndsAs Made Past F over end a b ended t u → Some Made
some_made Made Past F over ends.Clean a b t u ended s = (s.0.requests, s.0.written, s.0.made)
some_made Made Past F over ends.Closed a b t u ended (s, is) = closed Made a b t u s
some_made Made Past F over ends.Cut a b t u ended s = (s.0.requests, s.0.written, s.0.made)
some_made Made Past F over ends.ReadFault a b t u ended s = (s.0.requests, s.0.written, s.0.made)
some_made Made Past F over ends.WriteFault a b t u ended s = (s.0.requests, s.0.written, s.0.made)
some_made Made Past F over ends.DownloadFault a b t u ended s = (s.0.requests, s.0.written, s.0.made)
some_made Made Past F over ends.InputTooLong a b t u ended s = (s.0.requests, s.0.written, s.0.made)
some_made Made Past F over ends.NoMemory a b t u ended s = (s.0.requests, s.0.written, s.0.made)
