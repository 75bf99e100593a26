-- That a stream holds a list of requests, by what stands in front of each rest of it.
use Rattle.std.specs.Prelude.{◌≡◌, ℕ, Bool, List, []}
use Rattle.http_heads.specs.declared.head.Head.{Head}
use Rattle.http_heads.specs.declared.head_err.HeadErr.{HeadErr}
use Rattle.http_heads.specs.Cut.{drop_blank}
use Rattle.http_chunks.specs.Reading.{Reading}
use Rattle.http_requests.specs.Heads.{IsRefused, EndsInHead}
use Rattle.http_requests.specs.Requests.{Item, Asks, AreRequests}

-- What stands in front of a stream: nothing, a head that the stream ends in, a head that is refused, or a request.
pub data Opening : Type 0 where
  over : Opening
  inside_head : Opening
  refusal : HeadErr → Bool → Opening
  asked : Head → Reading → Opening

abbrev pub Opens : List ℕ → Opening → Type 0
Opens bytes over = bytes ≡ []
Opens bytes inside_head = EndsInHead bytes
Opens bytes (refusal why bare) = IsRefused bytes why bare
Opens bytes (asked head reading) = Asks bytes head reading

abbrev pub HasPrefix : List ℕ → Type 0
HasPrefix bytes = (opening : Opening) × Opens bytes opening

-- the same behind the line ends in front
abbrev pub HasOpening : List ℕ → Type 0
HasOpening bytes = HasPrefix (drop_blank bytes)

-- the stream holds a list of requests, and ends inside a request or not
abbrev pub HasRequests : List ℕ → Type 0
HasRequests bytes = (items : List Item) × (inside : Bool) × AreRequests bytes items inside
