-- The head in front of a stream. What is said here is said of the bytes behind the line ends in front.
use Rattle.std.specs.Prelude.{◌≡◌, ℕ, ◌<◌, ◌≤◌, Bool, List, ◌++◌, length, Ok, Err, codes, eqb}
use Rattle.std.specs.List.{starts_with}
use Rattle.http_heads.specs.declared.head.Head.{Head}
use Rattle.http_heads.specs.declared.head_err.HeadErr.{HeadErr}
use Rattle.http_heads.specs.declared.head_err.HeadErr.TheVariants.{HeadTooLarge, TooManyHeaders, BadHead, BadMethod, BadPath, BothFramings, BadCoding, BadLength, LengthRequired, BodyTooLarge, NoMemory}
use Rattle.http_heads.specs.Cut.{IsHeadLen, HasNoHead, head_limit}
use Rattle.http_heads.specs.Head.{GivesHead}

-- the bytes begin with `HEAD `, so that a refusal is answered without a body
abbrev pub asks_for_head : List ℕ → Bool
asks_for_head text = starts_with eqb text (codes "HEAD ")

-- the head in front, and what follows it
pub record FirstHead (bytes text rest : List ℕ) : Type 0 where
  pub parts : bytes ≡ text ++ rest
  pub shortest : IsHeadLen bytes (length text)
  pub room : length text ≤ head_limit

-- the head in front is accepted and asks for this
pub record Accepts (bytes : List ℕ) (asked : Head) (rest : List ℕ) : Type 0 where
  pub text : List ℕ
  pub first : FirstHead bytes text rest
  pub gives : GivesHead text (Ok asked)

-- as many bytes as a head may have are there, and no head
pub record HasTooLong (bytes : List ℕ) (bare : Bool) : Type 0 where
  pub text : List ℕ
  pub rest : List ℕ
  pub parts : bytes ≡ text ++ rest
  pub long : length text ≡ head_limit
  pub none : HasNoHead text
  pub begins : bare ≡ asks_for_head text

-- the head in front is refused for this cause
pub record HasRefused (bytes : List ℕ) (why : HeadErr) (bare : Bool) : Type 0 where
  pub text : List ℕ
  pub rest : List ℕ
  pub first : FirstHead bytes text rest
  pub gives : GivesHead text (Err why)
  pub begins : bare ≡ asks_for_head text

-- why the head in front is refused; want of memory is no cause
abbrev pub IsRefused : List ℕ → HeadErr → Bool → Type 0
IsRefused bytes HeadTooLarge bare = HasTooLong bytes bare
IsRefused bytes TooManyHeaders bare = HasRefused bytes TooManyHeaders bare
IsRefused bytes BadHead bare = HasRefused bytes BadHead bare
IsRefused bytes BadMethod bare = HasRefused bytes BadMethod bare
IsRefused bytes BadPath bare = HasRefused bytes BadPath bare
IsRefused bytes BothFramings bare = HasRefused bytes BothFramings bare
IsRefused bytes BadCoding bare = HasRefused bytes BadCoding bare
IsRefused bytes BadLength bare = HasRefused bytes BadLength bare
IsRefused bytes LengthRequired bare = HasRefused bytes LengthRequired bare
IsRefused bytes BodyTooLarge bare = HasRefused bytes BodyTooLarge bare
IsRefused bytes NoMemory bare = ⊥

-- the stream ends inside a head
pub record EndsInHead (bytes : List ℕ) : Type 0 where
  pub some : 0 < length bytes
  pub short : length bytes < head_limit
  pub none : HasNoHead bytes

-- one name for the two causes between which a text that is no head leaves the choice
abbrev pub merged_cause : HeadErr → HeadErr
merged_cause HeadTooLarge = HeadTooLarge
merged_cause TooManyHeaders = BadHead
merged_cause BadHead = BadHead
merged_cause BadMethod = BadMethod
merged_cause BadPath = BadPath
merged_cause BothFramings = BothFramings
merged_cause BadCoding = BadCoding
merged_cause BadLength = BadLength
merged_cause LengthRequired = LengthRequired
merged_cause BodyTooLarge = BodyTooLarge
merged_cause NoMemory = NoMemory
