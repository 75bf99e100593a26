-- Where the head of a request stands in a stream of bytes.
use Rattle.std.specs.Prelude.{◌≡◌, ℕ, ◌<◌, ◌≤◌, ◌⊎◌, ◌&&◌, if◌then◌else◌, ◌==◌, List, [], ◌∷◌, ◌++◌, length, take, codes}
use Rattle.httparse.specs.Ascii.{line_feed, carriage_return}

-- the bytes without the line ends in front, each of them CR LF or LF alone (RFC 9112, section 2.2)
abbrev pub drop_blank : List ℕ → List ℕ
drop_blank [] = []
drop_blank (b ∷ []) = if b == line_feed then [] else b ∷ []
drop_blank (b ∷ c ∷ bytes) =
    if b == line_feed then drop_blank (c ∷ bytes)
    else if b == carriage_return && c == line_feed then drop_blank bytes
    else b ∷ c ∷ bytes

-- the text ends with an empty line
abbrev pub EndsHead : List ℕ → Type 0
EndsHead text = (prefix : List ℕ) × ((text ≡ prefix ++ codes "\n\n") ⊎ (text ≡ prefix ++ codes "\n\r\n"))

-- the shortest prefix that ends with an empty line has n bytes
pub record IsHeadLen (bytes : List ℕ) (n : ℕ) : Type 0 where
  pub within : n ≤ length bytes
  pub ends : EndsHead (take n bytes)
  pub shortest : (m : ℕ) → m < n → ¬ (EndsHead (take m bytes))

-- no prefix ends with an empty line
abbrev pub HasNoHead : List ℕ → Type 0
HasNoHead bytes = (m : ℕ) → ¬ (EndsHead (take m bytes))

-- the most bytes of a head (this project's own)
unfoldable pub head_limit : ℕ
head_limit = 16384
