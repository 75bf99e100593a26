-- The command lines that the program knows.
use Rattle.std.specs.Prelude.{◌≡◌, ℕ, ◌<◌, List, [], ◌∷◌, length, map, Result, Ok, Err, codes, string_bytes}
use Rattle.std.specs.declared.string.String.{String}
use Rattle.std.specs.declared.alloc.Global.{Global}
use Rattle.nexrepo.specs.declared.words.Command.{Command}
use Rattle.nexrepo.specs.declared.words.Command.TheVariants as commands
use Rattle.nexrepo.specs.declared.words.Usage.{Usage}
use Rattle.nexrepo.specs.declared.words.Usage.TheVariants as usage

-- a folder, which is any text that isn't empty, and `stdio`
pub record IsStdio (line : List (List ℕ)) (folder : List ℕ) : Type 0 where
  pub words : line ≡ folder ∷ codes "stdio" ∷ []
  pub some : 0 < length folder

-- the words as texts
abbrev pub texts_of : List (String Global) → List (List ℕ)
texts_of words = map (λ w. string_bytes w) words

-- the command of the words; where there is none, and only there, the words are refused
abbrev pub GivesCommand : List (String Global) → Result Command Usage → Type 0
GivesCommand words (Ok (commands.Stdio folder)) = IsStdio (texts_of words) (string_bytes folder)
GivesCommand words (Err usage.Words) = (folder : List ℕ) → ¬ (IsStdio (texts_of words) folder)
GivesCommand words (Err usage.NoMemory) = (folder : List ℕ) × IsStdio (texts_of words) folder
