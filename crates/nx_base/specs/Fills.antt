-- How uploads are spread over the members of a group of stores. A file store is a group of one.
use Rattle.std.specs.Prelude.{ℕ, ◌%◌, not, List, length, filter, Option, slice_get}
use Rattle.std.specs.Option.{option_map}
use Rattle.nx_base.specs.declared.member.Member.{Member}
use Rattle.nx_base.specs.declared.fill.Fill.{Fill}
use Rattle.nx_base.specs.declared.fill.Fill.TheVariants.{First, RoundRobin}

pub record Group : Type 0 where
  pub members : List Member
  pub fill : Fill

-- the members that take new blobs, in their order
abbrev pub writable : Group → List Member
writable group = filter (λ m. not m.read_only) group.members

-- which of n writable members is next, after that many uploads
abbrev pub turn : Fill → ℕ → ℕ → ℕ
turn First count n = 0
turn RoundRobin count n = count % n

-- the store for the upload with that count. There is none where no member is writable.
abbrev pub chosen : Group → ℕ → Option (List ℕ)
chosen group count = option_map (λ m. m.store) (slice_get (writable group) (turn group.fill count (length (writable group))))
