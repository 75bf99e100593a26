-- The texts of ids are ordered as their bytes are.
use Rattle.std.proofs.Common.{Bool, true, false, if◌then◌else◌, ◌==◌, ◌||◌, ◌≡◌, ℕ, suc, ◌+◌, ◌/◌, ◌%◌, ◌<◌, List, [], ◌∷◌, length, get_or, refl, sym, ap, ◌∙◌, arith, inl, inr}
use Rattle.std.specs.declared.cmp.Ordering.{Ordering}
use Rattle.std.specs.declared.cmp.Ordering.TheVariants.{Less, Equal, Greater}
use Rattle.std.specs.Ordering.{nat_cmp, ordering_then}
use Rattle.std.proofs.lemmas.Bool.{cases_lt}
use Rattle.std.proofs.lemmas.Bool.Decides.{nat_tests}
use Rattle.uuid.specs.Text.{by_index, hex_digit, lower}
use Rattle.nx_base.specs.Ids.{id_text}
use Rattle.nx_base.specs.Texts.{name_cmp}

-- the digit that stands for a half of a byte
abbrev pub digit : ℕ → ℕ
digit d = hex_digit lower d

-- the two digits of a byte, in front of the rest
abbrev pub spelt : ℕ → List ℕ → List ℕ
spelt b rest = digit (b / 16 % 16) ∷ digit (b % 16) ∷ rest

less : (x y : ℕ) → x < y → nat_cmp x y ≡ Less
less x y h = grind (arith, nat_tests)

greater : (x y : ℕ) → y < x → nat_cmp x y ≡ Greater
greater x y h = grind (arith, nat_tests)

equal : (x y : ℕ) → x ≡ y → nat_cmp x y ≡ Equal
equal x y h = grind (arith, nat_tests)

digit-less : (x y : ℕ) → x < y → y < 16 → digit x < digit y
digit-less x y h small = grind (arith, nat_tests)

digit-cmp : (x y : ℕ) → x < 16 → y < 16 → nat_cmp (digit x) (digit y) ≡ nat_cmp x y
digit-cmp x y hx hy =
    elim (cases_lt x y) [
      | inl lt ↦ less (digit x) (digit y) (digit-less x y lt hy) ∙ sym (less x y lt)
      | inr ge ↦ elim (cases_lt y x) [
        | inl gt ↦ greater (digit x) (digit y) (digit-less y x gt hx) ∙ sym (greater x y gt)
        | inr le ↦ let same : x ≡ y = omega arith in equal (digit x) (digit y) (ap digit same) ∙ sym (equal x y same)
      ]
    ]

byte-cmp : (a b : ℕ) → a < 256 → b < 256 → ordering_then (nat_cmp (a / 16 % 16) (b / 16 % 16)) (nat_cmp (a % 16) (b % 16)) ≡ nat_cmp a b
byte-cmp a b ha hb =
    elim (cases_lt (a / 16) (b / 16)) [
      | inl lt ↦ rw (less (a / 16 % 16) (b / 16 % 16) (omega arith)) (sym (less a b (omega arith)))
      | inr ge ↦ elim (cases_lt (b / 16) (a / 16)) [
        | inl gt ↦ rw (greater (a / 16 % 16) (b / 16 % 16) (omega arith)) (sym (greater a b (omega arith)))
        | inr le ↦
            let same : a / 16 % 16 ≡ b / 16 % 16 = omega arith in
            let high : a / 16 ≡ b / 16 = omega arith in
            rw (equal (a / 16 % 16) (b / 16 % 16) same) (low-cmp a b high)
      ]
    ] where
      low-cmp : (a b : ℕ) → a / 16 ≡ b / 16 → nat_cmp (a % 16) (b % 16) ≡ nat_cmp a b
      low-cmp a b high =
          elim (cases_lt a b) [
            | inl lt ↦ less (a % 16) (b % 16) (omega arith) ∙ sym (less a b lt)
            | inr ge ↦ elim (cases_lt b a) [
              | inl gt ↦ greater (a % 16) (b % 16) (omega arith) ∙ sym (greater a b gt)
              | inr le ↦ let same : a ≡ b = omega arith in equal (a % 16) (b % 16) (omega arith) ∙ sym (equal a b same)
            ]
          ]

then-assoc : (o p q : Ordering) → ordering_then o (ordering_then p q) ≡ ordering_then (ordering_then o p) q
then-assoc Less p q = refl
then-assoc Equal p q = refl
then-assoc Greater p q = refl

-- one byte of both texts
spelt-cmp : (a b : ℕ) (s t : List ℕ) (o : Ordering) → a < 256 → b < 256 → name_cmp s t ≡ o → name_cmp (spelt a s) (spelt b t) ≡ ordering_then (nat_cmp a b) o
spelt-cmp a b s t o ha hb rest =
    rw (
      digit-cmp (a / 16 % 16) (b / 16 % 16) (omega arith) (omega arith),
      digit-cmp (a % 16) (b % 16) (omega arith) (omega arith),
      rest,
      then-assoc (nat_cmp (a / 16 % 16) (b / 16 % 16)) (nat_cmp (a % 16) (b % 16)) o,
      byte-cmp a b ha hb,
    ) refl

-- a hyphen stands before the bytes 4, 6, 8 and 10
abbrev pub hyphened : ℕ → List ℕ → List ℕ
hyphened at text = if (at == 4) || (at == 6) || (at == 8) || (at == 10) then 45 ∷ text else text

-- the digits of the bytes, of which the first stands at that place of an id
spelt_from : ℕ → List ℕ → List ℕ
spelt_from at [] = []
spelt_from at (b ∷ bytes) = hyphened at (spelt b (spelt_from (at + 1) bytes))

hyphened-cmp : (hyphen : Bool) (s t : List ℕ) → name_cmp (if hyphen then 45 ∷ s else s) (if hyphen then 45 ∷ t else t) ≡ name_cmp s t
hyphened-cmp true s t = refl
hyphened-cmp false s t = refl

-- all are bytes
abbrev pub AreBytes : List ℕ → Type 0
AreBytes bytes = (i : ℕ) → get_or bytes i 0 < 256

spelt_from-cmp : (at : ℕ) (a b : List ℕ) → length a ≡ length b → AreBytes a → AreBytes b → name_cmp (spelt_from at a) (spelt_from at b) ≡ name_cmp a b
unfolding spelt_from
spelt_from-cmp at [] [] same small small' = refl
spelt_from-cmp at [] (y ∷ b) same small small' = absurd (omega arith)
spelt_from-cmp at (x ∷ a) [] same small small' = absurd (omega arith)
spelt_from-cmp at (x ∷ a) (y ∷ b) same small small' =
    hyphened-cmp ((at == 4) || (at == 6) || (at == 8) || (at == 10)) (spelt x (spelt_from (at + 1) a)) (spelt y (spelt_from (at + 1) b))
    ∙ spelt-cmp x y (spelt_from (at + 1) a) (spelt_from (at + 1) b) (name_cmp a b) (small 0) (small' 0)
    (spelt_from-cmp (at + 1) a b (omega arith) (λ i. small (suc i)) (λ i. small' (suc i)))

-- the text of sixteen bytes, digit by digit
id_text-spelt : (bytes : List ℕ) → length bytes ≡ 16 → id_text bytes ≡ spelt_from 0 bytes
unfolding by_index spelt_from
id_text-spelt (a0 ∷ a1 ∷ a2 ∷ a3 ∷ a4 ∷ a5 ∷ a6 ∷ a7 ∷ a8 ∷ a9 ∷ a10 ∷ a11 ∷ a12 ∷ a13 ∷ a14 ∷ a15 ∷ []) long = refl
id_text-spelt bytes long = absurd (omega arith)

-- ids compare as their texts do
pub id_text-cmp : (a b : List ℕ) → length a ≡ 16 → length b ≡ 16 → AreBytes a → AreBytes b → name_cmp (id_text a) (id_text b) ≡ name_cmp a b
id_text-cmp a b long long' small small' =
    rw (id_text-spelt a long, id_text-spelt b long') (spelt_from-cmp 0 a b (long ∙ sym long') small small')
