-- A session that was fed more bytes, or was told of the end of its input.
use Rattle.std.proofs.Common.{◌≡◌, ℕ, ◌+◌, ◌^◌, ◌≤◌, true, List, ◌++◌, length, take, drop, sym, ap, subst, ◌∙◌, arith, append_assoc, length-append}
use Rattle.std.proofs.lemmas.List.{take-append-le, drop-append-le}
use Rattle.http_session.specs.Views.{SessionView}
use Rattle.http_session.specs.Taken.{Past, Took}

pub fed_more : (s new : SessionView) (bytes fed : List ℕ) (past : Past) → new ≡ record s { held = s.held ++ bytes; total = s.total + length bytes } → s.total + length bytes ≤ 2 ^ 40
    → Took s fed past → Took new (fed ++ bytes) past
fed_more s new bytes fed past e within t = subst (λ (v : SessionView). Took v (fed ++ bytes) past) (sym e) (record {
  text = t.text;
  part = t.part;
  parts = ap (λ (l : List ℕ). l ++ bytes) t.parts
      ∙ append_assoc t.text (t.part ++ (s.borrowed ++ s.held)) bytes
      ∙ ap (λ (l : List ℕ). t.text ++ l) (append_assoc t.part (s.borrowed ++ s.held) bytes ∙ ap (λ (l : List ℕ). t.part ++ l) (append_assoc s.borrowed s.held bytes));
  spans = t.spans;
  stands = t.stands;
  said = t.said;
  count = ap (λ (n : ℕ). n + length bytes) t.count ∙ sym (length-append fed bytes);
  longer = λ l. omega (arith, t.longer l, t.count, within, length-append fed bytes);
})

pub told_ended : (s new : SessionView) (fed : List ℕ) (past : Past) → new ≡ record s { ended = true } → Took s fed past → Took new fed past
told_ended s new fed past e t = subst (λ (v : SessionView). Took v fed past) (sym e) (record {
  text = t.text;
  part = t.part;
  parts = t.parts;
  spans = t.spans;
  stands = t.stands;
  said = t.said;
  count = t.count;
  longer = t.longer;
})

pub told_longer : (s new : SessionView) (fed : List ℕ) (past : Past) → new ≡ record s { longer = true } → s.total ≡ 2 ^ 40 → Took s fed past → Took new fed past
told_longer s new fed past e full t = subst (λ (v : SessionView). Took v fed past) (sym e) (record {
  text = t.text;
  part = t.part;
  parts = t.parts;
  spans = t.spans;
  stands = t.stands;
  said = t.said;
  count = t.count;
  longer = λ l. sym t.count ∙ full;
})

-- bytes were put behind those of a buffer, of which the first are borrowed
pub grown : (s : SessionView) (n l : ℕ) (old new bytes : List ℕ) → l ≤ length old → s.borrowed ≡ take l old → s.held ≡ drop l old → new ≡ old ++ bytes → n ≡ length bytes
    → record s { borrowed = take l new; held = drop l new; total = s.total + n } ≡ record s { held = s.held ++ bytes; total = s.total + length bytes }
grown s n l old new bytes le borrowed held e count =
    ap (λ (t : List ℕ). record s { borrowed = take l t; held = drop l t; total = s.total + n }) e
    ∙ ap (λ (t : List ℕ). record s { borrowed = t; held = drop l (old ++ bytes); total = s.total + n }) (take-append-le l old bytes le ∙ sym borrowed)
    ∙ ap (λ (t : List ℕ). record s { held = t; total = s.total + n }) (drop-append-le l old bytes le ∙ ap (λ (t : List ℕ). t ++ bytes) (sym held))
    ∙ ap (λ (m : ℕ). record s { held = s.held ++ bytes; total = s.total + m }) count
