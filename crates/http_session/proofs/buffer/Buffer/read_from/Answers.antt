use Rattle.std.proofs.Common.{◌≡◌, ◌≤◌, ◌<◌, ◌∙◌, ◌++◌, ap, sym, take, drop, arith, ◌-◌, ◌+◌, length, ℕ, List, [], append-nil}
use Rattle.std.proofs.lemmas.List.{length-take-le, length-drop, with_items_is}
use Rattle.std.proofs.KnownBytes.{Consumes-nil, Consumes-kept}
use Rattle.http_session.proofs.Buffers.{fed_prefix, same, held_len}
use Rattle.http_session.proofs.Sources.{told_end}
use borrow.Rule.Slice.PartMut.{put_mid}
use Rattle.http_session.proofs.buffer.Buffer.read_from.Goals as goal

pub returns-in_default-clause-reads : goal.returns-in_default-clause-reads
returns-in_default-clause-reads g c =
    let b = c.self.inside in
    let st : ℕ = c.make_room-start.result in
    let k : ℕ = b.end - b.start in
    let n : ℕ = c.min-room.result in
    let part = c.read.new.buf in
    let v = c.make_room-start.new.bytes in
    let xs = c.deref_mut.result.now in
    let was = c.deref_mut.ensures.value in
    let le : st ≤ b.start = c.make_room-start.ensures.within in
    let whole : length xs ≡ 32768 = ap length was ∙ c.make_room-start.ensures.size in
    let fits : (st + k) + n ≤ length xs = omega (arith, whole, c.min-room.ensures, le, c.self.invariant.0, c.self.invariant.1) in
    let wide : (st + k) + n - (st + k) ≡ n = omega arith in
    let len : length part ≡ n = c.read.auto.buf ∙ ap (λ (j : ℕ). length (take j (drop (st + k) xs))) wide ∙ length-take-le n (drop (st + k) xs) (omega (arith, length-drop (st + k) xs, fits)) in (
      Consumes-kept (g.S.Source.left c.args.input.now) (g.S.Source.left c.args.input.now) (g.S.Source.left c.read.new.self) [] (Consumes-nil (g.S.Source.left c.args.input.now)) c.in_default.ensures.bytes,
      ap (λ (t : List ℕ). take ((st + k) - st) (drop st t)) (with_items_is v (put_mid (st + k) ((st + k) + n - (st + k)) xs part) (same xs part (st + k) n fits len ∙ ap length was ∙ sym v.ok.0))
          ∙ fed_prefix xs part st (st + k) n 0 ((st + k) - st) (omega arith) fits len (omega arith) (omega arith)
          ∙ append-nil (take ((st + k) - st) (drop st xs))
          ∙ ap (λ (t : List ℕ). take ((st + k) - st) (drop st t)) was
          ∙ ap (λ (j : ℕ). take j (drop st v.items)) (omega arith)
          ∙ c.make_room-start.ensures.kept ∙ c.self.view_is,
    )

pub returns-clause-reads : goal.returns-clause-reads
returns-clause-reads g c =
    let b = c.self.inside in
    let st : ℕ = c.make_room-start.result in
    let k : ℕ = b.end - b.start in
    let n : ℕ = c.min-room.result in
    let m : ℕ = c.in-Ok.count in
    let part = c.read.new.buf in
    let v = c.make_room-start.new.bytes in
    let xs = c.deref_mut.result.now in
    let was = c.deref_mut.ensures.value in
    let le : st ≤ b.start = c.make_room-start.ensures.within in
    let whole : length xs ≡ 32768 = ap length was ∙ c.make_room-start.ensures.size in
    let fits : (st + k) + n ≤ length xs = omega (arith, whole, c.min-room.ensures, le, c.self.invariant.0, c.self.invariant.1) in
    let wide : (st + k) + n - (st + k) ≡ n = omega arith in
    let len : length part ≡ n = c.read.auto.buf ∙ ap (λ (j : ℕ). length (take j (drop (st + k) xs))) wide ∙ length-take-le n (drop (st + k) xs) (omega (arith, length-drop (st + k) xs, fits)) in
    let few : m ≤ n = omega (arith, c.in-Ok.ensures.bound.0, len) in
    let back : (st + k) - st ≡ k = omega arith in
    let held : length c.args.self.now ≡ k = sym (ap length c.self.view_is) ∙ held_len b.bytes.items b.start b.end c.self.invariant.0 (omega (arith, c.self.invariant.1, c.self.invariant.2)) in
    let some : 0 < length part = omega (arith, len, held, c.requires.room, c.requires.some, c.min-room.ensures, c.make_room-start.ensures.room, c.self.invariant.0, c.self.invariant.1) in (
      take m part,
      sym (length-take-le m part (omega (arith, few, len))),
      omega (arith, few, c.min-room.ensures),
      c.in-Ok.ensures.bytes.0,
      ap (λ (t : List ℕ). take ((st + k) + m - st) (drop st t)) (with_items_is v (put_mid (st + k) ((st + k) + n - (st + k)) xs part) (same xs part (st + k) n fits len ∙ ap length was ∙ sym v.ok.0))
          ∙ fed_prefix xs part st (st + k) n m ((st + k) + m - st) (omega arith) fits len few (omega arith)
          ∙ ap (λ (t : List ℕ). take ((st + k) - st) (drop st t) ++ take m part) was
          ∙ ap (λ (j : ℕ). take j (drop st v.items) ++ take m part) back
          ∙ ap (λ (t : List ℕ). t ++ take m part) (c.make_room-start.ensures.kept ∙ c.self.view_is),
      λ none. (c.in-Ok.ensures.bytes.1 none some, told_end (length part) m (g.S.Source.ended c.args.input.now) (g.S.Source.ended c.read.new.self) c.in-Ok.ensures.end none some),
    )
