use Rattle.std.proofs.Common.{◌≡◌, ◌≤◌, ◌∙◌, ◌++◌, ap, sym, take, drop, arith, ◌-◌, ◌+◌, length, ℕ, List}
use Rattle.std.proofs.lemmas.List.{length-take-le, with_items_is}
use Rattle.http_session.proofs.Buffers.{fed, same}
use borrow.Rule.Slice.PartMut.{put_mid}
use Rattle.http_session.proofs.buffer.Buffer.feed.Goals as goal

pub returns-clause-added : goal.returns-clause-added
returns-clause-added c =
    let b = c.self.inside in
    let st : ℕ = c.make_room-start.result in
    let k : ℕ = b.end - b.start in
    let n : ℕ = c.min-count.result in
    let part = c.copy_from_slice.new.self in
    let v = c.make_room-start.new.bytes in
    let xs = c.deref_mut.result.now in
    let was = c.deref_mut.ensures.value in
    let len : length part ≡ n = ap length c.copy_from_slice.ensures.after ∙ length-take-le n c.args.bytes.now (omega (arith, c.min-count.ensures)) in
    let whole : length xs ≡ 32768 = omega (arith, ap length was, c.make_room-start.ensures.size) in
    let fits : (st + k) + n ≤ length xs = omega (arith, whole, c.min-count.ensures, c.make_room-start.ensures.within, c.self.invariant.0, c.self.invariant.1) in
    let back : (st + k) - st ≡ k = omega arith in
    ap (λ (t : List ℕ). take ((st + k) + n - st) (drop st t)) (with_items_is v (put_mid (st + k) ((st + k) + n - (st + k)) xs part)
    (same xs part (st + k) n fits len ∙ ap length was ∙ sym v.ok.0))
    ∙ fed xs part st (st + k) n (omega arith) fits len
    ∙ ap (λ (t : List ℕ). take ((st + k) - st) (drop st t) ++ part) was
    ∙ ap (λ (j : ℕ). take j (drop st v.items) ++ part) back
    ∙ ap (λ (t : List ℕ). t ++ part) (c.make_room-start.ensures.kept ∙ c.self.view_is)
    ∙ ap (λ (t : List ℕ). c.args.self.now ++ t) c.copy_from_slice.ensures.after
