use Rattle.std.proofs.Common.{◌≡◌, ℕ, ◌+◌, ◌≤◌, ◌^◌, List, [], ◌∷◌, ◌++◌, length, Bool, true, refl, sym, ap, subst, ◌∙◌, arith, append-nil, add-zero}
use Rattle.std.specs.declared.option.Option.{Option}
use Rattle.std.specs.Io.KnownBytes.{Consumes, IsAtEnd}
use Rattle.http_session.specs.Views.{SessionView}
use Rattle.http_session.specs.Fills.{InputEnds}
use Rattle.http_session.proofs.Fed.{fed_more, told_ended}
use Rattle.http_session.proofs.session.Session.feed_from.Goals as goal

none_of : (bytes : List ℕ) → length bytes ≡ 0 → bytes ≡ []
none_of [] e = refl
none_of (b ∷ bytes) e = absurd (omega (arith, e))

-- where no bytes came the input ended
no_more : (left left' : Option (List ℕ)) (ended : Bool) (s mid new : SessionView) (bytes : List ℕ) → length bytes ≡ 0 → Consumes left left' bytes → IsAtEnd left' → ended ≡ true
    → mid ≡ record s { held = s.held ++ bytes; total = s.total + length bytes } → new ≡ record mid { ended = true } → InputEnds left left' ended s new
no_more left left' ended s mid new bytes zero consumed at_end told e f =
    let none = none_of bytes zero in
    let same : mid ≡ s = e ∙ ap (λ (l : List ℕ). record s { held = s.held ++ l; total = s.total + length l }) none ∙ ap (λ (n : ℕ). record s { held = s.held ++ []; total = n }) (add-zero s.total)
    ∙ ap (λ (l : List ℕ). record s { held = l }) (append-nil s.held) in
    let noted : new ≡ record s { ended = true } = f ∙ ap (λ (v : SessionView). record v { ended = true }) same in
    record {
      consumed = subst (Consumes left left') none consumed;
      at_end = at_end;
      told = told;
      noted = noted;
      took = λ fed past t. told_ended s new fed past noted t;
    }

pub returns-then-count-eq0-clause-fills : goal.returns-then-count-eq0-clause-fills
returns-then-count-eq0-clause-fills g c =
    let r = c.in-Ok.ensures.reads in
    let zero = c.if-count-eq0.true in
    let end = r.5 zero in
    no_more (g.S.Source.left c.args.input.now) (g.S.Source.left c.read_behind.new.input) (g.S.Source.ended c.read_behind.new.input) c.args.self.now c.read_behind.new.self c.end_of_input.new.self r.0
    (sym r.1 ∙ zero) r.3 end.0 end.1 r.4 c.end_of_input.ensures

pub returns-clause-fills : goal.returns-clause-fills
returns-clause-fills g c =
    let r = c.in-Ok.ensures.reads in
    let s = c.args.self.now in
    let total = ap (λ (v : SessionView). v.total) c.self.view_is in
    let within : s.total + length r.0 ≤ 2 ^ 40 = omega (arith, r.1, r.2, c.min-most.ensures, total, c.self.invariant.4) in
    record {
      bytes = r.0;
      some = omega (arith, r.1, c.if-count-eq0.false);
      consumed = r.3;
      held = r.4;
      within = within;
      took = λ fed past t. fed_more s c.read_behind.new.self r.0 fed past r.4 within t;
    }
