use Rattle.std.proofs.Common.{ℕ, List, [], ◌++◌, sym, ap, subst, ◌∙◌, append-nil, append_assoc}
use Rattle.http_session.specs.Views.{SessionView}
use Rattle.http_session.specs.Taken.{Past, StandsAt, phase_of, Took}
use Rattle.http_session.proofs.session.Session.body_taken.Goals as goal

-- what was borrowed belongs to the part that was taken
borrowed_taken : (s : SessionView) (fed : List ℕ) (past : Past) → Took s fed past → Took (record s { borrowed = [] }) fed (record past { came = past.came ++ s.borrowed })
borrowed_taken s fed past t = record {
  text = t.text;
  part = t.part ++ s.borrowed;
  parts = t.parts ∙ ap (λ (l : List ℕ). t.text ++ l) (sym (append_assoc t.part s.borrowed s.held));
  spans = t.spans;
  stands = subst (λ (l : List ℕ). StandsAt (phase_of past) s.place l ((past.came ++ s.borrowed) ++ [])) (sym (append-nil (t.part ++ s.borrowed)))
      (subst (λ (l : List ℕ). StandsAt (phase_of past) s.place (t.part ++ s.borrowed) l) (sym (append-nil (past.came ++ s.borrowed))) t.stands);
  said = t.said;
  count = t.count;
  longer = t.longer;
}

pub returns-clause-taken : goal.returns-clause-taken
returns-clause-taken c fed past took =
    let s = c.args.self.now in
    subst (λ (v : SessionView). Took v fed (record past { came = past.came ++ s.borrowed })) (sym c.drop_borrowed.ensures) (borrowed_taken s fed past took)
