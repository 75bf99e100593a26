-- The same bytes and the same answers make one history.
use Rattle.std.proofs.Common.{◌≡◌, ℕ, ◌⊎◌, Bool, true, false, List, [], ◌∷◌, map, refl, sym, ap, subst, ◌∙◌, inl, inr}
use Rattle.http_heads.specs.declared.head.Head.{Head}
use Rattle.http_heads.specs.declared.head_err.HeadErr.{HeadErr}
use Rattle.http_heads.specs.declared.body_err.BodyErr.{BodyErr}
use Rattle.http_heads.specs.declared.body_err.BodyErr.TheVariants.{BadChunk, BodyTooLarge}
use Rattle.http_heads.specs.Cut.{drop_blank}
use Rattle.repo_model.specs.declared.transfer.UploadErr.{UploadErr}
use Rattle.http_chunks.specs.Reading as readings
use Rattle.http_requests.specs.Heads.{Accepts, IsRefused, merged_cause}
use Rattle.http_requests.specs.Bodies.{HoldsBody}
use Rattle.http_requests.specs.Requests.{AreRequests, stop_of}
use Rattle.http_requests.proofs.Unique.{body_same}
use Rattle.http_requests.proofs.FirstHeads.{accepts_same, accepts_refused, refused_same, refused_some, refused_open, accepts_some, accepts_open}
use Rattle.session_history.specs.Marks.{Mark, refused, accepted, content, spoiled, replied, failed, broke, answers_in, merged_mark}
use Rattle.session_history.specs.Phases.{Phase, between, asked, beginning, inside, putting, over, after}
use Rattle.session_history.specs.Histories.{HasNoNext, IsHistory}
use Rattle.session_history.proofs.Goes.{Comes, Goes, of_history, accepts, refuses, holds, stops, left}

-- ---- one content

-- a refused content is neither whole nor cut, and is refused so once
pub whole_stop : (whole rest part : List ℕ) (why : BodyErr) → readings.whole whole rest ≡ stop_of part why → ⊥
whole_stop whole rest part (BadChunk at) e = cc
whole_stop whole rest part BodyTooLarge e = cc

pub cut_stop : (came part : List ℕ) (why : BodyErr) → readings.cut came ≡ stop_of part why → ⊥
cut_stop came part (BadChunk at) e = cc
cut_stop came part BodyTooLarge e = cc

stop_same : (a b : List ℕ) (e f : BodyErr) → stop_of a e ≡ stop_of b f → spoiled a e ≡ spoiled b f
stop_same a b (BadChunk at) (BadChunk other) e = cc
stop_same a b (BadChunk at) BodyTooLarge e = cc
stop_same a b BodyTooLarge (BadChunk other) e = cc
stop_same a b BodyTooLarge BodyTooLarge e = cc

-- ---- nothing comes

rests_same : (phase : Phase) (bytes came other : List ℕ) → HasNoNext phase bytes came → HasNoNext phase bytes other → came ≡ other
rests_same between bytes came other x y = x.1 ∙ sym y.1
rests_same (inside head) bytes came other x y =
    let same : readings.cut came ≡ readings.cut other = body_same head.framing bytes (readings.cut came) (readings.cut other) x y in
    cc
rests_same (asked head) bytes came other x y = x ∙ sym y
rests_same (beginning head) bytes came other x y = x ∙ sym y
rests_same (putting head) bytes came other x y = x ∙ sym y
rests_same over bytes came other x y = x ∙ sym y

-- ---- what comes is read, or it is an answer

-- the mark is what the bytes hold in front of the rest
abbrev Reads : Phase → Mark → List ℕ → List ℕ → Type 0
Reads between (accepted head) bytes rest = Accepts (drop_blank bytes) head rest
Reads between (refused why bare) bytes rest = IsRefused (drop_blank bytes) why bare
Reads (inside head) (content whole) bytes rest = HoldsBody head.framing bytes (readings.whole whole rest)
Reads (inside head) (spoiled part why) bytes rest = HoldsBody head.framing bytes (stop_of part why)
Reads phase mark bytes rest = ⊥

-- the mark is an answer, which leaves the bytes; where an upload breaks, the session ends
abbrev Answers : Phase → Mark → List ℕ → List ℕ → Type 0
Answers (asked head) (replied reply) bytes rest = bytes ≡ rest
Answers (asked head) (failed why) bytes rest = bytes ≡ rest
Answers (beginning head) (replied reply) bytes rest = bytes ≡ rest
Answers (beginning head) (failed why) bytes rest = bytes ≡ rest
Answers (inside head) (broke why) bytes rest = Unit {0}
Answers (putting head) (replied reply) bytes rest = bytes ≡ rest
Answers (putting head) (failed why) bytes rest = bytes ≡ rest
Answers phase mark bytes rest = ⊥

abbrev Kind : Phase → Mark → List Mark → List ℕ → List ℕ → Type 0
Kind phase mark marks bytes rest =
    (Reads phase mark bytes rest × (answers_in (mark ∷ marks) ≡ answers_in marks)) ⊎ (Answers phase mark bytes rest × (answers_in (mark ∷ marks) ≡ mark ∷ answers_in marks))

kind : (phase : Phase) (mark : Mark) (marks : List Mark) (bytes rest : List ℕ) → Comes phase mark bytes rest → Kind phase mark marks bytes rest
kind between (accepted head) marks bytes rest x = inl (accepts bytes rest head x, refl)
kind between (refused why bare) marks bytes rest x = inl (refuses bytes rest why bare x, refl)
kind (inside head) (content whole) marks bytes rest x = inl (holds head bytes rest whole x, refl)
kind (inside head) (spoiled part why) marks bytes rest x = inl (stops head bytes rest part why x, refl)
kind (inside head) (broke why) marks bytes rest x = inr (tt, refl)
kind (asked head) (replied reply) marks bytes rest x = inr (left bytes x.0 rest x.1 x.2, refl)
kind (asked head) (failed why) marks bytes rest x = inr (left bytes x.0 rest x.1 x.2, refl)
kind (beginning head) (replied reply) marks bytes rest x = inr (left bytes x.0 rest x.1 x.2, refl)
kind (beginning head) (failed why) marks bytes rest x = inr (left bytes x.0 rest x.1 x.2, refl)
kind (putting head) (replied reply) marks bytes rest x = inr (left bytes x.0 rest x.1 x.2, refl)
kind (putting head) (failed why) marks bytes rest x = inr (left bytes x.0 rest x.1 x.2, refl)
kind phase mark marks bytes rest x = absurd x.2

-- ---- where nothing is read

pub no_head : (bytes rest : List ℕ) (head : Head) (ends_inside : Bool) → AreRequests bytes [] ends_inside → Accepts (drop_blank bytes) head rest → ⊥
no_head bytes rest head true x y = accepts_open (drop_blank bytes) rest head y x
no_head bytes rest head false x y = accepts_some (drop_blank bytes) rest head y x

no_refusal : (bytes : List ℕ) (why : HeadErr) (bare ends_inside : Bool) → AreRequests bytes [] ends_inside → IsRefused (drop_blank bytes) why bare → ⊥
no_refusal bytes why bare true x y = refused_open (drop_blank bytes) why bare y x
no_refusal bytes why bare false x y = refused_some (drop_blank bytes) why bare y x

none_read : (phase : Phase) (mark : Mark) (bytes rest came : List ℕ) → HasNoNext phase bytes came → Reads phase mark bytes rest → ⊥
none_read between (accepted head) bytes rest came x y = no_head bytes rest head x.0.0 x.0.1 y
none_read between (refused why bare) bytes rest came x y = no_refusal bytes why bare x.0.0 x.0.1 y
none_read (inside head) (content whole) bytes rest came x y =
    let same : readings.whole whole rest ≡ readings.cut came = body_same head.framing bytes (readings.whole whole rest) (readings.cut came) y x in
    cc
none_read (inside head) (spoiled part why) bytes rest came x y =
    cut_stop came part why (body_same head.framing bytes (readings.cut came) (stop_of part why) x y)
none_read phase mark bytes rest came x y = y

-- ---- two marks that come next of the same bytes

-- they are one, and what comes behind the one comes behind the other
abbrev Joins : Phase → Mark → Mark → List ℕ → List ℕ → Type 0
Joins phase mark other rest more =
    (merged_mark mark ≡ merged_mark other) × ((marks : List Mark) (came : List ℕ) → Goes (after phase other) more marks came → Goes (after phase mark) rest marks came)

joins : (phase : Phase) (mark other : Mark) (rest more : List ℕ) → mark ≡ other → rest ≡ more → Joins phase mark other rest more
joins phase mark other rest more e f = (
  ap merged_mark e,
  λ marks came x.
      subst (λ (m : Mark). Goes (after phase m) rest marks came) (sym e) (subst (λ (t : List ℕ). Goes (after phase other) t marks came) (sym f) x),
)

-- an ended session goes on with no bytes
any_rest : (rest more : List ℕ) (marks : List Mark) (came : List ℕ) → Goes over more marks came → Goes over rest marks came
any_rest rest more [] came x = x
any_rest rest more (mark ∷ marks) came x = absurd x.1.2

read_joins : (phase : Phase) (mark other : Mark) (bytes rest more : List ℕ) → Reads phase mark bytes rest → Reads phase other bytes more → Joins phase mark other rest more
read_joins between (accepted head) (accepted other) bytes rest more x y =
    let same = accepts_same (drop_blank bytes) rest more head other x y in
    joins between (accepted head) (accepted other) rest more (ap accepted same.0) same.1
read_joins between (accepted head) (refused why bare) bytes rest more x y = absurd (accepts_refused (drop_blank bytes) rest head why bare x y)
read_joins between (refused why bare) (accepted head) bytes rest more x y = absurd (accepts_refused (drop_blank bytes) more head why bare y x)
read_joins between (refused why bare) (refused cause naked) bytes rest more x y =
    let same = refused_same (drop_blank bytes) why cause bare naked x y in
    let causes : merged_cause why ≡ merged_cause cause = same.0 in
    let bares : bare ≡ naked = same.1 in
    (cc, any_rest rest more)
read_joins (inside head) (content whole) (content other) bytes rest more x y =
    let same : readings.whole whole rest ≡ readings.whole other more = body_same head.framing bytes (readings.whole whole rest) (readings.whole other more) x y in
    joins (inside head) (content whole) (content other) rest more (cc) (cc)
read_joins (inside head) (content whole) (spoiled part why) bytes rest more x y =
    absurd (whole_stop whole rest part why (body_same head.framing bytes (readings.whole whole rest) (stop_of part why) x y))
read_joins (inside head) (spoiled part why) (content whole) bytes rest more x y =
    absurd (whole_stop whole more part why (body_same head.framing bytes (readings.whole whole more) (stop_of part why) y x))
read_joins (inside head) (spoiled part why) (spoiled other cause) bytes rest more x y =
    (stop_same part other why cause (body_same head.framing bytes (stop_of part why) (stop_of other cause) x y), any_rest rest more)
read_joins between (accepted head) other bytes rest more x y = absurd y
read_joins between (refused why bare) other bytes rest more x y = absurd y
read_joins (inside head) (content whole) other bytes rest more x y = absurd y
read_joins (inside head) (spoiled part why) other bytes rest more x y = absurd y
read_joins phase mark other bytes rest more x y = absurd x

answer_joins : (phase : Phase) (mark : Mark) (bytes rest more : List ℕ) → Answers phase mark bytes rest → Answers phase mark bytes more → Joins phase mark mark rest more
answer_joins (asked head) (replied reply) bytes rest more x y = joins (asked head) (replied reply) (replied reply) rest more refl (sym x ∙ y)
answer_joins (asked head) (failed why) bytes rest more x y = joins (asked head) (failed why) (failed why) rest more refl (sym x ∙ y)
answer_joins (beginning head) (replied reply) bytes rest more x y = joins (beginning head) (replied reply) (replied reply) rest more refl (sym x ∙ y)
answer_joins (beginning head) (failed why) bytes rest more x y = joins (beginning head) (failed why) (failed why) rest more refl (sym x ∙ y)
answer_joins (inside head) (broke why) bytes rest more x y = (refl, any_rest rest more)
answer_joins (putting head) (replied reply) bytes rest more x y = joins (putting head) (replied reply) (replied reply) rest more refl (sym x ∙ y)
answer_joins (putting head) (failed why) bytes rest more x y = joins (putting head) (failed why) (failed why) rest more refl (sym x ∙ y)
answer_joins phase mark bytes rest more x y = absurd x

-- no upload breaks behind its content, so no content comes where an upload broke

put_first : (head : Head) (bytes : List ℕ) (marks answers : List Mark) (came : List ℕ) (why : UploadErr) → Goes (putting head) bytes marks came → answers_in marks ≡ broke why ∷ answers → ⊥
put_first head bytes [] answers came why x e = cc
put_first head bytes (replied reply ∷ marks) answers came why x e = cc
put_first head bytes (failed cause ∷ marks) answers came why x e = cc
put_first head bytes (mark ∷ marks) answers came why x e = x.1.2

over_first : (bytes : List ℕ) (marks answers : List Mark) (came : List ℕ) (why : UploadErr) → Goes over bytes marks came → answers_in marks ≡ broke why ∷ answers → ⊥
over_first bytes [] answers came why x e = cc
over_first bytes (mark ∷ marks) answers came why x e = x.1.2

not_both : (phase : Phase) (mark answer : Mark) (bytes rest more : List ℕ) (marks answers : List Mark) (came : List ℕ)
    → Reads phase mark bytes rest → Answers phase answer bytes more
    → Goes (after phase mark) rest marks came → answers_in marks ≡ answer ∷ answers → ⊥
not_both (inside head) (content whole) (broke why) bytes rest more marks answers came x y z e = put_first head rest marks answers came why z e
not_both (inside head) (spoiled part cause) (broke why) bytes rest more marks answers came x y z e = over_first rest marks answers came why z e
not_both (inside head) (content whole) answer bytes rest more marks answers came x y z e = y
not_both (inside head) (spoiled part cause) answer bytes rest more marks answers came x y z e = y
not_both between mark answer bytes rest more marks answers came x y z e = y
not_both phase mark answer bytes rest more marks answers came x y z e = x

-- ---- the two histories

-- where the one has no more marks, the other has none
no_more : (phase : Phase) (mark : Mark) (marks : List Mark) (bytes rest came : List ℕ) → HasNoNext phase bytes came → Comes phase mark bytes rest
    → [] ≡ answers_in (mark ∷ marks) → ⊥
no_more phase mark marks bytes rest came x y e = by_kind (kind phase mark marks bytes rest y)
  where
    by_kind : Kind phase mark marks bytes rest → ⊥
    by_kind (inl k) = none_read phase mark bytes rest came x k.0
    by_kind (inr k) = let clash : [] ≡ mark ∷ answers_in marks = e ∙ k.1 in cc

-- their first marks are one, and the answers behind them are the same
abbrev Both : Phase → Mark → Mark → List Mark → List Mark → List ℕ → List ℕ → Type 0
Both phase mark other marks others rest more = Joins phase mark other rest more × (answers_in marks ≡ answers_in others)

both : (phase : Phase) (mark other : Mark) (marks others : List Mark) (bytes rest more came last : List ℕ)
    → Kind phase mark marks bytes rest → Kind phase other others bytes more
    → Goes (after phase mark) rest marks came → Goes (after phase other) more others last → answers_in (mark ∷ marks) ≡ answers_in (other ∷ others)
    → Both phase mark other marks others rest more
both phase mark other marks others bytes rest more came last (inl k) (inl l) x y e = (read_joins phase mark other bytes rest more k.0 l.0, sym k.1 ∙ e ∙ l.1)
both phase mark other marks others bytes rest more came last (inr k) (inr l) x y e =
    let firsts : mark ∷ answers_in marks ≡ other ∷ answers_in others = sym k.1 ∙ e ∙ l.1 in
    let one : mark ≡ other = cc in
    let here : Answers phase mark bytes more = subst (λ (m : Mark). Answers phase m bytes more) (sym one) l.0 in
    (subst (λ (m : Mark). Joins phase mark m rest more) one (answer_joins phase mark bytes rest more k.0 here), (cc))
both phase mark other marks others bytes rest more came last (inl k) (inr l) x y e =
    absurd (not_both phase mark other bytes rest more marks (answers_in others) came k.0 l.0 x (sym k.1 ∙ e ∙ l.1))
both phase mark other marks others bytes rest more came last (inr k) (inl l) x y e =
    absurd (not_both phase other mark bytes more rest others (answers_in marks) last l.0 k.0 y (sym l.1 ∙ sym e ∙ k.1))

same : (phase : Phase) (marks others : List Mark) (bytes came other : List ℕ) → Goes phase bytes marks came → Goes phase bytes others other
    → answers_in marks ≡ answers_in others → (map merged_mark marks ≡ map merged_mark others) × (came ≡ other)
same phase [] [] bytes came other x y e = (refl, rests_same phase bytes came other x y)
same phase [] (n ∷ others) bytes came other x y e = absurd (no_more phase n others bytes y.0 came x y.1 e)
same phase (m ∷ marks) [] bytes came other x y e = absurd (no_more phase m marks bytes x.0 other y x.1 (sym e))
same phase (m ∷ marks) (n ∷ others) bytes came other x y e =
    let first = kind phase m marks bytes x.0 x.1 in
    let second = kind phase n others bytes y.0 y.1 in
    let here = both phase m n marks others bytes x.0 y.0 came other first second x.2 y.2 e in
    let behind = same (after phase m) marks others x.0 came other x.2 (here.0.1 others other y.2) here.1 in
    let one : merged_mark m ≡ merged_mark n = here.0.0 in
    let rest : map merged_mark marks ≡ map merged_mark others = behind.0 in
    (cc, behind.1)

pub one : (bytes : List ℕ) (marks others : List Mark) (came other : List ℕ) → IsHistory bytes marks came → IsHistory bytes others other
    → answers_in marks ≡ answers_in others → (map merged_mark marks ≡ map merged_mark others) × (came ≡ other)
one bytes marks others came other x y e = same between marks others bytes came other (of_history bytes marks came x) (of_history bytes others other y) e
