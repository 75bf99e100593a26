-- What is said in turns is said of all their entries, with the contents at the end.
use Rattle.std.proofs.Common.{◌≡◌, ◌⊎◌, ℕ, ◌+◌, ◌≤◌, Bool, true, false, List, [], ◌∷◌, ◌++◌, length, find, is_some, IsTrue, Option, Some, None, refl, ap, sym, ◌∙◌, inl, inr, arith, if◌then◌else◌, append_assoc, append-nil}
use Rattle.std.specs.Option.{option_or}
use Rattle.std.proofs.lemmas.List.Folds.{find-append}
use Rattle.nx_base.specs.Given.{given}
use Rattle.nx_base.specs.declared.blob_ref.BlobRef.{BlobRef}
use Rattle.repo_model.specs.declared.entry.Entry.{Entry}
use Rattle.repo_model.specs.declared.reply.Reply.{Reply}
use Rattle.repo_model.specs.declared.reply.Reply.TheVariants as reply
use Rattle.repo_model.specs.State.{State}
use Rattle.repo_model.specs.Removal.{same_blob}
use Rattle.http_heads.specs.declared.head.Head.{Head}
use Rattle.http_requests.specs.Requests.{Item, refused, whole, stopped, cut}
use Rattle.http_heads.specs.Head.{is_put}
use Rattle.http_front.specs.Asking.{is_bare}
use Rattle.http_front.specs.declared.stop.Stop.{Stop}
use Rattle.http_front.specs.declared.stop.Stop.TheVariants as stops
use Rattle.http_front.specs.Responses.{why_stopped}
use Rattle.http_front.specs.Contents.{Contents, asset_content, with_content}
use Rattle.http_front.specs.Entries.{own, others}
use Rattle.http_front.specs.Answers.{Answer, preceded, last_refusal, said_before, last_reply, reply_to, put_answer, unstopped, response_of}
use Rattle.http_front.specs.Said.{said}
use Rattle.http_front.specs.Served.{Serves}
use Rattle.http_front.specs.Turns.{Setting, Turn, Makes, AreTurns, contents_after, turn_answer, requests_of, entries_of, stops_of, turns_said}
use Rattle.http_front.proofs.Own.{Splits, splits}

-- more contents preceded

abbrev Grows : Contents → Contents → Type 0
Grows k l = (more : Contents) × (l ≡ k ++ more)

further : (k l m : Contents) → Grows k l → Grows l m → Grows k m
further k l m (x, e) (y, f) = (x ++ y, f ∙ ap (λ (z : Contents). z ++ y) e ∙ append_assoc k x y)

joined : (r : Reply) (c : List ℕ) (k : Contents) → Grows k (with_content r c k)
joined (reply.Stored asset) c k = ((asset.blob, c) ∷ [], refl)
joined (reply.Found asset) c k = ([], sym (append-nil k))
joined (reply.Begun store) c k = ([], sym (append-nil k))
joined reply.Gone c k = ([], sym (append-nil k))
joined reply.Removed c k = ([], sym (append-nil k))
joined (reply.Reconciled kept) c k = ([], sym (append-nil k))
joined (reply.Refused r) c k = ([], sym (append-nil k))

grows : (ts : List Turn) (setting : Setting) (n number : ℕ) (s new : State) (k l : Contents) → AreTurns setting n number s k ts new l → Grows k l
grows [] setting n number s new k l (e, f) = ([], f ∙ sym (append-nil k))
grows (t ∷ ts) setting n number s new k l (mid, is, end, rest) =
    further k (contents_after t k) l (joined (last_reply t.entries) _ k)
    (grows ts setting (n + 1) (number + length t.entries) mid new (contents_after t k) l rest)

-- what was found first stays first

or_some : {A : Type 0} (a b : Option A) → IsTrue (is_some a) → option_or a b ≡ a
or_some None b h = cc
or_some (Some x) b h = refl

find_prefix : {A : Type 0} (p : A → Bool) (xs ys : List A) → IsTrue (is_some (find p xs)) → find p (xs ++ ys) ≡ find p xs
find_prefix p xs ys h = find-append p xs ys ∙ or_some (find p xs) (find p ys) h

kept : (r : Reply) (k more : Contents) → Serves k r → asset_content (k ++ more) r ≡ asset_content k r
kept (reply.Found asset) k more h = rw (find_prefix (λ (c : BlobRef × List ℕ). same_blob c.0 asset.blob) k more h) refl
kept (reply.Begun store) k more h = refl
kept (reply.Stored asset) k more h = refl
kept reply.Gone k more h = refl
kept reply.Removed k more h = refl
kept (reply.Reconciled n) k more h = refl
kept (reply.Refused r) k more h = refl

same_reply : (k l : Contents) (a : Head) (r : Reply) → asset_content k r ≡ asset_content l r → reply_to k a r ≡ reply_to l a r
same_reply k l a r e = rw e refl

same_unstopped : (q : Item) (k l : Contents) (es : List Entry) → asset_content k (last_reply es) ≡ asset_content l (last_reply es) → unstopped k q es ≡ unstopped l q es
same_unstopped (refused w bare) k l es e = refl
same_unstopped (whole a c) k l es e = ap (λ (x : Answer). if is_put a.method then put_answer a es x else x) (same_reply k l a (last_reply es) e)
same_unstopped (stopped a c w) k l es e = refl
same_unstopped (cut a c) k l es e = refl

same_response : (q : Item) (stop : Option Stop) (k l : Contents) (es : List Entry) → asset_content k (last_reply es) ≡ asset_content l (last_reply es)
    → response_of k q stop es ≡ response_of l q stop es
unfolding response_of
same_response q stop k l es e =
    ap (λ (x : Answer). given stop x (λ (s : Stop). preceded (said_before q es) (last_refusal (is_bare q) (why_stopped s)))) (same_unstopped q k l es e)

stop_ends : (q : Item) (s : Stop) (k : Contents) (es : List Entry) → (response_of k q (Some s) es).ends ≡ true
unfolding response_of
stop_ends q s k es = refl

-- in a full journal no turn has an entry
makes_none : (setting : Setting) (t : Turn) (n number : ℕ) (s new : State) (es : List Entry) → setting.room ≤ number
    → Makes setting (setting.draws n) t.request t.stop [] number s es new → es ≡ []
makes_none setting t n number s new [] h makes = refl
makes_none setting t n number s new (e ∷ es) h (mid, here, rest) = absurd (omega (arith, here.fits))

none_fits : (ts : List Turn) (setting : Setting) (n number : ℕ) (s new : State) (k l : Contents) → setting.room ≤ number
    → AreTurns setting n number s k ts new l → entries_of ts ≡ []
none_fits [] setting n number s new k l h are = refl
none_fits (t ∷ ts) setting n number s new k l h (mid, is, end, rest) =
    ap (λ (es : List Entry). es ++ entries_of ts) (makes_none setting t n number s mid t.entries h is.makes)
    ∙ none_fits ts setting (n + 1) (number + length t.entries) mid new (contents_after t k) l (omega arith) rest

-- preceded a stop no turn comes
none_behind : (t : Turn) (ts : List Turn) (k : Contents) (s : Stop) → t.stop ≡ Some s → ((turn_answer k t).ends ≡ false) ⊎ (ts ≡ []) → entries_of ts ≡ []
none_behind t ts k s e (inl goes) =
    let ends : (turn_answer k t).ends ≡ true =
    ap (λ (x : Option Stop). (response_of (contents_after t k) t.request x t.entries).ends) e ∙ stop_ends t.request s (contents_after t k) t.entries in
    cc
none_behind t ts k s e (inr none) = ap entries_of none

-- one request of the fold
said_at : (q : Item) (qs : List Item) (stop : Option Stop) (stops : List (Option Stop)) (es mine left : List Entry) (k : Contents) (a : Answer)
    → own q stop es ≡ mine → others q stop es ≡ left → response_of k q stop mine ≡ a
    → said (q ∷ qs) es k (stop ∷ stops) ≡ a.bytes ++ (if a.ends then [] else said qs left k stops)
said_at q qs stop stops es mine left k a x y z = rw (x, y, z) refl

-- what is said preceded it
rest_said : (b : Bool) (ts : List Turn) (k : Contents) (rest : List ℕ) → (b ≡ false) ⊎ (ts ≡ []) → rest ≡ turns_said k ts
    → (if b then [] else rest) ≡ turns_said k ts
rest_said false ts k rest end e = e
rest_said true ts k rest (inl x) e = cc
rest_said true ts k rest (inr x) e = sym (ap (turns_said k) x)

pub turns_are_said : (ts : List Turn) (setting : Setting) (n number : ℕ) (s new : State) (k l : Contents)
    → AreTurns setting n number s k ts new l → said (requests_of ts) (entries_of ts) l (stops_of ts) ≡ turns_said k ts
turns_are_said [] setting n number s new k l are = refl
turns_are_said (t ∷ ts) setting n number s new k l (mid, is, end, rest) =
    let own : Splits t.request t.stop t.entries (entries_of ts) =
    splits setting (setting.draws n) t.request t.stop number s t.entries mid (entries_of ts) is.makes
    (λ h. none_fits ts setting (n + 1) (number + length t.entries) mid new (contents_after t k) l h rest)
    (λ e. none_behind t ts k stops.NoMemory e end) in
    let more : Grows (contents_after t k) l = grows ts setting (n + 1) (number + length t.entries) mid new (contents_after t k) l rest in
    let same : asset_content l (last_reply t.entries) ≡ asset_content (contents_after t k) (last_reply t.entries) =
    ap (λ (c : Contents). asset_content c (last_reply t.entries)) more.1 ∙ kept (last_reply t.entries) (contents_after t k) more.0 is.served in
    said_at t.request (requests_of ts) t.stop (stops_of ts) (t.entries ++ entries_of ts) t.entries (entries_of ts) l (turn_answer k t)
    own.mine own.left (same_response t.request t.stop l (contents_after t k) t.entries same)
    ∙ ap (λ (x : List ℕ). (turn_answer k t).bytes ++ x)
    (rest_said (turn_answer k t).ends ts (contents_after t k) (said (requests_of ts) (entries_of ts) l (stops_of ts)) end
    (turns_are_said ts setting (n + 1) (number + length t.entries) mid new (contents_after t k) l rest))
