-- The worked turns compute.
use Rattle.std.proofs.Common.{◌≡◌, ℕ, Bool, true, false, ◌&&◌, List, [], ◌∷◌, ◌++◌, find, Option, Some, None, refl, sym, ◌∙◌, ap, subst, inl, inr, arith, append-nil}
use Rattle.std.specs.Cmp.{eq_by_cmp_equiv}
use Rattle.nx_base.specs.declared.blob_ref.BlobRef.{BlobRef}
use Rattle.nx_base.specs.OrderLaws.{age_cmp_total}
use Rattle.nx_base.specs.declared.moment.Moment.{Moment}
use Rattle.repo_model.specs.declared.call.Call.{Call}
use Rattle.repo_model.specs.declared.entry.Entry.{Entry}
use Rattle.repo_model.specs.History.{is_begin}
use Rattle.repo_model.specs.Removal.{same_blob}
use Rattle.http_heads.specs.declared.head.Head.{Head}
use Rattle.http_heads.specs.declared.method.Method.{Method}
use Rattle.http_heads.specs.declared.method.Method.TheVariants as methods
use Rattle.http_heads.specs.Head.{is_put}
use Rattle.http_heads.specs.Response.{head_of}
use Rattle.http_requests.specs.Requests.{Item, refused, whole, stopped, cut}
use Rattle.http_front.specs.declared.stop.Stop.{Stop}
use Rattle.http_front.specs.Answers.{response_of}
use Rattle.http_front.specs.Calls.{first_call, call_of}
use Rattle.http_front.specs.Entries.{is_begun}
use Rattle.http_front.specs.Turns.{Makes, is_upload, MayStop}
use Rattle.http_front.specs.TurnRows.{PutThenGet, RefusedPut, FullPut, RefusedHead, CutPut, StoppedPut, OnlyUploadsStop, OnlyOpenUploadsStop}

same_itself : (b : BlobRef) → same_blob b b ≡ true
same_itself b = (eq_by_cmp_equiv age_cmp_total).refl b

-- the only content is that of its blob
only : (a b : BlobRef) (content : List ℕ) → a ≡ b → find (λ (c : BlobRef × List ℕ). same_blob c.0 a) ((b, content) ∷ []) ≡ Some (b, content)
only a b content e = rw (e, same_itself b) refl

pub refused_head : RefusedHead
unfolding response_of
refused_head setting why bare state contents = (record { makes = (inl refl, refl); stops = tt; served = tt }, refl)

pub refused_put : RefusedPut
unfolding response_of
refused_put setting key content_type content why state contents room e =
    (record { makes = (state, record { asked = refl; caller = refl; fits = omega arith; follows = inl e }, (inl refl, refl)); stops = tt; served = tt }, refl)

pub cut_put : CutPut
unfolding response_of
cut_put setting key content_type content store state begun contents room e =
    (record { makes = (begun, record { asked = refl; caller = refl; fits = omega arith; follows = inl e }, (inl refl, refl)); stops = tt; served = tt }, refl)

pub stopped_put : StoppedPut
unfolding response_of
stopped_put setting key content_type content store state begun contents room e =
    (record { makes = (begun, record { asked = refl; caller = refl; fits = omega arith; follows = inl e }, (inl refl, refl)); stops = (refl, refl); served = tt }, refl)

pub full_put : FullPut
unfolding response_of
full_put setting key content_type content store state begun contents room e =
    (record { makes = (begun, record { asked = refl; caller = refl; fits = omega arith; follows = inl e }, (inr (inl (omega arith)), refl)); stops = tt; served = tt }, refl)

pub put_then_get : PutThenGet
unfolding response_of
put_then_get setting key content_type content store stored found state begun put got room blob first second third =
    let there = only found.blob stored.blob content blob in (
      (
        put,
        record {
          makes = (
            begun,
            record { asked = refl; caller = refl; fits = omega arith; follows = inl first },
            (put, record { asked = refl; caller = refl; fits = omega arith; follows = inl second }, (inl refl, refl)),
          );
          stops = tt;
          served = tt;
        },
        inl refl,
        (
          got,
          record { makes = (got, record { asked = refl; caller = refl; fits = omega arith; follows = inl third }, (inl refl, refl)); stops = tt; served = rw there refl },
          inl refl,
          (refl, refl),
        ),
      ),
      rw there (ap (λ (x : List ℕ). head_of 201 None (Some 0) false ++ x) (append-nil (head_of 200 (Some found.content_type) (Some found.size) false ++ content))),
    )

-- the first call of a request that is no upload begins none
no_begin : (moment : Moment) (head : Head) (method : Method) (c : Call) → is_put method ≡ false → Some (first_call moment head method) ≡ Some c → is_begin c ≡ true → ⊥
no_begin moment head methods.Get c put is begin = cc
no_begin moment head methods.Head c put is begin = cc
no_begin moment head methods.Put c put is begin = cc
no_begin moment head methods.Delete c put is begin = cc

none_begins : (moment : Moment) (request : Item) (c : Call) → is_upload request ≡ false → call_of moment request ≡ Some c → is_begin c ≡ true → ⊥
none_begins moment (refused why bare) c upload is begin = cc
none_begins moment (whole head content) c upload is begin = no_begin moment head head.method c upload is begin
none_begins moment (stopped head content why) c upload is begin = no_begin moment head head.method c upload is begin
none_begins moment (cut head content) c upload is begin = no_begin moment head head.method c upload is begin

both : (a b : Bool) → (a && b) ≡ true → a ≡ true
both true b e = refl
both false b e = cc

pub only_uploads_stop : OnlyUploadsStop
only_uploads_stop setting n number state new contents turn stop upload stops is = by_entries turn.entries is.makes (subst (λ (s : Option Stop). MayStop turn.request s turn.entries) stops is.stops)
  where
    by_entries : (entries : List Entry) → Makes setting (setting.draws n) turn.request turn.stop [] number state entries new → MayStop turn.request (Some stop) entries → ⊥
    by_entries [] makes may = let f : false ≡ true = sym upload ∙ may.0 in absurd cc
    by_entries (first ∷ entries) (mid, here, rest) may = none_begins (setting.draws n) turn.request first.call upload here.asked (both (is_begin first.call) (is_begun first.reply) may.0)

pub only_open_uploads_stop : OnlyOpenUploadsStop
only_open_uploads_stop setting n number state new contents turn stop first entries are stops is =
    subst (MayStop turn.request (Some stop)) are (subst (λ (s : Option Stop). MayStop turn.request s turn.entries) stops is.stops)
