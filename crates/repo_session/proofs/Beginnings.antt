-- An upload that a session began.
use Rattle.std.proofs.Common.{◌≡◌, ℕ, List, [], Option, Some, None, unwrap_or, refl, sym, ap, ◌∙◌, subst}
use Rattle.std.specs.Option.{option_map}
use Rattle.nx_base.specs.declared.key.Key.{Key}
use Rattle.blob_files.specs.declared.upload.Target.{Target}
use Rattle.blob_files.specs.declared.upload.Upload.{Upload}
use Rattle.blob_files.specs.Uploads.{HasTaken}
use Rattle.repo_model.specs.declared.call.Begin.{Begin}
use Rattle.repo_model.specs.declared.call.Call.TheVariants as call
use Rattle.repo_model.specs.declared.call.Kind.TheVariants as kinds
use Rattle.repo_model.specs.declared.plain.config.PlainConfig.{PlainConfig}
use Rattle.repo_model.specs.declared.reply.Reply.{Reply}
use Rattle.repo_model.specs.declared.reply.Reply.TheVariants as reply
use Rattle.repo_model.specs.Plain.{config_of}
use Rattle.http_heads.specs.declared.head.Head.{Head}
use Rattle.session_history.specs.Asking.{begin_of}
use Rattle.repo_core.specs.Begun.{begun_in}
use Rattle.repo_core.specs.Puts.{MayGo}
use Rattle.repo_core.specs.View.{CoreView}
use Rattle.repo_core.specs.Devices.{Devices}
use Rattle.repo_session.specs.Called.{Called}
use Rattle.repo_session.specs.Answering.{IsBegun}

-- a beginning of a put
abbrev pub as_put : Begin → Begin
as_put begin = record { key = begin.key; content_type = begin.content_type; kind = kinds.Put }

-- that of a request with that head is its own
pub put_of : (begin : Begin) (head : Head) → begin ≡ begin_of head → as_put begin ≡ begin_of head
put_of begin head is = ap as_put is

-- The beginning as it was asked is that of the head.
pub called_of : {D T : Type 0} (devices : Devices D T) (old new : CoreView D T) (begin : Begin) (head : Head) (said : Reply) → begin ≡ begin_of head
    → Called devices old new (call.Begin (as_put begin)) [] said (λ contents. contents) → Called devices old new (call.Begin (begin_of head)) [] said (λ contents. contents)
called_of devices old new begin head said is called =
    subst (λ (b : Begin). Called devices old new (call.Begin b) [] said (λ contents. contents)) (put_of begin head is) called

-- An upload that was begun is open, and nothing was taken into it.
pub upload_begun : {D T W : Type 0} (devices : Devices D T) (told : Type 0) (written : W → List ℕ) (old new : CoreView D T) (begin : Begin) (head : Head) (upload : Upload W) → begin ≡ begin_of head
    → Called devices old new (call.Begin (as_put begin)) [] (begun_in upload) (λ contents. contents)
    → option_map (λ (t : Target). t.begin) upload.target ≡ Some (as_put begin)
    → ((t : Target) → upload.target ≡ Some t → MayGo (config_of old.config) begin.key t.store)
    → (devices.told → HasTaken told written upload [])
    → IsBegun devices told written old new head upload []
upload_begun {D} {T} {W} devices told written old new begin head upload is called target goes taken = by_target upload.target refl
  where
    begun : Called devices old new (call.Begin (begin_of head)) [] (begun_in upload) (λ contents. contents)
    begun = called_of devices old new begin head (begun_in upload) is called

    by_target : (o : Option Target) → upload.target ≡ o → IsBegun devices told written old new head upload []
    by_target None none = absurd (none_is_some (sym (ap (option_map (λ (t : Target). t.begin)) none) ∙ target))
      where
        none_is_some : None ≡ Some (as_put begin) → ⊥
        none_is_some e = absurd (cc)
    by_target (Some t) some = record {
      store = t.store;
      target = some ∙ ap (λ (b : Begin). Some (record { begin = b; store = t.store })) (begins ∙ put_of begin head is);
      begun = subst (λ (r : Reply). Called devices old new (call.Begin (begin_of head)) [] r (λ contents. contents))
          (ap (λ (o : Option Target). reply.Begun (unwrap_or (option_map (λ (t : Target). t.store) o) [])) some) begun;
      goes = subst (λ (g : PlainConfig). MayGo (config_of g) head.key t.store) (sym called.since.config)
          (subst (λ (k : Key). MayGo (config_of old.config) k t.store) (ap (λ (b : Begin). b.key) is) (goes t some));
      taken = taken;
    }
      where
        same : (a b : Begin) → Some a ≡ Some b → a ≡ b
        same a b e = cc

        begins : t.begin ≡ as_put begin
        begins = same t.begin (as_put begin) (sym (ap (option_map (λ (t : Target). t.begin)) some) ∙ target)
