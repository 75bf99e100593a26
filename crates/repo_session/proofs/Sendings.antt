-- What was written of an answer to a request.
use Rattle.std.proofs.Common.{◌≡◌, ℕ, ◌+◌, ◌≤◌, List, [], ◌++◌, length, take, Option, Some, None, Result, Ok, Err, refl, sym, ap, ◌∙◌, subst, arith, append_assoc}
use Rattle.std.proofs.Math.Seq.{take-append-add}
use Rattle.std.proofs.lemmas.List.{append-nil, take-append-le, length-append}
use Rattle.std.specs.Io.KnownBytes.{Appends}
use Rattle.http_front.specs.declared.unsaid.Unsaid.{Unsaid}
use Rattle.http_front.specs.declared.unsaid.Unsaid.TheVariants.{WriteFault, DownloadFault}
use Rattle.http_front.specs.Replying.{IsShort, IsAnswered}
use Rattle.repo_session.specs.Sending.{Sent, OnlyWriteFails}

pub appends_none : (taken : Option (List ℕ)) → Appends taken taken []
appends_none None = tt
appends_none (Some bytes) = sym (append-nil bytes)

pub appends_both : (first mid last : Option (List ℕ)) (bytes more : List ℕ) → Appends first mid bytes → Appends mid last more → Appends first last (bytes ++ more)
appends_both None mid last bytes more a b = tt
appends_both (Some x) None last bytes more a b = absurd a
appends_both (Some x) (Some y) None bytes more a b = absurd b
appends_both (Some x) (Some y) (Some z) bytes more a b = b ∙ ap (λ (l : List ℕ). l ++ more) a ∙ append_assoc x bytes more

-- what is left out of some bytes is left out of more

short_more : (why : Unsaid) (count : ℕ) (bytes more : List ℕ) → IsShort why count (length bytes) → IsShort why count (length (bytes ++ more))
short_more WriteFault count bytes more short = simp length-append (omega (arith, short))
short_more DownloadFault count bytes more short = simp length-append (omega (arith, short))

short_behind : (why : Unsaid) (count : ℕ) (bytes more : List ℕ) → IsShort why count (length more) → IsShort why (length bytes + count) (length (bytes ++ more))
short_behind WriteFault count bytes more short = simp length-append (omega (arith, short))
short_behind DownloadFault count bytes more short = simp length-append (omega (arith, short))

at_most : (why : Unsaid) (count all : ℕ) → IsShort why count all → count ≤ all
at_most WriteFault count all short = omega (arith, short)
at_most DownloadFault count all short = short

-- a prefix of the first bytes is one of all
pub sent_prefix : (taken taken' : Option (List ℕ)) (bytes more : List ℕ) (why : Unsaid) → Sent taken taken' bytes (Err why) → Sent taken taken' (bytes ++ more) (Err why)
sent_prefix taken taken' bytes more why sent = (
  sent.0,
  short_more why sent.0 bytes more sent.1,
  subst (λ (l : List ℕ). Appends taken taken' l) (sym (take-append-le sent.0 bytes more (at_most why sent.0 (length bytes) sent.1))) sent.2,
)

-- what was written behind bytes that were
pub sent_behind : (taken taken' taken'' : Option (List ℕ)) (bytes more : List ℕ) (result : Result (Unit {0}) Unsaid)
    → Appends taken taken' bytes → Sent taken' taken'' more result → Sent taken taken'' (bytes ++ more) result
sent_behind taken taken' taken'' bytes more (Ok x) before sent = appends_both taken taken' taken'' bytes more before sent
sent_behind taken taken' taken'' bytes more (Err why) before sent = (
  length bytes + sent.0,
  short_behind why sent.0 bytes more sent.1,
  subst (λ (l : List ℕ). Appends taken taken'' l) (sym (take-append-add bytes more sent.0)) (appends_both taken taken' taken'' bytes (take sent.0 more) before sent.2),
)

-- an answer of which all was written, or a prefix
pub answered : (Is : List ℕ → Type 0) (Fails : Type 0) (taken taken' : Option (List ℕ)) (answer : List ℕ) (result : Result (Unit {0}) Unsaid)
    → Is answer → Sent taken taken' answer result → (result ≡ Err DownloadFault → Fails) → IsAnswered Is Fails [] taken taken' result
answered Is Fails taken taken' answer (Ok x) is sent fails = (answer, is, sent)
answered Is Fails taken taken' answer (Err WriteFault) is sent fails = (answer, sent.0, is, sent.1, sent.2)
answered Is Fails taken taken' answer (Err DownloadFault) is sent fails = ((answer, sent.0, is, sent.1, sent.2), fails refl)

-- no download failed, where only the sink can
pub none_failed : {Fails : Type 0} (result : Result (Unit {0}) Unsaid) → OnlyWriteFails result → result ≡ Err DownloadFault → Fails
none_failed (Ok x) only is = absurd (cc)
none_failed (Err WriteFault) only is = absurd (cc)
none_failed (Err DownloadFault) only is = absurd only

-- the same of what no download was for
pub answered_by_sink : (Is : List ℕ → Type 0) (Fails : Type 0) (taken taken' : Option (List ℕ)) (answer : List ℕ) (result : Result (Unit {0}) Unsaid)
    → Is answer → Sent taken taken' answer result → OnlyWriteFails result → IsAnswered Is Fails [] taken taken' result
answered_by_sink Is Fails taken taken' answer result is sent only = answered Is Fails taken taken' answer result is sent (none_failed result only)
