-- The bytes of a download on their way out, piece by piece, behind the head of a response.
use Rattle.std.proofs.Common.{◌≡◌, ℕ, ◌+◌, ◌-◌, ◌<◌, ◌≤◌, min, List, [], ◌++◌, length, take, drop, Option, Result, Ok, Err, refl, sym, ap, ◌∙◌, subst, arith, append_assoc}
use Rattle.std.proofs.lemmas.List.{append-nil, take-append-le, take-append-drop, length-take}
use Rattle.std.proofs.Math.Seq.{take-length, take-append-add}
use Rattle.std.specs.Io.KnownBytes.{Appends}
use Rattle.nx_io.specs.Causes.{Rose}
use Rattle.disk_model.specs.Disk.{TakesBack}
use Rattle.blob_files.specs.declared.download.Download.{Download}
use Rattle.blob_files.specs.Downloads.{to_come, IsWhole}
use Rattle.http_front.specs.declared.unsaid.Unsaid.{Unsaid}
use Rattle.http_front.specs.declared.unsaid.Unsaid.TheVariants.{WriteFault, DownloadFault}
use Rattle.repo_session.specs.Giving.{HasRead, IsGivenBehind, HasFailed, HasGivenCause}
use Rattle.repo_session.specs.Sending.{Sent, SentSome}
use Rattle.repo_session.proofs.Sendings.{appends_none, appends_both, sent_prefix, sent_behind}

-- of a part that was read, the bytes
part_is : (n : ℕ) (bytes buf : List ℕ) → n ≤ length bytes → take n (take n bytes ++ drop n buf) ≡ take n bytes
part_is n bytes buf within =
    let e : length (take n bytes) ≡ min n (length bytes) = length-take n bytes in
    let is : length (take n bytes) ≡ n = omega arith in
    let fits : n ≤ length (take n bytes) = omega arith in
    take-append-le n (take n bytes) (drop n buf) fits ∙ ap (λ (k : ℕ). take k (take n bytes)) (sym is) ∙ take-length (take n bytes)

-- what the core's download says of a part that it read
pub record Gave {R : Type 0} (told : Type 0) (left : R → List ℕ) (before after : Download R) (buf filled : List ℕ) (n : ℕ) : Type 0 where
  pub given : after.given ≡ before.given + n
  pub size : after.size ≡ before.size
  pub within : after.given ≤ after.size
  pub bytes : told → (filled ≡ take n (to_come left before) ++ drop n buf) × (to_come left after ≡ drop n (to_come left before))

-- where the file has them all, the part is of what was to come
pub part_read : {R : Type 0} (told : Type 0) (left : R → List ℕ) (before after : Download R) (buf filled : List ℕ) (n : ℕ) → Gave told left before after buf filled n
    → told → IsWhole left before → to_come left before ≡ take n filled ++ to_come left after
part_read told left before after buf filled n read is whole =
    let all : length (left before.reader) ≡ before.size - before.given = whole in
    let long : length (to_come left before) ≡ min (before.size - before.given) (length (left before.reader)) = length-take (before.size - before.given) (left before.reader) in
    let given = read.given in
    let size = read.size in
    let within = read.within in
    let fits : n ≤ length (to_come left before) = omega arith in
    sym (take-append-drop n (to_come left before))
    ∙ ap (λ (l : List ℕ). l ++ drop n (to_come left before)) (sym (ap (take n) (read.bytes is).0 ∙ part_is n (to_come left before) buf fits))
    ∙ ap (λ (l : List ℕ). take n filled ++ l) (sym (read.bytes is).1)

-- what was read behind the first bytes of a piece
pub behind_first : (piece filled rest : List ℕ) (at n : ℕ) → at ≤ length piece → n ≤ length filled → take (at + n) (take at piece ++ (filled ++ rest)) ≡ take at piece ++ take n filled
behind_first piece filled rest at n within fits =
    let long : length (take at piece) ≡ min at (length piece) = length-take at piece in
    let is : length (take at piece) ≡ at = omega arith in
    ap (λ (k : ℕ). take (k + n) (take at piece ++ (filled ++ rest))) (sym is) ∙ take-append-add (take at piece) (filled ++ rest) n
    ∙ ap (λ (l : List ℕ). take at piece ++ l) (take-append-le n filled rest fits)

-- a piece that begins with a prefix
pub begins_with : (prefix copied rest : List ℕ) → copied ≡ prefix → take (length prefix) (copied ++ rest) ≡ prefix
begins_with prefix copied rest is =
    ap (λ (l : List ℕ). take (length prefix) (l ++ rest)) is ∙ take-append-le (length prefix) prefix rest (omega arith) ∙ take-length prefix

-- From one download to another, behind the head of a response, some bytes were written and some wait: the prefix, and, told, those
-- between what was to come first and what is to come now. Counts of faults never fall.
pub record GivesOut {R : Type 0} (told : Type 0) (left : R → List ℕ) (faults : R → ℕ) (prefix : List ℕ) (start now : Download R) (waiting : List ℕ) (taken taken' : Option (List ℕ)) (writes writes' : ℕ) : Type 0 where
  pub written : List ℕ
  pub given : List ℕ
  pub appends : Appends taken taken' written
  pub parts : written ++ waiting ≡ prefix ++ given
  pub rest : told → IsWhole left start → to_come left start ≡ given ++ to_come left now
  pub whole : told → IsWhole left start → IsWhole left now
  pub sink_later : writes ≤ writes'
  pub reader_later : faults start.reader ≤ faults now.reader

pub gives_first : {R : Type 0} (told : Type 0) (left : R → List ℕ) (faults : R → ℕ) (prefix : List ℕ) (start : Download R) (waiting : List ℕ) (taken : Option (List ℕ)) (writes : ℕ)
    → waiting ≡ prefix → GivesOut told left faults prefix start start waiting taken taken writes writes
gives_first told left faults prefix start waiting taken writes is = record {
  written = [];
  given = [];
  appends = appends_none taken;
  parts = is ∙ sym (append-nil prefix);
  rest = λ told whole. refl;
  whole = λ told whole. whole;
  sink_later = omega arith;
  reader_later = omega arith;
}

-- what waits joins what was written, and a part what was given
joined : (prefix written waiting given part : List ℕ) → written ++ waiting ≡ prefix ++ given → written ++ (waiting ++ part) ≡ prefix ++ (given ++ part)
joined prefix written waiting given part is = sym (append_assoc written waiting part) ∙ ap (λ (l : List ℕ). l ++ part) is ∙ append_assoc prefix given part

-- another piece was read and written
pub gives_more : {R : Type 0} (told : Type 0) (left : R → List ℕ) (faults : R → ℕ) (prefix : List ℕ) (start before after : Download R) (waiting piece : List ℕ) (taken taken' taken'' : Option (List ℕ)) (writes writes' writes'' at n : ℕ)
    → GivesOut told left faults prefix start before waiting taken taken' writes writes' → HasRead told left faults before after waiting piece at n
    → Appends taken' taken'' (take (at + n) piece) → writes' ≤ writes''
    → GivesOut told left faults prefix start after [] taken taken'' writes writes''
gives_more told left faults prefix start before after waiting piece taken taken' taken'' writes writes' writes'' at n gives read sent later = record {
  written = gives.written ++ take (at + n) piece;
  given = gives.given ++ read.part;
  appends = appends_both taken taken' taken'' gives.written (take (at + n) piece) gives.appends sent;
  parts = append-nil (gives.written ++ take (at + n) piece) ∙ ap (λ (l : List ℕ). gives.written ++ l) read.filled ∙ joined prefix gives.written waiting gives.given read.part gives.parts;
  rest = λ is whole. gives.rest is whole ∙ ap (λ (l : List ℕ). gives.given ++ l) (read.rest is (gives.whole is whole))
      ∙ sym (append_assoc gives.given read.part (to_come left after));
  whole = λ is whole. read.whole is (gives.whole is whole);
  sink_later = grind (arith, gives.sink_later, later);
  reader_later = grind (arith, gives.reader_later, read.later);
}

-- what waits was written, as far as it could be, and no more is given than such bytes behind it
pub gives_rest : {R : Type 0} (told : Type 0) (left : R → List ℕ) (faults : R → ℕ) (prefix : List ℕ) (start now : Download R) (waiting more all : List ℕ) (taken taken' taken'' : Option (List ℕ)) (writes writes' : ℕ) (result : Result (Unit {0}) Unsaid)
    → GivesOut told left faults prefix start now waiting taken taken' writes writes' → (told → IsWhole left now → to_come left now ≡ more) → all ≡ waiting ++ more
    → Sent taken' taken'' all result
    → SentSome (IsGivenBehind told left prefix start) taken taken'' result
gives_rest told left faults prefix start now waiting more all taken taken' taken'' writes writes' result gives ends is sent = (
  gives.written ++ all,
  (
    gives.given ++ more,
    λ t whole. sym (gives.rest t whole ∙ ap (λ (l : List ℕ). gives.given ++ l) (ends t (gives.whole t whole))),
    ap (λ (l : List ℕ). gives.written ++ l) is ∙ joined prefix gives.written waiting gives.given more gives.parts,
  ),
  sent_behind taken taken' taken'' gives.written all result gives.appends sent,
)

-- the download is at its end
pub gives_all : {R : Type 0} (told : Type 0) (left : R → List ℕ) (faults : R → ℕ) (prefix : List ℕ) (start before after : Download R) (waiting piece now : List ℕ) (taken taken' taken'' : Option (List ℕ)) (writes writes' at : ℕ) (result : Result (Unit {0}) Unsaid)
    → GivesOut told left faults prefix start before waiting taken taken' writes writes' → HasRead told left faults before after waiting piece at 0 → after.given ≡ after.size → now ≡ waiting → Sent taken' taken'' now result
    → SentSome (IsGivenBehind told left prefix start) taken taken'' result
gives_all told left faults prefix start before after waiting piece now taken taken' taken'' writes writes' at result gives read ended is sent =
    gives_rest told left faults prefix start before waiting [] now taken taken' taken'' writes writes' result gives
    (λ t whole. read.rest t whole ∙ ap (λ (l : List ℕ). l ++ to_come left after) (read.none refl) ∙ nothing) (is ∙ sym (append-nil waiting)) sent
  where
    none : (n m : ℕ) (bytes : List ℕ) → n ≡ m → take (m - n) bytes ≡ []
    none n m bytes e = let zero : m - n ≡ 0 = omega arith in ap (λ (k : ℕ). take k bytes) zero

    nothing : to_come left after ≡ []
    nothing = none after.given after.size (left after.reader) ended

-- a piece was written in part alone
pub gives_prefix : {R : Type 0} (told : Type 0) (left : R → List ℕ) (faults : R → ℕ) (prefix : List ℕ) (start before after : Download R) (waiting piece : List ℕ) (taken taken' taken'' : Option (List ℕ)) (writes writes' at n : ℕ) (why : Unsaid)
    → GivesOut told left faults prefix start before waiting taken taken' writes writes' → HasRead told left faults before after waiting piece at n
    → Sent taken' taken'' (take (at + n) piece) (Err why)
    → SentSome (IsGivenBehind told left prefix start) taken taken'' (Err why)
gives_prefix told left faults prefix start before after waiting piece taken taken' taken'' writes writes' at n why gives read sent =
    gives_rest told left faults prefix start before waiting (read.part ++ to_come left after) (take (at + n) piece ++ to_come left after) taken taken' taken'' writes writes' (Err why) gives read.rest
    (ap (λ (l : List ℕ). l ++ to_come left after) read.filled ∙ append_assoc waiting read.part (to_come left after))
    (sent_prefix taken' taken'' (take (at + n) piece) (to_come left after) why sent)

-- the download failed, and what waits was written in part alone
pub gives_so_far : {R : Type 0} (told : Type 0) (left : R → List ℕ) (faults : R → ℕ) (prefix : List ℕ) (start before : Download R) (waiting now : List ℕ) (taken taken' taken'' : Option (List ℕ)) (writes writes' : ℕ) (why : Unsaid)
    → GivesOut told left faults prefix start before waiting taken taken' writes writes' → now ≡ waiting → Sent taken' taken'' now (Err why)
    → SentSome (IsGivenBehind told left prefix start) taken taken'' (Err why)
gives_so_far told left faults prefix start before waiting now taken taken' taken'' writes writes' why gives is sent =
    gives_rest told left faults prefix start before waiting (to_come left before) (now ++ to_come left before) taken taken' taken'' writes writes' (Err why) gives (λ t whole. refl)
    (ap (λ (l : List ℕ). l ++ to_come left before) is) (sent_prefix taken' taken'' now (to_come left before) why sent)

-- and as a whole
pub all_sent : (taken taken' : Option (List ℕ)) (bytes : List ℕ) → Appends taken taken' bytes → Sent taken taken' bytes (Err DownloadFault)
all_sent taken taken' bytes sent = (length bytes, omega arith, subst (λ (l : List ℕ). Appends taken taken' l) (sym (take-length bytes)) sent)

-- a prefix that is longer than a piece was written alone, in part
pub alone_prefix : {R : Type 0} (told : Type 0) (left : R → List ℕ) (prefix : List ℕ) (download : Download R) (taken taken' : Option (List ℕ)) (why : Unsaid)
    → Sent taken taken' prefix (Err why) → SentSome (IsGivenBehind told left prefix download) taken taken' (Err why)
alone_prefix told left prefix download taken taken' why sent = (
  prefix ++ to_come left download,
  (to_come left download, λ t whole. refl, refl),
  sent_prefix taken taken' prefix (to_come left download) why sent,
)

-- or as a whole, and the content behind it
pub alone_content : {R : Type 0} (told : Type 0) (left : R → List ℕ) (prefix : List ℕ) (download : Download R) (taken taken' taken'' : Option (List ℕ)) (result : Result (Unit {0}) Unsaid)
    → Appends taken taken' prefix → SentSome (IsGivenBehind told left [] download) taken' taken'' result
    → SentSome (IsGivenBehind told left prefix download) taken taken'' result
alone_content told left prefix download taken taken' taken'' result first sent = (
  prefix ++ sent.0,
  (sent.0, λ t whole. sent.1.2 ∙ sent.1.1 t whole, refl),
  sent_behind taken taken' taken'' prefix sent.0 result first sent.2,
)

-- the reader was taken back behind the download
pub given_cause : {R : Type 0} (told : Type 0) (left : R → List ℕ) (faults : R → ℕ) (old new : Download R) (before now : ℕ) (result : Result (Unit {0}) Unsaid)
    → HasFailed told left faults old new result → TakesBack before now (faults new.reader) → HasGivenCause told left before now old result
given_cause told left faults old new before now (Ok x) failed back = tt
given_cause told left faults old new before now (Err WriteFault) failed back = tt
given_cause told left faults old new before now (Err DownloadFault) failed back =
    λ t whole. back.faulty (risen (faults old.reader) (faults new.reader) (failed.1 t whole))
  where
    risen : (a b : ℕ) → Rose a b → 0 < b
    risen a b rose = grind (arith, rose)
