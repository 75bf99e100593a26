-- The first bytes of the configuration's file, and what the whole of it gives.
use Rattle.std.proofs.Common.{◌≡◌, ◌⊎◌, inl, inr, ℕ, ◌<◌, ◌≤◌, Bool, true, false, nat_lt, List, length, take, Option, Some, None, Ok, Err, is_ok, refl, ◌∙◌, ap, subst, arith, length-take, take_all, min}
use Rattle.std.specs.Option.{option_map}
use Rattle.std.proofs.lemmas.Bool.Decides.{nat_tests}
use Rattle.nx_base.specs.Paths.{file_name_of}
use Rattle.nx_base.proofs.ReadsItself.{file_name_of-same}
use Rattle.java_props.specs.declared.PropsErr.TheVariants.{TooLong}
use Rattle.java_props.specs.Reading.{reading}
use Rattle.sha1.specs.Sha1.{sha1}
use Rattle.disk_model.specs.Disk.{small_limit}
use Rattle.repo_config.specs.declared.config_err.ConfigErr.{ConfigErr}
use Rattle.repo_config.specs.declared.config_err.ConfigErr.TheVariants as refused
use Rattle.repo_config.specs.Settings.{Settings}
use Rattle.repo_config.specs.Reading.{Configures, IsRefused, config_of, config_from}
use Rattle.repo_config.specs.Told.{key_told}
use Rattle.nexrepo.specs.Configs.{FileGives, IsBadFile}
use Rattle.nexrepo.specs.Opening.{refusal_status, IsOpenRefusal}

-- a name is the text that it was read from
pub name_is : (text name : List ℕ) → file_name_of text ≡ Ok name → name ≡ text
name_is text name read =
    let same : file_name_of text ≡ Ok text = file_name_of-same text (ap (λ r. is_ok r) read) in
    cc

-- the first bytes of a file, as many as are read
abbrev pub prefix_of : Option (List ℕ) → Option (List ℕ)
prefix_of file = option_map (λ bytes. take small_limit bytes) file

-- a text that is too long is refused
too_long : (text : List ℕ) → 65536 < length text → config_of text ≡ Err (refused.Props (TooLong (length text)))
unfolding reading
too_long text long =
    let test : nat_lt 65536 (length text) ≡ true = grind (arith, nat_tests) in
    let read : reading text ≡ Err (TooLong (length text)) = rw test refl in
    ap (config_from (sha1 text)) read

-- all of the file was read, or it and what was read are both too long
whole_or_long : (text bytes : List ℕ) → bytes ≡ take small_limit text → (bytes ≡ text) ⊎ ((65536 < length text) × (65536 < length bytes))
unfolding small_limit
whole_or_long text bytes is =
    let len : length bytes ≡ min 65537 (length text) = ap (λ (l : List ℕ). length l) is ∙ length-take 65537 text in
    by_length (nat_lt 65536 (length text)) refl len
  where
    by_length : (long : Bool) → nat_lt 65536 (length text) ≡ long → length bytes ≡ min 65537 (length text) → (bytes ≡ text) ⊎ ((65536 < length text) × (65536 < length bytes))
    by_length true test len =
        let long : 65536 < length text = grind (arith, nat_tests) in
        inr (long, omega arith)
    by_length false test len =
        let short : length text ≤ 65537 = grind (arith, nat_tests) in
        inl (is ∙ take_all 65537 text short)

some_is : {A : Type 0} (x y : A) → Some x ≡ Some y → x ≡ y
some_is x y e = cc

pub file_gives : (file : Option (List ℕ)) (bytes : List ℕ) (settings : Settings) → Some bytes ≡ prefix_of file → Configures bytes settings → FileGives file settings
file_gives None bytes settings is given = absurd cc
file_gives (Some text) bytes settings is given =
    elim (whole_or_long text bytes (some_is bytes (take small_limit text) is)) [
      | inl same ↦ subst (λ (t : List ℕ). Configures t settings) same given
      | inr long ↦ let refusal = too_long bytes long.1 in absurd cc
    ]

pub file_is_bad : (file : Option (List ℕ)) (bytes : List ℕ) (why : ConfigErr) → Some bytes ≡ prefix_of file → IsRefused bytes why → IsBadFile file (key_told why)
file_is_bad None bytes why is refusal = absurd cc
file_is_bad (Some text) bytes why is refusal =
    elim (whole_or_long text bytes (some_is bytes (take small_limit text) is)) [
      | inl same ↦ (why, subst (λ (t : List ℕ). IsRefused t why) same refusal, refl)
      | inr long ↦
          let told : config_of bytes ≡ Err (refused.Props (TooLong (length bytes))) = too_long bytes long.1 in
          let same : why ≡ refused.Props (TooLong (length bytes)) = cc in
          (refused.Props (TooLong (length text)), too_long text long.0, ap key_told same)
    ]

-- why a configuration is refused
pub refused_as : (told : Type 0) (file : Option (List ℕ)) (bytes : List ℕ) (before now : ℕ) (why : ConfigErr) → (told → Some bytes ≡ prefix_of file) → (why ≡ refused.NoMemory) ⊎ IsRefused bytes why
    → IsOpenRefusal told file before now (refusal_status why)
refused_as told file bytes before now refused.NoMemory is e = tt
refused_as told file bytes before now (refused.Props x) is (inl e) = absurd cc
refused_as told file bytes before now (refused.Props x) is (inr r) = λ t. file_is_bad file bytes (refused.Props x) (is t) r
refused_as told file bytes before now (refused.UnknownKey key) is (inl e) = absurd cc
refused_as told file bytes before now (refused.UnknownKey key) is (inr r) = λ t. file_is_bad file bytes (refused.UnknownKey key) (is t) r
refused_as told file bytes before now (refused.BadValue key) is (inl e) = absurd cc
refused_as told file bytes before now (refused.BadValue key) is (inr r) = λ t. file_is_bad file bytes (refused.BadValue key) (is t) r
refused_as told file bytes before now (refused.DuplicateName key) is (inl e) = absurd cc
refused_as told file bytes before now (refused.DuplicateName key) is (inr r) = λ t. file_is_bad file bytes (refused.DuplicateName key) (is t) r
refused_as told file bytes before now (refused.NoStore key) is (inl e) = absurd cc
refused_as told file bytes before now (refused.NoStore key) is (inr r) = λ t. file_is_bad file bytes (refused.NoStore key) (is t) r
refused_as told file bytes before now (refused.NestedGroup key) is (inl e) = absurd cc
refused_as told file bytes before now (refused.NestedGroup key) is (inr r) = λ t. file_is_bad file bytes (refused.NestedGroup key) (is t) r
refused_as told file bytes before now (refused.StoreInTwoGroups key) is (inl e) = absurd cc
refused_as told file bytes before now (refused.StoreInTwoGroups key) is (inr r) = λ t. file_is_bad file bytes (refused.StoreInTwoGroups key) (is t) r
