use Rattle.std.proofs.Common.{◌≡◌, ◌≤◌, ◌++◌, ◌∙◌, ℕ, true, List, length, Ok, sym, ap₂, subst, refl, arith}
use Rattle.std.specs.Str.{IsUtf8}
use Rattle.std.specs.List.{list_all}
use Rattle.nx_base.specs.Names.{is_name_byte}
use Rattle.nx_base.specs.Paths.{file_name_of}
use Rattle.blob_paths.specs.Places.{ending_of}
use Rattle.blob_paths.specs.declared.ending.Ending.{Ending}
use Rattle.blob_paths.specs.declared.ending.Ending.TheVariants.{Bytes, Properties}
use Rattle.blob_paths.proofs.Segments.{name-ending}
use Rattle.blob_paths.proofs.place.file_name.Goals as goal

ending-named : (e : Ending) → list_all is_name_byte (ending_of e) ≡ true
ending-named Bytes = refl
ending-named Properties = refl

ending-long : (e : Ending) → (3 ≤ length (ending_of e)) × (length (ending_of e) ≤ 11)
ending-long Bytes = (omega arith, omega arith)
ending-long Properties = (omega arith, omega arith)

pub named-requires : goal.named-requires
named-requires c =
    let place = c.args.place.now in
    let e = ending_of c.args.ending in
    let long = ending-long c.args.ending in
    let utf8 = subst IsUtf8 c.as_str.ensures.text c.as_str.utf8 in
    let good = name-ending place e utf8 c.as_str.ensures.reads (ending-named c.args.ending) long.0 (omega (arith, long.1)) in
    let is : c.as_slice.result.now ≡ place ++ e =
    c.as_slice.ensures.value ∙ c.in_ok-text.ensures ∙ ap₂ ◌++◌ (c.as_bytes.ensures.value ∙ c.as_str.ensures.text) c.text.ensures in
    record {
      utf8 = subst IsUtf8 (sym is) good.0.utf8;
      name = subst (λ (t : List ℕ). file_name_of t ≡ Ok t) (sym is) good.1;
    }
