use Rattle.std.proofs.Common.{◌≡◌, refl, subst, string_bytes, bytes_eq, codes, true, false}
use Rattle.nexrepo.proofs.WordLemmas.{two_items, stdio_words}
use Rattle.nexrepo.proofs.words.read_words.Goals as goal

pub returns-in-Ok : goal.returns-in-Ok
returns-in-Ok c =
    let two = two_items c.args.words.now c.folder-item.result c.command-item.result c.in-len2.len_at_least c.in-len2.len_below c.folder-item.is c.command-item.is in
    let some = subst (λ b. b ≡ false) c.is_empty.ensures c.if-is_empty.false in
    let word = subst (λ w. bytes_eq w (codes "stdio") ≡ true) c.deref.ensures (subst (λ b. b ≡ true) c.is_stdio.ensures c.if-not-is_stdio.false) in
    let same = subst (λ bs. string_bytes c.in-Ok.folder ≡ bs) c.as_str.ensures.value c.in-Ok.ensures in
    stdio_words c.args.words.now c.folder-item.result c.command-item.result (string_bytes c.in-Ok.folder) two some word same

pub returns-in-Err : goal.returns-in-Err
returns-in-Err c =
    let two = two_items c.args.words.now c.folder-item.result c.command-item.result c.in-len2.len_at_least c.in-len2.len_below c.folder-item.is c.command-item.is in
    let some = subst (λ b. b ≡ false) c.is_empty.ensures c.if-is_empty.false in
    let word = subst (λ w. bytes_eq w (codes "stdio") ≡ true) c.deref.ensures (subst (λ b. b ≡ true) c.is_stdio.ensures c.if-not-is_stdio.false) in
    (string_bytes c.folder-item.result, stdio_words c.args.words.now c.folder-item.result c.command-item.result (string_bytes c.folder-item.result) two some word refl)
