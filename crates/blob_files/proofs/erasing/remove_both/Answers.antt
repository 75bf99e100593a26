use Rattle.std.proofs.Common.{◌≡◌, ◌∷◌, [], List, ℕ, None, ◌∙◌, subst}
use Rattle.tree_content.specs.Blobs.{bytes_at, props_at}
use Rattle.tree_content.proofs.Moments.{two_names, erases_first, erases_both}
use Rattle.blob_files.proofs.Steps.{renamed, left_alone}
use Rattle.blob_files.proofs.erasing.remove_both.Goals as goal

pub returns-in_err-remove_settled-clause-any_moment : goal.returns-in_err-remove_settled-clause-any_moment
returns-in_err-remove_settled-clause-any_moment g c told =
    let files = c.args.files.now in
    erases_first files.place files.bytes_outside files.properties_outside g.D.Disk.clock g.D.Disk.lists c.args.disk.now c.remove_settled.new.disk
    (renamed g.D.Disk.clock g.D.Disk.lists c.args.disk.now c.remove_settled.new.disk c.bytes.result.now (bytes_at files.place) None c.bytes.ensures (c.remove_settled.ensures.any_moment told))

pub returns-in_err-remove_settled-2-clause-any_moment : goal.returns-in_err-remove_settled-2-clause-any_moment
returns-in_err-remove_settled-2-clause-any_moment g c told =
    let files = c.args.files.now in
    let mid = c.remove_settled.new.disk in
    let new = c.remove_settled-2.new.disk in
    erases_both files.place files.bytes_outside files.properties_outside g.D.Disk.clock g.D.Disk.lists c.args.disk.now mid new
    (renamed g.D.Disk.clock g.D.Disk.lists c.args.disk.now mid c.bytes.result.now (bytes_at files.place) None c.bytes.ensures (c.remove_settled.ensures.any_moment told))
    (subst (λ (n : List ℕ). g.D.Disk.lists mid (g.D.Disk.clock mid) n ≡ None ∷ []) c.bytes.ensures (c.in_ok-remove_settled.ensures.settled told))
    (renamed g.D.Disk.clock g.D.Disk.lists mid new c.properties.result.now (props_at files.place) None c.properties.ensures (c.remove_settled-2.ensures.any_moment told))

pub returns-clause-any_moment : goal.returns-clause-any_moment
returns-clause-any_moment g c told =
    let files = c.args.files.now in
    let mid = c.remove_settled.new.disk in
    let new = c.remove_settled-2.new.disk in
    erases_both files.place files.bytes_outside files.properties_outside g.D.Disk.clock g.D.Disk.lists c.args.disk.now mid new
    (renamed g.D.Disk.clock g.D.Disk.lists c.args.disk.now mid c.bytes.result.now (bytes_at files.place) None c.bytes.ensures (c.remove_settled.ensures.any_moment told))
    (subst (λ (n : List ℕ). g.D.Disk.lists mid (g.D.Disk.clock mid) n ≡ None ∷ []) c.bytes.ensures (c.in_ok-remove_settled.ensures.settled told))
    (renamed g.D.Disk.clock g.D.Disk.lists mid new c.properties.result.now (props_at files.place) None c.properties.ensures (c.remove_settled-2.ensures.any_moment told))

pub returns-clause-bytes_settled : goal.returns-clause-bytes_settled
returns-clause-bytes_settled g c told =
    let files = c.args.files.now in
    let mid = c.remove_settled.new.disk in
    let new = c.remove_settled-2.new.disk in
    let lists = g.D.Disk.lists in
    let clock = g.D.Disk.clock in
    left_alone clock lists mid new (props_at files.place) (bytes_at files.place) None files.bytes_outside (two_names files.place)
    (renamed clock lists mid new c.properties.result.now (props_at files.place) None c.properties.ensures (c.remove_settled-2.ensures.any_moment told))
    ∙ subst (λ (n : List ℕ). lists mid (clock mid) n ≡ None ∷ []) c.bytes.ensures (c.in_ok-remove_settled.ensures.settled told)
