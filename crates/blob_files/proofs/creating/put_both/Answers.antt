use Rattle.std.proofs.Common.{◌≡◌, ◌⊎◌, ◌∷◌, [], List, ℕ, Some, Option, OnErr, OnOk, sym, ◌∙◌, subst}
use Rattle.disk_model.specs.Disk.{Outside, Rest}
use Rattle.tree_content.specs.Blobs.{bytes_at, props_at}
use Rattle.tree_content.proofs.Moments.{two_names, creates_first, creates_both}
use Rattle.blob_files.proofs.Steps.{renamed, left_alone, on_any, bytes_alone, props_behind, on_either}
use Rattle.blob_files.proofs.creating.put_both.Goals as goal

pub returns-in_err-put_sealed-clause-any_moment : goal.returns-in_err-put_sealed-clause-any_moment
returns-in_err-put_sealed-clause-any_moment g c told =
    let files = c.args.files.now in
    let content = g.D.Writer.Writer.content c.args.file in
    creates_first files.place files.bytes_outside files.properties_outside g.D.Disk.clock g.D.Disk.lists content c.args.props.now c.args.disk.now c.put_sealed.new.disk
    (renamed g.D.Disk.clock g.D.Disk.lists c.args.disk.now c.put_sealed.new.disk c.bytes.result.now (bytes_at files.place) (Some content) c.bytes.ensures (c.put_sealed.ensures.any_moment told))

pub returns-clause-any_moment : goal.returns-clause-any_moment
returns-clause-any_moment g c told =
    let files = c.args.files.now in
    let content = g.D.Writer.Writer.content c.args.file in
    let mid = c.put_sealed.new.disk in
    let new = c.replace_small.new.disk in
    let lists = g.D.Disk.lists in
    let clock = g.D.Disk.clock in
    creates_both files.place files.bytes_outside files.properties_outside clock lists content c.args.props.now c.args.disk.now mid new
    (renamed clock lists c.args.disk.now mid c.bytes.result.now (bytes_at files.place) (Some content) c.bytes.ensures (c.put_sealed.ensures.any_moment told))
    (subst (λ (n : List ℕ). lists mid (clock mid) n ≡ Some content ∷ []) c.bytes.ensures (c.in_ok-put_sealed.ensures.settled told))
    (renamed clock lists mid new c.properties.result.now (props_at files.place) (Some c.args.props.now) c.properties.ensures (c.replace_small.ensures.any_moment told (subst Outside (sym c.properties.ensures) files.properties_outside)))

pub returns-clause-bytes_settled : goal.returns-clause-bytes_settled
returns-clause-bytes_settled g c told =
    let files = c.args.files.now in
    let content = g.D.Writer.Writer.content c.args.file in
    let mid = c.put_sealed.new.disk in
    let new = c.replace_small.new.disk in
    let lists = g.D.Disk.lists in
    let clock = g.D.Disk.clock in
    on_any c.replace_small.result
    (left_alone clock lists mid new (props_at files.place) (bytes_at files.place) (Some c.args.props.now) files.bytes_outside (two_names files.place)
    (renamed clock lists mid new c.properties.result.now (props_at files.place) (Some c.args.props.now) c.properties.ensures (c.replace_small.ensures.any_moment told (subst Outside (sym c.properties.ensures) files.properties_outside)))
    ∙ subst (λ (n : List ℕ). lists mid (clock mid) n ≡ Some content ∷ []) c.bytes.ensures (c.in_ok-put_sealed.ensures.settled told))

pub returns-in_err-put_sealed-clause-created : goal.returns-in_err-put_sealed-clause-created
returns-in_err-put_sealed-clause-created g c told absent =
    let files = c.args.files.now in
    let tree = g.D.Disk.tree in
    bytes_alone files.place (g.D.Writer.Writer.content c.args.file) c.args.props.now files.properties_outside (tree c.args.disk.now) (tree c.put_sealed.new.disk)
    (subst (λ (n : List ℕ). Rest n (tree c.args.disk.now) (tree c.put_sealed.new.disk)) c.bytes.ensures (c.put_sealed.ensures.rest told)) absent

pub returns-clause-created : goal.returns-clause-created
returns-clause-created g c told absent =
    let files = c.args.files.now in
    let tree = g.D.Disk.tree in
    let content = g.D.Writer.Writer.content c.args.file in
    let old = tree c.args.disk.now in
    let mid = tree c.put_sealed.new.disk in
    let new = tree c.replace_small.new.disk in
    let text = Some c.args.props.now in
    let place = files.place in
    let at = c.properties.ensures in
    props_behind place content c.args.props.now files.bytes_outside files.properties_outside old mid new
    (subst (λ (n : List ℕ). Rest n old mid) c.bytes.ensures (c.put_sealed.ensures.rest told))
    (subst (λ (n : List ℕ). mid n ≡ Some content) c.bytes.ensures (c.in_ok-put_sealed.ensures.named told))
    (subst (λ (n : List ℕ). Rest n mid new) at (c.replace_small.ensures.rest told))
    (on_either c.replace_small.result (subst (λ (n : List ℕ). OnOk c.replace_small.result (new n ≡ text)) at (c.replace_small.ensures.named told))
    (subst (λ (n : List ℕ). OnErr c.replace_small.result ((new n ≡ mid n) ⊎ (new n ≡ text))) at (c.replace_small.ensures.refused told (subst Outside (sym at) files.properties_outside))))
    absent
