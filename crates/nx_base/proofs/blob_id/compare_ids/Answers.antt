use Rattle.std.proofs.Common.{arith, sym, ◌∙◌}
use Rattle.nx_base.proofs.IdOrder.{id_text-cmp}
use Rattle.nx_base.proofs.blob_id.compare_ids.Goals as goal

pub returns-clause-texts : goal.returns-clause-texts
returns-clause-texts c =
    c.compare_texts.ensures
    ∙ sym (id_text-cmp c.args.a.now c.args.b.now c.requires.a_len c.requires.b_len (λ i. omega (arith, c.type_inv.a i)) (λ i. omega (arith, c.type_inv.b i)))
