-- The aggregate joins the others if one of its members can't be written whole.
use Rattle.std.proofs.Common.{nat_eq, ap, sym, ◌∙◌}
use Rattle.indexmap.specs.IndexSet.{insert_key}
use Rattle.whole_rows.specs.ConstAggregates.{is_among, is_one_const}
use Rattle.whole_rows.proofs.ConstLemmas.{const_told, none_told}
use Rattle.whole_rows.proofs.const_aggregates.ConstAggregates.tell.Goals as goal

pub returns-in_ok-insert-clause-told : goal.returns-in_ok-insert-clause-told
returns-in_ok-insert-clause-told c number =
    let table = c.args.types.now in
    let numbers = c.args.self.now in
    ap (λ keys. is_among keys number) (c.in_ok-insert.ensures.keys ∙ ap (λ keys. insert_key nat_eq keys c.args.aggregate) c.self.view_is)
    ∙ const_told table c.args.aggregate c.args.body.now numbers c.requires.consts c.requires.untold
    (ap (is_one_const (is_among numbers) table) (sym c.as_slice.ensures) ∙ sym c.is_one_const.ensures ∙ c.if-is_one_const.true) number

pub returns-else-is_one_const-clause-told : goal.returns-else-is_one_const-clause-told
returns-else-is_one_const-clause-told c number =
    let table = c.args.types.now in
    let numbers = c.args.self.now in
    none_told table c.args.aggregate c.args.body.now numbers c.requires.consts c.requires.untold
    (ap (is_one_const (is_among numbers) table) (sym c.as_slice.ensures) ∙ sym c.is_one_const.ensures ∙ c.if-is_one_const.false) number
