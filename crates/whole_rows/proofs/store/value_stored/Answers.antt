-- Where it is no place its value has the same type.
use Rattle.std.proofs.Common.{ap, sym, subst, ◌∙◌}
use Rattle.meaning_typing.specs.Facts.{type_of_value}
use Rattle.c_types.specs.Table.{IsTypeId}
use Rattle.node_facts.specs.Facts.{fact_seen}
use Rattle.whole_rows.specs.ConstAggregates.{is_among}
use Rattle.whole_rows.proofs.StoreLemmas.{value_stays}
use Rattle.whole_rows.proofs.store.value_stored.Goals as goal

pub returns-clause-known : goal.returns-clause-known
returns-clause-known c =
    let table = c.args.types.now in
    let place = c.args.place in (
      subst (λ node. IsTypeId table node.of) (sym c.place_stored.ensures.node) c.requires.0,
      record {
        known = c.requires.1.known;
        value =
            c.requires.1.value
            ∙ sym (ap type_of_value c.place_stored.ensures.stored ∙ value_stays (is_among c.args.consts.now) (fact_seen table place.fact));
      },
    )
