use Rattle.std.proofs.Common.{◌≡◌, None, refl, sym, ap, subst, ◌∙◌}
use Rattle.meaning_typing.specs.EnumRows.{enumerator_name_fact, enumerator_named, enumerators_of}
use Rattle.meaning_typing.specs.Rows.{Row, known}
use Rattle.meaning_typing.specs.Surroundings.{surrounding_at}
use Rattle.meaning_typing.specs.Units.{node_at}
use Rattle.meaning_typing.specs.Wholes.{row_loaded}
use Rattle.node_facts.specs.Facts.{IsKnownNodeFact, node_seen}
use Rattle.expr_judge.specs.declared.row.NodeRow.{NodeRow}
use Rattle.expr_judge.specs.Rows.{SaysOnly, Tells, known_row}
use Rattle.expr_judge.proofs.TellingLemmas.{tells_only}
use Rattle.member_rows.specs.Aggregates.{aggregates_in}
use Rattle.whole_judge.proofs.LoadedLemmas.{tells_loaded}
use Rattle.whole_judge.proofs.NameLemmas.{enumerator_named as named_told}
use Rattle.whole_judge.proofs.names.row_of_enumerator_name.Goals as goal

pub as_loaded-requires : goal.as_loaded-requires
as_loaded-requires c =
    subst (λ (row : NodeRow). IsKnownNodeFact c.enumerator_name.new.types row.fact) (sym c.known.ensures) c.in_ok-named.ensures.known

pub returns : goal.returns
returns c nodes surroundings facts handle found is =
    let old = c.args.types.now in
    let new = c.enumerator_name.new.types in
    let declaration = (node_at nodes handle).number in
    let want = (surrounding_at surroundings handle).want in
    let list = enumerators_of nodes facts (surrounding_at surroundings declaration).parent in
    let fact = enumerator_name_fact nodes surroundings facts declaration in
    let seen : node_seen new c.in_ok-named.named ≡ fact =
    c.in_ok-named.ensures.fact list is.shares ∙ (λ i. enumerator_named (sym is.behind i) list (is.known i)) in
    let tells : Tells old new found found c.known.result (known fact) =
    tells_only old new found c.known.result (known fact)
    (subst (λ (row : NodeRow). SaysOnly new row (known fact)) (sym c.known.ensures)
    (record { row = λ i. record { fact = seen i; broken = None; passed = None }; ids = c.in_ok-named.ensures.known; silent = refl }))
    c.in_ok-named.ensures.keeps in
    subst (Tells old new found found c.as_loaded.result)
    ((λ i. row_loaded (aggregates_in old).told (sym is.at.stands i) want (known fact))
    ∙ named_told (aggregates_in old) nodes surroundings facts handle is.at.kind is.enumerates new c.in_ok-named.named seen)
    (tells_loaded old new found found c.known.result c.as_loaded.result (known fact) c.args.token want tells
    (c.as_loaded.ensures.row want (known fact) is.at.want tells.row) c.as_loaded.ensures.known)
