-- A name stands for an enumerator, or for what is declared.
use Rattle.std.proofs.Common.{◌≡◌, ℕ, sym, ap, subst, ◌∙◌}
use Rattle.meaning_typing.specs.EnumRows.{is_enumerator}
use Rattle.meaning_typing.specs.Names.{declared_behind}
use Rattle.meaning_typing.specs.Surroundings.{Surrounding}
use Rattle.meaning_typing.specs.Units.{kind_at, node_at}
use Rattle.c_tree.specs.Seen.{node_of}
use Rattle.decl_judge.specs.Units.{nodes_of}
use Rattle.expr_judge.proofs.NodeLemmas.{node-is}
use Rattle.expression_rows.specs.Names.{IsNamed}
use Rattle.node_facts.specs.Facts.{nodes_seen}
use Rattle.node_surroundings.specs.Seen.{surroundings_seen}
use Rattle.whole_rows.specs.Rows.{is_for_value}
use Rattle.node_judge.proofs.names.name.Goals as goal

pub enumerator_name-requires-clause-names : goal.enumerator_name-requires-clause-names
enumerator_name-requires-clause-names c =
    ap (λ n. n.number) (node-is c.args.unit.now c.requires.whole c.args.handle (node_of c.node.result.now) c.node.ensures) ∙ sym c.in-Some.ensures.one

pub enumerator_name-requires-clause-want : goal.enumerator_name-requires-clause-want
enumerator_name-requires-clause-want c =
    ap (λ (at : Surrounding). is_for_value at.want) (sym c.get.ensures.seen) ∙ sym c.is_for_value-is_valued.ensures

pub returns-in-Some : goal.returns-in-Some
returns-in-Some c = c.enumerator_name.ensures c.args.found.now

pub returns-in-None : goal.returns-in-None
returns-in-None c =
    let nodes = nodes_of c.args.unit.now in
    let surroundings = surroundings_seen c.args.surroundings.now in
    let table = c.args.types.now in
    let facts = nodes_seen table c.args.facts.now in
    let handle = c.args.handle in
    let node = node_of c.node.result.now in
    let number : (node_at nodes handle).number ≡ node.number =
    ap (λ n. n.number) (node-is c.args.unit.now c.requires.whole handle node c.node.ensures) in
    c.row_of_declared_name.ensures nodes surroundings facts handle
    (record {
      at = record {
        kind = c.requires.kind;
        stands = sym c.token_at.ensures;
        want = ap (λ (at : Surrounding). is_for_value at.want) (sym c.get.ensures.seen) ∙ sym c.is_for_value-is_valued.ensures;
      };
      declares = ap (λ n. is_enumerator (kind_at nodes n)) number ∙ c.in-None.ensures.none;
      stands_for = subst (λ (n : ℕ). IsNamed table c.declared_name-named.result facts (declared_behind nodes surroundings facts n)) (sym number) c.declared_name-named.ensures.named;
    })
