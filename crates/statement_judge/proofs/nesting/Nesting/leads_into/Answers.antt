use Rattle.std.proofs.Common.{◌≡◌, not, sym, ap, ◌∙◌}
use Rattle.meaning_statements.specs.Above.{expressions_around, leads_into}
use Rattle.decl_judge.specs.Units.{nodes_of}
use Rattle.node_facts.specs.Facts.{name_seen}
use Rattle.node_surroundings.specs.Seen.{surroundings_seen}
use Rattle.statement_judge.proofs.LaidLemmas.{around_is}
use Rattle.statement_judge.proofs.nesting.Nesting.leads_into.Goals as goal

pub returns-in-Some : goal.returns-in-Some
returns-in-Some c = λ surroundings are is.
    ap not (c.is_around.ensures
    ∙ sym (around_is c.args.unit.now c.requires.whole c.requires.laid c.each_node_stands_for_one_tree.ensures.order (surroundings_seen surroundings)
    (are name_seen) c.each_node_stands_for_one_tree.ensures.trees c.args.self.now.runs is.runs c.in-Some.expression c.args.jump))
    ∙ ap (leads_into (expressions_around (nodes_of c.args.unit.now) (surroundings_seen surroundings) c.args.jump)) (sym c.in-Some.is)
