use Rattle.std.proofs.Common.{Some, option_map, sym, ap, ◌∙◌}
use Rattle.c_types.specs.Table.{type_at}
use Rattle.node_facts.specs.Facts.{nodes_seen}
use Rattle.decl_judge.specs.Seen.{words_seen}
use Rattle.decl_judge.specs.Units.{handles_of, nodes_of}
use Rattle.decl_judge.proofs.AskedLemmas.{named_at_told, said_by}
use Rattle.tag_rows.proofs.SpecifierLemmas.{any_said_told}
use Rattle.tag_rows.proofs.specifiers.type_said.Goals as goal

pub returns-in-Some-clause-made : goal.returns-in-Some-clause-made
returns-in-Some-clause-made c =
    let table = c.args.types.now in
    let nodes = nodes_of c.args.unit.now in
    let facts = nodes_seen table c.args.facts.now in
    let words = words_seen c.args.words in
    ap (option_map (type_at table)) c.named_type_at.ensures
    ∙ named_at_told table c.args.facts.now c.in-Some.child
    ∙ ap (said_by nodes facts words) (sym c.in-Some.is ∙ c.naming_child.ensures)
    ∙ any_said_told nodes facts words (handles_of c.args.children.now)

pub returns-in_ok-type_of_words-in-None-clause-made : goal.returns-in_ok-type_of_words-in-None-clause-made
returns-in_ok-type_of_words-in-None-clause-made c =
    let nodes = nodes_of c.args.unit.now in
    let facts = nodes_seen c.args.types.now c.args.facts.now in
    let words = words_seen c.args.words in
    ap Some c.in_ok-type_of_words-in-None.ensures.made
    ∙ ap (said_by nodes facts words) (sym c.in-None.is ∙ c.naming_child.ensures)
    ∙ any_said_told nodes facts words (handles_of c.args.children.now)
