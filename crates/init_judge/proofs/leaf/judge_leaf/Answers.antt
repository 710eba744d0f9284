-- A string, or a value.
use Rattle.std.proofs.Common.{ap, sym, ◌∙◌}
use Rattle.meaning_initializers.specs.Plans.{leaf_of}
use Rattle.meaning_initializers.specs.Reading.{given_at}
use Rattle.decl_judge.specs.Units.{nodes_of}
use Rattle.node_facts.specs.Facts.{nodes_seen}
use Rattle.initializer_levels.specs.Parts.{type_seen}
use Rattle.initializer_levels.specs.Paths.{path_at}
use Rattle.init_judge.specs.Said.{one_kept}
use Rattle.init_judge.proofs.LeafLemmas.{string_says, value_says}
use Rattle.init_judge.proofs.leaf.judge_leaf.Goals as goal

pub returns-in-Some-clause-says : goal.returns-in-Some-clause-says
returns-in-Some-clause-says c = λ paths.
    let table = c.args.types.now in
    let nodes = nodes_of c.args.unit.now in
    let facts = nodes_seen table c.args.facts.now in
    let placed = c.args.placed in
    let type_ = type_seen table placed.of in
    string_says nodes facts type_ (path_at paths placed.path) placed.is_moved placed.initializer c.in-Some.elements c.args.is_static table paths c.args.found.now c.judge_string.result
    (sym (c.elements_for.ensures facts type_ c.parts_of-parts.ensures.parts) ∙ c.in-Some.is)
    (c.judge_string.ensures.said table paths facts c.parts_of-parts.ensures.parts)

pub returns-in_ok-broken-in-None-clause-says : goal.returns-in_ok-broken-in-None-clause-says
returns-in_ok-broken-in-None-clause-says c = λ paths.
    let table = c.args.types.now in
    let nodes = nodes_of c.args.unit.now in
    let facts = nodes_seen table c.args.facts.now in
    let placed = c.args.placed in
    let type_ = type_seen table placed.of in
    value_says nodes facts type_ (path_at paths placed.path) placed.is_moved placed.initializer 0 c.args.is_static table c.judge_value.new.types paths c.args.found.now
    c.judge_value.new.found _ (sym (c.elements_for.ensures facts type_ c.parts_of-parts.ensures.parts) ∙ c.in-None.is)
    (ap (one_kept (leaf_of type_ (path_at paths placed.path) placed.is_moved (given_at nodes facts placed.initializer))) c.in_ok-broken-in-None.ensures.broken)
    c.in_ok-broken-in-None.ensures.failures c.in_ok-broken-in-None.ensures.keeps
