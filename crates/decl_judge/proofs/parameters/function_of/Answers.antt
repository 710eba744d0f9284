use Rattle.std.proofs.Common.{Some, Option, List, Bool, false, All, IfSome, option_map, if◌then◌else◌, sym, ap, ◌∙◌, subst}
use Rattle.sparse_model.specs.declared.ids.TypeId.{TypeId}
use Rattle.meaning_types.specs.Types.{TypeTree, TypeTrees, NoTypes}
use Rattle.meaning_typing.specs.Declarators as meaning
use Rattle.c_types.specs.Table.{IsTypeId, type_at}
use Rattle.node_facts.specs.Facts.{nodes_seen}
use Rattle.decl_judge.specs.Units.{handles_of, nodes_of}
use Rattle.decl_judge.proofs.ParameterLemmas.{numbered, parameters_known, parameters_told}
use Rattle.decl_judge.proofs.parameters.function_of.Goals as goal

pub function_type-requires-in-Some-clause-parameters : goal.function_type-requires-in-Some-clause-parameters
function_type-requires-in-Some-clause-parameters c =
    let table = c.args.types.now in
    subst (λ (found : Option (List TypeId)). IfSome found (All (IsTypeId table))) (sym c.in_ok-parameters.ensures ∙ c.in-Some.is)
    (parameters_known table (nodes_of c.args.unit.now) c.args.facts.now (handles_of c.args.children.now) c.requires.facts)

pub returns-in_ok-function_type-in-Some-clause-made : goal.returns-in_ok-function_type-in-Some-clause-made
returns-in_ok-function_type-in-Some-clause-made c =
    let table = c.args.types.now in
    let nodes = nodes_of c.args.unit.now in
    let facts = nodes_seen table c.args.facts.now in
    let handles = handles_of c.args.children.now in
    let answer = type_at table c.args.answer in
    let void : Option TypeTree = Some (meaning.function_type answer false NoTypes) in
    let made = (λ (variadic : Bool) (parameters : Option TypeTrees). option_map (meaning.function_type answer variadic) parameters) in
    ap Some c.in_ok-function_type-in-Some.ensures.made
    ∙ ap (λ found. made c.is_variadic-variadic.result (numbered table found)) (sym c.in-Some.is ∙ c.in_ok-parameters.ensures)
    ∙ (λ i. made (c.is_variadic-variadic.ensures i) (parameters_told table nodes c.args.facts.now handles i))
    ∙ ap (λ is_void. if is_void then void else made (meaning.is_variadic nodes handles) (meaning.parameter_types nodes facts handles))
    (sym c.if-branch.false ∙ c.in_ok-is_void_list.ensures)

pub returns-in-None-clause-made : goal.returns-in-None-clause-made
returns-in-None-clause-made c =
    let table = c.args.types.now in
    let nodes = nodes_of c.args.unit.now in
    let facts = nodes_seen table c.args.facts.now in
    let handles = handles_of c.args.children.now in
    let answer = type_at table c.args.answer in
    let void : Option TypeTree = Some (meaning.function_type answer false NoTypes) in
    let made = (λ (parameters : Option TypeTrees). option_map (meaning.function_type answer (meaning.is_variadic nodes handles)) parameters) in
    ap (λ found. made (numbered table found)) (sym c.in-None.is ∙ c.in_ok-parameters.ensures)
    ∙ ap made (parameters_told table nodes c.args.facts.now handles)
    ∙ ap (λ is_void. if is_void then void else made (meaning.parameter_types nodes facts handles)) (sym c.if-branch.false ∙ c.in_ok-is_void_list.ensures)
