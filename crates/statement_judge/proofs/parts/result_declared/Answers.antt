use Rattle.std.proofs.Common.{Option, IfSome, option_map, sym, ap, subst, ◌∙◌}
use Rattle.meaning_typing.specs.Facts.{fact_at}
use Rattle.c_types.specs.Table.{IsTypeId, type_at}
use Rattle.node_facts.specs.declared.declared.DeclaredFact.{DeclaredFact}
use Rattle.node_facts.specs.Facts.{declared_seen, nodes_seen}
use Rattle.expr_judge.specs.Parts.{declaration_in}
use Rattle.expr_judge.proofs.NameLemmas.{declared_at, declared_known}
use Rattle.statement_judge.proofs.PartLemmas.{result_declared-by, result_of_declaration}
use Rattle.statement_judge.proofs.parts.result_declared.Goals as goal

pub returns-in_err-declaration-clause-seen : goal.returns-in_err-declaration-clause-seen
returns-in_err-declaration-clause-seen c =
    let types = c.args.types.now in
    let facts = c.args.facts.now in
    ap (option_map (type_at types)) c.from_residual.ensures
    ∙ ap (λ found. result_of_declaration (option_map (declared_seen types) found))
    (sym c.in_err-declaration.was ∙ c.declaration_of.ensures ∙ ap declaration_in c.at.ensures)
    ∙ ap result_of_declaration (declared_at types facts c.args.handle)
    ∙ result_declared-by (fact_at (nodes_seen types facts) c.args.handle)

pub result_in-requires : goal.result_in-requires
result_in-requires c =
    let types = c.args.types.now in
    subst (λ (found : Option DeclaredFact). IfSome found (λ declaration. IsTypeId types declaration.of))
    (sym (c.declaration_of.ensures ∙ ap declaration_in c.at.ensures) ∙ c.in_ok-declaration.was)
    (declared_known types c.args.facts.now c.args.handle c.requires.ids)

pub returns-clause-seen : goal.returns-clause-seen
returns-clause-seen c =
    let types = c.args.types.now in
    let facts = c.args.facts.now in
    c.result_in.ensures.seen
    ∙ ap (λ found. result_of_declaration (option_map (declared_seen types) found))
    (sym c.in_ok-declaration.was ∙ c.declaration_of.ensures ∙ ap declaration_in c.at.ensures)
    ∙ ap result_of_declaration (declared_at types facts c.args.handle)
    ∙ result_declared-by (fact_at (nodes_seen types facts) c.args.handle)
