use Rattle.std.proofs.Common.{◌≡◌, Some, None, IfSome, Option, ap, sym, subst, ◌∙◌}
use Rattle.c_types.specs.Table.{IsTypeId}
use Rattle.decl_judge.specs.Units.{nodes_of}
use Rattle.node_facts.specs.declared.declared.DeclaredFact.{DeclaredFact}
use Rattle.node_surroundings.specs.Seen.{surroundings_seen}
use Rattle.expression_rows.specs.Names.{declared_by}
use Rattle.expr_judge.specs.Parts.{declaration_in}
use Rattle.expr_judge.proofs.NameLemmas.{declared_known}
use Rattle.declaration_judge.proofs.BehindLemmas.{declared-at, undeclared-at}
use Rattle.node_judge.proofs.names.declaration_behind.Goals as goal

pub declared_behind-requires-clause-declares : goal.declared_behind-requires-clause-declares
declared_behind-requires-clause-declares c =
    declared-at c.args.types.now c.args.facts.now c.args.handle c.in-Some.declaration
    (ap declaration_in (sym c.at.ensures) ∙ sym c.declaration_of.ensures ∙ c.in-Some.is)

pub declared_behind-requires-clause-of : goal.declared_behind-requires-clause-of
declared_behind-requires-clause-of c =
    subst (λ (found : Option DeclaredFact). IfSome found (λ declaration. IsTypeId c.args.types.now declaration.of))
    (ap declaration_in (sym c.at.ensures) ∙ sym c.declaration_of.ensures ∙ c.in-Some.is)
    (declared_known c.args.types.now c.args.facts.now c.args.handle c.requires.ids)

pub returns-in-Some-clause-found : goal.returns-in-Some-clause-found
returns-in-Some-clause-found c = ap declared_by c.declared_behind.ensures.seen

pub returns-in-None-clause-found : goal.returns-in-None-clause-found
returns-in-None-clause-found c =
    undeclared-at c.args.types.now c.args.facts.now c.args.handle (nodes_of c.args.unit.now) (surroundings_seen c.args.surroundings.now)
    (ap declaration_in (sym c.at.ensures) ∙ sym c.declaration_of.ensures ∙ c.in-None.is)
