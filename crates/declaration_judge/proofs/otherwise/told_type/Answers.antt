use Rattle.std.proofs.Common.{◌≡◌, Option, Some, None, IfSome, option_map, ap, sym, subst, ◌∙◌}
use Rattle.c_types.specs.Table.{IsTypeId}
use Rattle.decl_judge.specs.Units.{nodes_of}
use Rattle.meaning_typing.specs.ContextSums.{type_declared}
use Rattle.meaning_typing.specs.Facts.{DeclaredFact}
use Rattle.meaning_typing.specs.Names.{declared_behind}
use Rattle.node_facts.specs.declared.declared.DeclaredFact as kept
use Rattle.node_surroundings.specs.Seen.{surroundings_seen}
use Rattle.expr_judge.specs.Parts.{declaration_in}
use Rattle.expr_judge.proofs.NameLemmas.{declared_known}
use Rattle.declaration_judge.specs.Kept.{facts_seen}
use Rattle.declaration_judge.proofs.BehindLemmas.{declared-at, type_declared-by, undeclared-at}
use Rattle.declaration_judge.proofs.otherwise.told_type.Goals as goal

pub declared_behind-told-requires-clause-declares : goal.declared_behind-told-requires-clause-declares
declared_behind-told-requires-clause-declares c =
    declared-at c.args.kept.now.types c.args.kept.now.facts c.args.node c.in-Some.declaration
    (ap declaration_in (sym c.at.ensures) ∙ sym c.declaration_of.ensures ∙ c.in-Some.is)

pub declared_behind-told-requires-clause-of : goal.declared_behind-told-requires-clause-of
declared_behind-told-requires-clause-of c =
    let types = c.args.kept.now.types in
    subst (λ (found : Option kept.DeclaredFact). IfSome found (λ declaration. IsTypeId types declaration.of))
    (ap declaration_in (sym c.at.ensures) ∙ sym c.declaration_of.ensures ∙ c.in-Some.is)
    (declared_known types c.args.kept.now.facts c.args.node c.requires.kept.whole.ids)

pub returns-in-Some-clause-told : goal.returns-in-Some-clause-told
returns-in-Some-clause-told c = ap type_declared c.declared_behind-told.ensures.seen

pub returns-in-None-clause-told : goal.returns-in-None-clause-told
returns-in-None-clause-told c =
    let nodes = nodes_of c.args.unit.now in
    let surroundings = surroundings_seen c.args.surroundings.now in
    let kept = c.args.kept.now in
    ap (option_map (λ (declaration : DeclaredFact). declaration.type_))
    (undeclared-at kept.types kept.facts c.args.node nodes surroundings (ap declaration_in (sym c.at.ensures) ∙ sym c.declaration_of.ensures ∙ c.in-None.is))
    ∙ sym (type_declared-by (declared_behind nodes surroundings (facts_seen kept) c.args.node))
