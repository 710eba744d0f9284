use Rattle.std.proofs.Common.{◌≡◌, None, Option, Some, IfSome, option_map, refl, sym, ap, subst, ◌∙◌}
use Rattle.meaning_typing.specs.Names.{declared_behind}
use Rattle.c_types.specs.Table.{IsTypeId}
use Rattle.decl_judge.specs.Units.{nodes_of}
use Rattle.node_facts.specs.declared.declared.DeclaredFact.{DeclaredFact}
use Rattle.node_facts.specs.Facts.{declared_seen, nodes_seen}
use Rattle.node_surroundings.specs.Seen.{surroundings_seen}
use Rattle.expression_rows.specs.declared.name.DeclaredName.{DeclaredName}
use Rattle.expression_rows.specs.Names.{IsNamed, IsNamedIf, declared_by}
use Rattle.node_judge.proofs.names.declared_name.Goals as goal

pub returns-in_err-declaration-clause-named : goal.returns-in_err-declaration-clause-named
returns-in_err-declaration-clause-named c =
    let table = c.args.types.now in
    let facts = nodes_seen table c.args.facts.now in
    let meant = declared_behind (nodes_of c.args.unit.now) (surroundings_seen c.args.surroundings.now) facts c.args.handle in
    let none : None ≡ declared_by meant = ap (option_map (declared_seen table)) (sym c.in_err-declaration.was) ∙ c.declaration_at.ensures.found in
    subst (λ (named : Option DeclaredName). IsNamed table named facts meant) (sym c.from_residual.ensures) (subst (IsNamedIf table None facts) none tt)

pub type_of_name-requires-clause-of : goal.type_of_name-requires-clause-of
type_of_name-requires-clause-of c =
    let table = c.args.types.now in
    subst (λ (found : Option DeclaredFact). IfSome found (λ declaration. IsTypeId table declaration.of)) c.in_ok-declaration.was c.declaration_at.ensures.known

pub returns-clause-named : goal.returns-clause-named
returns-clause-named c =
    let table = c.args.types.now in
    let facts = nodes_seen table c.args.facts.now in
    let declaration = c.in_ok-declaration.declaration in
    let meant = declared_behind (nodes_of c.args.unit.now) (surroundings_seen c.args.surroundings.now) facts c.args.handle in
    let one : Some (declared_seen table declaration) ≡ declared_by meant =
    ap (option_map (declared_seen table)) (sym c.in_ok-declaration.was) ∙ c.declaration_at.ensures.found in
    let named : DeclaredName =
    record { of = c.type_of_name.result; is_typedef = declaration.is_typedef; is_static = declaration.is_static; is_register = declaration.is_register } in
    subst (IsNamedIf table (Some named) facts) one
    (record { type_ = c.type_of_name.ensures.seen; is_typedef = refl; is_static = refl; is_register = refl })
