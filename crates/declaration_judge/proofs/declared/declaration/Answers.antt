use Rattle.std.proofs.Common.{IfOk, sym, subst, ◌∙◌}
use Rattle.meaning_typing.specs.Rows.{Row}
use Rattle.decl_judge.specs.Units.{nodes_of}
use Rattle.expr_judge.specs.Rows.{Tells}
use Rattle.node_surroundings.specs.Seen.{surrounding_seen, surroundings_seen}
use Rattle.declaration_judge.proofs.DeclarationLemmas.{no_declaration, one_declaration, one_known, tells_nothing}
use Rattle.declaration_judge.proofs.declared.declaration.Goals as goal

pub declared-requires-clause-of : goal.declared-requires-clause-of
declared-requires-clause-of c =
    one_known (nodes_of c.args.unit.now) (surroundings_seen c.args.surroundings.now) c.args.kept.now c.args.handle (surrounding_seen c.args.surrounding)
    c.args.fact c.in-Some.declaration (sym c.declaration_of.ensures ∙ c.in-Some.is) c.requires.fact

pub returns-in-Some : goal.returns-in-Some
returns-in-Some c =
    let table = c.args.kept.now.types in
    subst (λ (meant : Row). IfOk c.declared.result (λ row. Tells table table c.args.found.now c.declared.new.found row meant))
    (one_declaration (nodes_of c.args.unit.now) (surroundings_seen c.args.surroundings.now) c.args.kept.now c.args.handle
    (surrounding_seen c.args.surrounding) c.args.fact c.in-Some.declaration (sym c.declaration_of.ensures ∙ c.in-Some.is))
    c.declared.ensures

pub returns-in-None : goal.returns-in-None
returns-in-None c =
    let table = c.args.kept.now.types in
    subst (λ (meant : Row). Tells table table c.args.found.now c.args.found.now c.known.result meant)
    (sym
    (no_declaration (nodes_of c.args.unit.now) (surroundings_seen c.args.surroundings.now) c.args.kept.now c.args.handle
    (surrounding_seen c.args.surrounding) c.args.fact (sym c.declaration_of.ensures ∙ c.in-None.is)))
    (tells_nothing table c.args.found.now c.known.result c.known.ensures)
