use Rattle.std.proofs.Common.{◌≡◌, [], ◌∷◌, ◌++◌, ◌||◌, ◌&&◌, nat_eq, refl, sym, subst}
use Rattle.std.proofs.lemmas.Result.{IfOk-weaker}
use Rattle.sparse_model.specs.declared.ids.NameId.{NameId}
use Rattle.meaning_typing.specs.DeclarationRows.{defines}
use Rattle.decl_judge.specs.Units.{nodes_of}
use Rattle.node_facts.specs.declared.fact.NodeFact.TheVariants as facts
use Rattle.node_facts.specs.Facts.{node_seen}
use Rattle.node_surroundings.specs.Seen.{surrounding_seen}
use Rattle.declaration_rows.specs.Kept.{AreDefined, is_among}
use Rattle.declaration_rows.proofs.DefinedLemmas.{defined_more, defined_same}
use Rattle.declaration_rows.proofs.definitions.DefinedNames.keep.Goals as goal

pub returns-in-Declared-clause-kept : goal.returns-in-Declared-clause-kept
returns-in-Declared-clause-kept c =
    let nodes = nodes_of c.args.unit.now in
    let old = c.args.self.now in
    let new = c.keep_declaration.new.self in
    let stands = surrounding_seen c.args.surrounding in
    let declaration = c.in-Declared.declaration in
    IfOk-weaker c.keep_declaration.result
    (λ _. (other : NameId) → is_among other new
    ≡ is_among other old || ((declaration.has_linkage && nat_eq other.0 declaration.name.0) && defines nodes stands)) _
    (λ _ joins table surroundings known stood are.
    subst (λ fact. AreDefined nodes surroundings (known ++ node_seen table fact ∷ []) new) (sym c.in-Declared.is)
    (defined_more nodes surroundings known old new table declaration stands stood joins are))
    c.keep_declaration.ensures.ok

pub returns-in-Unknown-clause-kept : goal.returns-in-Unknown-clause-kept
returns-in-Unknown-clause-kept c =
    λ table surroundings known stood are.
    let nodes = nodes_of c.args.unit.now in
    let old = c.args.self.now in
    subst (λ fact. AreDefined nodes surroundings (known ++ node_seen table fact ∷ []) old) (sym c.in-Unknown.is)
    (defined_same nodes surroundings known old old (node_seen table (facts.Unknown)) (λ name. refl) refl are)

pub returns-in-Expression-clause-kept : goal.returns-in-Expression-clause-kept
returns-in-Expression-clause-kept c =
    λ table surroundings known stood are.
    let nodes = nodes_of c.args.unit.now in
    let old = c.args.self.now in
    subst (λ fact. AreDefined nodes surroundings (known ++ node_seen table fact ∷ []) old) (sym c.in-Expression.is)
    (defined_same nodes surroundings known old old (node_seen table (facts.Expression c.in-Expression.field-0)) (λ name. refl) refl are)

pub returns-in-Specified-clause-kept : goal.returns-in-Specified-clause-kept
returns-in-Specified-clause-kept c =
    λ table surroundings known stood are.
    let nodes = nodes_of c.args.unit.now in
    let old = c.args.self.now in
    subst (λ fact. AreDefined nodes surroundings (known ++ node_seen table fact ∷ []) old) (sym c.in-Specified.is)
    (defined_same nodes surroundings known old old (node_seen table (facts.Specified c.in-Specified.field-0)) (λ name. refl) refl are)

pub returns-in-NamedType-clause-kept : goal.returns-in-NamedType-clause-kept
returns-in-NamedType-clause-kept c =
    λ table surroundings known stood are.
    let nodes = nodes_of c.args.unit.now in
    let old = c.args.self.now in
    subst (λ fact. AreDefined nodes surroundings (known ++ node_seen table fact ∷ []) old) (sym c.in-NamedType.is)
    (defined_same nodes surroundings known old old (node_seen table (facts.NamedType c.in-NamedType.field-0)) (λ name. refl) refl are)
