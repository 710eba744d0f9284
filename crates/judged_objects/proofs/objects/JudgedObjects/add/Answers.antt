-- A declaration, or any other fact.
use Rattle.std.proofs.Common.{◌≡◌, ◌<◌, [], ◌∷◌, ◌++◌, List, length, refl, sym, subst, arith}
use Rattle.std.proofs.lemmas.Result.{IfOk-weaker}
use Rattle.indexmap.specs.IndexMap.{get}
use Rattle.meaning_typing.specs.Facts as meaning
use Rattle.meaning_typing.specs.Surroundings.{Surrounding, surrounding_at}
use Rattle.c_types.specs.Table.{TypeTable}
use Rattle.decl_judge.specs.Units.{nodes_of}
use Rattle.node_facts.specs.declared.fact.NodeFact.{NodeFact}
use Rattle.node_facts.specs.declared.fact.NodeFact.TheVariants as facts
use Rattle.node_facts.specs.Facts.{declared_seen, node_seen}
use Rattle.node_surroundings.specs.Seen.{surrounding_seen}
use Rattle.judged_objects.specs.Kept.{AreObjects, same_handle, same_name}
use Rattle.judged_objects.proofs.KeptLemmas.{kept_still}
use Rattle.judged_objects.proofs.objects.JudgedObjects.add.Goals as goal

pub returns-in-Declared : goal.returns-in-Declared
returns-in-Declared c =
    let nodes = nodes_of c.args.unit.now in
    let old = c.args.self.now in
    let new = c.keep_declaration.new.self in
    let handle = c.args.handle in
    let stands = surrounding_seen c.args.surrounding in
    IfOk-weaker c.keep_declaration.result
    (λ _. (table : TypeTable) (surroundings : List Surrounding) (known : List meaning.Fact) → length known ≡ handle → handle < length surroundings
    → surrounding_at surroundings handle ≡ stands → AreObjects nodes surroundings known old
    → AreObjects nodes surroundings (known ++ meaning.Declared (declared_seen table c.in-Declared.declaration) ∷ []) new) _
    (λ _ joins table surroundings known here within stood kept.
    subst (λ (fact : NodeFact). AreObjects nodes surroundings (known ++ node_seen table fact ∷ []) new) (sym c.in-Declared.is)
    (joins table surroundings known here within stood kept))
    c.keep_declaration.ensures

pub returns-in-Unknown : goal.returns-in-Unknown
returns-in-Unknown c = λ table surroundings known here within stood kept.
    let nodes = nodes_of c.args.unit.now in
    let old = c.args.self.now in
    subst (λ (fact : NodeFact). AreObjects nodes surroundings (known ++ node_seen table fact ∷ []) old) (sym c.in-Unknown.is)
    (kept_still nodes surroundings known (node_seen table facts.Unknown) (get same_name old.linked) (get same_handle old.unlinked)
    (omega (arith, here, within)) kept (λ name. refl) refl)

pub returns-in-Expression : goal.returns-in-Expression
returns-in-Expression c = λ table surroundings known here within stood kept.
    let nodes = nodes_of c.args.unit.now in
    let old = c.args.self.now in
    subst (λ (fact : NodeFact). AreObjects nodes surroundings (known ++ node_seen table fact ∷ []) old) (sym c.in-Expression.is)
    (kept_still nodes surroundings known (node_seen table (facts.Expression c.in-Expression.field-0)) (get same_name old.linked) (get same_handle old.unlinked)
    (omega (arith, here, within)) kept (λ name. refl) refl)

pub returns-in-Specified : goal.returns-in-Specified
returns-in-Specified c = λ table surroundings known here within stood kept.
    let nodes = nodes_of c.args.unit.now in
    let old = c.args.self.now in
    subst (λ (fact : NodeFact). AreObjects nodes surroundings (known ++ node_seen table fact ∷ []) old) (sym c.in-Specified.is)
    (kept_still nodes surroundings known (node_seen table (facts.Specified c.in-Specified.field-0)) (get same_name old.linked) (get same_handle old.unlinked)
    (omega (arith, here, within)) kept (λ name. refl) refl)

pub returns-in-NamedType : goal.returns-in-NamedType
returns-in-NamedType c = λ table surroundings known here within stood kept.
    let nodes = nodes_of c.args.unit.now in
    let old = c.args.self.now in
    subst (λ (fact : NodeFact). AreObjects nodes surroundings (known ++ node_seen table fact ∷ []) old) (sym c.in-NamedType.is)
    (kept_still nodes surroundings known (node_seen table (facts.NamedType c.in-NamedType.field-0)) (get same_name old.linked) (get same_handle old.unlinked)
    (omega (arith, here, within)) kept (λ name. refl) refl)
