-- What is known of types and declarations stays where the table grows.
use Rattle.std.proofs.Common.{◌≡◌, nat_eq, List, [], ◌∷◌, ◌++◌, length, get_or, refl, sym, ap, ◌∙◌, arith, length-append}
use Rattle.std.specs.List.{AllByRecursion}
use Rattle.std.proofs.lemmas.List.Elements.{All-from_recursion, recursion_from_All}
use Rattle.std.proofs.lemmas.List.{append-nil, append_assoc, get_or_append_left}
use Rattle.std.proofs.lemmas.Option.{unwrap_or-slice_get}
use Rattle.sparse_model.specs.declared.ids.NameId.{NameId}
use Rattle.sparse_model.specs.declared.ids.TypeId.{TypeId}
use Rattle.meaning_typing.specs.Names.{before_types}
use Rattle.c_types.specs.Rows.{no_type, types_behind}
use Rattle.c_types.specs.Table.{TypeTable, Extends, IsLonger, IsTypeId, type_at, types_in}
use Rattle.linked_names.specs.Linked.{AreTypeIds, no_types, types_of}
use Rattle.linked_names.specs.declared.declaration.Linked.{Linked}

-- Tables that extend one another

pub Extends-itself : (table : TypeTable) → Extends table table
Extends-itself table =
    record { types = ([], sym (append-nil (types_in table))); bodies = ([], sym (append-nil table.bodies)); names = ([], sym (append-nil table.names)) }

pub Extends-none : (table : TypeTable) → Extends no_types table
unfolding types_behind
Extends-none table = record { types = (types_in table, refl); bodies = (table.bodies, refl); names = (table.names, refl) }

longer-twice : {X : Type 0} (one two three : List X) → IsLonger one two → IsLonger two three → IsLonger one three
longer-twice one two three first second = (first.0 ++ second.0, second.1 ∙ ap (λ xs. xs ++ second.0) first.1 ∙ append_assoc one first.0 second.0)

pub Extends-twice : (one two three : TypeTable) → Extends one two → Extends two three → Extends one three
Extends-twice one two three first second =
    record {
      types = longer-twice (types_in one) (types_in two) (types_in three) first.types second.types;
      bodies = longer-twice one.bodies two.bodies three.bodies first.bodies second.bodies;
      names = longer-twice one.names two.names three.names first.names second.names;
    }

module _ (old new : TypeTable) (extends : Extends old new) where
  pub id-later : (id : TypeId) → IsTypeId old id → IsTypeId new id
  id-later id known = omega (arith, known, ap length extends.types.1, length-append (types_in old) extends.types.0)

  pub type-later : (id : TypeId) → IsTypeId old id → type_at new id ≡ type_at old id
  type-later id known =
      unwrap_or-slice_get (types_in new) id.0 no_type
      ∙ ap (λ types. get_or types id.0 no_type) extends.types.1
      ∙ get_or_append_left (types_in old) extends.types.0 no_type id.0 known
      ∙ sym (unwrap_or-slice_get (types_in old) id.0 no_type)

  -- the types of a name
  pub types_of-later : (name : NameId) (declarations : List Linked) → AllByRecursion (λ declaration. IsTypeId old declaration.of) declarations
      → types_of new name declarations ≡ types_of old name declarations
  types_of-later name [] known = refl
  types_of-later name (declaration ∷ declarations) known =
      λ i. before_types (nat_eq declaration.name.0 name.0) (type-later declaration.of known.0 i) (types_of-later name declarations known.1 i)

  pub known-later : (declarations : List Linked) → AllByRecursion (λ declaration. IsTypeId old declaration.of) declarations → AllByRecursion (λ declaration. IsTypeId new declaration.of) declarations
  known-later [] known = tt
  known-later (declaration ∷ declarations) known = (id-later declaration.of known.0, known-later declarations known.1)

  -- the same, where each is said to have a type of the table
  pub types_of-grown : (name : NameId) (declarations : List Linked) → AreTypeIds old declarations → types_of new name declarations ≡ types_of old name declarations
  types_of-grown name declarations known = types_of-later name declarations (recursion_from_All (λ declaration. IsTypeId old declaration.of) declarations known)

  pub ids-grown : (declarations : List Linked) → AreTypeIds old declarations → AreTypeIds new declarations
  ids-grown declarations known =
      All-from_recursion (λ declaration. IsTypeId new declaration.of) declarations
      (known-later declarations (recursion_from_All (λ declaration. IsTypeId old declaration.of) declarations known))
