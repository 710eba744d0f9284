-- The map keeps what belongs to the declarations, once one more has joined.
use Rattle.std.proofs.Common.{◌≡◌, Bool, true, false, nat_eq, List, [], ◌∷◌, ◌++◌, Option, Some, None, IfSome, cond, refl, sym, ap, ◌∙◌, subst}
use Rattle.std.specs.List.{AllByRecursion}
use Rattle.std.proofs.lemmas.Bool.{eqb-true}
use Rattle.std.proofs.lemmas.List.{append-nil}
use Rattle.sparse_model.specs.declared.ids.NameId.{NameId}
use Rattle.sparse_model.specs.declared.ids.TypeId.{TypeId}
use Rattle.meaning_types.specs.Types.{TypeTree}
use Rattle.meaning_typing.specs.Names.{before_types}
use Rattle.c_types.specs.Table.{TypeTable, Extends, IsTypeId, type_at}
use Rattle.linked_names.specs.Linked.{types_of}
use Rattle.linked_names.specs.Kept.{AreDeclarations, AreIds, AreKept, IsIndex, same_key}
use Rattle.linked_names.specs.declared.declaration.Linked.{Linked}
use Rattle.linked_names.specs.declared.declarations.Declarations.{Declarations}
use Rattle.linked_names.proofs.GrowthLemmas.{Extends-twice, id-later, known-later, types_of-later}
use Rattle.linked_names.proofs.KeptLemmas.{declarations-later, found_ids-later, ids-later, kept-later}

known-push : (table : TypeTable) (declarations : List Linked) (next : Linked) → AllByRecursion (λ declaration. IsTypeId table declaration.of) declarations → IsTypeId table next.of
    → AllByRecursion (λ declaration. IsTypeId table declaration.of) (declarations ++ next ∷ [])
known-push table [] next known is = (is, tt)
known-push table (declaration ∷ declarations) next known is = (known.0, known-push table declarations next known.1 is)

before-more : (test : Bool) (type_ : TypeTree) (types more : List TypeTree) → before_types test type_ types ++ more ≡ before_types test type_ (types ++ more)
before-more true type_ types more = refl
before-more false type_ types more = refl

-- What the map says of a name, over a table that has grown since
module _ (over new : TypeTable) (extends : Extends over new) (declarations : List Linked) (found : NameId → Option Declarations) (index : IsIndex over declarations found) (name : NameId) where
  pub index-ids : (one : Declarations) → found name ≡ Some one → AreIds new one
  index-ids one is = ids-later over new extends one (subst (λ some. IfSome some (AreIds over)) is (index.ids name))

  pub index-kept : (one : Declarations) → found name ≡ Some one → AreDeclarations new (types_of new name declarations) one
  index-kept one is =
      subst (λ (types : List TypeTree). AreDeclarations new types one) (sym (types_of-later over new extends name declarations index.known))
      (declarations-later over new extends (types_of over name declarations) one (subst (λ some. IfSome some (AreIds over)) is (index.ids name))
      (subst (AreKept over (types_of over name declarations)) is (index.kept name)))

  pub index-empty : found name ≡ None → types_of new name declarations ≡ []
  index-empty is = types_of-later over new extends name declarations index.known ∙ subst (AreKept over (types_of over name declarations)) is (index.kept name)

-- One declaration more

-- the types of a name behind one declaration more
types_of-more : (table : TypeTable) (name : NameId) (declarations : List Linked) (next : Linked)
    → types_of table name (declarations ++ next ∷ []) ≡ types_of table name declarations ++ before_types (nat_eq next.name.0 name.0) (type_at table next.of) []
types_of-more table name [] next = refl
types_of-more table name (declaration ∷ declarations) next =
    ap (before_types (nat_eq declaration.name.0 name.0) (type_at table declaration.of)) (types_of-more table name declarations next)
    ∙ sym (before-more (nat_eq declaration.name.0 name.0) (type_at table declaration.of) (types_of table name declarations) _)

module _ (over old new : TypeTable) (declarations : List Linked) (found later : NameId → Option Declarations) (index : IsIndex over declarations found)
    (before : Extends over old) (extends : Extends old new) (name : NameId) (of : TypeId) (known : IsTypeId old of) (more : Declarations)
    (ids : AreIds new more) (kept : (types : List TypeTree) → AreKept old types (found name) → AreDeclarations new (types ++ type_at new of ∷ []) more)
    (updates : (other : NameId) → later other ≡ cond (same_key name other) (Some more) (found other)) where
  abbrev all : Extends over new
  all = Extends-twice over old new before extends

  -- at the name itself
  here : AreDeclarations new (types_of new name declarations ++ type_at new of ∷ []) more
  here =
      subst (λ (types : List TypeTree). AreDeclarations new (types ++ type_at new of ∷ []) more) (sym (types_of-later over new all name declarations index.known))
      (kept (types_of over name declarations) (kept-later over old before (types_of over name declarations) (found name) (index.ids name) (index.kept name)))

  ids_by : (other : NameId) (same : Bool) → IfSome (cond same (Some more) (found other)) (AreIds new)
  ids_by other true = ids
  ids_by other false = found_ids-later over new all (found other) (index.ids other)

  kept_by : (other : NameId) (same : Bool) → nat_eq name.0 other.0 ≡ same
      → AreKept new (types_of new other declarations ++ before_types same (type_at new of) []) (cond same (Some more) (found other))
  kept_by other true same =
      subst (λ (one : NameId). AreDeclarations new (types_of new one declarations ++ type_at new of ∷ []) more) (ap (λ number. record { 0 = number }) (eqb-true name.0 other.0 same)) here
  kept_by other false apart =
      subst (λ (types : List TypeTree). AreKept new types (found other)) (sym (append-nil _ ∙ types_of-later over new all other declarations index.known))
      (kept-later over new all (types_of over other declarations) (found other) (index.ids other) (index.kept other))

  pub index-more : IsIndex new (declarations ++ record { name = name; of = of } ∷ []) later
  index-more =
      record {
        known = known-push new declarations _ (known-later over new all declarations index.known) (id-later old new extends of known);
        ids = λ other. subst (λ one. IfSome one (AreIds new)) (sym (updates other)) (ids_by other (same_key name other));
        kept = λ other.
            subst (λ one. AreKept new (types_of new other (declarations ++ record { name = name; of = of } ∷ [])) one) (sym (updates other))
            (subst (λ types. AreKept new types (cond (same_key name other) (Some more) (found other))) (sym (types_of-more new other declarations (record { name = name; of = of })))
            (kept_by other (nat_eq name.0 other.0) refl));
      }
