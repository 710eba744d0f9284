-- The map keeps what belongs to the declarations with contexts, once one more has joined.
use Rattle.std.proofs.Common.{◌≡◌, ℕ, Bool, true, false, nat_eq, List, [], ◌∷◌, ◌++◌, Option, Some, None, IfSome, cond, option_map, refl, sym, ap, ◌∙◌, subst}
use Rattle.std.specs.List.{AllByRecursion}
use Rattle.std.proofs.lemmas.Bool.{eqb-true}
use Rattle.std.proofs.lemmas.List.{append-nil}
use Rattle.sparse_model.specs.declared.ids.NameId.{NameId}
use Rattle.sparse_model.specs.declared.ids.TypeId.{TypeId}
use Rattle.meaning_typing.specs.ContextSums.{LinkedDeclaration, declarations_with}
use Rattle.c_types.specs.Table.{TypeTable, Extends, IsTypeId}
use Rattle.linked_names.specs.Contexts.{AreCarriedIds, AreCarriedKept, IsCarried, IsCarriedIndex, declaration_of, declarations_of, sums_of}
use Rattle.linked_names.specs.Kept.{same_key}
use Rattle.linked_names.specs.declared.carried.Carried.{Carried}
use Rattle.linked_names.specs.declared.declaration.Declared.{Declared}
use Rattle.linked_names.specs.declared.sums.ContextSums.{ContextSums}
use Rattle.linked_names.proofs.CarriedLemmas.{carried-later, carried_ids-later, carried_kept-later, found_carried-later}
use Rattle.linked_names.proofs.GrowthLemmas.{Extends-twice, id-later, type-later}

-- Declarations over a table that has grown

module _ (old new : TypeTable) (extends : Extends old new) where
  declaration_of-later : (of : TypeId) (contexts : Option ContextSums) → IsTypeId old of → declaration_of new of contexts ≡ declaration_of old of contexts
  declaration_of-later of contexts known = λ i. record { type_ = type-later old new extends of known i; contexts = option_map sums_of contexts }

  pub declarations_of-later : (name : NameId) (declarations : List Declared) → AllByRecursion (λ declaration. IsTypeId old declaration.of) declarations
      → declarations_of new name declarations ≡ declarations_of old name declarations
  declarations_of-later name [] known = refl
  declarations_of-later name (declaration ∷ declarations) known =
      λ i. declarations_with (nat_eq declaration.name.0 name.0) (declaration_of-later declaration.of declaration.contexts known.0 i) (declarations_of-later name declarations known.1 i)

  pub declared-later : (declarations : List Declared) → AllByRecursion (λ declaration. IsTypeId old declaration.of) declarations → AllByRecursion (λ declaration. IsTypeId new declaration.of) declarations
  declared-later [] known = tt
  declared-later (declaration ∷ declarations) known = (id-later old new extends declaration.of known.0, declared-later declarations known.1)

-- One declaration more

known-push : (table : TypeTable) (declarations : List Declared) (next : Declared) → AllByRecursion (λ declaration. IsTypeId table declaration.of) declarations → IsTypeId table next.of
    → AllByRecursion (λ declaration. IsTypeId table declaration.of) (declarations ++ next ∷ [])
known-push table [] next known is = (is, tt)
known-push table (declaration ∷ declarations) next known is = (known.0, known-push table declarations next known.1 is)

before-more : (test : Bool) (type_ : LinkedDeclaration) (types more : List LinkedDeclaration) → declarations_with test type_ types ++ more ≡ declarations_with test type_ (types ++ more)
before-more true type_ types more = refl
before-more false type_ types more = refl

-- What the map says of a name, over a table that has grown since
module _ (over new : TypeTable) (extends : Extends over new) (declarations : List Declared) (found : NameId → Option Carried) (index : IsCarriedIndex over declarations found) (name : NameId) where
  pub carried_index-ids : (one : Carried) → found name ≡ Some one → AreCarriedIds new one
  carried_index-ids one is = carried_ids-later over new extends one (subst (λ some. IfSome some (AreCarriedIds over)) is (index.ids name))

  pub carried_index-kept : (one : Carried) → found name ≡ Some one → IsCarried new (declarations_of new name declarations) one
  carried_index-kept one is =
      subst (λ (types : List LinkedDeclaration). IsCarried new types one) (sym (declarations_of-later over new extends name declarations index.known))
      (carried-later over new extends (declarations_of over name declarations) one (subst (λ some. IfSome some (AreCarriedIds over)) is (index.ids name))
      (subst (AreCarriedKept over (declarations_of over name declarations)) is (index.kept name)))

  pub carried_index-empty : found name ≡ None → declarations_of new name declarations ≡ []
  carried_index-empty is = declarations_of-later over new extends name declarations index.known ∙ subst (AreCarriedKept over (declarations_of over name declarations)) is (index.kept name)

-- One declaration more

-- the types of a name behind one declaration more
declarations_of-more : (table : TypeTable) (name : NameId) (declarations : List Declared) (next : Declared)
    → declarations_of table name (declarations ++ next ∷ []) ≡ declarations_of table name declarations ++ declarations_with (nat_eq next.name.0 name.0) (declaration_of table next.of next.contexts) []
declarations_of-more table name [] next = refl
declarations_of-more table name (declaration ∷ declarations) next =
    ap (declarations_with (nat_eq declaration.name.0 name.0) (declaration_of table declaration.of declaration.contexts)) (declarations_of-more table name declarations next)
    ∙ sym (before-more (nat_eq declaration.name.0 name.0) (declaration_of table declaration.of declaration.contexts) (declarations_of table name declarations) _)

module _ (over old new : TypeTable) (declarations : List Declared) (found later : NameId → Option Carried) (index : IsCarriedIndex over declarations found)
    (before : Extends over old) (extends : Extends old new) (node : ℕ) (name : NameId) (of : TypeId) (contexts : Option ContextSums) (known : IsTypeId old of) (more : Carried)
    (ids : AreCarriedIds new more) (kept : (types : List LinkedDeclaration) → AreCarriedKept old types (found name) → IsCarried new (types ++ declaration_of new of contexts ∷ []) more)
    (updates : (other : NameId) → later other ≡ cond (same_key name other) (Some more) (found other)) where
  abbrev all : Extends over new
  all = Extends-twice over old new before extends

  -- at the name itself
  here : IsCarried new (declarations_of new name declarations ++ declaration_of new of contexts ∷ []) more
  here =
      subst (λ (types : List LinkedDeclaration). IsCarried new (types ++ declaration_of new of contexts ∷ []) more) (sym (declarations_of-later over new all name declarations index.known))
      (kept (declarations_of over name declarations) (carried_kept-later over old before (declarations_of over name declarations) (found name) (index.ids name) (index.kept name)))

  ids_by : (other : NameId) (same : Bool) → IfSome (cond same (Some more) (found other)) (AreCarriedIds new)
  ids_by other true = ids
  ids_by other false = found_carried-later over new all (found other) (index.ids other)

  kept_by : (other : NameId) (same : Bool) → nat_eq name.0 other.0 ≡ same
      → AreCarriedKept new (declarations_of new other declarations ++ declarations_with same (declaration_of new of contexts) []) (cond same (Some more) (found other))
  kept_by other true same =
      subst (λ (one : NameId). IsCarried new (declarations_of new one declarations ++ declaration_of new of contexts ∷ []) more) (ap (λ number. record { 0 = number }) (eqb-true name.0 other.0 same)) here
  kept_by other false apart =
      subst (λ (types : List LinkedDeclaration). AreCarriedKept new types (found other)) (sym (append-nil _ ∙ declarations_of-later over new all other declarations index.known))
      (carried_kept-later over new all (declarations_of over other declarations) (found other) (index.ids other) (index.kept other))

  pub carried_index-more : IsCarriedIndex new (declarations ++ record { node = node; name = name; of = of; contexts = contexts } ∷ []) later
  carried_index-more =
      record {
        known = known-push new declarations _ (declared-later over new all declarations index.known) (id-later old new extends of known);
        ids = λ other. subst (λ one. IfSome one (AreCarriedIds new)) (sym (updates other)) (ids_by other (same_key name other));
        kept = λ other.
            subst (λ one. AreCarriedKept new (declarations_of new other (declarations ++ record { node = node; name = name; of = of; contexts = contexts } ∷ [])) one) (sym (updates other))
            (subst (λ types. AreCarriedKept new types (cond (same_key name other) (Some more) (found other))) (sym (declarations_of-more new other declarations (record { node = node; name = name; of = of; contexts = contexts })))
            (kept_by other (nat_eq name.0 other.0) refl));
      }
