-- What is found as a definition, and how many parameters there are.
use Rattle.std.proofs.Common.{◌≡◌, ℕ, suc, ◌+◌, ◌⊎◌, inl, inr, Bool, true, false, List, [], ◌∷◌, ◌++◌, length, get_or, Option, Some, None, option_map, if◌then◌else◌, refl, sym, ap, subst, ◌∙◌, arith}
use Rattle.std.proofs.lemmas.Bool.{false≢true, eqb-true}
use Rattle.std.proofs.lemmas.Option.{none-some, same_Some}
use Rattle.vocabulary.specs.declared.node_kind.NodeKind.{NodeKind}
use Rattle.vocabulary.specs.declared.node_kind.NodeKind.TheVariants as kinds
use Rattle.meaning_types.specs.Types.{TypeTree, TypeTrees, NoTypes}
use Rattle.meaning_typing.specs.Units.{UnitNodes, kind_at}
use Rattle.meaning_typing.specs.Surroundings.{Surrounding, of_unit, surrounding_at}
use Rattle.meaning_typing.specs.Facts.{Fact, Unknown, Expression, Specified, Declared, NamedType, fact_at}
use Rattle.meaning_typing.specs.Specifiers.{type_named}
use Rattle.meaning_typing.specs.Declarators.{function_type, is_variadic, is_void_list, more_types, parameter_types, with_parameter}
use Rattle.meaning_typing.specs.DeclarationRows.{defines}
use Rattle.meaning_objects.specs.Objects.{are_one_object, handle_if, object_of}
use Rattle.meaning_objects.specs.Definitions.{defines_object, first_definition, parameter_by_kind, parameters_listed}
use Rattle.meaning_objects.specs.laws.Definitions.{DefinitionsDefine, DefinesObject, ParametersAreCounted, count_of, parameter_count}
use Rattle.meaning_objects.proofs.Sharing.{both-true}

-- Definitions

definition-found : (nodes : UnitNodes) (facts : List Fact) (object : ℕ) (default : Surrounding) (first : ℕ) (surroundings : List Surrounding) (others : List Fact) (handle : ℕ)
    → first_definition nodes facts object first surroundings others ≡ Some handle
    → (place : ℕ) × (handle ≡ first + place) × (defines_object nodes facts object handle (get_or surroundings place default) (get_or others place Unknown) ≡ true)
definition-found nodes facts object default first [] others handle is = absurd (none-some handle is)
definition-found nodes facts object default first (surrounding ∷ surroundings) [] handle is = absurd (none-some handle is)
definition-found nodes facts object default first (surrounding ∷ surroundings) (fact ∷ others) handle is =
    by (defines_object nodes facts object first surrounding fact) refl is (definition-found nodes facts object default (first + 1) surroundings others handle)
  where
    by : (test : Bool) → defines_object nodes facts object first surrounding fact ≡ test
        → handle_if test first (first_definition nodes facts object (first + 1) surroundings others) ≡ Some handle
        → (first_definition nodes facts object (first + 1) surroundings others ≡ Some handle
        → (place : ℕ) × (handle ≡ first + 1 + place) × (defines_object nodes facts object handle (get_or surroundings place default) (get_or others place Unknown) ≡ true))
        → (place : ℕ) × (handle ≡ first + place)
        × (defines_object nodes facts object handle (get_or (surrounding ∷ surroundings) place default) (get_or (fact ∷ others) place Unknown) ≡ true)
    by true defining is later =
        (0, omega (arith, same_Some _ _ is), subst (λ one. defines_object nodes facts object one surrounding fact ≡ true) (same_Some _ _ is) defining)
    by false defining is later =
        let found = later is in
        (suc found.0, omega (arith, found.1), found.2)

definition-is : (nodes : UnitNodes) (surroundings : List Surrounding) (facts : List Fact) (object definition : ℕ) (fact : Fact) → fact_at facts definition ≡ fact
    → defines_object nodes facts object definition (surrounding_at surroundings definition) fact ≡ true → DefinesObject nodes surroundings facts object definition
definition-is nodes surroundings facts object definition Unknown is test = absurd (false≢true test)
definition-is nodes surroundings facts object definition (Expression expression) is test = absurd (false≢true test)
definition-is nodes surroundings facts object definition (Specified specified) is test = absurd (false≢true test)
definition-is nodes surroundings facts object definition (Declared declaration) is test =
    let both = both-true (are_one_object facts definition object) (defines nodes (surrounding_at surroundings definition)) test in
    record {
      is_declared = (declaration, is);
      of_object = eqb-true (object_of facts definition) (object_of facts object) both.0;
      defining = both.1;
    }
definition-is nodes surroundings facts object definition (NamedType type_) is test = absurd (false≢true test)

pub definitions_define : DefinitionsDefine
definitions_define nodes surroundings facts object definition is =
    let found = definition-found nodes facts object (of_unit (length surroundings)) 0 surroundings facts definition is in
    let at : found.0 ≡ definition = omega (arith, found.1) in
    definition-is nodes surroundings facts object definition (fact_at facts definition) refl
    (subst (λ place. defines_object nodes facts object definition (surrounding_at surroundings place) (fact_at facts place) ≡ true) at found.2)

-- Parameters

-- `...` adds no type and no parameter, and all else adds one of each
one-or-none : (nodes : UnitNodes) (kind : NodeKind) (parameter : ℕ) (fact : Fact) (types : Option TypeTrees)
    → ((with_parameter kind fact types ≡ types) × (parameter_by_kind nodes kind parameter ≡ []))
    ⊎ ((with_parameter kind fact types ≡ more_types (type_named fact) types) × ((one : ℕ) × (parameter_by_kind nodes kind parameter ≡ one ∷ [])))
one-or-none nodes kinds.Ellipsis parameter fact types = inl (refl, refl)
one-or-none nodes kind parameter fact types = inr (refl, (_, refl))

counted-more : (type_ : Option TypeTree) (earlier : Option TypeTrees) (types : TypeTrees) (count : ℕ) → more_types type_ earlier ≡ Some types
    → ((others : TypeTrees) → earlier ≡ Some others → count_of others ≡ count) → count_of types ≡ suc count
counted-more None earlier types count is later = absurd (none-some types is)
counted-more (Some type_) None types count is later = absurd (none-some types is)
counted-more (Some type_) (Some others) types count is later = sym (ap count_of (same_Some _ _ is)) ∙ ap suc (later others refl)

counted : (nodes : UnitNodes) (facts : List Fact) (handles : List ℕ) (types : TypeTrees) → parameter_types nodes facts handles ≡ Some types
    → count_of types ≡ length (parameters_listed nodes handles)
counted nodes facts [] types is = sym (ap count_of (same_Some _ _ is))
counted nodes facts (handle ∷ handles) types is =
    elim (one-or-none nodes (kind_at nodes handle) handle (fact_at facts handle) (parameter_types nodes facts handles)) [
      | inl none ↦ counted nodes facts handles types (sym none.0 ∙ is) ∙ ap (λ front. length (front ++ parameters_listed nodes handles)) (sym none.1)
      | inr one ↦
          counted-more (type_named (fact_at facts handle)) (parameter_types nodes facts handles) types (length (parameters_listed nodes handles)) (sym one.0 ∙ is)
          (λ others. counted nodes facts handles others)
          ∙ ap (λ front. length (front ++ parameters_listed nodes handles)) (sym one.1.1)
    ]

counted-function : (result type_ : TypeTree) (variadic : Bool) (found : Option TypeTrees) (count : ℕ) → option_map (function_type result variadic) found ≡ Some type_
    → ((types : TypeTrees) → found ≡ Some types → count_of types ≡ count) → parameter_count type_ ≡ Some count
counted-function result type_ variadic None count is later = absurd (none-some type_ is)
counted-function result type_ variadic (Some types) count is later = sym (ap parameter_count (same_Some _ _ is)) ∙ ap Some (later types refl)

pub parameters_are_counted : ParametersAreCounted
parameters_are_counted nodes facts handles result type_ is = by (is_void_list nodes facts handles) is
  where
    by : (is_void : Bool)
        → (if is_void then Some (function_type result false NoTypes) else option_map (function_type result (is_variadic nodes handles)) (parameter_types nodes facts handles)) ≡ Some type_
        → parameter_count type_ ≡ Some (length (if is_void then [] else parameters_listed nodes handles))
    by true is = sym (ap parameter_count (same_Some _ _ is))
    by false is = counted-function result type_ (is_variadic nodes handles) (parameter_types nodes facts handles) (length (parameters_listed nodes handles)) is (counted nodes facts handles)
