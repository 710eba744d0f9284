-- What holds of definitions and parameters.
use Rattle.std.specs.Prelude.{◌≡◌, ℕ, suc, true, List, length, Option, Some, None}
use Rattle.meaning_types.specs.Types.{TypeTree, Typed, FunctionTree, TypeTrees, NoTypes, MoreTypes}
use Rattle.meaning_typing.specs.Units.{UnitNodes}
use Rattle.meaning_typing.specs.Surroundings.{Surrounding, surrounding_at}
use Rattle.meaning_typing.specs.Facts.{Fact, Declared, DeclaredFact, fact_at}
use Rattle.meaning_typing.specs.Declarators.{function_of}
use Rattle.meaning_typing.specs.DeclarationRows.{defines}
use Rattle.meaning_objects.specs.Objects.{object_of}
use Rattle.meaning_objects.specs.Definitions.{definition_of, parameters_among}

-- what is found defines the object
pub record DefinesObject (nodes : UnitNodes) (surroundings : List Surrounding) (facts : List Fact) (object definition : ℕ) : Type 0 where
  pub is_declared : (declaration : DeclaredFact) × (fact_at facts definition ≡ Declared declaration)
  pub of_object : object_of facts definition ≡ object_of facts object
  pub defining : defines nodes (surrounding_at surroundings definition) ≡ true

abbrev pub DefinitionsDefine : Type 0
DefinitionsDefine =
    (nodes : UnitNodes) (surroundings : List Surrounding) (facts : List Fact) (object definition : ℕ)
    → definition_of nodes surroundings facts object ≡ Some definition → DefinesObject nodes surroundings facts object definition

-- how many parameters a function's type has
abbrev pub count_of : TypeTrees → ℕ
count_of NoTypes = 0
count_of (MoreTypes type_ types) = suc (count_of types)

abbrev pub parameter_count : TypeTree → Option ℕ
parameter_count (Typed (FunctionTree result parameters variadic) _ _) = Some (count_of parameters)
parameter_count (Typed base _ _) = None

-- they are as many as are listed
abbrev pub ParametersAreCounted : Type 0
ParametersAreCounted =
    (nodes : UnitNodes) (facts : List Fact) (handles : List ℕ) (result type_ : TypeTree)
    → function_of nodes facts handles result ≡ Some type_ → parameter_count type_ ≡ Some (length (parameters_among nodes facts handles))
