-- Arguments of calls.
use Rattle.std.specs.Prelude.{◌≡◌, ℕ, ◌+◌, Bool, ◌||◌, nat_eq, List, [], ◌∷◌, ◌++◌, All, Option, Some, None, IfSome, if◌then◌else◌, map}
use Rattle.vocabulary.specs.declared.error_kind.ErrorKind.TheVariants.{WrongNumberOfArguments}
use Rattle.sparse_model.specs.declared.ids.TypeId.{TypeId}
use Rattle.sparse_model.specs.declared.failure.Failure.{Failure}
use Rattle.meaning_operands.specs.Failures as meaning
use Rattle.meaning_types.specs.Types.{TypeTree, TypeTrees, NoTypes, MoreTypes, value_type}
use Rattle.meaning_typing.specs.Declarators.{is_function}
use Rattle.meaning_typing.specs.Expressions as expressions
use Rattle.meaning_typing.specs.Facts.{Fact, Unknown, Expression, value}
use Rattle.meaning_typing.specs.Rows.{Converted, Row, breaks_at, gives}
use Rattle.meaning_rules.specs.Rules.{least_broken, lesser}
use Rattle.c_types.specs.declared.shapes.OuterBase.{OuterBase}
use Rattle.c_types.specs.declared.shapes.OuterBase.TheVariants as outers
use Rattle.c_types.specs.Rows.{is_variadic, parameter_types, result_of, type_numbered}
use Rattle.c_types.specs.Table.{TypeTable, type_at}
use Rattle.expression_rows.specs.declared.call.Argument.{Argument}
use Rattle.expression_rows.specs.Facts.{IsValued, valued_part}
use Rattle.expression_rows.specs.Parts.{unless}
use Rattle.expression_rows.specs.Rows.{IsKnownFailure, Told, failure_seen}

abbrev pub argument_seen : TypeTable → Argument → expressions.Argument
argument_seen table argument = record { token = argument.token; fact = valued_part table argument.part }

abbrev pub IsKnownArgument : TypeTable → Argument → Type 0
IsKnownArgument table argument = IfSome argument.part (IsValued table)

-- the first of some parameters, and those behind it
abbrev pub first_of : TypeTrees → Option TypeTree
first_of NoTypes = None
first_of (MoreTypes type_ types) = Some type_

abbrev pub rest_of : TypeTrees → TypeTrees
rest_of NoTypes = NoTypes
rest_of (MoreTypes type_ types) = types

-- an argument is passed to its parameter, if there is one
abbrev pub passed_to : (part token : ℕ) → Fact → Option TypeTree → Converted
passed_to part token fact None = expressions.passed_freely token fact
passed_to part token fact (Some to) = expressions.passed_as part token fact to

abbrev pub listed_failure : Option Failure → List Failure
listed_failure None = []
listed_failure (Some failure) = failure ∷ []

-- these failures are appended to a list, and their types are of the table
abbrev pub Appends : TypeTable → (old new : List Failure) → List meaning.Failure → Type 0
Appends table old new failures =
    (more : List Failure) × (new ≡ old ++ more) × (map (failure_seen table) more ≡ failures) × All (IsKnownFailure table) more

-- what the arguments break and which rules fail, where so many stand before them
abbrev pub passed_all : TypeTable → List Argument → (before : ℕ) → TypeId → Converted
passed_all table arguments before function =
    expressions.arguments_passed (before + 1) (map (argument_seen table) arguments) (parameter_types (type_at table function))

-- Functions that are called

-- the type itself, if it is one of functions
abbrev pub function_if : TypeTree → Option TypeTree
function_if type_ = if is_function type_ then Some type_ else None

abbrev pub function_through : (target : Option TypeTree) → Option TypeTree
function_through None = None
function_through (Some target) = function_if target

abbrev pub takes_so_many : (function : TypeTree) → (count : ℕ) → Bool
takes_so_many function count = expressions.takes_arguments (parameter_types function) (is_variadic function) count

-- the result of a function, if it takes so many arguments
abbrev pub result_with : (count : ℕ) → (function : TypeTree) → Option TypeTree
result_with count function = if takes_so_many function count then Some (result_of function) else None

-- the result that the outermost level of a function without parameters tells, if it takes so many
abbrev pub result_by : List TypeTree → (count : ℕ) → OuterBase → Option TypeTree
result_by types count (outers.Function result parameters variadic) =
    if nat_eq count 0 || variadic then Some (type_numbered types result.0) else None
result_by types count base = None

-- the row of a call of it
abbrev pub call_with : (token : ℕ) → List expressions.Argument → (function : TypeTree) → Row
call_with token arguments function =
    gives (value (value_type (result_of function)))
    (expressions.number_broken token (parameter_types function) (is_variadic function) arguments
    ++ (expressions.arguments_passed 1 arguments (parameter_types function)).broken)
    (expressions.arguments_passed 1 arguments (parameter_types function)).failures

-- a row whose failures are told elsewhere
abbrev pub without_failures : Row → Row
without_failures row = record row { failures = [] }

-- by the least constraint that the arguments break, and by the result, if the function takes so many
abbrev pub called_as : (token : ℕ) → (passed : Option meaning.Broken) → (result : Option TypeTree) → Told
called_as token passed (Some result) =
    record { fact = unless passed (Expression (value (value_type result))); broken = passed; failures = []; passed = [] }
called_as token passed None =
    record { fact = Unknown; broken = lesser (least_broken (breaks_at WrongNumberOfArguments token)) passed; failures = []; passed = [] }

-- What was found so far, with what is left, comes to what all arguments find.
pub record LeadsTo (least : Option meaning.Broken) (found : List meaning.Failure) (left all : Converted) : Type 0 where
  pub broken : lesser least (least_broken left.broken) ≡ least_broken all.broken
  pub failures : found ++ left.failures ≡ all.failures

-- the same of failures that were appended to a list
abbrev pub HasFound : TypeTable → (old new : List Failure) → Option meaning.Broken → (left all : Converted) → Type 0
HasFound table old new broken left all =
    (more : List Failure) × (new ≡ old ++ more) × LeadsTo broken (map (failure_seen table) more) left all × All (IsKnownFailure table) more
