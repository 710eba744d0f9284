-- Worked examples: what fails and what is broken in one statement, as one can tell by eye.
use Rattle.std.specs.Prelude.{◌≡◌, ℕ, List, [], ◌∷◌, map, Some, None}
use Rattle.std.specs.List.{flat_map}
use Rattle.vocabulary.specs.declared.error_kind.ErrorKind.TheVariants.{CannotDereference, CannotTakeAddress, NotModifiable, CalledObjectIsNoFunction, WrongNumberOfArguments, VoidValueUsed}
use Rattle.vocabulary.specs.declared.rule.RuleCode.TheVariants.{A1, A2, A4}
use Rattle.meaning_types.specs.Types.{TypeTree, pointer_to}
use Rattle.meaning_tree.specs.Trees.{SyntaxTree}
use Rattle.meaning_operands.specs.Failures.{Failure, Broken}
use Rattle.meaning_typing.specs.Rows.{fails_with, breaks_at}
use Rattle.meaning_typing.specs.Typing.{failures_at, broken_at}
use Rattle.meaning_typing.specs.Building.{surroundings_of, facts_of}
use Rattle.meaning_typing.specs.examples.Drawn.{in_body, number, int, user_int, p, u, i, one, none, statement, star, address, assignment, call, parenthesized, subscript}

-- in the body of f, where the first node has handle 43 and the first token is 33

abbrev pub body_handles : List ℕ
body_handles = 43 ∷ 44 ∷ 45 ∷ 46 ∷ 47 ∷ 48 ∷ 49 ∷ 50 ∷ []

abbrev pub failing : SyntaxTree → List Failure
failing expression =
    let nodes = in_body (statement expression ∷ []) in
    flat_map (λ handle. failures_at nodes (surroundings_of nodes) (facts_of nodes (surroundings_of nodes)) handle) body_handles

abbrev pub breaking : SyntaxTree → List Broken
breaking expression =
    let nodes = in_body (statement expression ∷ []) in
    flat_map (λ handle. broken_at nodes (surroundings_of nodes) (facts_of nodes (surroundings_of nodes)) handle) body_handles

-- a place of this type is loaded or stored to
abbrev pub access : (token : ℕ) → (place : TypeTree) → List Failure
access token place = fails_with A4 token 0 (Some place) None [] ∷ []

pub record FailureExamples : Type 0 where
  -- `p = u` mixes spaces at `=`
  pub mixed : failing (assignment 34 (p 33) (u 35)) ≡ fails_with A1 34 0 (Some (pointer_to int)) (Some (pointer_to user_int)) [] ∷ []
  -- `*u` is loaded, in `*u = 1` it is stored to, and `(*u)` at its parenthesis; so is `u[1]`
  pub loaded : failing (star 33 (u 34)) ≡ access 33 user_int
  pub stored : failing (assignment 35 (star 33 (u 34)) (number 36 1)) ≡ access 33 user_int
  pub in_parentheses : failing (parenthesized 33 (star 34 (u 35))) ≡ access 33 user_int
  pub element : failing (subscript 34 (u 33) (number 35 1)) ≡ access 34 user_int
  -- `&*u`, `&*&*u` and `&u[1]` touch nothing, and `*&*u` is a load at the outer `*`
  pub under_address : failing (address 33 (star 34 (u 35))) ≡ []
  pub twice : failing (address 33 (star 34 (address 35 (star 36 (u 37))))) ≡ []
  pub under_element : failing (address 33 (subscript 35 (u 34) (number 36 1))) ≡ []
  pub again : failing (star 33 (address 34 (star 35 (u 36)))) ≡ access 33 user_int
  -- in `one(p)` the first argument is part 1, and stands at its own token
  pub argument : failing (call 34 (one 33) (p 35 ∷ [])) ≡ fails_with A2 35 1 (Some int) (Some (pointer_to int)) [] ∷ []

pub record ConstraintExamples : Type 0 where
  pub no_pointer : breaking (star 33 (i 34)) ≡ breaks_at CannotDereference 33
  -- of `**i` the inner one is broken alone, since nothing is known of it
  pub inner : breaking (star 33 (star 34 (i 35))) ≡ breaks_at CannotDereference 34
  -- `&1`, `p()` and `none = 0`
  pub no_address : breaking (address 33 (number 34 1)) ≡ breaks_at CannotTakeAddress 33
  pub no_function : breaking (call 34 (p 33) []) ≡ breaks_at CalledObjectIsNoFunction 34
  pub no_object : breaking (assignment 34 (none 33) (number 35 0)) ≡ breaks_at NotModifiable 34
  -- `one()`, `one(none())` and `i = none()`
  pub too_few : breaking (call 34 (one 33) []) ≡ breaks_at WrongNumberOfArguments 34
  pub void_argument : breaking (call 34 (one 33) (call 36 (none 35) [] ∷ [])) ≡ breaks_at VoidValueUsed 36
  pub void_stored : breaking (assignment 34 (i 33) (call 36 (none 35) [])) ≡ breaks_at VoidValueUsed 36
  -- `none();`, `*p;` and `p = p;`
  pub nothing : map breaking (call 34 (none 33) [] ∷ star 33 (p 34) ∷ assignment 34 (p 33) (p 35) ∷ []) ≡ [] ∷ [] ∷ [] ∷ []
