-- Worked examples: what operators make of a place of another space, in one statement, as one can tell by eye.
use Rattle.std.specs.Prelude.{◌≡◌, ℕ, ℤ, pos, negsuc, List, [], ◌∷◌, codes, map, Option, Some, None}
use Rattle.std.specs.List.{flat_map}
use Rattle.vocabulary.specs.declared.error_kind.ErrorKind.TheVariants.{NotModifiable}
use Rattle.vocabulary.specs.declared.node_kind.NodeKind.TheVariants as kinds
use Rattle.vocabulary.specs.declared.role.Role.TheVariants.{Evaluated, Condition, TypePart, Unevaluated}
use Rattle.meaning_tree.specs.Trees.{SyntaxTree, Node, Parts, NoParts, Part, parts_of}
use Rattle.meaning_operands.specs.Failures.{Failure}
use Rattle.meaning_typing.specs.Evaluation.{evaluated_parts}
use Rattle.meaning_typing.specs.Facts.{Fact, Expression}
use Rattle.meaning_typing.specs.Rows.{breaks_at}
use Rattle.meaning_typing.specs.Typing.{failures_at}
use Rattle.meaning_typing.specs.Building.{surroundings_of, facts_of}
use Rattle.meaning_typing.specs.Operators.{integer}
use Rattle.vocabulary.specs.declared.int_kind.IntKind.TheVariants as integers
use Rattle.meaning_typing.specs.Units.{UnitNodes}
use Rattle.meaning_typing.specs.examples.Drawn.{declaration, declarator, in_body, int, leaf, nodes_from, number, over, p, parenthesized, star, statement, type_over, u, i, user_int}
use Rattle.meaning_typing.specs.examples.Rows.{access, body_handles, breaking, failing}
use Rattle.meaning_typing.specs.examples.Typing.{fact_in, types_at}

-- In the body of f, where the first node has handle 43 and the first token is 33

-- an operand that is only looked at
abbrev pub looked_at : SyntaxTree → Parts (List ℕ)
looked_at operand = Part Unevaluated operand NoParts

abbrev pub size : (token : ℕ) → SyntaxTree → SyntaxTree
size token operand = Node kinds.SizeofExpression token [] 0 (looked_at operand)

abbrev pub added_to : (token : ℕ) → (left right : SyntaxTree) → SyntaxTree
added_to token left right = over kinds.AdditionAssignment token (left ∷ right ∷ [])

abbrev pub chosen : (token : ℕ) → (condition left right : SyntaxTree) → SyntaxTree
chosen token condition left right = Node kinds.Conditional token [] 0 (Part Condition condition (parts_of Evaluated (left ∷ right ∷ [])))

-- `({ *u; })`
abbrev pub body : SyntaxTree
body = over kinds.StatementExpression 33 (over kinds.CompoundStatement 34 (statement (star 35 (u 36)) ∷ []) ∷ [])

-- `(int) i`
abbrev pub cast : SyntaxTree
cast =
    Node kinds.Cast 33 [] 0
    (Part TypePart (type_over kinds.TypeName 34 (type_over kinds.Specifiers 34 (leaf kinds.IntSpecifier 34 ∷ []) ∷ [])) (Part Evaluated (i 36) NoParts))

-- `typeof(*u) k;`
abbrev pub typed_like : UnitNodes
typed_like = in_body (declaration 33 (Node kinds.TypeofExpression 33 [] 0 (looked_at (star 35 (u 36))) ∷ []) (declarator 38 (codes "k") [] ∷ []) ∷ [])

abbrev pub failing_in : UnitNodes → List Failure
failing_in nodes = flat_map (λ handle. failures_at nodes (surroundings_of nodes) (facts_of nodes (surroundings_of nodes)) handle) body_handles

-- the number of the constant of this node in such a statement
abbrev pub number_in : Fact → Option ℤ
number_in (Expression expression) = expression.constant
number_in fact = None

abbrev pub constant_of : (handle : ℕ) → SyntaxTree → Option ℤ
constant_of handle expression = number_in (fact_in (in_body (statement expression ∷ [])) handle)

pub record OperationExamples : Type 0 where
  -- `*u += 1` loads and stores one place, which is told once, at the `*`
  pub changed : failing (added_to 35 (star 33 (u 34)) (number 36 1)) ≡ access 33 user_int
  -- `(*u)++` at its parenthesis, and `++*u` at the `*`
  pub stepped : failing (over kinds.PostIncrement 37 (parenthesized 33 (star 34 (u 35)) ∷ [])) ≡ access 33 user_int
  pub stepped_before : failing (over kinds.PreIncrement 33 (star 34 (u 35) ∷ [])) ≡ access 34 user_int
  -- `sizeof(*u)` looks at it alone, and `sizeof(*u + 1)` too
  pub measured : failing (size 33 (parenthesized 34 (star 35 (u 36)))) ≡ []
  pub measured_sum : failing (size 33 (parenthesized 34 (over kinds.Addition 37 (star 35 (u 36) ∷ number 38 1 ∷ [])))) ≡ []
  -- `i ? *u : 1` loads it, as `-*u`, `*u + 1`, `!*u`, `*u && 1` and `*u, 1` do
  pub chosen_one : failing (chosen 34 (i 33) (star 35 (u 36)) (number 38 1)) ≡ access 35 user_int
  pub loaded : map failing
      (over kinds.Negation 33 (star 34 (u 35) ∷ []) ∷ over kinds.Addition 36 (star 34 (u 35) ∷ number 37 1 ∷ []) ∷ over kinds.LogicalNot 33 (star 34 (u 35) ∷ [])
      ∷ over kinds.LogicalAnd 36 (star 34 (u 35) ∷ number 37 1 ∷ []) ∷ over kinds.Comma 36 (star 34 (u 35) ∷ number 37 1 ∷ []) ∷ [])
      ≡ access 34 user_int ∷ access 34 user_int ∷ access 34 user_int ∷ access 34 user_int ∷ access 34 user_int ∷ []
  -- of `i ?: *u` both operands are evaluated, each once
  pub both_once : evaluated_parts (nodes_from 0 (Node kinds.Conditional 34 [] 0 (Part Condition (i 33) (Part Evaluated (star 36 (u 37)) NoParts)))) [] 3 ≡ 0 ∷ 2 ∷ []
  -- the statement in a body loads it, and so gives the body a value
  pub inside : failing body ≡ access 35 user_int
  pub value_of_body : types_at (in_body (statement body ∷ [])) (44 ∷ 47 ∷ []) ≡ Some user_int ∷ Some int ∷ []
  -- `typeof(*u) k;` loads nothing, and k is declared as the place is
  pub designated : failing_in typed_like ≡ []
  pub declared_so : types_at typed_like (47 ∷ []) ≡ Some user_int ∷ []
  -- `p, i` gives an int, the value of its right operand
  pub last : types_at (in_body (statement (over kinds.Comma 34 (p 33 ∷ i 35 ∷ [])) ∷ [])) (45 ∷ []) ≡ Some int ∷ []
  -- `1 + 2 == 3` and `(int) i` give an int, `sizeof i` an unsigned long
  pub given : types_at (in_body (statement (over kinds.Equal 36 (over kinds.Addition 34 (number 33 1 ∷ number 35 2 ∷ []) ∷ number 37 3 ∷ [])) ∷ [])) (47 ∷ []) ≡ Some int ∷ []
  pub cast_to : types_at (in_body (statement cast ∷ [])) (47 ∷ []) ≡ Some int ∷ []
  pub size_given : types_at (in_body (statement (size 33 (i 34)) ∷ [])) (44 ∷ []) ≡ Some (integer integers.ULong) ∷ []
  -- `1 + 2`, `-1`, `1 ? 2 : 3`, `sizeof i` and `0 && 1` are constants, `i + 1` and `1, 2` aren't
  pub sum : constant_of 45 (over kinds.Addition 34 (number 33 1 ∷ number 35 2 ∷ [])) ≡ Some (pos 3)
  pub negative : constant_of 44 (over kinds.Negation 33 (number 34 1 ∷ [])) ≡ Some (negsuc 0)
  pub arm : constant_of 46 (chosen 34 (number 33 1) (number 35 2) (number 37 3)) ≡ Some (pos 2)
  pub bytes : constant_of 44 (size 33 (i 34)) ≡ Some (pos 4)
  pub decided : constant_of 45 (over kinds.LogicalAnd 34 (number 33 0 ∷ number 35 1 ∷ [])) ≡ Some (pos 0)
  pub no_sum : constant_of 45 (over kinds.Addition 34 (i 33 ∷ number 35 1 ∷ [])) ≡ None
  pub no_comma : constant_of 45 (over kinds.Comma 34 (number 33 1 ∷ number 35 2 ∷ [])) ≡ None
  -- `1 += 2` changes no place
  pub no_place : breaking (added_to 34 (number 33 1) (number 35 2)) ≡ breaks_at NotModifiable 34
