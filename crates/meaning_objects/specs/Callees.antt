-- Which function a call names (C11 6.5.2.2): the one whose name is called, in parentheses or not. A call through a pointer names none.
use Rattle.std.specs.Prelude.{ℕ, zero, suc, Bool, true, false, List, Option, Some, None, if◌then◌else◌}
use Rattle.vocabulary.specs.declared.node_kind.NodeKind.{NodeKind}
use Rattle.vocabulary.specs.declared.node_kind.NodeKind.TheVariants as kinds
use Rattle.meaning_typing.specs.Units.{UnitNodes, node_at, kind_at, child_at}
use Rattle.meaning_typing.specs.Facts.{Fact, fact_at}
use Rattle.meaning_objects.specs.Objects.{is_function_declaration, object_of}

-- Parentheses (6.5.1 p5)

abbrev pub is_parenthesized : NodeKind → Bool
is_parenthesized kinds.Parenthesized = true
is_parenthesized kind = false

-- what stands in so many parentheses at most
abbrev pub inside : UnitNodes → (most handle : ℕ) → ℕ
inside nodes zero handle = handle
inside nodes (suc most) handle = if is_parenthesized (kind_at nodes handle) then inside nodes most (child_at nodes handle 0) else handle

-- and in all that there are: each part has a lesser handle than the node above
abbrev pub without_parentheses : UnitNodes → (handle : ℕ) → ℕ
without_parentheses nodes handle = inside nodes (suc handle) handle

-- Names

-- the function that this declarator declares, if it does
abbrev pub function_named : List Fact → (declarator : ℕ) → Option ℕ
function_named facts declarator = if is_function_declaration (fact_at facts declarator) then Some (object_of facts declarator) else None

abbrev pub function_of_kind : UnitNodes → List Fact → NodeKind → (handle : ℕ) → Option ℕ
function_of_kind nodes facts kinds.Name handle = function_named facts (node_at nodes handle).number
function_of_kind nodes facts kind handle = None

abbrev pub function_at : UnitNodes → List Fact → (handle : ℕ) → Option ℕ
function_at nodes facts handle = function_of_kind nodes facts (kind_at nodes handle) handle

-- the function whose name is called, by the handle of its object
abbrev pub named_callee : UnitNodes → List Fact → (call : ℕ) → Option ℕ
named_callee nodes facts call = function_at nodes facts (without_parentheses nodes (child_at nodes call 0))
