-- Where an object or a function is defined (C11 6.9, 6.9.2), and the parameters of a function (6.9.1 p5).
use Rattle.std.specs.Prelude.{ℕ, ◌+◌, Bool, false, ◌&&◌, List, [], ◌∷◌, length, Option, None, if◌then◌else◌}
use Rattle.std.specs.List.{flat_map}
use Rattle.vocabulary.specs.declared.node_kind.NodeKind.{NodeKind}
use Rattle.vocabulary.specs.declared.node_kind.NodeKind.TheVariants as kinds
use Rattle.meaning_typing.specs.Units.{UnitNodes, kind_at, children_at, child_at}
use Rattle.meaning_typing.specs.Surroundings.{Surrounding}
use Rattle.meaning_typing.specs.Facts.{Fact, Declared}
use Rattle.meaning_typing.specs.Declarators.{has_declarator, is_void_list}
use Rattle.meaning_typing.specs.DeclarationRows.{defines, part_at_name}
use Rattle.meaning_objects.specs.Objects.{are_one_object, handle_if}

-- Definitions: the declarator behind which a body or an initializer stands

abbrev pub defines_object : UnitNodes → List Fact → (object declarator : ℕ) → Surrounding → Fact → Bool
defines_object nodes facts object declarator surrounding (Declared declaration) = are_one_object facts declarator object && defines nodes surrounding
defines_object nodes facts object declarator surrounding fact = false

-- the first one, where the first of these nodes has this handle
abbrev pub first_definition : UnitNodes → List Fact → (object first : ℕ) → List Surrounding → List Fact → Option ℕ
first_definition nodes facts object first (surrounding ∷ surroundings) (fact ∷ others) =
    handle_if (defines_object nodes facts object first surrounding fact) first (first_definition nodes facts object (first + 1) surroundings others)
first_definition nodes facts object first surroundings others = None

-- the declarator that defines what this one declares, if there is one
abbrev pub definition_of : UnitNodes → List Surrounding → List Fact → (object : ℕ) → Option ℕ
definition_of nodes surroundings facts object = first_definition nodes facts object 0 surroundings facts

-- Parameters

-- a parameter goes by its declarator, or by its own handle without one; `...` is none
abbrev pub parameter_by_kind : UnitNodes → NodeKind → (parameter : ℕ) → List ℕ
parameter_by_kind nodes kinds.Ellipsis parameter = []
parameter_by_kind nodes kind parameter = (if has_declarator nodes parameter then child_at nodes parameter 1 else parameter) ∷ []

abbrev pub parameters_listed : UnitNodes → (handles : List ℕ) → List ℕ
parameters_listed nodes handles = flat_map (λ handle. parameter_by_kind nodes (kind_at nodes handle) handle) handles

-- `(void)` has none (6.7.6.3 p10)
abbrev pub parameters_among : UnitNodes → List Fact → (handles : List ℕ) → List ℕ
parameters_among nodes facts handles = if is_void_list nodes facts handles then [] else parameters_listed nodes handles

abbrev pub parameters_in : UnitNodes → List Fact → NodeKind → (part : ℕ) → List ℕ
parameters_in nodes facts kinds.FunctionDeclarator part = parameters_among nodes facts (children_at nodes part)
parameters_in nodes facts kind part = []

abbrev pub parameters_at : UnitNodes → List Fact → (part : ℕ) → List ℕ
parameters_at nodes facts part = parameters_in nodes facts (kind_at nodes part) part

-- of the list directly behind the name of a function, in order
abbrev pub parameters_of : UnitNodes → List Fact → (declarator : ℕ) → List ℕ
parameters_of nodes facts declarator = parameters_at nodes facts (part_at_name nodes (children_at nodes declarator) (length nodes))
