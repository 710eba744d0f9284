-- Declarations again with their contexts (C11 6.2.7, 6.7.6.3 have none: our choice): which are a declaration's, their sums, and the first
-- earlier declaration that differs.
use Rattle.std.specs.Prelude.{ℕ, ◌+◌, nat_eq, Bool, true, false, ◌&&◌, ◌||◌, not, is_none, List, [], ◌∷◌, ◌++◌, Option, Some, None, if◌then◌else◌}
use Rattle.std.specs.List.{flat_map}
use Rattle.std.specs.Option.{option_and_then}
use Rattle.vocabulary.specs.declared.node_kind.NodeKind.{NodeKind}
use Rattle.vocabulary.specs.declared.node_kind.NodeKind.TheVariants as kinds
use Rattle.meaning_types.specs.Types.{TypeTree}
use Rattle.meaning_types.specs.Composite.{composite}
use Rattle.meaning_operands.specs.Failures.{Failure}
use Rattle.meaning_typing.specs.Units.{UnitNodes, node_at, kind_at, children_at, child_at}
use Rattle.meaning_typing.specs.Surroundings.{Surrounding}
use Rattle.meaning_typing.specs.Facts.{Fact, Declared, DeclaredFact}
use Rattle.meaning_typing.specs.Specifiers.{attributes_among}
use Rattle.meaning_typing.specs.Declarators.{is_declarator, lists_before, lists_behind}
use Rattle.meaning_typing.specs.Names.{declared_behind, links_name, redeclared}
use Rattle.meaning_typing.specs.Tags.{attributes_of_specifiers}

-- Sums: of the counts with which a function is entered and left, over its contexts

pub record ContextSums : Type 0 where
  pub enters : ℕ
  pub leaves : ℕ

abbrev pub sums_with : (enters leaves : ℕ) → Option ContextSums → ContextSums
sums_with enters leaves None = record { enters = enters; leaves = leaves }
sums_with enters leaves (Some sums) = record { enters = enters + sums.enters; leaves = leaves + sums.leaves }

-- a context has two numbers as its parts
abbrev pub sums_before : UnitNodes → NodeKind → (handle : ℕ) → Option ContextSums → Option ContextSums
sums_before nodes kinds.ContextAttribute handle sums =
    Some (sums_with (node_at nodes (child_at nodes handle 0)).number (node_at nodes (child_at nodes handle 1)).number sums)
sums_before nodes kind handle sums = sums

-- of these attributes, if a context is among them
abbrev pub sums_among : UnitNodes → (attributes : List ℕ) → Option ContextSums
sums_among nodes [] = None
sums_among nodes (handle ∷ handles) = sums_before nodes (kind_at nodes handle) handle (sums_among nodes handles)

-- Those among the specifiers, before and behind a declarator, and in parentheses around a part of it; not those behind a `*`

abbrev pub part_attributes : UnitNodes → NodeKind → (part : ℕ) → List ℕ
part_attributes nodes kinds.ParenthesizedAttributes part = attributes_among nodes (children_at nodes part)
part_attributes nodes kind part = []

abbrev pub attributes_of_declarator : UnitNodes → (declarator : ℕ) → Surrounding → List ℕ
attributes_of_declarator nodes declarator surrounding =
    attributes_of_specifiers nodes (children_at nodes (child_at nodes surrounding.parent 0))
    ++ attributes_among nodes (lists_before nodes surrounding.parent surrounding.place)
    ++ flat_map (λ part. part_attributes nodes (kind_at nodes part) part) (children_at nodes declarator)
    ++ attributes_among nodes (lists_behind nodes surrounding.parent surrounding.place)

-- an initializer has none of its own
abbrev pub contexts_of : UnitNodes → (declarator : ℕ) → Surrounding → Option ContextSums
contexts_of nodes declarator surrounding =
    if is_declarator (kind_at nodes declarator) then sums_among nodes (attributes_of_declarator nodes declarator surrounding) else None

-- Declarations of a name with linkage

pub record LinkedDeclaration : Type 0 where
  pub type_ : TypeTree
  pub contexts : Option ContextSums

abbrev pub declarations_with : Bool → LinkedDeclaration → List LinkedDeclaration → List LinkedDeclaration
declarations_with true declaration others = declaration ∷ others
declarations_with false declaration others = others

-- those of this name, in order, and behind each what its initializer completes, where the first node of these has this handle
abbrev pub linked_from : UnitNodes → (name : List ℕ) → (first : ℕ) → List Surrounding → List Fact → List LinkedDeclaration
linked_from nodes name first (surrounding ∷ surroundings) (Declared declaration ∷ facts) =
    declarations_with (links_name name declaration) (record { type_ = declaration.type_; contexts = contexts_of nodes first surrounding })
    (linked_from nodes name (first + 1) surroundings facts)
linked_from nodes name first (surrounding ∷ surroundings) (fact ∷ facts) = linked_from nodes name (first + 1) surroundings facts
linked_from nodes name first surroundings facts = []

-- the nodes that declare them
abbrev pub nodes_with : Bool → (node : ℕ) → List ℕ → List ℕ
nodes_with true node others = node ∷ others
nodes_with false node others = others

abbrev pub linked_nodes : (name : List ℕ) → (first : ℕ) → List Surrounding → List Fact → List ℕ
linked_nodes name first (surrounding ∷ surroundings) (Declared declaration ∷ facts) =
    nodes_with (links_name name declaration) first (linked_nodes name (first + 1) surroundings facts)
linked_nodes name first (surrounding ∷ surroundings) (fact ∷ facts) = linked_nodes name (first + 1) surroundings facts
linked_nodes name first surroundings facts = []

-- both carry contexts, and a sum differs
abbrev pub have_other_sums : Option ContextSums → Option ContextSums → Bool
have_other_sums (Some sums) (Some others) = not (nat_eq sums.enters others.enters && nat_eq sums.leaves others.leaves)
have_other_sums sums others = false

-- or their types disagree, where a length may be missing
abbrev pub differs_from : LinkedDeclaration → LinkedDeclaration → Bool
differs_from declaration earlier =
    is_none (composite earlier.type_ declaration.type_) || have_other_sums earlier.contexts declaration.contexts

-- the node of the first that differs, where these are their nodes
abbrev pub first_differing : LinkedDeclaration → (nodes : List ℕ) → List LinkedDeclaration → Option ℕ
first_differing declaration (node ∷ nodes) (earlier ∷ others) =
    if differs_from declaration earlier then Some node else first_differing declaration nodes others
first_differing declaration nodes others = None

abbrev pub type_declared : Fact → Option TypeTree
type_declared (Declared declaration) = Some declaration.type_
type_declared fact = None

-- the type with which it is told: an array has the length that its initializer says, once that is known (6.7.9 p22)
abbrev pub told_type : UnitNodes → List Surrounding → List Fact → (declarator : ℕ) → Option TypeTree
told_type nodes surroundings facts declarator = type_declared (declared_behind nodes surroundings facts declarator)

-- a declarator that declares an object or a function otherwise than before; it is told the first that differs
abbrev pub redeclared_otherwise : UnitNodes → List Surrounding → List Fact → (handle : ℕ) → Surrounding → DeclaredFact → List Failure
redeclared_otherwise nodes surroundings facts handle surrounding declaration =
    if declaration.has_linkage
    then redeclared (node_at nodes handle).token declaration
    (option_and_then (told_type nodes surroundings facts)
    (first_differing (record { type_ = declaration.type_; contexts = contexts_of nodes handle surrounding })
    (linked_nodes declaration.name 0 surroundings facts) (linked_from nodes declaration.name 0 surroundings facts)))
    else []

abbrev pub option_sums : Option ContextSums → Option ContextSums → Option ContextSums
option_sums None otherwise = otherwise
option_sums (Some sums) otherwise = Some sums

-- the contexts of an object or a function are those of the first declaration that carries some
abbrev pub first_contexts : List LinkedDeclaration → Option ContextSums
first_contexts [] = None
first_contexts (declaration ∷ others) = option_sums declaration.contexts (first_contexts others)
