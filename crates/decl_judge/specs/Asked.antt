-- What is asked of what is known of nodes, as it is kept.
use Rattle.std.specs.Prelude.{ℕ, List, [], ◌∷◌, Option, Some, None, option_map, get_or, if◌then◌else◌}
use Rattle.vocabulary.specs.declared.node_kind.NodeKind.{NodeKind}
use Rattle.vocabulary.specs.declared.node_kind.NodeKind.TheVariants as kinds
use Rattle.sparse_model.specs.declared.ids.TypeId.{TypeId}
use Rattle.meaning_types.specs.Types.{TypeTree}
use Rattle.meaning_typing.specs.Declarators.{array_type, length_said}
use Rattle.meaning_typing.specs.Facts as meaning
use Rattle.meaning_typing.specs.Specifiers.{names_type}
use Rattle.meaning_typing.specs.Units.{UnitNodes, kind_at, child_at}
use Rattle.node_facts.specs.declared.declared.SpecifiedFact.{SpecifiedFact}
use Rattle.node_facts.specs.declared.fact.NodeFact.{NodeFact}
use Rattle.node_facts.specs.declared.fact.NodeFact.TheVariants as facts

abbrev pub kept_at : List NodeFact → (handle : ℕ) → NodeFact
kept_at kept handle = get_or kept handle facts.Unknown

-- the type that is named
abbrev pub named_in : NodeFact → Option TypeId
named_in (facts.NamedType of) = Some of
named_in fact = None

-- what specifiers say
abbrev pub specified_in : NodeFact → Option SpecifiedFact
specified_in (facts.Specified specifiers) = Some specifiers
specified_in fact = None

-- the type that a declarator declares
abbrev pub declared_in : NodeFact → Option TypeId
declared_in (facts.Declared declaration) = Some declaration.of
declared_in fact = None

-- what the specifiers of a declaration, a function or a parameter say
abbrev pub specifiers_kept : UnitNodes → List NodeFact → (parent : ℕ) → Option SpecifiedFact
specifiers_kept nodes kept parent = specified_in (kept_at kept (child_at nodes parent 0))

-- the first node that names a type
abbrev pub naming_handle : UnitNodes → (handles : List ℕ) → Option ℕ
naming_handle nodes [] = None
naming_handle nodes (handle ∷ handles) = if names_type (kind_at nodes handle) then Some handle else naming_handle nodes handles

-- the types of parameters, by their numbers, if each is known
abbrev pub more_ids : Option TypeId → Option (List TypeId) → Option (List TypeId)
more_ids (Some id) (Some ids) = Some (id ∷ ids)
more_ids id ids = None

abbrev pub with_parameter_id : NodeKind → NodeFact → Option (List TypeId) → Option (List TypeId)
with_parameter_id kinds.Ellipsis fact ids = ids
with_parameter_id kind fact ids = more_ids (named_in fact) ids

abbrev pub parameter_ids : UnitNodes → List NodeFact → (handles : List ℕ) → Option (List TypeId)
parameter_ids nodes kept [] = Some []
parameter_ids nodes kept (handle ∷ handles) = with_parameter_id (kind_at nodes handle) (kept_at kept handle) (parameter_ids nodes kept handles)

-- the first child
abbrev pub first_of : List ℕ → Option ℕ
first_of [] = None
first_of (handle ∷ handles) = Some handle

-- the only child
abbrev pub only_of : List ℕ → Option ℕ
only_of (handle ∷ []) = Some handle
only_of handles = None

-- an array by what is known of its size
abbrev pub array_by : meaning.Fact → TypeTree → Option TypeTree
array_by size element = option_map (λ length. array_type element (Some length)) (length_said size)
