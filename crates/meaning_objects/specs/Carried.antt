-- What the declarations of an object or a function carry: its contexts, and that it doesn't return (C11 6.7.4 p8 has `_Noreturn`; the
-- rest is our choice). A typedef carries neither.
use Rattle.std.specs.Prelude.{ℕ, ◌+◌, Bool, true, false, ◌&&◌, ◌||◌, not, List, ◌∷◌, Option, None, if◌then◌else◌}
use Rattle.std.specs.List.{list_any}
use Rattle.vocabulary.specs.declared.node_kind.NodeKind.{NodeKind}
use Rattle.vocabulary.specs.declared.node_kind.NodeKind.TheVariants as kinds
use Rattle.meaning_typing.specs.Units.{UnitNodes, kind_at, children_at, child_at}
use Rattle.meaning_typing.specs.Surroundings.{Surrounding, surrounding_at}
use Rattle.meaning_typing.specs.Facts.{Fact, Declared, DeclaredFact, fact_at}
use Rattle.meaning_typing.specs.Names.{links_name}
use Rattle.meaning_typing.specs.ContextSums.{ContextSums, attributes_of_declarator, contexts_of, first_contexts, linked_from}

-- Contexts

-- of a declaration without linkage its own
abbrev pub own_contexts : UnitNodes → List Surrounding → (declarator : ℕ) → DeclaredFact → Option ContextSums
own_contexts nodes surroundings declarator declaration =
    if declaration.is_typedef then None else contexts_of nodes declarator (surrounding_at surroundings declarator)

abbrev pub contexts_declared : UnitNodes → List Surrounding → List Fact → (declarator : ℕ) → Fact → Option ContextSums
contexts_declared nodes surroundings facts declarator (Declared declaration) =
    if declaration.has_linkage then first_contexts (linked_from nodes declaration.name 0 surroundings facts)
    else own_contexts nodes surroundings declarator declaration
contexts_declared nodes surroundings facts declarator fact = None

-- those of the first declaration that carries some, if one does
abbrev pub contexts_of_object : UnitNodes → List Surrounding → List Fact → (object : ℕ) → Option ContextSums
contexts_of_object nodes surroundings facts object = contexts_declared nodes surroundings facts object (fact_at facts object)

-- Functions that don't return

abbrev pub is_noreturn_specifier : NodeKind → Bool
is_noreturn_specifier kinds.NoreturnSpecifier = true
is_noreturn_specifier kind = false

abbrev pub is_noreturn_attribute : NodeKind → Bool
is_noreturn_attribute kinds.NoreturnAttribute = true
is_noreturn_attribute kind = false

-- `_Noreturn` among the specifiers of a declaration, or the attribute where a context would be the declaration's too
abbrev pub says_noreturn : UnitNodes → (declarator : ℕ) → Surrounding → Bool
says_noreturn nodes declarator surrounding =
    list_any (λ handle. is_noreturn_specifier (kind_at nodes handle)) (children_at nodes (child_at nodes surrounding.parent 0))
    || list_any (λ handle. is_noreturn_attribute (kind_at nodes handle)) (attributes_of_declarator nodes declarator surrounding)

-- a declaration of this name with linkage says it, where the first of these nodes has this handle
abbrev pub is_linked_noreturn : UnitNodes → (name : List ℕ) → (first : ℕ) → List Surrounding → List Fact → Bool
is_linked_noreturn nodes name first (surrounding ∷ surroundings) (Declared declaration ∷ facts) =
    (links_name name declaration && says_noreturn nodes first surrounding) || is_linked_noreturn nodes name (first + 1) surroundings facts
is_linked_noreturn nodes name first (surrounding ∷ surroundings) (fact ∷ facts) = is_linked_noreturn nodes name (first + 1) surroundings facts
is_linked_noreturn nodes name first surroundings facts = false

abbrev pub is_own_noreturn : UnitNodes → List Surrounding → (declarator : ℕ) → DeclaredFact → Bool
is_own_noreturn nodes surroundings declarator declaration =
    not declaration.is_typedef && says_noreturn nodes declarator (surrounding_at surroundings declarator)

abbrev pub is_declared_noreturn : UnitNodes → List Surrounding → List Fact → (declarator : ℕ) → Fact → Bool
is_declared_noreturn nodes surroundings facts declarator (Declared declaration) =
    if declaration.has_linkage then is_linked_noreturn nodes declaration.name 0 surroundings facts
    else is_own_noreturn nodes surroundings declarator declaration
is_declared_noreturn nodes surroundings facts declarator fact = false

-- some declaration of it says so
abbrev pub is_noreturn : UnitNodes → List Surrounding → List Fact → (object : ℕ) → Bool
is_noreturn nodes surroundings facts object = is_declared_noreturn nodes surroundings facts object (fact_at facts object)
