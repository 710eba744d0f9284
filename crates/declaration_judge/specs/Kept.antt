-- What is kept of declarations while nodes come in their order, and what it is kept of.
use Rattle.std.specs.Prelude.{◌≡◌, ℕ, ◌+◌, Bool, List, [], ◌∷◌, ◌++◌, All, if◌then◌else◌, option_map}
use Rattle.meaning_typing.specs.ContextSums.{contexts_of}
use Rattle.meaning_typing.specs.ContextSums as meaning
use Rattle.meaning_typing.specs.Facts.{Fact}
use Rattle.meaning_typing.specs.Surroundings.{Surrounding}
use Rattle.meaning_typing.specs.Units.{UnitNodes}
use Rattle.c_types.specs.Table.{Extends}
use Rattle.declaration_rows.specs.Kept.{AreDefined, AreTentative}
use Rattle.linked_names.specs.declared.declaration.Declared.{Declared}
use Rattle.linked_names.specs.declared.declaration.Linked.{Linked}
use Rattle.linked_names.specs.declared.declaration.Typedef.{Typedef}
use Rattle.linked_names.specs.declared.sums.ContextSums.{ContextSums}
use Rattle.node_facts.specs.declared.fact.NodeFact.{NodeFact}
use Rattle.node_facts.specs.declared.fact.NodeFact.TheVariants as facts
use Rattle.node_facts.specs.Facts.{IsKnownNodeFact, nodes_seen}
use Rattle.node_facts.specs.Growing.{TypesJoin}
use Rattle.declaration_judge.specs.declared.declarations.Declarations.{Declarations}

abbrev pub only_if : {X : Type 0} → Bool → X → List X
only_if test one = if test then one ∷ [] else []

-- Declarations with linkage

abbrev pub linked_of : NodeFact → List Linked
linked_of (facts.Declared declaration) = only_if declaration.has_linkage (record { name = declaration.name; of = declaration.of })
linked_of fact = []

-- in order
abbrev pub linked_in : List NodeFact → List Linked
linked_in [] = []
linked_in (fact ∷ facts) = linked_of fact ++ linked_in facts

-- What nodes say where they stand

-- each by its handle and what it stands in, where the first of these has this handle
abbrev pub said_by : {X : Type 0} → ((handle : ℕ) → Surrounding → NodeFact → List X) → (first : ℕ) → List Surrounding → List NodeFact → List X
said_by says first [] facts = []
said_by says first (surrounding ∷ surroundings) [] = []
said_by says first (surrounding ∷ surroundings) (fact ∷ facts) = says first surrounding fact ++ said_by says (first + 1) surroundings facts

-- contexts as they are kept
abbrev pub sums_kept : meaning.ContextSums → ContextSums
sums_kept sums = record { enters = sums.enters; leaves = sums.leaves }

-- a declaration with linkage, with its contexts
abbrev pub declared_of : UnitNodes → (handle : ℕ) → Surrounding → NodeFact → List Declared
declared_of nodes handle surrounding (facts.Declared declaration) =
    only_if declaration.has_linkage
    (record { node = handle; name = declaration.name; of = declaration.of; contexts = option_map sums_kept (contexts_of nodes handle surrounding) })
declared_of nodes handle surrounding fact = []

-- in order
abbrev pub declared_in : UnitNodes → List Surrounding → List NodeFact → List Declared
declared_in nodes surroundings facts = said_by (declared_of nodes) 0 surroundings facts

-- a typedef in this scope
abbrev pub typedef_of : (scope : ℕ) → NodeFact → List Typedef
typedef_of scope (facts.Declared declaration) =
    only_if declaration.is_typedef (record { scope = scope; name = declaration.name; of = declaration.of })
typedef_of scope fact = []

abbrev pub typedef_standing : (handle : ℕ) → Surrounding → NodeFact → List Typedef
typedef_standing handle surrounding fact = typedef_of surrounding.around.scope fact

-- in order
abbrev pub typedefs_in : List Surrounding → List NodeFact → List Typedef
typedefs_in surroundings facts = said_by typedef_standing 0 surroundings facts

-- Together

-- what is known of each node
abbrev pub facts_seen : Declarations → List Fact
facts_seen kept = nodes_seen kept.types kept.facts

-- what is kept hangs together
pub record IsWhole (kept : Declarations) : Type 0 where
  -- all types are of the table
  pub ids : All (IsKnownNodeFact kept.types) kept.facts
  -- the declarations with linkage are kept
  pub linked : kept.linked.declarations ≡ linked_in kept.facts
  pub over : Extends kept.linked.over kept.types
  pub carried : Extends kept.contexts.over kept.types

-- it is kept of all nodes of which something is known, where nodes stand in this
pub record IsKeptOf (nodes : UnitNodes) (surroundings : List Surrounding) (kept : Declarations) : Type 0 where
  pub whole : IsWhole kept
  pub contexts : kept.contexts.declarations ≡ declared_in nodes surroundings kept.facts
  pub typedefs : kept.typedefs ≡ typedefs_in surroundings kept.facts
  pub defined : AreDefined nodes surroundings (facts_seen kept) kept.defined
  pub tentative : AreTentative nodes surroundings (facts_seen kept) kept.tentative

-- types joined the table, and all else that was kept stays
pub record OnlyTypesJoin (old new : Declarations) : Type 0 where
  pub types : TypesJoin old.types new.types
  pub facts : new.facts ≡ old.facts
  pub linked : new.linked ≡ old.linked
  pub contexts : new.contexts ≡ old.contexts
  pub typedefs : new.typedefs ≡ old.typedefs
  pub defined : new.defined ≡ old.defined
  pub tentative : new.tentative ≡ old.tentative
