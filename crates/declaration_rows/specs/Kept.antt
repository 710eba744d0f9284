-- What is kept of declarations while nodes come in their order, and what it is kept of.
use Rattle.std.specs.Prelude.{◌≡◌, ℕ, zero, suc, Bool, ◌&&◌, not, nat_eq, false, List, [], ◌∷◌, ◌++◌, get_or, length, if◌then◌else◌}
use Rattle.std.specs.List.{list_any}
use Rattle.vocabulary.specs.declared.node_kind.NodeKind.{NodeKind}
use Rattle.sparse_model.specs.declared.ids.NameId.{NameId}
use Rattle.meaning_layout.specs.Sizes.{Told}
use Rattle.meaning_operands.specs.Failures.{Broken}
use Rattle.meaning_typing.specs.DeclarationRows.{fact_of_declarator, has_initializer, is_declaration_kind, is_earlier_definition, tentative_of}
use Rattle.meaning_typing.specs.Declarators.{in_file, is_declarator, is_function}
use Rattle.meaning_typing.specs.Facts.{Fact, Unknown, Declared, DeclaredFact, fact_at}
use Rattle.meaning_typing.specs.Names.{linked_types}
use Rattle.meaning_typing.specs.Surroundings.{Surrounding, surrounding_at}
use Rattle.meaning_typing.specs.Tags.{is_any_below}
use Rattle.meaning_typing.specs.Units.{UnitNodes, kind_at, node_at}
use Rattle.c_types.specs.Table.{TypeTable}
use Rattle.linked_names.specs.Linked.{LinkedDeclarations, types_of}
use Rattle.node_facts.specs.declared.declared.DeclaredFact as code
use Rattle.node_facts.specs.declared.fact.NodeFact.{NodeFact}
use Rattle.node_facts.specs.declared.fact.NodeFact.TheVariants as facts
use Rattle.node_facts.specs.Facts.{name_seen, nodes_seen}

-- Names with linkage

-- of each name the declarations with linkage among these are kept
abbrev pub AreLinked : TypeTable → List NodeFact → LinkedDeclarations → Type 0
AreLinked table kept linked =
    (name : NameId) → types_of table name linked.declarations ≡ linked_types (name_seen name) (nodes_seen table kept)

-- Definitions

abbrev pub is_among : NameId → List NameId → Bool
is_among name names = list_any (λ other. nat_eq name.0 other.0) names

-- a definition of this name with linkage stands among the first so many nodes
abbrev pub is_defined_below : UnitNodes → List Surrounding → List Fact → (name : List ℕ) → (count : ℕ) → Bool
is_defined_below nodes surroundings facts name count =
    is_any_below (λ other. is_earlier_definition nodes surroundings facts name other (fact_at facts other)) count

-- these are the names with linkage that are defined among the nodes of which this is known
abbrev pub AreDefined : UnitNodes → List Surrounding → List Fact → List NameId → Type 0
AreDefined nodes surroundings facts names =
    (name : NameId) → is_among name names ≡ is_defined_below nodes surroundings facts (name_seen name) (length facts)

-- Tentative objects

-- it is tentative unless `extern` is said of it
abbrev pub may_be_tentative : UnitNodes → Surrounding → DeclaredFact → Bool
may_be_tentative nodes surrounding declaration =
    is_declaration_kind (kind_at nodes surrounding.parent)
    && (in_file nodes surrounding && (not declaration.is_typedef && (not (is_function declaration.type_) && not (has_initializer nodes surrounding))))

abbrev pub tentative_by : UnitNodes → (handle : ℕ) → Surrounding → Fact → List ℕ
tentative_by nodes handle surrounding (Declared declaration) = if may_be_tentative nodes surrounding declaration then handle ∷ [] else []
tentative_by nodes handle surrounding fact = []

-- an initializer declares nothing itself
abbrev pub declared_by : NodeKind → Fact → Fact
declared_by kind fact = if is_declarator kind then fact else Unknown

-- the handles of those among the first so many nodes, in order
abbrev pub tentative_below : UnitNodes → List Surrounding → List Fact → (count : ℕ) → List ℕ
tentative_below nodes surroundings facts zero = []
tentative_below nodes surroundings facts (suc count) =
    tentative_below nodes surroundings facts count
    ++ tentative_by nodes count (surrounding_at surroundings count) (declared_by (kind_at nodes count) (fact_at facts count))

-- these are the handles of those among the nodes of which this is known
abbrev pub AreTentative : UnitNodes → List Surrounding → List Fact → (handles : List ℕ) → Type 0
AreTentative nodes surroundings facts handles = handles ≡ tentative_below nodes surroundings facts (length facts)

-- what the node with this handle breaks at the end of the unit
abbrev pub at_end : Told → UnitNodes → List Surrounding → List Fact → (handle : ℕ) → List Broken
at_end told nodes surroundings facts handle =
    tentative_of told nodes facts (node_at nodes handle).token (surrounding_at surroundings handle) (fact_of_declarator nodes facts handle)

-- Names that are hidden

-- it declares this name with linkage
abbrev pub links_kept : NameId → NodeFact → Bool
links_kept name (facts.Declared declaration) = declaration.has_linkage && nat_eq declaration.name.0 name.0
links_kept name fact = false

abbrev pub hides_kept : List NodeFact → (number : ℕ) → code.DeclaredFact → Bool
hides_kept kept zero declaration = false
hides_kept kept (suc hidden) declaration = declaration.has_linkage && links_kept declaration.name (get_or kept hidden facts.Unknown)
