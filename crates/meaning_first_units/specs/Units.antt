-- Units of the first form, as lists of nodes: which stand for the tree of items. Their names are those of the items or others, such as
-- the numbers of their spellings.
use Rattle.std.specs.Prelude.{◌≡◌, ℕ, ◌<◌, true, List, [], ◌∷◌, map, flat_map, Contains, if◌then◌else◌}
use Rattle.std.specs.List.{list_all}
use Rattle.vocabulary.specs.declared.node_kind.NodeKind.{NodeKind}
use Rattle.vocabulary.specs.declared.node_kind.NodeKind.TheVariants.{AttributeList, CompoundStatement, Declaration, Declarator, Name, Specifiers}
use Rattle.meaning_tree.specs.Trees.{SyntaxTree, Node, Parts, NoParts, Part}
use Rattle.meaning_tree.specs.Nodes.{TreeNode, IsTreeOf}
use Rattle.meaning_unit_nodes.specs.Laws.{with_names}
use Rattle.meaning_syntax.specs.Items.{Word, Noderef, AddressSpace, Item, Object, Function, item_fits}
use Rattle.meaning_syntax.specs.Words.{is_plain_identifier}
use Rattle.meaning_syntax.specs.Binding.{are_bound}
use Rattle.meaning_syntax.specs.Trees.{unit_tree}
use Rattle.meaning_typing.specs.Units.{UnitNodes, child_at, kind_at, node_at, unit_list}

-- the number of a node that isn't there to link it with another node or with a token: that of a name is the handle of its declarator,
-- of a declarator that of what it hides, of a body or a list of attributes the index of a token, and of specifiers a note of what storage
-- class their words say
abbrev pub own_number : NodeKind → ℕ → ℕ
own_number Name number = 0
own_number Declarator number = 0
own_number CompoundStatement number = 0
own_number AttributeList number = 0
own_number Specifiers number = 0
own_number kind number = number

abbrev pub without_link : TreeNode (List ℕ) → TreeNode (List ℕ)
without_link node = record node { number = own_number node.kind node.number }

-- a tree without such numbers
abbrev mutual
  pub without_links : SyntaxTree → SyntaxTree
  without_links (Node kind token name number parts) = Node kind token name (own_number kind number) (parts_without_links parts)

  pub parts_without_links : Parts (List ℕ) → Parts (List ℕ)
  parts_without_links NoParts = NoParts
  parts_without_links (Part role tree parts) = Part role (without_links tree) (parts_without_links parts)

-- Names

-- what stands for a name
abbrev pub Renaming : Type 0
Renaming = List ℕ → List ℕ

-- the name of an address space, where it has one
abbrev pub space_names : Word → List (List ℕ)
space_names Noderef = []
space_names (AddressSpace id) = if is_plain_identifier id then id ∷ [] else []

-- the name of what an item declares, and those of its address spaces
abbrev pub names_said : Item → List (List ℕ)
names_said (Object words stars name) = name ∷ flat_map space_names words
names_said (Function name statements) = name ∷ []

-- a name of the items
abbrev pub IsNameOf : List Item → List ℕ → Type 0
IsNameOf items name = Contains (flat_map names_said items) name

-- Names stay names, and different names of the items stay different.
pub record TellsApart (renaming : Renaming) (items : List Item) : Type 0 where
  pub nothing : renaming [] ≡ []
  pub something : (name : List ℕ) → IsNameOf items name → renaming name ≡ [] → name ≡ []
  pub apart : (name other : List ℕ) → IsNameOf items name → IsNameOf items other → renaming name ≡ renaming other → name ≡ other

-- The whole

-- a name is linked with a declarator of this name, which stands before it
pub record IsLinked (nodes : UnitNodes) (name declarator : ℕ) : Type 0 where
  pub before : declarator < name
  pub is_declarator : kind_at nodes declarator ≡ Declarator
  pub same : (node_at nodes declarator).name ≡ (node_at nodes name).name

-- without their links the nodes stand for the tree of these items with other names
pub record IsFirstFormUnit (renaming : Renaming) (nodes : UnitNodes) (items : List Item) : Type 0 where
  pub fit : list_all item_fits items ≡ true
  pub bound : are_bound [] items ≡ true
  pub told_apart : TellsApart renaming items
  pub is_tree : IsTreeOf (unit_list (map without_link nodes)) (with_names renaming (unit_tree items))
  -- each name is linked with its declarator
  pub linked : (handle : ℕ) → kind_at nodes handle ≡ Name → IsLinked nodes handle (node_at nodes handle).number
  -- specifiers stand before what is declared with them
  pub in_order : (handle : ℕ) → kind_at nodes handle ≡ Declaration → child_at nodes handle 0 < child_at nodes handle 1
