-- Each node of a unit of the first form is one of those that its items have.
use Rattle.std.proofs.Common.{◌≡◌, ℕ, zero, suc, ◌+◌, ◌-◌, ◌<◌, ◌≤◌, ◌⊎◌, inl, inr, Bool, true, false, ◌||◌, List, [], ◌∷◌, length, Contains, Some, slice_get, if◌then◌else◌, refl, sym, ap, subst, ◌∙◌, arith}
use Rattle.std.proofs.lemmas.Option.{none-some, same_Some, option_and_then_some, get_or_from_slice_get, slice_get-get_or, slice_get_within}
use Rattle.std.proofs.lemmas.List.Elements.{All-get_or}
use Rattle.vocabulary.specs.declared.node_kind.NodeKind.{NodeKind}
use Rattle.vocabulary.specs.declared.node_kind.NodeKind.TheVariants as kinds
use Rattle.vocabulary.specs.declared.role.Role.{Role}
use Rattle.vocabulary.specs.declared.role.Role.TheVariants.{Evaluated, TypePart}
use Rattle.meaning_tree.specs.Trees.{SyntaxTree, Node, Parts, NoParts, Part, parts_of}
use Rattle.meaning_tree.specs.Nodes.{TreeNode}
use Rattle.meaning_tree.specs.LookUps.{node_at as found_at}
use Rattle.meaning_tree.specs.Laid.{IsChildAt}
use Rattle.meaning_tree.proofs.LookingUp.{node_at-exact}
use Rattle.meaning_syntax.specs.Items.{Word, Noderef, AddressSpace, Statement, Assign, AssignThrough, AssignAddress, Item, Object, Function, attribute_spelled, item_spelled, statement_spelled, word_spelled}
use Rattle.meaning_syntax.specs.Trees.{attribute_trees, function_tree, item_tree, item_trees, object_tree, star_trees, statement_tree, statement_trees, unit_tree, word_tree, word_trees}
use Rattle.meaning_syntax.specs.Words.{is_plain_identifier, number_of}
use Rattle.meaning_typing.specs.Units.{UnitNodes, no_node, node_at, unit_list}
use Rattle.meaning_typing.specs.laws.Surroundings.{IsLaidUnit}
use Rattle.meaning_first_rules.proofs.Elements.{Contains-cons_head, Contains-cons_tail}
use Rattle.meaning_first_units.specs.Units.{Renaming}
use Rattle.meaning_first_units.proofs.Declaring.{is_quiet}
use Rattle.meaning_first_units.proofs.Standing.{Make, Makes, node-of}

-- Trees

abbrev pub is_declarator_kind : NodeKind → Bool
is_declarator_kind kinds.Declarator = true
is_declarator_kind kind = false

abbrev pub is_declarator : SyntaxTree → Bool
is_declarator (Node kind token name number parts) = is_declarator_kind kind

abbrev pub has_declarator : Parts (List ℕ) → Bool
has_declarator NoParts = false
has_declarator (Part role tree parts) = is_declarator tree || has_declarator parts

-- a node that neither is a declaration nor has a declarator
abbrev pub IsPlain : NodeKind → Parts (List ℕ) → Type 0
IsPlain kind parts = (is_quiet kind || is_declarator_kind kind ≡ true) × (has_declarator parts ≡ false)

-- the whole tree of one of the items, or a node without declarators
abbrev pub IsFine : List Item → NodeKind → (token : ℕ) → (name : List ℕ) → (number : ℕ) → Parts (List ℕ) → Type 0
IsFine items kinds.Declaration token name number parts =
    (first : ℕ) × (words : List Word) × (stars : ℕ) × (own : List ℕ) × Contains items (Object words stars own)
    × (Node kinds.Declaration token name number parts ≡ object_tree first words stars own)
IsFine items kinds.FunctionDefinition token name number parts =
    (first : ℕ) × (own : List ℕ) × (statements : List Statement) × Contains items (Function own statements)
    × (Node kinds.FunctionDefinition token name number parts ≡ function_tree first own statements)
IsFine items kind token name number parts = IsPlain kind parts

abbrev mutual
  pub AllFine : List Item → SyntaxTree → Type 0
  AllFine items (Node kind token name number parts) = IsFine items kind token name number parts × AreFine items parts

  pub AreFine : List Item → Parts (List ℕ) → Type 0
  AreFine items NoParts = Unit {0}
  AreFine items (Part role tree parts) = AllFine items tree × AreFine items parts

-- lists of trees
abbrev ListFine : List Item → Role → List SyntaxTree → Type 0
ListFine items role trees = AreFine items (parts_of role trees) × (has_declarator (parts_of role trees) ≡ false)

stars-fine : (items : List Item) (token stars : ℕ) → ListFine items TypePart (star_trees token stars)
stars-fine items token zero = (tt, refl)
stars-fine items token (suc stars) = let behind = stars-fine items (token + 1) stars in ((((refl, refl), tt), behind.0), behind.1)

word-fine : (items : List Item) (token : ℕ) (word : Word) → AllFine items (word_tree token word) × (is_declarator (word_tree token word) ≡ false)
word-fine items token Noderef = (((refl, refl), tt), refl)
word-fine items token (AddressSpace id) = by (is_plain_identifier id)
  where
    by : (test : Bool)
        → AllFine items (if test then Node kinds.AddressSpaceAttribute token id 0 NoParts else Node kinds.AddressSpaceAttribute token [] (number_of id) NoParts)
        × (is_declarator (if test then Node kinds.AddressSpaceAttribute token id 0 NoParts else Node kinds.AddressSpaceAttribute token [] (number_of id) NoParts) ≡ false)
    by true = (((refl, refl), tt), refl)
    by false = (((refl, refl), tt), refl)

words-fine : (items : List Item) (token : ℕ) (words : List Word) → ListFine items TypePart (word_trees token words)
words-fine items token [] = (tt, refl)
words-fine items token (word ∷ words) =
    let one = word-fine items token word in
    let behind = words-fine items (token + length (word_spelled word) + 1) words in
    ((one.0, behind.0), ap (λ b. b || has_declarator (parts_of TypePart (word_trees (token + length (word_spelled word) + 1) words))) one.1 ∙ behind.1)

attributes-fine : (items : List Item) (token : ℕ) (words : List Word) → ListFine items TypePart (attribute_trees token words)
attributes-fine items token [] = (tt, refl)
attributes-fine items token (word ∷ words) =
    let inner = words-fine items (token + 3) (word ∷ words) in
    ((((refl, inner.1), inner.0), tt), refl)

statement-fine : (items : List Item) (first : ℕ) (statement : Statement) → AllFine items (statement_tree first statement)
statement-fine items first (Assign target source) =
    ((refl, refl), (((refl, refl), (((refl, refl), tt), (((refl, refl), tt), tt))), tt))
statement-fine items first (AssignThrough pointer source) =
    ((refl, refl), (((refl, refl), (((refl, refl), (((refl, refl), tt), tt)), (((refl, refl), tt), tt))), tt))
statement-fine items first (AssignAddress target object) =
    ((refl, refl), (((refl, refl), (((refl, refl), tt), (((refl, refl), (((refl, refl), tt), tt)), tt))), tt))

statements-fine : (items : List Item) (first : ℕ) (statements : List Statement) → ListFine items Evaluated (statement_trees first statements)
statements-fine items first [] = (tt, refl)
statements-fine items first (statement ∷ statements) =
    let behind = statements-fine items (first + length (statement_spelled statement)) statements in
    ((statement-fine items first statement, behind.0), behind.1)

item-fine : (items : List Item) (first : ℕ) (item : Item) → Contains items item → AllFine items (item_tree first item) × (is_declarator (item_tree first item) ≡ false)
item-fine items first (Object words stars name) among =
    let attributes = attributes-fine items (first + 2) words in
    let star = stars-fine items (first + 2 + length (attribute_spelled words)) stars in (
      (
        (first, words, stars, name, among, refl),
        (
          ((refl, attributes.1), (((refl, refl), tt), (((refl, refl), tt), attributes.0))),
          (((refl, star.1), star.0), tt),
        ),
      ),
      refl,
    )
item-fine items first (Function name statements) among =
    let body = statements-fine items (first + 6) statements in (
      (
        (first, name, statements, among, refl),
        (
          ((refl, refl), (((refl, refl), tt), tt)),
          (
            ((refl, refl), (((refl, refl), (((refl, refl), (((refl, refl), (((refl, refl), tt), tt)), tt)), tt)), tt)),
            (((refl, body.1), body.0), tt),
          ),
        ),
      ),
      refl,
    )

items-fine : (all : List Item) (first : ℕ) (items : List Item) → ((item : Item) → Contains items item → Contains all item) → ListFine all Evaluated (item_trees first items)
items-fine all first [] among = (tt, refl)
items-fine all first (item ∷ items) among =
    let one = item-fine all first item (among item (Contains-cons_head item items)) in
    let behind = items-fine all (first + length (item_spelled item)) items (λ other is. among other (Contains-cons_tail item items other is)) in
    ((one.0, behind.0), ap (λ b. b || has_declarator (parts_of Evaluated (item_trees (first + length (item_spelled item)) items))) one.1 ∙ behind.1)

pub unit-fine : (items : List Item) → AllFine items (unit_tree items)
unit-fine items = let all = items-fine items 0 items (λ item is. is) in ((refl, all.1), all.0)

-- Handles

pub child-of :
    (nodes : UnitNodes) (parent place child : ℕ) → IsChildAt (unit_list nodes) parent place child
    → (tag : ℕ) × (parent < length nodes) × (slice_get (node_at nodes parent).children place ≡ Some (child, tag))
child-of nodes parent place child is =
    option_and_then_some (λ (node : TreeNode (List ℕ)). slice_get node.children place) (found_at (unit_list nodes) parent) (child, is.0) is.1
    (λ node found at.
    let has = (node_at-exact (unit_list nodes) parent node).0 found in
    let here : slice_get nodes parent ≡ Some node = ap (slice_get nodes) (omega arith) ∙ has.1 in (
      is.0,
      slice_get_within nodes parent node here,
      ap (λ (n : TreeNode (List ℕ)). slice_get n.children place) (get_or_from_slice_get nodes parent node no_node here) ∙ at,
    ))

pub child-before :
    (nodes : UnitNodes) → IsLaidUnit nodes → (parent place : ℕ) (child : ℕ × ℕ) → parent < length nodes
    → slice_get (node_at nodes parent).children place ≡ Some child → child.0 < parent
child-before nodes unit parent place child within has =
    let is : slice_get nodes (parent - 0) ≡ Some (node_at nodes parent) = ap (slice_get nodes) (omega arith) ∙ slice_get-get_or nodes parent no_node within in
    (subst (λ (c : ℕ × ℕ). (0 ≤ c.0) × (c.0 < parent)) (get_or_from_slice_get (node_at nodes parent).children place child child has)
    (All-get_or (λ (c : ℕ × ℕ). (0 ≤ c.0) × (c.0 < parent)) (node_at nodes parent).children place child
    (slice_get_within (node_at nodes parent).children place child has) (unit.ordered parent (node_at nodes parent) (omega arith, is)))).1

-- a node that makes a tree in which all is fine
pub record Fine (renaming : Renaming) (nodes : UnitNodes) (items : List Item) (handle : ℕ) : Type 0 where
  pub tree : SyntaxTree
  pub makes : Makes renaming nodes handle tree
  pub all : AllFine items tree

pub part-fine :
    (renaming : Renaming) (nodes : UnitNodes) (items : List Item) (children : List (ℕ × ℕ)) (parts : Parts (List ℕ)) (place : ℕ) (child : ℕ × ℕ)
    → Make renaming nodes children parts → AreFine items parts → slice_get children place ≡ Some child → Fine renaming nodes items child.0
part-fine renaming nodes items [] parts place child make fine at = absurd (none-some child at)
part-fine renaming nodes items (one ∷ children) NoParts place child make fine at = absurd make
part-fine renaming nodes items (one ∷ children) (Part role tree parts) zero child make fine at =
    subst (λ (c : ℕ × ℕ). Fine renaming nodes items c.0) (same_Some one child at) (record { tree = tree; makes = make.1; all = fine.0 })
part-fine renaming nodes items (one ∷ children) (Part role tree parts) (suc place) child make fine at =
    part-fine renaming nodes items children parts place child make.2 fine.1 at

child-fine :
    (renaming : Renaming) (nodes : UnitNodes) (items : List Item) (parent place : ℕ) (child : ℕ × ℕ) (tree : SyntaxTree) → Makes renaming nodes parent tree → AllFine items tree
    → slice_get (node_at nodes parent).children place ≡ Some child → Fine renaming nodes items child.0
child-fine renaming nodes items parent place child (Node kind token name number parts) makes fine at =
    let is = node-of renaming nodes parent kind token name number parts makes in
    part-fine renaming nodes items is.0 parts place child is.2 fine.1 (ap (λ children. slice_get children place) (sym is.1.are_children) ∙ at)

pub last-or-part : (handle count : ℕ) → handle < count → (handle ≡ count - 1) ⊎ (handle + 1 < count)
last-or-part handle count within = grind arith

module _ (renaming : Renaming) (nodes : UnitNodes) (items : List Item) (unit : IsLaidUnit nodes) (root : Makes renaming nodes (length nodes - 1) (unit_tree items)) where
  reach-in : (count handle : ℕ) → handle < length nodes → length nodes ≤ handle + count → Fine renaming nodes items handle
  reach-in zero handle within far = absurd (omega (arith, within, far))
  reach-in (suc count) handle within far =
      elim (last-or-part handle (length nodes) within) [
        | inl last ↦ record { tree = unit_tree items; makes = subst (λ h. Makes renaming nodes h (unit_tree items)) (sym last) root; all = unit-fine items }
        | inr part ↦
            let one = unit.laid.parents handle (omega arith) (omega (arith, part)) in
            let child = child-of nodes one.0 one.1 handle one.2 in
            let behind = child-before nodes unit one.0 one.1 (handle, child.0) child.1 child.2 in
            let parent = reach-in count one.0 child.1 (omega (arith, far, behind)) in
            child-fine renaming nodes items one.0 one.1 (handle, child.0) parent.tree parent.makes parent.all child.2
      ]

  pub reach : (handle : ℕ) → handle < length nodes → Fine renaming nodes items handle
  reach handle within = reach-in (length nodes) handle within (omega arith)

  -- the node above one that isn't the last
  pub record Above (handle : ℕ) : Type 0 where
    pub parent : ℕ
    pub place : ℕ
    pub tag : ℕ
    pub within : parent < length nodes
    pub at : slice_get (node_at nodes parent).children place ≡ Some (handle, tag)

  pub above : (handle : ℕ) → handle + 1 < length nodes → Above handle
  above handle part =
      let one = unit.laid.parents handle (omega arith) (omega (arith, part)) in
      let child = child-of nodes one.0 one.1 handle one.2 in
      record { parent = one.0; place = one.1; tag = child.0; within = child.1; at = child.2 }
