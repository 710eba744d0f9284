-- The tree of a unit of the first form. Each node stands at the index of its token in the unit; what has no name
-- has the empty spelling.
use Rattle.std.specs.Prelude.{◌≡◌, ℕ, suc, zero, ◌+◌, true, List, [], ◌∷◌, length, if◌then◌else◌}
use Rattle.std.specs.List.{list_all}
use Rattle.vocabulary.specs.declared.node_kind.NodeKind.{NodeKind}
use Rattle.vocabulary.specs.declared.node_kind.NodeKind.TheVariants.{TranslationUnit, Declaration, FunctionDefinition, Specifiers, ExternSpecifier, IntSpecifier, VoidSpecifier, AttributeList, NoderefAttribute, AddressSpaceAttribute, Declarator, PointerDeclarator, FunctionDeclarator, Parameter, CompoundStatement, ExpressionStatement, Assignment, Indirection, Address, Name}
use Rattle.vocabulary.specs.declared.role.Role.TheVariants.{Evaluated, TypePart}
use Rattle.meaning_text.specs.Places.{main_file}
use Rattle.meaning_text.specs.Tokens.{Tok, LexesFile}
use Rattle.meaning_text.specs.Terminals.{terminals_of}
use Rattle.meaning_tree.specs.Trees.{SyntaxTree, Node, Parts, NoParts, Part, parts_of}
use Rattle.meaning_syntax.specs.Words.{is_plain_identifier, number_of}
use Rattle.meaning_syntax.specs.Items.{Word, Noderef, AddressSpace, Statement, Assign, AssignThrough, AssignAddress, Item, Object, Function, word_spelled, attribute_spelled, statement_spelled, item_spelled, item_fits}
use Rattle.meaning_syntax.specs.Binding.{are_bound}
use Rattle.meaning_syntax.specs.Form.{IsUnit}

-- parts of a tree whose names are spelled out
abbrev pub SyntaxParts : Type 0
SyntaxParts = Parts (List ℕ)

-- a node that has no name and no number of its own
abbrev pub plain_node : NodeKind → ℕ → SyntaxParts → SyntaxTree
plain_node kind token parts = Node kind token [] 0 parts

-- a node without parts
abbrev pub leaf : NodeKind → ℕ → SyntaxTree
leaf kind token = plain_node kind token NoParts

-- one part, and two
abbrev pub one_part : SyntaxTree → SyntaxParts
one_part tree = Part Evaluated tree NoParts

-- two parts, both evaluated
abbrev pub two_parts : SyntaxTree → SyntaxTree → SyntaxParts
two_parts left right = Part Evaluated left (one_part right)

-- Expressions and statements

-- a name at this token
abbrev pub name_tree : ℕ → List ℕ → SyntaxTree
name_tree token name = Node Name token name 0 NoParts

-- `left = right` at this `=`
abbrev pub assignment_tree : ℕ → SyntaxTree → SyntaxTree → SyntaxTree
assignment_tree token left right = plain_node Assignment token (two_parts left right)

-- `*pointer` at this `*`
abbrev pub indirection_tree : ℕ → SyntaxTree → SyntaxTree
indirection_tree token pointer = plain_node Indirection token (one_part pointer)

-- `&place` at this `&`
abbrev pub address_tree : ℕ → SyntaxTree → SyntaxTree
address_tree token place = plain_node Address token (one_part place)

-- the expression of a statement that begins at this token
abbrev pub expression_tree : ℕ → Statement → SyntaxTree
expression_tree first (Assign target source) =
    assignment_tree (first + 1) (name_tree first target) (name_tree (first + 2) source)
expression_tree first (AssignThrough pointer source) =
    assignment_tree (first + 2) (indirection_tree first (name_tree (first + 1) pointer)) (name_tree (first + 3) source)
expression_tree first (AssignAddress target object) =
    assignment_tree (first + 1) (name_tree first target) (address_tree (first + 2) (name_tree (first + 3) object))

-- a statement that begins at this token
abbrev pub statement_tree : ℕ → Statement → SyntaxTree
statement_tree first statement = plain_node ExpressionStatement first (one_part (expression_tree first statement))

-- statements one behind the other, from this token on
abbrev pub statement_trees : ℕ → List Statement → List SyntaxTree
statement_trees first [] = []
statement_trees first (statement ∷ statements) =
    statement_tree first statement ∷ statement_trees (first + length (statement_spelled statement)) statements

-- Declarations

-- a word of an attribute at this token; a space has its name or its number
abbrev pub word_tree : ℕ → Word → SyntaxTree
word_tree token Noderef = leaf NoderefAttribute token
word_tree token (AddressSpace id) =
    if is_plain_identifier id then Node AddressSpaceAttribute token id 0 NoParts
    else Node AddressSpaceAttribute token [] (number_of id) NoParts

-- a comma stands before each further word
abbrev pub word_trees : ℕ → List Word → List SyntaxTree
word_trees token [] = []
word_trees token (word ∷ words) = word_tree token word ∷ word_trees (token + length (word_spelled word) + 1) words

-- words stand behind the keyword and two parentheses
abbrev pub attribute_trees : ℕ → List Word → List SyntaxTree
attribute_trees token [] = []
attribute_trees token (word ∷ words) =
    plain_node AttributeList token (parts_of TypePart (word_trees (token + 3) (word ∷ words))) ∷ []

-- so many stars, from this token on
abbrev pub star_trees : ℕ → ℕ → List SyntaxTree
star_trees token zero = []
star_trees token (suc stars) = leaf PointerDeclarator token ∷ star_trees (token + 1) stars

-- a name behind its stars
abbrev pub declarator_tree : ℕ → ℕ → List ℕ → SyntaxTree
declarator_tree token stars name = Node Declarator (token + stars) name 0 (parts_of TypePart (star_trees token stars))

-- `extern int`, then an attribute
abbrev pub object_specifiers : ℕ → List Word → SyntaxTree
object_specifiers first words =
    plain_node Specifiers first
    (parts_of TypePart (leaf ExternSpecifier first ∷ leaf IntSpecifier (first + 1) ∷ attribute_trees (first + 2) words))

-- the declaration of an object that begins at this token
abbrev pub object_tree : ℕ → List Word → ℕ → List ℕ → SyntaxTree
object_tree first words stars name =
    plain_node Declaration first
    (Part TypePart (object_specifiers first words)
    (one_part (declarator_tree (first + 2 + length (attribute_spelled words)) stars name)))

-- `void` as all there is of specifiers
abbrev pub void_specifiers : ℕ → SyntaxTree
void_specifiers token = plain_node Specifiers token (Part TypePart (leaf VoidSpecifier token) NoParts)

-- `NAME ( void )`
abbrev pub function_declarator : ℕ → List ℕ → SyntaxTree
function_declarator token name =
    Node Declarator token name 0
    (Part TypePart
    (plain_node FunctionDeclarator (token + 1)
    (Part TypePart (plain_node Parameter (token + 2) (Part TypePart (void_specifiers (token + 2)) NoParts)) NoParts))
    NoParts)

-- `void NAME ( void ) { .. }`: the body begins at the sixth token
abbrev pub function_tree : ℕ → List ℕ → List Statement → SyntaxTree
function_tree first name statements =
    plain_node FunctionDefinition first
    (Part TypePart (void_specifiers first)
    (Part TypePart (function_declarator (first + 1) name)
    (one_part (plain_node CompoundStatement (first + 5) (parts_of Evaluated (statement_trees (first + 6) statements))))))

-- an item that begins at this token
abbrev pub item_tree : ℕ → Item → SyntaxTree
item_tree first (Object words stars name) = object_tree first words stars name
item_tree first (Function name statements) = function_tree first name statements

-- items one behind the other, from this token on
abbrev pub item_trees : ℕ → List Item → List SyntaxTree
item_trees first [] = []
item_trees first (item ∷ items) = item_tree first item ∷ item_trees (first + length (item_spelled item)) items

-- the items as a unit, from token 0 on
abbrev pub unit_tree : List Item → SyntaxTree
unit_tree items = plain_node TranslationUnit 0 (parts_of Evaluated (item_trees 0 items))

-- The whole

-- the tree is that of items in the first form whose names are bound
pub record IsInFirstForm (tree : SyntaxTree) : Type 0 where
  pub items : List Item
  pub fit : list_all item_fits items ≡ true
  pub bound : are_bound [] items ≡ true
  pub is_tree : tree ≡ unit_tree items

-- tokens that are spelled so derive this tree
pub record Derives (texts : List (List ℕ)) (tree : SyntaxTree) : Type 0 where
  pub items : List Item
  pub is_unit : IsUnit texts items
  pub is_tree : tree ≡ unit_tree items

-- the text of a file is a unit of the form
abbrev pub IsInForm : List ℕ → Type 0
IsInForm text =
    (tokens : List Tok) × (unit : SyntaxTree) × LexesFile main_file text tokens × Derives (terminals_of tokens) unit
