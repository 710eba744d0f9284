-- The line of a node.
use Rattle.std.specs.Prelude.{ℕ, List, [], ◌∷◌, ◌++◌, zero, suc, codes, Option, None, Some, slice_get}
use Rattle.std.specs.Fmt.{decimal}
use Rattle.vocabulary.specs.declared.node_kind.NodeKind.{NodeKind}
use Rattle.vocabulary.specs.declared.node_kind.NodeKind.TheVariants as kinds
use Rattle.meaning_tree.specs.Nodes.{TreeNode, NodeList}
use Rattle.meaning_tree.specs.LookUps.{node_at}
use Rattle.sparse_model.specs.declared.ids.NameId.{NameId}
use Rattle.c_tokens.specs.declared.token.Token.{Token}
use Rattle.c_tokens.specs.Seen.{text_of}
use Rattle.unit_commands.specs.Words.{kind_text, role_text}
use Rattle.unit_commands.specs.declared.tree_lines.NumberUse.{NumberUse}
use Rattle.unit_commands.specs.declared.tree_lines.NumberUse.TheVariants.{Nothing, Own, OwnWithoutName, OfToken, OfNode, OfHidden}

-- nodes, the tokens to which they point, and the spellings of both
pub record ShownUnit : Type 0 where
  pub names : List (List ℕ)
  pub tokens : List Token
  pub list : NodeList NameId

-- two spaces for each level
abbrev pub indentation : ℕ → List ℕ
indentation zero = []
indentation (suc depth) = indentation depth ++ codes "  "

-- what a part is, by its tag; the root is a part of nothing
abbrev pub tag_text : Option ℕ → List ℕ
tag_text None = []
tag_text (Some tag) = role_text tag

-- the line and the column of a token; where there is none, those of the beginning
abbrev pub position_in : Option Token → ℕ × ℕ
position_in None = (1, 1)
position_in (Some token) = (token.place.line, token.place.column)

-- of the token with this index
abbrev pub position_of : List Token → ℕ → ℕ × ℕ
position_of tokens index = position_in (slice_get tokens index)

-- `LINE:COLUMN`
abbrev pub line_and_column : List Token → ℕ → List ℕ
line_and_column tokens index = decimal (position_of tokens index).0 ++ codes ":" ++ decimal (position_of tokens index).1

abbrev pub name_text : List ℕ → List ℕ
name_text [] = []
name_text (byte ∷ bytes) = codes " " ++ byte ∷ bytes

-- a number of its own
abbrev pub value_text : ℕ → List ℕ
value_text number = codes " = " ++ decimal number

-- where nothing is spelled
abbrev pub value_without_name : List ℕ → ℕ → List ℕ
value_without_name [] number = value_text number
value_without_name (byte ∷ bytes) number = []

-- a number that leads to the token with this index
abbrev pub leading_text : List Token → ℕ → List ℕ
leading_text tokens index = codes " -> " ++ line_and_column tokens index

-- a number that leads to a node leads to its token
abbrev pub node_text : List Token → Option (TreeNode NameId) → List ℕ
node_text tokens None = []
node_text tokens (Some node) = leading_text tokens node.token

-- a number that is 0, or the handle of a node and one
abbrev pub hidden_text : ShownUnit → ℕ → List ℕ
hidden_text shown zero = []
hidden_text shown (suc handle) = node_text shown.tokens (node_at shown.list handle)

-- what the number of a node of this kind is
abbrev pub number_use : NodeKind → NumberUse
number_use (kinds.IntegerConstant of_) = Own
number_use (kinds.CharacterConstant of_) = Own
number_use kinds.StringLiteral = Own
number_use kinds.AlignedAttribute = Own
number_use kinds.ContextStatement = Own
number_use kinds.AddressSpaceAttribute = OwnWithoutName
number_use kinds.StructSpecifier = OfToken
number_use kinds.UnionSpecifier = OfToken
number_use kinds.EnumSpecifier = OfToken
number_use kinds.AttributeList = OfToken
number_use kinds.CompoundStatement = OfToken
number_use kinds.DoStatement = OfToken
number_use kinds.TypedefName = OfNode
number_use kinds.Name = OfNode
number_use kinds.Enumerator = OfHidden
number_use kinds.Declarator = OfHidden
number_use kind = Nothing

-- the number of a node, which is this
abbrev pub number_used_so : NumberUse → ShownUnit → TreeNode NameId → List ℕ
number_used_so Nothing shown node = []
number_used_so Own shown node = value_text node.number
number_used_so OwnWithoutName shown node = value_without_name (text_of shown.names node.name) node.number
number_used_so OfToken shown node = leading_text shown.tokens node.number
number_used_so OfNode shown node = node_text shown.tokens (node_at shown.list node.number)
number_used_so OfHidden shown node = hidden_text shown node.number

abbrev pub number_shown : ShownUnit → TreeNode NameId → List ℕ
number_shown shown node = number_used_so (number_use node.kind) shown node

-- the line of a node that stands so deep, which is a part of this tag, or the root
abbrev pub node_line : ShownUnit → (depth : ℕ) → Option ℕ → TreeNode NameId → List ℕ
node_line shown depth tag node =
    indentation depth ++ tag_text tag ++ kind_text node.kind ++ codes " " ++ line_and_column shown.tokens node.token
    ++ name_text (text_of shown.names node.name) ++ number_shown shown node ++ codes "\n"

-- of the node with this handle, if there is one
abbrev pub line_of_node : ShownUnit → (depth : ℕ) → Option ℕ → Option (TreeNode NameId) → List ℕ
line_of_node shown depth tag None = []
line_of_node shown depth tag (Some node) = node_line shown depth tag node

abbrev pub handle_line : ShownUnit → (depth : ℕ) → Option ℕ → (handle : ℕ) → List ℕ
handle_line shown depth tag handle = line_of_node shown depth tag (node_at shown.list handle)
