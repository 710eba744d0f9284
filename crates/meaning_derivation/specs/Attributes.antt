-- Attribute lists: what their words mean, and where one is bad. They are no part of C11.
use Rattle.std.specs.Prelude.{ℕ, ◌+◌, ◌-◌, List, [], ◌∷◌, take, drop, reverse, Option, Some, None, Result, Ok, Err}
use Rattle.vocabulary.specs.declared.error_kind.ErrorKind.TheVariants.{BadAttribute}
use Rattle.vocabulary.specs.declared.limit.LimitKind.TheVariants.{ContextStep}
use Rattle.vocabulary.specs.declared.role.Role.TheVariants.{TypePart}
use Rattle.vocabulary.specs.declared.node_kind.NodeKind.{NodeKind}
use Rattle.vocabulary.specs.declared.node_kind.NodeKind.TheVariants as kinds
use Rattle.meaning_text.specs.Tokens.{Tok}
use Rattle.meaning_types.specs.Types.{Space, NoSpace, NumberedSpace, NamedSpace}
use Rattle.meaning_attributes.specs.Pieces.{in_parentheses, length_to_inside}
use Rattle.meaning_attributes.specs.Integers.{PlacedConstant, constants_from}
use Rattle.meaning_attributes.specs.Words.{Flag, NoderefFlag, BitwiseFlag, ForceFlag, PackedFlag, NoreturnFlag}
use Rattle.meaning_attributes.specs.Attributes.{Attributes, Attribute, HasSpace, HasContext, HasAlign, HasFlag}
use Rattle.meaning_attributes.specs.Reading.{Refusal, HasBad, HasLimit}
use Rattle.meaning_tree.specs.Trees.{SyntaxTree, Node, NoParts, Part}
use Rattle.meaning_derivation.specs.Values.{Value, token_of, parts_of, value_at, plain_tree}
use Rattle.meaning_derivation.specs.Lists.{appended}
use Rattle.meaning_derivation.specs.State.{State, IsError, PassesLimit, ActionOutcome, Goes, Refuses, with_values, with_value, made}

-- the tokens of the unit from that of a word up to that of the next terminal
abbrev pub tokens_from : State → (word : Value) → List Tok
tokens_from s word = take (s.next_token - token_of word) (drop (token_of word) s.tokens)

-- Lists

-- the tokens between the double parentheses behind a word
abbrev pub listed_tokens : State → (word : Value) → List Tok
listed_tokens s word = in_parentheses (in_parentheses (tokens_from s word))

-- the index of the first of them
abbrev pub list_start : State → (word : Value) → ℕ
list_start s word = token_of word + length_to_inside (tokens_from s word) + length_to_inside (in_parentheses (tokens_from s word))

-- what is told of a list at this token, whose first token has this index
abbrev pub list_refused : (token start : ℕ) → Refusal → ActionOutcome
list_refused token start (HasBad bad index) = Refuses (IsError BadAttribute) (start + index)
list_refused token start HasLimit = Refuses (PassesLimit ContextStep) token

-- the node of a list in the place of it and of the word below
abbrev pub attributes_made : State → (word list : Value) → Result Attributes Refusal → ActionOutcome
attributes_made s word list (Ok attributes) = made s 2 (Node kinds.AttributeList (token_of word) [] s.next_token (parts_of list))
attributes_made s word list (Err refusal) = list_refused (token_of word) (list_start s word) refusal

-- Attributes

abbrev pub kind_of_flag : Flag → NodeKind
kind_of_flag NoderefFlag = kinds.NoderefAttribute
kind_of_flag BitwiseFlag = kinds.BitwiseAttribute
kind_of_flag ForceFlag = kinds.ForceAttribute
kind_of_flag PackedFlag = kinds.PackedAttribute
kind_of_flag NoreturnFlag = kinds.NoreturnAttribute

-- a space has its name, or its number
abbrev pub space_tree : (token : ℕ) → Space → SyntaxTree
space_tree token NoSpace = Node kinds.AddressSpaceAttribute token [] 0 NoParts
space_tree token (NumberedSpace number) = Node kinds.AddressSpaceAttribute token [] number NoParts
space_tree token (NamedSpace name) = Node kinds.AddressSpaceAttribute token name 0 NoParts

abbrev pub constant_at : PlacedConstant → SyntaxTree
constant_at placed = Node (kinds.IntegerConstant placed.constant.kind) placed.index [] placed.constant.bits NoParts

-- a context has two numbers
abbrev pub context_tree : (token : ℕ) → (enters leaves : SyntaxTree) → SyntaxTree
context_tree token enters leaves = Node kinds.ContextAttribute token [] 0 (Part TypePart enters (Part TypePart leaves NoParts))

-- a step, and behind it another one
abbrev pub and_then : ActionOutcome → (State → ActionOutcome) → ActionOutcome
and_then (Goes s) step = step s
and_then (Refuses fault stands) step = Refuses fault stands

-- the tree on top at the end of the list below it
abbrev pub tree_appended : State → ActionOutcome
tree_appended s = Goes (with_value s 2 (appended TypePart (value_at s.values 1) (value_at s.values 0)))

-- a node in the place of so many values, at the end of the list below them
abbrev pub attribute_appended : State → (count : ℕ) → SyntaxTree → ActionOutcome
attribute_appended s count tree = and_then (made s count tree) tree_appended

-- the word on top goes
abbrev pub word_dropped : State → ActionOutcome
word_dropped s = Goes (with_values s (drop 1 s.values))

-- The nodes of a context's numbers, and then its own. They are the last two constants of its item.
abbrev pub context_appended : State → (word : Value) → (constants_from_the_last : List PlacedConstant) → ActionOutcome
context_appended s word (leaves ∷ enters ∷ others) =
    and_then (made s 0 (constant_at enters)) (λ one.
    and_then (made one 0 (constant_at leaves)) (λ two.
    attribute_appended two 3 (context_tree (token_of word) (constant_at enters) (constant_at leaves))))
context_appended s word (only ∷ []) = word_dropped s
context_appended s word [] = word_dropped s

-- the node of what a word's item means in its place, at the end of the list below it, if that is something
abbrev pub item_appended : State → (word : Value) → Option Attribute → ActionOutcome
item_appended s word None = word_dropped s
item_appended s word (Some (HasSpace space)) = attribute_appended s 1 (space_tree (token_of word) space)
item_appended s word (Some (HasAlign align)) = attribute_appended s 1 (Node kinds.AlignedAttribute (token_of word) [] align NoParts)
item_appended s word (Some (HasFlag flag)) = attribute_appended s 1 (plain_tree (kind_of_flag flag) (token_of word) NoParts)
item_appended s word (Some (HasContext context)) = context_appended s word (reverse (constants_from (token_of word) (tokens_from s word)))
