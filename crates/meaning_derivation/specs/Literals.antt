-- The nodes of literals, with the kinds and numbers of their values, and what is told of one without a value (C11 6.4.4, 6.4.5).
use Rattle.std.specs.Prelude.{ℕ, ◌+◌, List, [], Option, Some, None, Result, Ok, Err, length}
use Rattle.vocabulary.specs.declared.error_kind.ErrorKind.{ErrorKind}
use Rattle.vocabulary.specs.declared.error_kind.ErrorKind.TheVariants as errors
use Rattle.vocabulary.specs.declared.int_kind.IntKind.{IntKind}
use Rattle.vocabulary.specs.declared.node_kind.NodeKind.{NodeKind}
use Rattle.vocabulary.specs.declared.node_kind.NodeKind.TheVariants as kinds
use Rattle.meaning_literals.specs.Constants.{Constant, Fault, BadDigitFault, BadSuffixFault, TooBigFault, FloatingFault, BadEscapeFault, EmptyFault, WideFault, UniversalFault}
use Rattle.meaning_literals.specs.Quoted.{string_of}
use Rattle.meaning_tree.specs.Trees.{SyntaxTree, Node, Parts, NoParts, Part}
use Rattle.meaning_derivation.specs.Values.{Value, token_of, parts_of}
use Rattle.meaning_derivation.specs.State.{State, IsError, ActionOutcome, Refuses, made}

-- What is told of a literal without a value. One that isn't supported is told before its action is done.
abbrev pub error_of : Fault → ErrorKind
error_of BadDigitFault = errors.BadNumber
error_of BadSuffixFault = errors.BadNumber
error_of TooBigFault = errors.NumberTooLarge
error_of FloatingFault = errors.FloatingType
error_of BadEscapeFault = errors.BadEscape
error_of EmptyFault = errors.EmptyCharacterConstant
error_of WideFault = errors.WideOrUtfLiteral
error_of UniversalFault = errors.UniversalCharacterName

-- Constants

-- a constant at a word, whose kind goes into the node's
abbrev pub constant_tree : (IntKind → NodeKind) → (word : Value) → Constant → SyntaxTree
constant_tree kind_of word constant = Node (kind_of constant.kind) (token_of word) [] constant.bits NoParts

-- its node in the place of the word
abbrev pub constant_made : State → (IntKind → NodeKind) → (word : Value) → Result Constant Fault → ActionOutcome
constant_made s kind_of word (Ok constant) = made s 1 (constant_tree kind_of word constant)
constant_made s kind_of word (Err fault) = Refuses (IsError (error_of fault)) (token_of word)

-- String literals beside each other

-- a literal that is refused, and the token at which it stands
pub record BadLiteral : Type 0 where
  pub kind : ErrorKind
  pub token : ℕ

-- the literal at this token, if it is bad, else what is bad behind it
abbrev pub first_bad : {A : Type 0} → Result A Fault → (token : ℕ) → (behind : Option BadLiteral) → Option BadLiteral
first_bad (Ok value) token behind = behind
first_bad (Err fault) token behind = Some (record { kind = error_of fault; token = token })

-- the first of these that has no value
abbrev pub bad_piece : Parts (List ℕ) → Option BadLiteral
bad_piece NoParts = None
bad_piece (Part role (Node kind token name number parts) others) = first_bad (string_of name) token (bad_piece others)

abbrev pub piece_length : Result (List ℕ) Fault → ℕ
piece_length (Ok bytes) = length bytes
piece_length (Err fault) = 0

-- the bytes of string literals one behind the other, without the last zero
abbrev pub pieces_length : Parts (List ℕ) → ℕ
pieces_length NoParts = 0
pieces_length (Part role (Node kind token name number parts) others) = piece_length (string_of name) + pieces_length others

-- the node of a list of literals in the place of it and of the word below, whose number counts the last zero too
abbrev pub string_made : State → (word list : Value) → Option BadLiteral → ActionOutcome
string_made s word list None =
    made s 2 (Node kinds.StringLiteral (token_of word) [] (pieces_length (parts_of list) + 1) (parts_of list))
string_made s word list (Some bad) = Refuses (IsError bad.kind) bad.token
