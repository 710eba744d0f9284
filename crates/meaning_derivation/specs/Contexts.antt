-- Context statements, each with the change that it makes to a count. They are no part of C11.
use Rattle.std.specs.Prelude.{ℕ, ◌+◌, ◌^◌, ℤ, pos, unsigned_abs, List, [], drop, Result, Ok, Err}
use Rattle.std.specs.Int.{int_rem_euclid}
use Rattle.vocabulary.specs.declared.error_kind.ErrorKind.TheVariants.{BadAttribute}
use Rattle.vocabulary.specs.declared.limit.LimitKind.TheVariants.{ContextStep}
use Rattle.vocabulary.specs.declared.node_kind.NodeKind.TheVariants as kinds
use Rattle.meaning_text.specs.Tokens.{Tok}
use Rattle.meaning_attributes.specs.Contexts.{ChangeFault, BadChange, ChangePassesLimit}
use Rattle.meaning_tree.specs.Trees.{SyntaxTree, Node, NoParts}
use Rattle.meaning_derivation.specs.Values.{Value, token_of}
use Rattle.meaning_derivation.specs.State.{State, IsError, PassesLimit, ActionOutcome, Refuses, made}

-- the tokens of the unit behind that of a word
abbrev pub tokens_behind : State → (word : Value) → List Tok
tokens_behind s word = drop (token_of word + 1) s.tokens

-- a change as the number of a node: modulo 2^64
abbrev pub change_bits : ℤ → ℕ
change_bits change = unsigned_abs (int_rem_euclid change (pos (2 ^ 64)))

abbrev pub context_tree : (word : Value) → ℤ → SyntaxTree
context_tree word change = Node kinds.ContextStatement (token_of word) [] (change_bits change) NoParts

-- the statement in the place of its word, or what is told at the word
abbrev pub context_made : State → (word : Value) → Result ℤ ChangeFault → ActionOutcome
context_made s word (Ok change) = made s 1 (context_tree word change)
context_made s word (Err BadChange) = Refuses (IsError BadAttribute) (token_of word)
context_made s word (Err ChangePassesLimit) = Refuses (PassesLimit ContextStep) (token_of word)
