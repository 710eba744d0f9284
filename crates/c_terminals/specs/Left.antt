-- What is left of the tokens of a unit, of which the next two terminals are known.
use Rattle.std.specs.Prelude.{◌≡◌, ℕ, List, [], ◌∷◌, map, Option, Some, None}
use Rattle.std.specs.List.{All}
use Rattle.meaning_grammar.specs.Terminals.{terminals_from}
use Rattle.meaning_grammar.specs.Terminals as grammar
use Rattle.c_tokens.specs.Seen.{IsKnown, toks_of}
use Rattle.c_tokens.specs.declared.token.Token.{Token}
use Rattle.c_terminals.specs.Seen.{terminal_of, entry_seen, word_entry}
use Rattle.c_terminals.specs.declared.reading.Reading.{Reading}
use Rattle.c_terminals.specs.declared.terminal.Terminal.{Terminal}

-- the terminals that are left, and the spellings of their ids
pub record Left : Type 0 where
  pub names : List (List ℕ)
  pub terminals : List grammar.Terminal

-- a terminal in front of others, if there is one
abbrev pub in_front : List (List ℕ) → Option Terminal → List grammar.Terminal → List grammar.Terminal
in_front names None terminals = terminals
in_front names (Some terminal) terminals = terminal_of names terminal ∷ terminals

-- the terminals of tokens, of which the first has this index
abbrev pub terminals_at : List (List ℕ) → ℕ → List Token → List grammar.Terminal
terminals_at names index tokens = terminals_from index (toks_of names tokens)

-- each id is one of the table
abbrev pub AreKnown : List (List ℕ) → List Token → Type 0
AreKnown names tokens = All (λ (token : Token). IsKnown names token.name) tokens

abbrev pub IsKnownTerminal : List (List ℕ) → Option Terminal → Type 0
IsKnownTerminal names None = Unit {0}
IsKnownTerminal names (Some terminal) = IsKnown names terminal.name

-- where a terminal isn't there, none is behind it
abbrev pub IsFilled : (next behind : Option Terminal) → List Token → Type 0
IsFilled (Some next) (Some behind) tokens = Unit {0}
IsFilled (Some next) None tokens = tokens ≡ []
IsFilled None None tokens = tokens ≡ []
IsFilled None (Some behind) tokens = ⊥

pub record IsReader (names : List (List ℕ)) (words : List (Option Reading)) (tokens : List Token) (next behind : Option Terminal) : Type 0 where
  pub words_read : map entry_seen words ≡ map word_entry names
  pub tokens_known : AreKnown names tokens
  pub next_known : IsKnownTerminal names next
  pub behind_known : IsKnownTerminal names behind
  pub filled : IsFilled next behind tokens
