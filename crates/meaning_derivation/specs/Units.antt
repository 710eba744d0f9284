-- The outcome of a unit: the tree that its tokens derive, or what is told of it.
use Rattle.std.specs.Prelude.{◌≡◌, ℕ, List, [], ◌∷◌}
use Rattle.vocabulary.specs.declared.action.Action.{Action}
use Rattle.meaning_text.specs.Tokens.{Tok}
use Rattle.meaning_tree.specs.Trees.{SyntaxTree}
use Rattle.meaning_grammar.specs.Productions.{start}
use Rattle.meaning_grammar.specs.Terminals.{terminals}
use Rattle.meaning_derivation.specs.Values.{TreeValue}
use Rattle.meaning_derivation.specs.State.{State, state_at_start, Fault, ActionOutcome, Outcome, Done, Fails}
use Rattle.meaning_derivation.specs.Derivation.{DerivesAll}

-- before the first token of a unit
abbrev pub state_before : List Tok → State
state_before tokens = state_at_start tokens (terminals tokens)

-- what comes of the tokens of a unit
abbrev pub HasOutcome : (Action → State → ActionOutcome) → List Tok → Outcome → Type 0
HasOutcome act tokens outcome = DerivesAll act start 0 (state_before tokens) (terminals tokens) outcome

-- they derive this tree
abbrev pub DerivesTree : (Action → State → ActionOutcome) → List Tok → SyntaxTree → Type 0
DerivesTree act tokens tree = (last : State) × HasOutcome act tokens (Done last []) × (last.values ≡ TreeValue tree ∷ [])

-- they are refused for this, which stands at this token, or behind the last one where the file ends too early
abbrev pub IsRefused : (Action → State → ActionOutcome) → List Tok → Fault → ℕ → Type 0
IsRefused act tokens fault stands = (decided : ℕ) × HasOutcome act tokens (Fails fault decided stands)
