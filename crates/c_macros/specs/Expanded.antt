-- What is claimed of `expand`.
use Rattle.std.specs.Prelude.{◌≡◌, ℕ, List, [], ◌∷◌, map}
use Rattle.meaning_text.specs.Tokens.{Tok}
use Rattle.meaning_macros.specs.Hiding.{Hiding, hides_nothing}
use Rattle.meaning_macros.specs.Expansion as expansion
use Rattle.number_sets.specs.NumberSets as sets
use Rattle.c_tokens.specs.declared.token.Token.{Token}
use Rattle.c_tokens.specs.Seen.{toks_of}
use Rattle.c_macros.specs.declared.budget.Budget.{Budget}
use Rattle.c_macros.specs.declared.expand_fault.ExpandFault.{ExpandFault}
use Rattle.c_macros.specs.declared.item.Item.{Item}
use Rattle.c_macros.specs.Ends.{Ends, budget_by}
pub use Rattle.c_macros.specs.Seen.{KnowsAll}
use Rattle.c_macros.specs.Seen.{table_of}
use Rattle.c_macros.specs.Table.{Table}

-- the expansion of tokens, of which none hides a name, read through a table of names
abbrev pub expanded_of : List (List ℕ) → Table → Budget → List Token → expansion.Expanded
expanded_of names table budget tokens = expansion.expansion (table_of names table) (budget_by budget) (map hides_nothing (toks_of names tokens))

-- the token without what it hides
abbrev pub token_of : Hiding → Tok
token_of t = t.token

-- these are the tokens that it puts
abbrev pub TokensAreOf : List (List ℕ) → List Token → expansion.Expanded → Type 0
TokensAreOf names tokens e = toks_of names tokens ≡ map token_of e.tokens

-- it finishes, and leaves this
abbrev pub EndsWith : Budget → expansion.Expanded → Type 0
EndsWith left e = e.end ≡ expansion.Finished (budget_by left)

-- it ends as the fault says
abbrev pub FaultIsOf : ExpandFault → expansion.Expanded → Type 0
FaultIsOf fault e = Ends fault e

-- the sets of a new table: the empty one, and that of each number alone
abbrev pub no_sets : sets.Table
no_sets = sets.plain_sets

-- a token that hides no name
abbrev pub fresh_item : Token → Item
fresh_item token = record { token = token; hides = record { 0 = 0 } }
