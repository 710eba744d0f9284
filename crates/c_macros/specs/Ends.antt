-- What a fault says of an expansion.
use Rattle.std.specs.Prelude.{◌≡◌, ℕ, length, ⊤}
use Rattle.vocabulary.specs.declared.limit.LimitKind.{LimitKind}
use Rattle.vocabulary.specs.declared.limit.LimitKind.TheVariants.{MacroReplacements, MacroTokens}
use Rattle.meaning_macros.specs.Expansion as expansion
use Rattle.c_tokens.specs.Seen.{at_of}
use Rattle.c_macros.specs.declared.budget.Budget.{Budget}
use Rattle.c_macros.specs.declared.expand_fault.ExpandFault.{ExpandFault}
use Rattle.c_macros.specs.declared.expand_fault.ExpandFault.TheVariants.{Arguments, OpenCall, BadPaste, Limit, Memory}

-- the budget, as the definitions see it
abbrev pub budget_by : Budget → expansion.Budget
budget_by b = record { replacements = b.replacements; tokens = b.tokens; counter = b.counter }

-- the expansion ends so, behind so many tokens
abbrev pub EndsBehind : ℕ → expansion.End → expansion.Expanded → Type 0
EndsBehind before end e = (e.end ≡ end) × (length e.tokens ≡ before)

-- it passes this limit
abbrev pub Passes : ℕ → LimitKind → expansion.Expanded → Type 0
Passes before MacroReplacements e = EndsBehind before (expansion.Passed expansion.Replacements) e
Passes before MacroTokens e = EndsBehind before (expansion.Passed expansion.MadeTokens) e
Passes before limit e = ⊥

-- the expansion ends as the fault says; want of memory says nothing
abbrev pub Ends : ExpandFault → expansion.Expanded → Type 0
Ends (Arguments place before) e = EndsBehind before (expansion.Failed expansion.WrongArguments (at_of place)) e
Ends (OpenCall place before) e = EndsBehind before (expansion.Failed expansion.OpenCall (at_of place)) e
Ends (BadPaste place before) e = EndsBehind before (expansion.Failed expansion.BadPaste (at_of place)) e
Ends (Limit limit before) e = Passes before limit e
Ends Memory e = ⊤
