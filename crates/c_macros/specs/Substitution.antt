-- What a substitution answers.
use Rattle.std.specs.Prelude.{◌≡◌, ◌<◌, ◌≤◌, ℕ, List, [], Result, Ok, Err, ⊤, All}
use Rattle.meaning_macros.specs.Substitution.{Substituted, WholeBody, BrokenBehind, count_of}
use Rattle.c_tokens.specs.Seen.{IsKnown}
use Rattle.c_macros.specs.Laid.{LaidItems, Lays, parts_before}
use Rattle.c_macros.specs.Reading.{Reading}
use Rattle.c_macros.specs.declared.laid.Laid.{Laid}
use Rattle.c_macros.specs.declared.operand.Operand.{Operand}
use Rattle.c_macros.specs.declared.operand.Operand.TheVariants.{Own, Argument, Stringized, CommaAndRest}
use Rattle.c_macros.specs.declared.operand.Part.{Part}
use Rattle.c_macros.specs.declared.substitution.SubstitutionFault.{SubstitutionFault}
use Rattle.c_macros.specs.declared.substitution.SubstitutionFault.TheVariants.{BadPaste, TooMany, Memory}

-- how many tokens are made, up to a bad `##` or in all
abbrev pub made_in : Substituted → ℕ
made_in (WholeBody parts) = count_of parts
made_in (BrokenBehind count) = count

-- what a refusal says, where so many tokens may be made at most: too many go before a bad `##` behind them
abbrev pub Refuses : ℕ → SubstitutionFault → Substituted → Type 0
Refuses most BadPaste found = (count : ℕ) × (found ≡ BrokenBehind count) × (count ≤ most)
Refuses most TooMany found = most < made_in found
Refuses most Memory found = ⊤

-- the vectors hold the whole body, of which so many tokens are made
pub record IsWhole (r : Reading) (most : ℕ) (laid : Laid) (found : Substituted) : Type 0 where
  pub parts : List LaidItems
  pub lays : Lays laid parts
  pub whole : found ≡ WholeBody (parts_before r parts [])
  pub count : count_of (parts_before r parts []) ≤ most

-- the answer is that of the body
abbrev pub Answers : Reading → ℕ → Laid → Result Unit SubstitutionFault → Substituted → Type 0
Answers r most laid (Ok done) found = IsWhole r most laid found
Answers r most laid (Err fault) found = Refuses most fault found

-- each id of the operand is one of the table
abbrev pub IsKnownOperand : List (List ℕ) → Operand → Type 0
IsKnownOperand names (Own token) = IsKnown names token.name
IsKnownOperand names (Argument space parameter) = ⊤
IsKnownOperand names (Stringized space parameter) = ⊤
IsKnownOperand names (CommaAndRest comma space parameter) = IsKnown names comma.name

-- each id of the operands is one of the table
abbrev pub AreKnownParts : List (List ℕ) → List Part → Type 0
AreKnownParts names parts = All (λ (part : Part). IsKnownOperand names part.operand) parts
