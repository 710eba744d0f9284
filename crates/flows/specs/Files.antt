-- What is answered for a file.
use Rattle.std.specs.Prelude.{◌≡◌, ◌⊎◌, ℕ, ◌<◌, ◌^◌, Option, Some, None, IsSomeAnd, Result, Ok, Err, List, length}
use Rattle.flows.specs.declared.command.Stop.{Stop}
use Rattle.flows.specs.declared.command.Stop.TheVariants.{Wrong, NoFile, ReadFault, NoMemory}
use Rattle.flows.specs.Answers.{Shows}

-- What was found of a file is answered so behind what was shown before. Where reading failed nothing is shown, and want of memory
-- alone is free.
abbrev pub IsFileAnswered : (found : Option (List ℕ)) → (before after : List ℕ) → Result Unit Stop → Type 0
IsFileAnswered found before after (Ok done) = IsSomeAnd found (λ text. Shows 1 before text after None)
IsFileAnswered found before after (Err (Wrong place)) = IsSomeAnd found (λ text. Shows 1 before text after (Some place))
IsFileAnswered found before after (Err NoFile) = (after ≡ before) × ((found ≡ None) ⊎ IsSomeAnd found (λ text. 2 ^ 30 < length text))
IsFileAnswered found before after (Err ReadFault) = after ≡ before
IsFileAnswered found before after (Err NoMemory) = Unit {0}
