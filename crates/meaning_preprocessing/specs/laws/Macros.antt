-- What holds of each definition.
use Rattle.std.specs.Prelude.{◌≡◌, List, Ok}
use Rattle.meaning_text.specs.Tokens.{Tok}
use Rattle.meaning_macros.specs.Macros.{Definition}
use Rattle.meaning_macros.specs.WellFormed.{IsWellFormed}
use Rattle.meaning_preprocessing.specs.DefinitionLines.{definition_behind}

-- the macro of each line is well formed
abbrev pub DefinitionsAreWellFormed : Type 0
DefinitionsAreWellFormed = (tokens : List Tok) (definition : Definition) → definition_behind tokens ≡ Ok definition → IsWellFormed definition.macro
