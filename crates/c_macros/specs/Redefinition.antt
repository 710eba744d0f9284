-- A second definition of a name (C11 6.10.3 p1, p2).
use Rattle.std.specs.Prelude.{Bool, false, not, Option, Some, None}
use Rattle.meaning_macros.specs.Agreement.{agree}
use Rattle.c_macros.specs.declared.definition.Macro.{Macro}
use Rattle.c_macros.specs.Seen.{by_ids}

-- the macro that a name has after a second definition that agrees: the one that it had
abbrev pub defined_as : Option Macro → Macro → Macro
defined_as None m = m
defined_as (Some old) m = old

-- the name has a macro already, and this is another one (6.10.3 p1, p2)
abbrev pub redefines : Option Macro → Macro → Bool
redefines None m = false
redefines (Some old) m = not (agree (by_ids old) (by_ids m))
