-- What is asked of a type by what it is.
use Rattle.std.specs.Prelude.{Bool, false}
use Rattle.meaning_operands.specs.Operands.{is_unsigned_and_narrow}
use Rattle.c_types.specs.declared.outline.Outline.{Outline}
use Rattle.c_types.specs.declared.outline.Outline.TheVariants as outlines

-- `~` of a value is fouled
abbrev pub fouls_in : Outline → Bool
fouls_in (outlines.Restricted kind restrict) = is_unsigned_and_narrow kind
fouls_in outline = false
