-- What is asked of a type by what it is.
use Rattle.std.specs.Prelude.{Bool, true, false}
use Rattle.c_types.specs.declared.outline.Outline.{Outline}
use Rattle.c_types.specs.declared.outline.Outline.TheVariants as outlines

abbrev pub is_integer_outline : Outline → Bool
is_integer_outline (outlines.Integer kind) = true
is_integer_outline outline = false

abbrev pub is_array_outline : Outline → Bool
is_array_outline outlines.Array = true
is_array_outline outline = false

abbrev pub is_function_outline : Outline → Bool
is_function_outline outlines.Function = true
is_function_outline outline = false
