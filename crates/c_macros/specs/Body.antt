-- What the table keeps of a body.
use Rattle.std.specs.Prelude.{◌≡◌, ◌<◌, ℕ, Some, length, map, slice_get}
use Rattle.meaning_macros.specs.Bodies.{chains}
use Rattle.c_macros.specs.declared.definition.Macro.{Macro}
use Rattle.c_macros.specs.declared.body.Body.{Body}
use Rattle.c_macros.specs.Operands.{grouped, part_by}
use Rattle.c_macros.specs.Parameters.{params_in}
use Rattle.c_macros.specs.Seen.{KeepsApart, Spelling, macro_by}
use Rattle.c_macros.specs.Uses.{use_in}

-- The body is that of the macro, however its ids are spelled, if different ones are spelled differently.
pub record ReadsBody (m : Macro) (body : Body) : Type 0 where
  -- its operands are the chains
  pub operands : (s : Spelling) → KeepsApart s → grouped (map (part_by s) body.parts.items) ≡ chains (macro_by s m)
  -- how they take the argument of each parameter
  pub taken : (s : Spelling) → KeepsApart s → (k : ℕ) → k < length (params_in m.params) → slice_get body.uses.items k ≡ Some (use_in k (chains (macro_by s m)))
