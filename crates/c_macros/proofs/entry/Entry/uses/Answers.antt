use Rattle.std.proofs.Common.{◌∙◌, ap, sym, subst, Some, ◌<◌, length, slice_get}
use Rattle.meaning_macros.specs.Bodies.{chains}
use Rattle.c_macros.specs.Parameters.{params_in}
use Rattle.c_macros.specs.Seen.{macro_by}
use Rattle.c_macros.specs.Uses.{use_in}
use Rattle.c_macros.specs.declared.definition.Macro.{Macro}
use Rattle.c_macros.proofs.entry.Entry.uses.Goals as goal

pub returns : goal.returns
returns c = λ s apart k below.
    ap (λ uses. slice_get uses k) c.as_slice.ensures.value
    ∙ c.self.invariant.taken s apart k (subst (λ (m : Macro). k < length (params_in m.params)) (sym c.self.view_is) below)
    ∙ ap (λ m. Some (use_in k (chains (macro_by s m)))) c.self.view_is
