use Rattle.std.proofs.Common.{◌∙◌, ◌-◌, sym, ap, List, length, slice_get, option_copied}
use Rattle.c_macros.specs.declared.laid.LaidEnd.{LaidEnd}
use Rattle.c_macros.proofs.LayLemmas.{end-is, end-none}
use Rattle.c_macros.proofs.lay.end_of.Goals as goal

pub returns-in-Some : goal.returns-in-Some
returns-in-Some c = λ parts is.
    end-is parts c.in-Some.part.now (sym (ap option_copied c.in-Some.is) ∙ c.last.ensures.value ∙ ap (λ (ends : List LaidEnd). slice_get ends (length ends - 1)) (c.deref.ensures.value ∙ is))

pub returns-in-None : goal.returns-in-None
returns-in-None c = λ parts is.
    end-none parts (sym (ap option_copied c.in-None.is) ∙ c.last.ensures.value ∙ ap (λ (ends : List LaidEnd). slice_get ends (length ends - 1)) (c.deref.ensures.value ∙ is))
