-- Where a fault of a run is told.
use Rattle.std.specs.Prelude.{ℕ, List, [], ◌∷◌}
use Rattle.sparse_model.specs.declared.place.Place.{Place}
use Rattle.c_macros.specs.declared.front.Front.{Front}
use Rattle.vocabulary.specs.declared.limit.LimitKind.TheVariants.{MacroTokens}
use Rattle.c_macros.specs.declared.expand_fault.ExpandFault.{ExpandFault}
use Rattle.c_macros.specs.declared.expand_fault.ExpandFault.TheVariants as faults
use Rattle.c_macros.specs.declared.run.Call.{Call}
use Rattle.c_macros.specs.declared.substitution.SubstitutionFault.{SubstitutionFault}
use Rattle.c_macros.specs.declared.substitution.SubstitutionFault.TheVariants.{BadPaste, TooMany, Memory}

-- the front of the outermost call, or this one
abbrev pub front_of : List Call → Place → ℕ → Front
front_of [] place before = record { place = place; before = before }
front_of (call ∷ calls) place before = record { place = call.name.token.place; before = call.first_put }

-- what a failed substitution says there
abbrev pub told_by : SubstitutionFault → Front → ExpandFault
told_by BadPaste front = faults.BadPaste front.place front.before
told_by TooMany front = faults.Limit MacroTokens front.before
told_by Memory front = faults.Memory
