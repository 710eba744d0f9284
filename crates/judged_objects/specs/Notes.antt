-- What is noted of an object or a function.
use Rattle.std.specs.Prelude.{ℕ, pos, Bool, true, false, ◌||◌, is_some, Option, Some, None, option_map}
use Rattle.std.specs.Option.{option_or}
use Rattle.meaning_typing.specs.ContextSums.{ContextSums, contexts_of}
use Rattle.meaning_typing.specs.Surroundings.{Surrounding}
use Rattle.meaning_typing.specs.Units.{UnitNodes}
use Rattle.meaning_objects.specs.Carried.{says_noreturn}
use Rattle.control_flow.specs.declared.note.ContextNote.{ContextNote}
use Rattle.judged_objects.specs.declared.note.ObjectNote.{ObjectNote}

abbrev pub counts_noted : ContextSums → ContextNote
counts_noted sums = record { enters = pos sums.enters; leaves = pos sums.leaves }

abbrev pub note_told : Option ContextSums → (is_noreturn : Bool) → ObjectNote
note_told contexts is_noreturn = record { contexts = option_map counts_noted contexts; is_noreturn = is_noreturn }

-- nothing
abbrev pub no_note : ObjectNote
no_note = record { contexts = None; is_noreturn = false }

abbrev pub says_something : ObjectNote → Bool
says_something note = is_some note.contexts || note.is_noreturn

-- of two declarations of one object the first contexts count, and `noreturn` of either
abbrev pub note_and : (earlier later : ObjectNote) → ObjectNote
note_and earlier later = record { contexts = option_or earlier.contexts later.contexts; is_noreturn = earlier.is_noreturn || later.is_noreturn }

abbrev pub note_if : Bool → ObjectNote → ObjectNote
note_if true note = note
note_if false note = no_note

abbrev pub note_or_none : Option ObjectNote → ObjectNote
note_or_none None = no_note
note_or_none (Some note) = note

-- what the declarator itself says that stands so
abbrev pub note_said : UnitNodes → (declarator : ℕ) → Surrounding → ObjectNote
note_said nodes declarator surrounding = note_told (contexts_of nodes declarator surrounding) (says_noreturn nodes declarator surrounding)
