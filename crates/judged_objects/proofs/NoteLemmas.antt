-- Notes of several declarations.
use Rattle.std.proofs.Common.{◌≡◌, Bool, true, false, ◌&&◌, ◌||◌, if◌then◌else◌, Option, Some, None, option_map, refl, sym, ap}
use Rattle.std.specs.Option.{option_or}
use Rattle.meaning_typing.specs.ContextSums.{ContextSums, option_sums}
use Rattle.control_flow.specs.declared.note.ContextNote.{ContextNote}
use Rattle.judged_objects.specs.declared.note.ObjectNote.{ObjectNote}
use Rattle.judged_objects.specs.Notes.{counts_noted, no_note, note_and, note_told, says_something}

or-none : (counts : Option ContextNote) → option_or counts None ≡ counts
or-none None = refl
or-none (Some counts) = refl

or-or : (one two three : Option ContextNote) → option_or (option_or one two) three ≡ option_or one (option_or two three)
or-or None two three = refl
or-or (Some one) two three = refl

pub or-false : (test : Bool) → test || false ≡ test
or-false true = refl
or-false false = refl

pub or-or-true : (one two three : Bool) → (one || two) || three ≡ one || (two || three)
or-or-true true two three = refl
or-or-true false two three = refl

pub and-none : (note : ObjectNote) → note_and note no_note ≡ note
and-none note = λ i. record { contexts = or-none note.contexts i; is_noreturn = or-false note.is_noreturn i }

pub and-and : (one two three : ObjectNote) → note_and (note_and one two) three ≡ note_and one (note_and two three)
and-and one two three =
    λ i. record {
      contexts = or-or one.contexts two.contexts three.contexts i;
      is_noreturn = or-or-true one.is_noreturn two.is_noreturn three.is_noreturn i;
    }

told-first : (first others : Option ContextSums) → option_map counts_noted (option_sums first others) ≡ option_or (option_map counts_noted first) (option_map counts_noted others)
told-first None others = refl
told-first (Some first) others = refl

-- what is told of one declaration and of others
pub told-and : (first others : Option ContextSums) (one more : Bool) → note_told (option_sums first others) (one || more) ≡ note_and (note_told first one) (note_told others more)
told-and first others one more = λ i. record { contexts = told-first first others i; is_noreturn = one || more }

-- who says nothing
pub says-nothing : (note : ObjectNote) → says_something note ≡ false → note ≡ no_note
says-nothing note nothing = by note.contexts note.is_noreturn nothing
  where
    by : (contexts : Option ContextNote) (is_noreturn : Bool) → says_something (record { contexts = contexts; is_noreturn = is_noreturn }) ≡ false
        → record { contexts = contexts; is_noreturn = is_noreturn } ≡ no_note
    by None false nothing = refl
    by None true nothing = absurd (cc nothing)
    by (Some contexts) is_noreturn nothing = absurd (cc nothing)

-- what a map has of a key, where one that says nothing isn't kept
pub found-unless : {X : Type 0} (same says : Bool) (one found : Option X) → says ≡ false → found ≡ (if same && says then one else found)
found-unless true says one found silent = ap (λ test. if test then one else found) (sym silent)
found-unless false says one found silent = refl

pub found-if : {X : Type 0} (same says : Bool) (one found : Option X) → says ≡ true → (if same then one else found) ≡ (if same && says then one else found)
found-if true says one found speaks = ap (λ test. if test then one else found) (sym speaks)
found-if false says one found speaks = refl
