-- What the texts of a reply do to sinks that may fail.
use Rattle.std.specs.Prelude.{◌≡◌, ◌⊎◌, ℕ, List, ◌++◌, Option, None, Some}
use Rattle.meaning_answer.specs.Reply.{Reply}
use Rattle.meaning_answer.specs.Delivery.{Sinks, GrewAlike}

-- a front of the text was taken
abbrev pub TakesFront : (old new text : List ℕ) → Type 0
TakesFront old new text = (front : List ℕ) × (back : List ℕ) × (text ≡ front ++ back) × (new ≡ old ++ front)

-- nothing went to `err`, or else all that goes to `out` went in
abbrev pub GoesOutFirst : Reply → Sinks → Type 0
GoesOutFirst reply sinks = (sinks.new_err ≡ sinks.old_err) ⊎ (sinks.new_out ≡ sinks.old_out ++ reply.out)

-- Where a sink tells what was written, that grew by what it took.
abbrev pub TellsWhatItTook : (old new : Option (List ℕ)) (old_taken new_taken : List ℕ) → Type 0
TellsWhatItTook None new old_taken new_taken = Unit {0}
TellsWhatItTook (Some old) None old_taken new_taken = ⊥
TellsWhatItTook (Some old) (Some new) old_taken new_taken = GrewAlike old new old_taken new_taken
