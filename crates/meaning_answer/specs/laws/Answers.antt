-- What the sinks of a command have taken, and how names are spelled.
use Rattle.std.specs.Prelude.{◌≡◌, ℕ, true, List, [], ◌++◌}
use Rattle.std.specs.List.{list_any}
use Rattle.std.specs.Str.{bytes_eq}
use Rattle.meaning_outside.specs.Files.{FileMap}
use Rattle.meaning_outside.specs.Loads.{Loaded, AgreesWith}
use Rattle.meaning_unit_nodes.specs.Numbered.{number_told, spellings_told}
use Rattle.meaning_answer.specs.Reply.{Ending, Clean, Warned, Refused, Usage, ReadFault, WriteFault, NoMemory, Limit}
use Rattle.meaning_answer.specs.Requests.{Request, BadWord, MissingFile, Check, Expand, request_of}
use Rattle.meaning_answer.specs.Shapes.{HasShapeFor}
use Rattle.meaning_answer.specs.Units.{ParsedUnit, name_in}
use Rattle.meaning_answer.specs.Answers.{IsAnswer}
use Rattle.meaning_answer.specs.Delivery.{Sinks, Outcome, IsOutcome, GrewAlike}

-- What the sinks have taken, by what was asked and by the ending alone

-- nothing where memory is wanting and where a file can't be read; else what the ending says, and where a write
-- fails a front of what some ending says
abbrev pub HasWritten : Request → Ending → (out err : List ℕ) → Type 0
HasWritten request NoMemory out err = (out ≡ []) × (err ≡ [])
HasWritten request ReadFault out err = (out ≡ []) × (err ≡ [])
HasWritten request WriteFault out err =
    (ending : Ending) × (rest_out : List ℕ) × (rest_err : List ℕ) × HasShapeFor request ending (out ++ rest_out) (err ++ rest_err)
HasWritten request Clean out err = HasShapeFor request Clean out err
HasWritten request Warned out err = HasShapeFor request Warned out err
HasWritten request Refused out err = HasShapeFor request Refused out err
HasWritten request Usage out err = HasShapeFor request Usage out err
HasWritten request Limit out err = HasShapeFor request Limit out err

-- whatever the files hold
abbrev pub EndingsTellWhatIsWritten : Type 0
EndingsTellWhatIsWritten =
    (words : List (List ℕ)) (files : FileMap) (ending : Ending) (sinks : Sinks) → Outcome (IsAnswer words files) ending sinks
    → (out : List ℕ) × (err : List ℕ) × (sinks.new_out ≡ sinks.old_out ++ out) × (sinks.new_err ≡ sinks.old_err ++ err)
    × HasWritten (request_of words) ending out err

-- nothing goes to `out` but tokens that were asked for
abbrev pub KeepsOut : Request → Sinks → Type 0
KeepsOut (BadWord position word) sinks = sinks.new_out ≡ sinks.old_out
KeepsOut MissingFile sinks = sinks.new_out ≡ sinks.old_out
KeepsOut (Check options path) sinks = sinks.new_out ≡ sinks.old_out
KeepsOut (Expand options path) sinks = Unit {0}

abbrev pub TokensAloneGoOut : Type 0
TokensAloneGoOut =
    (words : List (List ℕ)) (files : FileMap) (ending : Ending) (sinks : Sinks) → Outcome (IsAnswer words files) ending sinks
    → KeepsOut (request_of words) sinks

-- What files and sinks tell of themselves

-- Where the files tell a map, which agrees with the loads, and the sinks tell what they hold, which grew by what
-- they took, the outcome is said of what they tell.
abbrev pub OutcomesAreTold : Type 0
OutcomesAreTold =
    (words : List (List ℕ)) (files : FileMap) (loads : List Loaded) (ending : Ending) (told taken : Sinks) → AgreesWith files loads
    → GrewAlike told.old_out told.new_out taken.old_out taken.new_out → GrewAlike told.old_err told.new_err taken.old_err taken.new_err
    → IsOutcome words loads ending taken → Outcome (IsAnswer words files) ending told

-- Names

-- a name that is judged as the number of a spelling of the unit's tokens is told as that spelling
abbrev pub NamesAreSpelledBack : Type 0
NamesAreSpelledBack =
    (unit : ParsedUnit) (spelling : List ℕ) → list_any (bytes_eq spelling) (spellings_told unit.tokens) ≡ true
    → name_in unit (number_told (spellings_told unit.tokens) spelling) ≡ spelling
