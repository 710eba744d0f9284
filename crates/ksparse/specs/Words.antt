-- What the words of a command are read as.
use Rattle.std.specs.Prelude.{◌≡◌, ◌≢◌, ℕ, List, [], ◌∷◌, Some, slice_get}
use Rattle.vocabulary.specs.declared.class.Class.{Class}
use Rattle.sparse_model.specs.declared.options.Options.{Options}
use Rattle.meaning_answer.specs.Requests as request
use Rattle.ksparse.specs.declared.command.Command.{Command}
use Rattle.ksparse.specs.declared.command.Command.TheVariants as commands
use Rattle.ksparse.specs.declared.command.WordFault.{WordFault}
use Rattle.ksparse.specs.declared.command.WordFault.TheVariants as faults

-- the class isn't in the list
abbrev pub IsNotAmong : Class → List Class → Type 0
IsNotAmong class_ [] = Unit {0}
IsNotAmong class_ (other ∷ others) = (other ≢ class_) × IsNotAmong class_ others

-- no class stands twice in the list
abbrev pub EachStandsOnce : List Class → Type 0
EachStandsOnce [] = Unit {0}
EachStandsOnce (class_ ∷ classes) = IsNotAmong class_ classes × EachStandsOnce classes

-- what the options set
abbrev pub options_seen : Options → request.Options
options_seen options =
    record { preprocessing = record { directories = options.dirs; command = options.commands }; classes = options.classes }

-- what the command is asked for
abbrev pub request_seen : Command → request.Request
request_seen (commands.Check options file) = request.Check (options_seen options) file
request_seen (commands.Expand options file) = request.Expand (options_seen options) file

-- the options that the command has
abbrev pub options_in : Command → Options
options_in (commands.Check options file) = options
options_in (commands.Expand options file) = options

-- the words are at this fault
abbrev pub IsFaultOf : List (List ℕ) → WordFault → Type 0
IsFaultOf words (faults.BadWord position) =
    (word : List ℕ) × (request.request_of words ≡ request.BadWord position word) × (slice_get words position ≡ Some word)
IsFaultOf words faults.MissingFile = request.request_of words ≡ request.MissingFile
IsFaultOf words faults.Memory = Unit {0}
