-- What a command writes, and how it ends.
use Rattle.std.specs.Prelude.{◌≡◌, ℕ, List, [], ◌++◌, codes}

-- how a command ends
pub data Ending : Type 0 where
  -- no rule fails
  Clean : Ending
  -- a rule fails
  Warned : Ending
  -- the file can't be checked
  Refused : Ending
  -- the words are at fault
  Usage : Ending
  -- a load failed
  ReadFault : Ending
  -- a write failed
  WriteFault : Ending
  -- memory was wanting
  NoMemory : Ending
  -- a counted quantity passed its number
  Limit : Ending

-- the status with which the program ends
abbrev pub status_of : Ending → ℕ
status_of Clean = 0
status_of Warned = 1
status_of Refused = 2
status_of Usage = 3
status_of ReadFault = 4
status_of WriteFault = 5
status_of NoMemory = 6
status_of Limit = 7

-- the texts that are written to both outputs, and how the command ends
pub record Reply : Type 0 where
  pub out : List ℕ
  pub err : List ℕ
  pub ending : Ending

-- nothing is written, and the ending is clean
abbrev pub silence : Reply
silence = record { out = []; err = []; ending = Clean }

-- one line on err
abbrev pub line : Ending → List ℕ → Reply
line ending text = record { out = []; err = text ++ codes "\n"; ending = ending }

-- a text and one new-line behind it
abbrev pub IsLine : List ℕ → Type 0
IsLine err = (text : List ℕ) × (err ≡ text ++ codes "\n")
