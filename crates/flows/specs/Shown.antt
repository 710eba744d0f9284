-- How an answer is shown, and what is told of a stop.
use Rattle.std.specs.Prelude.{ℕ, ℤ, List, ◌++◌, codes}
use Rattle.std.specs.Fmt.{decimal, signed_decimal}
use Rattle.control_flow.specs.declared.note.ContextAnswer.{ContextAnswer}
use Rattle.control_flow.specs.declared.note.ContextAnswer.TheVariants.{Balanced, Different, Below, WrongExit}
use Rattle.flows.specs.declared.command.Stop.{Stop}
use Rattle.flows.specs.declared.command.Stop.TheVariants as stops
use Rattle.flows.specs.declared.wrong.Place.{Place}
use Rattle.flows.specs.declared.wrong.Wrong.{Wrong}
use Rattle.flows.specs.declared.wrong.Wrong.TheVariants.{NoStep, NoNumber, LargeNumber, NoOpening, NoComma, NoClosing, NoEnd, NoCounts, NoPointFirst, NoSuchBlock, LargeSum}

abbrev pub shown_exit : ℕ → ℤ → List ℕ
shown_exit token found = codes "WrongExit(" ++ decimal token ++ codes ", " ++ signed_decimal found ++ codes ")\n"

abbrev pub shown_answer : ContextAnswer → List ℕ
shown_answer Balanced = codes "Balanced\n"
shown_answer (Different token) = codes "Different(" ++ decimal token ++ codes ")\n"
shown_answer (Below token) = codes "Below(" ++ decimal token ++ codes ")\n"
shown_answer (WrongExit token found) = shown_exit token found

abbrev pub wrong_text : Wrong → List ℕ
wrong_text NoStep = codes "a step or `-` is expected"
wrong_text NoNumber = codes "a number is expected"
wrong_text LargeNumber = codes "the number is too large"
wrong_text NoOpening = codes "`(` is expected"
wrong_text NoComma = codes "`,` is expected"
wrong_text NoClosing = codes "`)` is expected"
wrong_text NoEnd = codes "the end of the line is expected"
wrong_text NoCounts = codes "`>`, `|` or `;` is expected"
wrong_text NoPointFirst = codes "the block has steps and doesn't begin with a point"
wrong_text NoSuchBlock = codes "the block has a successor that is no block"
wrong_text LargeSum = codes "the numbers sum up to 2^63 or more"

-- a line and a column, and what is wrong there
abbrev pub shown_place : Place → List ℕ
shown_place place = codes ":" ++ decimal place.line ++ codes ":" ++ decimal place.column ++ codes ": " ++ wrong_text place.wrong

abbrev pub stop_text : Stop → List ℕ
stop_text (stops.Wrong place) = shown_place place
stop_text stops.NoFile = codes ": no such file, or more than 1073741824 bytes"
stop_text stops.ReadFault = codes ": reading failed"
stop_text stops.NoMemory = codes ": out of memory"
