-- What holds of the answer to each command.
use Rattle.std.specs.Prelude.{◌≡◌, ℕ, List, Some}
use Rattle.meaning_outside.specs.Files.{FileMap}
use Rattle.meaning_answer.specs.Reply.{Reply}
use Rattle.meaning_answer.specs.Requests.{Request, BadWord, MissingFile, Check, Expand, request_of}
use Rattle.meaning_answer.specs.Lines.{bad_word_reply, missing_file_reply}
use Rattle.meaning_answer.specs.Shapes.{IsShapedFor}
use Rattle.meaning_answer.specs.Answers.{IsAnswer}
use Rattle.meaning_answer.specs.plain.Replying.{reply_to}

-- there is an answer
abbrev pub AnswersExist : Type 0
AnswersExist = (words : List (List ℕ)) (files : FileMap) → (reply : Reply) × IsAnswer words files reply

-- and no other
abbrev pub AnswersAreUnique : Type 0
AnswersAreUnique =
    (words : List (List ℕ)) (files : FileMap) (first second : Reply) → IsAnswer words files first → IsAnswer words files second → first ≡ second

-- what the plain program answers is it
abbrev pub PlainAnswersAreRight : Type 0
PlainAnswersAreRight = (depth : ℕ) (words : List (List ℕ)) (files : FileMap) (reply : Reply) → reply_to depth words files ≡ Some reply → IsAnswer words files reply

-- each answer has the shape of what was asked and of its ending: a usage line stands exactly where the words are
-- at fault
abbrev pub AnswersAreShaped : Type 0
AnswersAreShaped = (words : List (List ℕ)) (files : FileMap) (reply : Reply) → IsAnswer words files reply → IsShapedFor (request_of words) reply

-- words at fault are told whatever the files hold
abbrev pub TellsFault : Request → Reply → Type 0
TellsFault (BadWord position word) reply = reply ≡ bad_word_reply word
TellsFault MissingFile reply = reply ≡ missing_file_reply
TellsFault (Check options path) reply = Unit {0}
TellsFault (Expand options path) reply = Unit {0}

abbrev pub AnswersTellFaults : Type 0
AnswersTellFaults = (words : List (List ℕ)) (files : FileMap) (reply : Reply) → IsAnswer words files reply → TellsFault (request_of words) reply
