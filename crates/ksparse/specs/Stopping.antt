-- Why a unit ends early, as a reply.
use Rattle.std.specs.Prelude.{◌≡◌, Option, None, Some}
use Rattle.meaning_preprocessing.specs.State.{Stop}
use Rattle.meaning_answer.specs.Reply.{Reply}
use Rattle.meaning_answer.specs.Lines.{stop_reply}

-- a reply tells a reason; where there is none there is no reply
abbrev pub TellsStop : Option Stop → Reply → Type 0
TellsStop None reply = ⊥
TellsStop (Some stop) reply = reply ≡ stop_reply stop
