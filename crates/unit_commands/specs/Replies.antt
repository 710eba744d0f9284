-- A reply that shows something.
use Rattle.std.specs.Prelude.{ℕ, List, []}
use Rattle.meaning_answer.specs.Reply.{Reply, Clean}

-- lines for standard output, and a clean end
abbrev pub shown_reply : List ℕ → Reply
shown_reply text = record { out = text; err = []; ending = Clean }
