use Rattle.std.proofs.Common.{◌≡◌, ◌-◌, drop, length}
use Rattle.meaning_answer.specs.Requests.{request_of}
use Rattle.ksparse.specs.Reading.{reading_seen, request_behind}
use Rattle.ksparse.proofs.command.read_words.Given as goal

abbrev pub invariant-words : goal.invariant-words
invariant-words l = request_behind l.position (reading_seen l.reading) (drop l.position l.words) ≡ request_of l.words

abbrev pub decreases-words : goal.decreases-words
decreases-words l = length l.words - l.position
