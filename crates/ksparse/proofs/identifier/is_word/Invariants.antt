use Rattle.std.proofs.Common.{◌≡◌, length}
use Rattle.meaning_text.specs.Words.{is_word}
use Rattle.ksparse.proofs.identifier.is_word.Given as goal

abbrev pub invariant-bytes : goal.invariant-bytes
invariant-bytes l = is_word l.left ≡ is_word l.text

abbrev pub decreases-bytes : goal.decreases-bytes
decreases-bytes l = length l.left
