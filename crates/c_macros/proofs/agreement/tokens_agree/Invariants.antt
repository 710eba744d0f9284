use Rattle.std.proofs.Common.{◌≡◌, map, length}
use Rattle.meaning_macros.specs.Agreement.{same_tokens}
use Rattle.c_macros.specs.Seen.{own_text, token_by}
use Rattle.c_macros.proofs.agreement.tokens_agree.Given as goal

-- what is left agrees where all does
abbrev pub invariant-loop-token : goal.invariant-loop-token
invariant-loop-token l = same_tokens (map (token_by own_text) l.tokens) (map (token_by own_text) l.others) ≡ same_tokens (map (token_by own_text) l.old) (map (token_by own_text) l.new)

abbrev pub decreases-loop-token : goal.decreases-loop-token
decreases-loop-token l = length l.tokens
