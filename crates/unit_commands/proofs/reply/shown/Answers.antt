-- Nothing is written to standard error.
use Rattle.std.proofs.Common.{ℕ, List, ap}
use Rattle.meaning_answer.specs.Reply.{Clean}
use Rattle.unit_commands.proofs.reply.shown.Goals as goal

pub returns : goal.returns
returns c = ap (λ (none : List ℕ). record { out = c.args.out.items; err = none; ending = Clean }) c.new.ensures.items
