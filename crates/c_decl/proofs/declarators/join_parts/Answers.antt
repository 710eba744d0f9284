use Rattle.std.proofs.Common.{sym, ap, ◌∙◌}
use Rattle.meaning_derivation.specs.State.{Goes}
use Rattle.parse_state.specs.Seen.{state_of}
use Rattle.c_decl.proofs.Listing.{parts_joined}
use Rattle.c_decl.proofs.declarators.join_parts.Goals as goal

pub returns-clause-goes : goal.returns-clause-goes
returns-clause-goes c = parts_joined (state_of c.args.state.now) c.requires.finds ∙ ap Goes (sym c.in_ok-collect_behind.ensures.list)
