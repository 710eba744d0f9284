-- The lines of the tree are the reply.
use Rattle.std.proofs.Common.{List, ap, ◌∙◌}
use Rattle.c_tokens.specs.declared.token.Token.{Token}
use Rattle.unit_commands.specs.Replies.{shown_reply}
use Rattle.unit_commands.specs.Walk.{tree_text}
use Rattle.unit_commands.proofs.tree.show_unit.Goals as goal

pub returns : goal.returns
returns c =
    c.shown.ensures
    ∙ ap shown_reply
    (c.in_ok-out.ensures
    ∙ ap (λ (tokens : List Token). tree_text (record { names = c.args.names.now; tokens = tokens; list = c.args.unit.now })) c.as_slice.ensures)
