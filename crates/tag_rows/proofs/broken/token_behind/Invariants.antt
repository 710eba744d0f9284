-- The token behind the lists so far, and the lists that are left, come to that behind all.
use Rattle.std.proofs.Common.{◌≡◌}
use Rattle.meaning_typing.specs.Tags.{behind_lists}
use Rattle.decl_judge.specs.Units.{handles_of, nodes_of}
use Rattle.tag_rows.proofs.broken.token_behind.Given as goal

abbrev pub invariant-loop-child : goal.invariant-loop-child
invariant-loop-child l =
    behind_lists (nodes_of l.unit) l.token (handles_of l.child-iterator) ≡ behind_lists (nodes_of l.unit) l.fn.before (handles_of l.children)
