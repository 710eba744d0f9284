-- So far none was one.
use Rattle.std.proofs.Common.{◌≡◌}
use Rattle.std.specs.List.{list_any}
use Rattle.decl_judge.specs.Units.{handles_of, nodes_of}
use Rattle.body_members.specs.Seen.{is_tagless_number}
use Rattle.body_members.proofs.specifiers.is_tagless_among.Given as goal

abbrev pub invariant-loop-specifier : goal.invariant-loop-specifier
invariant-loop-specifier l =
    list_any (λ handle. is_tagless_number (nodes_of l.unit) l.number handle) (handles_of l.specifier-iterator)
    ≡ list_any (λ handle. is_tagless_number (nodes_of l.unit) l.number handle) (handles_of l.specifiers)
