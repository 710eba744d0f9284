-- So far none was one.
use Rattle.std.proofs.Common.{◌≡◌}
use Rattle.meaning_typing.specs.MemberDeclarations as meaning
use Rattle.decl_judge.specs.Units.{handles_of, nodes_of}
use Rattle.member_declarations.proofs.anonymous.is_tagless_among.Given as goal

abbrev pub invariant-loop-specifier : goal.invariant-loop-specifier
invariant-loop-specifier l =
    meaning.is_tagless_among (nodes_of l.unit) (handles_of l.specifier-iterator) ≡ meaning.is_tagless_among (nodes_of l.unit) (handles_of l.specifiers)
