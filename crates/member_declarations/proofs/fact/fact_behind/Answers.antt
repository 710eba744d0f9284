use Rattle.std.proofs.Common.{ap, ◌∙◌}
use Rattle.meaning_typing.specs.MemberDeclarations.{member_declared_if}
use Rattle.node_facts.specs.Facts.{name_seen}
use Rattle.member_declarations.proofs.fact.fact_behind.Goals as goal

pub returns-clause-fact : goal.returns-clause-fact
returns-clause-fact c =
    c.declared_if.ensures.seen c.member_type.new.types
    ∙ ap (member_declared_if (name_seen c.args.declarator.now.name)) c.in_ok-of.ensures.made
