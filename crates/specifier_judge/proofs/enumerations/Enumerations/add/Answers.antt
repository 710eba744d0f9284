use Rattle.std.proofs.Common.{Some}
use Rattle.meaning_typing.specs.EnumRows.{enumerators_of}
use Rattle.decl_judge.specs.Units.{nodes_of}
use Rattle.node_facts.specs.Facts.{nodes_seen}
use Rattle.specifier_judge.proofs.KeptLemmas.{keeps_more, keeps_none}
use Rattle.specifier_judge.proofs.enumerations.Enumerations.add.Goals as goal

pub returns-in_default : goal.returns-in_default
returns-in_default c =
    keeps_none c.args.unit.now c.requires.whole c.each_node_stands_for_one_tree.ensures.order (nodes_seen c.args.types.now c.args.facts.now) c.args.handle
    c.requires.node c.args.self.now c.requires.kept c.in_default.ensures.none

pub returns : goal.returns
returns c =
    let facts = nodes_seen c.args.types.now c.args.facts.now in
    keeps_more c.args.unit.now c.requires.whole c.each_node_stands_for_one_tree.ensures.order facts c.args.handle c.requires.node c.args.self.now c.requires.kept
    (record { sharings = c.insert.new.self }) (Some c.sharing.result)
    (c.sharing.ensures (enumerators_of (nodes_of c.args.unit.now) facts c.args.handle) c.in-Some.ensures.some)
    c.in_ok-insert.ensures.updates.0
