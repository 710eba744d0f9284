-- All nodes are judged, and the first refusal is that of the unit; where there is none, names are told and failures listed.
use Rattle.std.proofs.Common.{length, subst, sym}
use Rattle.node_facts.specs.Facts.{name_seen}
use Rattle.decl_judge.specs.Units.{nodes_of}
use Rattle.node_surroundings.specs.Seen.{surroundings_seen}
use Rattle.type_judge.specs.Judging.{HasTypeIds, IsJudgedSo}
use Rattle.type_judge.proofs.JudgingLemmas.{judged_ids, judged_so, known_length, refused_for}
use Rattle.type_judge.proofs.judging.judge.Goals as goal

pub returns-in-Some-clause-refused : goal.returns-in-Some-clause-refused
returns-in-Some-clause-refused c =
    refused_for c.args.unit.now c.requires.whole (surroundings_seen c.in_ok-surroundings.surroundings) (c.in_ok-surroundings.ensures.exact name_seen)
    c.in_ok-pass.pass c.in_ok-pass.ensures c.in-Some.fault c.in-Some.ensures.some

pub end-requires-clause-known : goal.end-requires-clause-known
end-requires-clause-known c =
    known_length (nodes_of c.args.unit.now) (surroundings_seen c.in_ok-surroundings.surroundings) (length c.args.unit.now.nodes) c.in_ok-pass.pass
    c.in_ok-pass.ensures

pub returns-in-Ok-clause-judged : goal.returns-in-Ok-clause-judged
returns-in-Ok-clause-judged c =
    subst (IsJudgedSo (nodes_of c.args.unit.now)) (sym c.judged_of.ensures)
    (judged_so c.args.unit.now c.requires.whole (surroundings_seen c.in_ok-surroundings.surroundings) (c.in_ok-surroundings.ensures.exact name_seen)
    c.in_ok-pass.pass c.in_ok-pass.ensures c.end.new.self c.in-Ok.ending c.in-Ok.ensures c.in-None.ensures.none)

pub returns-in-Ok-clause-ids : goal.returns-in-Ok-clause-ids
returns-in-Ok-clause-ids c =
    subst HasTypeIds (sym c.judged_of.ensures)
    (judged_ids c.args.unit.now c.requires.whole (surroundings_seen c.in_ok-surroundings.surroundings) (c.in_ok-surroundings.ensures.exact name_seen)
    c.in_ok-pass.pass c.in_ok-pass.ensures c.end.new.self c.in-Ok.ending c.in-Ok.ensures)
