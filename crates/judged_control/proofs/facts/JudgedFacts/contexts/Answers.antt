-- They are the note's of its object.
use Rattle.std.proofs.Common.{option_map, ap, ◌∙◌}
use Rattle.decl_judge.specs.Units.{nodes_of}
use Rattle.node_surroundings.specs.Seen.{surroundings_seen}
use Rattle.judged_objects.specs.declared.note.ObjectNote.{ObjectNote}
use Rattle.linear_code.specs.Known.{note_of}
use Rattle.judged_control.specs.Judged.{JudgedNodes, known_of_nodes}
use Rattle.judged_control.proofs.facts.JudgedFacts.contexts.Goals as goal

pub returns : goal.returns
returns c =
    let kept = c.self.inside in
    ap (λ (note : ObjectNote). note.contexts)
    (c.note_of.ensures kept.types.now (nodes_of kept.unit.now) (surroundings_seen kept.surroundings.now) c.self.invariant.objects)
    ∙ ap (λ (judged : JudgedNodes). option_map note_of ((known_of_nodes judged).contexts c.args.declarator)) c.self.view_is
