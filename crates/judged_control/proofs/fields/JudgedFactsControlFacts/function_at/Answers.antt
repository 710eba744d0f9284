use Rattle.std.proofs.Common.{ap, ◌∙◌}
use Rattle.decl_judge.specs.Units.{nodes_of}
use Rattle.node_surroundings.specs.Seen.{surroundings_seen}
use Rattle.linear_code.specs.Known.{function_known}
use Rattle.judged_control.specs.Judged.{JudgedNodes, known_of_nodes}
use Rattle.judged_control.proofs.fields.JudgedFactsControlFacts.function_at.Goals as goal

pub returns : goal.returns
returns c =
    c.function_at.ensures (nodes_of c.self.inside.unit.now) (surroundings_seen c.self.inside.surroundings.now) c.self.invariant.objects
    ∙ ap (λ (judged : JudgedNodes). function_known (known_of_nodes judged) c.args.declarator) c.self.view_is
