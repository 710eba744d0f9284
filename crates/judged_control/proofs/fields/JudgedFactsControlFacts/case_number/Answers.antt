use Rattle.std.proofs.Common.{ap, ◌∙◌}
use Rattle.std.specs.Int.{w128}
use Rattle.std.proofs.lemmas.Int.{to_z-of_z}
use Rattle.node_surroundings.specs.Seen.{surroundings_seen}
use Rattle.judged_control.specs.Judged.{JudgedNodes, known_of_nodes}
use Rattle.judged_control.proofs.fields.JudgedFactsControlFacts.case_number.Goals as goal

pub returns : goal.returns
returns c =
    to_z-of_z w128 c.case_number_at.result (record { sfits = c.case_number_at.type_inv })
    ∙ c.case_number_at.ensures (surroundings_seen c.self.inside.surroundings.now) c.self.invariant.enclosings
    ∙ ap (λ (judged : JudgedNodes). (known_of_nodes judged).case_number c.args.statement) c.self.view_is
