-- A number that is no handle declares nothing.
use Rattle.std.proofs.Common.{ap, ◌∙◌}
use Rattle.linear_code.specs.Known.{function_known}
use Rattle.node_facts.specs.Facts.{nodes_seen}
use Rattle.judged_control.specs.Judged.{known_of}
use Rattle.judged_control.proofs.NumberLemmas.{unknown_function}
use Rattle.judged_control.proofs.asked.function_at.Goals as goal

pub returns-in-Some : goal.returns-in-Some
returns-in-Some c = λ nodes surroundings kept.
    c.function_of.ensures nodes surroundings kept
    ∙ ap (function_known (known_of nodes surroundings (nodes_seen c.args.types.now c.args.facts.now))) c.in-Some.ensures

pub returns-in-None : goal.returns-in-None
returns-in-None c = λ nodes surroundings kept.
    unknown_function nodes surroundings c.args.types.now c.args.facts.now c.args.declarator c.in-None.ensures
