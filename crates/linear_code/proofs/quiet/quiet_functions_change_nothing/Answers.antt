-- The nodes of a body are nodes without changes, so it has none, nor have its paths.
use Rattle.std.proofs.Common.{arith}
use Rattle.meaning_tree.specs.Laid.{size_of}
use Rattle.meaning_control.specs.Functions.{statement_of, body_of, closing_brace}
use Rattle.meaning_control.specs.laws.Changes.{FunctionsWithoutContexts}
use Rattle.linear_code.specs.Known.{judged_unit}
use Rattle.linear_code.specs.Quiet.{QuietBodies}
use Rattle.linear_code.proofs.QuietLemmas.{among, root-among, without}
use Rattle.linear_code.proofs.quiet.quiet_functions_change_nothing.Goals as goal

quiet-bodies : FunctionsWithoutContexts → QuietBodies
quiet-bodies law list known function quiet =
    let unit = judged_unit list known in
    let root = statement_of unit function in
    let tree = quiet.trees root (omega (arith, quiet.whole)) quiet.body in
    law unit function (among list known function quiet (size_of tree.0))
    (without list known function quiet (size_of tree.0) (λ part. quiet.laid.runs root part tree.0 tree.1))
    (root-among list known function quiet (size_of tree.0) (λ part. quiet.laid.runs root part tree.0 tree.1))

pub returns-clause-bodies : goal.returns-clause-bodies
returns-clause-bodies c = quiet-bodies c.functions_without_contexts_change_nothing.ensures

pub returns-clause-paths : goal.returns-clause-paths
returns-clause-paths c =
    λ list known function quiet path is.
    c.bodies_without_changes_pass_none.ensures (closing_brace (judged_unit list known) function) (body_of (judged_unit list known) function)
    (quiet-bodies c.functions_without_contexts_change_nothing.ensures list known function quiet) path is
