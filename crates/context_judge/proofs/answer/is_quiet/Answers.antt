-- No path of it changes a count.
use Rattle.std.proofs.Common.{◌≡◌, ℤ, Bool, true, false, not, rules, FitsSigned, to_z, sym, ap, subst, ◌∙◌}
use Rattle.std.specs.Int.{w64}
use Rattle.std.proofs.lemmas.Int.{to_z-of_z}
use Rattle.meaning_paths.specs.ContextRules.{Balanced, IsAnswer}
use Rattle.meaning_control.specs.Functions.{IsPathOfFunction}
use Rattle.meaning_control.proofs.Changes.{balanced}
use Rattle.control_flow.specs.Seen.{the_key}
use Rattle.linear_code.specs.Known.{judged_unit}
use Rattle.context_judge.proofs.answer.is_quiet.Goals as goal

-- what is not so is false
turned : (test : Bool) → not test ≡ true → test ≡ true → ⊥
turned true is also = absurd (cc is)
turned false is also = absurd (cc also)

pub returns-then-note : goal.returns-then-note
returns-then-note g c = λ quiet.
    let known = g.J.ControlFacts.known c.args.facts.now in
    let nothing =
    c.quiet_functions_change_nothing.ensures.paths c.args.unit.now known c.args.function
    (record {
      whole = c.requires.ready.whole;
      order = c.each_node_stands_for_one_tree.ensures.order;
      laid = c.requires.ready.laid;
      trees = c.each_node_stands_for_one_tree.ensures.trees;
      body = c.requires.body.stands;
      none = λ changes. turned c.has_changes.result quiet (c.has_changes.ensures.1 changes);
    }) in
    let enters = c.args.note.enters in
    let leaves = c.args.note.leaves in
    let enters_fit : FitsSigned w64 enters = search rules in
    let leaves_fit : FitsSigned w64 leaves = search rules in
    let same : enters ≡ leaves = sym (to_z-of_z w64 enters enters_fit) ∙ ap (to_z w64) c.if-note.true ∙ to_z-of_z w64 leaves leaves_fit in
    subst (λ (count : ℤ). IsAnswer (IsPathOfFunction (judged_unit c.args.unit.now known) c.args.function) the_key enters count Balanced) same
    (balanced (IsPathOfFunction (judged_unit c.args.unit.now known) c.args.function) nothing the_key enters)
