-- One argument more was found.
use Rattle.std.proofs.Common.{◌≡◌, ◌++◌, drop, map, sym, ap, ◌∙◌}
use Rattle.meaning_typing.specs.Expressions.{Argument}
use Rattle.meaning_typing.specs.Facts.{fact_at}
use Rattle.meaning_typing.specs.Typing.{argument_at, token_at}
use Rattle.decl_judge.specs.Units.{handles_of, nodes_of}
use Rattle.expression_rows.specs.declared.call.Argument as calls
use Rattle.expression_rows.specs.Arguments.{argument_seen}
use Rattle.node_facts.specs.Facts.{nodes_seen}
use Rattle.expr_judge.specs.Parts.{only_arguments, only_expression}
use Rattle.node_facts.proofs.GrowthLemmas.{joins_on, nodes_known, nodes_later}
use Rattle.expr_judge.proofs.PartLemmas.{argument_more, argument_more_known}
use Rattle.expr_judge.proofs.calls.arguments_among.Goals as goal

pub operand_at-requires : goal.operand_at-requires
operand_at-requires c = nodes_known c.args.types.now c.loop-child.types c.loop-child.invariant.keeps c.args.facts.now c.requires.known

pub loop-child-preserved : goal.loop-child-preserved
loop-child-preserved c =
    let nodes = nodes_of c.args.unit.now in
    let old = c.args.types.now in
    let kept = c.args.facts.now in
    let between = c.loop-child.types in
    let new = c.operand_at.new.types in
    let facts = nodes_seen old kept in
    let child = c.in-Some.child in
    let known = c.loop-child.invariant.known in
    let join = c.in_ok-part.ensures.keeps in
    let argument : calls.Argument = record { token = c.token_at-token.result; part = c.in_ok-part.part } in
    let meant : Argument = record { token = token_at nodes child; fact = only_expression (fact_at facts child) } in
    let all = only_arguments (map (argument_at nodes facts) (drop 1 (handles_of c.args.children.now))) in
    let is : argument_seen new argument ≡ meant =
    (λ i. record {
      token = c.token_at-token.ensures i;
      fact = (c.in_ok-part.ensures.seen ∙ ap (λ facts. only_expression (fact_at facts child)) (nodes_later old between c.loop-child.invariant.keeps kept c.requires.known)) i;
    }) in
    record {
      seen =
          argument_more between new join c.loop-child.arguments.items c.push.new.self.items argument c.in_ok-push.ensures.items known meant
          (only_arguments (map (argument_at nodes facts) (handles_of c.next.new.self))) all is
          (ap (λ children. map (argument_seen between) c.loop-child.arguments.items ++ only_arguments (map (argument_at nodes facts) (handles_of children)))
          (sym c.in-Some.ensures.steps)
          ∙ c.loop-child.invariant.seen);
      known =
          argument_more_known between new join c.loop-child.arguments.items c.push.new.self.items argument c.in_ok-push.ensures.items known
          c.in_ok-part.ensures.valued;
      keeps = joins_on old between new c.loop-child.invariant.keeps c.in_ok-part.ensures.keeps;
    }
