use Rattle.std.proofs.Common.{◌≡◌, true, false, nat_lt, length, if◌then◌else◌, sym, ap, ◌∙◌}
use Rattle.std.proofs.lemmas.Bool.{le-ltb, lt-ltb}
use Rattle.meaning_typing.specs.Typing.{has_middle}
use Rattle.c_tree.specs.Seen.{node_of}
use Rattle.decl_judge.specs.Units.{nodes_of}
use Rattle.node_facts.specs.Facts.{nodes_seen}
use Rattle.expr_judge.specs.Operators.{conditional_with, conditional_without}
use Rattle.expr_judge.proofs.NodeLemmas.{node-is}
use Rattle.expr_judge.proofs.TellingLemmas.{told_as}
use Rattle.expr_judge.proofs.selections.conditional.Goals as goal

pub returns-then-len-gt2 : goal.returns-then-len-gt2
returns-then-len-gt2 c =
    let unit = c.args.unit.now in
    let nodes = nodes_of unit in
    let known = c.args.types.now in
    let kept = c.args.facts.now in
    let facts = nodes_seen known kept in
    let handle = c.args.handle in
    let is : has_middle nodes handle ≡ true =
    ap (λ node. nat_lt 2 (length node.children)) (node-is unit c.requires.whole handle (node_of c.node.result.now) c.node.ensures)
    ∙ ap (nat_lt 2) (sym c.len.ensures.value)
    ∙ lt-ltb 2 c.len.result c.if-len-gt2.true in
    told_as known c.with_middle.new.types c.with_middle.result _ _
    (ap (λ test. if test then conditional_with nodes facts handle else conditional_without nodes facts handle) (sym is))
    c.args.found.now c.with_middle.new.found c.with_middle.ensures

pub returns-else-len-gt2 : goal.returns-else-len-gt2
returns-else-len-gt2 c =
    let unit = c.args.unit.now in
    let nodes = nodes_of unit in
    let known = c.args.types.now in
    let kept = c.args.facts.now in
    let facts = nodes_seen known kept in
    let handle = c.args.handle in
    let is : has_middle nodes handle ≡ false =
    ap (λ node. nat_lt 2 (length node.children)) (node-is unit c.requires.whole handle (node_of c.node.result.now) c.node.ensures)
    ∙ ap (nat_lt 2) (sym c.len.ensures.value)
    ∙ le-ltb 2 c.len.result c.if-len-gt2.false in
    told_as known c.without_middle.new.types c.without_middle.result _ _
    (ap (λ test. if test then conditional_with nodes facts handle else conditional_without nodes facts handle) (sym is))
    c.args.found.now c.without_middle.new.found c.without_middle.ensures
