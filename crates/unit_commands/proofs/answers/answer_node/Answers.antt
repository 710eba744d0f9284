-- An expression has the answer of its row, and of another node nothing is answered.
use Rattle.std.proofs.Common.{◌≡◌, Bool, true, false, refl, sym, ap, subst, ◌∙◌}
use Rattle.std.proofs.lemmas.Result.{IfOk-weaker}
use Rattle.meaning_typing.specs.Units.{kind_at}
use Rattle.decl_judge.specs.Units.{nodes_of}
use Rattle.expr_judge.proofs.NodeLemmas.{kind-is}
use Rattle.node_facts.proofs.GrowthLemmas.{joins_none}
use Rattle.node_surroundings.specs.Seen.{surroundings_seen}
use Rattle.node_judge.specs.Known.{table_of}
use Rattle.unit_commands.specs.Known.{next_row}
use Rattle.unit_commands.specs.Answers.{IsAnswerIf, nothing}
use Rattle.unit_commands.specs.Asked.{is_asked}
use Rattle.unit_commands.proofs.answers.answer_node.Goals as goal

pub returns-then-is_asked-clause-answer : goal.returns-then-is_asked-clause-answer
returns-then-is_asked-clause-answer c =
    let unit = c.args.unit.now in
    let row = next_row (nodes_of unit) (surroundings_seen c.args.surroundings.now) c.args.handle in
    let asked : is_asked (kind_at (nodes_of unit) c.args.handle) ≡ true =
    ap is_asked (kind-is unit c.requires.whole c.args.handle c.kind.ensures.0 c.kind.result c.kind.ensures.1 c.kind.ensures.2)
    ∙ sym c.is_asked.ensures ∙ c.if-is_asked.true in
    IfOk-weaker c.answer_expr.result _ _
    (λ answer is. subst (λ (test : Bool). IsAnswerIf test (table_of c.answer_expr.new.known) row answer) (sym asked) is) c.answer_expr.ensures.answer

pub returns-else-is_asked-clause-answer : goal.returns-else-is_asked-clause-answer
returns-else-is_asked-clause-answer c =
    let unit = c.args.unit.now in
    let row = next_row (nodes_of unit) (surroundings_seen c.args.surroundings.now) c.args.handle in
    let not_asked : is_asked (kind_at (nodes_of unit) c.args.handle) ≡ false =
    ap is_asked (kind-is unit c.requires.whole c.args.handle c.kind.ensures.0 c.kind.result c.kind.ensures.1 c.kind.ensures.2)
    ∙ sym c.is_asked.ensures ∙ c.if-is_asked.false in
    subst (λ (test : Bool). IsAnswerIf test (table_of c.args.known.now) row nothing) (sym not_asked) refl

pub returns-else-is_asked-clause-keeps : goal.returns-else-is_asked-clause-keeps
returns-else-is_asked-clause-keeps c = record { known = c.requires.known; types = joins_none (table_of c.args.known.now) }
