-- What is known of the leaf stays known where the type of its value joins the table.
use Rattle.std.proofs.Common.{◌≡◌, ℕ, ap, ◌∙◌}
use Rattle.meaning_types.specs.Types.{TypeTree}
use Rattle.meaning_typing.specs.Facts.{fact_at}
use Rattle.meaning_typing.specs.Units.{node_at}
use Rattle.decl_judge.specs.Units.{nodes_of}
use Rattle.node_facts.specs.Facts.{nodes_seen}
use Rattle.node_facts.proofs.GrowthLemmas.{id_later}
use Rattle.expression_rows.specs.Arguments.{listed_failure}
use Rattle.expression_rows.specs.Facts.{valued_part}
use Rattle.expression_rows.specs.Rows.{ToldConversion}
use Rattle.expr_judge.proofs.TellingLemmas.{one_known, one_listed}
use Rattle.leaf_rows.specs.Leaves.{leaf_seen, leaf_told}
use Rattle.initializer_levels.specs.Parts.{type_seen}
use Rattle.init_judge.proofs.RefusalLemmas.{only_told}
use Rattle.init_judge.proofs.SaidLemmas.{part_type_later}
use Rattle.init_judge.proofs.value.judge_value.Goals as goal

pub judge_leaf-row-requires-clause-to : goal.judge_leaf-row-requires-clause-to
judge_leaf-row-requires-clause-to c = id_later c.args.types.now c.operand_at.new.types c.in_ok-part.ensures.keeps c.args.placed.of.of c.requires.part

pub returns-clause-broken : goal.returns-clause-broken
returns-clause-broken c =
    let old = c.args.types.now in
    let new = c.operand_at.new.types in
    let of = c.args.placed.of in
    let token = (node_at (nodes_of c.args.unit.now) c.args.placed.initializer).token in
    let fact = fact_at (nodes_seen old c.args.facts.now) c.args.placed.initializer in
    let seen = valued_part new c.in_ok-part.part in
    let told : leaf_seen new c.judge_leaf-row.result ≡ leaf_told c.args.is_static (type_seen old of) token fact =
    c.judge_leaf-row.ensures.row of.is_member
    ∙ (ap (λ (t : TypeTree). leaf_told c.args.is_static t c.token_at-token.result seen) (part_type_later old new c.in_ok-part.ensures.keeps of c.requires.part)
    ∙ (ap (λ (n : ℕ). leaf_told c.args.is_static (type_seen old of) n seen) c.token_at-token.ensures
    ∙ (ap (leaf_told c.args.is_static (type_seen old of) token) c.in_ok-part.ensures.seen ∙ only_told c.args.is_static (type_seen old of) token fact))) in
    ap (λ (t : ToldConversion). t.broken) told

pub returns-clause-failures : goal.returns-clause-failures
returns-clause-failures c =
    let old = c.args.types.now in
    let new = c.operand_at.new.types in
    let of = c.args.placed.of in
    let token = (node_at (nodes_of c.args.unit.now) c.args.placed.initializer).token in
    let fact = fact_at (nodes_seen old c.args.facts.now) c.args.placed.initializer in
    let seen = valued_part new c.in_ok-part.part in
    let told : leaf_seen new c.judge_leaf-row.result ≡ leaf_told c.args.is_static (type_seen old of) token fact =
    c.judge_leaf-row.ensures.row of.is_member
    ∙ (ap (λ (t : TypeTree). leaf_told c.args.is_static t c.token_at-token.result seen) (part_type_later old new c.in_ok-part.ensures.keeps of c.requires.part)
    ∙ (ap (λ (n : ℕ). leaf_told c.args.is_static (type_seen old of) n seen) c.token_at-token.ensures
    ∙ (ap (leaf_told c.args.is_static (type_seen old of) token) c.in_ok-part.ensures.seen ∙ only_told c.args.is_static (type_seen old of) token fact))) in
    let failure = c.judge_leaf-row.result.failure in
    (listed_failure failure, c.in_ok-append.ensures, one_listed new failure ∙ ap (λ (t : ToldConversion). t.failures) told, one_known new failure c.judge_leaf-row.ensures.known)
