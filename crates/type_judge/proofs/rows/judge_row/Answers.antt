-- The row of the node, and then its access.
use Rattle.std.proofs.Common.{ℕ, sym, subst}
use Rattle.meaning_typing.specs.Surroundings.{Surrounding, surrounding_at}
use Rattle.meaning_typing.specs.Typing.{access_failures}
use Rattle.decl_judge.specs.Units.{nodes_of}
use Rattle.expr_judge.proofs.NodeLemmas.{token-is}
use Rattle.expression_rows.specs.Arguments.{Appends}
use Rattle.node_facts.specs.Facts.{node_seen}
use Rattle.node_judge.specs.Known.{table_of}
use Rattle.node_surroundings.specs.Seen.{surroundings_seen}
use Rattle.type_judge.proofs.RowLemmas.{tells_accessed}
use Rattle.type_judge.proofs.rows.judge_row.Goals as goal

pub access_node-requires : goal.access_node-requires
access_node-requires c = c.in_ok-row.ensures.says.2.ids

pub returns-clause-says : goal.returns-clause-says
returns-clause-says c =
    let unit = c.args.unit.now in
    let surroundings = surroundings_seen c.args.surroundings.now in
    let handle = c.args.handle in
    let new = table_of c.row_of_node.new.known in
    let row = c.in_ok-row.row in
    let between = c.row_of_node.new.found in
    let after = c.access_node.new.found in
    let accessed =
    subst (λ (s : Surrounding). Appends new between after (access_failures c.token.result s (node_seen new row.fact)))
    c.get-surrounding.ensures.seen c.in_ok-access_node.ensures in
    let says = c.in_ok-row.ensures.says in (
      says.0,
      says.1,
      tells_accessed (nodes_of unit) surroundings handle (table_of c.args.known.now) new c.args.found.now between after row says.0 says.2
          (subst (λ (token : ℕ). Appends new between after (access_failures token (surrounding_at surroundings handle) (node_seen new row.fact)))
          (sym (token-is unit c.requires.whole handle c.token.result c.token.ensures)) accessed),
    )
