use Rattle.std.proofs.Common.{◌≡◌, ℕ, List, Option, Some, None, IfOk, option_map, ap, sym, ◌∙◌, subst}
use Rattle.std.proofs.lemmas.Result.{IfOk-weaker}
use Rattle.meaning_tree.specs.Nodes.{TreeNode}
use Rattle.meaning_types.specs.Types.{TypeTree}
use Rattle.meaning_typing.specs.Rows.{Row}
use Rattle.meaning_typing.specs.Specifiers.{Words, words_of}
use Rattle.meaning_typing.specs.Tags as meaning
use Rattle.c_tree.specs.Seen.{node_of}
use Rattle.c_types.specs.Table.{type_at}
use Rattle.node_facts.specs.Facts.{nodes_seen}
use Rattle.node_facts.specs.Growing.{TypesJoin}
use Rattle.node_facts.proofs.GrowthLemmas.{joins_on}
use Rattle.expression_rows.specs.Rows.{told}
use Rattle.decl_judge.specs.Seen.{words_seen}
use Rattle.decl_judge.specs.Units.{handles_of, named_node, nodes_of}
use Rattle.decl_judge.proofs.NodeLemmas.{named_at}
use Rattle.tag_rows.specs.Seen.{row_seen}
use Rattle.tag_rows.proofs.specifiers.specifiers_row.Goals as goal

pub returns-in-Some-clause-says : goal.returns-in-Some-clause-says
returns-in-Some-clause-says c =
    let unit = c.args.unit.now in
    let nodes = nodes_of unit in
    let facts = nodes_seen c.args.types.now c.args.facts.now in
    let node = named_node (node_of c.node-node.result.now) in
    let row = (λ (node : TreeNode (List ℕ)) (words : Words) (said : Option TypeTree).
    meaning.specifiers_by nodes node.token (meaning.attributes_of_specifiers nodes (handles_of node.children)) words said) in
    let handles = handles_of node.children in
    let words : words_seen c.words_of-words.result ≡ words_of nodes handles = c.words_of-words.ensures in
    let said : Some (type_at c.type_said.new.types c.in-Some.said) ≡ meaning.any_type_said nodes facts (words_seen c.words_of-words.result) handles =
    sym (ap (option_map (type_at c.type_said.new.types)) c.in-Some.is) ∙ c.in_ok-said.ensures.made in
    subst (λ (meant : Row). IfOk c.row_of_type.result (λ seen. row_seen c.row_of_type.new.types seen ≡ told meant))
    (ap (row node (words_seen c.words_of-words.result)) said
    ∙ ap (λ words. row node words (meaning.any_type_said nodes facts words handles)) words
    ∙ ap (λ node. row node (words_of nodes (handles_of node.children)) (meaning.any_type_said nodes facts (words_of nodes (handles_of node.children)) (handles_of node.children)))
    (named_at unit c.args.handle (node_of c.node-node.result.now) c.requires.whole c.node-node.ensures))
    c.row_of_type.ensures.says

pub returns-in-Some-clause-keeps : goal.returns-in-Some-clause-keeps
returns-in-Some-clause-keeps c =
    let old = c.args.types.now in
    let middle = c.type_said.new.types in
    let new = c.row_of_type.new.types in
    IfOk-weaker c.row_of_type.result (λ _. TypesJoin middle new) (λ _. TypesJoin old new) (λ _ join. joins_on old middle new c.in_ok-said.ensures.keeps join)
    c.row_of_type.ensures.keeps

pub returns-in-None-clause-says : goal.returns-in-None-clause-says
returns-in-None-clause-says c =
    let unit = c.args.unit.now in
    let nodes = nodes_of unit in
    let facts = nodes_seen c.args.types.now c.args.facts.now in
    let node = named_node (node_of c.node-node.result.now) in
    let row = (λ (node : TreeNode (List ℕ)) (words : Words) (said : Option TypeTree).
    meaning.specifiers_by nodes node.token (meaning.attributes_of_specifiers nodes (handles_of node.children)) words said) in
    let handles = handles_of node.children in
    let said : None ≡ meaning.any_type_said nodes facts (words_seen c.words_of-words.result) handles =
    sym (ap (option_map (type_at c.type_said.new.types)) c.in-None.is) ∙ c.in_ok-said.ensures.made in
    ap (row_seen c.type_said.new.types) c.known.ensures
    ∙ ap told
    (ap (row node (words_seen c.words_of-words.result)) said
    ∙ ap (λ words. row node words (meaning.any_type_said nodes facts words handles)) c.words_of-words.ensures
    ∙ ap (λ node. row node (words_of nodes (handles_of node.children)) (meaning.any_type_said nodes facts (words_of nodes (handles_of node.children)) (handles_of node.children)))
    (named_at unit c.args.handle (node_of c.node-node.result.now) c.requires.whole c.node-node.ensures))
