-- The first body of a specifier with one list is all that it declares.
use Rattle.std.proofs.Common.{◌≡◌, ◌≤◌, ◌∷◌, [], Some, None, ℕ, List, length, nat_le, option_map, sym, ap, subst, ◌∙◌, arith}
use Rattle.std.proofs.lemmas.List.{length-map}
use Rattle.std.proofs.lemmas.Bool.Decides.{nat_tests}
use Rattle.std.proofs.lemmas.Result.{IfOk-weaker}
use Rattle.meaning_tree.specs.Nodes.{TreeNode}
use Rattle.meaning_typing.specs.MemberDeclarations.{member_lists}
use Rattle.meaning_typing.specs.Surroundings.{Surrounding, surrounding_at}
use Rattle.meaning_typing.specs.Units.{node_at}
use Rattle.specifier_judge.proofs.RowLemmas.{first_body_is_all}
use Rattle.specifier_judge.specs.Seen.{IsFirstBody, body_seen}
use Rattle.c_tree.specs.Seen.{node_of}
use Rattle.decl_judge.specs.Units.{handles_of, nodes_of}
use Rattle.expr_judge.proofs.NodeLemmas.{node-is}
use Rattle.member_rows.specs.Aggregates.{aggregates_in, bodies_in}
use Rattle.node_facts.specs.Facts.{node_seen, nodes_seen}
use Rattle.node_surroundings.specs.Seen.{surrounding_seen, surroundings_seen}
use Rattle.node_judge.specs.Bodies.{lists_among}
use Rattle.node_judge.proofs.TellLemmas.{behind_none, behind_one, first_none, first_one, joins_none}
use Rattle.node_judge.proofs.bodies.tell_specifier.Goals as goal

pub returns-in-Some-clause-told : goal.returns-in-Some-clause-told
returns-in-Some-clause-told c =
    let unit = c.args.unit.now in
    let nodes = nodes_of unit in
    let surroundings = surroundings_seen c.args.surroundings.now in
    let table = c.args.types.now in
    let seen = nodes_seen table c.args.facts.now in
    let handle = c.args.handle in
    let count = length-map c.args.facts.now (node_seen table) ∙ c.requires.next in
    let node = node-is unit c.requires.whole handle (node_of c.node-node.result.now) c.node-node.ensures in
    let lists : nat_le (length (lists_among nodes (handles_of (node_of c.node-node.result.now).children))) 1 ≡ nat_le (length (member_lists nodes handle)) 1 =
    ap (λ (one : TreeNode (List ℕ)). nat_le (length (lists_among nodes (handles_of one.children))) 1) (sym node) in
    let few : length (member_lists nodes handle) ≤ 1 = grind (arith, nat_tests, c.if-not-is_one_list.false, c.is_one_list.ensures, lists) in
    let body = body_seen table c.in-Some.body in
    let stands : IsFirstBody nodes seen handle (surrounding_at surroundings handle) (Some body) =
    subst (λ (surrounding : Surrounding). IsFirstBody nodes seen handle surrounding (Some body)) c.get-surrounding.ensures.seen
    (subst (λ found. IsFirstBody nodes seen handle (surrounding_seen c.get-surrounding.result) (option_map (body_seen table) found)) c.in-Some.is c.in_ok-body.ensures.made) in
    let one : (node_at nodes handle).number ≡ c.node-node.result.now.number = ap (λ n. n.number) node in
    IfOk-weaker c.tell_numbered.result _ _
    (λ _ told.
    told
    ∙ behind_one nodes surroundings seen handle count (aggregates_in table) c.node-node.result.now.number body c.requires.told
    (ap (λ number. (number, body) ∷ []) (sym one)
    ∙ first_body_is_all nodes surroundings seen handle (Some body) c.requires.kind few stands))
    c.tell_numbered.ensures.told

pub returns-in-None-clause-told : goal.returns-in-None-clause-told
returns-in-None-clause-told c =
    let unit = c.args.unit.now in
    let nodes = nodes_of unit in
    let surroundings = surroundings_seen c.args.surroundings.now in
    let table = c.args.types.now in
    let seen = nodes_seen table c.args.facts.now in
    let handle = c.args.handle in
    let count = length-map c.args.facts.now (node_seen table) ∙ c.requires.next in
    let node = node-is unit c.requires.whole handle (node_of c.node-node.result.now) c.node-node.ensures in
    let lists : nat_le (length (lists_among nodes (handles_of (node_of c.node-node.result.now).children))) 1 ≡ nat_le (length (member_lists nodes handle)) 1 =
    ap (λ (one : TreeNode (List ℕ)). nat_le (length (lists_among nodes (handles_of one.children))) 1) (sym node) in
    let few : length (member_lists nodes handle) ≤ 1 = grind (arith, nat_tests, c.if-not-is_one_list.false, c.is_one_list.ensures, lists) in
    let stands : IsFirstBody nodes seen handle (surrounding_at surroundings handle) None =
    subst (λ (surrounding : Surrounding). IsFirstBody nodes seen handle surrounding None) c.get-surrounding.ensures.seen
    (subst (λ found. IsFirstBody nodes seen handle (surrounding_seen c.get-surrounding.result) (option_map (body_seen table) found)) c.in-None.is c.in_ok-body.ensures.made) in
    behind_none nodes surroundings seen handle count (aggregates_in table) c.requires.told
    (first_body_is_all nodes surroundings seen handle None c.requires.kind few stands)

pub returns-in-Some-clause-first : goal.returns-in-Some-clause-first
returns-in-Some-clause-first c =
    let unit = c.args.unit.now in
    let nodes = nodes_of unit in
    let surroundings = surroundings_seen c.args.surroundings.now in
    let table = c.args.types.now in
    let seen = nodes_seen table c.args.facts.now in
    let handle = c.args.handle in
    let count = length-map c.args.facts.now (node_seen table) ∙ c.requires.next in
    let node = node-is unit c.requires.whole handle (node_of c.node-node.result.now) c.node-node.ensures in
    let lists : nat_le (length (lists_among nodes (handles_of (node_of c.node-node.result.now).children))) 1 ≡ nat_le (length (member_lists nodes handle)) 1 =
    ap (λ (one : TreeNode (List ℕ)). nat_le (length (lists_among nodes (handles_of one.children))) 1) (sym node) in
    let few : length (member_lists nodes handle) ≤ 1 = grind (arith, nat_tests, c.if-not-is_one_list.false, c.is_one_list.ensures, lists) in
    let body = body_seen table c.in-Some.body in
    let stands : IsFirstBody nodes seen handle (surrounding_at surroundings handle) (Some body) =
    subst (λ (surrounding : Surrounding). IsFirstBody nodes seen handle surrounding (Some body)) c.get-surrounding.ensures.seen
    (subst (λ found. IsFirstBody nodes seen handle (surrounding_seen c.get-surrounding.result) (option_map (body_seen table) found)) c.in-Some.is c.in_ok-body.ensures.made) in
    let one : (node_at nodes handle).number ≡ c.node-node.result.now.number = ap (λ n. n.number) node in
    IfOk-weaker c.tell_numbered.result _ _
    (λ _ now.
    first_one nodes surroundings seen handle count (bodies_in table) c.requires.first
    ((c.node-node.result.now.number, body) ∷ []) (bodies_in c.tell_numbered.new.types)
    (ap (λ number. (number, body) ∷ []) (sym one)
    ∙ first_body_is_all nodes surroundings seen handle (Some body) c.requires.kind few stands) now)
    c.tell_numbered.ensures.first

pub returns-in-None-clause-first : goal.returns-in-None-clause-first
returns-in-None-clause-first c =
    let unit = c.args.unit.now in
    let nodes = nodes_of unit in
    let surroundings = surroundings_seen c.args.surroundings.now in
    let table = c.args.types.now in
    let seen = nodes_seen table c.args.facts.now in
    let handle = c.args.handle in
    let count = length-map c.args.facts.now (node_seen table) ∙ c.requires.next in
    let node = node-is unit c.requires.whole handle (node_of c.node-node.result.now) c.node-node.ensures in
    let lists : nat_le (length (lists_among nodes (handles_of (node_of c.node-node.result.now).children))) 1 ≡ nat_le (length (member_lists nodes handle)) 1 =
    ap (λ (one : TreeNode (List ℕ)). nat_le (length (lists_among nodes (handles_of one.children))) 1) (sym node) in
    let few : length (member_lists nodes handle) ≤ 1 = grind (arith, nat_tests, c.if-not-is_one_list.false, c.is_one_list.ensures, lists) in
    let stands : IsFirstBody nodes seen handle (surrounding_at surroundings handle) None =
    subst (λ (surrounding : Surrounding). IsFirstBody nodes seen handle surrounding None) c.get-surrounding.ensures.seen
    (subst (λ found. IsFirstBody nodes seen handle (surrounding_seen c.get-surrounding.result) (option_map (body_seen table) found)) c.in-None.is c.in_ok-body.ensures.made) in
    first_none nodes surroundings seen handle count (bodies_in table) c.requires.first
    (first_body_is_all nodes surroundings seen handle None c.requires.kind few stands)

pub returns-in-None-clause-joins : goal.returns-in-None-clause-joins
returns-in-None-clause-joins c = joins_none c.args.types.now c.requires.bodies
