use Rattle.std.proofs.Common.{◌≡◌, ℕ, suc, ◌<◌, true, false, ◌||◌, nat_eq, length, sym, ◌∙◌, arith}
use Rattle.std.specs.List.{list_any}
use Rattle.std.proofs.lemmas.List.{length-map}
use Rattle.std.proofs.lemmas.Result.{IfOk-weaker}
use Rattle.decl_judge.specs.Units.{named_node, nodes_of}
use Rattle.node_surroundings.specs.Seen.{surroundings_seen}
use Rattle.member_names.specs.Kept.{AreSeen, AreTwiceBelow, is_declared_twice, is_key_among}
use Rattle.member_names.proofs.NameLemmas.{not_turned, seen_before, seen_more, twice_more, twice_same, unnamed_once}
use Rattle.member_names.proofs.names.MemberNames.add.Goals as goal

pub returns-in_default-clause-twice : goal.returns-in_default-clause-twice
returns-in_default-clause-twice c =
    let nodes = nodes_of c.args.unit.now in
    let surroundings = surroundings_seen c.args.surroundings.now in
    twice_same nodes surroundings c.args.handle c.args.self.now (unnamed_once nodes surroundings c.args.handle c.in_default.ensures.none) c.requires.twice

pub returns-then-branch-clause-seen : goal.returns-then-branch-clause-seen
returns-then-branch-clause-seen c =
    seen_more (nodes_of c.args.unit.now) (surroundings_seen c.args.surroundings.now) c.args.handle c.args.keys.now.keys c.in-Some.key c.in-Some.ensures.is
    c.in-Some.ensures.home c.in-Some.ensures.name c.keep.new.keys.keys c.in_ok-keep.ensures.joins c.requires.seen

pub returns-then-branch-clause-twice : goal.returns-then-branch-clause-twice
returns-then-branch-clause-twice c =
    let unit = c.args.unit.now in
    let nodes = nodes_of unit in
    let surroundings = surroundings_seen c.args.surroundings.now in
    let some : 0 < length nodes = omega (arith, c.requires.node, length-map unit.nodes named_node) in
    let before : is_key_among c.in-Some.key c.args.keys.now.keys ≡ is_declared_twice nodes surroundings c.args.handle =
    seen_before nodes surroundings c.args.handle c.args.keys.now.keys c.in-Some.key c.in-Some.ensures.is c.in-Some.ensures.home c.in-Some.ensures.name
    c.requires.order.parents some c.requires.seen in
    twice_same nodes surroundings c.args.handle c.args.self.now
    (sym before ∙ not_turned (is_key_among c.in-Some.key c.args.keys.now.keys) true (sym c.if-branch.true ∙ c.in_ok-keep.ensures.told)) c.requires.twice

pub returns-clause-seen : goal.returns-clause-seen
returns-clause-seen c =
    IfOk-weaker c.keep-2.result _ (λ _. AreSeen (nodes_of c.args.unit.now) (surroundings_seen c.args.surroundings.now) (suc c.args.handle) c.keep.new.keys.keys)
    (λ _ _.
    seen_more (nodes_of c.args.unit.now) (surroundings_seen c.args.surroundings.now) c.args.handle c.args.keys.now.keys c.in-Some.key c.in-Some.ensures.is
    c.in-Some.ensures.home c.in-Some.ensures.name c.keep.new.keys.keys c.in_ok-keep.ensures.joins c.requires.seen)
    c.keep-2.ensures

pub returns-clause-twice : goal.returns-clause-twice
returns-clause-twice c =
    let unit = c.args.unit.now in
    let nodes = nodes_of unit in
    let surroundings = surroundings_seen c.args.surroundings.now in
    let some : 0 < length nodes = omega (arith, c.requires.node, length-map unit.nodes named_node) in
    let before : is_key_among c.in-Some.key c.args.keys.now.keys ≡ is_declared_twice nodes surroundings c.args.handle =
    seen_before nodes surroundings c.args.handle c.args.keys.now.keys c.in-Some.key c.in-Some.ensures.is c.in-Some.ensures.home c.in-Some.ensures.name
    c.requires.order.parents some c.requires.seen in
    let again : true ≡ is_declared_twice nodes surroundings c.args.handle =
    sym (not_turned (is_key_among c.in-Some.key c.args.keys.now.keys) false (sym c.if-branch.false ∙ c.in_ok-keep.ensures.told)) ∙ before in
    IfOk-weaker c.keep-2.result
    (λ _. (other : ℕ) → list_any (nat_eq other) c.keep-2.new.self ≡ list_any (nat_eq other) c.args.self.now || nat_eq other c.args.handle)
    (λ _. AreTwiceBelow nodes surroundings (suc c.args.handle) c.keep-2.new.self)
    (λ _ joins. twice_more nodes surroundings c.args.handle c.args.self.now c.keep-2.new.self true again joins c.requires.twice)
    c.keep-2.ensures
