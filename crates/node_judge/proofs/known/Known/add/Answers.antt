-- The body of the node is told, and then the node joins those that are known.
use Rattle.std.proofs.Common.{◌≡◌, ℕ, suc, ◌+◌, ◌<◌, ◌++◌, ◌∷◌, [], List, length, take, sym, ap, subst, ◌∙◌, arith}
use Rattle.std.proofs.lemmas.List.{length-map}
use Rattle.std.proofs.lemmas.Result.{IfOk-weaker}
use Rattle.meaning_typing.specs.Facts.{Fact}
use Rattle.decl_judge.specs.Units.{nodes_of}
use Rattle.expr_judge.proofs.NodeLemmas.{end-nodes}
use Rattle.node_facts.specs.Facts.{node_seen}
use Rattle.node_surroundings.specs.Seen.{surroundings_seen}
use Rattle.specifier_judge.specs.Kept as enumerations
use Rattle.node_judge.specs.declared.known.Known.{Known}
use Rattle.node_judge.specs.Known.{IsKnownOf, facts_seen, table_of}
use Rattle.node_judge.proofs.KindLemmas.{parts_before}
use Rattle.node_judge.proofs.KnownLemmas.{Joins, extends-more, front_seen, id_told, kept_told, known_count, known_more, seen-more, told_extends}
use Rattle.node_judge.proofs.known.Known.add.Goals as goal

pub tell_body-requires-clause-next : goal.tell_body-requires-clause-next
tell_body-requires-clause-next c =
    known_count (nodes_of c.args.unit.now) (surroundings_seen c.args.surroundings.now) c.args.handle c.args.self.now c.requires.known

pub tell_body-requires-clause-ids : goal.tell_body-requires-clause-ids
tell_body-requires-clause-ids c = c.requires.known.kept.whole.ids

pub tell_body-requires-clause-bodies : goal.tell_body-requires-clause-bodies
tell_body-requires-clause-bodies c = c.requires.known.bodies.ids

pub tell_body-requires-clause-consts : goal.tell_body-requires-clause-consts
tell_body-requires-clause-consts c = c.requires.known.bodies.consts

pub tell_body-requires-clause-told : goal.tell_body-requires-clause-told
tell_body-requires-clause-told c = c.requires.known.bodies.told

pub tell_body-requires-clause-first : goal.tell_body-requires-clause-first
tell_body-requires-clause-first c = c.requires.known.bodies.first

pub add-requires-clause-next : goal.add-requires-clause-next
add-requires-clause-next c =
    known_count (nodes_of c.args.unit.now) (surroundings_seen c.args.surroundings.now) c.args.handle c.args.self.now c.requires.known

pub add-requires-clause-known : goal.add-requires-clause-known
add-requires-clause-known c =
    let old = table_of c.args.self.now in
    let types = c.tell_body.new.types in
    id_told old types (told_extends old types c.in_ok-tell_body.ensures.joins) c.args.fact c.requires.ids

pub add-requires-clause-kept : goal.add-requires-clause-kept
add-requires-clause-kept c =
    let known = c.args.self.now in
    let types = c.tell_body.new.types in
    kept_told (nodes_of c.args.unit.now) (surroundings_seen c.args.surroundings.now) known.declarations types
    (told_extends (table_of known) types c.in_ok-tell_body.ensures.joins) c.requires.known.kept

pub add-requires-2-clause-ids : goal.add-requires-2-clause-ids
add-requires-2-clause-ids c = c.in_ok-add.ensures.kept.whole.ids

pub add-requires-2-clause-kept : goal.add-requires-2-clause-kept
add-requires-2-clause-kept c =
    let nodes = nodes_of c.args.unit.now in
    let surroundings = surroundings_seen c.args.surroundings.now in
    let old = c.args.self.now in
    let handle = c.args.handle in
    let kept = c.add.new.self in
    let told = c.in_ok-tell_body.ensures in
    let more = c.in_ok-add.ensures in
    let joins : Joins nodes surroundings old c.tell_body.new.types c.tell_body.new.consts kept c.args.fact =
    record { bodies = told.joins; told = told.told; first = told.first; consts = told.consts; facts = more.facts; types = more.types; kept = more.kept } in
    let seen =
    seen-more nodes surroundings handle old c.tell_body.new.types c.tell_body.new.consts kept c.args.fact c.requires.known joins c.requires.ids in
    let count : length (facts_seen old) ≡ handle =
    length-map old.declarations.facts (node_seen (table_of old)) ∙ known_count nodes surroundings handle old c.requires.known in
    subst (λ (facts : List Fact). enumerations.IsKeptOf nodes facts handle old.enumerations)
    (sym (ap (take handle) seen ∙ front_seen (facts_seen old) (node_seen (table_of old) c.args.fact) handle count)) c.requires.known.enumerations

pub returns-clause-known : goal.returns-clause-known
returns-clause-known c =
    let unit = c.args.unit.now in
    let nodes = nodes_of unit in
    let surroundings = surroundings_seen c.args.surroundings.now in
    let old = c.args.self.now in
    let handle = c.args.handle in
    let kept = c.add.new.self in
    let told = c.in_ok-tell_body.ensures in
    let more = c.in_ok-add.ensures in
    let joins : Joins nodes surroundings old c.tell_body.new.types c.tell_body.new.consts kept c.args.fact =
    record { bodies = told.joins; told = told.told; first = told.first; consts = told.consts; facts = more.facts; types = more.types; kept = more.kept } in
    let next : suc handle ≡ handle + 1 = omega arith in
    let within : handle < length nodes = omega (arith, c.requires.node, end-nodes unit c.requires.whole) in
    let order = parts_before unit c.requires.whole c.each_node_stands_for_one_tree.ensures.order in
    let others = c.add-2.new.self in
    let new : Known = record old { declarations = kept; consts = c.tell_body.new.consts; enumerations = others } in
    IfOk-weaker c.add-2.result _ _
    (λ _ enumerated.
    subst (λ (n : ℕ). IsKnownOf nodes surroundings n (facts_seen old ++ node_seen (table_of old) c.args.fact ∷ []) new) next
    (known_more nodes surroundings handle old c.tell_body.new.types c.tell_body.new.consts kept c.args.fact c.requires.known joins c.requires.ids others order
    within (subst (λ (n : ℕ). enumerations.IsKeptOf nodes (facts_seen new) n others) (sym next) enumerated)))
    c.add-2.ensures

pub returns-clause-types : goal.returns-clause-types
returns-clause-types c =
    let nodes = nodes_of c.args.unit.now in
    let surroundings = surroundings_seen c.args.surroundings.now in
    let old = c.args.self.now in
    let kept = c.add.new.self in
    let told = c.in_ok-tell_body.ensures in
    let more = c.in_ok-add.ensures in
    let joins : Joins nodes surroundings old c.tell_body.new.types c.tell_body.new.consts kept c.args.fact =
    record { bodies = told.joins; told = told.told; first = told.first; consts = told.consts; facts = more.facts; types = more.types; kept = more.kept } in
    IfOk-weaker c.add-2.result _ _
    (λ _ enumerated.
    extends-more nodes surroundings c.args.handle old c.tell_body.new.types c.tell_body.new.consts kept c.args.fact c.requires.known joins c.requires.ids)
    c.add-2.ensures
