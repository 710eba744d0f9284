use Rattle.std.proofs.Common.{nat_eq, Some, if◌then◌else◌, refl, ap, sym, ◌∙◌}
use Rattle.indexmap.specs.IndexMap.{get}
use Rattle.decl_judge.specs.Units.{nodes_of}
use Rattle.node_surroundings.specs.Seen.{surroundings_seen}
use Rattle.member_names.proofs.KeptLemmas.{keeps_none, keeps_one}
use Rattle.member_names.proofs.homes.OutermostHomes.add.Goals as goal

pub returns-in_ok-insert : goal.returns-in_ok-insert
returns-in_ok-insert c =
    let old = get nat_eq c.args.self.now.kept in
    keeps_one (nodes_of c.args.unit.now) (surroundings_seen c.args.surroundings.now) c.args.handle old (get nat_eq c.insert.new.self)
    (sym c.declares_nameless.ensures ∙ c.if-declares_nameless.true)
    (λ other. c.in_ok-insert.ensures.updates.0 other ∙ ap (λ home. if nat_eq c.args.handle other then Some home else old other) c.outermost-home.ensures)
    c.requires.from

pub returns-else-declares_nameless : goal.returns-else-declares_nameless
returns-else-declares_nameless c =
    let old = get nat_eq c.args.self.now.kept in
    keeps_none (nodes_of c.args.unit.now) (surroundings_seen c.args.surroundings.now) c.args.handle old old
    (sym c.declares_nameless.ensures ∙ c.if-declares_nameless.false) (λ other. refl) c.requires.from
