-- The node is one of those of which something is kept.
use Rattle.std.proofs.Common.{◌≡◌, ◌<◌, length, sym, ap, ◌∙◌, arith}
use Rattle.std.proofs.lemmas.List.{length-map}
use Rattle.meaning_typing.specs.Surroundings.{surrounding_at}
use Rattle.decl_judge.specs.Units.{nodes_of}
use Rattle.linked_names.proofs.GrowthLemmas.{Extends-twice}
use Rattle.node_facts.specs.Facts.{node_seen}
use Rattle.node_facts.proofs.GrowthLemmas.{joins_on}
use Rattle.node_surroundings.specs.Seen.{surrounding_seen, surroundings_seen}
use Rattle.declaration_judge.specs.declared.declarations.Declarations.{Declarations}
use Rattle.declaration_judge.specs.Kept.{facts_seen}
use Rattle.declaration_judge.proofs.KeptLemmas.{kept_more}
use Rattle.declaration_judge.proofs.declarations.Declarations.add.Goals as goal

pub returns-clause-kept : goal.returns-clause-kept
returns-clause-kept c =
    let nodes = nodes_of c.args.unit.now in
    let surroundings = surroundings_seen c.args.surroundings.now in
    let handle = c.args.handle in
    let stands = surrounding_seen c.get-surrounding.result in
    let old = c.args.self.now in
    let between = c.link.new.types in
    let types = c.carry.new.types in
    let new : Declarations =
    record {
      types = types;
      facts = c.push.new.self;
      linked = c.link.new.linked;
      contexts = c.carry.new.contexts;
      typedefs = c.name_type.new.typedefs;
      defined = c.keep.new.self;
      tentative = c.keep-2.new.self;
    } in
    let within : handle < length surroundings =
    omega (arith, c.requires.node, c.requires.surroundings, c.requires.whole, length-map c.args.surroundings.now surrounding_seen) in
    let standing : surrounding_at surroundings handle ≡ stands = sym c.get-surrounding.ensures.seen in
    let seen = facts_seen old in
    let count : length seen ≡ handle = length-map old.facts (node_seen old.types) ∙ c.requires.next in
    kept_more nodes surroundings handle stands c.args.fact old new c.requires.next standing within c.requires.known c.requires.kept
    (record {
      types = joins_on old.types between types c.in_ok-link.ensures.types c.in_ok-carry.ensures.types;
      facts = c.in_ok-push.ensures.ok;
      linked = c.in_ok-link.ensures.linked;
      over = Extends-twice new.linked.over between types c.in_ok-link.ensures.over c.in_ok-carry.ensures.types.extends;
      contexts = c.in_ok-carry.ensures.contexts;
      carried = c.in_ok-carry.ensures.over;
      typedefs = c.in_ok-name_type.ensures;
      defined = c.in_ok-keep.ensures.kept old.types surroundings seen (ap (surrounding_at surroundings) count ∙ standing) c.requires.kept.defined;
      tentative = c.in_ok-keep-2.ensures.kept surroundings seen count standing c.requires.kept.tentative;
    })
