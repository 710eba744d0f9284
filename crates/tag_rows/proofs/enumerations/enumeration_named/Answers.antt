use Rattle.std.proofs.Common.{◌≡◌, ◌≤◌, Some, None, length, ap, sym, ◌∙◌, subst}
use Rattle.std.proofs.lemmas.List.{length-map}
use Rattle.meaning_typing.specs.Facts.{NamedType}
use Rattle.meaning_typing.specs.Specifiers.{type_of_words}
use Rattle.meaning_typing.specs.Tags as meaning
use Rattle.c_tree.specs.Seen.{node_of}
use Rattle.node_facts.specs.Facts.{IsKnownNodeFact, node_seen, nodes_seen}
use Rattle.decl_judge.specs.Units.{nodes_of}
use Rattle.decl_judge.proofs.AskedLemmas.{known_at, seen_at}
use Rattle.decl_judge.proofs.NodeLemmas.{named_at}
use Rattle.tag_rows.specs.Kept.{below, first_enumeration}
use Rattle.tag_rows.proofs.KeptLemmas.{named_told}
use Rattle.tag_rows.proofs.enumerations.enumeration_named.Goals as goal

pub returns-in-Some-clause-fact : goal.returns-in-Some-clause-fact
returns-in-Some-clause-fact c =
    let unit = c.args.unit.now in
    let nodes = nodes_of unit in
    let table = c.args.types.now in
    let kept = c.args.facts.now in
    let facts = nodes_seen table kept in
    let number = c.node.result.now.number in
    let count : length facts ≡ length kept = length-map kept (node_seen table) in
    let found : Some c.in-Some.body ≡ below (length facts) (first_enumeration nodes number (length nodes)) =
    sym c.in-Some.is ∙ c.body_told.ensures
    ∙ (λ i. below (sym count i) (c.requires.tags.enumerations number i)) in
    ap (node_seen table) c.at.ensures
    ∙ seen_at table kept c.in-Some.body
    ∙ named_told nodes facts number (Some c.in-Some.body) (subst (λ count. count ≤ length nodes) (sym count) c.requires.before) found
    ∙ ap (λ node. meaning.enumeration_named nodes facts node.number) (named_at unit c.args.handle (node_of c.node.result.now) c.requires.whole c.node.ensures)

pub returns-in-Some-clause-known : goal.returns-in-Some-clause-known
returns-in-Some-clause-known c =
    let table = c.args.types.now in
    subst (λ fact. IsKnownNodeFact table fact) (sym c.at.ensures) (known_at table c.args.facts.now c.in-Some.body c.requires.facts)

pub returns-in_ok-type_of_words-in-None-clause-fact : goal.returns-in_ok-type_of_words-in-None-clause-fact
returns-in_ok-type_of_words-in-None-clause-fact c =
    let unit = c.args.unit.now in
    let nodes = nodes_of unit in
    let table = c.args.types.now in
    let kept = c.args.facts.now in
    let facts = nodes_seen table kept in
    let number = c.node.result.now.number in
    let count : length facts ≡ length kept = length-map kept (node_seen table) in
    let found : None ≡ below (length facts) (first_enumeration nodes number (length nodes)) =
    sym c.in-None.is ∙ c.body_told.ensures
    ∙ (λ i. below (sym count i) (c.requires.tags.enumerations number i)) in
    ap NamedType (c.in_ok-type_of_words-in-None.ensures.made ∙ ap type_of_words c.none.ensures.seen)
    ∙ named_told nodes facts number None (subst (λ count. count ≤ length nodes) (sym count) c.requires.before) found
    ∙ ap (λ node. meaning.enumeration_named nodes facts node.number) (named_at unit c.args.handle (node_of c.node.result.now) c.requires.whole c.node.ensures)
