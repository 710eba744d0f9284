-- Behind its enumeration, and in it.
use Rattle.std.proofs.Common.{◌≡◌, ◌<◌, ◌≤◌, ℕ, false, None, length, nat_lt, refl, sym, ap, subst, ◌∙◌, arith}
use Rattle.std.proofs.lemmas.Bool.Decides.{nat_tests}
use Rattle.std.proofs.lemmas.List.{length-map}
use Rattle.meaning_typing.specs.EnumRows.{enumerator_name_fact, enumerator_named, enumerators_of, is_enumerator}
use Rattle.meaning_typing.specs.Facts.{Fact, fact_at}
use Rattle.meaning_typing.specs.Rows.{known}
use Rattle.meaning_typing.specs.Surroundings.{Surrounding, surrounding_at}
use Rattle.meaning_typing.specs.Units.{kind_at, node_at}
use Rattle.meaning_typing.specs.Wholes.{row_loaded}
use Rattle.decl_judge.specs.Units.{nodes_of}
use Rattle.specifier_judge.specs.Names.{IsSharing}
use Rattle.expr_judge.specs.declared.row.NodeRow.{NodeRow}
use Rattle.expr_judge.specs.Rows.{SaysOnly, Tells}
use Rattle.expr_judge.proofs.PartLemmas.{kept-is, known_at}
use Rattle.expr_judge.proofs.TellingLemmas.{tells_only}
use Rattle.member_rows.specs.Aggregates.{aggregates_in}
use Rattle.node_facts.specs.Facts.{IsKnownNodeFact, node_seen, nodes_seen}
use Rattle.node_facts.proofs.GrowthLemmas.{joins_none}
use Rattle.node_surroundings.specs.Seen.{surroundings_seen}
use Rattle.whole_judge.proofs.LoadedLemmas.{tells_loaded}
use Rattle.whole_judge.proofs.NameLemmas.{enumerator_named as named_told}
use Rattle.node_judge.proofs.NameLemmas.{lt_false, lt_true}
use Rattle.node_judge.proofs.names.enumerator_name.Goals as goal

pub row_of_enumerator_name-requires : goal.row_of_enumerator_name-requires
row_of_enumerator_name-requires c =
    let table = c.args.types.now in
    subst (IsKnownNodeFact table) (sym c.at-fact.ensures) (known_at table c.args.facts.now c.args.enumerator c.requires.ids)

pub as_loaded-requires : goal.as_loaded-requires
as_loaded-requires c =
    let table = c.args.types.now in
    subst (λ (row : NodeRow). IsKnownNodeFact table row.fact) (sym c.known.ensures)
    (subst (IsKnownNodeFact table) (sym c.at-fact.ensures) (known_at table c.args.facts.now c.args.enumerator c.requires.ids))

pub returns-then-parent-len : goal.returns-then-parent-len
returns-then-parent-len c found =
    let nodes = nodes_of c.args.unit.now in
    let surroundings = surroundings_seen c.args.surroundings.now in
    let table = c.args.types.now in
    let list = c.args.facts.now in
    let facts = nodes_seen table list in
    let handle = c.args.handle in
    let parent = c.get-parent.result.parent in
    let stands : (surrounding_at surroundings (node_at nodes handle).number).parent ≡ parent =
    ap (λ (n : ℕ). (surrounding_at surroundings n).parent) c.requires.names ∙ sym (ap (λ (at : Surrounding). at.parent) c.get-parent.ensures.seen) in
    let below : parent < length list = grind (arith, nat_tests, c.if-parent-len.true, c.len.ensures) in
    let count : length facts ≡ length list = length-map list (node_seen table) in
    c.row_of_enumerator_name.ensures nodes surroundings facts handle found
    (record {
      at = record { kind = c.requires.kind; stands = sym c.token_at-token.ensures; want = c.requires.want };
      enumerates = ap (λ (n : ℕ). is_enumerator (kind_at nodes n)) c.requires.names ∙ c.requires.enumerates;
      behind = (λ i. nat_lt (stands i) (count i)) ∙ lt_true parent (length list) below;
      shares =
          subst (λ (p : ℕ). IsSharing c.sharing-sharing.result (enumerators_of nodes facts p)) (sym stands)
          (c.sharing-sharing.ensures nodes facts (length list) c.requires.kept below);
      known =
          ap (node_seen table) c.at-fact.ensures ∙ kept-is table list c.args.enumerator ∙ ap (fact_at facts) (sym c.requires.names);
    })

pub returns : goal.returns
returns c found =
    let nodes = nodes_of c.args.unit.now in
    let surroundings = surroundings_seen c.args.surroundings.now in
    let table = c.args.types.now in
    let list = c.args.facts.now in
    let facts = nodes_seen table list in
    let handle = c.args.handle in
    let declaration = (node_at nodes handle).number in
    let parent = c.get-parent.result.parent in
    let want = (surrounding_at surroundings handle).want in
    let stands : (surrounding_at surroundings declaration).parent ≡ parent =
    ap (λ (n : ℕ). (surrounding_at surroundings n).parent) c.requires.names ∙ sym (ap (λ (at : Surrounding). at.parent) c.get-parent.ensures.seen) in
    let behind : length list ≤ parent = grind (arith, nat_tests, c.if-parent-len.false, c.len.ensures) in
    let count : length facts ≡ length list = length-map list (node_seen table) in
    let inside : nat_lt (surrounding_at surroundings declaration).parent (length facts) ≡ false =
    (λ i. nat_lt (stands i) (count i)) ∙ lt_false parent (length list) behind in
    let all = enumerators_of nodes facts (surrounding_at surroundings declaration).parent in
    let fact : Fact = enumerator_name_fact nodes surroundings facts declaration in
    let seen : node_seen table c.at-fact.result ≡ fact =
    ap (node_seen table) c.at-fact.ensures
    ∙ kept-is table list c.args.enumerator
    ∙ ap (fact_at facts) (sym c.requires.names)
    ∙ ap (λ test. enumerator_named test all (fact_at facts declaration)) (sym inside) in
    let id : IsKnownNodeFact table c.at-fact.result =
    subst (IsKnownNodeFact table) (sym c.at-fact.ensures) (known_at table list c.args.enumerator c.requires.ids) in
    let tells : Tells table table found found c.known.result (known fact) =
    tells_only table table found c.known.result (known fact)
    (subst (λ (row : NodeRow). SaysOnly table row (known fact)) (sym c.known.ensures)
    (record { row = λ i. record { fact = seen i; broken = None; passed = None }; ids = id; silent = refl }))
    (joins_none table) in
    subst (Tells table table found found c.as_loaded.result)
    ((λ i. row_loaded (aggregates_in table).told (c.token_at-token.ensures i) want (known fact))
    ∙ named_told (aggregates_in table) nodes surroundings facts handle c.requires.kind
    (ap (λ (n : ℕ). is_enumerator (kind_at nodes n)) c.requires.names ∙ c.requires.enumerates) table c.at-fact.result seen)
    (tells_loaded table table found found c.known.result c.as_loaded.result (known fact) c.token_at-token.result want tells
    (c.as_loaded.ensures.row want (known fact) c.requires.want tells.row) c.as_loaded.ensures.known)
