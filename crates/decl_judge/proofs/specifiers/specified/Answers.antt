use Rattle.std.proofs.Common.{◌≡◌, Some, IfOk, option_map, sym, ap, ◌∙◌, subst}
use Rattle.std.proofs.lemmas.Result.{IfOk-weaker}
use Rattle.meaning_types.specs.Types.{no_flags}
use Rattle.meaning_types.specs.Marks.{marked}
use Rattle.meaning_typing.specs.Facts as facts
use Rattle.meaning_typing.specs.Specifiers as meaning
use Rattle.c_types.specs.Table.{type_at}
use Rattle.node_facts.specs.Facts.{node_seen, nodes_seen}
use Rattle.node_facts.specs.Growing.{TypesJoin}
use Rattle.node_facts.proofs.GrowthLemmas.{joins_on}
use Rattle.decl_judge.specs.Seen.{marks_seen}
use Rattle.decl_judge.specs.Units.{handles_of, nodes_of}
use Rattle.decl_judge.proofs.specifiers.specified.Goals as goal

pub returns-in-Some-clause-fact : goal.returns-in-Some-clause-fact
returns-in-Some-clause-fact c =
    let nodes = nodes_of c.args.unit.now in
    let known = nodes_seen c.args.types.now c.args.facts.now in
    let handles = handles_of c.args.children.now in
    let words = meaning.words_of nodes handles in
    let type_ = type_at c.type_said.new.types c.in-Some.said in
    let fact = (λ (words : meaning.Words) (marks : meaning.Marks). facts.Specified (record {
      type_ = meaning.with_marks c.args.token marks (marked words.qualifiers no_flags type_);
      storage = words.storage;
    })) in
    let said : Some type_ ≡ meaning.type_said nodes known words handles =
    sym (ap (option_map (type_at c.type_said.new.types)) c.in-Some.is)
    ∙ c.in_ok-said.ensures.made
    ∙ ap (λ words. meaning.type_said nodes known words handles) c.words_of-words.ensures in
    subst (λ (meant : facts.Fact). IfOk c.specified_as.result (λ fact. node_seen c.specified_as.new.types fact ≡ meant))
    (ap (λ words. fact words (marks_seen c.in_ok-marks.marks)) c.words_of-words.ensures
    ∙ ap (fact words) c.in_ok-marks.ensures
    ∙ ap (meaning.specified_as nodes c.args.token handles words) said)
    c.specified_as.ensures.fact

pub returns-in-Some-clause-keeps : goal.returns-in-Some-clause-keeps
returns-in-Some-clause-keeps c =
    let old = c.args.types.now in
    let middle = c.type_said.new.types in
    let new = c.specified_as.new.types in
    IfOk-weaker c.specified_as.result (λ _. TypesJoin middle new) (λ _. TypesJoin old new) (λ _ join. joins_on old middle new c.in_ok-said.ensures.keeps join)
    c.specified_as.ensures.keeps
