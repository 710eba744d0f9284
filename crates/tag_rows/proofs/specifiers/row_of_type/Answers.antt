use Rattle.std.proofs.Common.{◌≡◌, Some, None, option_map, ap, sym, ◌∙◌}
use Rattle.meaning_types.specs.Types.{no_flags}
use Rattle.meaning_types.specs.Marks.{marked}
use Rattle.meaning_typing.specs.Facts.{Specified}
use Rattle.meaning_typing.specs.Specifiers as specifiers
use Rattle.meaning_typing.specs.Tags.{attributes_of_specifiers, bitwise_broken}
use Rattle.c_types.specs.Table.{type_at}
use Rattle.node_facts.specs.Facts.{node_seen}
use Rattle.expression_rows.specs.Rows.{broken_seen}
use Rattle.decl_judge.specs.Seen.{words_seen}
use Rattle.decl_judge.specs.Units.{handles_of, nodes_of}
use Rattle.tag_rows.specs.Seen.{row_seen}
use Rattle.tag_rows.proofs.SpecifierLemmas.{told_unless, unless_is_told}
use Rattle.tag_rows.proofs.specifiers.row_of_type.Goals as goal

pub returns-in-Some-clause-says : goal.returns-in-Some-clause-says
returns-in-Some-clause-says c =
    let nodes = nodes_of c.args.unit.now in
    let attributes = attributes_of_specifiers nodes (handles_of c.args.children.now) in
    let words = words_seen c.args.words in
    let type_ = type_at c.args.types.now c.args.said in
    let fact = Specified (record {
      type_ = specifiers.with_marks c.args.token (specifiers.marks_behind nodes specifiers.no_marks attributes) (marked words.qualifiers no_flags type_);
      storage = words.storage;
    }) in
    ap (row_seen c.args.types.now) c.breaks.ensures
    ∙ unless_is_told (Some (broken_seen c.in-Some.broken)) fact (bitwise_broken nodes attributes type_)
    (ap (option_map broken_seen) (sym c.in-Some.is) ∙ c.bitwise_broken.ensures)

pub returns-clause-says : goal.returns-clause-says
returns-clause-says c =
    let nodes = nodes_of c.args.unit.now in
    let attributes = attributes_of_specifiers nodes (handles_of c.args.children.now) in
    let words = words_seen c.args.words in
    let type_ = type_at c.args.types.now c.args.said in
    let fact = (λ (marks : specifiers.Marks). Specified (record {
      type_ = specifiers.with_marks c.args.token marks (marked words.qualifiers no_flags type_);
      storage = words.storage;
    })) in
    let known : node_seen c.specified_as.new.types c.in_ok-fact.fact ≡ fact (specifiers.marks_behind nodes specifiers.no_marks attributes) =
    c.in_ok-fact.ensures.fact ∙ ap fact c.in_ok-marks.ensures in
    ap (row_seen c.specified_as.new.types) c.known.ensures
    ∙ ap (told_unless None) known
    ∙ unless_is_told None (fact (specifiers.marks_behind nodes specifiers.no_marks attributes)) (bitwise_broken nodes attributes type_)
    (ap (option_map broken_seen) (sym c.in_default.is) ∙ c.bitwise_broken.ensures)
