use Rattle.std.proofs.Common.{◌≡◌, [], true, false, ap, sym, ◌∙◌, if◌then◌else◌}
use Rattle.meaning_operands.specs.Operands.{is_integer}
use Rattle.meaning_rules.specs.Rules.{least_broken}
use Rattle.meaning_typing.specs.Tags.{attributes_of_specifiers, bitwise_words}
use Rattle.c_types.specs.Table.{type_at}
use Rattle.decl_judge.specs.Units.{handles_of, nodes_of}
use Rattle.tag_rows.proofs.SpecifierLemmas.{is_integer_told}
use Rattle.tag_rows.proofs.specifiers.bitwise_broken.Goals as goal

pub returns-then-is_integer : goal.returns-then-is_integer
returns-then-is_integer c =
    let nodes = nodes_of c.args.unit.now in
    let type_ = type_at c.args.types.now c.args.said in
    let is : true ≡ is_integer type_ = sym c.if-is_integer.true ∙ c.is_integer.ensures ∙ is_integer_told type_ in
    ap (λ is. least_broken (if is then [] else bitwise_words nodes (attributes_of_specifiers nodes (handles_of c.args.children.now)))) is

pub returns : goal.returns
returns c =
    let nodes = nodes_of c.args.unit.now in
    let type_ = type_at c.args.types.now c.args.said in
    let is : false ≡ is_integer type_ = sym c.if-is_integer.false ∙ c.is_integer.ensures ∙ is_integer_told type_ in
    c.bitwise_of_specifiers.ensures
    ∙ ap (λ is. least_broken (if is then [] else bitwise_words nodes (attributes_of_specifiers nodes (handles_of c.args.children.now)))) is
