-- Each cell tells its parts in its turn.
use Rattle.std.proofs.Common.{◌-◌, ◌<◌, [], length, ◌∙◌, sym, arith}
use Rattle.std.proofs.lemmas.List.{length-map}
use Rattle.control_cells.specs.Seen.{cell_seen, cells_seen}
use Rattle.control_cells.proofs.PassLemmas.{HaveTold, cell_at-seen, next_told, none_told, parts_before}
use Rattle.control_cells.proofs.exits.exits_of.Goals as goal

pub loop-number-init : goal.loop-number-init
loop-number-init c =
    let all = c.in_ok-exits.ensures.items_if_clones_equal (λ y same. same) in
    record {
      told = λ names. none_told (cells_seen names c.args.cells.now) c.args.numbers.now c.args.closing (length c.args.cells.now) c.in_ok-exits.exits.items
          (sym (length-map c.args.cells.now (cell_seen names))) all;
      count = grind (arith, c.in_ok-exits.ensures.len);
    }

pub hand_down-requires-clause-parts : goal.hand_down-requires-clause-parts
hand_down-requires-clause-parts c =
    let within : c.loop-number.number - 1 < length c.args.cells.now = omega (arith, c.loop-number.auto.number, c.loop-number-test.true) in
    parts_before (cells_seen (λ _. []) c.args.cells.now) (c.requires.parts (λ _. [])) (c.loop-number.number - 1) (cell_seen (λ _. []) c.index-cells-number.result)
    (cell_at-seen (λ _. []) c.args.cells.now (c.loop-number.number - 1) c.index-cells-number.result within c.index-cells-number.is)

pub loop-number-preserved : goal.loop-number-preserved
loop-number-preserved c =
    let within : c.loop-number.number - 1 < length c.args.cells.now = omega (arith, c.loop-number.auto.number, c.loop-number-test.true) in
    let told : (names : _) → HaveTold (cells_seen names c.args.cells.now) c.args.numbers.now c.args.closing (c.loop-number.number - 1) c.hand_down.new.exits.items = λ names.
    next_told (cells_seen names c.args.cells.now) (c.requires.parts names) c.args.numbers.now c.args.closing c.loop-number.exits.items c.hand_down.new.exits.items
    c.loop-number.number (cell_seen names c.index-cells-number.result) (omega (arith, c.loop-number-test.true))
    (omega (arith, within, length-map c.args.cells.now (cell_seen names)))
    (cell_at-seen names c.args.cells.now (c.loop-number.number - 1) c.index-cells-number.result within c.index-cells-number.is)
    (c.hand_down.ensures names) (c.loop-number.invariant.told names)
    in
    record {
      told = told;
      count = (told (λ _. [])).count ∙ length-map c.args.cells.now (cell_seen (λ _. []));
    }
