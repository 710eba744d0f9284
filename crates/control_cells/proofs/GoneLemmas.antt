-- Where a jump goes, and a switch.
use Rattle.std.proofs.Common.{◌≡◌, ◌++◌, ℕ, ℤ, Option, List, [], ap, ap₂, sym, subst, ◌∙◌, append-nil}
use Rattle.sparse_model.specs.declared.ids.NameId.{NameId}
use Rattle.meaning_control.specs.Choices.{number_of, picked, places_of}
use Rattle.meaning_control.specs.laws.Cells.{Cell, all_gone_blocks}
use Rattle.control_flow.specs.Seen.{targets}
use Rattle.control_cells.specs.Blocks.{is_wanted, labelled, places_after, tables_seen}
use Rattle.control_cells.specs.Exits.{exits_at}
use Rattle.control_cells.specs.Labels.{row_at, rows}
use Rattle.control_cells.specs.Passing.{goings_seen}
use Rattle.control_cells.specs.declared.goings.Goings.{Goings}
use Rattle.control_cells.specs.declared.goings.Goings.TheVariants.{Jumps, Picks}
use Rattle.control_cells.specs.declared.next.Wanted.TheVariants.{Named}
use Rattle.control_cells.specs.declared.numbers.BlockNumbers.{BlockNumbers}
use Rattle.control_cells.specs.declared.tables.CellTables.{CellTables}
use Rattle.control_cells.proofs.NextLemmas.{after-is}

module _ (names : NameId → List ℕ) (cells : List Cell) (tables : CellTables) (number : ℕ) (cell : Cell) (old new : List (ℕ × ℕ)) (goings : Goings) (numbers : List BlockNumbers)
    (labels : List ℕ) (same : numbers ≡ tables.numbers.items)
  where
    abbrev Gone : Goings → Type 0
    Gone it = targets new ≡ targets old ++ all_gone_blocks (tables_seen cells tables) number cell (goings_seen names it)

    pub jump_gone : (name : NameId) → goings ≡ Jumps name → labels ≡ row_at (rows tables.jumps.items) number
        → targets new ≡ places_after (is_wanted names (Named name)) (targets old) (labelled cells numbers labels) → Gone goings
    jump_gone name is row joined =
        subst Gone (sym is)
        (joined
        ∙ after-is (is_wanted names (Named name)) (targets old) (labelled cells numbers labels)
        ∙ ap (λ places. targets old ++ places)
        (ap₂ (λ ns ls. places_of (is_wanted names (Named name)) (labelled cells ns ls)) same row
        ∙ sym (append-nil (places_of (is_wanted names (Named name)) (labelled cells tables.numbers.items (row_at (rows tables.jumps.items) number))))))

    pub pick_gone : (value : Option ℤ) (past : ℕ) → goings ≡ Picks → labels ≡ row_at (rows tables.labels.items) number → value ≡ number_of cell.kind
        → past ≡ (exits_at tables.exits.items number).hit → targets new ≡ targets old ++ picked value (labelled cells numbers labels) past → Gone goings
    pick_gone value past is row known exit joined =
        subst Gone (sym is)
        (joined
        ∙ ap (λ places. targets old ++ places)
        (ap (λ it. picked it (labelled cells numbers labels) past) known
        ∙ ap₂ (λ ns ls. picked (number_of cell.kind) (labelled cells ns ls) past) same row
        ∙ ap (λ block. picked (number_of cell.kind) (labelled cells tables.numbers.items (row_at (rows tables.labels.items) number)) block) exit
        ∙ sym (append-nil (picked (number_of cell.kind) (labelled cells tables.numbers.items (row_at (rows tables.labels.items) number)) (exits_at tables.exits.items number).hit))))
