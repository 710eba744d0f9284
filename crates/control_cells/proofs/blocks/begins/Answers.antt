use Rattle.std.proofs.Common.{◌≡◌, ◌-◌, suc, ap, ◌∙◌, arith}
use Rattle.meaning_control.specs.Rows as rows
use Rattle.control_cells.specs.Seen.{kind_seen}
use Rattle.control_cells.proofs.blocks.begins.Goals as goal

pub returns-else-parts-eq0 : goal.returns-else-parts-eq0
returns-else-parts-eq0 c = λ names token.
    let some : suc (c.args.parts - 1) ≡ c.args.parts = grind (arith, c.if-parts-eq0.false) in
    c.begins_with_parts.ensures names token (c.args.parts - 1) ∙ ap (λ parts. rows.begins (kind_seen names token c.args.kind) parts) some
