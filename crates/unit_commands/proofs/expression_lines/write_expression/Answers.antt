-- The five parts of a line, each behind the one before it.
use Rattle.std.proofs.Common.{◌++◌, ℕ, ℤ, List, Option, codes, ap, ◌∙◌}
use Rattle.meaning_text.specs.Places.{At}
use Rattle.node_facts.specs.Facts.{fact_seen}
use Rattle.unit_commands.specs.Types.{constant_mark, place_mark, place_of, position_text, shown_of, type_text}
use Rattle.warn_print.proofs.TextLemmas.{appended_five}
use Rattle.unit_commands.proofs.expression_lines.write_expression.Goals as goal

pub returns : goal.returns
returns c =
    let show = c.args.show.now in
    let fact = fact_seen show.types.now c.args.expression in
    let text = c.args.text.now.items in
    appended_five text c.write_position.new.text.items c.extend_from_slice.new.self.items c.extend_from_slice-2.new.self.items
    c.write_constant.new.text.items c.push.new.self.items
    (position_text (place_of (shown_of show) c.args.token)) (type_text (shown_of show) fact.type_) (place_mark fact.is_place)
    (constant_mark fact.constant) (codes "\n")
    (c.in_ok-write_position.ensures ∙ ap (λ (at : At). text ++ position_text at) (c.place_of.ensures show.names.now))
    (c.in_ok-extend_from_slice.ensures.items
    ∙ ap (λ (spelling : List ℕ). c.write_position.new.text.items ++ spelling) (c.as_slice.ensures.value ∙ c.in_ok-spelling.ensures))
    (c.in_ok-extend_from_slice-2.ensures.items ∙ ap (λ (mark : List ℕ). c.extend_from_slice.new.self.items ++ mark) c.place_mark.ensures)
    (c.in_ok-write_constant.ensures ∙ ap (λ (number : Option ℤ). c.extend_from_slice-2.new.self.items ++ constant_mark number) c.number_of.ensures)
    c.in_ok-push.ensures.items
