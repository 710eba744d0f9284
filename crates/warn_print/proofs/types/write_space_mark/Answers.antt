-- A space has a mark where there is one.
use Rattle.std.proofs.Common.{◌++◌, List, ℕ, sym, ap, ◌∙◌}
use Rattle.warn_print.proofs.TextLemmas.{appended_thrice, space_mark-some}
use Rattle.warn_print.proofs.types.write_space_mark.Goals as goal

pub returns : goal.returns
returns c =
    appended_thrice c.args.text.now.items c.extend_from_slice.new.self.items c.write_space.new.text.items c.push.new.self.items _ _ _ c.in_ok-extend_from_slice.ensures.items c.in_ok-write_space.ensures c.in_ok-push.ensures.items
    ∙ ap (λ (mark : List ℕ). c.args.text.now.items ++ mark) (sym (space_mark-some c.args.names.now c.args.space c.in_default.not-None))
