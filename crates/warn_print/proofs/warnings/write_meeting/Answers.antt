-- The last word is the operator's.
use Rattle.std.proofs.Common.{◌++◌, ℕ, List, codes, ap, ◌∙◌}
use Rattle.warn_print.proofs.TextLemmas.{appended_twice}
use Rattle.warn_print.proofs.warnings.write_meeting.Goals as goal

pub returns : goal.returns
returns c =
    appended_twice c.args.text.now.items c.extend_from_slice.new.self.items c.extend_from_slice-2.new.self.items (codes "incompatible types in ") c.meeting.result.now
    c.in_ok-extend_from_slice.ensures.items c.in_ok-extend_from_slice-2.ensures.items
    ∙ ap (λ (word : List ℕ). c.args.text.now.items ++ (codes "incompatible types in " ++ word)) c.meeting.ensures
