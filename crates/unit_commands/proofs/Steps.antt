-- One step of those that are left.
use Rattle.std.proofs.Common.{◌≡◌, ℕ, suc, List, ◌++◌, sym, ap, ◌∙◌, append_assoc}
use Rattle.unit_commands.specs.declared.walk.Frame.{Frame}
use Rattle.unit_commands.specs.TreeLines.{ShownUnit}
use Rattle.unit_commands.specs.Walk.{frames_behind, step_text, steps_text}

-- what it shows and what the others show is all that was to be shown
pub one-less : (shown : ShownUnit) (left fewer : ℕ) (frames after : List Frame) (text longer all : List ℕ) → left ≡ suc fewer
    → longer ≡ text ++ step_text shown frames → after ≡ frames_behind shown frames → text ++ steps_text shown left frames ≡ all
    → longer ++ steps_text shown fewer after ≡ all
one-less shown left fewer frames after text longer all one_more shows leaves before =
    ap (λ (t : List ℕ). t ++ steps_text shown fewer after) shows
    ∙ ap (λ (fs : List Frame). (text ++ step_text shown frames) ++ steps_text shown fewer fs) leaves
    ∙ append_assoc text (step_text shown frames) (steps_text shown fewer (frames_behind shown frames))
    ∙ sym (ap (λ (steps : ℕ). text ++ steps_text shown steps frames) one_more)
    ∙ before
