-- A tree, node by node: each node before its parts, which stand one level deeper.
use Rattle.std.specs.Prelude.{ℕ, ◌+◌, ◌-◌, ◌*◌, zero, suc, List, [], ◌∷◌, ◌++◌, Option, None, Some, length}
use Rattle.meaning_tree.specs.Nodes.{end_of}
use Rattle.meaning_tree.specs.LookUps.{child_at}
use Rattle.unit_commands.specs.declared.walk.Frame.{Frame}
use Rattle.unit_commands.specs.TreeLines.{ShownUnit, handle_line}

-- Nodes whose parts are shown, the innermost first, each with the place of the part that comes next. A part stands as deep
-- as there are such nodes.

-- what is shown of the next part
abbrev pub part_text : ShownUnit → List Frame → Option (ℕ × ℕ) → List ℕ
part_text shown frames None = []
part_text shown frames (Some child) = handle_line shown (length frames) (Some child.1) child.0

-- what waits behind it: it and what comes behind it, or where there is none, the nodes around
abbrev pub frames_with : Frame → List Frame → Option (ℕ × ℕ) → List Frame
frames_with frame frames None = frames
frames_with frame frames (Some child) =
    (record { parent = child.0; place = 0 }) ∷ (record { parent = frame.parent; place = frame.place + 1 }) ∷ frames

-- a step shows this
abbrev pub step_text : ShownUnit → List Frame → List ℕ
step_text shown [] = []
step_text shown (frame ∷ frames) = part_text shown (frame ∷ frames) (child_at shown.list frame.parent frame.place)

-- and leaves this
abbrev pub frames_behind : ShownUnit → List Frame → List Frame
frames_behind shown [] = []
frames_behind shown (frame ∷ frames) = frames_with frame frames (child_at shown.list frame.parent frame.place)

-- what so many steps show
abbrev pub steps_text : ShownUnit → (steps : ℕ) → List Frame → List ℕ
steps_text shown zero frames = []
steps_text shown (suc steps) frames = step_text shown frames ++ steps_text shown steps (frames_behind shown frames)

-- The tree of the last node. One step shows a node but that one, and one leaves it, so twice as many as there are nodes
-- suffice.
abbrev pub tree_text : ShownUnit → List ℕ
tree_text shown =
    let root = end_of shown.list - 1 in
    handle_line shown 0 None root ++ steps_text shown (end_of shown.list * 2) ((record { parent = root; place = 0 }) ∷ [])
