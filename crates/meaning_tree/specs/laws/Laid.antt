-- What holds of lists of nodes that were added tree by tree.
use Rattle.std.specs.Prelude.{◌≡◌, ℕ, ◌+◌}
use Rattle.meaning_tree.specs.Nodes.{NodeList, end_of}
use Rattle.meaning_tree.specs.Laid.{IsLaid}
use Rattle.meaning_tree.specs.Runs.{IsRun}

-- where the whole list is the run of its last node, it is laid
abbrev pub RunsAreLaid : Type 0 → Type 0
RunsAreLaid Spelling = (list : NodeList Spelling) (last : ℕ) → end_of list ≡ last + 1 → IsRun list list.first last → IsLaid list
