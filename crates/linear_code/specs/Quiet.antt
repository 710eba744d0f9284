-- What holds of functions that change no counts.
use Rattle.std.specs.Prelude.{◌≡◌, ℕ, ◌<◌, List}
use Rattle.sparse_model.specs.declared.ids.NameId.{NameId}
use Rattle.meaning_paths.specs.Steps.{Step}
use Rattle.meaning_tree.specs.Nodes.{NodeList, ChildrenStandBefore, end_of}
use Rattle.meaning_tree.specs.Laid.{IsLaid}
use Rattle.meaning_control.specs.Functions.{statement_of, body_of, IsPathOfFunction}
use Rattle.meaning_control.specs.laws.Changes.{ChangesNothing, IsWithoutChanges}
use Rattle.c_tree.specs.Seen.{EachStandsForOneTree}
use Rattle.linear_code.specs.Changes.{BodyChanges}
use Rattle.linear_code.specs.Known.{KnownFacts, judged_unit}

-- a function of a unit, no node of whose body changes counts
pub record IsQuiet (list : NodeList NameId) (known : KnownFacts) (function : ℕ) : Type 0 where
  pub whole : list.first ≡ 0
  pub order : ChildrenStandBefore list
  pub laid : IsLaid list
  pub trees : EachStandsForOneTree list
  pub body : statement_of (judged_unit list known) function < end_of list
  pub none : BodyChanges list (judged_unit list known) function → ⊥

-- no node that control meets in it changes any
abbrev pub QuietBodies : Type 0
QuietBodies = (list : NodeList NameId) (known : KnownFacts) (function : ℕ) → IsQuiet list known function → IsWithoutChanges (body_of (judged_unit list known) function)

-- nor does a path of it
abbrev pub QuietPaths : Type 0
QuietPaths =
    (list : NodeList NameId) (known : KnownFacts) (function : ℕ) → IsQuiet list known function
    → (path : List Step) → IsPathOfFunction (judged_unit list known) function path → ChangesNothing path
