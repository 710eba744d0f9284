-- The first letter decides.
use Rattle.std.proofs.Common.{◌≡◌, ℕ, List, ◌∷◌, sym, ap, ◌∙◌}
use Rattle.c_terminals.specs.declared.spellings.Group.{Group}
use Rattle.c_terminals.specs.Groups.{group_of}
use Rattle.c_terminals.proofs.spellings.group_of.Goals as goal

by_first : (text : List ℕ) (first : ℕ) (rest : List ℕ) (group : Group) → text ≡ first ∷ rest → ((others : List ℕ) → group ≡ group_of (first ∷ others))
    → group ≡ group_of text
by_first text first rest group is at = at rest ∙ ap group_of (sym is)

pub returns-in-Some : goal.returns-in-Some
returns-in-Some c = by_first _ _ _ _ c.in-Some.ensures.cases.0 c.group_at.ensures
