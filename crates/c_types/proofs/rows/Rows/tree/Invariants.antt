-- What the steps make is the type.
use Rattle.std.proofs.Common.{◌≡◌, [], ◌∷◌, All}
use Rattle.c_types.specs.Rows.{type_numbered, types_of}
use Rattle.c_types.specs.Trees.{IsStepOver, after_steps, made_seen}
use Rattle.c_types.proofs.rows.Rows.tree.Given as goal

abbrev pub invariant-steps : goal.invariant-steps
invariant-steps l =
    record {
      taken : after_steps (types_of l.self.rows.entries) l.steps.items (made_seen l.made.items) ≡ type_numbered (types_of l.self.rows.entries) l.number ∷ [];
      known : All (IsStepOver (types_of l.self.rows.entries)) l.steps.items;
    }
