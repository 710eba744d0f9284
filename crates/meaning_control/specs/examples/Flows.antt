-- A worked example: a flow that keeps the equations of a body, which is that of
--   while (a) ;
use Rattle.std.specs.Prelude.{ℕ, zero, suc, true, false, List, [], ◌∷◌, length, ◌-◌}
use Rattle.vocabulary.specs.declared.node_kind.NodeKind.TheVariants as kinds
use Rattle.meaning_paths.specs.Graphs.{BasicBlock}
use Rattle.meaning_tree.specs.Trees.{SyntaxTree}
use Rattle.meaning_control.specs.Kinds.{Value, Body, Expression, While}
use Rattle.meaning_control.specs.States.{ControlNode}
use Rattle.meaning_control.specs.Functions.{body_of}
use Rattle.meaning_control.specs.laws.Cells.{Cell, IsNodeOf, Tables, AreTables, IsFlowOf}
use Rattle.meaning_control.specs.examples.Drawn.{at, moment, ends, object, deciding, empty, nodes_with, unit_of}

abbrev pub items : List SyntaxTree
items = deciding kinds.WhileStatement 1 (object 3) (empty 5 ∷ []) ∷ []

abbrev pub body : ControlNode
body = body_of (unit_of [] (nodes_with 6 items)) (length (nodes_with 6 items) - 2)

-- a; the empty statement; the loop; the body
abbrev pub cells : List Cell
cells =
    record { kind = Value (true ∷ false ∷ []); token = 3; parts = [] }
    ∷ record { kind = Expression; token = 5; parts = [] }
    ∷ record { kind = While; token = 1; parts = 0 ∷ 1 ∷ [] }
    ∷ record { kind = Body; token = 0; parts = 2 ∷ [] } ∷ []

abbrev pub entry : ℕ → ℕ
entry zero = 3
entry (suc zero) = 4
entry (suc (suc number)) = 1

-- the loop alone passes something at its moment; block 6 isn't there
abbrev pub at_moment : ℕ → ℕ
at_moment zero = 3
at_moment (suc zero) = 6
at_moment (suc (suc zero)) = 2
at_moment (suc (suc (suc number))) = 6

abbrev pub hit : ℕ → ℕ
hit zero = 4
hit (suc zero) = 2
hit (suc (suc number)) = 5

abbrev pub miss : ℕ → ℕ
miss zero = 5
miss (suc zero) = 2
miss (suc (suc number)) = 5

abbrev pub goes_on : ℕ → ℕ
goes_on zero = 5
goes_on (suc zero) = 2
goes_on (suc (suc number)) = 5

abbrev pub tables : Tables
tables =
    record {
      entry = entry;
      moment = at_moment;
      hit = hit;
      miss = miss;
      broken = λ number. 5;
      continued = goes_on;
      labels = λ number. [];
      cases = λ number. [];
      seen = λ number. [];
    }

abbrev pub graph : List BasicBlock
graph =
    record { steps = []; successors = 1 ∷ [] }
    ∷ record { steps = at 1 ∷ []; successors = 2 ∷ [] }
    ∷ record { steps = moment 1 ∷ []; successors = 3 ∷ [] }
    ∷ record { steps = []; successors = 5 ∷ 4 ∷ [] }
    ∷ record { steps = at 5 ∷ []; successors = 2 ∷ [] }
    ∷ record { steps = at 6 ∷ ends 6 ∷ []; successors = [] } ∷ []

pub record FlowExample : Type 0 where
  pub node : IsNodeOf cells 3 body
  pub tables_hold : AreTables cells 3 5 tables
  pub flow : IsFlowOf cells 3 6 5 tables graph
