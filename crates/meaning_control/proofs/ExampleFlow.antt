-- The equations of the flow of the example, cell by cell.
use Rattle.std.proofs.Common.{◌≡◌, ◌↔◌, inl, inr, ℕ, zero, suc, true, false, List, [], ◌∷◌, slice_get, Some, refl, ap, subst}
use Rattle.std.proofs.lemmas.Option.{same_Some, none-some}
use Rattle.meaning_paths.specs.Walks.{IsIn}
use Rattle.meaning_control.specs.Kinds.{Value, Body, Expression, While, is_statement}
use Rattle.meaning_control.specs.laws.Cells.{Cell, AreTables, IsFlowOf}
use Rattle.meaning_control.specs.examples.Flows.{cells, tables, graph}

abbrev of_a : Cell
of_a = record { kind = Value (true ∷ false ∷ []); token = 3; parts = [] }

abbrev of_statement : Cell
of_statement = record { kind = Expression; token = 5; parts = [] }

abbrev of_loop : Cell
of_loop = record { kind = While; token = 1; parts = 0 ∷ 1 ∷ [] }

abbrev of_body : Cell
of_body = record { kind = Body; token = 0; parts = 2 ∷ [] }

-- what holds of the four cells holds of each
each_cell : (P : ℕ → Cell → Type 0) → P 0 of_a → P 1 of_statement → P 2 of_loop → P 3 of_body → (number : ℕ) (cell : Cell) → slice_get cells number ≡ Some cell → P number cell
each_cell P a statement loop body zero cell is = subst (P 0) (same_Some of_a cell is) a
each_cell P a statement loop body (suc zero) cell is = subst (P 1) (same_Some of_statement cell is) statement
each_cell P a statement loop body (suc (suc zero)) cell is = subst (P 2) (same_Some of_loop cell is) loop
each_cell P a statement loop body (suc (suc (suc zero))) cell is = subst (P 3) (same_Some of_body cell is) body
each_cell P a statement loop body (suc (suc (suc (suc number)))) cell is = absurd (none-some cell is)

-- and of each part what holds of the three parts
abbrev PartHolds : (P : ℕ → ℕ → ℕ → Cell → Type 0) → ℕ → Cell → Type 0
PartHolds P number cell = (place part : ℕ) → slice_get cell.parts place ≡ Some part → P number place part cell

no_parts : (P : ℕ → ℕ → Type 0) → (place part : ℕ) → slice_get [] place ≡ Some part → P place part
no_parts P place part is = absurd (none-some part is)

one_part : (P : ℕ → ℕ → Type 0) (first : ℕ) → P 0 first → (place part : ℕ) → slice_get (first ∷ []) place ≡ Some part → P place part
one_part P first holds zero part is = subst (P 0) (same_Some first part is) holds
one_part P first holds (suc place) part is = absurd (none-some part is)

two_parts : (P : ℕ → ℕ → Type 0) (first second : ℕ) → P 0 first → P 1 second → (place part : ℕ) → slice_get (first ∷ second ∷ []) place ≡ Some part → P place part
two_parts P first second holds also zero part is = subst (P 0) (same_Some first part is) holds
two_parts P first second holds also (suc zero) part is = subst (P 1) (same_Some second part is) also
two_parts P first second holds also (suc (suc place)) part is = absurd (none-some part is)

each_part : (P : ℕ → ℕ → ℕ → Cell → Type 0) → P 2 0 0 of_loop → P 2 1 1 of_loop → P 3 0 2 of_body
    → (number place part : ℕ) (cell : Cell) → slice_get cells number ≡ Some cell → slice_get cell.parts place ≡ Some part → P number place part cell
each_part P condition statement loop number place part cell is there =
    each_cell (PartHolds P) (no_parts (λ place part. P 0 place part of_a)) (no_parts (λ place part. P 1 place part of_statement))
    (two_parts (λ place part. P 2 place part of_loop) 0 1 condition statement) (one_part (λ place part. P 3 place part of_body) 2 loop) number cell is place part there

abbrev BeginsByFirst : ℕ → Cell → Type 0
BeginsByFirst number cell = (first : ℕ) (parts : List ℕ) → cell.parts ≡ first ∷ parts → is_statement cell.kind ≡ false → tables.entry number ≡ tables.entry first

first_part : (number : ℕ) (cell : Cell) → slice_get cells number ≡ Some cell → BeginsByFirst number cell
first_part = each_cell BeginsByFirst (λ first parts begins other. absurd (cc)) (λ first parts begins other. absurd (cc)) (λ first parts begins other. absurd (cc)) of_items
  where
    of_items : BeginsByFirst 3 of_body
    of_items first parts begins other = let same : 2 ≡ first = cc in ap tables.entry same

pub tables_hold : AreTables cells 3 5 tables
tables_hold =
    record {
      first_part = λ number first parts cell is. first_part number cell is first parts;
      root_hit = refl;
      root_miss = refl;
      root_broken = refl;
      root_continued = refl;
      root_seen = refl;
      hit_part = each_part _ refl refl refl;
      miss_part = each_part _ refl refl refl;
      broken_part = each_part _ refl refl refl;
      continued_part = each_part _ refl refl refl;
      seen_part = each_part _ refl refl refl;
      labels_of = each_cell _ refl refl refl refl;
      cases_of = each_cell _ refl refl refl refl;
    }

-- of a block whose successors are these
same : (numbers : List ℕ) → (other : ℕ) → IsIn other numbers ↔ IsIn other numbers
same numbers other = ((λ there. there), (λ there. there))

-- two successors in the other order
turned : (first second other : ℕ) → IsIn other (first ∷ second ∷ []) → IsIn other (second ∷ first ∷ [])
turned first second other (inl is) = inr (inl is)
turned first second other (inr (inl is)) = inl is
turned first second other (inr (inr there)) = absurd there

pub flow : IsFlowOf cells 3 6 5 tables graph
flow =
    record {
      begins_so = (refl, same (1 ∷ []));
      closes = (refl, same []);
      entries = each_cell _ (λ stops. (refl, (λ other. (turned 5 4 other, turned 4 5 other)))) (λ stops. (refl, same (2 ∷ []))) (λ stops. (refl, same (2 ∷ []))) (λ stops. absurd (cc));
      moments = each_cell _ (λ has. (refl, (λ other. (turned 5 4 other, turned 4 5 other)))) (λ has. (refl, same [])) (λ has. (refl, same (3 ∷ []))) (λ has. (refl, same []));
    }
