-- The flow of the cells of a function has the paths of the function.
use Rattle.std.proofs.Common.{◌≡◌, ◌↔◌, ℕ, Bool, true, false, nat_eq, ◌&&◌, if◌then◌else◌, List, [], ◌∷◌, refl, sym, subst, arith}
use Rattle.std.proofs.lemmas.Bool.{eq-eqb, eqb-false, eqb-true, ne_eqb}
use Rattle.std.specs.Str.{bytes_eq}
use Rattle.meaning_paths.specs.Graphs.{BasicBlock, IsPathOf}
use Rattle.meaning_paths.specs.Steps.{Step}
use Rattle.meaning_control.specs.Functions.{IsPathOfFunction, body_of, closing_brace}
use Rattle.meaning_control.specs.Nodes.{JudgedUnit}
use Rattle.meaning_control.specs.laws.Cells.{Cell}
use Rattle.node_facts.specs.Facts.{name_seen}
use Rattle.control_cells.specs.Flows.{HasPathsOf, KeepsApart}
use Rattle.linear_code.specs.Cells.{cells_of}
use Rattle.linear_code.proofs.CellLemmas.{make-body}

-- names are seen alike only where they are one
pub names-apart : KeepsApart name_seen
names-apart name other = by (nat_eq name.0 0) (nat_eq other.0 0) name.0 other.0 refl refl
  where
    and-true : (test : Bool) → (test && true) ≡ test
    and-true true = refl
    and-true false = refl

    by : (none_one none_two : Bool) (one two : ℕ) → nat_eq one 0 ≡ none_one → nat_eq two 0 ≡ none_two
        → bytes_eq (if none_one then [] else one ∷ []) (if none_two then [] else two ∷ []) ≡ nat_eq one two
    by true true one two first second = sym (eq-eqb one two (omega (arith, eqb-true one 0 first, eqb-true two 0 second)))
    by true false one two first second = sym (ne_eqb one two (λ same. eqb-false two 0 second (omega (arith, eqb-true one 0 first, same))))
    by false true one two first second = sym (ne_eqb one two (λ same. eqb-false one 0 first (omega (arith, eqb-true two 0 second, same))))
    by false false one two first second = and-true (nat_eq one two)

pub paths-of-function : (unit : JudgedUnit) (function brace : ℕ) (cells : List Cell) (graph : List BasicBlock) → cells ≡ cells_of (body_of unit function)
    → brace ≡ closing_brace unit function → HasPathsOf cells brace graph → (path : List Step) → IsPathOfFunction unit function path ↔ IsPathOf graph path
paths-of-function unit function brace cells graph made is have =
    subst (λ (at : ℕ). HasPathsOf (cells_of (body_of unit function)) at graph) is (subst (λ (all : List Cell). HasPathsOf all brace graph) made have)
    (body_of unit function) (make-body (body_of unit function))
