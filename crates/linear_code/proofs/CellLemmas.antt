-- How the cells of a body lie: they make it, and each but the last is a part once.
use Rattle.std.proofs.Common.{◌≡◌, ℕ, zero, suc, ◌+◌, ◌-◌, ◌<◌, ◌≤◌, ◌⊎◌, inl, inr, List, [], ◌∷◌, ◌++◌, Some, length, get_or, slice_get, refl, sym, ap, ap₂, subst, ◌∙◌, arith, append_assoc, length-append}
use Rattle.std.proofs.lemmas.Bool.{cases_lt}
use Rattle.std.proofs.lemmas.List.{append-nil, get_or_append_left, get_or-append_right}
use Rattle.std.proofs.lemmas.Option.{none-some, same_Some, slice_get-get_or}
use Rattle.sparse_model.specs.declared.ids.NameId.{NameId}
use Rattle.meaning_control.specs.States.{ControlNode, Node, ControlNodes, NoNodes, Nodes}
use Rattle.meaning_control.specs.laws.Cells.{Cell, IsNodeOf, AreNodesOf}
use Rattle.control_cells.specs.Exits.{EachIsPartOnce, HasPart}
use Rattle.control_cells.specs.Numbers.{StandBehindParts}
use Rattle.control_cells.specs.Seen.{cell_at, cells_seen, no_cell}
use Rattle.control_cells.specs.declared.cell.Cell.{Cell as KeptCell}
use Rattle.linear_code.specs.Cells.{all_from, cells_from, cells_of, number_of, numbers_of, size_of, sizes_of}

-- How many there are

mutual
  pub length-cells : (first : ℕ) (node : ControlNode) → length (cells_from first node) ≡ size_of node
  length-cells first (Node kind token parts) =
      omega (arith, length-append (all_from first parts) (record { kind = kind; token = token; parts = numbers_of first parts } ∷ []), length-all first parts)

  pub length-all : (first : ℕ) (parts : ControlNodes) → length (all_from first parts) ≡ sizes_of parts
  length-all first NoNodes = refl
  length-all first (Nodes node others) =
      omega (arith, length-append (cells_from first node) (all_from (first + size_of node) others), length-cells first node, length-all (first + size_of node) others)

-- They make their node

seam : {X : Type 0} (xs : List X) (x : X) (ys : List X) → slice_get (xs ++ x ∷ ys) (length xs) ≡ Some x
seam [] x ys = refl
seam (first ∷ xs) x ys = seam xs x ys

mutual
  makes : (all front back : List Cell) (first : ℕ) (node : ControlNode) → length front ≡ first → all ≡ front ++ (cells_from first node ++ back)
      → IsNodeOf all (number_of first node) node
  makes all front back first (Node kind token parts) count is =
      let own : Cell = record { kind = kind; token = token; parts = numbers_of first parts } in
      let split : all ≡ front ++ (all_from first parts ++ own ∷ back) = is ∙ ap (λ (cells : List Cell). front ++ cells) (append_assoc (all_from first parts) (own ∷ []) back) in (
        numbers_of first parts,
        ap₂ slice_get (split ∙ sym (append_assoc front (all_from first parts) (own ∷ back)))
            (omega (arith, count, length-append front (all_from first parts), length-all first parts))
            ∙ seam (front ++ all_from first parts) own back,
        make all front (own ∷ back) first parts count split,
      )

  make : (all front back : List Cell) (first : ℕ) (parts : ControlNodes) → length front ≡ first → all ≡ front ++ (all_from first parts ++ back)
      → AreNodesOf all (numbers_of first parts) parts
  make all front back first NoNodes count is = tt
  make all front back first (Nodes node others) count is =
      let own = cells_from first node in
      let behind = all_from (first + size_of node) others in
      let split : all ≡ front ++ (own ++ (behind ++ back)) = is ∙ ap (λ (cells : List Cell). front ++ cells) (append_assoc own behind back) in (
        makes all front (behind ++ back) first node count split,
        make all (front ++ own) back (first + size_of node) others (omega (arith, count, length-append front own, length-cells first node))
            (split ∙ sym (append_assoc front own (behind ++ back))),
      )

pub last-number : (body : ControlNode) → number_of 0 body ≡ length (cells_of body) - 1
last-number (Node kind token parts) = omega (arith, length-cells 0 (Node kind token parts))

pub make-body : (body : ControlNode) → IsNodeOf (cells_of body) (length (cells_of body) - 1) body
make-body body =
    subst (λ (number : ℕ). IsNodeOf (cells_of body) number body) (last-number body)
    (makes (cells_of body) [] [] 0 body refl (sym (append-nil (cells_of body))))

-- Each is a part once

-- cells of which the first has this number: each but the roots is a part of one
pub record IsForest (first : ℕ) (cells : List Cell) (roots : List ℕ) : Type 0 where
  pub before : (number place part : ℕ) → HasPart cells number place part → (first ≤ part) × (part < first + number)
  pub once : (number place other elsewhere part : ℕ) → HasPart cells number place part → HasPart cells other elsewhere part
      → (number ≡ other) × (place ≡ elsewhere)
  pub among : (place root : ℕ) → slice_get roots place ≡ Some root → (first ≤ root) × (root < first + length cells)
  pub apart : (place elsewhere root : ℕ) → slice_get roots place ≡ Some root → slice_get roots elsewhere ≡ Some root → place ≡ elsewhere
  pub free : (number place elsewhere root : ℕ) → HasPart cells number place root → slice_get roots elsewhere ≡ Some root → ⊥

no-forest : (first : ℕ) → IsForest first [] []
no-forest first =
    record {
      before = λ number place part has. absurd (none-some part has);
      once = λ number place other elsewhere part has also. absurd (none-some part has);
      among = λ place root at. absurd (none-some root at);
      apart = λ place elsewhere root at too. absurd (none-some root at);
      free = λ number place elsewhere root has at. none-some root at;
    }

-- what two lists have, one of them has
abbrev pub InEither : {X : Type 0} → (xs ys : List X) → (place : ℕ) → (x : X) → Type 0
InEither xs ys place x = ((place < length xs) × (slice_get xs place ≡ Some x)) ⊎ ((length xs ≤ place) × (slice_get ys (place - length xs) ≡ Some x))

pub in-either : {X : Type 0} (xs ys : List X) (place : ℕ) (x : X) → slice_get (xs ++ ys) place ≡ Some x → InEither xs ys place x
in-either [] ys place x at = inr (omega arith, ap (slice_get ys) (omega arith) ∙ at)
in-either (first ∷ xs) ys zero x at = inl (omega arith, at)
in-either (first ∷ xs) ys (suc place) x at = by (in-either xs ys place x at)
  where
    by : InEither xs ys place x → InEither (first ∷ xs) ys (suc place) x
    by (inl (within, is)) = inl (omega (arith, within), is)
    by (inr (past, is)) = inr (omega (arith, past), ap (slice_get ys) (omega arith) ∙ is)

abbrev pub PartInEither : (xs ys : List Cell) → (number place part : ℕ) → Type 0
PartInEither xs ys number place part =
    ((number < length xs) × HasPart xs number place part) ⊎ ((length xs ≤ number) × HasPart ys (number - length xs) place part)

pub part-in-either : (xs ys : List Cell) (number place part : ℕ) → HasPart (xs ++ ys) number place part → PartInEither xs ys number place part
part-in-either xs ys number place part has =
    elim (cases_lt number (length xs)) [
      | inl within ↦
          inl (within, ap (λ (cell : Cell). slice_get cell.parts place) (sym (get_or_append_left xs ys no_cell number within)) ∙ has)
      | inr past ↦
          inr (past, ap (λ (cell : Cell). slice_get cell.parts place) (sym (get_or-append_right xs ys (length xs) number no_cell refl past)) ∙ has)
    ]

-- one list behind the other
module _ (first : ℕ) (xs ys : List Cell) (roots others : List ℕ) (one : IsForest first xs roots) (two : IsForest (first + length xs) ys others) where
  joined-before : (number place part : ℕ) → PartInEither xs ys number place part → (first ≤ part) × (part < first + number)
  joined-before number place part (inl (within, has)) = one.before number place part has
  joined-before number place part (inr (past, has)) =
      let is = two.before (number - length xs) place part has in (omega (arith, is.0), omega (arith, past, is.1))

  joined-once : (number place other elsewhere part : ℕ) → PartInEither xs ys number place part → PartInEither xs ys other elsewhere part
      → (number ≡ other) × (place ≡ elsewhere)
  joined-once number place other elsewhere part (inl (within, has)) (inl (under, also)) = one.once number place other elsewhere part has also
  joined-once number place other elsewhere part (inl (within, has)) (inr (past, also)) =
      absurd (omega (arith, within, (one.before number place part has).1, (two.before (other - length xs) elsewhere part also).0))
  joined-once number place other elsewhere part (inr (past, has)) (inl (under, also)) =
      absurd (omega (arith, under, (one.before other elsewhere part also).1, (two.before (number - length xs) place part has).0))
  joined-once number place other elsewhere part (inr (past, has)) (inr (over, also)) =
      let is = two.once (number - length xs) place (other - length xs) elsewhere part has also in (omega (arith, past, over, is.0), is.1)

  joined-among : (place root : ℕ) → InEither roots others place root → (first ≤ root) × (root < first + length (xs ++ ys))
  joined-among place root (inl (within, at)) =
      let is = one.among place root at in (is.0, omega (arith, is.1, length-append xs ys))
  joined-among place root (inr (past, at)) =
      let is = two.among (place - length roots) root at in (omega (arith, is.0), omega (arith, is.1, length-append xs ys))

  joined-apart : (place elsewhere root : ℕ) → InEither roots others place root → InEither roots others elsewhere root → place ≡ elsewhere
  joined-apart place elsewhere root (inl (within, at)) (inl (under, too)) = one.apart place elsewhere root at too
  joined-apart place elsewhere root (inl (within, at)) (inr (past, too)) =
      absurd (omega (arith, (one.among place root at).1, (two.among (elsewhere - length roots) root too).0))
  joined-apart place elsewhere root (inr (past, at)) (inl (under, too)) =
      absurd (omega (arith, (one.among elsewhere root too).1, (two.among (place - length roots) root at).0))
  joined-apart place elsewhere root (inr (past, at)) (inr (over, too)) =
      omega (arith, past, over, two.apart (place - length roots) (elsewhere - length roots) root at too)

  joined-free : (number place elsewhere root : ℕ) → PartInEither xs ys number place root → InEither roots others elsewhere root → ⊥
  joined-free number place elsewhere root (inl (within, has)) (inl (under, at)) = one.free number place elsewhere root has at
  joined-free number place elsewhere root (inl (within, has)) (inr (past, at)) =
      omega (arith, within, (one.before number place root has).1, (two.among (elsewhere - length roots) root at).0)
  joined-free number place elsewhere root (inr (past, has)) (inl (under, at)) =
      omega (arith, (two.before (number - length xs) place root has).0, (one.among elsewhere root at).1)
  joined-free number place elsewhere root (inr (past, has)) (inr (over, at)) =
      two.free (number - length xs) place (elsewhere - length roots) root has at

  joined-forest : IsForest first (xs ++ ys) (roots ++ others)
  joined-forest =
      record {
        before = λ number place part has. joined-before number place part (part-in-either xs ys number place part has);
        once = λ number place other elsewhere part has also.
            joined-once number place other elsewhere part (part-in-either xs ys number place part has) (part-in-either xs ys other elsewhere part also);
        among = λ place root at. joined-among place root (in-either roots others place root at);
        apart = λ place elsewhere root at too.
            joined-apart place elsewhere root (in-either roots others place root at) (in-either roots others elsewhere root too);
        free = λ number place elsewhere root has at.
            joined-free number place elsewhere root (part-in-either xs ys number place root has) (in-either roots others elsewhere root at);
      }

-- a cell behind its parts
module _ (first : ℕ) (xs : List Cell) (own : Cell) (forest : IsForest first xs own.parts) where
  pub own-part : (number place part : ℕ) → HasPart (own ∷ []) number place part → (number ≡ 0) × (slice_get own.parts place ≡ Some part)
  own-part zero place part has = (refl, has)
  own-part (suc number) place part has = absurd (none-some part has)

  pub only-root : (place root : ℕ) → slice_get ((first + length xs) ∷ []) place ≡ Some root → (place ≡ 0) × (first + length xs ≡ root)
  only-root zero root at = (refl, same_Some (first + length xs) root at)
  only-root (suc place) root at = absurd (none-some root at)

  rooted-before : (number place part : ℕ) → PartInEither xs (own ∷ []) number place part → (first ≤ part) × (part < first + number) × (number ≤ length xs)
  rooted-before number place part (inl (within, has)) =
      let is = forest.before number place part has in (is.0, is.1, omega (arith, within))
  rooted-before number place part (inr (past, has)) =
      let is = own-part (number - length xs) place part has in
      let root = forest.among place part is.1 in (root.0, omega (arith, past, root.1), omega (arith, past, is.0))

  rooted-once : (number place other elsewhere part : ℕ) → PartInEither xs (own ∷ []) number place part → PartInEither xs (own ∷ []) other elsewhere part
      → (number ≡ other) × (place ≡ elsewhere)
  rooted-once number place other elsewhere part (inl (within, has)) (inl (under, also)) = forest.once number place other elsewhere part has also
  rooted-once number place other elsewhere part (inl (within, has)) (inr (past, also)) =
      absurd (forest.free number place elsewhere part has (own-part (other - length xs) elsewhere part also).1)
  rooted-once number place other elsewhere part (inr (past, has)) (inl (under, also)) =
      absurd (forest.free other elsewhere place part also (own-part (number - length xs) place part has).1)
  rooted-once number place other elsewhere part (inr (past, has)) (inr (over, also)) =
      let is = own-part (number - length xs) place part has in
      let too = own-part (other - length xs) elsewhere part also in (omega (arith, past, over, is.0, too.0), forest.apart place elsewhere part is.1 too.1)

  rooted-forest : IsForest first (xs ++ own ∷ []) ((first + length xs) ∷ [])
  rooted-forest =
      record {
        before = λ number place part has.
            let is = rooted-before number place part (part-in-either xs (own ∷ []) number place part has) in (is.0, is.1);
        once = λ number place other elsewhere part has also.
            rooted-once number place other elsewhere part (part-in-either xs (own ∷ []) number place part has)
            (part-in-either xs (own ∷ []) other elsewhere part also);
        among = λ place root at.
            let is = only-root place root at in (omega (arith, is.1), omega (arith, is.1, length-append xs (own ∷ [])));
        apart = λ place elsewhere root at too. omega (arith, (only-root place root at).0, (only-root elsewhere root too).0);
        free = λ number place elsewhere root has at.
            let is = rooted-before number place root (part-in-either xs (own ∷ []) number place root has) in
            omega (arith, is.1, is.2, (only-root elsewhere root at).1);
      }

mutual
  pub node-forest : (first : ℕ) (node : ControlNode) → IsForest first (cells_from first node) (number_of first node ∷ [])
  node-forest first (Node kind token parts) =
      subst (λ (count : ℕ). IsForest first (cells_from first (Node kind token parts)) ((first + count) ∷ [])) (length-all first parts)
      (rooted-forest first (all_from first parts) (record { kind = kind; token = token; parts = numbers_of first parts }) (all-forest first parts))

  pub all-forest : (first : ℕ) (parts : ControlNodes) → IsForest first (all_from first parts) (numbers_of first parts)
  all-forest first NoNodes = no-forest first
  all-forest first (Nodes node others) =
      joined-forest first (cells_from first node) (all_from (first + size_of node) others) (number_of first node ∷ []) (numbers_of (first + size_of node) others)
      (node-forest first node)
      (subst (λ (count : ℕ). IsForest (first + count) (all_from (first + size_of node) others) (numbers_of (first + size_of node) others))
      (sym (length-cells first node)) (all-forest (first + size_of node) others))

pub are-parts-once : (body : ControlNode) → EachIsPartOnce (cells_of body)
are-parts-once body =
    let forest = node-forest 0 body in
    record { before = λ number place part has. omega (arith, (forest.before number place part has).1); once = forest.once }

-- As they are kept

module _ (names others : NameId → List ℕ) where
  pub same-parts : (cells : List KeptCell) (number : ℕ) → (cell_at (cells_seen names cells) number).parts ≡ (cell_at (cells_seen others cells) number).parts
  same-parts [] number = refl
  same-parts (cell ∷ cells) zero = refl
  same-parts (cell ∷ cells) (suc number) = same-parts cells number

  -- whatever names are
  pub once-named : (cells : List KeptCell) → EachIsPartOnce (cells_seen names cells) → EachIsPartOnce (cells_seen others cells)
  once-named cells parts =
      let other : (number place part : ℕ) → HasPart (cells_seen others cells) number place part → HasPart (cells_seen names cells) number place part = λ number place part has.
      ap (λ (parts : List ℕ). slice_get parts place) (same-parts cells number) ∙ has
      in
      record {
        before = λ number place part has. parts.before number place part (other number place part has);
        once = λ number place elsewhere at part has also.
            parts.once number place elsewhere at part (other number place part has) (other elsewhere at part also);
      }

stand-behind : (names : NameId → List ℕ) (number : ℕ) (cells : List KeptCell)
    → ((k place part : ℕ) → HasPart (cells_seen names cells) k place part → part < number + k) → StandBehindParts number cells
stand-behind names number [] before = tt
stand-behind names number (cell ∷ cells) before = (
  (λ place default within.
      omega (arith, before 0 place (get_or cell.parts.items place default) (slice_get-get_or cell.parts.items place default within))),
  stand-behind names (number + 1) cells (λ k place part has. omega (arith, before (suc k) place part has)),
)

pub stand-behind-parts : (names : NameId → List ℕ) (cells : List KeptCell) → EachIsPartOnce (cells_seen names cells) → StandBehindParts 0 cells
stand-behind-parts names cells parts = stand-behind names 0 cells (λ k place part has. omega (arith, parts.before k place part has))
