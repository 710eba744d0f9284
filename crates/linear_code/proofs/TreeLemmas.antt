-- The cells of a body make one tree: none is left over, and those below a cell stand together before it.
use Rattle.std.proofs.Common.{◌≡◌, ℕ, zero, suc, ◌+◌, ◌-◌, ◌<◌, ◌≤◌, ◌⊎◌, inl, inr, List, [], ◌∷◌, ◌++◌, Some, length, slice_get, refl, sym, ap, subst, ◌∙◌, arith, length-append}
use Rattle.std.proofs.lemmas.Bool.{cases_lt}
use Rattle.std.proofs.lemmas.List.{length-map}
use Rattle.std.proofs.lemmas.Option.{none-some, same_Some}
use Rattle.sparse_model.specs.declared.ids.NameId.{NameId}
use Rattle.meaning_control.specs.States.{ControlNode, Node, ControlNodes, NoNodes, Nodes}
use Rattle.meaning_control.specs.laws.Cells.{Cell}
use Rattle.control_cells.specs.Exits.{HasPart}
use Rattle.control_cells.specs.Seen.{cell_at, cell_seen, cells_seen}
use Rattle.control_cells.specs.Trees.{IsOneTree, first_at, first_by, firsts_from, firsts_of}
use Rattle.control_cells.specs.declared.cell.Cell.{Cell as KeptCell}
use Rattle.control_cells.proofs.OrderLemmas.{begin_by, first_is}
use Rattle.linear_code.specs.Cells.{all_from, cells_from, cells_of, number_of, numbers_of, size_of, sizes_of}
use Rattle.linear_code.proofs.CellLemmas.{InEither, IsForest, PartInEither, all-forest, are-parts-once, in-either, last-number, length-all, length-cells, node-forest, once-named, only-root, own-part, part-in-either, same-parts}

-- Lists

slice-left : {X : Type 0} (xs ys : List X) (place : ℕ) (x : X) → slice_get xs place ≡ Some x → slice_get (xs ++ ys) place ≡ Some x
slice-left [] ys place x at = absurd (none-some x at)
slice-left (first ∷ xs) ys zero x at = at
slice-left (first ∷ xs) ys (suc place) x at = slice-left xs ys place x at

slice-right : {X : Type 0} (xs ys : List X) (place behind : ℕ) (x : X) → behind ≡ length xs + place → slice_get ys place ≡ Some x → slice_get (xs ++ ys) behind ≡ Some x
slice-right [] ys place behind x is at = ap (slice_get ys) (omega (arith, is)) ∙ at
slice-right (first ∷ xs) ys place zero x is at = absurd (omega (arith, is))
slice-right (first ∷ xs) ys place (suc behind) x is at = slice-right xs ys place behind x (omega (arith, is)) at

part-left : (xs ys : List Cell) (number place part : ℕ) → HasPart xs number place part → HasPart (xs ++ ys) number place part
part-left [] ys number place part has = absurd (none-some part has)
part-left (cell ∷ xs) ys zero place part has = has
part-left (cell ∷ xs) ys (suc number) place part has = part-left xs ys number place part has

part-right : (xs ys : List Cell) (number behind place part : ℕ) → behind ≡ length xs + number → HasPart ys number place part → HasPart (xs ++ ys) behind place part
part-right [] ys number behind place part is has = ap (λ (at : ℕ). slice_get (cell_at ys at).parts place) (omega (arith, is)) ∙ has
part-right (cell ∷ xs) ys number zero place part is has = absurd (omega (arith, is))
part-right (cell ∷ xs) ys number (suc behind) place part is has = part-right xs ys number behind place part (omega (arith, is)) has

-- Rows of trees

-- the cell with this number is a part of one of these, or one of the roots
abbrev IsPartOrRoot : List Cell → (roots : List ℕ) → (number : ℕ) → Type 0
IsPartOrRoot cells roots number = ((parent place : ℕ) × HasPart cells parent place number) ⊎ ((place : ℕ) × (slice_get roots place ≡ Some number))

module _ (begin : ℕ → ℕ) where
  -- of these cells, of which the first has this number, each begins where its first part does
  abbrev Begin : (first : ℕ) → List Cell → Type 0
  Begin first cells = (k : ℕ) (cell : Cell) → slice_get cells k ≡ Some cell → begin (first + k) ≡ begin_by begin (first + k) cell.parts

  begin-left : (first : ℕ) (xs ys : List Cell) → Begin first (xs ++ ys) → Begin first xs
  begin-left first xs ys each k cell at = each k cell (slice-left xs ys k cell at)

  begin-right : (first : ℕ) (xs ys : List Cell) → Begin first (xs ++ ys) → Begin (first + length xs) ys
  begin-right first xs ys each k cell at =
      subst (λ (number : ℕ). begin number ≡ begin_by begin number cell.parts) (omega arith) (each (length xs + k) cell (slice-right xs ys k (length xs + k) cell refl at))

  record IsRow (first : ℕ) (cells : List Cell) (roots : List ℕ) : Type 0 where
    -- without roots there are no cells
    pub none : length roots ≡ 0 → length cells ≡ 0
    -- those below each of them are among them
    pub low : (k : ℕ) → k < length cells → first ≤ begin (first + k)
    pub begins : (root : ℕ) → slice_get roots 0 ≡ Some root → begin root ≡ first
    pub whole : (k : ℕ) → k < length cells → IsPartOrRoot cells roots (first + k)
    pub within : (number place part : ℕ) → HasPart cells number place part → begin (first + number) ≤ begin part
    pub behind : (number place part other : ℕ) → HasPart cells number place part → part < other → other < first + number → part < begin other
    pub later : (place root other : ℕ) → slice_get roots place ≡ Some root → root < other → other < first + length cells → root < begin other

  no-row : (first : ℕ) → IsRow first [] []
  no-row first =
      record {
        none = λ is. refl;
        low = λ k within. absurd (omega (arith, within));
        begins = λ root at. absurd (none-some root at);
        whole = λ k within. absurd (omega (arith, within));
        within = λ number place part has. absurd (none-some part has);
        behind = λ number place part other has after before. absurd (none-some part has);
        later = λ place root other at after before. absurd (none-some root at);
      }

  -- one tree, and others behind it
  module _ (first : ℕ) (xs ys : List Cell) (own : ℕ) (others : List ℕ) (trees : IsForest first xs (own ∷ [])) (forest : IsForest (first + length xs) ys others)
      (one : IsRow first xs (own ∷ [])) (two : IsRow (first + length xs) ys others)
    where
      low-behind : (number : ℕ) → first + length xs ≤ number → number < first + length (xs ++ ys) → first + length xs ≤ begin number
      low-behind number past before =
          subst (λ (it : ℕ). first + length xs ≤ begin it) (omega (arith, past)) (two.low (number - (first + length xs)) (omega (arith, past, before, length-append xs ys)))

      joined-low : (k : ℕ) → k < length (xs ++ ys) → first ≤ begin (first + k)
      joined-low k within =
          elim (cases_lt k (length xs)) [
            | inl under ↦ one.low k under
            | inr past ↦ omega (arith, low-behind (first + k) (omega (arith, past)) (omega (arith, within)))
          ]

      whole-left : (number : ℕ) → IsPartOrRoot xs (own ∷ []) number → IsPartOrRoot (xs ++ ys) (own ∷ others) number
      whole-left number (inl (parent, place, has)) = inl (parent, place, part-left xs ys parent place number has)
      whole-left number (inr (place, at)) = inr (place, slice-left (own ∷ []) others place number at)

      whole-right : (number : ℕ) → IsPartOrRoot ys others number → IsPartOrRoot (xs ++ ys) (own ∷ others) number
      whole-right number (inl (parent, place, has)) = inl (length xs + parent, place, part-right xs ys parent (length xs + parent) place number refl has)
      whole-right number (inr (place, at)) = inr (suc place, at)

      joined-whole : (k : ℕ) → k < length (xs ++ ys) → IsPartOrRoot (xs ++ ys) (own ∷ others) (first + k)
      joined-whole k within =
          elim (cases_lt k (length xs)) [
            | inl under ↦ whole-left (first + k) (one.whole k under)
            | inr past ↦
                whole-right (first + k)
                (subst (IsPartOrRoot ys others) (omega (arith, past)) (two.whole (k - length xs) (omega (arith, past, within, length-append xs ys))))
          ]

      joined-within : (number place part : ℕ) → PartInEither xs ys number place part → begin (first + number) ≤ begin part
      joined-within number place part (inl (under, has)) = one.within number place part has
      joined-within number place part (inr (past, has)) =
          subst (λ (it : ℕ). begin it ≤ begin part) (omega (arith, past)) (two.within (number - length xs) place part has)

      joined-behind : (number place part other : ℕ) → PartInEither xs ys number place part → part < other → other < first + number → part < begin other
      joined-behind number place part other (inl (under, has)) after before = one.behind number place part other has after before
      joined-behind number place part other (inr (past, has)) after before =
          two.behind (number - length xs) place part other has after (omega (arith, past, before))

      joined-later : (place root other : ℕ) → InEither (own ∷ []) others place root → root < other → other < first + length (xs ++ ys) → root < begin other
      joined-later place root other (inl (under, at)) after before =
          elim (cases_lt other (first + length xs)) [
            | inl within ↦ one.later place root other at after within
            | inr past ↦ omega (arith, (trees.among place root at).1, low-behind other past before)
          ]
      joined-later place root other (inr (past, at)) after before =
          two.later (place - 1) root other at after (omega (arith, before, length-append xs ys))

      joined-row : IsRow first (xs ++ ys) (own ∷ others)
      joined-row =
          record {
            none = λ is. absurd (omega (arith, is));
            low = joined-low;
            begins = one.begins;
            whole = joined-whole;
            within = λ number place part has. joined-within number place part (part-in-either xs ys number place part has);
            behind = λ number place part other has. joined-behind number place part other (part-in-either xs ys number place part has);
            later = λ place root other at. joined-later place root other (in-either (own ∷ []) others place root at);
          }

  -- a cell behind its parts
  module _ (first : ℕ) (xs : List Cell) (own : Cell) (forest : IsForest first xs own.parts) (row : IsRow first xs own.parts)
      (is : begin (first + length xs) ≡ begin_by begin (first + length xs) own.parts)
    where
      begins-so : (parts : List ℕ) → own.parts ≡ parts → begin (first + length xs) ≡ first
      begins-so [] same = is ∙ ap (begin_by begin (first + length xs)) same ∙ omega (arith, row.none (ap length same))
      begins-so (part ∷ parts) same =
          is ∙ ap (begin_by begin (first + length xs)) same ∙ row.begins part (ap (λ (all : List ℕ). slice_get all 0) same)

      own-begin : begin (first + length xs) ≡ first
      own-begin = begins-so own.parts refl

      rooted-low : (k : ℕ) → k < length (xs ++ own ∷ []) → first ≤ begin (first + k)
      rooted-low k within =
          elim (cases_lt k (length xs)) [
            | inl under ↦ row.low k under
            | inr past ↦
                let last : first + length xs ≡ first + k = omega (arith, past, within, length-append xs (own ∷ [])) in
                omega (arith, own-begin, ap begin last)
          ]

      whole-below : (number : ℕ) → IsPartOrRoot xs own.parts number → IsPartOrRoot (xs ++ own ∷ []) ((first + length xs) ∷ []) number
      whole-below number (inl (parent, place, has)) = inl (parent, place, part-left xs (own ∷ []) parent place number has)
      whole-below number (inr (place, at)) = inl (length xs, place, part-right xs (own ∷ []) 0 (length xs) place number (omega arith) at)

      rooted-whole : (k : ℕ) → k < length (xs ++ own ∷ []) → IsPartOrRoot (xs ++ own ∷ []) ((first + length xs) ∷ []) (first + k)
      rooted-whole k within =
          elim (cases_lt k (length xs)) [
            | inl under ↦ whole-below (first + k) (row.whole k under)
            | inr past ↦ inr (0, ap (λ (it : ℕ). Some it) (omega (arith, past, within, length-append xs (own ∷ []))))
          ]

      part-low : (place part : ℕ) → slice_get own.parts place ≡ Some part → first ≤ begin part
      part-low place part at =
          let among = forest.among place part at in
          subst (λ (it : ℕ). first ≤ begin it) (omega (arith, among.0)) (row.low (part - first) (omega (arith, among.0, among.1)))

      rooted-within : (number place part : ℕ) → PartInEither xs (own ∷ []) number place part → begin (first + number) ≤ begin part
      rooted-within number place part (inl (under, has)) = row.within number place part has
      rooted-within number place part (inr (past, has)) =
          let at = own-part first xs own forest (number - length xs) place part has in
          let last : first + length xs ≡ first + number = omega (arith, past, at.0) in
          omega (arith, own-begin, ap begin last, part-low place part at.1)

      rooted-behind : (number place part other : ℕ) → PartInEither xs (own ∷ []) number place part → part < other → other < first + number → part < begin other
      rooted-behind number place part other (inl (under, has)) after before = row.behind number place part other has after before
      rooted-behind number place part other (inr (past, has)) after before =
          let at = own-part first xs own forest (number - length xs) place part has in
          row.later place part other at.1 after (omega (arith, past, at.0, before))

      rooted-row : IsRow first (xs ++ own ∷ []) ((first + length xs) ∷ [])
      rooted-row =
          record {
            none = λ no. absurd (omega (arith, no));
            low = rooted-low;
            begins = λ root at. ap begin (sym (only-root first xs own forest 0 root at).1) ∙ own-begin;
            whole = rooted-whole;
            within = λ number place part has. rooted-within number place part (part-in-either xs (own ∷ []) number place part has);
            behind = λ number place part other has. rooted-behind number place part other (part-in-either xs (own ∷ []) number place part has);
            later = λ place root other at after before.
                absurd (omega (arith, (only-root first xs own forest place root at).1, after, before, length-append xs (own ∷ [])));
          }

  mutual
    node-row : (first : ℕ) (node : ControlNode) → Begin first (cells_from first node) → IsRow first (cells_from first node) (number_of first node ∷ [])
    node-row first (Node kind token parts) each =
        let xs = all_from first parts in
        let own : Cell = record { kind = kind; token = token; parts = numbers_of first parts } in
        subst (λ (count : ℕ). IsRow first (cells_from first (Node kind token parts)) ((first + count) ∷ [])) (length-all first parts)
        (rooted-row first xs own (all-forest first parts) (all-row first parts (begin-left first xs (own ∷ []) each))
        (each (length xs) own (slice-right xs (own ∷ []) 0 (length xs) own (omega arith) refl)))

    all-row : (first : ℕ) (parts : ControlNodes) → Begin first (all_from first parts) → IsRow first (all_from first parts) (numbers_of first parts)
    all-row first NoNodes each = no-row first
    all-row first (Nodes node others) each =
        let xs = cells_from first node in
        let ys = all_from (first + size_of node) others in
        let next : first + size_of node ≡ first + length xs = omega (arith, length-cells first node) in
        joined-row first xs ys (number_of first node) (numbers_of (first + size_of node) others) (node-forest first node)
        (subst (λ (from : ℕ). IsForest from ys (numbers_of (first + size_of node) others)) next (all-forest (first + size_of node) others))
        (node-row first node (begin-left first xs ys each))
        (subst (λ (from : ℕ). IsRow from ys (numbers_of (first + size_of node) others)) next
        (all-row (first + size_of node) others (subst (λ (from : ℕ). Begin from ys) (sym next) (begin-right first xs ys each))))

-- One tree

pub are-one-tree : (body : ControlNode) → IsOneTree (cells_of body)
are-one-tree body =
    record {
      some = some body;
      each = are-parts-once body;
      whole = λ part within.
          by part within (subst (λ (at : ℕ). IsPartOrRoot (cells_of body) (number_of 0 body ∷ []) at) (from-zero part) (row.whole part (omega (arith, within))));
      within = λ number place part has. subst (λ (at : ℕ). first_at (firsts_of (cells_of body)) at ≤ first_at (firsts_of (cells_of body)) part) (from-zero number) (row.within number place part has);
      behind = λ number place part other has after before. row.behind number place part other has after (omega (arith, before));
    }
  where
    from-zero : (number : ℕ) → 0 + number ≡ number
    from-zero number = omega arith

    row : IsRow (first_at (firsts_of (cells_of body))) 0 (cells_of body) (number_of 0 body ∷ [])
    row =
        node-row (first_at (firsts_of (cells_of body))) 0 body
        (λ k cell at.
        subst (λ (number : ℕ). first_at (firsts_of (cells_of body)) number ≡ begin_by (first_at (firsts_of (cells_of body))) number cell.parts) (sym (from-zero k))
        (first_is (cells_of body) (are-parts-once body) k cell at))

    some : (node : ControlNode) → 0 < length (cells_of node)
    some (Node kind token parts) = omega (arith, length-cells 0 (Node kind token parts))

    by : (part : ℕ) → part + 1 < length (cells_of body) → IsPartOrRoot (cells_of body) (number_of 0 body ∷ []) part
        → (number place : ℕ) × HasPart (cells_of body) number place part
    by part within (inl has) = has
    by part within (inr (zero, at)) = absurd (omega (arith, within, last-number body, same_Some (number_of 0 body) part at))
    by part within (inr (suc place, at)) = absurd (none-some part at)

-- As they are kept

module _ (names others : NameId → List ℕ) where
  same-firsts : (firsts : List ℕ) (cells : List KeptCell) → firsts_from firsts (cells_seen names cells) ≡ firsts_from firsts (cells_seen others cells)
  same-firsts firsts [] = refl
  same-firsts firsts (cell ∷ cells) = same-firsts (firsts ++ first_by firsts (length firsts) cell.parts.items ∷ []) cells

  -- whatever names are
  pub tree-named : (cells : List KeptCell) → IsOneTree (cells_seen names cells) → IsOneTree (cells_seen others cells)
  tree-named cells tree =
      let to : (number place part : ℕ) → HasPart (cells_seen names cells) number place part → HasPart (cells_seen others cells) number place part = λ number place part has.
      ap (λ (parts : List ℕ). slice_get parts place) (same-parts others names cells number) ∙ has
      in
      let from : (number place part : ℕ) → HasPart (cells_seen others cells) number place part → HasPart (cells_seen names cells) number place part = λ number place part has.
      ap (λ (parts : List ℕ). slice_get parts place) (same-parts names others cells number) ∙ has
      in
      let count : length (cells_seen others cells) ≡ length (cells_seen names cells) = length-map cells (cell_seen others) ∙ sym (length-map cells (cell_seen names)) in
      let same : firsts_of (cells_seen names cells) ≡ firsts_of (cells_seen others cells) = same-firsts [] cells in
      record {
        some = omega (arith, tree.some, count);
        each = once-named names others cells tree.each;
        whole = λ part within. let (number, place, has) = tree.whole part (omega (arith, within, count)) in (number, place, to number place part has);
        within = λ number place part has.
            subst (λ (firsts : List ℕ). first_at firsts number ≤ first_at firsts part) same (tree.within number place part (from number place part has));
        behind = λ number place part other has after before.
            subst (λ (firsts : List ℕ). part < first_at firsts other) same (tree.behind number place part other (from number place part has) after before);
      }
