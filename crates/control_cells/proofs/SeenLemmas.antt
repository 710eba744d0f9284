-- The bodies around a cell are those around its own cell, and that one if it is a body.
use Rattle.std.proofs.Common.{◌≡◌, ◌⊎◌, inl, inr, ℕ, zero, suc, ◌+◌, ◌-◌, ◌<◌, ◌≤◌, Bool, true, false, ◌&&◌, List, [], ◌∷◌, ◌++◌, length, refl, sym, ap, subst, ◌∙◌, arith, if◌then◌else◌}
use Rattle.std.specs.Prelude.{nat_le, nat_lt}
use Rattle.std.proofs.lemmas.Bool.{and_from, and_parts, cases_Bool, cases_order, cond-false, cond-true, le-leb, leb-true, lt-leb, lt-ltb, le-ltb, ltb-true}
use Rattle.meaning_paths.specs.Walks.{IsIn}
use Rattle.meaning_control.specs.Kinds.{is_body}
use Rattle.meaning_control.specs.laws.Cells.{Cell, LabelledBlock}
use Rattle.control_cells.specs.Exits.{HasPart}
use Rattle.control_cells.specs.Seen.{cell_at}
use Rattle.control_cells.specs.Tables.{is_around, seen_among}
use Rattle.control_cells.specs.Trees.{IsOneTree, first_at, firsts_of}
use Rattle.control_cells.proofs.FoundLemmas.{in_back, in_either, in_front}
use Rattle.control_cells.proofs.OrderLemmas.{first_below}
use Rattle.control_cells.proofs.PassLemmas.{number_within}

module _ (cells : List Cell) (tree : IsOneTree cells) where
  abbrev first : ℕ → ℕ
  first number = first_at (firsts_of cells) number

  -- cells that begin before one that stands before them begin before what is below it
  nested : (left number later : ℕ) → later ≤ number + left → number < later → later < length cells → first later ≤ number → first later ≤ first number
  nested zero number later far before within begins = absurd (omega (arith, far, before))
  nested (suc left) number later far before within begins =
      let inner : number + 1 < length cells = omega (arith, before, within) in
      let (parent, place, at) = tree.whole number inner in
      elim (cases_order parent later) [
        | inl same ↦ subst (λ it. first it ≤ first number) same (tree.within parent place number at)
        | inr apart ↦
            elim apart [
              | inl below ↦
                  omega (
                    arith,
                    tree.within parent place number at,
                    nested left parent later (omega (arith, far, tree.each.before parent place number at)) below within (omega (arith, begins, tree.each.before parent place number at)),
                  )
              | inr behind ↦ absurd (omega (arith, begins, tree.behind parent place number later at before behind))
            ]
      ]

  around_from : (body number : ℕ) → is_around cells (firsts_of cells) body number ≡ true → (number < body) × (is_body (cell_at cells body).kind ≡ true) × (first body ≤ number)
  around_from body number is =
      let (later, others) = and_parts (nat_lt number body) (is_body (cell_at cells body).kind && nat_le (first body) number) is in
      let (kind, begins) = and_parts (is_body (cell_at cells body).kind) (nat_le (first body) number) others in
      (ltb-true number body later, kind, leb-true (first body) number begins)

  around_to : (body number : ℕ) → number < body → is_body (cell_at cells body).kind ≡ true → first body ≤ number → is_around cells (firsts_of cells) body number ≡ true
  around_to body number later kind begins =
      and_from (nat_lt number body) (is_body (cell_at cells body).kind && nat_le (first body) number) (lt-ltb number body later)
      (and_from (is_body (cell_at cells body).kind) (nat_le (first body) number) kind (le-leb (first body) number begins))

  alike : (one other : Bool) → (one ≡ true → other ≡ true) → (other ≡ true → one ≡ true) → one ≡ other
  alike true other to from = sym (to refl)
  alike false true to from = from refl
  alike false false to from = refl

  not_around : (body number : ℕ) → (is_around cells (firsts_of cells) body number ≡ true → ⊥) → is_around cells (firsts_of cells) body number ≡ false
  not_around body number none =
      elim (cases_Bool (is_around cells (firsts_of cells) body number)) [
        | inl is ↦ absurd (none is)
        | inr other ↦ other
      ]

  module _ (labels : ℕ → List LabelledBlock) where
    abbrev among : (number count body : ℕ) → List LabelledBlock
    among number count body = seen_among cells (firsts_of cells) labels number count body

    abbrev own : (number body : ℕ) → List LabelledBlock
    own number body = if is_around cells (firsts_of cells) body number then labels body else []

    own_none : (number body : ℕ) → (is_around cells (firsts_of cells) body number ≡ true → ⊥) → own number body ≡ []
    own_none number body none = cond-false (is_around cells (firsts_of cells) body number) (labels body) [] (not_around body number none)

    -- none is around the last cell
    pub none_around : (number count body : ℕ) → body + count ≤ number + 1 → among number count body ≡ []
    none_around number zero body past = refl
    none_around number (suc count) body past =
        ap (λ front. front ++ among number count (body + 1)) (own_none number body (λ is. absurd (omega (arith, past, (around_from body number is).0))))
        ∙ none_around number count (body + 1) (omega (arith, past))

    -- A part and its cell
    module _ (number place part : ℕ) (at : HasPart cells number place part) where
      before : part < number
      before = tree.each.before number place part at

      first_of_part : first part ≤ part
      first_of_part = first_below cells tree.each part (omega (arith, before, number_within cells number place part at))

      -- behind the cell the same are around
      later_same : (count body : ℕ) → number < body → body + count ≤ length cells → among part count body ≡ among number count body
      later_same zero body later within = refl
      later_same (suc count) body later within =
          ap (λ test. (if test then labels body else []) ++ among part count (body + 1))
          (alike (is_around cells (firsts_of cells) body part) (is_around cells (firsts_of cells) body number)
          (λ is. let (behind, kind, begins) = around_from body part is in around_to body number later kind (omega (arith, begins, before)))
          (λ is.
          let (behind, kind, begins) = around_from body number is in
          around_to body part (omega (arith, before, later)) kind
          (omega (arith, nested (length cells) number body (omega (arith, within)) later (omega (arith, within)) begins, tree.within number place part at, first_of_part))))
          ∙ ap (λ behind. own number body ++ behind) (later_same count (body + 1) (omega (arith, later)) (omega (arith, within)))

      abbrev of_cell : List LabelledBlock
      of_cell = if is_body (cell_at cells number).kind then labels number else []

      -- the cell is around its part, if it is a body
      around_part : is_around cells (firsts_of cells) number part ≡ is_body (cell_at cells number).kind
      around_part =
          alike (is_around cells (firsts_of cells) number part) (is_body (cell_at cells number).kind) (λ is. (around_from number part is).1)
          (λ kind. around_to number part before kind (omega (arith, tree.within number place part at, first_of_part)))

      reaches : (count body : ℕ) → body ≤ number → number < body + count → body + count ≤ length cells → among part count body ≡ of_cell ++ among number count body
      reaches zero body from to within = absurd (omega (arith, from, to))
      reaches (suc count) body from to within =
          elim (cases_order body number) [
            | inl same ↦
                ap (λ test. (if test then labels body else []) ++ among part count (body + 1)) (ap (λ it. is_around cells (firsts_of cells) it part) same ∙ around_part)
                ∙ ap (λ it. (if is_body (cell_at cells number).kind then labels it else []) ++ among part count (body + 1)) same
                ∙ ap (λ behind. of_cell ++ behind)
                (later_same count (body + 1) (omega (arith, same)) (omega (arith, within))
                ∙ ap (λ front. front ++ among number count (body + 1)) (sym (own_none number body (λ is. absurd (omega (arith, same, (around_from body number is).0))))))
            | inr apart ↦
                elim apart [
                  | inl earlier ↦
                      ap (λ front. front ++ among part count (body + 1)) (own_none part body (not_yet earlier))
                      ∙ reaches count (body + 1) (omega (arith, earlier)) (omega (arith, to)) (omega (arith, within))
                      ∙ ap (λ front. of_cell ++ (front ++ among number count (body + 1)))
                      (sym (own_none number body (λ is. absurd (omega (arith, earlier, (around_from body number is).0)))))
                  | inr past ↦ absurd (omega (arith, past, from))
                ]
          ]
        where
          not_yet : body < number → is_around cells (firsts_of cells) body part ≡ true → ⊥
          not_yet earlier is =
              let (behind, kind, begins) = around_from body part is in
              omega (arith, begins, tree.behind number place part body at behind earlier)

      pub seen_of_part : among part (length cells) 0 ≡ of_cell ++ among number (length cells) 0
      seen_of_part = reaches (length cells) 0 (omega arith) (omega (arith, number_within cells number place part at)) (omega arith)

    -- Members

    pub record IsSeenIn (x : LabelledBlock) (number : ℕ) : Type 0 where
      pub body : ℕ
      pub later : number < body
      pub within : body < length cells
      pub kind : is_body (cell_at cells body).kind ≡ true
      pub begins : first body ≤ number
      pub there : IsIn x (labels body)

    pub seen_from : (number count body : ℕ) (x : LabelledBlock) → body + count ≤ length cells → IsIn x (among number count body) → IsSeenIn x number
    seen_from number zero body x within there = absurd there
    seen_from number (suc count) body x within there =
        elim (in_either x (own number body) (among number count (body + 1)) there) [
          | inl here ↦ this here
          | inr behind ↦ seen_from number count (body + 1) x (omega (arith, within)) behind
        ]
      where
        this : IsIn x (own number body) → IsSeenIn x number
        this here =
            elim (cases_Bool (is_around cells (firsts_of cells) body number)) [
              | inl is ↦
                  let (later, kind, begins) = around_from body number is in
                  record {
                    body = body;
                    later = later;
                    within = omega (arith, within);
                    kind = kind;
                    begins = begins;
                    there = subst (λ list. IsIn x list) (cond-true (is_around cells (firsts_of cells) body number) (labels body) [] is) here;
                  }
              | inr none ↦ absurd (subst (λ list. IsIn x list) (cond-false (is_around cells (firsts_of cells) body number) (labels body) [] none) here)
            ]

    pub seen_to : (number count body : ℕ) (x : LabelledBlock) (seen : IsSeenIn x number) → body ≤ seen.body → seen.body < body + count → IsIn x (among number count body)
    seen_to number zero body x seen from to = absurd (omega (arith, from, to))
    seen_to number (suc count) body x seen from to =
        elim (cases_order body seen.body) [
          | inl same ↦
              in_front x (own number body) (among number count (body + 1))
              (subst (λ it. IsIn x (own number it)) (sym same)
              (subst (λ list. IsIn x list)
              (sym (cond-true (is_around cells (firsts_of cells) seen.body number) (labels seen.body) [] (around_to seen.body number seen.later seen.kind seen.begins))) seen.there))
          | inr apart ↦
              elim apart [
                | inl earlier ↦ in_back x (own number body) (among number count (body + 1)) (seen_to number count (body + 1) x seen (omega (arith, earlier)) (omega (arith, to)))
                | inr past ↦ absurd (omega (arith, past, from))
              ]
        ]
