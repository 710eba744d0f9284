-- The labels of a body, and the blocks before them.
use Rattle.std.proofs.Common.{◌≡◌, inl, inr, ℕ, suc, ◌+◌, ℤ, Bool, true, false, List, [], ◌∷◌, ◌++◌, map, cond, slice_get, Option, Some, None, refl, sym, ap, subst, ◌∙◌, if◌then◌else◌, arith}
use Rattle.std.specs.List.{AllZip, filter}
use Rattle.meaning_paths.specs.Walks.{IsIn}
use Rattle.meaning_control.specs.Kinds.{ControlKind, is_statement, is_body, is_label, is_case}
use Rattle.meaning_control.specs.Kinds as kinds
use Rattle.meaning_control.specs.Choices.{places_of, or_else, or_all, is_default, is_numbered, has_number, picked}
use Rattle.meaning_control.specs.States.{ControlNode, Node, ControlNodes, NoNodes, Nodes, kind_of, parts_of, Frame, frame_of, State, Before, Labelled, labels_at, labels_among, labels_in, cases_in, labels_seen, ends_cases}
use Rattle.meaning_control.specs.laws.Cells.{Cell, IsNodeOf, AreNodesOf, is_without, Tables, LabelledBlock, found_in, found_among, AreTables}
use Rattle.meaning_control.proofs.Standing.{HasCell, StandsIn, BlockOf, both_arms}

-- Lists, element by element

pub zipped_append : {A B : Type 0} (R : A → B → Type 0) (xs ys : List A) (vs ws : List B) → AllZip R xs vs → AllZip R ys ws → AllZip R (xs ++ ys) (vs ++ ws)
zipped_append R [] ys [] ws front back = back
zipped_append R [] ys (v ∷ vs) ws front back = absurd front
zipped_append R (x ∷ xs) ys [] ws front back = absurd front
zipped_append R (x ∷ xs) ys (v ∷ vs) ws front back = (front.0, zipped_append R xs ys vs ws front.1 back)

pub zipped_into : {A B : Type 0} (R : A → B → Type 0) (xs : List A) (vs : List B) → AllZip R xs vs → (x : A) → IsIn x xs → (v : B) × IsIn v vs × R x v
zipped_into R [] vs zipped x there = absurd there
zipped_into R (y ∷ xs) [] zipped x there = absurd zipped
zipped_into R (y ∷ xs) (v ∷ vs) zipped x (inl is) = (v, inl refl, subst (λ now. R now v) (sym is) zipped.0)
zipped_into R (y ∷ xs) (v ∷ vs) zipped x (inr there) = let (w, within, stands) = zipped_into R xs vs zipped.1 x there in (w, inr within, stands)

pub zipped_from : {A B : Type 0} (R : A → B → Type 0) (xs : List A) (vs : List B) → AllZip R xs vs → (v : B) → IsIn v vs → (x : A) × IsIn x xs × R x v
zipped_from R [] [] zipped v there = absurd there
zipped_from R [] (w ∷ vs) zipped v there = absurd zipped
zipped_from R (y ∷ xs) [] zipped v there = absurd there
zipped_from R (y ∷ xs) (w ∷ vs) zipped v (inl is) = (y, inl refl, subst (λ now. R y now) (sym is) zipped.0)
zipped_from R (y ∷ xs) (w ∷ vs) zipped v (inr there) = let (x, within, stands) = zipped_from R xs vs zipped.1 v there in (x, inr within, stands)

-- Choices

module _ {A B : Type 0} (R : A → B → Type 0) where
  -- two labels of one kind
  abbrev pub AreLabels : List (ControlKind × A) → List (ControlKind × B) → Type 0
  AreLabels labels others = AllZip (λ label other. (label.0 ≡ other.0) × R label.1 other.1) labels others

  -- one more on both sides, or none
  one_more : (test : Bool) (label : ControlKind × A) (other : ControlKind × B) (labels : List (ControlKind × A)) (others : List (ControlKind × B)) → R label.1 other.1
      → AllZip R (map (λ it. it.1) labels) (map (λ it. it.1) others)
      → AllZip R (map (λ it. it.1) (cond test (label ∷ labels) labels)) (map (λ it. it.1) (cond test (other ∷ others) others))
  one_more true label other labels others stands zipped = (stands, zipped)
  one_more false label other labels others stands zipped = zipped

  chosen_one : (is_such : ControlKind → Bool) (label : ControlKind × A) (other : ControlKind × B) (labels : List (ControlKind × A)) (others : List (ControlKind × B))
      → label.0 ≡ other.0 → R label.1 other.1 → AllZip R (places_of is_such labels) (places_of is_such others)
      → AllZip R (places_of is_such (label ∷ labels)) (places_of is_such (other ∷ others))
  chosen_one is_such label other labels others same stands behind =
      subst
      (λ kind.
      AllZip R (places_of is_such (label ∷ labels)) (map (λ it. it.1) (cond (is_such kind) (other ∷ filter (λ it. is_such it.0) others) (filter (λ it. is_such it.0) others))))
      same
      (one_more (is_such label.0) label other (filter (λ it. is_such it.0) labels) (filter (λ it. is_such it.0) others) stands behind)

  pub chosen : (is_such : ControlKind → Bool) (labels : List (ControlKind × A)) (others : List (ControlKind × B)) → AreLabels labels others
      → AllZip R (places_of is_such labels) (places_of is_such others)
  chosen is_such [] [] are = tt
  chosen is_such [] (other ∷ others) are = absurd are
  chosen is_such (label ∷ labels) [] are = absurd are
  chosen is_such (label ∷ labels) (other ∷ others) are =
      chosen_one is_such label other labels others are.0.0 are.0.1 (chosen is_such labels others are.1)

  zipped_or_else : (places : List A) (others : List B) (past : A) (other : B) → AllZip R places others → R past other
      → AllZip R (or_else places past) (or_else others other)
  zipped_or_else [] [] past other zipped stands = (stands, tt)
  zipped_or_else [] (v ∷ vs) past other zipped stands = absurd zipped
  zipped_or_else (x ∷ xs) [] past other zipped stands = absurd zipped
  zipped_or_else (x ∷ xs) (v ∷ vs) past other zipped stands = zipped

  zipped_or_all : (places behind : List A) (others behind_others : List B) → AllZip R places others → AllZip R behind behind_others
      → AllZip R (or_all places behind) (or_all others behind_others)
  zipped_or_all [] behind [] behind_others zipped stands = stands
  zipped_or_all [] behind (v ∷ vs) behind_others zipped stands = absurd zipped
  zipped_or_all (x ∷ xs) behind [] behind_others zipped stands = absurd zipped
  zipped_or_all (x ∷ xs) behind (v ∷ vs) behind_others zipped stands = zipped

  pub picks : (number : Option ℤ) (labels : List (ControlKind × A)) (others : List (ControlKind × B)) (past : A) (other : B) → AreLabels labels others → R past other
      → AllZip R (picked number labels past) (picked number others other)
  picks None labels others past other are stands =
      zipped_append R (places_of has_number labels) (or_else (places_of is_default labels) past) (places_of has_number others) (or_else (places_of is_default others) other)
      (chosen has_number labels others are)
      (zipped_or_else (places_of is_default labels) (places_of is_default others) past other (chosen is_default labels others are) stands)
  picks (Some number) labels others past other are stands =
      zipped_or_all (places_of (is_numbered number) labels) (or_else (places_of is_default labels) past) (places_of (is_numbered number) others) (or_else (places_of is_default others) other)
      (chosen (is_numbered number) labels others are)
      (zipped_or_else (places_of is_default labels) (places_of is_default others) past other (chosen is_default labels others are) stands)

-- In a body

-- and of two that are taken by one test, where the first ones stand so only if it holds
arms_where : {A B : Type 0} (R : A → B → Type 0) (test : Bool) (first second : A) (third fourth : B) → (test ≡ true → R first third) → R second fourth
    → R (if test then first else second) (if test then third else fourth)
arms_where R true first second third fourth when_true when_false = when_true refl
arms_where R false first second third fourth when_true when_false = when_false

labels_are_statements : (kind : ControlKind) → is_label kind ≡ true → is_statement kind ≡ true
labels_are_statements (kinds.Label name) is = refl
labels_are_statements kind is = absurd (cc)

cases_are_statements : (kind : ControlKind) → is_case kind ≡ true → is_statement kind ≡ true
cases_are_statements (kinds.Case number) is = refl
cases_are_statements kinds.Default is = refl
cases_are_statements kind is = absurd (cc)

module _ (cells : List Cell) (root closing : ℕ) (tables : Tables) (are : AreTables cells root closing tables) where
  abbrev Stands : State → ℕ → Type 0
  Stands state block = BlockOf cells root closing tables are state block

  abbrev Found : List Labelled → List LabelledBlock → Type 0
  Found labels found = AreLabels Stands labels found

  -- these are the parts of a cell from this place on
  abbrev PartsFrom : (all : List ℕ) → (place : ℕ) → List ℕ → Type 0
  PartsFrom all place numbers = (inside whole : ℕ) → whole ≡ inside + place → slice_get numbers inside ≡ slice_get all whole

  module _ (is_sought ends : ControlKind → Bool) (statements : (kind : ControlKind) → is_sought kind ≡ true → is_statement kind ≡ true) (found : ℕ → List LabelledBlock)
      (holds : (number : ℕ) (cell : Cell) → slice_get cells number ≡ Some cell → found number ≡ found_among cells is_sought ends tables.entry found cell.parts)
    where
      mutual
        finds_at : (node : ControlNode) (number : ℕ) (frames : List Frame) → IsNodeOf cells number node → StandsIn cells root closing tables are number frames
            → Found (labels_at is_sought ends node frames) (found_in is_sought ends tables.entry found number (slice_get cells number))
        finds_at (Node kind token parts) number frames (numbers, is, are_parts) stands =
            subst (λ now. Found (labels_at is_sought ends (Node kind token parts) frames) (found_in is_sought ends tables.entry found number now)) (sym is)
            (zipped_append (λ label other. (label.0 ≡ other.0) × Stands label.1 other.1)
            (if is_sought kind then (kind, Before (Node kind token parts) frames) ∷ [] else [])
            (if ends kind then [] else labels_among is_sought ends parts (Node kind token parts) 0 frames)
            (if is_sought kind then (kind, tables.entry number) ∷ [] else [])
            (if ends kind then [] else found number)
            (arms_where Found (is_sought kind) ((kind, Before (Node kind token parts) frames) ∷ []) [] ((kind, tables.entry number) ∷ []) []
            (λ test. ((refl, (number, numbers, (is, are_parts), stands, ap (λ it. if it then true else is_without numbers) (statements kind test), refl)), tt)) tt)
            (both_arms Found (ends kind) [] (labels_among is_sought ends parts (Node kind token parts) 0 frames) [] (found number) tt
            (subst (λ now. Found (labels_among is_sought ends parts (Node kind token parts) 0 frames) now) (sym (holds number _ is))
            (finds_among parts numbers (Node kind token parts) 0 number numbers frames are_parts (is, are_parts)
            (λ inside whole at. ap (slice_get numbers) (omega (arith, at))) stands))))

        finds_among : (parts : ControlNodes) (numbers : List ℕ) (node : ControlNode) (place number : ℕ) (all : List ℕ) (frames : List Frame) → AreNodesOf cells numbers parts
            → HasCell cells root closing tables are number node all → PartsFrom all place numbers → StandsIn cells root closing tables are number frames
            → Found (labels_among is_sought ends parts node place frames) (found_among cells is_sought ends tables.entry found numbers)
        finds_among NoNodes [] node place number all frames are_parts has from stands = tt
        finds_among NoNodes (part ∷ numbers) node place number all frames are_parts has from stands = absurd are_parts
        finds_among (Nodes first others) [] node place number all frames are_parts has from stands = absurd are_parts
        finds_among (Nodes first others) (part ∷ numbers) node place number all frames are_parts has from stands =
            zipped_append (λ label other. (label.0 ≡ other.0) × Stands label.1 other.1)
            (labels_at is_sought ends first (frame_of node place ∷ frames))
            (labels_among is_sought ends others node (suc place) frames)
            (found_in is_sought ends tables.entry found part (slice_get cells part))
            (found_among cells is_sought ends tables.entry found numbers)
            (finds_at first part (frame_of node place ∷ frames) are_parts.0 (number, all, has, sym (from 0 place (omega arith)), stands))
            (finds_among others numbers node (suc place) number all frames are_parts.1 has (λ inside whole at. from (suc inside) whole (omega (arith, at))) stands)

      -- those in a cell
      pub finds : (node : ControlNode) (number : ℕ) (numbers : List ℕ) (frames : List Frame) → HasCell cells root closing tables are number node numbers
          → StandsIn cells root closing tables are number frames → Found (labels_among is_sought ends (parts_of node) node 0 frames) (found number)
      finds node number numbers frames has stands =
          subst (λ now. Found (labels_among is_sought ends (parts_of node) node 0 frames) now) (sym (holds number _ has.0))
          (finds_among (parts_of node) numbers node 0 number numbers frames has.1 has (λ inside whole at. ap (slice_get numbers) (omega (arith, at))) stands)

  pub finds_cases : (node : ControlNode) (number : ℕ) (numbers : List ℕ) (frames : List Frame) → HasCell cells root closing tables are number node numbers
      → StandsIn cells root closing tables are number frames → Found (cases_in node frames) (tables.cases number)
  finds_cases = finds is_case ends_cases cases_are_statements tables.cases are.cases_of

  pub sees : (frames : List Frame) (number : ℕ) → StandsIn cells root closing tables are number frames → Found (labels_seen frames) (tables.seen number)
  sees [] number is = subst (λ now. Found [] now) (sym (ap tables.seen is ∙ are.root_seen)) tt
  sees (frame ∷ frames) number (parent, numbers, has, at, above) =
      subst (λ now. Found (labels_seen (frame ∷ frames)) now) (sym (are.seen_part parent frame.place number _ has.0 at))
      (zipped_append (λ label other. (label.0 ≡ other.0) × Stands label.1 other.1)
      (if is_body (kind_of frame.node) then labels_in frame.node frames else []) (labels_seen frames)
      (if is_body (kind_of frame.node) then tables.labels parent else []) (tables.seen parent)
      (both_arms Found (is_body (kind_of frame.node)) (labels_in frame.node frames) [] (tables.labels parent) []
      (finds is_label is_body labels_are_statements tables.labels are.labels_of frame.node parent numbers frames has above) tt)
      (sees frames parent above))
