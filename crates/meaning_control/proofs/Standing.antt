-- Where control stands in a body, and the block of a flow that stands for it.
use Rattle.std.proofs.Common.{◌≡◌, inr, ℕ, zero, suc, Bool, true, false, List, [], ◌∷◌, length, slice_get, Option, Some, None, refl, sym, ap, subst, ◌∙◌, if◌then◌else◌}
use Rattle.meaning_control.specs.Kinds.{is_statement, is_broken, is_loop_body}
use Rattle.meaning_control.specs.Rows.{Way, Into, Moment, Out, behind}
use Rattle.meaning_control.specs.States.{ControlNode, Node, ControlNodes, NoNodes, Nodes, kind_of, token_at, parts_of, count_of, node_in, Frame, frame_of, State, Before, AtMoment, Closing, enter, enter_part, led, after, broken, continued}
use Rattle.meaning_control.specs.laws.Cells.{Cell, IsNodeOf, AreNodesOf, stops, HasMoment, Tables, entry_or, led_block, AreTables}

-- Tests

-- what holds of both arms holds of the one that is taken
pub either_arm : {A : Type 0} (P : A → Type 0) (test : Bool) (first second : A) → (test ≡ true → P first) → (test ≡ false → P second) → P (if test then first else second)
either_arm P true first second when_true when_false = when_true refl
either_arm P false first second when_true when_false = when_false refl

-- and of two that are taken by one test
pub both_arms : {A B : Type 0} (R : A → B → Type 0) (test : Bool) (first second : A) (third fourth : B) → R first third → R second fourth
    → R (if test then first else second) (if test then third else fourth)
both_arms R true first second third fourth when_true when_false = when_true
both_arms R false first second third fourth when_true when_false = when_false

module _ (cells : List Cell) (root closing : ℕ) (tables : Tables) (are : AreTables cells root closing tables) where
  -- Cells

  abbrev pub cell_of : ControlNode → List ℕ → Cell
  cell_of node numbers = record { kind = kind_of node; token = token_at node; parts = numbers }

  -- a node whose parts are these cells
  abbrev pub HasCell : ℕ → ControlNode → List ℕ → Type 0
  HasCell number node numbers = (slice_get cells number ≡ Some (cell_of node numbers)) × AreNodesOf cells numbers (parts_of node)

  pub cell_there : (number : ℕ) (node : ControlNode) → IsNodeOf cells number node → (numbers : List ℕ) × HasCell number node numbers
  cell_there number (Node kind token parts) (numbers, is, are_parts) = (numbers, (is, are_parts))

  pub as_many : (numbers : List ℕ) (parts : ControlNodes) → AreNodesOf cells numbers parts → count_of parts ≡ length numbers
  as_many [] NoNodes are_parts = refl
  as_many [] (Nodes first others) are_parts = absurd are_parts
  as_many (number ∷ numbers) NoNodes are_parts = absurd are_parts
  as_many (number ∷ numbers) (Nodes first others) are_parts = ap suc (as_many numbers others are_parts.1)

  -- at each place there is a part in both, or in neither
  abbrev PartThere : Option ℕ → Option ControlNode → Type 0
  PartThere None None = Unit {0}
  PartThere None (Some node) = ⊥
  PartThere (Some number) None = ⊥
  PartThere (Some number) (Some node) = IsNodeOf cells number node

  part_there : (numbers : List ℕ) (parts : ControlNodes) → AreNodesOf cells numbers parts → (place : ℕ) → PartThere (slice_get numbers place) (node_in parts place)
  part_there [] NoNodes are_parts place = tt
  part_there [] (Nodes first others) are_parts place = absurd are_parts
  part_there (number ∷ numbers) NoNodes are_parts place = absurd are_parts
  part_there (number ∷ numbers) (Nodes first others) are_parts zero = are_parts.0
  part_there (number ∷ numbers) (Nodes first others) are_parts (suc place) = part_there numbers others are_parts.1 place

  -- Frames

  -- the cell with this number stands in these frames: each is a cell of which the one inside is the part at its place
  abbrev pub StandsIn : ℕ → List Frame → Type 0
  StandsIn number [] = number ≡ root
  StandsIn number (frame ∷ frames) =
      (parent : ℕ) × (numbers : List ℕ) × HasCell parent frame.node numbers × (slice_get numbers frame.place ≡ Some number) × StandsIn parent frames

  -- a block stands for a state
  abbrev pub BlockOf : State → ℕ → Type 0
  BlockOf (Before node frames) block =
      (number : ℕ) × (numbers : List ℕ) × HasCell number node numbers × StandsIn number frames × (stops (cell_of node numbers) ≡ true)
      × (block ≡ tables.entry number)
  BlockOf (AtMoment node frames) block =
      (number : ℕ) × (numbers : List ℕ) × HasCell number node numbers × StandsIn number frames × HasMoment (cell_of node numbers)
      × (block ≡ tables.moment number)
  BlockOf Closing block = block ≡ closing

  -- Down

  pub enters : (node : ControlNode) (number : ℕ) (frames : List Frame) → IsNodeOf cells number node → StandsIn number frames
      → BlockOf (enter node frames) (tables.entry number)
  enters (Node kind token NoNodes) number frames ([], is, are_parts) stands =
      either_arm (λ state. BlockOf state (tables.entry number)) (is_statement kind) (Before (Node kind token NoNodes) frames) (Before (Node kind token NoNodes) frames)
      (λ test. here) (λ test. here)
    where
      here : BlockOf (Before (Node kind token NoNodes) frames) (tables.entry number)
      here = (number, [], (is, are_parts), stands, either_arm (λ stopped. stopped ≡ true) (is_statement kind) true true (λ test. refl) (λ test. refl), refl)
  enters (Node kind token NoNodes) number frames (part ∷ numbers, is, are_parts) stands = absurd are_parts
  enters (Node kind token (Nodes first others)) number frames ([], is, are_parts) stands = absurd are_parts
  enters (Node kind token (Nodes first others)) number frames (part ∷ numbers, is, are_parts) stands =
      either_arm (λ state. BlockOf state (tables.entry number)) (is_statement kind) (Before (Node kind token (Nodes first others)) frames)
      (enter first (frame_of (Node kind token (Nodes first others)) 0 ∷ frames))
      (λ test. (number, part ∷ numbers, (is, are_parts), stands, ap (λ it. if it then true else false) test, refl))
      (λ test.
      subst (λ block. BlockOf (enter first (frame_of (Node kind token (Nodes first others)) 0 ∷ frames)) block)
      (sym (are.first_part number part numbers _ is refl test))
      (enters first part (frame_of (Node kind token (Nodes first others)) 0 ∷ frames) are_parts.0 (number, part ∷ numbers, (is, are_parts), refl, stands)))

  -- Out

  -- both outcomes of what stands in these frames
  abbrev pub LeavesBy : ℕ → List Frame → Type 0
  LeavesBy number frames = BlockOf (after frames true) (tables.hit number) × BlockOf (after frames false) (tables.miss number)

  into_part : (node : ControlNode) (numbers : List ℕ) (number place : ℕ) (frames : List Frame) → HasCell number node numbers → StandsIn number frames
      → BlockOf (after frames true) (tables.hit number)
      → (part : Option ℕ) (inside : Option ControlNode) → slice_get numbers place ≡ part → PartThere part inside
      → BlockOf (enter_part inside node place frames (after frames true)) (entry_or tables part (tables.hit number))
  into_part node numbers number place frames has stands hit None None at there = hit
  into_part node numbers number place frames has stands hit None (Some inside) at there = absurd there
  into_part node numbers number place frames has stands hit (Some part) None at there = absurd there
  into_part node numbers number place frames has stands hit (Some part) (Some inside) at there =
      enters inside part (frame_of node place ∷ frames) there (number, numbers, has, at, stands)

  -- where a way leads
  pub leads : (node : ControlNode) (numbers : List ℕ) (number : ℕ) (frames : List Frame) → HasCell number node numbers → StandsIn number frames → LeavesBy number frames
      → (way : Way) → (way ≡ Moment → HasMoment (cell_of node numbers))
      → BlockOf (led node frames (after frames true) (after frames false) way) (led_block tables number numbers way)
  leads node numbers number frames has stands leaves (Into place) moment =
      into_part node numbers number place frames has stands leaves.0 (slice_get numbers place) (node_in (parts_of node) place) refl
      (part_there numbers (parts_of node) has.1 place)
  leads node numbers number frames has stands leaves Moment moment = (number, numbers, has, stands, moment refl, refl)
  leads node numbers number frames has stands leaves (Out true) moment = leaves.0
  leads node numbers number frames has stands leaves (Out false) moment = leaves.1

  -- by one outcome of a part
  leads_behind : (node : ControlNode) (numbers : List ℕ) (number place part : ℕ) (frames : List Frame) → HasCell number node numbers → StandsIn number frames
      → slice_get numbers place ≡ Some part → LeavesBy number frames → (outcome : Bool)
      → BlockOf (led node frames (after frames true) (after frames false) (behind (kind_of node) (count_of (parts_of node)) place outcome))
      (led_block tables number numbers (behind (kind_of node) (length numbers) place outcome))
  leads_behind node numbers number place part frames has stands at leaves outcome =
      subst
      (λ count.
      BlockOf (led node frames (after frames true) (after frames false) (behind (kind_of node) count place outcome))
      (led_block tables number numbers (behind (kind_of node) (length numbers) place outcome)))
      (sym (as_many numbers (parts_of node) has.1))
      (leads node numbers number frames has stands leaves (behind (kind_of node) (length numbers) place outcome)
      (λ is. inr (inr (place, part, outcome, at, is))))

  pub leaves : (frames : List Frame) (number : ℕ) → StandsIn number frames → LeavesBy number frames
  leaves [] number is = (ap tables.hit is ∙ are.root_hit, ap tables.miss is ∙ are.root_miss)
  leaves (frame ∷ frames) number (parent, numbers, has, at, above) = (
    subst (λ block. BlockOf (after (frame ∷ frames) true) block) (sym (are.hit_part parent frame.place number _ has.0 at))
        (leads_behind frame.node numbers parent frame.place number frames has above at (leaves frames parent above) true),
    subst (λ block. BlockOf (after (frame ∷ frames) false) block) (sym (are.miss_part parent frame.place number _ has.0 at))
        (leads_behind frame.node numbers parent frame.place number frames has above at (leaves frames parent above) false),
  )

  -- Out of bodies

  pub breaks : (frames : List Frame) (number : ℕ) → StandsIn number frames → BlockOf (broken frames) (tables.broken number)
  breaks [] number is = ap tables.broken is ∙ are.root_broken
  breaks (frame ∷ frames) number (parent, numbers, has, at, above) =
      subst (λ block. BlockOf (broken (frame ∷ frames)) block) (sym (are.broken_part parent frame.place number _ has.0 at))
      (both_arms BlockOf (is_broken (kind_of frame.node) frame.place) (after frames true) (broken frames) (tables.hit parent) (tables.broken parent)
      (leaves frames parent above).0 (breaks frames parent above))

  pub continues : (frames : List Frame) (number : ℕ) → StandsIn number frames → BlockOf (continued frames) (tables.continued number)
  continues [] number is = ap tables.continued is ∙ are.root_continued
  continues (frame ∷ frames) number (parent, numbers, has, at, above) =
      subst (λ block. BlockOf (continued (frame ∷ frames)) block) (sym (are.continued_part parent frame.place number _ has.0 at))
      (both_arms BlockOf (is_loop_body (kind_of frame.node) frame.place) (after (frame ∷ frames) true) (continued frames) (tables.hit number) (tables.continued parent)
      (leaves (frame ∷ frames) number (parent, numbers, has, at, above)).0 (continues frames parent above))
