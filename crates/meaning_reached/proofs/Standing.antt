-- Where control may stand in a body: at its nodes, each in the frames that lead to it.
use Rattle.std.proofs.Common.{◌≡◌, ℕ, suc, ◌+◌, Bool, true, false, List, [], ◌∷◌, ◌++◌, Option, Some, None, refl, sym, ap, arith, if◌then◌else◌}
use Rattle.std.specs.List.{AllZip}
use Rattle.meaning_paths.specs.Walks.{IsIn}
use Rattle.meaning_control.specs.Kinds.{ControlKind, is_statement, is_body, is_label, is_case, is_broken, is_loop_body}
use Rattle.meaning_control.specs.Choices.{number_of, is_named}
use Rattle.meaning_control.specs.Rows.{Way, Into, Moment, Out, Going, On, Breaks, Continues, Jumps, Picks, behind}
use Rattle.meaning_control.specs.Rows as rows
use Rattle.meaning_control.specs.States.{ControlNode, Node, ControlNodes, NoNodes, Nodes, kind_of, parts_of, count_of, node_in, Frame, frame_of, State, Before, AtMoment, Closing, enter, enter_part, led, after, broken, continued, Labelled, labels_at, labels_among, labels_in, cases_in, labels_seen, ends_cases, gone, all_gone, next_states}
use Rattle.meaning_control.proofs.Standing.{either_arm}
use Rattle.meaning_control.proofs.Labels.{zipped_append, zipped_into, AreLabels, chosen, picks}

module _ (body : ControlNode) where
  -- the frames lead from the body to the node: in each, the part at its place is what stands inside
  abbrev pub Stands : ControlNode → List Frame → Type 0
  Stands node [] = node ≡ body
  Stands node (frame ∷ frames) = (node_in (parts_of frame.node) frame.place ≡ Some node) × Stands frame.node frames

  abbrev pub StandsAt : State → Type 0
  StandsAt (Before node frames) = Stands node frames
  StandsAt (AtMoment node frames) = Stands node frames
  StandsAt Closing = Unit {0}

  abbrev Around : List Frame → Type 0
  Around [] = Unit {0}
  Around (frame ∷ frames) = Stands frame.node frames

  around : (node : ControlNode) (frames : List Frame) → Stands node frames → Around frames
  around node [] stands = tt
  around node (frame ∷ frames) stands = stands.1

  -- Ways

  pub enter_stands : (node : ControlNode) (frames : List Frame) → Stands node frames → StandsAt (enter node frames)
  enter_stands (Node kind token NoNodes) frames stands =
      either_arm StandsAt (is_statement kind) (Before (Node kind token NoNodes) frames) (Before (Node kind token NoNodes) frames) (λ test. stands) (λ test. stands)
  enter_stands (Node kind token (Nodes first others)) frames stands =
      either_arm StandsAt (is_statement kind) (Before (Node kind token (Nodes first others)) frames)
      (enter first (frame_of (Node kind token (Nodes first others)) 0 ∷ frames)) (λ test. stands)
      (λ test. enter_stands first (frame_of (Node kind token (Nodes first others)) 0 ∷ frames) (refl, stands))

  into_stands : (part : Option ControlNode) (node : ControlNode) (place : ℕ) (frames : List Frame) (otherwise : State) → node_in (parts_of node) place ≡ part
      → Stands node frames → StandsAt otherwise → StandsAt (enter_part part node place frames otherwise)
  into_stands None node place frames otherwise is stands passed = passed
  into_stands (Some part) node place frames otherwise is stands passed = enter_stands part (frame_of node place ∷ frames) (is, stands)

  led_stands : (node : ControlNode) (frames : List Frame) (when_true when_false : State) (way : Way) → Stands node frames → StandsAt when_true → StandsAt when_false
      → StandsAt (led node frames when_true when_false way)
  led_stands node frames when_true when_false (Into place) stands hit miss =
      into_stands (node_in (parts_of node) place) node place frames when_true refl stands hit
  led_stands node frames when_true when_false Moment stands hit miss = stands
  led_stands node frames when_true when_false (Out true) stands hit miss = hit
  led_stands node frames when_true when_false (Out false) stands hit miss = miss

  after_stands : (frames : List Frame) → Around frames → (outcome : Bool) → StandsAt (after frames outcome)
  after_stands [] stands outcome = tt
  after_stands (frame ∷ frames) stands outcome =
      led_stands frame.node frames (after frames true) (after frames false) (behind (kind_of frame.node) (count_of (parts_of frame.node)) frame.place outcome)
      stands (after_stands frames (around frame.node frames stands) true) (after_stands frames (around frame.node frames stands) false)

  broken_stands : (frames : List Frame) → Around frames → StandsAt (broken frames)
  broken_stands [] stands = tt
  broken_stands (frame ∷ frames) stands =
      either_arm StandsAt (is_broken (kind_of frame.node) frame.place) (after frames true) (broken frames)
      (λ test. after_stands frames (around frame.node frames stands) true) (λ test. broken_stands frames (around frame.node frames stands))

  continued_stands : (frames : List Frame) → Around frames → StandsAt (continued frames)
  continued_stands [] stands = tt
  continued_stands (frame ∷ frames) stands =
      either_arm StandsAt (is_loop_body (kind_of frame.node) frame.place) (after (frame ∷ frames) true) (continued frames)
      (λ test. after_stands (frame ∷ frames) stands true) (λ test. continued_stands frames (around frame.node frames stands))

  -- Labels: a list of states beside itself

  abbrev Same : State → State → Type 0
  Same state other = StandsAt state

  abbrev SameLabels : List Labelled → Type 0
  SameLabels labels = AreLabels Same labels labels

  joined : (labels others : List Labelled) → SameLabels labels → SameLabels others → SameLabels (labels ++ others)
  joined labels others = zipped_append (λ label other. (label.0 ≡ other.0) × Same label.1 other.1) labels others labels others

  -- these are the parts of a node from this place on
  abbrev pub PartsFrom : ControlNode → (place : ℕ) → ControlNodes → Type 0
  PartsFrom node place parts = (inside whole : ℕ) → whole ≡ inside + place → node_in parts inside ≡ node_in (parts_of node) whole

  pub all_parts : (node : ControlNode) → PartsFrom node 0 (parts_of node)
  all_parts node inside whole is = ap (node_in (parts_of node)) (omega (arith, is))

  module _ (is_sought ends : ControlKind → Bool) where
    mutual
      label_stands : (node : ControlNode) (frames : List Frame) → Stands node frames → SameLabels (labels_at is_sought ends node frames)
      label_stands (Node kind token parts) frames stands =
          joined (if is_sought kind then (kind, Before (Node kind token parts) frames) ∷ [] else [])
          (if ends kind then [] else labels_among is_sought ends parts (Node kind token parts) 0 frames)
          (either_arm SameLabels (is_sought kind) ((kind, Before (Node kind token parts) frames) ∷ []) [] (λ test. ((refl, stands), tt)) (λ test. tt))
          (either_arm SameLabels (ends kind) [] (labels_among is_sought ends parts (Node kind token parts) 0 frames) (λ test. tt)
          (λ test. labels_stand parts (Node kind token parts) 0 frames (all_parts (Node kind token parts)) stands))

      labels_stand : (parts : ControlNodes) (node : ControlNode) (place : ℕ) (frames : List Frame) → PartsFrom node place parts → Stands node frames
          → SameLabels (labels_among is_sought ends parts node place frames)
      labels_stand NoNodes node place frames from stands = tt
      labels_stand (Nodes first others) node place frames from stands =
          joined (labels_at is_sought ends first (frame_of node place ∷ frames)) (labels_among is_sought ends others node (suc place) frames)
          (label_stands first (frame_of node place ∷ frames) (sym (from 0 place (omega arith)), stands))
          (labels_stand others node (suc place) frames (λ inside whole at. from (suc inside) whole (omega (arith, at))) stands)

  seen_stand : (frames : List Frame) → Around frames → SameLabels (labels_seen frames)
  seen_stand [] stands = tt
  seen_stand (frame ∷ frames) stands =
      joined (if is_body (kind_of frame.node) then labels_in frame.node frames else []) (labels_seen frames)
      (either_arm SameLabels (is_body (kind_of frame.node)) (labels_in frame.node frames) []
      (λ test. labels_stand is_label is_body (parts_of frame.node) frame.node 0 frames (all_parts frame.node) stands) (λ test. tt))
      (seen_stand frames (around frame.node frames stands))

  -- Next

  abbrev Further : List State → Type 0
  Further states = AllZip Same states states

  gone_stands : (node : ControlNode) (frames : List Frame) → Stands node frames → (going : Going) → Further (gone node frames going)
  gone_stands node frames stands (On way) = (
    led_stands node frames (after frames true) (after frames false) way stands (after_stands frames (around node frames stands) true)
        (after_stands frames (around node frames stands) false),
    tt,
  )
  gone_stands node frames stands Breaks = (broken_stands frames (around node frames stands), tt)
  gone_stands node frames stands Continues = (continued_stands frames (around node frames stands), tt)
  gone_stands node frames stands (Jumps name) = chosen Same (is_named name) (labels_seen frames) (labels_seen frames) (seen_stand frames (around node frames stands))
  gone_stands node frames stands Picks =
      picks Same (number_of (kind_of node)) (cases_in node frames) (cases_in node frames) (after frames true) (after frames true)
      (labels_stand is_case ends_cases (parts_of node) node 0 frames (all_parts node) stands) (after_stands frames (around node frames stands) true)

  all_gone_stand : (node : ControlNode) (frames : List Frame) → Stands node frames → (goings : List Going) → Further (all_gone node frames goings)
  all_gone_stand node frames stands [] = tt
  all_gone_stand node frames stands (going ∷ goings) =
      zipped_append Same (gone node frames going) (all_gone node frames goings) (gone node frames going) (all_gone node frames goings)
      (gone_stands node frames stands going) (all_gone_stand node frames stands goings)

  next_stand : (state : State) → StandsAt state → Further (next_states state)
  next_stand (Before node frames) stands = all_gone_stand node frames stands (rows.begins (kind_of node) (count_of (parts_of node)))
  next_stand (AtMoment node frames) stands = all_gone_stand node frames stands (rows.onward (kind_of node))
  next_stand Closing stands = tt

  -- whatever comes next stands in the body
  pub goes_within : (state : State) → StandsAt state → (other : State) → IsIn other (next_states state) → StandsAt other
  goes_within state stands other there =
      let (same, among, within) = zipped_into Same (next_states state) (next_states state) (next_stand state stands) other there in within
