-- No path of a body without changes has one.
use Rattle.std.proofs.Common.{◌≡◌, ℕ, zero, suc, Bool, true, false, List, [], ◌∷◌, ◌++◌, Option, Some, None, refl, sym, subst, if◌then◌else◌}
use Rattle.std.specs.List.{AllZip}
use Rattle.meaning_paths.specs.Steps.{Step, Point, Add, Call, End}
use Rattle.meaning_paths.specs.Walks.{Walk, begins, passes, turns}
use Rattle.meaning_control.specs.Kinds.{ControlKind, is_statement, is_body, is_switch, is_label, is_case, is_broken, is_loop_body}
use Rattle.meaning_control.specs.Kinds as kinds
use Rattle.meaning_control.specs.Choices.{number_of, is_named}
use Rattle.meaning_control.specs.Rows.{Way, Into, Moment, Out, Going, On, Breaks, Continues, Jumps, Picks, entry_steps, moment_steps, behind}
use Rattle.meaning_control.specs.Rows as rows
use Rattle.meaning_control.specs.States.{ControlNode, Node, ControlNodes, NoNodes, Nodes, kind_of, token_at, parts_of, count_of, node_in, Frame, frame_of, State, Before, AtMoment, Closing, enter, enter_part, led, after, broken, continued, Labelled, labels_at, labels_among, labels_in, cases_in, labels_seen, ends_cases, gone, all_gone, next_states, steps_in, IsControlPath}
use Rattle.meaning_control.specs.laws.Changes.{ChangesNothing, KeepsCounts, IsWithoutChanges, AreWithoutChanges}
use Rattle.meaning_control.proofs.Standing.{either_arm}
use Rattle.meaning_control.proofs.Labels.{zipped_append, zipped_into, AreLabels, chosen, picks}

-- States

pub parts_without : (node : ControlNode) → IsWithoutChanges node → AreWithoutChanges (parts_of node)
parts_without (Node kind token parts) without = without.1

abbrev AllWithout : List Frame → Type 0
AllWithout [] = Unit {0}
AllWithout (frame ∷ frames) = IsWithoutChanges frame.node × AllWithout frames

-- neither what stands before control nor what is around it has a change
abbrev StateWithout : State → Type 0
StateWithout (Before node frames) = IsWithoutChanges node × AllWithout frames
StateWithout (AtMoment node frames) = IsWithoutChanges node × AllWithout frames
StateWithout Closing = Unit {0}

abbrev PartWithout : Option ControlNode → Type 0
PartWithout None = Unit {0}
PartWithout (Some node) = IsWithoutChanges node

part_without : (parts : ControlNodes) → AreWithoutChanges parts → (place : ℕ) → PartWithout (node_in parts place)
part_without NoNodes without place = tt
part_without (Nodes first others) without zero = without.0
part_without (Nodes first others) without (suc place) = part_without others without.1 place

-- Ways

enter_without : (node : ControlNode) (frames : List Frame) → IsWithoutChanges node → AllWithout frames → StateWithout (enter node frames)
enter_without (Node kind token NoNodes) frames without around =
    either_arm StateWithout (is_statement kind) (Before (Node kind token NoNodes) frames) (Before (Node kind token NoNodes) frames) (λ test. (without, around)) (λ test. (without, around))
enter_without (Node kind token (Nodes first others)) frames without around =
    either_arm StateWithout (is_statement kind) (Before (Node kind token (Nodes first others)) frames)
    (enter first (frame_of (Node kind token (Nodes first others)) 0 ∷ frames)) (λ test. (without, around))
    (λ test. enter_without first (frame_of (Node kind token (Nodes first others)) 0 ∷ frames) without.1.0 (without, around))

into_without : (part : Option ControlNode) (node : ControlNode) (place : ℕ) (frames : List Frame) (otherwise : State) → PartWithout part → IsWithoutChanges node
    → AllWithout frames → StateWithout otherwise → StateWithout (enter_part part node place frames otherwise)
into_without None node place frames otherwise of_part without around passed = passed
into_without (Some part) node place frames otherwise of_part without around passed = enter_without part (frame_of node place ∷ frames) of_part (without, around)

led_without : (node : ControlNode) (frames : List Frame) (when_true when_false : State) (way : Way) → IsWithoutChanges node → AllWithout frames
    → StateWithout when_true → StateWithout when_false → StateWithout (led node frames when_true when_false way)
led_without node frames when_true when_false (Into place) without around hit miss =
    into_without (node_in (parts_of node) place) node place frames when_true (part_without (parts_of node) (parts_without node without) place) without around hit
led_without node frames when_true when_false Moment without around hit miss = (without, around)
led_without node frames when_true when_false (Out true) without around hit miss = hit
led_without node frames when_true when_false (Out false) without around hit miss = miss

after_without : (frames : List Frame) → AllWithout frames → (outcome : Bool) → StateWithout (after frames outcome)
after_without [] around outcome = tt
after_without (frame ∷ frames) around outcome =
    led_without frame.node frames (after frames true) (after frames false) (behind (kind_of frame.node) (count_of (parts_of frame.node)) frame.place outcome)
    around.0 around.1 (after_without frames around.1 true) (after_without frames around.1 false)

broken_without : (frames : List Frame) → AllWithout frames → StateWithout (broken frames)
broken_without [] around = tt
broken_without (frame ∷ frames) around =
    either_arm StateWithout (is_broken (kind_of frame.node) frame.place) (after frames true) (broken frames) (λ test. after_without frames around.1 true)
    (λ test. broken_without frames around.1)

continued_without : (frames : List Frame) → AllWithout frames → StateWithout (continued frames)
continued_without [] around = tt
continued_without (frame ∷ frames) around =
    either_arm StateWithout (is_loop_body (kind_of frame.node) frame.place) (after (frame ∷ frames) true) (continued frames)
    (λ test. after_without (frame ∷ frames) around true) (λ test. continued_without frames around.1)

-- Labels: a list of states beside itself

abbrev Same : State → State → Type 0
Same state other = StateWithout state

abbrev SameLabels : List Labelled → Type 0
SameLabels labels = AreLabels Same labels labels

joined : (labels others : List Labelled) → SameLabels labels → SameLabels others → SameLabels (labels ++ others)
joined labels others = zipped_append (λ label other. (label.0 ≡ other.0) × Same label.1 other.1) labels others labels others

module _ (is_sought ends : ControlKind → Bool) where
  mutual
    label_without : (node : ControlNode) (frames : List Frame) → IsWithoutChanges node → AllWithout frames → SameLabels (labels_at is_sought ends node frames)
    label_without (Node kind token parts) frames without around =
        joined (if is_sought kind then (kind, Before (Node kind token parts) frames) ∷ [] else [])
        (if ends kind then [] else labels_among is_sought ends parts (Node kind token parts) 0 frames)
        (either_arm SameLabels (is_sought kind) ((kind, Before (Node kind token parts) frames) ∷ []) [] (λ test. ((refl, (without, around)), tt)) (λ test. tt))
        (either_arm SameLabels (ends kind) [] (labels_among is_sought ends parts (Node kind token parts) 0 frames) (λ test. tt)
        (λ test. labels_without parts (Node kind token parts) 0 frames without.1 without around))

    labels_without : (parts : ControlNodes) (node : ControlNode) (place : ℕ) (frames : List Frame) → AreWithoutChanges parts → IsWithoutChanges node → AllWithout frames
        → SameLabels (labels_among is_sought ends parts node place frames)
    labels_without NoNodes node place frames of_parts without around = tt
    labels_without (Nodes first others) node place frames of_parts without around =
        joined (labels_at is_sought ends first (frame_of node place ∷ frames)) (labels_among is_sought ends others node (suc place) frames)
        (label_without first (frame_of node place ∷ frames) of_parts.0 (without, around))
        (labels_without others node (suc place) frames of_parts.1 without around)

seen_without : (frames : List Frame) → AllWithout frames → SameLabels (labels_seen frames)
seen_without [] around = tt
seen_without (frame ∷ frames) around =
    joined (if is_body (kind_of frame.node) then labels_in frame.node frames else []) (labels_seen frames)
    (either_arm SameLabels (is_body (kind_of frame.node)) (labels_in frame.node frames) []
    (λ test. labels_without is_label is_body (parts_of frame.node) frame.node 0 frames (parts_without frame.node around.0) around.0 around.1) (λ test. tt))
    (seen_without frames around.1)

-- Next

abbrev Further : List State → Type 0
Further states = AllZip Same states states

gone_without : (node : ControlNode) (frames : List Frame) → IsWithoutChanges node → AllWithout frames → (going : Going) → Further (gone node frames going)
gone_without node frames without around (On way) =
    (led_without node frames (after frames true) (after frames false) way without around (after_without frames around true) (after_without frames around false), tt)
gone_without node frames without around Breaks = (broken_without frames around, tt)
gone_without node frames without around Continues = (continued_without frames around, tt)
gone_without node frames without around (Jumps name) = chosen Same (is_named name) (labels_seen frames) (labels_seen frames) (seen_without frames around)
gone_without node frames without around Picks =
    picks Same (number_of (kind_of node)) (cases_in node frames) (cases_in node frames) (after frames true) (after frames true)
    (labels_without is_case ends_cases (parts_of node) node 0 frames (parts_without node without) without around) (after_without frames around true)

all_gone_without : (node : ControlNode) (frames : List Frame) → IsWithoutChanges node → AllWithout frames → (goings : List Going) → Further (all_gone node frames goings)
all_gone_without node frames without around [] = tt
all_gone_without node frames without around (going ∷ goings) =
    zipped_append Same (gone node frames going) (all_gone node frames goings) (gone node frames going) (all_gone node frames goings)
    (gone_without node frames without around going) (all_gone_without node frames without around goings)

next_without : (state : State) → StateWithout state → Further (next_states state)
next_without (Before node frames) is = all_gone_without node frames is.0 is.1 (rows.begins (kind_of node) (count_of (parts_of node)))
next_without (AtMoment node frames) is = all_gone_without node frames is.0 is.1 (rows.onward (kind_of node))
next_without Closing is = tt

-- Steps

entry_unchanged : (kind : ControlKind) (token : ℕ) → KeepsCounts kind → ChangesNothing (entry_steps kind token)
entry_unchanged (kinds.Context by) token keeps = absurd keeps
entry_unchanged kind token keeps = tt

moment_unchanged : (kind : ControlKind) (token : ℕ) → KeepsCounts kind → ChangesNothing (moment_steps kind token)
moment_unchanged (kinds.Calling steps outcomes) token keeps = keeps
moment_unchanged (kinds.For has_condition) token keeps = either_arm ChangesNothing has_condition (Point token true ∷ []) [] (λ test. tt) (λ test. tt)
moment_unchanged kind token keeps = tt

kind_keeps : (node : ControlNode) → IsWithoutChanges node → KeepsCounts (kind_of node)
kind_keeps (Node kind token parts) without = without.0

steps_unchanged : (brace : ℕ) (state : State) → StateWithout state → ChangesNothing (steps_in brace state)
steps_unchanged brace (Before node frames) is = entry_unchanged (kind_of node) (token_at node) (kind_keeps node is.0)
steps_unchanged brace (AtMoment node frames) is = moment_unchanged (kind_of node) (token_at node) (kind_keeps node is.0)
steps_unchanged brace Closing is = tt

-- Walks

passed_unchanged : (step : Step) (path rest : List Step) → ChangesNothing path → ChangesNothing (step ∷ rest) → ChangesNothing (step ∷ path) × ChangesNothing rest
passed_unchanged (Point token moment) path rest done left = (done, left)
passed_unchanged (Add token key by) path rest done left = absurd left
passed_unchanged (Call token key enters leaves) path rest done left = absurd left
passed_unchanged (End token) path rest done left = (done, left)

module _ (brace : ℕ) (body : ControlNode) (without : IsWithoutChanges body) where
  abbrev Goes : List Step → State → List Step → Type 0
  Goes path state rest = Walk (steps_in brace) next_states (enter body []) path state rest

  walk_unchanged : (path : List Step) (state : State) (rest : List Step) → Goes path state rest → StateWithout state × ChangesNothing path × ChangesNothing rest
  walk_unchanged path state rest (begins is) = (
    enter_without body [] without tt,
    tt,
    subst ChangesNothing (sym is) (steps_unchanged brace (enter body []) (enter_without body [] without tt)),
  )
  walk_unchanged path state rest (passes {path = front} {step = step} walk) =
      let (is, done, left) = walk_unchanged front state (step ∷ rest) walk in
      let (passed, behind_it) = passed_unchanged step front rest done left in
      (is, passed, behind_it)
  walk_unchanged path state rest (turns {place = from} {other = other} walk there is) =
      let (at, done, left) = walk_unchanged path from [] walk in
      let (same, within, without_there) = zipped_into Same (next_states from) (next_states from) (next_without from at) other there in
      (without_there, done, subst ChangesNothing (sym is) (steps_unchanged brace other without_there))

  pub path_unchanged : (path : List Step) → IsControlPath brace body path → ChangesNothing path
  path_unchanged path (state, rest, walk) = (walk_unchanged path state rest walk).1
