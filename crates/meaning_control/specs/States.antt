-- Control in a function: where it stands, and where it may stand next.
use Rattle.std.specs.Prelude.{ℕ, zero, suc, Bool, true, false, List, [], ◌∷◌, ◌++◌, Option, Some, None, if◌then◌else◌}
use Rattle.meaning_paths.specs.Steps.{Step, Point, End}
use Rattle.meaning_paths.specs.Walks.{IsPath}
use Rattle.meaning_control.specs.Kinds.{ControlKind, is_statement, is_body, is_switch, is_label, is_case, is_loop_body, is_broken}
use Rattle.meaning_control.specs.Choices.{number_of, named, picked}
use Rattle.meaning_control.specs.Rows.{Way, Into, Moment, Out, Going, On, Breaks, Continues, Jumps, Picks, entry_steps, moment_steps, begins, onward, behind}

-- Nodes

mutual
  -- a node of a function as control sees it, at its token
  pub data ControlNode : Type 0 where
    Node : (kind : ControlKind) → (token : ℕ) → (parts : ControlNodes) → ControlNode

  pub data ControlNodes : Type 0 where
    NoNodes : ControlNodes
    Nodes : (first : ControlNode) → (others : ControlNodes) → ControlNodes

abbrev pub kind_of : ControlNode → ControlKind
kind_of (Node kind token parts) = kind

abbrev pub token_at : ControlNode → ℕ
token_at (Node kind token parts) = token

abbrev pub parts_of : ControlNode → ControlNodes
parts_of (Node kind token parts) = parts

abbrev pub count_of : ControlNodes → ℕ
count_of NoNodes = 0
count_of (Nodes first others) = suc (count_of others)

abbrev pub node_in : ControlNodes → (place : ℕ) → Option ControlNode
node_in NoNodes place = None
node_in (Nodes first others) zero = Some first
node_in (Nodes first others) (suc place) = node_in others place

-- States

-- a node around, and at which of its parts control is
pub record Frame : Type 0 where
  pub node : ControlNode
  pub place : ℕ

-- where control stands, and in which frames, the innermost first
pub data State : Type 0 where
  -- before a node that passes something or chooses
  Before : ControlNode → List Frame → State
  -- at a node's own moment
  AtMoment : ControlNode → List Frame → State
  -- at the closing brace of the function
  Closing : State

-- a part of a node
abbrev pub frame_of : ControlNode → (place : ℕ) → Frame
frame_of node place = record { node = node; place = place }

-- control goes into a node: down to the first that passes something where it is entered, or has no parts
abbrev mutual
  pub enter : ControlNode → List Frame → State
  enter (Node kind token parts) frames =
      if is_statement kind then Before (Node kind token parts) frames else enter_first parts (Node kind token parts) frames

  pub enter_first : ControlNodes → (node : ControlNode) → List Frame → State
  enter_first NoNodes node frames = Before node frames
  enter_first (Nodes first others) node frames = enter first (frame_of node 0 ∷ frames)

-- into a part; one that isn't there is passed
abbrev pub enter_part : Option ControlNode → (node : ControlNode) → (place : ℕ) → List Frame → (otherwise : State) → State
enter_part None node place frames otherwise = otherwise
enter_part (Some part) node place frames otherwise = enter part (frame_of node place ∷ frames)

-- where a way leads in a node, by where it leads out of it as true and as false
abbrev pub led : ControlNode → List Frame → (when_true when_false : State) → Way → State
led node frames when_true when_false (Into place) = enter_part (node_in (parts_of node) place) node place frames when_true
led node frames when_true when_false Moment = AtMoment node frames
led node frames when_true when_false (Out outcome) = if outcome then when_true else when_false

-- what stands in these frames was left so
abbrev pub after : List Frame → (outcome : Bool) → State
after [] outcome = Closing
after (frame ∷ frames) outcome =
    led frame.node frames (after frames true) (after frames false)
    (behind (kind_of frame.node) (count_of (parts_of frame.node)) frame.place outcome)

-- behind the loop or the switch whose body is around
abbrev pub broken : List Frame → State
broken [] = Closing
broken (frame ∷ frames) = if is_broken (kind_of frame.node) frame.place then after frames true else broken frames

-- behind the body of a loop that is around, in the loop
abbrev pub continued : List Frame → State
continued [] = Closing
continued (frame ∷ frames) = if is_loop_body (kind_of frame.node) frame.place then after (frame ∷ frames) true else continued frames

-- Labels

-- a label, and before it a state
abbrev pub Labelled : Type 0
Labelled = ControlKind × State

-- Those of some kinds among the parts of a node, from this place on, and below them; none is sought below a node of some kinds.
module _ (is_sought : ControlKind → Bool) (ends : ControlKind → Bool) where
  abbrev mutual
    pub labels_at : ControlNode → List Frame → List Labelled
    labels_at (Node kind token parts) frames =
        (if is_sought kind then (kind, Before (Node kind token parts) frames) ∷ [] else [])
        ++ (if ends kind then [] else labels_among parts (Node kind token parts) 0 frames)

    pub labels_among : ControlNodes → (node : ControlNode) → (place : ℕ) → List Frame → List Labelled
    labels_among NoNodes node place frames = []
    labels_among (Nodes first others) node place frames =
        labels_at first (frame_of node place ∷ frames) ++ labels_among others node (suc place) frames

-- those of a body
abbrev pub labels_in : ControlNode → List Frame → List Labelled
labels_in node frames = labels_among is_label is_body (parts_of node) node 0 frames

-- those of a switch: not of one inside, nor of a statement expression (C11 6.8.4.2 p2: our choice)
abbrev pub ends_cases : ControlKind → Bool
ends_cases kind = if is_switch kind then true else is_body kind

abbrev pub cases_in : ControlNode → List Frame → List Labelled
cases_in node frames = labels_among is_case ends_cases (parts_of node) node 0 frames

-- the labels that are seen: those of each body around
abbrev pub labels_seen : List Frame → List Labelled
labels_seen [] = []
labels_seen (frame ∷ frames) = (if is_body (kind_of frame.node) then labels_in frame.node frames else []) ++ labels_seen frames

-- What comes next

abbrev pub gone : ControlNode → List Frame → Going → List State
gone node frames (On way) = led node frames (after frames true) (after frames false) way ∷ []
gone node frames Breaks = broken frames ∷ []
gone node frames Continues = continued frames ∷ []
gone node frames (Jumps name) = named name (labels_seen frames)
gone node frames Picks = picked (number_of (kind_of node)) (cases_in node frames) (after frames true)

abbrev pub all_gone : ControlNode → List Frame → List Going → List State
all_gone node frames [] = []
all_gone node frames (going ∷ goings) = gone node frames going ++ all_gone node frames goings

abbrev pub next_states : State → List State
next_states (Before node frames) = all_gone node frames (begins (kind_of node) (count_of (parts_of node)))
next_states (AtMoment node frames) = all_gone node frames (onward (kind_of node))
next_states Closing = []

-- the closing brace stands at this token
abbrev pub steps_in : (brace : ℕ) → State → List Step
steps_in brace (Before node frames) = entry_steps (kind_of node) (token_at node)
steps_in brace (AtMoment node frames) = moment_steps (kind_of node) (token_at node)
steps_in brace Closing = Point brace false ∷ End brace ∷ []

-- a path of a body
abbrev pub IsControlPath : (brace : ℕ) → (body : ControlNode) → List Step → Type 0
IsControlPath brace body path = IsPath (steps_in brace) next_states (enter body []) path
