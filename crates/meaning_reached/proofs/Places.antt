-- All states of a body in a list.
use Rattle.std.proofs.Common.{◌≡◌, ◌⊎◌, inl, inr, ℕ, zero, suc, ◌+◌, List, [], ◌∷◌, ◌++◌, Some, refl, sym, subst, arith}
use Rattle.meaning_paths.specs.Walks.{IsIn}
use Rattle.meaning_control.specs.States.{ControlNode, Node, ControlNodes, NoNodes, Nodes, parts_of, node_in, Frame, frame_of, State, Before, AtMoment, Closing, enter, next_states}
use Rattle.meaning_reached.proofs.Entries.{in_front, in_back}
use Rattle.meaning_reached.proofs.Standing.{Stands, StandsAt, PartsFrom, all_parts, enter_stands, goes_within}

in_either : {X : Type 0} (x : X) (xs ys : List X) → IsIn x (xs ++ ys) → IsIn x xs ⊎ IsIn x ys
in_either x [] ys there = inr there
in_either x (y ∷ xs) ys (inl is) = inl (inl is)
in_either x (y ∷ xs) ys (inr there) = elim (in_either x xs ys there) [ inl front ↦ inl (inr front) | inr back ↦ inr back ]

abbrev mutual
  -- those at a node and at the nodes in it
  states_at : ControlNode → List Frame → List State
  states_at (Node kind token parts) frames =
      Before (Node kind token parts) frames ∷ AtMoment (Node kind token parts) frames ∷ states_among parts (Node kind token parts) 0 frames

  states_among : ControlNodes → (node : ControlNode) → (place : ℕ) → List Frame → List State
  states_among NoNodes node place frames = []
  states_among (Nodes first others) node place frames = states_at first (frame_of node place ∷ frames) ++ states_among others node (suc place) frames

-- those at a part are among those at its node
part_among : (parts : ControlNodes) (node part : ControlNode) (from place whole : ℕ) (frames : List Frame) (state : State) → node_in parts place ≡ Some part
    → whole ≡ place + from → IsIn state (states_at part (frame_of node whole ∷ frames)) → IsIn state (states_among parts node from frames)
part_among NoNodes node part from place whole frames state is at there = absurd (cc)
part_among (Nodes first others) node part from zero whole frames state is at there =
    let same : part ≡ first = cc in
    let here : whole ≡ from = omega (arith, at) in
    in_front state (states_at first (frame_of node from ∷ frames)) (states_among others node (suc from) frames)
    (subst (λ now. IsIn state (states_at first (frame_of node now ∷ frames))) here
    (subst (λ now. IsIn state (states_at now (frame_of node whole ∷ frames))) same there))
part_among (Nodes first others) node part from (suc place) whole frames state is at there =
    in_back state (states_at first (frame_of node from ∷ frames)) (states_among others node (suc from) frames)
    (part_among others node part (suc from) place whole frames state is (omega (arith, at)) there)

part_at : (node part : ControlNode) (place : ℕ) (frames : List Frame) (state : State) → node_in (parts_of node) place ≡ Some part
    → IsIn state (states_at part (frame_of node place ∷ frames)) → IsIn state (states_at node frames)
part_at (Node kind token parts) part place frames state is there =
    inr (inr (part_among parts (Node kind token parts) part 0 place place frames state is (omega arith) there))

before_there : (node : ControlNode) (frames : List Frame) → IsIn (Before node frames) (states_at node frames)
before_there (Node kind token parts) frames = inl refl

moment_there : (node : ControlNode) (frames : List Frame) → IsIn (AtMoment node frames) (states_at node frames)
moment_there (Node kind token parts) frames = inr (inl refl)

module _ (body : ControlNode) where
  abbrev pub all_states : List State
  all_states = Closing ∷ states_at body []

  -- What stands in the body is listed

  at_listed : (node : ControlNode) (frames : List Frame) → Stands body node frames → (state : State) → IsIn state (states_at node frames) → IsIn state (states_at body [])
  at_listed node [] stands state there = subst (λ now. IsIn state (states_at now [])) stands there
  at_listed node (frame ∷ frames) stands state there =
      at_listed frame.node frames stands.1 state (part_at frame.node node frame.place frames state stands.0 there)

  listed : (state : State) → StandsAt body state → IsIn state all_states
  listed (Before node frames) stands = inr (at_listed node frames stands (Before node frames) (before_there node frames))
  listed (AtMoment node frames) stands = inr (at_listed node frames stands (AtMoment node frames) (moment_there node frames))
  listed Closing stands = inl refl

  -- and what is listed stands in it

  mutual
    at_stands : (node : ControlNode) (frames : List Frame) → Stands body node frames → (state : State) → IsIn state (states_at node frames) → StandsAt body state
    at_stands (Node kind token parts) frames stands state (inl is) = subst (StandsAt body) (sym is) stands
    at_stands (Node kind token parts) frames stands state (inr (inl is)) = subst (StandsAt body) (sym is) stands
    at_stands (Node kind token parts) frames stands state (inr (inr there)) =
        among_stand parts (Node kind token parts) 0 frames (all_parts body (Node kind token parts)) stands state there

    among_stand : (parts : ControlNodes) (node : ControlNode) (place : ℕ) (frames : List Frame) → PartsFrom body node place parts → Stands body node frames → (state : State)
        → IsIn state (states_among parts node place frames) → StandsAt body state
    among_stand NoNodes node place frames from stands state there = absurd there
    among_stand (Nodes first others) node place frames from stands state there =
        elim (in_either state (states_at first (frame_of node place ∷ frames)) (states_among others node (suc place) frames) there) [
          | inl front ↦ at_stands first (frame_of node place ∷ frames) (sym (from 0 place (omega arith)), stands) state front
          | inr back ↦ among_stand others node (suc place) frames (λ inside whole at. from (suc inside) whole (omega (arith, at))) stands state back
        ]

  pub stands : (state : State) → IsIn state all_states → StandsAt body state
  stands state (inl is) = subst (StandsAt body) (sym is) tt
  stands state (inr there) = at_stands body [] refl state there

  pub entered : IsIn (enter body []) all_states
  entered = listed (enter body []) (enter_stands body body [] refl)

  pub stays : (state : State) → IsIn state all_states → (other : State) → IsIn other (next_states state) → IsIn other all_states
  stays state there other next_to = listed other (goes_within body state (stands state there) other next_to)
