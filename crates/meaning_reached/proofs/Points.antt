-- What is passed at each state of a body begins with a point, if each call does.
use Rattle.std.proofs.Common.{ℕ, zero, suc, true, List, [], ◌∷◌, Option, Some, None, sym, subst}
use Rattle.meaning_paths.specs.Steps.{Point}
use Rattle.meaning_paths.specs.Graphs.{BeginsWithPoint}
use Rattle.meaning_control.specs.Kinds.{ControlKind}
use Rattle.meaning_control.specs.Kinds as kinds
use Rattle.meaning_control.specs.Rows.{entry_steps, moment_steps}
use Rattle.meaning_control.specs.States.{ControlNode, Node, ControlNodes, NoNodes, Nodes, kind_of, token_at, parts_of, node_in, Frame, State, Before, AtMoment, Closing, enter, next_states, steps_in, IsControlPath}
use Rattle.meaning_control.proofs.Standing.{either_arm}
use Rattle.meaning_reached.specs.laws.Answers.{HaveAnAnswer, CallBeginsWithPoint, CallsBeginWithPoints, EachCallBeginsWithPoint}
use Rattle.meaning_reached.proofs.Answering.{walks_have_an_answer}
use Rattle.meaning_reached.proofs.Standing.{Stands, StandsAt}
use Rattle.meaning_reached.proofs.Places.{all_states, stands, entered, stays}

abbrev PartBegins : Option ControlNode → Type 0
PartBegins None = Unit {0}
PartBegins (Some node) = CallsBeginWithPoints node

part_begins : (parts : ControlNodes) → EachCallBeginsWithPoint parts → (place : ℕ) → PartBegins (node_in parts place)
part_begins NoNodes each place = tt
part_begins (Nodes first others) each zero = each.0
part_begins (Nodes first others) each (suc place) = part_begins others each.1 place

pub parts_begin : (node : ControlNode) → CallsBeginWithPoints node → EachCallBeginsWithPoint (parts_of node)
parts_begin (Node kind token parts) calls = calls.1

kind_begins : (node : ControlNode) → CallsBeginWithPoints node → CallBeginsWithPoint (kind_of node)
kind_begins (Node kind token parts) calls = calls.0

entry_begins : (kind : ControlKind) (token : ℕ) → BeginsWithPoint (entry_steps kind token)
entry_begins (kinds.Context by) token = tt
entry_begins kind token = tt

moment_begins : (kind : ControlKind) (token : ℕ) → CallBeginsWithPoint kind → BeginsWithPoint (moment_steps kind token)
moment_begins (kinds.Calling passes outcomes) token begins = begins
moment_begins (kinds.For has_condition) token begins = either_arm BeginsWithPoint has_condition (Point token true ∷ []) [] (λ test. tt) (λ test. tt)
moment_begins kind token begins = tt

module _ (brace : ℕ) (body : ControlNode) (calls : CallsBeginWithPoints body) where
  calls_there : (node : ControlNode) (frames : List Frame) → Stands body node frames → CallsBeginWithPoints node
  calls_there node [] is = subst CallsBeginWithPoints (sym is) calls
  calls_there node (frame ∷ frames) is =
      subst PartBegins is.0 (part_begins (parts_of frame.node) (parts_begin frame.node (calls_there frame.node frames is.1)) frame.place)

  begins_there : (state : State) → StandsAt body state → BeginsWithPoint (steps_in brace state)
  begins_there (Before node frames) is = entry_begins (kind_of node) (token_at node)
  begins_there (AtMoment node frames) is = moment_begins (kind_of node) (token_at node) (kind_begins node (calls_there node frames is))
  begins_there Closing is = tt

  pub body_has_an_answer : HaveAnAnswer (IsControlPath brace body)
  body_has_an_answer =
      walks_have_an_answer (steps_in brace) next_states (enter body []) (all_states body) (entered body) (stays body)
      (λ state there. begins_there state (stands body state there))
