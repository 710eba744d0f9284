-- Each call in a function of a unit begins with a point.
use Rattle.std.proofs.Common.{ℕ, zero, suc, ◌+◌, Bool, true, false, nat_eq, is_some, List, [], ◌∷◌, ◌++◌, length, get_or, Option, Some, None, if◌then◌else◌}
use Rattle.vocabulary.specs.declared.node_kind.NodeKind.{NodeKind}
use Rattle.vocabulary.specs.declared.node_kind.NodeKind.TheVariants as nodes
use Rattle.meaning_paths.specs.Graphs.{BeginsWithPoint}
use Rattle.meaning_typing.specs.Units.{node_at, kind_at, child_at, children_at}
use Rattle.meaning_typing.specs.ContextSums.{ContextSums}
use Rattle.meaning_control.specs.Kinds.{Calling, Or, Conditional}
use Rattle.meaning_control.specs.States.{ControlNode}
use Rattle.meaning_control.specs.Nodes.{JudgedUnit, NodeControl, nothing_there, control_at, nodes_of, tests, parts_where, passed_of, twice_last, arranged, call_steps, either_way, unknown_value, called, control_kind, control_node, control_of, controls_of}
use Rattle.meaning_control.specs.Functions.{statement_of, body_of, closing_brace, IsPathOfFunction}
use Rattle.meaning_control.proofs.Standing.{either_arm}
use Rattle.meaning_reached.specs.laws.Answers.{HaveAnAnswer, CallBeginsWithPoint, CallsBeginWithPoints, EachCallBeginsWithPoint}
use Rattle.meaning_reached.proofs.Points.{parts_begin, body_has_an_answer}

-- Lists

-- one more element: each look-up finds it, or what was found before
one_more : {X : Type 0} (P : X → Type 0) (xs : List X) (x otherwise : X) (place : ℕ) → P (get_or xs place otherwise) → P x → P otherwise
    → P (get_or (xs ++ x ∷ []) place otherwise)
one_more P [] x otherwise zero found last past = last
one_more P [] x otherwise (suc place) found last past = past
one_more P (y ∷ xs) x otherwise zero found last past = found
one_more P (y ∷ xs) x otherwise (suc place) found last past = one_more P xs x otherwise place found last past

abbrev AllBegin : List ControlNode → Type 0
AllBegin [] = Unit {0}
AllBegin (node ∷ others) = CallsBeginWithPoints node × AllBegin others

as_nodes : (list : List ControlNode) → AllBegin list → EachCallBeginsWithPoint (nodes_of list)
as_nodes [] begin = tt
as_nodes (node ∷ others) begin = (begin.0, as_nodes others begin.1)

twice : (list : List ControlNode) → AllBegin list → AllBegin (twice_last list)
twice [] begin = begin
twice (value ∷ []) begin = begin
twice (value ∷ expected ∷ []) begin = (begin.0, (begin.1.0, (begin.1.0, tt)))
twice (value ∷ expected ∷ third ∷ others) begin = begin

arranged_begin : (kind : NodeKind) (is_tested : Bool) (list : List ControlNode) → AllBegin list → AllBegin (arranged kind is_tested list)
arranged_begin nodes.BuiltinExpect is_tested list begin = either_arm AllBegin is_tested (twice_last list) list (λ test. twice list begin) (λ test. begin)
arranged_begin kind is_tested list begin = begin

-- Kinds

call_begins : (token : ℕ) (contexts : Option ContextSums) → BeginsWithPoint (call_steps token contexts)
call_begins token None = tt
call_begins token (Some sums) = tt

unknown_begins : (is_tested : Bool) → CallBeginsWithPoint (unknown_value is_tested)
unknown_begins true = tt
unknown_begins false = tt

called_begins : (unit : JudgedUnit) (token : ℕ) (is_tested : Bool) (names : Option ℕ) → CallBeginsWithPoint (called unit token is_tested names)
called_begins unit token is_tested None = unknown_begins is_tested
called_begins unit token is_tested (Some function) =
    either_arm CallBeginsWithPoint (unit.is_noreturn function) (Calling (call_steps token (unit.contexts function)) [])
    (if is_some (unit.contexts function) then Calling (call_steps token (unit.contexts function)) (either_way is_tested) else unknown_value is_tested)
    (λ test. call_begins token (unit.contexts function))
    (λ test.
    either_arm CallBeginsWithPoint (is_some (unit.contexts function)) (Calling (call_steps token (unit.contexts function)) (either_way is_tested))
    (unknown_value is_tested) (λ also. call_begins token (unit.contexts function)) (λ also. unknown_begins is_tested))

kind_begins : (unit : JudgedUnit) (controls : List NodeControl) (handle : ℕ) (is_tested : Bool) (kind : NodeKind)
    → CallBeginsWithPoint (control_kind unit controls handle is_tested kind)
kind_begins unit controls handle is_tested nodes.Call =
    called_begins unit (node_at unit.nodes handle).token is_tested (control_at controls (child_at unit.nodes handle 0)).names
kind_begins unit controls handle is_tested nodes.Conditional =
    either_arm CallBeginsWithPoint (nat_eq (length (children_at unit.nodes handle)) 2) Or Conditional (λ test. tt) (λ test. tt)
kind_begins unit controls handle true kind = tt
kind_begins unit controls handle false kind = tt

-- Nodes

abbrev BothBegin : NodeControl → Type 0
BothBegin control = CallsBeginWithPoints control.plain × CallsBeginWithPoints control.tested

abbrev EachBegins : List NodeControl → Type 0
EachBegins controls = (handle : ℕ) → BothBegin (control_at controls handle)

parts_where_begin : (controls : List NodeControl) (kind : NodeKind) (is_tested : Bool) (place : ℕ) (parts : List ℕ) → EachBegins controls
    → AllBegin (parts_where controls kind is_tested place parts)
parts_where_begin controls kind is_tested place [] each = tt
parts_where_begin controls kind is_tested place (part ∷ parts) each = (
  either_arm CallsBeginWithPoints (tests kind is_tested place (nat_eq (length parts) 0)) (control_at controls part).tested (control_at controls part).plain
      (λ test. (each part).1) (λ test. (each part).0),
  parts_where_begin controls kind is_tested (place + 1) parts each,
)

node_begins : (unit : JudgedUnit) (controls : List NodeControl) (handle : ℕ) (is_tested : Bool) (kind : NodeKind) → EachBegins controls
    → CallsBeginWithPoints (control_node unit controls handle is_tested kind)
node_begins unit controls handle is_tested kind each = (
  kind_begins unit controls handle is_tested kind,
  as_nodes (arranged kind is_tested (parts_where controls kind is_tested 0 (passed_of unit handle kind)))
      (arranged_begin kind is_tested (parts_where controls kind is_tested 0 (passed_of unit handle kind))
      (parts_where_begin controls kind is_tested 0 (passed_of unit handle kind) each)),
)

controls_begin : (unit : JudgedUnit) (count : ℕ) → EachBegins (controls_of unit count)
controls_begin unit zero handle = ((tt, tt), (tt, tt))
controls_begin unit (suc count) handle =
    let each = controls_begin unit count in
    one_more BothBegin (controls_of unit count) (control_of unit (controls_of unit count) count) nothing_there handle (each handle) (
      node_begins unit (controls_of unit count) count false (kind_at unit.nodes count) each,
      node_begins unit (controls_of unit count) count true (kind_at unit.nodes count) each,
    )
    ((tt, tt), (tt, tt))

function_begins : (unit : JudgedUnit) (function : ℕ) → CallsBeginWithPoints (body_of unit function)
function_begins unit function =
    (tt, parts_begin (control_at (controls_of unit function) (statement_of unit function)).plain (controls_begin unit function (statement_of unit function)).0)

pub function_has_an_answer : (unit : JudgedUnit) (function : ℕ) → HaveAnAnswer (IsPathOfFunction unit function)
function_has_an_answer unit function = body_has_an_answer (closing_brace unit function) (body_of unit function) (function_begins unit function)
