-- The body of a function without contexts has no changes.
use Rattle.std.proofs.Common.{◌≡◌, ℕ, zero, suc, ◌+◌, Bool, true, false, nat_eq, is_some, List, [], ◌∷◌, ◌++◌, length, get_or, Option, Some, None, refl, sym, subst, ◌∙◌, arith, length-append, if◌then◌else◌}
use Rattle.vocabulary.specs.declared.node_kind.NodeKind.{NodeKind}
use Rattle.vocabulary.specs.declared.node_kind.NodeKind.TheVariants as nodes
use Rattle.meaning_typing.specs.Units.{node_at, kind_at, child_at, children_at}
use Rattle.meaning_control.specs.Kinds.{Calling, Or, Conditional}
use Rattle.meaning_control.specs.States.{ControlNode}
use Rattle.meaning_control.specs.Nodes.{JudgedUnit, NodeControl, nothing_there, control_at, nodes_of, tests, parts_where, passed_of, twice_last, arranged, call_steps, either_way, unknown_value, called, control_kind, control_node, control_of, controls_of}
use Rattle.meaning_control.specs.Functions.{statement_of, body_of}
use Rattle.meaning_control.specs.laws.Changes.{ChangesNothing, KeepsCounts, IsWithoutChanges, AreWithoutChanges, NamesNone, NodeKeepsCounts, AreAmong, AreWithoutContexts}
use Rattle.meaning_control.proofs.Standing.{either_arm}
use Rattle.meaning_control.proofs.Unchanged.{parts_without}

-- Lists

-- one more element: each look-up finds it, or what was found before
one_more : {X : Type 0} (P : X → Type 0) (xs : List X) (x otherwise : X) (place : ℕ) → P (get_or xs place otherwise) → (place ≡ length xs → P x)
    → P (get_or (xs ++ x ∷ []) place otherwise)
one_more P [] x otherwise zero found last = last refl
one_more P [] x otherwise (suc place) found last = found
one_more P (y ∷ xs) x otherwise zero found last = found
one_more P (y ∷ xs) x otherwise (suc place) found last = one_more P xs x otherwise place found (λ is. last (omega (arith, is)))

abbrev AllWithoutChanges : List ControlNode → Type 0
AllWithoutChanges [] = Unit {0}
AllWithoutChanges (node ∷ others) = IsWithoutChanges node × AllWithoutChanges others

as_nodes : (list : List ControlNode) → AllWithoutChanges list → AreWithoutChanges (nodes_of list)
as_nodes [] without = tt
as_nodes (node ∷ others) without = (without.0, as_nodes others without.1)

twice : (list : List ControlNode) → AllWithoutChanges list → AllWithoutChanges (twice_last list)
twice [] without = without
twice (value ∷ []) without = without
twice (value ∷ expected ∷ []) without = (without.0, (without.1.0, (without.1.0, tt)))
twice (value ∷ expected ∷ third ∷ others) without = without

arranged_without : (kind : NodeKind) (is_tested : Bool) (list : List ControlNode) → AllWithoutChanges list → AllWithoutChanges (arranged kind is_tested list)
arranged_without nodes.BuiltinExpect is_tested list without =
    either_arm AllWithoutChanges is_tested (twice_last list) list (λ test. twice list without) (λ test. without)
arranged_without kind is_tested list without = without

-- Kinds

unknown_keeps : (is_tested : Bool) → KeepsCounts (unknown_value is_tested)
unknown_keeps true = tt
unknown_keeps false = tt

called_keeps : (unit : JudgedUnit) (token : ℕ) (is_tested : Bool) (names : Option ℕ) → NamesNone unit names → KeepsCounts (called unit token is_tested names)
called_keeps unit token is_tested None none = unknown_keeps is_tested
called_keeps unit token is_tested (Some function) none =
    either_arm KeepsCounts (unit.is_noreturn function) (Calling (call_steps token (unit.contexts function)) [])
    (if is_some (unit.contexts function) then Calling (call_steps token (unit.contexts function)) (either_way is_tested) else unknown_value is_tested)
    (λ test. passes_none)
    (λ test.
    either_arm KeepsCounts (is_some (unit.contexts function)) (Calling (call_steps token (unit.contexts function)) (either_way is_tested)) (unknown_value is_tested)
    (λ also. passes_none) (λ also. unknown_keeps is_tested))
  where
    passes_none : ChangesNothing (call_steps token (unit.contexts function))
    passes_none = subst (λ contexts. ChangesNothing (call_steps token contexts)) (sym none) tt

kind_keeps : (unit : JudgedUnit) (handle : ℕ) (is_tested : Bool) (kind : NodeKind) → NodeKeepsCounts unit handle kind
    → KeepsCounts (control_kind unit (controls_of unit handle) handle is_tested kind)
kind_keeps unit handle is_tested nodes.ContextStatement keeps = absurd keeps
kind_keeps unit handle is_tested nodes.Call keeps =
    called_keeps unit (node_at unit.nodes handle).token is_tested (control_at (controls_of unit handle) (child_at unit.nodes handle 0)).names keeps
kind_keeps unit handle is_tested nodes.Conditional keeps =
    either_arm KeepsCounts (nat_eq (length (children_at unit.nodes handle)) 2) Or Conditional (λ test. tt) (λ test. tt)
kind_keeps unit handle true kind keeps = tt
kind_keeps unit handle false kind keeps = tt

-- Nodes

abbrev IsQuiet : NodeControl → Type 0
IsQuiet control = IsWithoutChanges control.plain × IsWithoutChanges control.tested

module _ (unit : JudgedUnit) (is_among : ℕ → Bool) (are : AreWithoutContexts unit is_among) where
  abbrev Quiet : List NodeControl → Type 0
  Quiet controls = (handle : ℕ) → is_among handle ≡ true → IsQuiet (control_at controls handle)

  parts_quiet : (controls : List NodeControl) (kind : NodeKind) (is_tested : Bool) (place : ℕ) (parts : List ℕ) → Quiet controls → AreAmong is_among parts
      → AllWithoutChanges (parts_where controls kind is_tested place parts)
  parts_quiet controls kind is_tested place [] quiet among = tt
  parts_quiet controls kind is_tested place (part ∷ parts) quiet among = (
    either_arm IsWithoutChanges (tests kind is_tested place (nat_eq (length parts) 0)) (control_at controls part).tested (control_at controls part).plain
        (λ test. (quiet part among.0).1) (λ test. (quiet part among.0).0),
    parts_quiet controls kind is_tested (place + 1) parts quiet among.1,
  )

  node_quiet : (handle : ℕ) (is_tested : Bool) → is_among handle ≡ true → Quiet (controls_of unit handle)
      → IsWithoutChanges (control_node unit (controls_of unit handle) handle is_tested (kind_at unit.nodes handle))
  node_quiet handle is_tested among quiet = (
    kind_keeps unit handle is_tested (kind_at unit.nodes handle) (are.keep handle among),
    as_nodes (arranged (kind_at unit.nodes handle) is_tested (parts_where (controls_of unit handle) (kind_at unit.nodes handle) is_tested 0 (passed_of unit handle (kind_at unit.nodes handle))))
        (arranged_without (kind_at unit.nodes handle) is_tested
        (parts_where (controls_of unit handle) (kind_at unit.nodes handle) is_tested 0 (passed_of unit handle (kind_at unit.nodes handle)))
        (parts_quiet (controls_of unit handle) (kind_at unit.nodes handle) is_tested 0 (passed_of unit handle (kind_at unit.nodes handle)) quiet (are.parts handle among))),
  )

  controls_counted : (count : ℕ) → length (controls_of unit count) ≡ count
  controls_counted zero = refl
  controls_counted (suc count) =
      omega (arith, length-append (controls_of unit count) (control_of unit (controls_of unit count) count ∷ []), controls_counted count)

  controls_quiet : (count : ℕ) → Quiet (controls_of unit count)
  controls_quiet zero handle among = ((tt, tt), (tt, tt))
  controls_quiet (suc count) handle among =
      one_more IsQuiet (controls_of unit count) (control_of unit (controls_of unit count) count) nothing_there handle (controls_quiet count handle among)
      (λ is.
      let here : is_among count ≡ true = subst (λ now. is_among now ≡ true) (is ∙ controls_counted count) among in
      (node_quiet count false here (controls_quiet count), node_quiet count true here (controls_quiet count)))

  pub function_without : (function : ℕ) → is_among (statement_of unit function) ≡ true → IsWithoutChanges (body_of unit function)
  function_without function among = (tt, parts_without (control_at (controls_of unit function) (statement_of unit function)).plain (controls_quiet function (statement_of unit function) among).0)
