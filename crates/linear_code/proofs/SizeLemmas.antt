-- Where the numbers of a unit are small, so are those of the cells of a body.
use Rattle.std.proofs.Common.{◌≡◌, ℕ, zero, suc, ◌+◌, ◌≤◌, Bool, true, false, nat_eq, is_some, List, [], ◌∷◌, ◌++◌, length, get_or, Option, Some, None, refl, sym, subst, ◌*◌, arith, le_trans, if◌then◌else◌}
use Rattle.std.proofs.lemmas.Nat.{mul-le}
use Rattle.vocabulary.specs.declared.node_kind.NodeKind.{NodeKind}
use Rattle.vocabulary.specs.declared.node_kind.NodeKind.TheVariants as nodes
use Rattle.meaning_paths.specs.Graphs.{BasicBlock, size_of_graph, size_of_steps}
use Rattle.meaning_typing.specs.ContextSums.{ContextSums}
use Rattle.meaning_typing.specs.Units.{node_at, kind_at, child_at, children_at}
use Rattle.meaning_control.specs.Kinds.{ControlKind, Calling, Or, Conditional}
use Rattle.meaning_control.specs.Nodes.{JudgedUnit, NodeControl, nothing_there, control_at, nodes_of, tests, parts_where, passed_of, twice_last, arranged, call_steps, either_way, unknown_value, called, control_kind, control_node, control_of, controls_of}
use Rattle.meaning_control.specs.Functions.{statement_of, body_of}
use Rattle.meaning_control.specs.States.{ControlNode, Node, ControlNodes, NoNodes, Nodes, parts_of}
use Rattle.meaning_control.specs.laws.Cells.{Cell}
use Rattle.control_cells.specs.Numbers.{most_cells}
use Rattle.control_cells.specs.Sizes.{EachPassesAtMost, size_of_kind}
use Rattle.linear_code.specs.Cells.{all_from, cells_from, cells_of, numbers_of, size_of}
use Rattle.linear_code.specs.Sizes.{HasSmallNumbers}

-- one of two, by a test
either-arm : {X : Type 0} (P : X → Type 0) (test : Bool) (one other : X) → P one → P other → P (if test then one else other)
either-arm P true one other first second = first
either-arm P false one other first second = second

-- one more element: each look-up finds it, or what was found before
one-more : {X : Type 0} (P : X → Type 0) (xs : List X) (x otherwise : X) (place : ℕ) → P (get_or xs place otherwise) → P x → P (get_or (xs ++ x ∷ []) place otherwise)
one-more P [] x otherwise zero found last = last
one-more P [] x otherwise (suc place) found last = found
one-more P (first ∷ xs) x otherwise zero found last = found
one-more P (first ∷ xs) x otherwise (suc place) found last = one-more P xs x otherwise place found last

module _ (most : ℕ) where
  abbrev IsSmall : ControlKind → Type 0
  IsSmall kind = size_of_kind kind ≤ most

  abbrev mutual
    IsSmallNode : ControlNode → Type 0
    IsSmallNode (Node kind token parts) = IsSmall kind × AreSmallNodes parts

    AreSmallNodes : ControlNodes → Type 0
    AreSmallNodes NoNodes = Unit {0}
    AreSmallNodes (Nodes first others) = IsSmallNode first × AreSmallNodes others

  -- Cells

  small-joined : (cells others : List Cell) → EachPassesAtMost most cells → EachPassesAtMost most others → EachPassesAtMost most (cells ++ others)
  small-joined [] others one two = two
  small-joined (cell ∷ cells) others one two = (one.0, small-joined cells others one.1 two)

  mutual
    small-cells : (first : ℕ) (node : ControlNode) → IsSmallNode node → EachPassesAtMost most (cells_from first node)
    small-cells first (Node kind token parts) small =
        small-joined (all_from first parts) (record { kind = kind; token = token; parts = numbers_of first parts } ∷ []) (small-all first parts small.1) (small.0, tt)

    small-all : (first : ℕ) (parts : ControlNodes) → AreSmallNodes parts → EachPassesAtMost most (all_from first parts)
    small-all first NoNodes small = tt
    small-all first (Nodes node others) small =
        small-joined (cells_from first node) (all_from (first + size_of node) others) (small-cells first node small.0) (small-all (first + size_of node) others small.1)

  -- Lists of nodes

  abbrev AllSmall : List ControlNode → Type 0
  AllSmall [] = Unit {0}
  AllSmall (node ∷ others) = IsSmallNode node × AllSmall others

  as-nodes : (list : List ControlNode) → AllSmall list → AreSmallNodes (nodes_of list)
  as-nodes [] small = tt
  as-nodes (node ∷ others) small = (small.0, as-nodes others small.1)

  twice-small : (list : List ControlNode) → AllSmall list → AllSmall (twice_last list)
  twice-small [] small = small
  twice-small (value ∷ []) small = small
  twice-small (value ∷ expected ∷ []) small = (small.0, (small.1.0, (small.1.0, tt)))
  twice-small (value ∷ expected ∷ third ∷ others) small = small

  arranged-small : (kind : NodeKind) (is_tested : Bool) (list : List ControlNode) → AllSmall list → AllSmall (arranged kind is_tested list)
  arranged-small nodes.BuiltinExpect is_tested list small = either-arm AllSmall is_tested (twice_last list) list (twice-small list small) small
  arranged-small kind is_tested list small = small

  module _ (unit : JudgedUnit) (numbers : HasSmallNumbers most unit) where
    -- Kinds

    unknown-small : (is_tested : Bool) → IsSmall (unknown_value is_tested)
    unknown-small true = omega arith
    unknown-small false = omega arith

    call-small : (token : ℕ) (contexts : Option ContextSums) → ((sums : ContextSums) → contexts ≡ Some sums → sums.enters + sums.leaves ≤ most)
        → size_of_steps (call_steps token contexts) ≤ most
    call-small token None small = omega arith
    call-small token (Some sums) small = omega (arith, small sums refl)

    called-small : (token : ℕ) (is_tested : Bool) (names : Option ℕ) → IsSmall (called unit token is_tested names)
    called-small token is_tested None = unknown-small is_tested
    called-small token is_tested (Some function) =
        let passed = call-small token (unit.contexts function) (numbers.functions function) in
        either-arm IsSmall (unit.is_noreturn function) (Calling (call_steps token (unit.contexts function)) [])
        (if is_some (unit.contexts function) then Calling (call_steps token (unit.contexts function)) (either_way is_tested) else unknown_value is_tested) passed
        (either-arm IsSmall (is_some (unit.contexts function)) (Calling (call_steps token (unit.contexts function)) (either_way is_tested)) (unknown_value is_tested) passed
        (unknown-small is_tested))

    kind-small : (controls : List NodeControl) (handle : ℕ) (is_tested : Bool) (kind : NodeKind) → kind_at unit.nodes handle ≡ kind
        → IsSmall (control_kind unit controls handle is_tested kind)
    kind-small controls handle is_tested nodes.ContextStatement is = numbers.statements handle is
    kind-small controls handle is_tested nodes.Call is =
        called-small (node_at unit.nodes handle).token is_tested (control_at controls (child_at unit.nodes handle 0)).names
    kind-small controls handle is_tested nodes.Conditional is =
        either-arm IsSmall (nat_eq (length (children_at unit.nodes handle)) 2) Or Conditional (omega arith) (omega arith)
    kind-small controls handle true kind is = omega arith
    kind-small controls handle false kind is = omega arith

    -- Nodes

    abbrev AreSmall : NodeControl → Type 0
    AreSmall control = IsSmallNode control.plain × IsSmallNode control.tested

    abbrev EachIsSmall : List NodeControl → Type 0
    EachIsSmall controls = (handle : ℕ) → AreSmall (control_at controls handle)

    parts-small : (controls : List NodeControl) (kind : NodeKind) (is_tested : Bool) (place : ℕ) (parts : List ℕ) → EachIsSmall controls
        → AllSmall (parts_where controls kind is_tested place parts)
    parts-small controls kind is_tested place [] each = tt
    parts-small controls kind is_tested place (part ∷ parts) each = (
      either-arm IsSmallNode (tests kind is_tested place (nat_eq (length parts) 0)) (control_at controls part).tested (control_at controls part).plain (each part).1 (each part).0,
      parts-small controls kind is_tested (place + 1) parts each,
    )

    node-small : (controls : List NodeControl) (handle : ℕ) (is_tested : Bool) → EachIsSmall controls
        → IsSmallNode (control_node unit controls handle is_tested (kind_at unit.nodes handle))
    node-small controls handle is_tested each =
        let kind = kind_at unit.nodes handle in
        let parts = parts_where controls kind is_tested 0 (passed_of unit handle kind) in (
          kind-small controls handle is_tested kind refl,
          as-nodes (arranged kind is_tested parts) (arranged-small kind is_tested parts (parts-small controls kind is_tested 0 (passed_of unit handle kind) each)),
        )

    each-small : (count : ℕ) → EachIsSmall (controls_of unit count)
    each-small zero handle = ((omega arith, tt), (omega arith, tt))
    each-small (suc count) handle =
        one-more AreSmall (controls_of unit count) (control_of unit (controls_of unit count) count) nothing_there handle (each-small count handle)
        (node-small (controls_of unit count) count false (each-small count), node-small (controls_of unit count) count true (each-small count))

    parts-of-small : (node : ControlNode) → IsSmallNode node → AreSmallNodes (parts_of node)
    parts-of-small (Node kind token parts) small = small.1

    -- the cells of a body pass no more than the numbers of the unit
    pub small-body : (function : ℕ) → EachPassesAtMost most (cells_of (body_of unit function))
    small-body function =
        small-cells 0 (body_of unit function)
        (omega arith, parts-of-small (control_at (controls_of unit function) (statement_of unit function)).plain (each-small function (statement_of unit function)).0)

-- so its flow passes no more than so many cells can
pub size-of-flow : (unit : JudgedUnit) (function most count : ℕ) (cells : List Cell) (graph : List BasicBlock) → cells ≡ cells_of (body_of unit function) → count ≤ most_cells
    → HasSmallNumbers most unit → (EachPassesAtMost most cells → size_of_graph graph ≤ count * most) → size_of_graph graph ≤ most_cells * most
size-of-flow unit function most count cells graph made few numbers each =
    let passed : size_of_graph graph ≤ count * most = each (subst (EachPassesAtMost most) (sym made) (small-body most unit numbers function)) in
    let most_passed : count * most ≤ most_cells * most = mul-le count most most_cells most few (omega arith) in
    le_trans passed most_passed
