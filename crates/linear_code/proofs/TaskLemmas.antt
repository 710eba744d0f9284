-- To visit a node is to visit its parts and to make its own cell behind them.
use Rattle.std.proofs.Common.{◌≡◌, ℕ, zero, suc, ◌+◌, ◌-◌, ◌*◌, ◌<◌, ◌≤◌, inl, inr, Bool, true, false, nat_eq, if◌then◌else◌, List, [], ◌∷◌, ◌++◌, map, length, get_or, drop, take, reverse, refl, sym, ap, ap₂, ◌∙◌, arith, append_assoc, length-append}
use Rattle.std.proofs.lemmas.Bool.{cases_lt, eq-eqb, ne_eqb}
use Rattle.std.proofs.lemmas.List.{append-nil, get_or_default, length-drop, map-append, reverse-append}
use Rattle.std.proofs.Math.Seq.{drop-append_seam, take-append_seam}
use Rattle.vocabulary.specs.declared.node_kind.NodeKind.{NodeKind}
use Rattle.vocabulary.specs.declared.node_kind.NodeKind.TheVariants as kinds
use Rattle.meaning_control.specs.Kinds.{ControlKind}
use Rattle.meaning_control.specs.Nodes.{JudgedUnit, arranged, nodes_of, parts_where, passed_of, tests}
use Rattle.meaning_control.specs.States.{ControlNode, Node, ControlNodes, NoNodes, Nodes, count_of, kind_of, parts_of, token_at}
use Rattle.meaning_control.specs.laws.Cells.{Cell}
use Rattle.sparse_model.specs.declared.ids.NameId.{NameId}
use Rattle.meaning_tree.specs.Nodes.{NodeList, ChildrenStandBefore}
use Rattle.meaning_typing.specs.Units.{kind_at, node_at}
use Rattle.node_facts.specs.Facts.{name_seen}
use Rattle.decl_judge.specs.Units as units
use Rattle.control_cells.specs.Seen.{kind_seen}
use Rattle.control_cells.specs.declared.kind.ControlKind.{ControlKind as KeptKind}
use Rattle.linear_code.specs.declared.cells.Task.{Task as KeptTask}
use Rattle.linear_code.specs.declared.cells.Task.TheVariants as kept
use Rattle.linear_code.specs.Cells.{all_from, cells_from, controls_in, node_where, number_of, numbers_of, size_of, sizes_of}
use Rattle.linear_code.specs.Tasks.{Task, Finish, Visit, cells_behind, parts_in, stands_twice, task_seen, tasks_seen, turns_left, visits}
use Rattle.linear_code.specs.Known.{KnownFacts, judged_unit}
use Rattle.linear_code.proofs.CellLemmas.{length-all, length-cells}
use Rattle.linear_code.proofs.ControlLemmas.{parts-are}

-- Tasks as they are kept

-- the task that joins them is the next one
pub next-seen : (unit : JudgedUnit) (tasks : List KeptTask) (task : KeptTask) → tasks_seen unit (tasks ++ task ∷ []) ≡ task_seen unit task ∷ tasks_seen unit tasks
next-seen unit tasks task =
    ap reverse (map-append (task_seen unit) tasks (task ∷ [])) ∙ reverse-append (map (task_seen unit) tasks) (task_seen unit task ∷ [])

pub visits-listed : (nodes : List ControlNode) → visits (nodes_of nodes) ≡ map Visit nodes
visits-listed [] = refl
visits-listed (node ∷ nodes) = ap (λ (tasks : List Task). Visit node ∷ tasks) (visits-listed nodes)

pub count-listed : (nodes : List ControlNode) → count_of (nodes_of nodes) ≡ length nodes
count-listed [] = refl
count-listed (node ∷ nodes) = omega (arith, count-listed nodes)

-- The parts of a node

drop-next : {X : Type 0} (xs : List X) (place : ℕ) (x : X) → place < length xs → x ≡ get_or xs place x → drop place xs ≡ x ∷ drop (place + 1) xs
drop-next [] place x within is = absurd (omega (arith, within))
drop-next (first ∷ xs) zero x within is = ap (λ now. now ∷ xs) (sym is)
drop-next (first ∷ xs) (suc place) x within is =
    let next : suc (place + 1) ≡ suc place + 1 = omega arith in
    drop-next xs place x (omega (arith, within)) is ∙ ap (λ (k : ℕ). x ∷ drop k (first ∷ xs)) next

-- a part is the last one where none is behind it
last-is : (place count : ℕ) → place ≤ count → nat_eq (count - place) 0 ≡ nat_eq place count
last-is place count within =
    elim (cases_lt place count) [
      | inl before ↦ ne_eqb (count - place) 0 (λ none. omega (arith, before, none)) ∙ sym (ne_eqb place count (λ same. omega (arith, before, same)))
      | inr past ↦ eq-eqb (count - place) 0 (omega (arith, past)) ∙ sym (eq-eqb place count (omega (arith, within, past)))
    ]

module _ (unit : JudgedUnit) (kind : NodeKind) (is_tested : Bool) where
  abbrev pub parts_from : (place : ℕ) → (passed : List ℕ) → List ControlNode
  parts_from place passed = parts_where (controls_in unit) kind is_tested place passed

  -- one part more is visited
  pub visit-next : (passed : List ℕ) (place part : ℕ) → place < length passed → part ≡ get_or passed place part
      → map Visit (parts_from place (drop place passed))
      ≡ Visit (node_where unit part (tests kind is_tested place (nat_eq (place + 1) (length passed)))) ∷ map Visit (parts_from (place + 1) (drop (place + 1) passed))
  visit-next passed place part within is =
      ap (λ left. map Visit (parts_from place left)) (drop-next passed place part within is)
      ∙ ap (λ last. Visit (node_where unit part (tests kind is_tested place last)) ∷ map Visit (parts_from (place + 1) (drop (place + 1) passed)))
      (ap (λ count. nat_eq count 0) (length-drop (place + 1) passed) ∙ last-is (place + 1) (length passed) (omega (arith, within)))

  pub length-parts : (place : ℕ) (passed : List ℕ) → length (parts_from place passed) ≡ length passed
  length-parts place [] = refl
  length-parts place (part ∷ passed) = omega (arith, length-parts (place + 1) passed)

-- with one that stands twice
not-two : (count : ℕ) → nat_eq (suc (suc (suc count))) 2 ≡ true → ⊥
not-two count is = cc (sym (ne_eqb (suc (suc (suc count))) 2 (λ same. omega (arith, same))) ∙ is)

pub twice-is : (unit : JudgedUnit) (kind : NodeKind) (is_tested : Bool) (passed : List ℕ) → stands_twice kind is_tested (length passed) ≡ true
    → map Visit (arranged kind is_tested (parts_from unit kind is_tested 0 passed))
    ≡ map Visit (parts_from unit kind is_tested 0 passed) ++ Visit (node_where unit (get_or passed 1 0) (tests kind is_tested 1 true)) ∷ []
twice-is unit kinds.BuiltinExpect true [] twice = absurd (cc twice)
twice-is unit kinds.BuiltinExpect true (one ∷ []) twice = absurd (cc twice)
twice-is unit kinds.BuiltinExpect true (one ∷ other ∷ []) twice = refl
twice-is unit kinds.BuiltinExpect true (one ∷ other ∷ more ∷ passed) twice = absurd (not-two (length passed) twice)
twice-is unit kinds.BuiltinExpect false passed twice = absurd (cc twice)
twice-is unit kind is_tested passed twice = absurd (cc twice)

-- and without
pub once-is : (unit : JudgedUnit) (kind : NodeKind) (is_tested : Bool) (passed : List ℕ) → stands_twice kind is_tested (length passed) ≡ false
    → arranged kind is_tested (parts_from unit kind is_tested 0 passed) ≡ parts_from unit kind is_tested 0 passed
once-is unit kinds.BuiltinExpect true [] once = refl
once-is unit kinds.BuiltinExpect true (one ∷ []) once = refl
once-is unit kinds.BuiltinExpect true (one ∷ other ∷ []) once = absurd (cc once)
once-is unit kinds.BuiltinExpect true (one ∷ other ∷ more ∷ passed) once = refl
once-is unit kinds.BuiltinExpect false passed once = refl
once-is unit kind is_tested passed once = refl

pub count-arranged : (unit : JudgedUnit) (kind : NodeKind) (is_tested : Bool) (passed : List ℕ)
    → length (arranged kind is_tested (parts_from unit kind is_tested 0 passed)) ≡ parts_in kind is_tested (length passed)
count-arranged unit kinds.BuiltinExpect true [] = refl
count-arranged unit kinds.BuiltinExpect true (one ∷ []) = refl
count-arranged unit kinds.BuiltinExpect true (one ∷ other ∷ []) = refl
count-arranged unit kinds.BuiltinExpect true (one ∷ other ∷ more ∷ passed) =
    length-parts unit kinds.BuiltinExpect true 0 (one ∷ other ∷ more ∷ passed)
    ∙ ap (λ test. if test then 3 else length (one ∷ other ∷ more ∷ passed))
    (sym (ne_eqb (length (one ∷ other ∷ more ∷ passed)) 2 (λ same. omega (arith, same))))
count-arranged unit kinds.BuiltinExpect false passed = length-parts unit kinds.BuiltinExpect false 0 passed
count-arranged unit kind is_tested passed = length-parts unit kind is_tested 0 passed

-- What they make

length-numbers : (first : ℕ) (parts : ControlNodes) → length (numbers_of first parts) ≡ count_of parts
length-numbers first NoNodes = refl
length-numbers first (Nodes node others) = omega (arith, length-numbers (first + size_of node) others)

behind-visits : (parts : ControlNodes) (tasks : List Task) (cells : List Cell) (roots : List ℕ)
    → cells_behind (visits parts ++ tasks) cells roots
    ≡ cells_behind tasks (cells ++ all_from (length cells) parts) (roots ++ numbers_of (length cells) parts)
behind-visits NoNodes tasks cells roots = ap₂ (cells_behind tasks) (sym (append-nil cells)) (sym (append-nil roots))
behind-visits (Nodes node others) tasks cells roots =
    let own = cells_from (length cells) node in
    let number = number_of (length cells) node in
    let count : length (cells ++ own) ≡ length cells + size_of node = omega (arith, length-append cells own, length-cells (length cells) node) in
    behind-visits others tasks (cells ++ own) (roots ++ number ∷ [])
    ∙ ap₂ (λ (first : ℕ) (last : ℕ). cells_behind tasks ((cells ++ own) ++ all_from first others) ((roots ++ number ∷ []) ++ numbers_of last others)) count count
    ∙ ap₂ (cells_behind tasks) (append_assoc cells own (all_from (length cells + size_of node) others))
    (append_assoc roots (number ∷ []) (numbers_of (length cells + size_of node) others))

pub behind-node : (kind : ControlKind) (token : ℕ) (parts : ControlNodes) (tasks : List Task) (cells : List Cell) (roots : List ℕ)
    → cells_behind (visits parts ++ Finish kind token (count_of parts) ∷ tasks) cells roots ≡ cells_behind (Visit (Node kind token parts) ∷ tasks) cells roots
behind-node kind token parts tasks cells roots =
    let all = all_from (length cells) parts in
    let numbers = numbers_of (length cells) parts in
    let own : List ℕ → List Cell = λ of. record { kind = kind; token = token; parts = of } ∷ [] in
    let left : length (roots ++ numbers) - count_of parts ≡ length roots =
    omega (arith, length-append roots numbers, length-numbers (length cells) parts)
    in
    let last : length (cells ++ all) ≡ number_of (length cells) (Node kind token parts) =
    omega (arith, length-append cells all, length-all (length cells) parts)
    in
    behind-visits parts (Finish kind token (count_of parts) ∷ tasks) cells roots
    ∙ ap₂ (λ (at : ℕ) (number : ℕ). cells_behind tasks ((cells ++ all) ++ own (drop at (roots ++ numbers))) (take at (roots ++ numbers) ++ number ∷ [])) left last
    ∙ ap₂ (λ (parts_of : List ℕ) (front : List ℕ). cells_behind tasks ((cells ++ all) ++ own parts_of) (front ++ number_of (length cells) (Node kind token parts) ∷ []))
    (drop-append_seam roots numbers) (take-append_seam roots numbers)
    ∙ ap (λ (made : List Cell). cells_behind tasks made (roots ++ number_of (length cells) (Node kind token parts) ∷ [])) (append_assoc cells all (own numbers))

-- How long they take

turns-visits : (parts : ControlNodes) (tasks : List Task) → turns_left (visits parts ++ tasks) ≡ 2 * sizes_of parts + turns_left tasks
turns-visits NoNodes tasks = omega arith
turns-visits (Nodes node others) tasks = omega (arith, turns-visits others tasks)

pub turns-fall : (kind : ControlKind) (token : ℕ) (parts : ControlNodes) (tasks : List Task)
    → turns_left (visits parts ++ Finish kind token (count_of parts) ∷ tasks) < turns_left (Visit (Node kind token parts) ∷ tasks)
turns-fall kind token parts tasks = omega (arith, turns-visits parts (Finish kind token (count_of parts) ∷ tasks))

-- Turns

-- the task that is taken was the last one
pub taken-seen : (unit : JudgedUnit) (tasks front : List KeptTask) (task : KeptTask) → tasks ≡ front ++ task ∷ []
    → tasks_seen unit tasks ≡ task_seen unit task ∷ tasks_seen unit front
taken-seen unit tasks front task is = ap (tasks_seen unit) is ∙ next-seen unit front task

-- to visit a part more
pub visited : (unit : JudgedUnit) (kind : NodeKind) (is_tested : Bool) (passed : List ℕ) (count : ℕ) (test : Bool) (tasks old : List KeptTask)
    → 0 < count → count ≤ length passed
    → test ≡ tests kind is_tested (count - 1) (nat_eq (count - 1 + 1) (length passed))
    → tasks_seen unit tasks ≡ map Visit (parts_from unit kind is_tested count (drop count passed)) ++ tasks_seen unit old
    → tasks_seen unit (tasks ++ kept.Visit (get_or passed (count - 1) 0) test ∷ [])
    ≡ map Visit (parts_from unit kind is_tested (count - 1) (drop (count - 1) passed)) ++ tasks_seen unit old
visited unit kind is_tested passed count test tasks old some within is given =
    let place = count - 1 in
    let part = get_or passed place 0 in
    let at : part ≡ get_or passed place part = get_or_default passed place 0 part (omega (arith, some, within)) in
    let whole : count ≡ place + 1 = omega (arith, some) in
    next-seen unit tasks (kept.Visit part test)
    ∙ ap₂ (λ test (rest : List Task). Visit (node_where unit part test) ∷ rest) is given
    ∙ ap (λ from. (Visit (node_where unit part (tests kind is_tested place (nat_eq (place + 1) (length passed)))) ∷ map Visit (parts_from unit kind is_tested from (drop from passed))) ++ tasks_seen unit old)
    whole
    ∙ ap (λ (front : List Task). front ++ tasks_seen unit old) (sym (visit-next unit kind is_tested passed place part (omega (arith, some, within)) at))

-- a node is visited
pub turn-visit : (tasks new : List Task) (node : ControlNode) (kind : ControlKind) (token : ℕ) → kind ≡ kind_of node → token ≡ token_at node
    → new ≡ visits (parts_of node) ++ Finish kind token (count_of (parts_of node)) ∷ tasks
    → (cells : List Cell) (roots : List ℕ) → cells_behind new cells roots ≡ cells_behind (Visit node ∷ tasks) cells roots
turn-visit tasks new (Node own at parts) kind token is stands given cells roots =
    ap (λ now. cells_behind now cells roots) given
    ∙ ap₂ (λ kind token. cells_behind (visits parts ++ Finish kind token (count_of parts) ∷ tasks) cells roots) is stands
    ∙ behind-node own at parts tasks cells roots

pub turn-falls : (tasks new : List Task) (node : ControlNode) (kind : ControlKind) (token : ℕ)
    → new ≡ visits (parts_of node) ++ Finish kind token (count_of (parts_of node)) ∷ tasks → turns_left new < turns_left (Visit node ∷ tasks)
turn-falls tasks new (Node own at parts) kind token given =
    omega (arith, ap turns_left given, turns-fall kind token parts tasks)

-- What is kept of a node's visit

module _ (list : NodeList NameId) (known : KnownFacts) (whole : list.first ≡ 0) (order : ChildrenStandBefore list) where
  pub visited-node : (handle : ℕ) (is_tested : Bool) (kind : NodeKind) (passed : List ℕ) (own : KeptKind) (token parts : ℕ) (new : List Task) (old : List KeptTask)
      → kind ≡ kind_at (units.nodes_of list) handle
      → passed ≡ passed_of (judged_unit list known) handle (kind_at (units.nodes_of list) handle)
      → token ≡ (node_at (units.nodes_of list) handle).token
      → parts ≡ parts_in kind is_tested (length passed)
      → new ≡ map Visit (arranged kind is_tested (parts_from (judged_unit list known) kind is_tested 0 passed)) ++ tasks_seen (judged_unit list known) (old ++ kept.Finish own token parts ∷ [])
      → new
      ≡ visits (parts_of (node_where (judged_unit list known) handle is_tested))
      ++ Finish (kind_seen name_seen (node_at (units.nodes_of list) handle).token own) (node_at (units.nodes_of list) handle).token
      (count_of (parts_of (node_where (judged_unit list known) handle is_tested)))
      ∷ tasks_seen (judged_unit list known) old
  visited-node handle is_tested kind passed own token parts new old is are at count given =
      let unit = judged_unit list known in
      let node = node_where unit handle is_tested in
      let same : nodes_of (arranged kind is_tested (parts_from unit kind is_tested 0 passed)) ≡ parts_of node =
      ap₂ (λ kind passed. nodes_of (arranged kind is_tested (parts_from unit kind is_tested 0 passed))) is are
      ∙ sym (parts-are list known whole order handle is_tested)
      in
      let number : parts ≡ count_of (parts_of node) =
      count ∙ sym (count-arranged unit kind is_tested passed)
      ∙ sym (count-listed (arranged kind is_tested (parts_from unit kind is_tested 0 passed))) ∙ ap count_of same
      in
      given
      ∙ ap (λ (rest : List Task). map Visit (arranged kind is_tested (parts_from unit kind is_tested 0 passed)) ++ rest) (next-seen unit old (kept.Finish own token parts))
      ∙ ap₂ (λ token parts. map Visit (arranged kind is_tested (parts_from unit kind is_tested 0 passed)) ++ Finish (kind_seen name_seen token own) token parts ∷ tasks_seen unit old) at number
      ∙ ap (λ (front : List Task). front ++ Finish (kind_seen name_seen (node_at (units.nodes_of list) handle).token own) (node_at (units.nodes_of list) handle).token (count_of (parts_of node)) ∷ tasks_seen unit old)
      (sym (visits-listed (arranged kind is_tested (parts_from unit kind is_tested 0 passed))) ∙ ap visits same)
