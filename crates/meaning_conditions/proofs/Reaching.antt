-- The plain program reaches each expression: over its signs it comes to stand behind its tree.
use Rattle.std.proofs.Common.{◌≡◌, ℕ, suc, ◌≤◌, ◌<◌, false, nat_le, Some, List, [], ◌∷◌, ◌++◌, refl, sym, ap, ◌∙◌, subst, arith}
use Rattle.std.proofs.lemmas.Bool.{le-leb}
use Rattle.std.proofs.lemmas.Bool.Decides.{nat_tests}
use Rattle.meaning_conditions.specs.Operators.{Binary, Multiply, Divide, Remainder, Add, Subtract, LeftShift, RightShift, Less, Greater, LessEqual, GreaterEqual, Equal, NotEqual, BitAnd, BitXor, BitOr, And, Or, rank, conditional_rank, condition_rank, unary_rank}
use Rattle.meaning_conditions.specs.Signs.{Sign, Operator, CloseParenthesis, QuestionMark, Colon}
use Rattle.meaning_conditions.specs.Expressions.{Tree, Leaf, Two, Choice, Expression, literal, parenthesized, prefixed, joined, conditional}
use Rattle.meaning_conditions.specs.plain.Reading.{Frame, Parenthesis, Prefix, Infix, Condition, Middle, State, BeforeOperand, BehindOperand, Reduced, trees, reduced, unreduced, behind_infix, behind_question, behind_colon, behind_parenthesis, next_state}

-- over these signs the plain program comes from one state to another
abbrev pub Runs : State Tree → List Sign → State Tree → Type 0
Runs state [] last = state ≡ last
Runs state (sign ∷ signs) last = (next : State Tree) × (next_state trees state sign ≡ Some next) × Runs next signs last

pub Runs-append :
    (state middle last : State Tree) (signs others : List Sign) → Runs state signs middle → Runs middle others last → Runs state (signs ++ others) last
Runs-append state middle last [] others first second = subst (λ s. Runs s others last) (sym first) second
Runs-append state middle last (sign ∷ signs) others first second =
    (first.0, first.1, Runs-append first.0 middle last signs others first.2 second)

-- one sign more
Runs-behind :
    (state middle next last : State Tree) (signs : List Sign) (sign : Sign) (others : List Sign) → Runs state signs middle → next_state trees middle sign ≡ Some next
    → Runs next others last → Runs state (signs ++ sign ∷ others) last
Runs-behind state middle next last signs sign others first one second = Runs-append state middle last signs (sign ∷ others) first (next, one, second)

pub rank-bounds : (operator : Binary) → (1 ≤ rank operator) × (rank operator ≤ 10)
rank-bounds Or = (omega arith, omega arith)
rank-bounds And = (omega arith, omega arith)
rank-bounds BitOr = (omega arith, omega arith)
rank-bounds BitXor = (omega arith, omega arith)
rank-bounds BitAnd = (omega arith, omega arith)
rank-bounds Equal = (omega arith, omega arith)
rank-bounds NotEqual = (omega arith, omega arith)
rank-bounds Less = (omega arith, omega arith)
rank-bounds Greater = (omega arith, omega arith)
rank-bounds LessEqual = (omega arith, omega arith)
rank-bounds GreaterEqual = (omega arith, omega arith)
rank-bounds LeftShift = (omega arith, omega arith)
rank-bounds RightShift = (omega arith, omega arith)
rank-bounds Add = (omega arith, omega arith)
rank-bounds Subtract = (omega arith, omega arith)
rank-bounds Multiply = (omega arith, omega arith)
rank-bounds Divide = (omega arith, omega arith)
rank-bounds Remainder = (omega arith, omega arith)

-- an operator takes the operand of one that binds no more strongly, and leaves that of any other
reduced-Infix :
    (least index : ℕ) (operator : Binary) (a : Tree) (frames : List (Frame Tree)) (b : Tree) → least ≤ rank operator
    → reduced trees least (Infix index operator a ∷ frames) b ≡ reduced trees least frames (Two index operator a b)
reduced-Infix least index operator a frames b within = rw (le-leb least (rank operator) within, reduced) refl

not_le : (a b : ℕ) → b < a → nat_le a b ≡ false
not_le a b less = grind (arith, nat_tests)

reduced-Infix-stays :
    (least index : ℕ) (operator : Binary) (a : Tree) (frames : List (Frame Tree)) (b : Tree) → rank operator < least
    → reduced trees least (Infix index operator a ∷ frames) b ≡ unreduced (Infix index operator a ∷ frames) b
reduced-Infix-stays least index operator a frames b less = rw (not_le least (rank operator) less, reduced) refl

reduced-Middle :
    (least : ℕ) (a b : Tree) (frames : List (Frame Tree)) (c : Tree) → least ≤ 0
    → reduced trees least (Middle a b ∷ frames) c ≡ reduced trees least frames (Choice a b c)
reduced-Middle least a b frames c within = rw (le-leb least 0 within, reduced) refl

reduced-Middle-stays :
    (least : ℕ) (a b : Tree) (frames : List (Frame Tree)) (c : Tree) → 1 ≤ least → reduced trees least (Middle a b ∷ frames) c ≡ unreduced (Middle a b ∷ frames) c
reduced-Middle-stays least a b frames c some = rw (not_le least 0 (omega arith), reduced) refl

-- the frames leave alone an operand of operators that bind at least so strongly
abbrev Holds : ℕ → List (Frame Tree) → Type 0
Holds most frames = (least : ℕ) → most ≤ least → 1 ≤ least → least ≤ 10 → (operand : Tree) → reduced trees least frames operand ≡ unreduced frames operand

-- From an operand that is wanted the program comes to stand behind one; what is open by then makes the tree of the signs.
abbrev Reads : ℕ → List (Frame Tree) → List Sign → Tree → Type 0
Reads most frames signs tree =
    (inner : List (Frame Tree)) × (operand : Tree) × Runs (BeforeOperand frames) signs (BehindOperand inner operand)
    × ((least : ℕ) → least ≤ most → reduced trees least inner operand ≡ reduced trees least frames tree)

reads : (least : ℕ) (signs : List Sign) (tree : Tree) → Expression least signs tree → (frames : List (Frame Tree)) → Holds least frames → Reads least frames signs tree
reads least _ _ (literal {number = number}) frames holds = (frames, Leaf number, (BehindOperand frames (Leaf number), refl, refl), λ k within. refl)
reads least _ _ (parenthesized {inner = inner} {tree = tree} expression) frames holds =
    let read = reads conditional_rank inner tree expression (Parenthesis ∷ frames) (λ k within some few operand. refl) in
    let close : next_state trees (BehindOperand read.0 read.1) CloseParenthesis ≡ Some (BehindOperand frames tree) =
    ap (λ (r : Reduced Tree). behind_parenthesis r.frames r.operand) (read.3 0 (omega arith)) in (
      frames,
      tree,
      (BeforeOperand (Parenthesis ∷ frames), refl, Runs-behind _ (BehindOperand read.0 read.1) (BehindOperand frames tree) _ inner CloseParenthesis [] read.2 close refl),
      λ k within. refl,
    )
reads least _ _ (prefixed {operator = operator} {operand = operand} {tree = tree} within expression) frames holds =
    let read = reads unary_rank operand tree expression (Prefix operator ∷ frames) (λ k above some few t. absurd (omega arith)) in
    (read.0, read.1, (BeforeOperand (Prefix operator ∷ frames), refl, read.2), λ k below. read.3 k (omega arith))
reads least _ _ (joined {index = index} {operator = operator} {left = left} {right = right} {a = a} {b = b} before within first second) frames holds =
    let bounds = rank-bounds operator in
    let read = reads (rank operator) left a first frames (λ k above some few t. holds k (omega arith) some few t) in
    let held : reduced trees (rank operator) read.0 read.1 ≡ unreduced frames a =
    read.3 (rank operator) (omega arith) ∙ holds (rank operator) within bounds.0 bounds.1 a in
    let middle : State Tree = BeforeOperand (Infix index operator a ∷ frames) in
    let go : next_state trees (BehindOperand read.0 read.1) (Operator index before (Some operator)) ≡ Some middle =
    ap (λ (r : Reduced Tree). Some (behind_infix index operator r)) held in
    let again = reads (suc (rank operator)) right b second (Infix index operator a ∷ frames)
    (λ k above some few t. reduced-Infix-stays k index operator a frames t above) in (
      again.0,
      again.1,
      Runs-behind _ (BehindOperand read.0 read.1) middle _ left (Operator index before (Some operator)) right read.2 go again.2,
      λ k below. again.3 k (omega arith) ∙ reduced-Infix k index operator a frames b (omega arith),
    )
reads least _ _ (conditional {condition = condition} {middle = middle} {other = other} {a = a} {b = b} {c = c} within first second third) frames holds =
    let read = reads condition_rank condition a first frames (λ k above some few t. holds k (omega arith) some few t) in
    let held : reduced trees condition_rank read.0 read.1 ≡ unreduced frames a =
    read.3 condition_rank (omega arith) ∙ holds condition_rank (omega arith) (omega arith) (omega arith) a in
    let asked : State Tree = BeforeOperand (Condition a ∷ frames) in
    let ask : next_state trees (BehindOperand read.0 read.1) QuestionMark ≡ Some asked = ap (λ (r : Reduced Tree). Some (behind_question r)) held in
    let between = reads conditional_rank middle b second (Condition a ∷ frames) (λ k above some few t. refl) in
    let parted : State Tree = BeforeOperand (Middle a b ∷ frames) in
    let part : next_state trees (BehindOperand between.0 between.1) Colon ≡ Some parted =
    ap (λ (r : Reduced Tree). behind_colon r.frames r.operand) (between.3 0 (omega arith)) in
    let last = reads conditional_rank other c third (Middle a b ∷ frames) (λ k above some few t. reduced-Middle-stays k a b frames t some) in (
      last.0,
      last.1,
      Runs-behind _ (BehindOperand read.0 read.1) asked _ condition QuestionMark (middle ++ Colon ∷ other) read.2 ask
          (Runs-behind _ (BehindOperand between.0 between.1) parted _ middle Colon other between.2 part last.2),
      λ k below. last.3 k (omega arith) ∙ reduced-Middle k a b frames c (omega arith),
    )

-- the program stands behind the whole, and nothing is open
pub reads_whole :
    (signs : List Sign) (tree : Tree) → Expression conditional_rank signs tree
    → (frames : List (Frame Tree)) × (operand : Tree) × Runs (BeforeOperand []) signs (BehindOperand frames operand)
    × (reduced trees conditional_rank frames operand ≡ unreduced [] tree)
reads_whole signs tree expression =
    let read = reads conditional_rank signs tree expression [] (λ k above some few t. refl) in
    (read.0, read.1, read.2, read.3 0 (omega arith))
