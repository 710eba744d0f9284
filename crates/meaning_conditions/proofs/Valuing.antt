-- The plain program comes to the value of a tree as it comes to the tree.
use Rattle.std.proofs.Common.{◌≡◌, ℕ, ◌+◌, Bool, true, false, nat_le, Option, Some, None, option_map, List, [], ◌∷◌, refl, sym, ap, ◌∙◌, subst, ⊎_elim}
use Rattle.std.proofs.lemmas.Bool.{cases_Bool}
use Rattle.meaning_text.specs.Tokens.{Tok}
use Rattle.meaning_conditions.specs.Operators.{rank, conditional_rank, condition_rank}
use Rattle.meaning_conditions.specs.Signs.{Sign, Literal, Operator, OpenParenthesis, CloseParenthesis, QuestionMark, Colon, Stranger, sign_of}
use Rattle.meaning_conditions.specs.Expressions.{Tree, Two, Choice, IsExpression}
use Rattle.meaning_conditions.specs.Values.{Outcome, Is, ZeroAt, Operand, two, choice, valued}
use Rattle.meaning_conditions.specs.Answers.{Answer, HasValue, HasBadIndex, HasZeroDivisor, IsAnswerOfTree, IsIfAnswer, answer_with, answer_of_operand}
use Rattle.meaning_conditions.specs.plain.Reading.{Frame, Parenthesis, Prefix, Infix, Condition, Middle, State, BeforeOperand, BehindOperand, Reduced, unreduced, reduced, trees, values, next_state, behind_infix, behind_question, behind_colon, behind_parenthesis, Read, ReadWhole, ReadWrong, whole, ended, read_from, read, answer_of_read, answer_of}
use Rattle.meaning_conditions.proofs.Answering.{read-IsExpression, IsExpression-read, GoesWrongAt-read, read-GoesWrongAt}

-- trees as their values
abbrev frame_valued : Frame Tree → Frame Operand
frame_valued Parenthesis = Parenthesis
frame_valued (Prefix operator) = Prefix operator
frame_valued (Infix index operator a) = Infix index operator (valued a)
frame_valued (Condition a) = Condition (valued a)
frame_valued (Middle a b) = Middle (valued a) (valued b)

abbrev frames_valued : List (Frame Tree) → List (Frame Operand)
frames_valued [] = []
frames_valued (frame ∷ frames) = frame_valued frame ∷ frames_valued frames

abbrev state_valued : State Tree → State Operand
state_valued (BeforeOperand frames) = BeforeOperand (frames_valued frames)
state_valued (BehindOperand frames tree) = BehindOperand (frames_valued frames) (valued tree)

abbrev reached_valued : Reduced Tree → Reduced Operand
reached_valued reached = record { frames = frames_valued reached.frames; operand = valued reached.operand }

abbrev read_valued : Read Tree → Read Operand
read_valued (ReadWhole tree) = ReadWhole (valued tree)
read_valued (ReadWrong index) = ReadWrong index

reduced-valued :
    (least : ℕ) (frames : List (Frame Tree)) (tree : Tree)
    → reduced values least (frames_valued frames) (valued tree) ≡ reached_valued (reduced trees least frames tree)
reduced-valued least [] tree = refl
reduced-valued least (Parenthesis ∷ frames) tree = refl
reduced-valued least (Prefix operator ∷ frames) tree = reduced-valued least frames _
reduced-valued least (Infix index operator a ∷ frames) tree =
    let Same : Bool → Type 0 = λ test.
    elim test as (λ _. Reduced Operand) [
      | true ↦ reduced values least (frames_valued frames) (two index operator (valued a) (valued tree))
      | false ↦ unreduced (Infix index operator (valued a) ∷ frames_valued frames) (valued tree)
    ]
    ≡ reached_valued (elim test as (λ _. Reduced Tree) [
      | true ↦ reduced trees least frames (Two index operator a tree)
      | false ↦ unreduced (Infix index operator a ∷ frames) tree
    ]) in
    ⊎_elim
    (λ yes. subst Same (sym yes) (reduced-valued least frames (Two index operator a tree)))
    (λ no. subst Same (sym no) refl)
    (cases_Bool (nat_le least (rank operator)))
reduced-valued least (Condition a ∷ frames) tree = refl
reduced-valued least (Middle a b ∷ frames) tree =
    let Same : Bool → Type 0 = λ test.
    elim test as (λ _. Reduced Operand) [
      | true ↦ reduced values least (frames_valued frames) (choice (valued a) (valued b) (valued tree))
      | false ↦ unreduced (Middle (valued a) (valued b) ∷ frames_valued frames) (valued tree)
    ]
    ≡ reached_valued (elim test as (λ _. Reduced Tree) [
      | true ↦ reduced trees least frames (Choice a b tree)
      | false ↦ unreduced (Middle a b ∷ frames) tree
    ]) in
    ⊎_elim
    (λ yes. subst Same (sym yes) (reduced-valued least frames (Choice a b tree)))
    (λ no. subst Same (sym no) refl)
    (cases_Bool (nat_le least conditional_rank))

colon-valued :
    (frames : List (Frame Tree)) (tree : Tree) → behind_colon (frames_valued frames) (valued tree) ≡ option_map state_valued (behind_colon frames tree)
colon-valued [] tree = refl
colon-valued (Parenthesis ∷ frames) tree = refl
colon-valued (Prefix operator ∷ frames) tree = refl
colon-valued (Infix index operator a ∷ frames) tree = refl
colon-valued (Condition a ∷ frames) tree = refl
colon-valued (Middle a b ∷ frames) tree = refl

parenthesis-valued :
    (frames : List (Frame Tree)) (tree : Tree) → behind_parenthesis (frames_valued frames) (valued tree) ≡ option_map state_valued (behind_parenthesis frames tree)
parenthesis-valued [] tree = refl
parenthesis-valued (Parenthesis ∷ frames) tree = refl
parenthesis-valued (Prefix operator ∷ frames) tree = refl
parenthesis-valued (Infix index operator a ∷ frames) tree = refl
parenthesis-valued (Condition a ∷ frames) tree = refl
parenthesis-valued (Middle a b ∷ frames) tree = refl

step-valued : (state : State Tree) (sign : Sign) → next_state values (state_valued state) sign ≡ option_map state_valued (next_state trees state sign)
step-valued (BeforeOperand frames) (Literal number) = refl
step-valued (BeforeOperand frames) OpenParenthesis = refl
step-valued (BeforeOperand frames) (Operator index (Some operator) between) = refl
step-valued (BeforeOperand frames) (Operator index None between) = refl
step-valued (BeforeOperand frames) CloseParenthesis = refl
step-valued (BeforeOperand frames) QuestionMark = refl
step-valued (BeforeOperand frames) Colon = refl
step-valued (BeforeOperand frames) Stranger = refl
step-valued (BehindOperand frames tree) (Literal number) = refl
step-valued (BehindOperand frames tree) OpenParenthesis = refl
step-valued (BehindOperand frames tree) (Operator index before None) = refl
step-valued (BehindOperand frames tree) (Operator index before (Some operator)) =
    ap (λ (r : Reduced Operand). Some (behind_infix index operator r)) (reduced-valued (rank operator) frames tree)
step-valued (BehindOperand frames tree) CloseParenthesis =
    let all = reduced trees conditional_rank frames tree in
    ap (λ (r : Reduced Operand). behind_parenthesis r.frames r.operand) (reduced-valued conditional_rank frames tree)
    ∙ parenthesis-valued all.frames all.operand
step-valued (BehindOperand frames tree) QuestionMark = ap (λ (r : Reduced Operand). Some (behind_question r)) (reduced-valued condition_rank frames tree)
step-valued (BehindOperand frames tree) Colon =
    let all = reduced trees conditional_rank frames tree in
    ap (λ (r : Reduced Operand). behind_colon r.frames r.operand) (reduced-valued conditional_rank frames tree) ∙ colon-valued all.frames all.operand
step-valued (BehindOperand frames tree) Stranger = refl

whole-valued : (index : ℕ) (frames : List (Frame Tree)) (tree : Tree) → whole index (frames_valued frames) (valued tree) ≡ read_valued (whole index frames tree)
whole-valued index [] tree = refl
whole-valued index (frame ∷ frames) tree = refl

ended-valued : (index : ℕ) (state : State Tree) → ended values index (state_valued state) ≡ read_valued (ended trees index state)
ended-valued index (BeforeOperand frames) = refl
ended-valued index (BehindOperand frames tree) =
    let all = reduced trees conditional_rank frames tree in
    ap (λ (r : Reduced Operand). whole index r.frames r.operand) (reduced-valued conditional_rank frames tree) ∙ whole-valued index all.frames all.operand

further-valued :
    (index : ℕ) (state : State Tree) (token : Tok) (tokens : List Tok) (stepped : Option (State Tree)) → next_state trees state (sign_of index token) ≡ stepped
    → ((next : State Tree) → read_from values (index + 1) (state_valued next) tokens ≡ read_valued (read_from trees (index + 1) next tokens))
    → read_from values index (state_valued state) (token ∷ tokens) ≡ read_valued (read_from trees index state (token ∷ tokens))
further-valued index state token tokens None is later =
    let stepped : next_state values (state_valued state) (sign_of index token) ≡ None = step-valued state (sign_of index token) ∙ ap (option_map state_valued) is in
    let of_values : read_from values index (state_valued state) (token ∷ tokens) ≡ ReadWrong index = rw (stepped, read_from) refl in
    let of_trees : read_from trees index state (token ∷ tokens) ≡ ReadWrong index = rw (is, read_from) refl in
    of_values ∙ ap read_valued (sym of_trees)
further-valued index state token tokens (Some next) is later =
    let stepped : next_state values (state_valued state) (sign_of index token) ≡ Some (state_valued next) =
    step-valued state (sign_of index token) ∙ ap (option_map state_valued) is in
    let of_values : read_from values index (state_valued state) (token ∷ tokens) ≡ read_from values (index + 1) (state_valued next) tokens =
    rw (stepped, read_from) refl in
    let of_trees : read_from trees index state (token ∷ tokens) ≡ read_from trees (index + 1) next tokens = rw (is, read_from) refl in
    of_values ∙ later next ∙ ap read_valued (sym of_trees)

read_from-valued :
    (tokens : List Tok) (index : ℕ) (state : State Tree)
    → read_from values index (state_valued state) tokens ≡ read_valued (read_from trees index state tokens)
read_from-valued [] index state = ended-valued index state
read_from-valued (token ∷ tokens) index state =
    further-valued index state token tokens (next_state trees state (sign_of index token)) refl (λ next. read_from-valued tokens (index + 1) next)

answer_of-trees : (tokens : List Tok) → answer_of tokens ≡ answer_of_read (read_valued (read trees tokens))
answer_of-trees tokens = ap answer_of_read (read_from-valued tokens 0 (BeforeOperand []))

-- an answer that a tree gives
answer_with-IsAnswer :
    (tokens : List Tok) (tree : Tree) (unsigned : Bool) (outcome : Outcome) → IsExpression tokens tree
    → answer_of_operand (valued tree) ≡ answer_with unsigned outcome → IsIfAnswer tokens (answer_with unsigned outcome)
answer_with-IsAnswer tokens tree unsigned (Is bits) expression is = (tree, expression, is)
answer_with-IsAnswer tokens tree unsigned (ZeroAt index) expression is = (tree, expression, is)

answer_of_read-IsAnswer : (tokens : List Tok) (found : Read Tree) → read trees tokens ≡ found → IsIfAnswer tokens (answer_of_read (read_valued found))
answer_of_read-IsAnswer tokens (ReadWhole tree) is =
    answer_with-IsAnswer tokens tree (valued tree).unsigned (valued tree).outcome (IsExpression-read tokens tree is) refl
answer_of_read-IsAnswer tokens (ReadWrong index) is = GoesWrongAt-read tokens index is

pub answers_exist : (tokens : List Tok) → IsIfAnswer tokens (answer_of tokens)
answers_exist tokens = subst (IsIfAnswer tokens) (sym (answer_of-trees tokens)) (answer_of_read-IsAnswer tokens (read trees tokens) refl)

of_tree : (tokens : List Tok) (answer : Answer) → IsAnswerOfTree tokens answer → answer ≡ answer_of tokens
of_tree tokens answer is =
    let found : read trees tokens ≡ ReadWhole is.0 = read-IsExpression tokens is.0 is.1 in
    sym is.2 ∙ sym (answer_of-trees tokens ∙ ap (λ (r : Read Tree). answer_of_read (read_valued r)) found)

pub answers_are_those : (tokens : List Tok) (answer : Answer) → IsIfAnswer tokens answer → answer ≡ answer_of tokens
answers_are_those tokens (HasValue number) is = of_tree tokens (HasValue number) is
answers_are_those tokens (HasBadIndex index) is =
    sym (answer_of-trees tokens ∙ ap (λ (r : Read Tree). answer_of_read (read_valued r)) (read-GoesWrongAt tokens index is))
answers_are_those tokens (HasZeroDivisor index) is = of_tree tokens (HasZeroDivisor index) is

pub trees_are_unique : (tokens : List Tok) (tree other : Tree) → IsExpression tokens tree → IsExpression tokens other → tree ≡ other
trees_are_unique tokens tree other first second =
    let both : ReadWhole tree ≡ ReadWhole other = sym (read-IsExpression tokens tree first) ∙ read-IsExpression tokens other second in
    cc both
