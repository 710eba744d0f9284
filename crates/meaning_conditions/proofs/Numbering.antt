-- Operators stand in a tree in the order of their tokens, so the zero divisor that is told is the first.
use Rattle.std.proofs.Common.{◌≡◌, ℕ, ◌+◌, ◌≤◌, ◌<◌, ◌==◌, Bool, true, false, cond, Some, Result, Ok, Err, List, [], ◌∷◌, ◌++◌, length, refl, sym, ap, ◌∙◌, subst, inl, inr, ⊎_elim, arith}
use Rattle.std.proofs.lemmas.Bool.{cases_Bool}
use Rattle.std.proofs.lemmas.Bool.Decides.{nat_tests}
use Rattle.vocabulary.specs.declared.token_kind.TokenKind.{TokenKind}
use Rattle.vocabulary.specs.declared.token_kind.TokenKind.TheVariants as kinds
use Rattle.meaning_text.specs.Tokens.{Tok}
use Rattle.meaning_literals.specs.Constants.{Constant, Fault}
use Rattle.meaning_literals.specs.Integers.{integer_of}
use Rattle.meaning_literals.specs.Quoted.{char_of}
use Rattle.meaning_conditions.specs.Operators.{Unary, Binary, Multiply, Divide, Remainder, Add, Subtract, LeftShift, RightShift, Less, Greater, LessEqual, GreaterEqual, Equal, NotEqual, BitAnd, BitXor, BitOr, And, Or, conditional_rank}
use Rattle.meaning_conditions.specs.Signs.{Sign, Literal, Operator, OpenParenthesis, CloseParenthesis, QuestionMark, Colon, Stranger, integer_sign, character_sign, sign_of_kind, sign_of, signs_from}
use Rattle.meaning_conditions.specs.Expressions.{Tree, Leaf, One, Two, Choice, Expression, IsExpression, literal, parenthesized, prefixed, joined, conditional}
use Rattle.meaning_conditions.specs.Values.{Outcome, Is, ZeroAt, with_bits, divided, outcome_of_two, is_decided, is_true, truth, bits_of_one, evaluated, is_taken_unsigned, chosen, valued}
use Rattle.meaning_conditions.specs.laws.ZeroDivisors.{is_division, IsRightEvaluated, IsTruth, DividesByZero}

-- the operators among the signs have indices that rise from the one bound to the other
abbrev Numbered : ℕ → ℕ → List Sign → Type 0
Numbered low high [] = low ≤ high
Numbered low high (Operator index before between ∷ signs) = (low ≤ index) × Numbered (index + 1) high signs
Numbered low high (sign ∷ signs) = Numbered low high signs

lower : (signs : List Sign) (low least high : ℕ) → least ≤ low → Numbered low high signs → Numbered least high signs
lower [] low least high within numbered = omega arith
lower (Operator index before between ∷ signs) low least high within numbered = (omega arith, numbered.1)
lower (Literal number ∷ signs) low least high within numbered = lower signs low least high within numbered
lower (OpenParenthesis ∷ signs) low least high within numbered = lower signs low least high within numbered
lower (CloseParenthesis ∷ signs) low least high within numbered = lower signs low least high within numbered
lower (QuestionMark ∷ signs) low least high within numbered = lower signs low least high within numbered
lower (Colon ∷ signs) low least high within numbered = lower signs low least high within numbered
lower (Stranger ∷ signs) low least high within numbered = lower signs low least high within numbered

bounds : (signs : List Sign) (low high : ℕ) → Numbered low high signs → low ≤ high
bounds [] low high numbered = numbered
bounds (Operator index before between ∷ signs) low high numbered = let later = bounds signs (index + 1) high numbered.1 in omega arith
bounds (Literal number ∷ signs) low high numbered = bounds signs low high numbered
bounds (OpenParenthesis ∷ signs) low high numbered = bounds signs low high numbered
bounds (CloseParenthesis ∷ signs) low high numbered = bounds signs low high numbered
bounds (QuestionMark ∷ signs) low high numbered = bounds signs low high numbered
bounds (Colon ∷ signs) low high numbered = bounds signs low high numbered
bounds (Stranger ∷ signs) low high numbered = bounds signs low high numbered

abbrev Parted : ℕ → ℕ → List Sign → List Sign → Type 0
Parted low high signs others = (middle : ℕ) × Numbered low middle signs × Numbered middle high others

parted : (signs others : List Sign) (low high : ℕ) → Numbered low high (signs ++ others) → Parted low high signs others
parted [] others low high numbered = (low, omega arith, numbered)
parted (Operator index before between ∷ signs) others low high numbered =
    let later = parted signs others (index + 1) high numbered.1 in (later.0, (numbered.0, later.1), later.2)
parted (Literal number ∷ signs) others low high numbered = parted signs others low high numbered
parted (OpenParenthesis ∷ signs) others low high numbered = parted signs others low high numbered
parted (CloseParenthesis ∷ signs) others low high numbered = parted signs others low high numbered
parted (QuestionMark ∷ signs) others low high numbered = parted signs others low high numbered
parted (Colon ∷ signs) others low high numbered = parted signs others low high numbered
parted (Stranger ∷ signs) others low high numbered = parted signs others low high numbered

-- an operator has the index of its token
abbrev HasIndex : ℕ → Sign → Type 0
HasIndex index (Operator found before between) = found ≡ index
HasIndex index sign = Unit {0}

integer_has : (index : ℕ) (text : List ℕ) (read : Result Constant Fault) → HasIndex index (integer_sign text read)
integer_has index text (Ok constant) = tt
integer_has index text (Err fault) = tt

character_has : (index : ℕ) (read : Result Constant Fault) → HasIndex index (character_sign read)
character_has index (Ok constant) = tt
character_has index (Err fault) = tt

kind_has : (index : ℕ) (kind : TokenKind) (text : List ℕ) → HasIndex index (sign_of_kind index kind text)
kind_has index kinds.Number text = integer_has index text (integer_of text)
kind_has index kinds.Character text = character_has index (char_of text)
kind_has index kinds.Plus text = refl
kind_has index kinds.Minus text = refl
kind_has index kinds.Tilde text = refl
kind_has index kinds.Exclamation text = refl
kind_has index kinds.Star text = refl
kind_has index kinds.Slash text = refl
kind_has index kinds.Percent text = refl
kind_has index kinds.ShiftLeft text = refl
kind_has index kinds.ShiftRight text = refl
kind_has index kinds.Less text = refl
kind_has index kinds.Greater text = refl
kind_has index kinds.LessEqual text = refl
kind_has index kinds.GreaterEqual text = refl
kind_has index kinds.EqualEqual text = refl
kind_has index kinds.NotEqual text = refl
kind_has index kinds.Ampersand text = refl
kind_has index kinds.Caret text = refl
kind_has index kinds.Bar text = refl
kind_has index kinds.AndAnd text = refl
kind_has index kinds.OrOr text = refl
kind_has index kind text = tt

before_signs : (index high : ℕ) (sign : Sign) (signs : List Sign) → HasIndex index sign → Numbered (index + 1) high signs → Numbered index high (sign ∷ signs)
before_signs index high (Operator found before between) signs has numbered =
    (omega arith, subst (λ k. Numbered (k + 1) high signs) (sym has) numbered)
before_signs index high (Literal number) signs has numbered = lower signs (index + 1) index high (omega arith) numbered
before_signs index high OpenParenthesis signs has numbered = lower signs (index + 1) index high (omega arith) numbered
before_signs index high CloseParenthesis signs has numbered = lower signs (index + 1) index high (omega arith) numbered
before_signs index high QuestionMark signs has numbered = lower signs (index + 1) index high (omega arith) numbered
before_signs index high Colon signs has numbered = lower signs (index + 1) index high (omega arith) numbered
before_signs index high Stranger signs has numbered = lower signs (index + 1) index high (omega arith) numbered

numbered_from : (tokens : List Tok) (index : ℕ) → Numbered index (index + length tokens) (signs_from index tokens)
numbered_from [] index = omega arith
numbered_from (token ∷ tokens) index =
    let place : index + 1 + length tokens ≡ index + length (token ∷ tokens) = omega arith in
    before_signs index (index + length (token ∷ tokens)) (sign_of index token) (signs_from (index + 1) tokens) (kind_has index token.kind token.text)
    (subst (λ high. Numbered (index + 1) high (signs_from (index + 1) tokens)) place (numbered_from tokens (index + 1)))

-- the operators of the tree stand in order from the one bound to the other
abbrev InOrder : ℕ → ℕ → Tree → Type 0
InOrder low high (Leaf number) = Unit {0}
InOrder low high (One operator a) = (first : ℕ) × (low ≤ first) × InOrder first high a
InOrder low high (Two place operator a b) =
    (middle last : ℕ) × InOrder low middle a × (low ≤ middle) × (middle ≤ place) × InOrder (place + 1) last b × (place < last) × (last ≤ high)
InOrder low high (Choice a b c) =
    (first second : ℕ) × InOrder low first a × (low ≤ first) × InOrder first second b × (first ≤ second) × InOrder second high c × (second ≤ high)

abbrev Spans : ℕ → ℕ → Tree → Type 0
Spans low high tree = (top : ℕ) × InOrder low top tree × (low ≤ top) × (top ≤ high)

widened : (tree : Tree) (low least top high : ℕ) → least ≤ low → top ≤ high → InOrder low top tree → InOrder least high tree
widened (Leaf number) low least top high below above order = tt
widened (One operator a) low least top high below above order = (order.0, omega arith, widened a order.0 order.0 top high (omega arith) above order.2)
widened (Two place operator a b) low least top high below above order =
    (order.0, order.1, widened a low least order.0 order.0 below (omega arith) order.2, omega arith, order.4, order.5, order.6, omega arith)
widened (Choice a b c) low least top high below above order = (
  order.0,
  order.1,
  widened a low least order.0 order.0 below (omega arith) order.2,
  omega arith,
  order.4,
  order.5,
  widened c order.1 order.1 top high (omega arith) above order.6,
  omega arith,
)

in_order : (least : ℕ) (signs : List Sign) (tree : Tree) → Expression least signs tree → (low high : ℕ) → Numbered low high signs → InOrder low high tree
in_order least _ _ literal low high numbered = tt
in_order least _ _ (parenthesized {inner = inner} {tree = tree} expression) low high numbered =
    let parts = parted inner (CloseParenthesis ∷ []) low high numbered in
    widened tree low low parts.0 high (omega arith) parts.2 (in_order conditional_rank inner tree expression low parts.0 parts.1)
in_order least _ _ (prefixed {index = index} {operand = operand} {tree = tree} within expression) low high numbered =
    (index + 1, omega arith, in_order _ operand tree expression (index + 1) high numbered.1)
in_order least _ _ (joined {index = index} {operator = operator} {left = left} {right = right} {a = a} {b = b} before within first second) low high numbered =
    let parts = parted left (Operator index before (Some operator) ∷ right) low high numbered in
    let left_bounds = bounds left low parts.0 parts.1 in
    let right_bounds = bounds right (index + 1) high parts.2.1 in
    (parts.0, high, in_order _ left a first low parts.0 parts.1, left_bounds, parts.2.0, in_order _ right b second (index + 1) high parts.2.1, omega arith, omega arith)
in_order least _ _ (conditional {condition = condition} {middle = middle} {other = other} {a = a} {b = b} {c = c} within first second third) low high numbered =
    let parts = parted condition (QuestionMark ∷ (middle ++ Colon ∷ other)) low high numbered in
    let arms = parted middle (Colon ∷ other) parts.0 high parts.2 in (
      parts.0,
      arms.0,
      in_order _ condition a first low parts.0 parts.1,
      bounds condition low parts.0 parts.1,
      in_order _ middle b second parts.0 arms.0 arms.1,
      bounds middle parts.0 arms.0 arms.1,
      in_order _ other c third arms.0 high arms.2,
      bounds other arms.0 high arms.2,
    )

-- an operator that divides by 0 is one of the tree's
divisor_bounds : (tree : Tree) (low high index : ℕ) → InOrder low high tree → DividesByZero tree index → (low ≤ index) × (index < high)
divisor_bounds (Leaf number) low high index order divides = absurd divides
divisor_bounds (One operator a) low high index order divides =
    let inner = divisor_bounds a order.0 high index order.2 divides in (omega arith, inner.1)
divisor_bounds (Two place operator a b) low high index order divides =
    ⊎_elim
    (λ left. let inner = divisor_bounds a low order.0 index order.2 left in (inner.0, omega arith))
    (λ others. ⊎_elim
    (λ right. let inner = divisor_bounds b (place + 1) order.1 index order.5 right.1 in (omega arith, omega arith))
    (λ here. let at : place ≡ index = here.0 in (omega arith, omega arith))
    others)
    divides
divisor_bounds (Choice a b c) low high index order divides =
    ⊎_elim
    (λ first. let inner = divisor_bounds a low order.0 index order.2 first in (inner.0, omega arith))
    (λ others. ⊎_elim
    (λ second. let inner = divisor_bounds b order.0 order.1 index order.4 second.1 in (omega arith, omega arith))
    (λ third. let inner = divisor_bounds c order.1 high index order.6 third.1 in (omega arith, omega arith))
    others)
    divides

abbrev TellsZero : ℕ → ℕ → Binary → ℕ → Type 0
TellsZero place index operator divisor = (place ≡ index) × (is_division operator ≡ true) × (divisor ≡ 0)

divided-zero : (place divisor quotient index : ℕ) (operator : Binary) → is_division operator ≡ true → divided place divisor quotient ≡ ZeroAt index → TellsZero place index operator divisor
divided-zero place divisor quotient index operator division is =
    let Goal : Bool → Type 0 = λ test. cond test (ZeroAt place) (Is quotient) ≡ ZeroAt index → place ≡ index in
    ⊎_elim
    (λ zero. (subst Goal (sym zero) (λ h. let same : place ≡ index = cc h in same) is, division, grind (arith, nat_tests)))
    (λ some. let clash : Is quotient ≡ ZeroAt index = subst (λ test. cond test (ZeroAt place) (Is quotient) ≡ ZeroAt index) some is in absurd (cc clash))
    (cases_Bool (divisor == 0))

-- only a division has no value
zero_of_two :
    (place index : ℕ) (operator : Binary) (unsigned : Bool) (a b : ℕ) → outcome_of_two place operator unsigned a b ≡ ZeroAt index → TellsZero place index operator b
zero_of_two place index Divide unsigned a b is = divided-zero place b _ index Divide refl is
zero_of_two place index Remainder unsigned a b is = divided-zero place b _ index Remainder refl is
zero_of_two place index Multiply unsigned a b is = absurd (cc is)
zero_of_two place index Add unsigned a b is = absurd (cc is)
zero_of_two place index Subtract unsigned a b is = absurd (cc is)
zero_of_two place index LeftShift unsigned a b is = absurd (cc is)
zero_of_two place index RightShift unsigned a b is = absurd (cc is)
zero_of_two place index Less unsigned a b is = absurd (cc is)
zero_of_two place index Greater unsigned a b is = absurd (cc is)
zero_of_two place index LessEqual unsigned a b is = absurd (cc is)
zero_of_two place index GreaterEqual unsigned a b is = absurd (cc is)
zero_of_two place index Equal unsigned a b is = absurd (cc is)
zero_of_two place index NotEqual unsigned a b is = absurd (cc is)
zero_of_two place index BitAnd unsigned a b is = absurd (cc is)
zero_of_two place index BitXor unsigned a b is = absurd (cc is)
zero_of_two place index BitOr unsigned a b is = absurd (cc is)
zero_of_two place index And unsigned a b is = absurd (cc is)
zero_of_two place index Or unsigned a b is = absurd (cc is)

-- and each division by 0 has none
two_by_zero : (place : ℕ) (operator : Binary) (unsigned : Bool) (left : Outcome) (bits : ℕ) → is_division operator ≡ true → evaluated place operator unsigned left (Is 0) ≡ Is bits → ⊥
two_by_zero place Divide unsigned (Is a) bits division is = cc is
two_by_zero place Remainder unsigned (Is a) bits division is = cc is
two_by_zero place Divide unsigned (ZeroAt index) bits division is = cc is
two_by_zero place Remainder unsigned (ZeroAt index) bits division is = cc is
two_by_zero place operator unsigned left bits division is = cc division

-- what an operator needs of its left operand, and of a right one that is evaluated
left_has_bits : (place : ℕ) (operator : Binary) (unsigned : Bool) (left right : Outcome) (bits : ℕ) → evaluated place operator unsigned left right ≡ Is bits → (a : ℕ) × (left ≡ Is a)
left_has_bits place operator unsigned (Is a) right bits is = (a, refl)
left_has_bits place operator unsigned (ZeroAt index) right bits is = absurd (cc is)

right_has_bits :
    (place : ℕ) (operator : Binary) (unsigned : Bool) (left right : Outcome) (bits : ℕ) → IsRightEvaluated operator left → evaluated place operator unsigned left right ≡ Is bits
    → (b : ℕ) × (right ≡ Is b)
right_has_bits place operator unsigned left (Is b) bits evaluates is = (b, refl)
right_has_bits place operator unsigned (ZeroAt index) (ZeroAt other) bits evaluates is = absurd (cc is)
right_has_bits place operator unsigned (Is a) (ZeroAt other) bits evaluates is =
    let undecided : ZeroAt other ≡ Is bits = subst (λ test. cond test (Is (truth (is_true a))) (ZeroAt other) ≡ Is bits) evaluates is in absurd (cc undecided)

one_has_bits : (outcome : Outcome) (next : ℕ → Outcome) (bits : ℕ) → with_bits outcome next ≡ Is bits → (a : ℕ) × (outcome ≡ Is a)
one_has_bits (Is a) next bits is = (a, refl)
one_has_bits (ZeroAt index) next bits is = absurd (cc is)

arm_is : (truth : Bool) (condition middle other : Outcome) (bits : ℕ) → IsTruth truth condition → chosen condition middle other ≡ Is bits → cond truth middle other ≡ Is bits
arm_is truth (Is a) middle other bits holds is = subst (λ test. cond test middle other ≡ Is bits) holds is
arm_is truth (ZeroAt index) middle other bits holds is = absurd holds

pub values_divide_by_none : (tree : Tree) (bits : ℕ) → (valued tree).outcome ≡ Is bits → (index : ℕ) → DividesByZero tree index → ⊥
values_divide_by_none (Leaf number) bits is index divides = divides
values_divide_by_none (One operator a) bits is index divides =
    let inner = one_has_bits (valued a).outcome (λ n. Is (bits_of_one operator n)) bits is in values_divide_by_none a inner.0 inner.1 index divides
values_divide_by_none (Two place operator a b) bits is index divides =
    let unsigned = is_taken_unsigned operator (valued a).unsigned (valued b).unsigned in
    let left = left_has_bits place operator unsigned (valued a).outcome (valued b).outcome bits is in
    ⊎_elim
    (λ first. values_divide_by_none a left.0 left.1 index first)
    (λ others. ⊎_elim
    (λ second. let right = right_has_bits place operator unsigned (valued a).outcome (valued b).outcome bits second.0 is in
    values_divide_by_none b right.0 right.1 index second.1)
    (λ here. two_by_zero place operator unsigned (valued a).outcome bits here.1
    (subst (λ right. evaluated place operator unsigned (valued a).outcome right ≡ Is bits) here.2 is))
    others)
    divides
values_divide_by_none (Choice a b c) bits is index divides =
    let condition = one_has_bits (valued a).outcome (λ n. cond (is_true n) (valued b).outcome (valued c).outcome) bits is in
    ⊎_elim
    (λ first. values_divide_by_none a condition.0 condition.1 index first)
    (λ others. ⊎_elim
    (λ second. values_divide_by_none b bits (arm_is true (valued a).outcome (valued b).outcome (valued c).outcome bits second.0 is) index second.1)
    (λ third. values_divide_by_none c bits (arm_is false (valued a).outcome (valued b).outcome (valued c).outcome bits third.0 is) index third.1)
    others)
    divides

-- an evaluated division by 0, and no other stands before it
abbrev IsFirst : Tree → ℕ → Type 0
IsFirst tree index = DividesByZero tree index × ((other : ℕ) → DividesByZero tree other → index ≤ other)

abbrev FindsFirst : Tree → Type 0
FindsFirst tree = (index : ℕ) → (valued tree).outcome ≡ ZeroAt index → IsFirst tree index

-- the left operand has none, and the right one is evaluated
right_first :
    (place : ℕ) (operator : Binary) (a b : Tree) (bits index : ℕ) (unsigned : Bool) (right : Outcome) → FindsFirst b → (valued a).outcome ≡ Is bits → (valued b).outcome ≡ right
    → is_decided operator bits ≡ false → with_bits right (λ n. outcome_of_two place operator unsigned bits n) ≡ ZeroAt index → IsFirst (Two place operator a b) index
right_first place operator a b bits index unsigned (ZeroAt at) finds left right undecided is =
    let found = finds index (right ∙ is) in
    let evaluates : IsRightEvaluated operator (valued a).outcome = subst (IsRightEvaluated operator) (sym left) undecided in (
      inr (inl (evaluates, found.0)),
      λ other divides. ⊎_elim
          (λ first. absurd (values_divide_by_none a bits left other first))
          (λ others. ⊎_elim (λ second. found.1 other second.1) (λ here. let clash : ZeroAt at ≡ Is 0 = sym right ∙ here.2 in absurd (cc clash)) others)
          divides,
    )
right_first place operator a b bits index unsigned (Is n) finds left right undecided is =
    let zero = zero_of_two place index operator unsigned bits n is in (
      inr (inr (zero.0, zero.1, right ∙ ap Is zero.2)),
      λ other divides. ⊎_elim
          (λ first. absurd (values_divide_by_none a bits left other first))
          (λ others. ⊎_elim (λ second. absurd (values_divide_by_none b n right other second.1)) (λ here. let at = here.0 in let told = zero.0 in omega arith) others)
          divides,
    )

two_first :
    (place : ℕ) (operator : Binary) (a b : Tree) (low high index : ℕ) (unsigned : Bool) (left : Outcome) → InOrder low high (Two place operator a b) → FindsFirst a → FindsFirst b
    → (valued a).outcome ≡ left → evaluated place operator unsigned left (valued b).outcome ≡ ZeroAt index → IsFirst (Two place operator a b) index
two_first place operator a b low high index unsigned (ZeroAt at) order finds_left finds_right left is =
    let found = finds_left index (left ∙ is) in
    let within = divisor_bounds a low order.0 index order.2 found.0 in
    let middle = order.4 in (
      inl found.0,
      λ other divides. ⊎_elim
          (λ first. found.1 other first)
          (λ others. ⊎_elim
          (λ second. let inner = divisor_bounds b (place + 1) order.1 other order.5 second.1 in omega arith)
          (λ here. let at = here.0 in omega arith)
          others)
          divides,
    )
two_first place operator a b low high index unsigned (Is bits) order finds_left finds_right left is =
    let Goal : Bool → Type 0 = λ test. cond test (Is (truth (is_true bits))) (with_bits (valued b).outcome (λ n. outcome_of_two place operator unsigned bits n)) ≡ ZeroAt index in
    ⊎_elim
    (λ decided. let clash : Is (truth (is_true bits)) ≡ ZeroAt index = subst Goal decided is in absurd (cc clash))
    (λ undecided. right_first place operator a b bits index unsigned (valued b).outcome finds_right left refl undecided (subst Goal undecided is))
    (cases_Bool (is_decided operator bits))

choice_first :
    (a b c : Tree) (low high index : ℕ) (condition : Outcome) → InOrder low high (Choice a b c) → FindsFirst a → FindsFirst b → FindsFirst c → (valued a).outcome ≡ condition
    → chosen condition (valued b).outcome (valued c).outcome ≡ ZeroAt index → IsFirst (Choice a b c) index
choice_first a b c low high index (ZeroAt at) order finds_condition finds_middle finds_other condition is =
    let found = finds_condition index (condition ∙ is) in
    let within = divisor_bounds a low order.0 index order.2 found.0 in
    let first_order = order.5 in (
      inl found.0,
      λ other divides. ⊎_elim
          (λ first. found.1 other first)
          (λ others. ⊎_elim
          (λ second. let inner = divisor_bounds b order.0 order.1 other order.4 second.1 in omega arith)
          (λ third. let inner = divisor_bounds c order.1 high other order.6 third.1 in omega arith)
          others)
          divides,
    )
choice_first a b c low high index (Is bits) order finds_condition finds_middle finds_other condition is =
    let Goal : Bool → Type 0 = λ test. cond test (valued b).outcome (valued c).outcome ≡ ZeroAt index in
    ⊎_elim
    (λ yes.
    let found = finds_middle index (subst Goal yes is) in
    let holds : IsTruth true (valued a).outcome = subst (IsTruth true) (sym condition) yes in (
      inr (inl (holds, found.0)),
      λ other divides. ⊎_elim
          (λ first. absurd (values_divide_by_none a bits condition other first))
          (λ others. ⊎_elim
          (λ second. found.1 other second.1)
          (λ third. let fails : is_true bits ≡ false = subst (IsTruth false) condition third.0 in let clash : true ≡ false = sym yes ∙ fails in absurd (cc clash))
          others)
          divides,
    ))
    (λ no.
    let found = finds_other index (subst Goal no is) in
    let fails : IsTruth false (valued a).outcome = subst (IsTruth false) (sym condition) no in (
      inr (inr (fails, found.0)),
      λ other divides. ⊎_elim
          (λ first. absurd (values_divide_by_none a bits condition other first))
          (λ others. ⊎_elim
          (λ second. let holds : is_true bits ≡ true = subst (IsTruth true) condition second.0 in let clash : false ≡ true = sym no ∙ holds in absurd (cc clash))
          (λ third. found.1 other third.1)
          others)
          divides,
    ))
    (cases_Bool (is_true bits))

one_first : (operator : Unary) (a : Tree) (index : ℕ) (outcome : Outcome) → FindsFirst a → (valued a).outcome ≡ outcome → with_bits outcome (λ n. Is (bits_of_one operator n)) ≡ ZeroAt index → IsFirst (One operator a) index
one_first operator a index (Is bits) finds same is = absurd (cc is)
one_first operator a index (ZeroAt at) finds same is = finds index (same ∙ is)

finds_first : (tree : Tree) (low high : ℕ) → InOrder low high tree → FindsFirst tree
finds_first (Leaf number) low high order index is = absurd (cc is)
finds_first (One operator a) low high order index is = one_first operator a index (valued a).outcome (finds_first a order.0 high order.2) refl is
finds_first (Two place operator a b) low high order index is =
    two_first place operator a b low high index (is_taken_unsigned operator (valued a).unsigned (valued b).unsigned) (valued a).outcome order
    (finds_first a low order.0 order.2) (finds_first b (place + 1) order.1 order.5) refl is
finds_first (Choice a b c) low high order index is =
    choice_first a b c low high index (valued a).outcome order (finds_first a low order.0 order.2) (finds_first b order.0 order.1 order.4)
    (finds_first c order.1 high order.6) refl is

pub told_divisor_is_first :
    (tokens : List Tok) (tree : Tree) → IsExpression tokens tree → (index : ℕ) → (valued tree).outcome ≡ ZeroAt index
    → DividesByZero tree index × ((other : ℕ) → DividesByZero tree other → index ≤ other)
told_divisor_is_first tokens tree expression index is =
    finds_first tree 0 (0 + length tokens) (in_order conditional_rank (signs_from 0 tokens) tree expression 0 (0 + length tokens) (numbered_from tokens 0)) index is
