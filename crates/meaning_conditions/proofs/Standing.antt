-- Where the plain program stands: what it has read is what is open around the place, with an operand behind it or not.
use Rattle.std.proofs.Common.{◌≡◌, ℕ, suc, ◌≤◌, Bool, true, false, nat_le, Option, Some, None, List, [], ◌∷◌, ◌++◌, refl, sym, ap, ◌∙◌, subst, append_assoc, ⊎_elim, arith}
use Rattle.std.proofs.lemmas.List.{append-nil}
use Rattle.std.proofs.lemmas.Bool.{leb-true, cases_Bool}
use Rattle.std.proofs.lemmas.Bool.Decides.{nat_tests}
use Rattle.meaning_conditions.specs.Operators.{Unary, Binary, rank, conditional_rank, condition_rank, unary_rank}
use Rattle.meaning_conditions.specs.Signs.{Sign, Literal, Operator, OpenParenthesis, CloseParenthesis, QuestionMark, Colon, Stranger}
use Rattle.meaning_conditions.specs.Expressions.{Tree, One, Two, Choice, Expression, literal, parenthesized, prefixed, joined, conditional}
use Rattle.meaning_conditions.specs.plain.Reading.{Frame, Parenthesis, Prefix, Infix, Condition, Middle, State, BeforeOperand, BehindOperand, Reduced, trees, reduced, unreduced, behind_infix, behind_question, behind_colon, behind_parenthesis, next_state}
use Rattle.meaning_conditions.proofs.Reaching.{Runs, rank-bounds}

-- an operand of operators that bind so strongly can be taken by the innermost frame
abbrev pub Fits : ℕ → List (Frame Tree) → Type 0
Fits most [] = Unit {0}
Fits most (Parenthesis ∷ frames) = Unit {0}
Fits most (Prefix operator ∷ frames) = unary_rank ≤ most
Fits most (Infix index operator a ∷ frames) = suc (rank operator) ≤ most
Fits most (Condition a ∷ frames) = Unit {0}
Fits most (Middle a b ∷ frames) = Unit {0}

-- the signs are these, behind what stands before them
abbrev Ends : List Sign → List Sign → (List Sign → List Sign) → Type 0
Ends signs before put = (rest : List Sign) → signs ++ rest ≡ before ++ put rest

-- the signs are what these frames were read from
abbrev pub Waits : List (Frame Tree) → List Sign → Type 0
Waits [] signs = signs ≡ []
Waits (Parenthesis ∷ frames) signs = (before : List Sign) × Waits frames before × Ends signs before (λ rest. OpenParenthesis ∷ rest)
Waits (Prefix operator ∷ frames) signs =
    (before : List Sign) × Waits frames before × (index : ℕ) × (between : Option Binary) × Ends signs before (λ rest. Operator index (Some operator) between ∷ rest)
Waits (Infix index operator a ∷ frames) signs =
    (before : List Sign) × Waits frames before × Fits (rank operator) frames × (left : List Sign) × Expression (rank operator) left a
    × (unary : Option Unary) × Ends signs before (λ rest. left ++ Operator index unary (Some operator) ∷ rest)
Waits (Condition a ∷ frames) signs =
    (before : List Sign) × Waits frames before × Fits conditional_rank frames × (condition : List Sign) × Expression condition_rank condition a
    × Ends signs before (λ rest. condition ++ QuestionMark ∷ rest)
Waits (Middle a b ∷ frames) signs =
    (before : List Sign) × Waits frames before × Fits conditional_rank frames × (condition : List Sign) × Expression condition_rank condition a
    × (middle : List Sign) × Expression conditional_rank middle b × Ends signs before (λ rest. condition ++ QuestionMark ∷ (middle ++ Colon ∷ rest))

-- an expression of operators that bind more strongly is one of those that bind less
pub weaker : (least most : ℕ) (signs : List Sign) (tree : Tree) → Expression most signs tree → least ≤ most → Expression least signs tree
weaker least most _ _ literal within = literal
weaker least most _ _ (parenthesized expression) within = parenthesized expression
weaker least most _ _ (prefixed below expression) within = prefixed (omega arith) expression
weaker least most _ _ (joined before below first second) within = joined before (omega arith) first second
weaker least most _ _ (conditional below first second third) within = conditional (omega arith) first second third

-- the signs end in an operand that so strong operators have made, and that fits in its frames
pub record Grown (least : ℕ) (signs : List Sign) (reached : Reduced Tree) : Type 0 where
  pub before : List Sign
  pub operand : List Sign
  pub split : signs ≡ before ++ operand
  pub waits : Waits reached.frames before
  pub expression : Expression least operand reached.operand
  pub fits : Fits least reached.frames

-- what is made by an operator before its operand fits everywhere
pub Fits-unary : (frames : List (Frame Tree)) → Fits unary_rank frames
Fits-unary [] = tt
Fits-unary (Parenthesis ∷ frames) = tt
Fits-unary (Prefix operator ∷ frames) = omega arith
Fits-unary (Infix index operator a ∷ frames) = let bounds = rank-bounds operator in omega arith
Fits-unary (Condition a ∷ frames) = tt
Fits-unary (Middle a b ∷ frames) = tt

-- where an operand of a condition's operators fits, a conditional one does
Fits-conditional : (frames : List (Frame Tree)) → Fits condition_rank frames → Fits conditional_rank frames
Fits-conditional [] fits = tt
Fits-conditional (Parenthesis ∷ frames) fits = tt
Fits-conditional (Prefix operator ∷ frames) fits = absurd (omega arith)
Fits-conditional (Infix index operator a ∷ frames) fits = let bounds = rank-bounds operator in absurd (omega arith)
Fits-conditional (Condition a ∷ frames) fits = tt
Fits-conditional (Middle a b ∷ frames) fits = tt

above : (a b : ℕ) → nat_le a b ≡ false → suc b ≤ a
above a b not = grind (arith, nat_tests)

-- what the frames take is an expression
pub grown :
    (least most : ℕ) (frames : List (Frame Tree)) (signs before operand : List Sign) (tree : Tree) → least ≤ most → least ≤ 10 → signs ≡ before ++ operand
    → Waits frames before → Expression most operand tree → Fits most frames → Grown least signs (reduced trees least frames tree)
grown least most [] signs before operand tree within few split waits expression fits =
    record { before = before; operand = operand; split = split; waits = waits; expression = weaker least most operand tree expression within; fits = tt }
grown least most (Parenthesis ∷ frames) signs before operand tree within few split waits expression fits =
    record { before = before; operand = operand; split = split; waits = waits; expression = weaker least most operand tree expression within; fits = tt }
grown least most (Prefix operator ∷ frames) signs before operand tree within few split waits expression fits =
    let made = prefixed {least = unary_rank} {index = waits.2} {operator = operator} {between = waits.3} (omega arith) (weaker unary_rank most operand tree expression fits) in
    grown least unary_rank frames signs waits.0 (Operator waits.2 (Some operator) waits.3 ∷ operand) (One operator tree) (omega arith) few (split ∙ waits.4 operand) waits.1 made (Fits-unary frames)
grown least most (Infix index operator a ∷ frames) signs before operand tree within few split waits expression fits =
    let Goal : Bool → Type 0 = λ test. Grown least signs (elim test as (λ _. Reduced Tree) [
      | true ↦ reduced trees least frames (Two index operator a tree)
      | false ↦ unreduced (Infix index operator a ∷ frames) tree
    ]) in
    ⊎_elim
    (λ yes. subst Goal (sym yes)
    (let made = joined {least = rank operator} {index = index} {operator = operator} waits.5 (omega arith) waits.4 (weaker (suc (rank operator)) most operand tree expression fits) in
    grown least (rank operator) frames signs waits.0 (waits.3 ++ Operator index waits.5 (Some operator) ∷ operand) (Two index operator a tree)
    (leb-true least (rank operator) yes) few (split ∙ waits.6 operand) waits.1 made waits.2))
    (λ no. subst Goal (sym no)
    (record {
      before = before;
      operand = operand;
      split = split;
      waits = waits;
      expression = weaker least most operand tree expression within;
      fits = above least (rank operator) no;
    }))
    (cases_Bool (nat_le least (rank operator)))
grown least most (Condition a ∷ frames) signs before operand tree within few split waits expression fits =
    record { before = before; operand = operand; split = split; waits = waits; expression = weaker least most operand tree expression within; fits = tt }
grown least most (Middle a b ∷ frames) signs before operand tree within few split waits expression fits =
    let Goal : Bool → Type 0 = λ test. Grown least signs (elim test as (λ _. Reduced Tree) [
      | true ↦ reduced trees least frames (Choice a b tree)
      | false ↦ unreduced (Middle a b ∷ frames) tree
    ]) in
    ⊎_elim
    (λ yes. subst Goal (sym yes)
    (let made = conditional {least = conditional_rank} (omega arith) waits.4 waits.6 (weaker conditional_rank most operand tree expression (omega arith)) in
    grown least conditional_rank frames signs waits.0 (waits.3 ++ QuestionMark ∷ (waits.5 ++ Colon ∷ operand)) (Choice a b tree) (leb-true least 0 yes) few
    (split ∙ waits.7 operand) waits.1 made waits.2))
    (λ no. subst Goal (sym no)
    (record { before = before; operand = operand; split = split; waits = waits; expression = weaker least most operand tree expression within; fits = tt }))
    (cases_Bool (nat_le least 0))

-- the signs were read so far as the state
abbrev pub Stands : State Tree → List Sign → Type 0
Stands (BeforeOperand frames) signs = Waits frames signs
Stands (BehindOperand frames tree) signs = (before operand : List Sign) × (signs ≡ before ++ operand) × Waits frames before × ((least : ℕ) → Expression least operand tree)

abbrev pub StandsIf : Option (State Tree) → List Sign → Type 0
StandsIf None signs = Unit {0}
StandsIf (Some state) signs = Stands state signs

-- behind one sign more
Ends-behind : (signs : List Sign) (sign : Sign) → Ends (signs ++ sign ∷ []) signs (λ rest. sign ∷ rest)
Ends-behind signs sign = λ rest. append_assoc signs (sign ∷ []) rest

-- and one more behind an operand
Ends-operand : (signs before operand : List Sign) (sign : Sign) → signs ≡ before ++ operand → Ends (signs ++ sign ∷ []) before (λ rest. operand ++ sign ∷ rest)
Ends-operand signs before operand sign split =
    λ rest. append_assoc signs (sign ∷ []) rest ∙ ap (λ s. s ++ sign ∷ rest) split ∙ append_assoc before operand (sign ∷ rest)

grown_behind :
    (least : ℕ) (frames : List (Frame Tree)) (signs : List Sign) (tree : Tree) → least ≤ 10 → Stands (BehindOperand frames tree) signs
    → Grown least signs (reduced trees least frames tree)
grown_behind least frames signs tree few at =
    grown least unary_rank frames signs at.0 at.1 tree (omega arith) few at.2 at.3 (at.4 unary_rank) (Fits-unary frames)

stands_infix :
    (index : ℕ) (unary : Option Unary) (operator : Binary) (signs : List Sign) (reached : Reduced Tree) → Grown (rank operator) signs reached
    → Stands (behind_infix index operator reached) (signs ++ Operator index unary (Some operator) ∷ [])
stands_infix index unary operator signs reached g =
    (g.before, g.waits, g.fits, g.operand, g.expression, unary, Ends-operand signs g.before g.operand (Operator index unary (Some operator)) g.split)

stands_question :
    (signs : List Sign) (reached : Reduced Tree) → Grown condition_rank signs reached → Stands (behind_question reached) (signs ++ QuestionMark ∷ [])
stands_question signs reached g =
    (g.before, g.waits, Fits-conditional reached.frames g.fits, g.operand, g.expression, Ends-operand signs g.before g.operand QuestionMark g.split)

stands_colon :
    (frames : List (Frame Tree)) (tree : Tree) (signs : List Sign) → Grown conditional_rank signs (unreduced frames tree)
    → StandsIf (behind_colon frames tree) (signs ++ Colon ∷ [])
stands_colon [] tree signs g = tt
stands_colon (Parenthesis ∷ frames) tree signs g = tt
stands_colon (Prefix operator ∷ frames) tree signs g = tt
stands_colon (Infix index operator a ∷ frames) tree signs g = tt
stands_colon (Condition a ∷ frames) tree signs g =
    let w = g.waits in
    let ends : Ends (signs ++ Colon ∷ []) w.0 (λ rest. w.3 ++ QuestionMark ∷ (g.operand ++ Colon ∷ rest)) =
    λ rest. Ends-operand signs g.before g.operand Colon g.split rest ∙ w.5 (g.operand ++ Colon ∷ rest) in
    (w.0, w.1, w.2, w.3, w.4, g.operand, g.expression, ends)
stands_colon (Middle a b ∷ frames) tree signs g = tt

stands_parenthesis :
    (frames : List (Frame Tree)) (tree : Tree) (signs : List Sign) → Grown conditional_rank signs (unreduced frames tree)
    → StandsIf (behind_parenthesis frames tree) (signs ++ CloseParenthesis ∷ [])
stands_parenthesis [] tree signs g = tt
stands_parenthesis (Parenthesis ∷ frames) tree signs g =
    let w = g.waits in
    let split : signs ++ CloseParenthesis ∷ [] ≡ w.0 ++ (OpenParenthesis ∷ g.operand ++ CloseParenthesis ∷ []) =
    ap (λ s. s ++ CloseParenthesis ∷ []) g.split ∙ append_assoc g.before g.operand (CloseParenthesis ∷ []) ∙ w.2 (g.operand ++ CloseParenthesis ∷ []) in
    (w.0, OpenParenthesis ∷ g.operand ++ CloseParenthesis ∷ [], split, w.1, λ least. parenthesized g.expression)
stands_parenthesis (Prefix operator ∷ frames) tree signs g = tt
stands_parenthesis (Infix index operator a ∷ frames) tree signs g = tt
stands_parenthesis (Condition a ∷ frames) tree signs g = tt
stands_parenthesis (Middle a b ∷ frames) tree signs g = tt

-- each next_state keeps to what was read
pub stands : (state : State Tree) (signs : List Sign) (sign : Sign) → Stands state signs → StandsIf (next_state trees state sign) (signs ++ sign ∷ [])
stands (BeforeOperand frames) signs (Literal number) at = (signs, Literal number ∷ [], refl, at, λ least. literal)
stands (BeforeOperand frames) signs OpenParenthesis at = (signs, at, Ends-behind signs OpenParenthesis)
stands (BeforeOperand frames) signs (Operator index (Some operator) between) at =
    (signs, at, index, between, Ends-behind signs (Operator index (Some operator) between))
stands (BeforeOperand frames) signs (Operator index None between) at = tt
stands (BeforeOperand frames) signs CloseParenthesis at = tt
stands (BeforeOperand frames) signs QuestionMark at = tt
stands (BeforeOperand frames) signs Colon at = tt
stands (BeforeOperand frames) signs Stranger at = tt
stands (BehindOperand frames tree) signs (Literal number) at = tt
stands (BehindOperand frames tree) signs OpenParenthesis at = tt
stands (BehindOperand frames tree) signs (Operator index before None) at = tt
stands (BehindOperand frames tree) signs (Operator index before (Some operator)) at =
    let bounds = rank-bounds operator in
    stands_infix index before operator signs (reduced trees (rank operator) frames tree) (grown_behind (rank operator) frames signs tree bounds.1 at)
stands (BehindOperand frames tree) signs CloseParenthesis at =
    let all = reduced trees conditional_rank frames tree in
    stands_parenthesis all.frames all.operand signs (grown_behind conditional_rank frames signs tree (omega arith) at)
stands (BehindOperand frames tree) signs QuestionMark at =
    stands_question signs (reduced trees condition_rank frames tree) (grown_behind condition_rank frames signs tree (omega arith) at)
stands (BehindOperand frames tree) signs Colon at =
    let all = reduced trees conditional_rank frames tree in
    stands_colon all.frames all.operand signs (grown_behind conditional_rank frames signs tree (omega arith) at)
stands (BehindOperand frames tree) signs Stranger at = tt

-- and so does a run of them
pub stands_behind :
    (state last : State Tree) (signs others : List Sign) → Stands state signs → Runs state others last → Stands last (signs ++ others)
stands_behind state last signs [] at runs = subst (λ s. Stands s (signs ++ [])) runs (subst (Stands state) (sym (append-nil signs)) at)
stands_behind state last signs (sign ∷ others) at runs =
    let next : Stands runs.0 (signs ++ sign ∷ []) = subst (λ s. StandsIf s (signs ++ sign ∷ [])) runs.1 (stands state signs sign at) in
    subst (Stands last) (append_assoc signs (sign ∷ []) others) (stands_behind runs.0 last (signs ++ sign ∷ []) others next runs.2)

-- where nothing is open at the end, the signs are an expression
pub whole_expression :
    (frames : List (Frame Tree)) (operand tree : Tree) (signs : List Sign) → Stands (BehindOperand frames operand) signs
    → reduced trees conditional_rank frames operand ≡ unreduced [] tree → Expression conditional_rank signs tree
whole_expression frames operand tree signs at all =
    let g : Grown conditional_rank signs (unreduced [] tree) =
    subst (Grown conditional_rank signs) all (grown_behind conditional_rank frames signs operand (omega arith) at) in
    let same : g.operand ≡ signs = sym (g.split ∙ ap (λ s. s ++ g.operand) g.waits) in
    subst (λ s. Expression conditional_rank s tree) same g.expression
