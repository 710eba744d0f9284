-- What the loop over the tokens keeps, and what its ends say.
use Rattle.std.proofs.Common.{◌≡◌, ℕ, ◌+◌, All, Option, Some, None, Result, Ok, Err, IfOk, IfErr, List, [], ◌∷◌, length, refl, sym, ap, ◌∙◌, subst, arith}
use Rattle.std.proofs.lemmas.List.Elements.{All-rest}
use Rattle.meaning_text.specs.Tokens.{Tok}
use Rattle.meaning_conditions.specs.Signs.{sign_of}
use Rattle.meaning_conditions.specs.Values as meaning
use Rattle.meaning_conditions.specs.Answers.{Answer, HasValue, HasBadIndex, IsIfAnswer}
use Rattle.meaning_conditions.specs.plain.Reading.{State, next_state, values, ReadWrong, ended, read_from, read, answer_of_read, answer_of}
use Rattle.meaning_conditions.proofs.Valuing.{answers_exist, answers_are_those}
use Rattle.c_conditions.specs.declared.fault.IfNumber.{IfNumber}
use Rattle.c_conditions.specs.declared.fault.IfFault.{IfFault}
use Rattle.c_conditions.specs.declared.fault.IfFault.TheVariants.{BadExpression, ZeroDivisor, Memory}
use Rattle.c_conditions.specs.declared.operand.Operand.{Operand}
use Rattle.c_conditions.specs.declared.frames.Frame.{Frame}
use Rattle.c_conditions.specs.declared.signs.Sign.{Sign}
use Rattle.c_tokens.specs.declared.token.Token.{Token}
use Rattle.c_tokens.specs.Seen.{IsKnown, tok_of, toks_of}
use Rattle.c_conditions.specs.Seen.{sign_seen, number_seen, Matches, IsIfFault}
use Rattle.c_conditions.specs.Frames.{IsStepped, state_seen}

abbrev Place : Type 0
Place = State meaning.Operand

-- the sign that a token is, seen from what is left of the tokens
abbrev SeesSign : List (List ℕ) → Token → Sign → Type 0
SeesSign names token sign = (index : ℕ) → sign_seen index sign ≡ sign_of index (tok_of names token)

-- a sign that can't stand where it does is the answer
pub stopped :
    (names : List (List ℕ)) (toks rest others : List Token) (token : Token) (sign : Sign) (index : ℕ) (state : Place) (frames : List Frame)
    (stepped : Result (Option Operand) IfFault) (fault : IfFault) → rest ≡ token ∷ others → SeesSign names token sign
    → read_from values index state (toks_of names rest) ≡ read values (toks_of names toks)
    → IsStepped (next_state values state (sign_seen index sign)) index frames stepped → stepped ≡ Err fault → Matches (answer_of (toks_of names toks)) (Err fault)
stopped names toks rest others token sign index state frames stepped (BadExpression at) split sees same is fails =
    let told = subst (IsStepped (next_state values state (sign_seen index sign)) index frames) fails is in
    let none : next_state values state (sign_of index (tok_of names token)) ≡ None = ap (next_state values state) (sym (sees index)) ∙ told.1 in
    let here : read_from values index state (toks_of names (token ∷ others)) ≡ ReadWrong index = rw (none, read_from) refl in
    let all : ReadWrong index ≡ read values (toks_of names toks) = sym here ∙ ap (λ ts. read_from values index state (toks_of names ts)) (sym split) ∙ same in
    ap answer_of_read (sym all) ∙ ap HasBadIndex (sym told.0)
stopped names toks rest others token sign index state frames stepped (ZeroDivisor at) split sees same is fails =
    absurd (subst (IsStepped (next_state values state (sign_seen index sign)) index frames) fails is)
stopped names toks rest others token sign index state frames stepped Memory split sees same is fails = tt

-- what is left behind a step
pub gone_on :
    (names : List (List ℕ)) (toks rest others : List Token) (token : Token) (sign : Sign) (index : ℕ) (state : Place) (frames : List Frame)
    (stepped : Result (Option Operand) IfFault) (next : Option Operand) → rest ≡ token ∷ others → SeesSign names token sign
    → read_from values index state (toks_of names rest) ≡ read values (toks_of names toks)
    → IsStepped (next_state values state (sign_seen index sign)) index frames stepped → stepped ≡ Ok next
    → read_from values (index + 1) (state_seen frames next) (toks_of names others) ≡ read values (toks_of names toks)
gone_on names toks rest others token sign index state frames stepped next split sees same is goes =
    let told : next_state values state (sign_seen index sign) ≡ Some (state_seen frames next) =
    subst (IsStepped (next_state values state (sign_seen index sign)) index frames) goes is in
    let some : next_state values state (sign_of index (tok_of names token)) ≡ Some (state_seen frames next) = ap (next_state values state) (sym (sees index)) ∙ told in
    let here : read_from values index state (toks_of names (token ∷ others)) ≡ read_from values (index + 1) (state_seen frames next) (toks_of names others) =
    rw (some, read_from) refl in
    sym here ∙ ap (λ ts. read_from values index state (toks_of names ts)) (sym split) ∙ same

-- what is known of all tokens is known of those behind one
pub known_behind : (names : List (List ℕ)) (rest others : List Token) (token : Token) → rest ≡ token ∷ others → All (λ t. IsKnown names t.name) rest → All (λ t. IsKnown names t.name) others
known_behind names rest others token split known = All-rest (λ t. IsKnown names t.name) token others rest split known

-- where a result tells the answer of the plain program, it tells the answer
pub Matches-value : (tokens : List Tok) (result : Result IfNumber IfFault) → Matches (answer_of tokens) result → IfOk result (λ number. IsIfAnswer tokens (HasValue (number_seen number)))
Matches-value tokens (Ok number) matches = subst (IsIfAnswer tokens) matches (answers_exist tokens)
Matches-value tokens (Err fault) matches = tt

pub Matches-fault : (tokens : List Tok) (result : Result IfNumber IfFault) → Matches (answer_of tokens) result → IfErr result (IsIfFault tokens)
Matches-fault tokens (Ok number) matches = tt
Matches-fault tokens (Err (BadExpression index)) matches = subst (IsIfAnswer tokens) matches (answers_exist tokens)
Matches-fault tokens (Err (ZeroDivisor index)) matches = subst (IsIfAnswer tokens) matches (answers_exist tokens)
Matches-fault tokens (Err Memory) matches = tt

pub Matches-exact : (tokens : List Tok) (result : Result IfNumber IfFault) → Matches (answer_of tokens) result → (answer : Answer) → IsIfAnswer tokens answer → Matches answer result
Matches-exact tokens result matches answer is = subst (λ a. Matches a result) (sym (answers_are_those tokens answer is)) matches

-- where no token is left, what was read is the answer
pub ended_all :
    (names : List (List ℕ)) (toks rest : List Token) (index : ℕ) (state : Place) (result : Result IfNumber IfFault) → length rest ≡ 0
    → read_from values index state (toks_of names rest) ≡ read values (toks_of names toks) → Matches (answer_of_read (ended values index state)) result
    → Matches (answer_of (toks_of names toks)) result
ended_all names toks [] index state result none same matches = subst (λ r. Matches (answer_of_read r) result) same matches
ended_all names toks (token ∷ rest) index state result none same matches = absurd (omega arith)
