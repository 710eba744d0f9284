-- The plain program's answer is the answer, and there is no other.
use Rattle.std.proofs.Common.{◌≡◌, ℕ, suc, ◌+◌, ◌-◌, ◌≤◌, ◌<◌, Option, Some, None, List, [], ◌∷◌, ◌++◌, length, take, drop, refl, sym, ap, ◌∙◌, subst, append_assoc, ⊎_elim, inl, inr, ◌⊎◌, length-append, arith}
use Rattle.std.proofs.lemmas.List.{append-nil}
use Rattle.std.proofs.Math.Seq.{take-add, take-append_seam}
use Rattle.std.proofs.lemmas.Bool.{cases_lt}
use Rattle.meaning_text.specs.Tokens.{Tok}
use Rattle.meaning_conditions.specs.Operators.{conditional_rank}
use Rattle.meaning_conditions.specs.Signs.{Sign, sign_of, signs_from}
use Rattle.meaning_conditions.specs.Expressions.{Tree, Expression, IsExpression, GoesOn, GoesWrongAt}
use Rattle.meaning_conditions.specs.plain.Reading.{Frame, State, BeforeOperand, BehindOperand, Reduced, unreduced, reduced, trees, next_state, Read, ReadWhole, ReadWrong, whole, ended, read_from, read}
use Rattle.meaning_conditions.proofs.Reaching.{Runs, reads_whole}
use Rattle.meaning_conditions.proofs.Standing.{Stands, stands_behind, whole_expression}
use Rattle.meaning_conditions.proofs.Completing.{completed}

pub signs_from-append :
    (index : ℕ) (tokens more : List Tok) → signs_from index (tokens ++ more) ≡ signs_from index tokens ++ signs_from (index + length tokens) more
signs_from-append index [] more = ap (λ k. signs_from k more) (let e : index ≡ index + 0 = omega arith in e)
signs_from-append index (token ∷ tokens) more =
    let place : index + 1 + length tokens ≡ index + suc (length tokens) = omega arith in
    ap (λ s. sign_of index token ∷ s) (signs_from-append (index + 1) tokens more ∙ ap (λ k. signs_from (index + 1) tokens ++ signs_from k more) place)

-- How the plain program ends: over all tokens, or at the first that has no next_state.
abbrev Stops : State Tree → ℕ → List Tok → Type 0
Stops state index tokens =
    (front back : List Tok) × (token : Tok) × (last : State Tree) × (tokens ≡ front ++ token ∷ back) × Runs state (signs_from index front) last
    × (next_state trees last (sign_of (index + length front) token) ≡ None) × (read_from trees index state tokens ≡ ReadWrong (index + length front))

abbrev Passes : State Tree → ℕ → List Tok → Type 0
Passes state index tokens =
    (last : State Tree) × Runs state (signs_from index tokens) last × (read_from trees index state tokens ≡ ended trees (index + length tokens) last)

abbrev Ways : State Tree → ℕ → List Tok → Type 0
Ways state index tokens = Passes state index tokens ⊎ Stops state index tokens

-- what a next_state makes of the way
way_behind :
    (state : State Tree) (index : ℕ) (token : Tok) (tokens : List Tok) (stepped : Option (State Tree)) → next_state trees state (sign_of index token) ≡ stepped
    → ((next : State Tree) → Ways next (index + 1) tokens) → Ways state index (token ∷ tokens)
way_behind state index token tokens None is later =
    let place : index ≡ index + 0 = omega arith in
    let from : read_from trees index state (token ∷ tokens) ≡ ReadWrong index = rw (is, read_from) refl in
    inr ([], tokens, token, state, refl, refl, ap (λ k. next_state trees state (sign_of k token)) (sym place) ∙ is, from ∙ ap ReadWrong place)
way_behind state index token tokens (Some next) is later =
    let from : read_from trees index state (token ∷ tokens) ≡ read_from trees (index + 1) next tokens = rw (is, read_from) refl in
    ⊎_elim
    (λ passes.
    let place : index + 1 + length tokens ≡ index + suc (length tokens) = omega arith in
    inl (passes.0, (next, is, passes.1), from ∙ passes.2 ∙ ap (λ k. ended trees k passes.0) place))
    (λ stops.
    let place : index + 1 + length stops.0 ≡ index + suc (length stops.0) = omega arith in
    inr (
      token ∷ stops.0,
      stops.1,
      stops.2,
      stops.3,
      ap (λ ts. token ∷ ts) stops.4,
      (next, is, stops.5),
      ap (λ k. next_state trees stops.3 (sign_of k stops.2)) (sym place) ∙ stops.6,
      from ∙ stops.7 ∙ ap ReadWrong place,
    ))
    (later next)

ways : (tokens : List Tok) (state : State Tree) (index : ℕ) → Ways state index tokens
ways [] state index = inl (state, refl, ap (λ k. ended trees k state) (let e : index ≡ index + 0 = omega arith in e))
ways (token ∷ tokens) state index = way_behind state index token tokens (next_state trees state (sign_of index token)) refl (λ next. ways tokens next (index + 1))

-- a run comes to one state
Runs-same : (signs : List Sign) (state last other : State Tree) → Runs state signs last → Runs state signs other → last ≡ other
Runs-same [] state last other first second = sym first ∙ second
Runs-same (sign ∷ signs) state last other first second =
    let same : first.0 ≡ second.0 = cc (first.1, second.1) in
    Runs-same signs first.0 last other first.2 (subst (λ s. Runs s signs other) (sym same) second.2)

-- it runs over each front, and then makes a next_state
Runs-split :
    (front : List Sign) (sign : Sign) (back : List Sign) (state last : State Tree) → Runs state (front ++ sign ∷ back) last
    → (middle next : State Tree) × Runs state front middle × (next_state trees middle sign ≡ Some next)
Runs-split [] sign back state last runs = (state, runs.0, refl, runs.1)
Runs-split (first ∷ front) sign back state last runs =
    let later = Runs-split front sign back runs.0 last runs.2 in
    (later.0, later.1, (runs.0, runs.1, later.2), later.3)

-- so over no signs that begin with what has no next_state
never_runs :
    (front : List Sign) (sign : Sign) (back : List Sign) (state stopped last : State Tree) → Runs state front stopped → next_state trees stopped sign ≡ None
    → Runs state (front ++ sign ∷ back) last → ⊥
never_runs front sign back state stopped last first none runs =
    let split = Runs-split front sign back state last runs in
    let same : split.0 ≡ stopped = Runs-same front state split.0 stopped split.2 first in
    let both : next_state trees stopped sign ≡ Some split.1 = subst (λ s. next_state trees s sign ≡ Some split.1) same split.3 in
    let clash : None ≡ Some split.1 = sym none ∙ both in
    cc clash

-- the whole list as front and rest, in signs
stopped_signs :
    (front : List Tok) (token : Tok) (back : List Tok) → signs_from 0 (front ++ token ∷ back)
    ≡ signs_from 0 front ++ sign_of (0 + length front) token ∷ signs_from (0 + length front + 1) back
stopped_signs front token back = signs_from-append 0 front (token ∷ back)

-- no expression begins with what has no next_state
none_begins :
    (front : List Tok) (token : Tok) (back : List Tok) (stopped : State Tree) (tree : Tree) → Runs (BeforeOperand []) (signs_from 0 front) stopped
    → next_state trees stopped (sign_of (0 + length front) token) ≡ None → IsExpression (front ++ token ∷ back) tree → ⊥
none_begins front token back stopped tree runs none expression =
    let whole_run = reads_whole (signs_from 0 (front ++ token ∷ back)) tree expression in
    never_runs (signs_from 0 front) (sign_of (0 + length front) token) (signs_from (0 + length front + 1) back) (BeforeOperand []) stopped (BehindOperand whole_run.0 whole_run.1)
    runs none (subst (λ s. Runs (BeforeOperand []) s (BehindOperand whole_run.0 whole_run.1)) (stopped_signs front token back) whole_run.2)

-- each expression is read
pub read-IsExpression : (tokens : List Tok) (tree : Tree) → IsExpression tokens tree → read trees tokens ≡ ReadWhole tree
read-IsExpression tokens tree expression =
    let run = reads_whole (signs_from 0 tokens) tree expression in
    ⊎_elim
    (λ passes.
    let same : passes.0 ≡ BehindOperand run.0 run.1 = Runs-same (signs_from 0 tokens) (BeforeOperand []) passes.0 (BehindOperand run.0 run.1) passes.1 run.2 in
    passes.2 ∙ ap (ended trees (0 + length tokens)) same ∙ ap (λ (r : Reduced Tree). whole (0 + length tokens) r.frames r.operand) run.3)
    (λ stops. absurd (none_begins stops.0 stops.2 stops.1 stops.3 tree stops.5 stops.6 (subst (λ ts. IsExpression ts tree) stops.4 expression)))
    (ways tokens (BeforeOperand []) 0)

-- what nothing is open in
whole-Whole : (index : ℕ) (frames : List (Frame Tree)) (operand tree : Tree) → whole index frames operand ≡ ReadWhole tree → unreduced frames operand ≡ unreduced [] tree
whole-Whole index [] operand tree is = let same : operand ≡ tree = cc in ap (unreduced []) same
whole-Whole index (frame ∷ frames) operand tree is = cc

ended-Whole :
    (index : ℕ) (last : State Tree) (signs : List Sign) (tree : Tree) → Stands last signs → ended trees index last ≡ ReadWhole tree → Expression conditional_rank signs tree
ended-Whole index (BeforeOperand frames) signs tree at is = cc
ended-Whole index (BehindOperand frames operand) signs tree at is =
    let all = reduced trees conditional_rank frames operand in
    whole_expression frames operand tree signs at (whole-Whole index all.frames all.operand tree is)

whole-Wrong : (index found : ℕ) (frames : List (Frame Tree)) (operand : Tree) → whole index frames operand ≡ ReadWrong found → found ≡ index
whole-Wrong index found [] operand is = cc
whole-Wrong index found (frame ∷ frames) operand is = cc

ended-Wrong : (index found : ℕ) (last : State Tree) → ended trees index last ≡ ReadWrong found → found ≡ index
ended-Wrong index found (BeforeOperand frames) is = cc
ended-Wrong index found (BehindOperand frames operand) is =
    let all = reduced trees conditional_rank frames operand in whole-Wrong index found all.frames all.operand is

-- what is read is an expression
pub IsExpression-read : (tokens : List Tok) (tree : Tree) → read trees tokens ≡ ReadWhole tree → IsExpression tokens tree
IsExpression-read tokens tree is =
    ⊎_elim
    (λ passes. ended-Whole (0 + length tokens) passes.0 (signs_from 0 tokens) tree
    (stands_behind (BeforeOperand []) passes.0 [] (signs_from 0 tokens) refl passes.1) (sym passes.2 ∙ is))
    (λ stops. let clash : ReadWrong (0 + length stops.0) ≡ ReadWhole tree = sym stops.7 ∙ is in cc clash)
    (ways tokens (BeforeOperand []) 0)

-- tokens over which the program runs go on to an expression
goes_on : (tokens : List Tok) (last : State Tree) → Runs (BeforeOperand []) (signs_from 0 tokens) last → GoesOn tokens
goes_on tokens last runs =
    let found = completed last (signs_from 0 tokens) (0 + length tokens) (stands_behind (BeforeOperand []) last [] (signs_from 0 tokens) refl runs) in
    (found.0, found.1.0, subst (λ s. Expression conditional_rank s found.1.0) (sym (signs_from-append 0 tokens found.0)) found.1.1)

take-all : (tokens : List Tok) → take (length tokens) tokens ≡ tokens
take-all tokens = ap (take (length tokens)) (sym (append-nil tokens)) ∙ take-append_seam tokens []

-- where the program stops, the tokens go wrong
pub GoesWrongAt-read : (tokens : List Tok) (index : ℕ) → read trees tokens ≡ ReadWrong index → GoesWrongAt tokens index
GoesWrongAt-read tokens index is =
    let none : (tree : Tree) → IsExpression tokens tree → ⊥ =
    λ tree expression. let clash : ReadWhole tree ≡ ReadWrong index = sym (read-IsExpression tokens tree expression) ∙ is in cc clash in
    ⊎_elim
    (λ passes.
    let ended_at = ended-Wrong (0 + length tokens) index passes.0 (sym passes.2 ∙ is) in
    let at : index ≡ length tokens = omega arith in
    let same : take index tokens ≡ tokens = ap (λ k. take k tokens) at ∙ take-all tokens in
    record {
      none = none;
      within = omega arith;
      goes_on = subst GoesOn (sym same) (goes_on tokens passes.0 passes.1);
      ends_here = λ less more. absurd (omega arith);
    })
    (λ stops.
    let front = stops.0 in
    let found : ReadWrong index ≡ ReadWrong (0 + length front) = sym is ∙ stops.7 in
    let found_at : index ≡ 0 + length front = cc found in
    let at : index ≡ length front = omega arith in
    let same : take index tokens ≡ front =
    ap (λ k. take k tokens) at ∙ ap (take (length front)) stops.4 ∙ take-append_seam front (stops.2 ∷ stops.1) in
    let split : tokens ≡ (front ++ stops.2 ∷ []) ++ stops.1 = stops.4 ∙ sym (append_assoc front (stops.2 ∷ []) stops.1) in
    let one_more : index + 1 ≡ length (front ++ stops.2 ∷ []) = omega (arith, length-append front (stops.2 ∷ [])) in
    let longer : take (index + 1) tokens ≡ front ++ stops.2 ∷ [] =
    ap (λ k. take k tokens) one_more ∙ ap (take (length (front ++ stops.2 ∷ []))) split ∙ take-append_seam (front ++ stops.2 ∷ []) stops.1 in
    record {
      none = none;
      within = omega (arith, ap length stops.4, length-append front (stops.2 ∷ stops.1));
      goes_on = subst GoesOn (sym same) (goes_on front stops.3 stops.5);
      ends_here = λ less more.
          let behind : (front ++ stops.2 ∷ []) ++ more.0 ≡ front ++ stops.2 ∷ more.0 = append_assoc front (stops.2 ∷ []) more.0 in
          none_begins front stops.2 more.0 stops.3 more.1 stops.5 stops.6
          (subst (λ ts. IsExpression ts more.1) (ap (λ ts. ts ++ more.0) longer ∙ behind) more.2);
    })
    (ways tokens (BeforeOperand []) 0)

-- a front of what goes on goes on
GoesOn-front : (tokens : List Tok) (count further : ℕ) → GoesOn (take (count + further) tokens) → GoesOn (take count tokens)
GoesOn-front tokens count further on =
    let others = take further (drop count tokens) in
    let same : take count tokens ++ (others ++ on.0) ≡ take (count + further) tokens ++ on.0 =
    sym (ap (λ ts. ts ++ on.0) (take-add count further tokens) ∙ append_assoc (take count tokens) others on.0) in
    (others ++ on.0, on.1, subst (λ ts. IsExpression ts on.1) (sym same) on.2)

pub fronts_go_on : (tokens : List Tok) (index : ℕ) → GoesWrongAt tokens index → (count : ℕ) → count ≤ index → GoesOn (take count tokens)
fronts_go_on tokens index wrong count within =
    let same : index ≡ count + (index - count) = omega arith in
    GoesOn-front tokens count (index - count) (subst (λ k. GoesOn (take k tokens)) same wrong.goes_on)

pub longer_fronts_end :
    (tokens : List Tok) (index : ℕ) → GoesWrongAt tokens index → (count : ℕ) → index < count → count ≤ length tokens → GoesOn (take count tokens) → ⊥
longer_fronts_end tokens index wrong count less within on =
    let same : count ≡ index + 1 + (count - (index + 1)) = omega arith in
    wrong.ends_here (omega arith) (GoesOn-front tokens (index + 1) (count - (index + 1)) (subst (λ k. GoesOn (take k tokens)) same on))

-- tokens go wrong at one index
pub GoesWrongAt-same : (tokens : List Tok) (index other : ℕ) → GoesWrongAt tokens index → GoesWrongAt tokens other → index ≡ other
GoesWrongAt-same tokens index other wrong again =
    let not_less : index < other → ⊥ = λ less. longer_fronts_end tokens index wrong other less again.within again.goes_on in
    let not_more : other < index → ⊥ = λ less. longer_fronts_end tokens other again index less wrong.within wrong.goes_on in
    ⊎_elim (λ less. absurd (not_less less)) (λ most. ⊎_elim (λ less. absurd (not_more less)) (λ least. omega arith) (cases_lt other index)) (cases_lt index other)

-- where tokens go wrong, the program stops
Wrong-same : (tokens : List Tok) (index : ℕ) (found : Read Tree) → read trees tokens ≡ found → GoesWrongAt tokens index → read trees tokens ≡ ReadWrong index
Wrong-same tokens index (ReadWhole tree) is wrong = absurd (wrong.none tree (IsExpression-read tokens tree is))
Wrong-same tokens index (ReadWrong other) is wrong = is ∙ ap ReadWrong (GoesWrongAt-same tokens other index (GoesWrongAt-read tokens other is) wrong)

pub read-GoesWrongAt : (tokens : List Tok) (index : ℕ) → GoesWrongAt tokens index → read trees tokens ≡ ReadWrong index
read-GoesWrongAt tokens index wrong = Wrong-same tokens index (read trees tokens) refl wrong
