-- What expansions say of texts and conditions.
use Rattle.std.proofs.Common.{◌≡◌, ◌<◌, ◌≤◌, ◌+◌, ◌^◌, ℕ, Bool, true, false, ◌==◌, List, [], ◌∷◌, ◌++◌, length, map, Option, Some, None, IfSome, sym, ap, subst, ◌∙◌, arith, length-append}
use Rattle.std.specs.Global.{Vec}
use Rattle.std.proofs.lemmas.List.{length-map}
use Rattle.vocabulary.specs.declared.limit.LimitKind.TheVariants.{FileSize, AllFiles, IncludeDepth, MacroReplacements, MacroTokens, UnitTokens, ParseStack, Nodes, Parameters, ContextStep, ObjectSize, Steps, Cells}
use Rattle.vocabulary.specs.declared.error_kind.ErrorKind.{ErrorKind}
use Rattle.meaning_text.specs.Places.{At}
use Rattle.meaning_text.specs.Tokens.{Tok}
use Rattle.meaning_macros.specs.Hiding.{hides_nothing}
use Rattle.meaning_macros.specs.Expansion.{Expanded, expansion}
use Rattle.meaning_macros.specs.Expansion as macros
use Rattle.meaning_preprocessing.specs.Groups as groups
use Rattle.meaning_preprocessing.specs.Groups.{are_read, Evaluation, Turn, Halts, by_answer, evaluated_line, turn_of_ending}
use Rattle.meaning_preprocessing.specs.ConditionLines.{with_undefined}
use Rattle.meaning_preprocessing.specs.State.{UnitState, Stop, Passes, Continues, IsOver, Piece, only_ending, and_then, tokens_before, ending_of, expanded_in, token_alone, table_in, refused}
use Rattle.meaning_preprocessing.specs.Unit.{unit_limits, capped, text_piece}
use Rattle.sparse_model.specs.declared.ids.NameId.{NameId}
use Rattle.c_tokens.specs.declared.token.Token.{Token}
use Rattle.c_tokens.specs.Spellings.{AreApart}
use Rattle.c_tokens.specs.Seen.{Extends, text_of, tok_of, toks_of}
use Rattle.c_macros.specs.declared.budget.Budget.{Budget}
use Rattle.c_macros.specs.declared.expand_fault.ExpandFault.{ExpandFault}
use Rattle.c_macros.specs.declared.expand_fault.ExpandFault.TheVariants.{Arguments, OpenCall, BadPaste, Limit, Memory}
use Rattle.c_macros.specs.Ends.{Ends, budget_by}
use Rattle.c_macros.specs.Expanded.{EndsWith, FaultIsOf, TokensAreOf, expanded_of}
use Rattle.c_preproc.specs.States.{EndsUnit, Holds, put_of, stop_of}
use Rattle.c_preproc.specs.Texts.{IsExpanded, StopsBehind, StopsExpansion, before_in}
use Rattle.c_preproc.specs.declared.pre_fault.PreFault.{PreFault}
use Rattle.c_preproc.specs.declared.state.State.{State}
use Rattle.c_preproc.proofs.PieceLemmas.{capped-beyond, capped-within, ends-then, longer-then}
use Rattle.c_preproc.proofs.StateLemmas.{Holds-later, expanded-is, put-later, with-budget}

-- the piece that an expansion is
abbrev piece_of : UnitState → Expanded → Piece
piece_of s e = record { tokens = map token_alone e.tokens; ending = ending_of s e.end }

stops-expansion : (s : UnitState) (e : Expanded) (fault : ExpandFault) → Ends fault e → StopsExpansion s (piece_of s e) fault
stops-expansion s e (Arguments place before) is = record { tokens = length-map e.tokens token_alone ∙ is.1; ending = ap (ending_of s) is.0 }
stops-expansion s e (OpenCall place before) is = record { tokens = length-map e.tokens token_alone ∙ is.1; ending = ap (ending_of s) is.0 }
stops-expansion s e (BadPaste place before) is = record { tokens = length-map e.tokens token_alone ∙ is.1; ending = ap (ending_of s) is.0 }
stops-expansion s e (Limit MacroReplacements before) is = record { tokens = length-map e.tokens token_alone ∙ is.1; ending = ap (ending_of s) is.0 }
stops-expansion s e (Limit MacroTokens before) is = record { tokens = length-map e.tokens token_alone ∙ is.1; ending = ap (ending_of s) is.0 }
stops-expansion s e (Limit FileSize before) is = absurd is
stops-expansion s e (Limit AllFiles before) is = absurd is
stops-expansion s e (Limit IncludeDepth before) is = absurd is
stops-expansion s e (Limit UnitTokens before) is = absurd is
stops-expansion s e (Limit ParseStack before) is = absurd is
stops-expansion s e (Limit Nodes before) is = absurd is
stops-expansion s e (Limit Parameters before) is = absurd is
stops-expansion s e (Limit ContextStep before) is = absurd is
stops-expansion s e (Limit ObjectSize before) is = absurd is
stops-expansion s e (Limit Steps before) is = absurd is
stops-expansion s e (Limit Cells before) is = absurd is
stops-expansion s e Memory is = tt

module _ (names : List (List ℕ)) (apart : AreApart names) (path : List ℕ) (state : State) (s : UnitState) (holds : Holds names path state s) (tokens : List Token) where
  -- where it breaks off
  pub expansion-stops : (fault : ExpandFault) → FaultIsOf fault (expanded_of names state.macros state.budget tokens) → StopsExpansion s (expanded_in s (toks_of names tokens)) fault
  expansion-stops fault is = stops-expansion s (expansion (table_in s) s.budget (map hides_nothing (toks_of names tokens))) fault
      (subst (λ (e : Expanded). Ends fault e) (expanded-is names apart path state s holds tokens) is)

  -- where it finishes
  pub expansion-made : (later : List (List ℕ)) → Extends names later → AreApart later → (made : List Token) (left : Budget) → left.counter + left.replacements < 2 ^ 32
      → TokensAreOf later made (expanded_of names state.macros state.budget tokens) → EndsWith left (expanded_of names state.macros state.budget tokens)
      → IsExpanded later path (record state { budget = left }) (expanded_in s (toks_of names tokens)) made
  expansion-made later more apart_later made left sum are ends =
      let is = expanded-is names apart path state s holds tokens in
      let e = expansion (table_in s) s.budget (map hides_nothing (toks_of names tokens)) in
      let put : toks_of later made ≡ map token_alone e.tokens = are ∙ ap (λ (x : Expanded). map token_alone x.tokens) is in
      let end : e.end ≡ macros.Finished (budget_by left) = ap (λ (x : Expanded). x.end) (sym is) ∙ ends in (
        record s { budget = budget_by left },
        with-budget later path state s left sum (Holds-later names later more apart_later path state s holds),
        λ i. record { tokens = sym put i; ending = ending_of s (end i) },
      )

-- Tokens that are put

module _ (names : List (List ℕ)) (path : List ℕ) (state : State) (s : UnitState) (holds : Holds names path state s) (made : List Token) (next : UnitState → Piece) where
  -- so many are too many
  pub put-ends : 2000000 < length state.tokens.items + length made
      → (capped unit_limits.unit_tokens (tokens_before (put_of names state) (tokens_before (toks_of names made) (next s)))).ending ≡ IsOver (Passes UnitTokens)
  put-ends many = capped-beyond unit_limits.unit_tokens (tokens_before (put_of names state) (tokens_before (toks_of names made) (next s)))
      (omega (
        arith,
        many,
        length-append (put_of names state) (toks_of names made ++ (next s).tokens),
        length-append (toks_of names made) (next s).tokens,
        length-map state.tokens.items (tok_of names),
        length-map made (tok_of names),
      ))

-- Where an expansion breaks off

-- a fault that is told at an end
pub told-stop : (found : Option Stop) (stop : Stop) (P : Stop → Type 0) → found ≡ Some stop → P stop → IfSome found P
told-stop found stop P is holds = subst (λ (o : Option Stop). IfSome o P) (sym is) holds

-- there were too many tokens before
pub text-beyond : (names : List (List ℕ)) (path : List ℕ) (state : State) (s : UnitState) → Holds names path state s → (piece : Piece) (fault : ExpandFault) (next : UnitState → Piece) → StopsExpansion s piece fault
    → 2000000 < length state.tokens.items + before_in fault → (capped unit_limits.unit_tokens (tokens_before (put_of names state) (and_then piece next))).ending ≡ IsOver (Passes UnitTokens)
text-beyond names path state s holds piece fault next stops many = by fault stops many
  where
    more : (before : ℕ) → length piece.tokens ≡ before → 2000000 < length state.tokens.items + before
        → (capped unit_limits.unit_tokens (tokens_before (put_of names state) (and_then piece next))).ending ≡ IsOver (Passes UnitTokens)
    more before is beyond = capped-beyond unit_limits.unit_tokens (tokens_before (put_of names state) (and_then piece next))
        (omega (arith, beyond, is, longer-then piece next, length-append (put_of names state) (and_then piece next).tokens, length-map state.tokens.items (tok_of names)))

    by : (told : ExpandFault) → StopsExpansion s piece told → 2000000 < length state.tokens.items + before_in told
        → (capped unit_limits.unit_tokens (tokens_before (put_of names state) (and_then piece next))).ending ≡ IsOver (Passes UnitTokens)
    by (Arguments place before) is beyond = more before is.tokens beyond
    by (OpenCall place before) is beyond = more before is.tokens beyond
    by (BadPaste place before) is beyond = more before is.tokens beyond
    by (Limit limit before) is beyond = more before is.tokens beyond
    by Memory is beyond = absurd (omega (arith, beyond, holds.few))

-- there weren't
pub text-stops : (names : List (List ℕ)) (state : State) (piece : Piece) (before : ℕ) (fault : PreFault) (next : UnitState → Piece) → IfSome (stop_of names fault) (StopsBehind piece before)
    → length state.tokens.items + before ≤ 2000000 → EndsUnit names (tokens_before (put_of names state) (and_then piece next)) fault
text-stops names state piece before fault next stops few = ends-then names (put_of names state) piece next fault (by (stop_of names fault) stops)
  where
    by : (found : Option Stop) → IfSome found (StopsBehind piece before) → IfSome found (λ stop. (capped unit_limits.unit_tokens (tokens_before (put_of names state) piece)).ending ≡ IsOver stop)
    by None is = tt
    by (Some stop) is =
        ap (λ (p : Piece). p.ending) (capped-within unit_limits.unit_tokens (tokens_before (put_of names state) piece)
        (omega (arith, few, is.tokens, length-append (put_of names state) piece.tokens, length-map state.tokens.items (tok_of names)))) ∙ is.ending

-- the line of a condition is over with it
pub line-stops : (names : List (List ℕ)) (piece : Piece) (before : ℕ) (fault : PreFault) (next : List Tok → UnitState → Turn) → IfSome (stop_of names fault) (StopsBehind piece before)
    → IfSome (stop_of names fault) (λ stop. turn_of_ending piece.tokens piece.ending next ≡ Halts stop)
line-stops names piece before fault next stops = by (stop_of names fault) stops
  where
    by : (found : Option Stop) → IfSome found (StopsBehind piece before) → IfSome found (λ stop. turn_of_ending piece.tokens piece.ending next ≡ Halts stop)
    by None is = tt
    by (Some stop) is = ap (λ ending. turn_of_ending piece.tokens ending next) is.ending

-- the value of a condition is that of what its tokens become
pub line-judged : (value : Evaluation) (hash : Tok) (tokens left : List Tok) (s u : UnitState) (next : Bool → UnitState → Turn) → expanded_in s tokens ≡ record { tokens = left; ending = Continues u }
    → evaluated_line value hash (Some tokens) s next ≡ by_answer hash (value left) (with_undefined left u) next
line-judged value hash tokens left s u next is = ap (λ (p : Piece). turn_of_ending p.tokens p.ending (λ ts v. by_answer hash (value ts) (with_undefined ts v) next)) is

-- what was expanded is put, and what follows it comes
pub text-put : (names later : List (List ℕ)) → Extends names later → (path : List ℕ) (old mid : State) (s u : UnitState) → Holds names path old s → mid.tokens ≡ old.tokens → (piece : Piece) (made : List Token) (next : UnitState → Piece)
    → piece ≡ record { tokens = toks_of later made; ending = Continues u }
    → tokens_before (put_of later mid) (tokens_before (toks_of later made) (next u)) ≡ tokens_before (put_of names old) (and_then piece next)
text-put names later more path old mid s u holds same piece made next is =
    ap (λ (put : Vec Token). tokens_before (toks_of later put.items) (tokens_before (toks_of later made) (next u))) same
    ∙ (λ i. tokens_before (put-later names later more path old s holds i) (ap (λ p. and_then p next) (sym is) i))

-- Text that is read, and text that isn't

pub text-read : (open_groups : List groups.Group) (text : List Tok) (s : UnitState) → are_read open_groups ≡ true → text_piece open_groups text s ≡ expanded_in s text
text-read open_groups text s is = ap (λ (reads : Bool). elim reads as (λ _. Piece) [
  | true ↦ expanded_in s text
  | false ↦ only_ending (Continues s)
]) is

pub text-skipped : (open_groups : List groups.Group) (text : List Tok) (s : UnitState) → are_read open_groups ≡ false → text_piece open_groups text s ≡ only_ending (Continues s)
text-skipped open_groups text s is = ap (λ (reads : Bool). elim reads as (λ _. Piece) [
  | true ↦ expanded_in s text
  | false ↦ only_ending (Continues s)
]) is

-- an error without a word
pub fault-told : (names : List (List ℕ)) (s : UnitState) (piece : Piece) (before : ℕ) (kind : ErrorKind) (place : At) (word : NameId) (fault : PreFault) → stop_of names fault ≡ Some (refused s kind place (text_of names word)) → text_of names word ≡ []
    → StopsBehind piece before (refused s kind place []) → IfSome (stop_of names fault) (StopsBehind piece before)
fault-told names s piece before kind place word fault told empty stops =
    told-stop (stop_of names fault) (refused s kind place []) (StopsBehind piece before) (told ∙ ap (λ text. Some (refused s kind place text)) empty) stops
