-- Pieces behind one another, and the limit of all their tokens.
use Rattle.std.proofs.Common.{◌≡◌, ◌≢◌, ℕ, ◌+◌, ◌<◌, ◌≤◌, Bool, true, false, List, [], ◌∷◌, ◌++◌, length, take, Option, Some, None, IfSome, refl, sym, ap, ◌∙◌, ⊎_elim, append_assoc, arith, length-append}
use Rattle.std.proofs.lemmas.Bool.{lt-ltb, le-ltb, cases_lt}
use Rattle.vocabulary.specs.declared.limit.LimitKind.TheVariants.{UnitTokens}
use Rattle.meaning_text.specs.Tokens.{Tok}
use Rattle.meaning_preprocessing.specs.State.{UnitState, Stop, Passes, PieceEnd, Continues, IsOver, Piece, tokens_before, behind_ending, and_then}
use Rattle.meaning_preprocessing.specs.Unit.{capped, unit_limits}
use Rattle.c_preproc.specs.States.{EndsUnit, GoesOn, IsFaultInText, IsKnownFault, put_of, stop_of}
use Rattle.c_preproc.specs.declared.pre_fault.PreFault.{PreFault}
use Rattle.c_preproc.specs.declared.pre_fault.PreFault.TheVariants.{Error, ReadFault, Limit, Memory}
use Rattle.c_preproc.specs.declared.state.State.{State}

-- Pieces behind one another

pub before-before : (first then_ : List Tok) (piece : Piece) → tokens_before first (tokens_before then_ piece) ≡ tokens_before (first ++ then_) piece
before-before first then_ piece = λ i. record { tokens = sym (append_assoc first then_ piece.tokens) i; ending = piece.ending }

pub then-before : (tokens : List Tok) (piece : Piece) (next : UnitState → Piece) → and_then (tokens_before tokens piece) next ≡ tokens_before tokens (and_then piece next)
then-before tokens piece next = by piece.ending
  where
    by : (ending : PieceEnd) → behind_ending (tokens ++ piece.tokens) ending next ≡ tokens_before tokens (behind_ending piece.tokens ending next)
    by (Continues s) = sym (before-before tokens piece.tokens (next s))
    by (IsOver stop) = refl

pub then-then : (piece : Piece) (next later : UnitState → Piece) → and_then (and_then piece next) later ≡ and_then piece (λ s. and_then (next s) later)
then-then piece next later = by piece.ending
  where
    by : (ending : PieceEnd) → and_then (behind_ending piece.tokens ending next) later ≡ behind_ending piece.tokens ending (λ s. and_then (next s) later)
    by (Continues s) = then-before piece.tokens (next s) later
    by (IsOver stop) = refl

-- a piece that is over has nothing behind it
pub over-then : (piece : Piece) (stop : Stop) (next : UnitState → Piece) → piece.ending ≡ IsOver stop → and_then piece next ≡ piece
over-then piece stop next is = ap (λ ending. behind_ending piece.tokens ending next) is ∙ λ i. record { tokens = piece.tokens; ending = sym is i }

-- it doesn't get shorter by what follows
pub longer-then : (piece : Piece) (next : UnitState → Piece) → length piece.tokens ≤ length (and_then piece next).tokens
longer-then piece next = by piece.ending
  where
    by : (ending : PieceEnd) → length piece.tokens ≤ length (behind_ending piece.tokens ending next).tokens
    by (Continues s) = omega (arith, length-append piece.tokens (next s).tokens)
    by (IsOver stop) = omega arith

-- The limit

pub capped-beyond : (most : ℕ) (piece : Piece) → most < length piece.tokens → (capped most piece).ending ≡ IsOver (Passes UnitTokens)
capped-beyond most piece more =
    ap (λ (v : Bool). (elim v as (λ _. Piece) [
      | true ↦ record { tokens = take most piece.tokens; ending = IsOver (Passes UnitTokens) }
      | false ↦ piece
    ]).ending) (lt-ltb most (length piece.tokens) more)

pub capped-within : (most : ℕ) (piece : Piece) → length piece.tokens ≤ most → capped most piece ≡ piece
capped-within most piece few =
    ap (λ (v : Bool). elim v as (λ _. Piece) [
      | true ↦ record { tokens = take most piece.tokens; ending = IsOver (Passes UnitTokens) }
      | false ↦ piece
    ]) (le-ltb most (length piece.tokens) few)

-- what ends a piece ends it with all that could follow
pub capped-then : (most : ℕ) (piece : Piece) (next : UnitState → Piece) (stop : Stop) → (capped most piece).ending ≡ IsOver stop → (capped most (and_then piece next)).ending ≡ IsOver stop
capped-then most piece next stop is = ⊎_elim beyond within (cases_lt most (length piece.tokens))
  where
    beyond : most < length piece.tokens → (capped most (and_then piece next)).ending ≡ IsOver stop
    beyond more = capped-beyond most (and_then piece next) (omega (arith, more, longer-then piece next)) ∙ sym (capped-beyond most piece more) ∙ is

    within : length piece.tokens ≤ most → (capped most (and_then piece next)).ending ≡ IsOver stop
    within few =
        let over : piece.ending ≡ IsOver stop = ap (λ (p : Piece). p.ending) (sym (capped-within most piece few)) ∙ is in
        ap (λ p. (capped most p).ending) (over-then piece stop next over) ∙ is

-- The unit

-- an end behind tokens of which there aren't too many
pub stops-behind : (names : List (List ℕ)) (tokens : List Tok) (piece : Piece) (fault : PreFault) → length (tokens ++ piece.tokens) ≤ unit_limits.unit_tokens
    → IfSome (stop_of names fault) (λ stop. piece.ending ≡ IsOver stop) → EndsUnit names (tokens_before tokens piece) fault
stops-behind names tokens piece fault few stops = by (stop_of names fault) stops
  where
    by : (found : Option Stop) → IfSome found (λ stop. piece.ending ≡ IsOver stop) → IfSome found (λ stop. (capped unit_limits.unit_tokens (tokens_before tokens piece)).ending ≡ IsOver stop)
    by None ends = tt
    by (Some stop) ends = ap (λ (p : Piece). p.ending) (capped-within unit_limits.unit_tokens (tokens_before tokens piece) few) ∙ ends

-- what ends a piece ends the unit that has it in front
pub ends-then : (names : List (List ℕ)) (tokens : List Tok) (piece : Piece) (next : UnitState → Piece) (fault : PreFault)
    → EndsUnit names (tokens_before tokens piece) fault → EndsUnit names (tokens_before tokens (and_then piece next)) fault
ends-then names tokens piece next fault ends = by (stop_of names fault) ends
  where
    by : (found : Option Stop) → IfSome found (λ stop. (capped unit_limits.unit_tokens (tokens_before tokens piece)).ending ≡ IsOver stop)
        → IfSome found (λ stop. (capped unit_limits.unit_tokens (tokens_before tokens (and_then piece next))).ending ≡ IsOver stop)
    by None is = tt
    by (Some stop) is = ap (λ p. (capped unit_limits.unit_tokens p).ending) (sym (then-before tokens piece next)) ∙ capped-then unit_limits.unit_tokens (tokens_before tokens piece) next stop is

-- what comes of a piece comes of the unit that has it in front
pub goes-then : (names : List (List ℕ)) (path : List ℕ) (state : State) (tokens : List Tok) (piece : Piece) (mid next : UnitState → Piece)
    → GoesOn names path state (tokens_before tokens piece) mid → GoesOn names path state (tokens_before tokens (and_then piece next)) (λ s. and_then (mid s) next)
goes-then names path state tokens piece mid next goes =
    (goes.0, goes.1, sym (then-before (put_of names state) (mid goes.0) next) ∙ ap (λ p. and_then p next) goes.2 ∙ then-before tokens piece next)

-- Faults

-- the ids of its faults are known
pub known-fault : (names : List (List ℕ)) (fault : PreFault) → IsFaultInText names fault → IsKnownFault names fault
known-fault names (Error kind place word path) known = known
known-fault names ReadFault known = tt
known-fault names (Limit limit) known = tt
known-fault names Memory known = tt
