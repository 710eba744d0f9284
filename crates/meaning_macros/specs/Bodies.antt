-- A body as operands: parameters, `#` with its parameter, tokens of its own, and chains that `##` joins
-- (C11 6.10.3.1 to 6.10.3.3).
use Rattle.std.specs.Prelude.{ℕ, Bool, true, false, nat_eq, ◌+◌, ◌&&◌, List, [], ◌∷◌, length, Option, Some, None, option_map, if◌then◌else◌}
use Rattle.std.specs.List.{list_any}
use Rattle.std.specs.Str.{bytes_eq}
use Rattle.meaning_text.specs.Tokens.{Tok, is_hash}
use Rattle.meaning_macros.specs.Signs.{is_identifier_kind, is_comma, is_hash_hash}
use Rattle.meaning_macros.specs.Macros.{Macro, parameters_of, inner_body}

-- One operand. Parameters are counted from 0, and stand with the white space before them.
pub data Operand : Type 0 where
  -- a token that is no parameter
  OwnToken : Tok → Operand
  -- a parameter
  Argument : (space : Bool) → (parameter : ℕ) → Operand
  -- `#` with its parameter (6.10.3.2 p1)
  Stringized : (space : Bool) → (parameter : ℕ) → Operand
  -- `, ## V`, where V is the variable parameter: the comma, the white space before V, and V
  CommaAndRest : (comma : Tok) → (space : Bool) → (parameter : ℕ) → Operand

-- an operand, or a `##`
pub data BodyPiece : Type 0 where
  PasteSign : BodyPiece
  OneOperand : Operand → BodyPiece

-- the number of the name in the list
abbrev pub number_of_name : List ℕ → List (List ℕ) → Option ℕ
number_of_name name [] = None
number_of_name name (other ∷ others) =
    if bytes_eq other name then Some 0 else option_map (λ k. k + 1) (number_of_name name others)

-- the parameter that a token names
abbrev pub parameter_of : List (List ℕ) → Tok → Option ℕ
parameter_of names t = if is_identifier_kind t.kind then number_of_name t.text names else None

-- the parameter that a token before another one stringizes: `#` is an operator where a parameter follows
abbrev pub stringized_by : List (List ℕ) → Tok → Tok → Option ℕ
stringized_by names sign t = if is_hash sign.kind then parameter_of names t else None

abbrev pub argument_or_own : Tok → Option ℕ → Operand
argument_or_own t (Some k) = Argument t.space_before k
argument_or_own t None = OwnToken t

-- a token that stands for itself or for an argument
abbrev pub piece_of : List (List ℕ) → Tok → BodyPiece
piece_of names t = if is_hash_hash t.kind then PasteSign else OneOperand (argument_or_own t (parameter_of names t))

-- the pieces of a body whose parameters have these names
abbrev pub pieces_of : List (List ℕ) → List Tok → List BodyPiece
pieces_of names [] = []
pieces_of names (a ∷ []) = piece_of names a ∷ []
pieces_of names (a ∷ b ∷ body) = elim (stringized_by names a b) [
  | Some k ↦ OneOperand (Stringized a.space_before k) ∷ pieces_of names body
  | None ↦ piece_of names a ∷ pieces_of names (b ∷ body)
]

-- the same with each `, ## V` as one operand, where there are so many parameters and the last may be a variable one
abbrev pub with_rests : (variadic : Bool) → (count : ℕ) → List BodyPiece → List BodyPiece
with_rests variadic count (OneOperand (OwnToken t) ∷ PasteSign ∷ OneOperand (Argument space k) ∷ pieces) =
    elim (variadic && is_comma t.kind && nat_eq (k + 1) count) [
      | true ↦ OneOperand (CommaAndRest t space k) ∷ with_rests variadic count pieces
      | false ↦ OneOperand (OwnToken t) ∷ PasteSign ∷ OneOperand (Argument space k) ∷ with_rests variadic count pieces
    ]
with_rests variadic count [] = []
with_rests variadic count (piece ∷ pieces) = piece ∷ with_rests variadic count pieces

-- operands that `##` joins
abbrev pub Chain : Type 0
Chain = List Operand

-- an operand before a `##`, and so at the head of the first chain behind it
abbrev pub hung_before : Operand → List Chain → List Chain
hung_before o [] = (o ∷ []) ∷ []
hung_before o (chain ∷ chains) = (o ∷ chain) ∷ chains

-- The chains from the left; an operand alone is one too. Each `##` joins (6.10.3.3 p3), and nothing between two of them is
-- an empty operand, which changes nothing.
abbrev pub chains_of : List BodyPiece → List Chain
chains_of [] = []
chains_of (PasteSign ∷ pieces) = chains_of pieces
chains_of (OneOperand o ∷ []) = (o ∷ []) ∷ []
chains_of (OneOperand o ∷ PasteSign ∷ pieces) = hung_before o (chains_of pieces)
chains_of (OneOperand o ∷ OneOperand p ∷ pieces) = (o ∷ []) ∷ chains_of (OneOperand p ∷ pieces)

-- the chains of a macro's body
abbrev pub chains : Macro → List Chain
chains m = chains_of (with_rests m.variadic (length (parameters_of m)) (pieces_of (parameters_of m) (inner_body m)))

-- white space stands before the operand
abbrev pub space_of : Operand → Bool
space_of (OwnToken t) = t.space_before
space_of (Argument space k) = space
space_of (Stringized space k) = space
space_of (CommaAndRest comma space k) = comma.space_before

-- white space stands before the chain
abbrev pub space_of_chain : Chain → Bool
space_of_chain [] = false
space_of_chain (o ∷ os) = space_of o

-- the chain is this parameter alone, so that its argument is expanded first (6.10.3.1 p1)
abbrev pub is_apart : ℕ → Chain → Bool
is_apart k (Argument space j ∷ []) = nat_eq j k
is_apart k os = false

-- the parameter stands somewhere apart from `#` and `##`
abbrev pub stands_apart : ℕ → List Chain → Bool
stands_apart k chains = list_any (is_apart k) chains

-- the operand is made of this parameter
abbrev pub is_of : ℕ → Operand → Bool
is_of k (OwnToken t) = false
is_of k (Argument space j) = nat_eq j k
is_of k (Stringized space j) = nat_eq j k
is_of k (CommaAndRest comma space j) = nat_eq j k

-- the chain takes this parameter's argument as it was written
abbrev pub takes_raw : ℕ → Chain → Bool
takes_raw k [] = false
takes_raw k (Argument space j ∷ []) = false
takes_raw k (o ∷ os) = list_any (is_of k) (o ∷ os)

-- the parameter stands somewhere beside `#` or `##`
abbrev pub stands_raw : ℕ → List Chain → Bool
stands_raw k chains = list_any (takes_raw k) chains
