-- The arguments of a call (C11 6.10.3 p4, p10 to p12).
use Rattle.std.specs.Prelude.{ℕ, ◌+◌, ◌-◌, ◌&&◌, true, false, nat_eq, nat_lt, List, [], ◌∷◌, ◌++◌, length, Option, Some, None, if◌then◌else◌}
use Rattle.meaning_macros.specs.Signs.{is_left_parenthesis, is_right_parenthesis, is_comma}
use Rattle.meaning_macros.specs.Macros.{Macro, parameters_of}
use Rattle.meaning_macros.specs.Hiding.{Hiding}

-- A call behind its `(`: the first argument, the others, the `)` that closes it, and what follows.
pub record Arguments : Type 0 where
  pub first : List Hiding
  pub more : List (List Hiding)
  pub closing : Hiding
  pub rest : List Hiding

-- with a token before the first argument's
abbrev pub with_argument_token : Hiding → Option Arguments → Option Arguments
with_argument_token t None = None
with_argument_token t (Some found) = Some (record found { first = t ∷ found.first })

-- with an empty argument before the first
abbrev pub with_cut : Option Arguments → Option Arguments
with_cut None = None
with_cut (Some found) = Some (record found { first = []; more = found.first ∷ found.more })

-- The tokens behind a `(`, where so many parentheses are open within and so many commas may still part arguments. A comma
-- within parentheses parts none, and the `)` that matches ends the call (p10, p11). None where it doesn't come.
abbrev pub split : (depth cuts : ℕ) → List Hiding → Option Arguments
split depth cuts [] = None
split depth cuts (t ∷ ts) = elim (is_right_parenthesis t.token.kind) [
  | true ↦ elim (nat_eq depth 0) [
    | true ↦ Some (record { first = []; more = []; closing = t; rest = ts })
    | false ↦ with_argument_token t (split (depth - 1) cuts ts)
  ]
  | false ↦ elim (is_left_parenthesis t.token.kind) [
    | true ↦ with_argument_token t (split (depth + 1) cuts ts)
    | false ↦ elim (is_comma t.token.kind && nat_eq depth 0 && nat_lt 0 cuts) [
      | true ↦ with_cut (split depth (cuts - 1) ts)
      | false ↦ with_argument_token t (split depth cuts ts)
    ]
  ]
]

-- How many commas part arguments: as many as there are parameters, so that an argument too much shows. A variable one takes
-- the rest with its commas (p12).
abbrev pub most_cuts : Macro → ℕ
most_cuts m = if m.variadic then length (parameters_of m) - 1 else length (parameters_of m)

-- without parameters, one argument without a token is none (p4)
abbrev pub no_arguments : List (List Hiding) → Option (List (List Hiding))
no_arguments ([] ∷ []) = Some []
no_arguments arguments = None

-- One list of tokens for each parameter, where there are as many arguments (p4). The variable one may be absent, and is then
-- empty, as compilers have it: the standard wants one at least.
abbrev pub matched : Macro → List (List Hiding) → Option (List (List Hiding))
matched m arguments =
    if nat_eq (length (parameters_of m)) 0 then no_arguments arguments
    else (if nat_eq (length arguments) (length (parameters_of m)) then Some arguments
    else (if m.variadic && nat_eq (length arguments + 1) (length (parameters_of m)) then Some (arguments ++ [] ∷ [])
    else None))
