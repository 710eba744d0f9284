-- What comes of an expansion in the end that has been begun: its waiting calls, and what is put and read now.
use Rattle.std.specs.Prelude.{◌≡◌, ◌+◌, ℕ, Bool, true, false, List, [], ◌∷◌, ◌++◌, length}
use Rattle.meaning_text.specs.Places.{At}
use Rattle.meaning_macros.specs.Macros.{Macro, MacroTable}
use Rattle.meaning_macros.specs.Bodies.{Chain, chains, stands_raw}
use Rattle.meaning_macros.specs.Hiding.{NameSet, Hiding}
use Rattle.meaning_macros.specs.Expansion.{Budget, End, Finished, Failed, Passed, Expanded, Expander, Ready, with_argument, expand_arguments, called, expand_by}

-- it is its five cases over itself
abbrev pub IsExpansion : MacroTable → Expander → Type 0
IsExpansion table f = (b : Budget) (ts : List Hiding) → f b ts ≡ expand_by f table b ts

-- with these tokens before
abbrev pub put_all : List Hiding → Expanded → Expanded
put_all tokens e = record e { tokens = tokens ++ e.tokens }

-- with these arguments before the others
abbrev pub add_all : List (List Hiding) → Ready → Ready
add_all [] others = others
add_all (argument ∷ arguments) others = with_argument argument (add_all arguments others)

-- the tokens, where they are wanted
abbrev pub if_wanted : Bool → List Hiding → List Hiding
if_wanted true tokens = tokens
if_wanted false tokens = []

-- the arguments from the k-th on as they were written, where the body asks for them so
abbrev pub raw_from : List Chain → ℕ → List (List Hiding) → List (List Hiding)
raw_from body k [] = []
raw_from body k (argument ∷ others) = if_wanted (stands_raw k body) argument ∷ raw_from body (k + 1) others

-- a call that isn't replaced yet
pub record Opened : Type 0 where
  pub name : Hiding
  pub macro : Macro
  -- what its body will hide
  pub hides : NameSet
  -- what was put before it, and what follows it
  pub put : List Hiding
  pub rest : List Hiding

-- the call goes on where some of its arguments are ready and the later ones aren't
abbrev pub calling : Expander → Opened → (raws readys later : List (List Hiding)) → Budget → Expanded
calling f c raws readys later b =
    put_all c.put (called f c.name c.macro (raws ++ raw_from (chains c.macro) (length readys) later) c.hides c.rest
    (add_all readys (expand_arguments f (chains c.macro) b (length readys) later)))

-- a call one of whose arguments is being expanded: those before it, itself as it was written, and the later ones
pub record Suspended : Type 0 where
  pub call : Opened
  pub raws : List (List Hiding)
  pub readys : List (List Hiding)
  pub raw : List Hiding
  pub later : List (List Hiding)

-- the argument has come out so
abbrev pub taken : Expander → Suspended → List Hiding → End → Expanded
taken f s tokens (Finished b) = calling f s.call (s.raws ++ s.raw ∷ []) (s.readys ++ tokens ∷ []) s.later b
taken f s tokens (Failed fault place) = record { tokens = s.call.put; end = Failed fault s.call.name.token.at }
taken f s tokens (Passed counted) = record { tokens = s.call.put; end = Passed counted }

-- the suspended calls go on, the innermost first
abbrev pub resume : Expander → List Suspended → Expanded → Expanded
resume f [] e = e
resume f (s ∷ ss) e = resume f ss (taken f s e.tokens e.end)

-- what comes in the end of what is put and read now
abbrev pub meaning : Expander → List Suspended → (made now : List Hiding) → Budget → Expanded
meaning f ss made now b = resume f ss (put_all made (f b now))

-- the tokens that are put for good, before the outermost call
abbrev pub settled : List Suspended → List Hiding → List Hiding
settled [] tokens = tokens
settled (s ∷ ss) tokens = settled ss s.call.put

-- a fault stands at the name of the outermost call
abbrev pub outermost : List Suspended → At → At
outermost [] place = place
outermost (s ∷ ss) place = outermost ss s.call.name.token.at
