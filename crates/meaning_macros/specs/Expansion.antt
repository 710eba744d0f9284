-- What a list of tokens becomes where its macros are replaced (C11 6.10.3, 6.10.3.4).
use Rattle.std.specs.Prelude.{ℕ, zero, suc, ◌+◌, ◌-◌, true, false, not, ◌&&◌, nat_lt, List, [], ◌∷◌, Option, Some, None, decimal}
use Rattle.vocabulary.specs.declared.token_kind.TokenKind.TheVariants.{Number, String}
use Rattle.meaning_text.specs.Places.{At}
use Rattle.meaning_text.specs.Tokens.{Tok}
use Rattle.meaning_macros.specs.Signs.{is_identifier_kind, is_left_parenthesis}
use Rattle.meaning_macros.specs.Macros.{Macro, Definition, macro_of, Predefined, FileName, LineNumber, CounterNumber, predefined_of, spelled_file, MacroTable, is_function_like}
use Rattle.meaning_macros.specs.Bodies.{Chain, chains, stands_apart}
use Rattle.meaning_macros.specs.Hiding.{NameSet, only, common, joined, Hiding, space_first}
use Rattle.meaning_macros.specs.Substitution.{Substituted, WholeBody, BrokenBehind, substituted, count_of, laid_before}
use Rattle.meaning_macros.specs.Calls.{Arguments, split, most_cuts, matched}

-- What may still be used up, and the number that `__COUNTER__` gives next.
pub record Budget : Type 0 where
  pub replacements : ℕ
  -- tokens of substituted bodies
  pub tokens : ℕ
  pub counter : ℕ

-- why a call isn't replaced
pub data CallFault : Type 0 where
  -- their number isn't that of the parameters (6.10.3 p4)
  WrongArguments : CallFault
  -- no `)` ends it (p4)
  OpenCall : CallFault
  -- `##` makes no token (6.10.3.3 p3)
  BadPaste : CallFault

-- what was used up
pub data Counted : Type 0 where
  Replacements : Counted
  MadeTokens : Counted

-- How an expansion ends: with what is left, with a fault at the outermost macro's name, or with a limit passed.
pub data End : Type 0 where
  Finished : Budget → End
  Failed : CallFault → At → End
  Passed : Counted → End

-- the tokens that are put, and how it ends behind them
pub record Expanded : Type 0 where
  pub tokens : List Hiding
  pub end : End

-- it ends without a token
abbrev pub ends : End → Expanded
ends end = record { tokens = []; end = end }

-- with a token before
abbrev pub put : Hiding → Expanded → Expanded
put t e = record e { tokens = t ∷ e.tokens }

-- What the first token of a list is for

pub data Use : Type 0 where
  -- it is put as it is
  Stays : Use
  -- with what follows it, it is replaced: the macro, its arguments, the names that the body hides, and what follows
  Replaces : Macro → List (List Hiding) → NameSet → List Hiding → Use
  Wrong : CallFault → Use
  -- one of the three names that aren't entries of the table
  Predefines : Predefined → Use

-- A call that closes. Its body hides the name, and the names that both the name and the `)` hide: what began before the call
-- and goes on behind it is still being replaced, and what ends within the call is not (6.10.3.4 p2 and p4, where this is our
-- choice).
abbrev pub use_of_matched : Hiding → Hiding → List Hiding → Macro → Option (List (List Hiding)) → Use
use_of_matched t closing rest m None = Wrong WrongArguments
use_of_matched t closing rest m (Some arguments) =
    Replaces m arguments (joined (common t.hides closing.hides) (only t.token.text)) rest

abbrev pub use_of_split : Hiding → Macro → Option Arguments → Use
use_of_split t m None = Wrong OpenCall
use_of_split t m (Some found) = use_of_matched t found.closing found.rest m (matched m (found.first ∷ found.more))

-- a function-like macro's name is replaced where a `(` follows (6.10.3 p10)
abbrev pub use_of_call : Hiding → Macro → List Hiding → Use
use_of_call t m [] = Stays
use_of_call t m (next ∷ rest) = elim (is_left_parenthesis next.token.kind) [
  | true ↦ use_of_split t m (split 0 (most_cuts m) rest)
  | false ↦ Stays
]

abbrev pub use_of_predefined : Option Predefined → Use
use_of_predefined (Some name) = Predefines name
use_of_predefined None = Stays

-- a definition of one of the three names goes before its number
abbrev pub use_of_name : Hiding → List Hiding → Option Macro → Use
use_of_name t rest None = use_of_predefined (predefined_of t.token.text)
use_of_name t rest (Some m) = elim (is_function_like m) [
  | true ↦ use_of_call t m rest
  | false ↦ Replaces m [] (joined t.hides (only t.token.text)) rest
]

-- a name that is hidden in its token stays for ever (6.10.3.4 p2)
abbrev pub use_of : List Definition → Hiding → List Hiding → Use
use_of table t rest = elim (is_identifier_kind t.token.kind && not (t.hides t.token.text)) [
  | true ↦ use_of_name t rest (macro_of table t.token.text)
  | false ↦ Stays
]

-- Replacements. `again` is the expansion with fewer replacements allowed.

abbrev pub Expander : Type 0
Expander = Budget → List Hiding → Expanded

-- what follows with one replacement less, where one is left
abbrev pub spending_one : Budget → (Budget → Expanded) → Expanded
spending_one b next = elim b.replacements [
  | zero ↦ ends (Passed Replacements)
  | suc left ↦ next (record b { replacements = left })
]

-- the arguments that are ready, one for each parameter, or how the first ended that doesn't finish
pub data Ready : Type 0 where
  AllReady : List (List Hiding) → Budget → Ready
  Stops : End → Ready

-- with this argument before the others
abbrev pub with_argument : List Hiding → Ready → Ready
with_argument tokens (AllReady others b) = AllReady (tokens ∷ others) b
with_argument tokens (Stops end) = Stops end

-- the other arguments go on with what one leaves
abbrev pub after_argument : List Hiding → End → (Budget → Ready) → Ready
after_argument tokens (Finished b) others = with_argument tokens (others b)
after_argument tokens (Failed fault place) others = Stops (Failed fault place)
after_argument tokens (Passed counted) others = Stops (Passed counted)

-- The arguments from the k-th on, in order. Those whose parameter stands apart are expanded, each as if it were all there
-- is (6.10.3.1 p1).
abbrev pub expand_arguments : Expander → List Chain → Budget → ℕ → List (List Hiding) → Ready
expand_arguments again body b k [] = AllReady [] b
expand_arguments again body b k (argument ∷ others) = elim (stands_apart k body) [
  | true ↦ after_argument (again b argument).tokens (again b argument).end (λ left. expand_arguments again body left (k + 1) others)
  | false ↦ with_argument [] (expand_arguments again body b (k + 1) others)
]

-- a fault within an argument stands at the name of the call
abbrev pub end_at : At → End → End
end_at place (Finished b) = Finished b
end_at place (Failed fault inner) = Failed fault place
end_at place (Passed counted) = Passed counted

-- The body's tokens are made from left to right, so a fault comes behind those before it. They go before the rest, with the
-- white space of the name, and all is gone through again (6.10.3.4 p1).
abbrev pub laid : Expander → Hiding → NameSet → List Hiding → Budget → Substituted → Expanded
laid again t hides rest b (BrokenBehind count) = elim (nat_lt b.tokens count) [
  | true ↦ ends (Passed MadeTokens)
  | false ↦ ends (Failed BadPaste t.token.at)
]
laid again t hides rest b (WholeBody parts) = elim (nat_lt b.tokens (count_of parts)) [
  | true ↦ ends (Passed MadeTokens)
  | false ↦ again (record b { tokens = b.tokens - count_of parts }) (space_first t.token.space_before (laid_before hides parts rest))
]

-- a call whose arguments are ready, or stopped
abbrev pub called : Expander → Hiding → Macro → List (List Hiding) → NameSet → List Hiding → Ready → Expanded
called again t m arguments hides rest (Stops end) = ends (end_at t.token.at end)
called again t m arguments hides rest (AllReady expanded b) =
    laid again t hides rest b (substituted t.token.at arguments expanded (chains m))

-- one replacement, then the arguments, then the body
abbrev pub replaced : Expander → Budget → Hiding → Macro → List (List Hiding) → NameSet → List Hiding → Expanded
replaced again b t m arguments hides rest =
    spending_one b (λ left. called again t m arguments hides rest (expand_arguments again (chains m) left 0 arguments))

-- a token of this kind and spelling in place of a name
abbrev pub in_place_of : Hiding → Tok → Hiding
in_place_of t made = record t { token = made }

-- The token of one of the three names: the spelling of its file, the number of its line, or how often `__COUNTER__` was
-- replaced before.
abbrev pub predefined_token : MacroTable → ℕ → Tok → Predefined → Tok
predefined_token table counter t FileName = record t { kind = String; text = spelled_file table.files t.at.file; line_start = false }
predefined_token table counter t LineNumber = record t { kind = Number; text = decimal t.at.line; line_start = false }
predefined_token table counter t CounterNumber = record t { kind = Number; text = decimal counter; line_start = false }

-- how often `__COUNTER__` was replaced, behind one of the three names
abbrev pub counter_behind : Predefined → ℕ → ℕ
counter_behind FileName counter = counter
counter_behind LineNumber counter = counter
counter_behind CounterNumber counter = counter + 1

-- one replacement, and its one token, which isn't counted as made
abbrev pub predefined : Expander → MacroTable → Budget → Hiding → Predefined → List Hiding → Expanded
predefined again table b t name rest =
    spending_one b (λ left.
    put (in_place_of t (predefined_token table b.counter t.token name))
    (again (record left { counter = counter_behind name b.counter }) rest))

-- The five cases on the first token: there is none, it stays, it is replaced with its call, its call is wrong, or it is one of
-- the three names.
abbrev pub expand_by : Expander → MacroTable → Expander
expand_by again table b [] = ends (Finished b)
expand_by again table b (t ∷ ts) = elim (use_of table.definitions t ts) [
  | Stays ↦ put t (expand_by again table b ts)
  | Replaces m arguments hides rest ↦ replaced again b t m arguments hides rest
  | Wrong fault ↦ ends (Failed fault t.token.at)
  | Predefines name ↦ predefined again table b t name ts
]

-- with at most so many replacements
unfoldable pub within : ℕ → MacroTable → Expander
within zero table b ts = expand_by (λ left rest. ends (Passed Replacements)) table b ts
within (suc n) table b ts = expand_by (within n table) table b ts

-- the expansion, which makes no more replacements than the budget has
unfoldable pub expansion : MacroTable → Expander
expansion table b ts = within b.replacements table b ts

-- Cost

-- what an expansion uses up
pub record Cost : Type 0 where
  pub replacements : ℕ
  pub tokens : ℕ

-- what the first budget has that the second hasn't
abbrev pub difference : Budget → Budget → Cost
difference b left = record { replacements = b.replacements - left.replacements; tokens = b.tokens - left.tokens }

abbrev pub cost_of_end : Budget → End → Option Cost
cost_of_end b (Finished left) = Some (difference b left)
cost_of_end b (Failed fault place) = None
cost_of_end b (Passed counted) = None

-- what the budget loses, where the expansion finishes
abbrev pub cost : MacroTable → Budget → List Hiding → Option Cost
cost table b ts = cost_of_end b (expansion table b ts).end
