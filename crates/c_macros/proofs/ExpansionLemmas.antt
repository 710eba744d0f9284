-- The five cases of an expansion, each by what its first token is for.
use Rattle.std.proofs.Common.{◌≡◌, ℕ, zero, suc, ◌-◌, Bool, true, false, nat_lt, List, [], ◌∷◌, refl, sym, ap, ◌∙◌}
use Rattle.meaning_text.specs.Places.{At}
use Rattle.meaning_macros.specs.Macros.{Macro, MacroTable, Predefined}
use Rattle.meaning_macros.specs.Bodies.{chains}
use Rattle.meaning_macros.specs.Hiding.{NameSet, Hiding, space_first}
use Rattle.meaning_macros.specs.Substitution.{Substituted, WholeBody, BrokenBehind, LaidPart, count_of, laid_before}
use Rattle.meaning_macros.specs.Expansion.{Budget, Failed, Passed, Replacements, MadeTokens, BadPaste, CallFault, Counted, Expanded, ends, put, Use, Stays, Replaces, Wrong, Predefines, use_of, Expander, expand_arguments, laid, called, replaced, in_place_of, predefined_token, counter_behind, predefined, expand_by}
use Rattle.c_macros.specs.Substitution.{made_in}
use Rattle.c_macros.specs.Meaning.{IsExpansion, Suspended, resume, settled, outermost}

-- the cases, by the use
abbrev by_use : Expander → MacroTable → Budget → Hiding → List Hiding → Use → Expanded
by_use f table b t ts this = elim this as (λ _. Expanded) [
  | Stays ↦ put t (expand_by f table b ts)
  | Replaces m arguments hides rest ↦ replaced f b t m arguments hides rest
  | Wrong fault ↦ ends (Failed fault t.token.at)
  | Predefines name ↦ predefined f table b t name ts
]

pub stays-is : (f : Expander) (table : MacroTable) → IsExpansion table f → (b : Budget) (t : Hiding) (ts : List Hiding) → use_of table.definitions t ts ≡ Stays → f b (t ∷ ts) ≡ put t (f b ts)
stays-is f table is b t ts stays = is b (t ∷ ts) ∙ ap (by_use f table b t ts) stays ∙ ap (put t) (sym (is b ts))

pub wrong-is : (f : Expander) (table : MacroTable) → IsExpansion table f → (b : Budget) (t : Hiding) (ts : List Hiding) (fault : CallFault) → use_of table.definitions t ts ≡ Wrong fault → f b (t ∷ ts) ≡ ends (Failed fault t.token.at)
wrong-is f table is b t ts fault wrong = is b (t ∷ ts) ∙ ap (by_use f table b t ts) wrong

-- one replacement less, where one is left
abbrev spent : Budget → (Budget → Expanded) → ℕ → Expanded
spent b next n = elim n as (λ _. Expanded) [
  | zero ↦ ends (Passed Replacements)
  | suc left ↦ next (record b { replacements = left })
]

pub replaces-is : (f : Expander) (table : MacroTable) → IsExpansion table f → (b : Budget) (t : Hiding) (ts : List Hiding) (m : Macro) (arguments : List (List Hiding)) (hides : NameSet) (rest : List Hiding) (left : ℕ)
    → use_of table.definitions t ts ≡ Replaces m arguments hides rest → b.replacements ≡ suc left
    → f b (t ∷ ts) ≡ called f t m arguments hides rest (expand_arguments f (chains m) (record b { replacements = left }) 0 arguments)
replaces-is f table is b t ts m arguments hides rest left uses some =
    is b (t ∷ ts) ∙ ap (by_use f table b t ts) uses
    ∙ ap (spent b (λ c. called f t m arguments hides rest (expand_arguments f (chains m) c 0 arguments))) some

pub replaces-none : (f : Expander) (table : MacroTable) → IsExpansion table f → (b : Budget) (t : Hiding) (ts : List Hiding) (m : Macro) (arguments : List (List Hiding)) (hides : NameSet) (rest : List Hiding)
    → use_of table.definitions t ts ≡ Replaces m arguments hides rest → b.replacements ≡ 0 → f b (t ∷ ts) ≡ ends (Passed Replacements)
replaces-none f table is b t ts m arguments hides rest uses none =
    is b (t ∷ ts) ∙ ap (by_use f table b t ts) uses
    ∙ ap (spent b (λ c. called f t m arguments hides rest (expand_arguments f (chains m) c 0 arguments))) none

pub predefined-is : (f : Expander) (table : MacroTable) → IsExpansion table f → (b : Budget) (t : Hiding) (ts : List Hiding) (name : Predefined) (left : ℕ)
    → use_of table.definitions t ts ≡ Predefines name → b.replacements ≡ suc left
    → f b (t ∷ ts) ≡ put (in_place_of t (predefined_token table b.counter t.token name)) (f (record { replacements = left; tokens = b.tokens; counter = counter_behind name b.counter }) ts)
predefined-is f table is b t ts name left uses some =
    is b (t ∷ ts) ∙ ap (by_use f table b t ts) uses
    ∙ ap (spent b (λ c. put (in_place_of t (predefined_token table b.counter t.token name)) (f (record c { counter = counter_behind name b.counter }) ts))) some

pub predefined-none : (f : Expander) (table : MacroTable) → IsExpansion table f → (b : Budget) (t : Hiding) (ts : List Hiding) (name : Predefined)
    → use_of table.definitions t ts ≡ Predefines name → b.replacements ≡ 0 → f b (t ∷ ts) ≡ ends (Passed Replacements)
predefined-none f table is b t ts name uses none =
    is b (t ∷ ts) ∙ ap (by_use f table b t ts) uses
    ∙ ap (spent b (λ c. put (in_place_of t (predefined_token table b.counter t.token name)) (f (record c { counter = counter_behind name b.counter }) ts))) none

-- what was substituted is put before the rest, where so many tokens may be made
pub laid-whole : (f : Expander) (t : Hiding) (hides : NameSet) (rest : List Hiding) (b : Budget) (parts : List LaidPart) → nat_lt b.tokens (count_of parts) ≡ false
    → laid f t hides rest b (WholeBody parts) ≡ f (record b { tokens = b.tokens - count_of parts }) (space_first t.token.space_before (laid_before hides parts rest))
laid-whole f t hides rest b parts fits =
    ap (λ (over : Bool). elim over as (λ _. Expanded) [
      | true ↦ ends (Passed MadeTokens)
      | false ↦ f (record b { tokens = b.tokens - count_of parts }) (space_first t.token.space_before (laid_before hides parts rest))
    ]) fits

-- more are made than may be
pub laid-over : (f : Expander) (t : Hiding) (hides : NameSet) (rest : List Hiding) (b : Budget) (found : Substituted) → nat_lt b.tokens (made_in found) ≡ true
    → laid f t hides rest b found ≡ ends (Passed MadeTokens)
laid-over f t hides rest b (WholeBody parts) over =
    ap (λ (over : Bool). elim over as (λ _. Expanded) [
      | true ↦ ends (Passed MadeTokens)
      | false ↦ f (record b { tokens = b.tokens - count_of parts }) (space_first t.token.space_before (laid_before hides parts rest))
    ]) over
laid-over f t hides rest b (BrokenBehind count) over =
    ap (λ (over : Bool). elim over as (λ _. Expanded) [ true ↦ ends (Passed MadeTokens) | false ↦ ends (Failed BadPaste t.token.at) ]) over

pub laid-broken : (f : Expander) (t : Hiding) (hides : NameSet) (rest : List Hiding) (b : Budget) (count : ℕ) → nat_lt b.tokens count ≡ false
    → laid f t hides rest b (BrokenBehind count) ≡ ends (Failed BadPaste t.token.at)
laid-broken f t hides rest b count fits =
    ap (λ (over : Bool). elim over as (λ _. Expanded) [ true ↦ ends (Passed MadeTokens) | false ↦ ends (Failed BadPaste t.token.at) ]) fits

-- a stop passes through all suspended calls
pub failed-is : (f : Expander) (ss : List Suspended) (tokens : List Hiding) (fault : CallFault) (place : At)
    → resume f ss (record { tokens = tokens; end = Failed fault place }) ≡ record { tokens = settled ss tokens; end = Failed fault (outermost ss place) }
failed-is f [] tokens fault place = refl
failed-is f (s ∷ ss) tokens fault place = failed-is f ss s.call.put fault s.call.name.token.at

pub passed-is : (f : Expander) (ss : List Suspended) (tokens : List Hiding) (counted : Counted)
    → resume f ss (record { tokens = tokens; end = Passed counted }) ≡ record { tokens = settled ss tokens; end = Passed counted }
passed-is f [] tokens counted = refl
passed-is f (s ∷ ss) tokens counted = passed-is f ss s.call.put counted
