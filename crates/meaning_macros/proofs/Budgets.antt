-- No expansion leaves more of its budget than there was.
use Rattle.std.proofs.Common.{◌≡◌, ℕ, zero, suc, ◌+◌, ◌-◌, ◌≤◌, true, false, List, [], ◌∷◌, nat_lt, refl, arith}
use Rattle.meaning_macros.specs.Macros.{Macro, Predefined, FileName, LineNumber, CounterNumber, MacroTable}
use Rattle.meaning_macros.specs.Bodies.{Chain, chains, stands_apart}
use Rattle.meaning_macros.specs.Hiding.{NameSet, Hiding, space_first}
use Rattle.meaning_macros.specs.Substitution.{Substituted, WholeBody, BrokenBehind, substituted, count_of, laid_before}
use Rattle.meaning_macros.specs.Expansion.{Budget, End, Finished, Failed, Passed, BadPaste, Replacements, MadeTokens, Expanded, ends, put, Stays, Replaces, Wrong, Predefines, use_of, Expander, spending_one, Ready, AllReady, Stops, with_argument, after_argument, expand_arguments, end_at, laid, called, replaced, in_place_of, predefined_token, counter_behind, predefined, expand_by, within}
use Rattle.meaning_macros.specs.laws.Expansion.{IsAtMost, LeavesAtMost}

-- an expander that never leaves more than there was
pub record Falls (f : Expander) : Type 0 where
  pub falls : (b : Budget) (ts : List Hiding) → LeavesAtMost b (f b ts).end

abbrev pub IsAtMost-refl : (b : Budget) → IsAtMost b b
IsAtMost-refl b = record { replacements = omega arith; tokens = omega arith; counter = omega arith }

pub IsAtMost-trans : (a b c : Budget) → IsAtMost a b → IsAtMost b c → IsAtMost a c
IsAtMost-trans a b c h k = record {
  replacements = omega (arith, h.replacements, k.replacements);
  tokens = omega (arith, h.tokens, k.tokens);
  counter = omega (arith, h.counter, k.counter);
}

-- what leaves no more than a smaller budget leaves no more than the greater one
pub LeavesAtMost-below : (c b : Budget) → IsAtMost c b → (e : End) → LeavesAtMost c e → LeavesAtMost b e
LeavesAtMost-below c b h (Finished left) k = IsAtMost-trans left c b k h
LeavesAtMost-below c b h (Failed fault place) k = tt
LeavesAtMost-below c b h (Passed counted) k = tt

-- ready arguments leave no more than there was, and neither does the end of one that isn't
abbrev pub ReadyWithin : Budget → Ready → Type 0
ReadyWithin b (AllReady arguments left) = IsAtMost left b
ReadyWithin b (Stops e) = LeavesAtMost b e

ReadyWithin-below : (c b : Budget) → IsAtMost c b → (r : Ready) → ReadyWithin c r → ReadyWithin b r
ReadyWithin-below c b h (AllReady arguments left) k = IsAtMost-trans left c b k h
ReadyWithin-below c b h (Stops e) k = LeavesAtMost-below c b h e k

with_argument-within : (b : Budget) (tokens : List Hiding) (r : Ready) → ReadyWithin b r → ReadyWithin b (with_argument tokens r)
with_argument-within b tokens (AllReady others left) h = h
with_argument-within b tokens (Stops e) h = h

after_argument-within : (b : Budget) (tokens : List Hiding) (e : End) → LeavesAtMost b e → (others : Budget → Ready)
    → ((c : Budget) → ReadyWithin c (others c)) → ReadyWithin b (after_argument tokens e others)
after_argument-within b tokens (Finished c) h others k = with_argument-within b tokens (others c) (ReadyWithin-below c b h (others c) (k c))
after_argument-within b tokens (Failed fault place) h others k = tt
after_argument-within b tokens (Passed counted) h others k = tt

-- the expanded arguments leave no more than there was
pub expand_arguments-within : (f : Expander) → Falls f → (body : List Chain) (b : Budget) (k : ℕ) (arguments : List (List Hiding))
    → ReadyWithin b (expand_arguments f body b k arguments)
expand_arguments-within f falls body b k [] = IsAtMost-refl b
expand_arguments-within f falls body b k (a ∷ others) =
    elim (stands_apart k body) as (λ v. ReadyWithin b (elim v as (λ _. Ready) [
      | true ↦ after_argument (f b a).tokens (f b a).end (λ left. expand_arguments f body left (k + 1) others)
      | false ↦ with_argument [] (expand_arguments f body b (k + 1) others)
    ])) [
      | true ↦
          after_argument-within b (f b a).tokens (f b a).end (falls.falls b a)
          (λ left. expand_arguments f body left (k + 1) others) (λ c. expand_arguments-within f falls body c (k + 1) others)
      | false ↦
          with_argument-within b [] (expand_arguments f body b (k + 1) others) (expand_arguments-within f falls body b (k + 1) others)
    ]

laid-within : (f : Expander) → Falls f → (t : Hiding) (hides : NameSet) (rest : List Hiding) (b : Budget) (s : Substituted)
    → LeavesAtMost b (laid f t hides rest b s).end
laid-within f falls t hides rest b (BrokenBehind count) =
    elim (nat_lt b.tokens count) as (λ v. LeavesAtMost b (elim v as (λ _. Expanded) [
      | true ↦ ends (Passed MadeTokens)
      | false ↦ ends (Failed BadPaste t.token.at)
    ]).end) [ true ↦ tt | false ↦ tt ]
laid-within f falls t hides rest b (WholeBody parts) =
    elim (nat_lt b.tokens (count_of parts)) as (λ v. LeavesAtMost b (elim v as (λ _. Expanded) [
      | true ↦ ends (Passed MadeTokens)
      | false ↦ f (record b { tokens = b.tokens - count_of parts }) (space_first t.token.space_before (laid_before hides parts rest))
    ]).end) [
      | true ↦ tt
      | false ↦
          LeavesAtMost-below (record b { tokens = b.tokens - count_of parts }) b
          (record { replacements = omega arith; tokens = omega arith; counter = omega arith })
          (f (record b { tokens = b.tokens - count_of parts }) (space_first t.token.space_before (laid_before hides parts rest))).end
          (falls.falls (record b { tokens = b.tokens - count_of parts }) (space_first t.token.space_before (laid_before hides parts rest)))
    ]

end_at-within : (b : Budget) (place : _) (e : End) → LeavesAtMost b e → LeavesAtMost b (end_at place e)
end_at-within b place (Finished left) h = h
end_at-within b place (Failed fault inner) h = tt
end_at-within b place (Passed counted) h = tt

called-within : (f : Expander) → Falls f → (t : Hiding) (m : Macro) (arguments : List (List Hiding)) (hides : NameSet) (rest : List Hiding)
    (b : Budget) (r : Ready) → ReadyWithin b r → LeavesAtMost b (called f t m arguments hides rest r).end
called-within f falls t m arguments hides rest b (AllReady expanded left) h =
    let body : Substituted = substituted t.token.at arguments expanded (chains m) in
    LeavesAtMost-below left b h (laid f t hides rest left body).end (laid-within f falls t hides rest left body)
called-within f falls t m arguments hides rest b (Stops e) h = end_at-within b t.token.at e h

-- one replacement less is no more
pub one_less-IsAtMost : (b : Budget) (left : ℕ) → b.replacements ≡ suc left → IsAtMost (record b { replacements = left }) b
one_less-IsAtMost b left e = record { replacements = omega (arith, e); tokens = omega arith; counter = omega arith }

spending_one-within : (b : Budget) (next : Budget → Expanded)
    → ((left : ℕ) → b.replacements ≡ suc left → LeavesAtMost b (next (record b { replacements = left })).end)
    → LeavesAtMost b (spending_one b next).end
spending_one-within b next h =
    elim b.replacements as (λ n. b.replacements ≡ n → LeavesAtMost b (elim n as (λ _. Expanded) [
      | zero ↦ ends (Passed Replacements)
      | suc left ↦ next (record b { replacements = left })
    ]).end) [
      | zero ↦ λ e. tt
      | suc left ↦ λ e. h left e
    ] refl

replaced-within : (f : Expander) → Falls f → (b : Budget) (t : Hiding) (m : Macro) (arguments : List (List Hiding)) (hides : NameSet)
    (rest : List Hiding) → LeavesAtMost b (replaced f b t m arguments hides rest).end
replaced-within f falls b t m arguments hides rest =
    spending_one-within b (λ c. called f t m arguments hides rest (expand_arguments f (chains m) c 0 arguments)) (λ left e.
    let c : Budget = record b { replacements = left } in
    LeavesAtMost-below c b (one_less-IsAtMost b left e) (called f t m arguments hides rest (expand_arguments f (chains m) c 0 arguments)).end
    (called-within f falls t m arguments hides rest c (expand_arguments f (chains m) c 0 arguments) (expand_arguments-within f falls (chains m) c 0 arguments)))

counter_behind-rises : (name : Predefined) (counter : ℕ) → counter ≤ counter_behind name counter
counter_behind-rises FileName counter = omega arith
counter_behind-rises LineNumber counter = omega arith
counter_behind-rises CounterNumber counter = omega arith

predefined-within : (f : Expander) → Falls f → (table : MacroTable) (b : Budget) (t : Hiding) (name : Predefined) (rest : List Hiding)
    → LeavesAtMost b (predefined f table b t name rest).end
predefined-within f falls table b t name rest =
    spending_one-within b (λ c. put (in_place_of t (predefined_token table b.counter t.token name)) (f (record c { counter = counter_behind name b.counter }) rest)) (λ left e.
    let c : Budget = record b { replacements = left; counter = counter_behind name b.counter } in
    LeavesAtMost-below c b
    (record { replacements = omega (arith, e); tokens = omega arith; counter = counter_behind-rises name b.counter })
    (f c rest).end (falls.falls c rest))

-- the five cases leave no more than there was, if what goes on doesn't
pub expand_by-within : (f : Expander) → Falls f → (table : MacroTable) (b : Budget) (ts : List Hiding)
    → LeavesAtMost b (expand_by f table b ts).end
expand_by-within f falls table b [] = IsAtMost-refl b
expand_by-within f falls table b (t ∷ ts) =
    elim (use_of table.definitions t ts) as (λ u. LeavesAtMost b (elim u as (λ _. Expanded) [
      | Stays ↦ put t (expand_by f table b ts)
      | Replaces m arguments hides rest ↦ replaced f b t m arguments hides rest
      | Wrong fault ↦ ends (Failed fault t.token.at)
      | Predefines name ↦ predefined f table b t name ts
    ]).end) [
      | Stays ↦ expand_by-within f falls table b ts
      | Replaces m arguments hides rest ↦ replaced-within f falls b t m arguments hides rest
      | Wrong fault ↦ tt
      | Predefines name ↦ predefined-within f falls table b t name ts
    ]

-- with so many replacements allowed none leaves more than there was
pub within-Falls : (n : ℕ) (table : MacroTable) → Falls (within n table)
unfolding within
within-Falls zero table =
    record { falls = λ b ts. expand_by-within (λ left rest. ends (Passed Replacements)) (record { falls = λ left rest. tt }) table b ts }
within-Falls (suc n) table = record { falls = λ b ts. expand_by-within (within n table) (within-Falls n table) table b ts }
