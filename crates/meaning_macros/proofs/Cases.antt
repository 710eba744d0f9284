-- The expansion is its five cases over itself: expanders that are equal where fewer replacements are left have equal cases.
use Rattle.std.proofs.Common.{◌≡◌, ℕ, zero, suc, ◌+◌, ◌-◌, ◌<◌, ◌≤◌, true, false, List, [], ◌∷◌, nat_lt, refl, ap, ◌∙◌, arith}
use Rattle.meaning_macros.specs.Macros.{Macro, Predefined, MacroTable}
use Rattle.meaning_macros.specs.Bodies.{Chain, chains, stands_apart}
use Rattle.meaning_macros.specs.Hiding.{NameSet, Hiding, space_first}
use Rattle.meaning_macros.specs.Substitution.{Substituted, WholeBody, BrokenBehind, substituted, count_of, laid_before}
use Rattle.meaning_macros.specs.Expansion.{Budget, End, Finished, Failed, Passed, Replacements, MadeTokens, Expanded, ends, put, Stays, Replaces, Wrong, Predefines, use_of, Expander, spending_one, Ready, AllReady, Stops, with_argument, after_argument, expand_arguments, laid, called, replaced, in_place_of, predefined_token, counter_behind, predefined, expand_by, within, expansion}
use Rattle.meaning_macros.specs.laws.Expansion.{LeavesAtMost, ExpansionIsItsCases}
use Rattle.meaning_macros.proofs.Budgets.{Falls, ReadyWithin, expand_arguments-within, within-Falls}

-- equal where fewer replacements are left
pub record AgreeBelow (most : ℕ) (f g : Expander) : Type 0 where
  pub same : (b : Budget) (ts : List Hiding) → b.replacements < most → f b ts ≡ g b ts

after_argument-same : (b : Budget) (tokens : List Hiding) (e : End) → LeavesAtMost b e → (others those : Budget → Ready)
    → ((c : Budget) → c.replacements ≤ b.replacements → others c ≡ those c) → after_argument tokens e others ≡ after_argument tokens e those
after_argument-same b tokens (Finished c) h others those k = ap (with_argument tokens) (k c h.replacements)
after_argument-same b tokens (Failed fault place) h others those k = refl
after_argument-same b tokens (Passed counted) h others those k = refl

expand_arguments-same : (f g : Expander) → Falls f → (most : ℕ) → AgreeBelow most f g → (body : List Chain) (b : Budget) (k : ℕ)
    (arguments : List (List Hiding)) → b.replacements < most → expand_arguments f body b k arguments ≡ expand_arguments g body b k arguments
expand_arguments-same f g falls most agree body b k [] fewer = refl
expand_arguments-same f g falls most agree body b k (a ∷ others) fewer =
    elim (stands_apart k body) as (λ v.
    (elim v as (λ _. Ready) [
      | true ↦ after_argument (f b a).tokens (f b a).end (λ left. expand_arguments f body left (k + 1) others)
      | false ↦ with_argument [] (expand_arguments f body b (k + 1) others)
    ])
    ≡ (elim v as (λ _. Ready) [
      | true ↦ after_argument (g b a).tokens (g b a).end (λ left. expand_arguments g body left (k + 1) others)
      | false ↦ with_argument [] (expand_arguments g body b (k + 1) others)
    ])) [
      | true ↦
          after_argument-same b (f b a).tokens (f b a).end (falls.falls b a)
          (λ left. expand_arguments f body left (k + 1) others) (λ left. expand_arguments g body left (k + 1) others)
          (λ c h. expand_arguments-same f g falls most agree body c (k + 1) others (omega (arith, h, fewer)))
          ∙ ap (λ (x : Expanded). after_argument x.tokens x.end (λ left. expand_arguments g body left (k + 1) others)) (agree.same b a fewer)
      | false ↦ ap (with_argument []) (expand_arguments-same f g falls most agree body b (k + 1) others fewer)
    ]

laid-same : (f g : Expander) (most : ℕ) → AgreeBelow most f g → (t : Hiding) (hides : NameSet) (rest : List Hiding) (b : Budget)
    (s : Substituted) → b.replacements < most → laid f t hides rest b s ≡ laid g t hides rest b s
laid-same f g most agree t hides rest b (BrokenBehind count) fewer = refl
laid-same f g most agree t hides rest b (WholeBody parts) fewer =
    let left : Budget = record b { tokens = b.tokens - count_of parts } in
    let next : List Hiding = space_first t.token.space_before (laid_before hides parts rest) in
    ap (λ (x : Expanded). elim (nat_lt b.tokens (count_of parts)) as (λ _. Expanded) [ true ↦ ends (Passed MadeTokens) | false ↦ x ])
    (agree.same left next fewer)

called-same : (f g : Expander) (most : ℕ) → AgreeBelow most f g → (t : Hiding) (m : Macro) (arguments : List (List Hiding))
    (hides : NameSet) (rest : List Hiding) (b : Budget) (r : Ready) → ReadyWithin b r → b.replacements < most
    → called f t m arguments hides rest r ≡ called g t m arguments hides rest r
called-same f g most agree t m arguments hides rest b (AllReady expanded left) h fewer =
    laid-same f g most agree t hides rest left (substituted t.token.at arguments expanded (chains m)) (omega (arith, h.replacements, fewer))
called-same f g most agree t m arguments hides rest b (Stops e) h fewer = refl

spending_one-same : (b : Budget) (next that : Budget → Expanded)
    → ((left : ℕ) → left < b.replacements → next (record b { replacements = left }) ≡ that (record b { replacements = left }))
    → spending_one b next ≡ spending_one b that
spending_one-same b next that h =
    elim b.replacements as (λ n. b.replacements ≡ n →
    (elim n as (λ _. Expanded) [ zero ↦ ends (Passed Replacements) | suc left ↦ next (record b { replacements = left }) ])
    ≡ (elim n as (λ _. Expanded) [ zero ↦ ends (Passed Replacements) | suc left ↦ that (record b { replacements = left }) ])) [
      | zero ↦ λ e. refl
      | suc left ↦ λ e. h left (omega (arith, e))
    ] refl

replaced-same : (f g : Expander) → Falls f → (b : Budget) → AgreeBelow b.replacements f g → (t : Hiding) (m : Macro)
    (arguments : List (List Hiding)) (hides : NameSet) (rest : List Hiding)
    → replaced f b t m arguments hides rest ≡ replaced g b t m arguments hides rest
replaced-same f g falls b agree t m arguments hides rest =
    spending_one-same b
    (λ c. called f t m arguments hides rest (expand_arguments f (chains m) c 0 arguments))
    (λ c. called g t m arguments hides rest (expand_arguments g (chains m) c 0 arguments))
    (λ left fewer.
    let c : Budget = record b { replacements = left } in
    called-same f g b.replacements agree t m arguments hides rest c (expand_arguments f (chains m) c 0 arguments)
    (expand_arguments-within f falls (chains m) c 0 arguments) fewer
    ∙ ap (called g t m arguments hides rest) (expand_arguments-same f g falls b.replacements agree (chains m) c 0 arguments fewer))

predefined-same : (f g : Expander) (table : MacroTable) (b : Budget) → AgreeBelow b.replacements f g → (t : Hiding) (name : Predefined)
    (rest : List Hiding) → predefined f table b t name rest ≡ predefined g table b t name rest
predefined-same f g table b agree t name rest =
    spending_one-same b
    (λ c. put (in_place_of t (predefined_token table b.counter t.token name)) (f (record c { counter = counter_behind name b.counter }) rest))
    (λ c. put (in_place_of t (predefined_token table b.counter t.token name)) (g (record c { counter = counter_behind name b.counter }) rest))
    (λ left fewer.
    ap (put (in_place_of t (predefined_token table b.counter t.token name)))
    (agree.same (record b { replacements = left; counter = counter_behind name b.counter }) rest fewer))

-- expanders that are equal below have equal cases
pub expand_by-same : (f g : Expander) → Falls f → (table : MacroTable) (b : Budget) → AgreeBelow b.replacements f g → (ts : List Hiding)
    → expand_by f table b ts ≡ expand_by g table b ts
expand_by-same f g falls table b agree [] = refl
expand_by-same f g falls table b agree (t ∷ ts) =
    elim (use_of table.definitions t ts) as (λ u.
    (elim u as (λ _. Expanded) [
      | Stays ↦ put t (expand_by f table b ts)
      | Replaces m arguments hides rest ↦ replaced f b t m arguments hides rest
      | Wrong fault ↦ ends (Failed fault t.token.at)
      | Predefines name ↦ predefined f table b t name ts
    ])
    ≡ (elim u as (λ _. Expanded) [
      | Stays ↦ put t (expand_by g table b ts)
      | Replaces m arguments hides rest ↦ replaced g b t m arguments hides rest
      | Wrong fault ↦ ends (Failed fault t.token.at)
      | Predefines name ↦ predefined g table b t name ts
    ])) [
      | Stays ↦ ap (put t) (expand_by-same f g falls table b agree ts)
      | Replaces m arguments hides rest ↦ replaced-same f g falls b agree t m arguments hides rest
      | Wrong fault ↦ refl
      | Predefines name ↦ predefined-same f g table b agree t name ts
    ]

-- nothing is expanded where no replacement is left
abbrev pub nothing_left : Expander
nothing_left = λ left rest. ends (Passed Replacements)

nothing_left-Falls : Falls nothing_left
nothing_left-Falls = record { falls = λ left rest. tt }

-- how many replacements are allowed from without doesn't matter, if there are enough
within-same : (n m : ℕ) (table : MacroTable) (b : Budget) (ts : List Hiding) → b.replacements ≤ n → b.replacements ≤ m
    → within n table b ts ≡ within m table b ts
unfolding within
within-same zero zero table b ts h k = refl
within-same zero (suc m) table b ts h k =
    expand_by-same nothing_left (within m table) nothing_left-Falls table b (record { same = λ c us fewer. absurd (omega (arith, h, fewer)) }) ts
within-same (suc n) zero table b ts h k =
    expand_by-same (within n table) nothing_left (within-Falls n table) table b (record { same = λ c us fewer. absurd (omega (arith, k, fewer)) }) ts
within-same (suc n) (suc m) table b ts h k =
    expand_by-same (within n table) (within m table) (within-Falls n table) table b
    (record { same = λ c us fewer. within-same n m table c us (omega (arith, h, fewer)) (omega (arith, k, fewer)) }) ts

-- the expansion, with so many replacements allowed as its budget has
within-expansion : (n : ℕ) (table : MacroTable) (b : Budget) (ts : List Hiding) → b.replacements ≡ n
    → within n table b ts ≡ expand_by (expansion table) table b ts
unfolding within expansion
within-expansion zero table b ts e =
    expand_by-same nothing_left (expansion table) nothing_left-Falls table b (record { same = λ c us fewer. absurd (omega (arith, e, fewer)) }) ts
within-expansion (suc n) table b ts e =
    expand_by-same (within n table) (expansion table) (within-Falls n table) table b
    (record { same = λ c us fewer. within-same n c.replacements table c us (omega (arith, e, fewer)) (omega arith) }) ts

pub expansion-is : ExpansionIsItsCases
unfolding expansion
expansion-is table b ts = within-expansion b.replacements table b ts refl
