-- A list whose expansion breaks off within it: what stands behind the list changes nothing.
use Rattle.std.proofs.Common.{◌≡◌, ℕ, zero, suc, ◌+◌, ◌-◌, Bool, ◌&&◌, not, true, false, List, [], ◌∷◌, ◌++◌, ◌⊎◌, inl, inr, Option, Some, None, nat_eq, nat_lt, refl, ap, sym, ◌∙◌, subst, append_assoc}
use Rattle.std.specs.Prelude.{⊤}
use Rattle.meaning_macros.specs.Signs.{is_identifier_kind, is_left_parenthesis, is_right_parenthesis, is_comma}
use Rattle.meaning_macros.specs.Macros.{Macro, Definition, macro_of, Predefined, predefined_of, MacroTable, is_function_like}
use Rattle.meaning_macros.specs.Bodies.{chains}
use Rattle.meaning_macros.specs.Hiding.{NameSet, only, joined, Hiding, hiding, space_first}
use Rattle.meaning_macros.specs.Substitution.{LaidPart, Substituted, WholeBody, BrokenBehind, substituted, count_of, laid_before}
use Rattle.meaning_macros.specs.Calls.{Arguments, with_argument_token, with_cut, split, most_cuts, matched}
use Rattle.meaning_macros.specs.Expansion.{Budget, WrongArguments, OpenCall, BadPaste, MadeTokens, Replacements, End, Finished, Failed, Passed, Expanded, ends, put, Use, Stays, Replaces, Wrong, Predefines, use_of_matched, use_of_split, use_of_call, use_of_predefined, use_of_name, use_of, Expander, spending_one, Ready, AllReady, Stops, expand_arguments, laid, called, replaced, in_place_of, predefined_token, counter_behind, predefined, expand_by, within, expansion}
use Rattle.meaning_macros.proofs.Cases.{nothing_left}

-- it breaks off for another reason than a call that the list doesn't close
abbrev pub BreaksOff : End → Type 0
BreaksOff (Finished left) = ⊥
BreaksOff (Failed WrongArguments place) = ⊤
BreaksOff (Failed OpenCall place) = ⊥
BreaksOff (Failed BadPaste place) = ⊤
BreaksOff (Passed counted) = ⊤

-- whatever stands behind a list with which it breaks off changes nothing
abbrev StopsWithin : Expander → Type 0
StopsWithin f = (b : Budget) (ts us : List Hiding) → BreaksOff (f b ts).end → f b (ts ++ us) ≡ f b ts

-- Calls

-- a call that closes, closes as well where more follows
abbrev ClosesToo : List Hiding → Option Arguments → Option Arguments → Type 0
ClosesToo us None other = ⊤
ClosesToo us (Some found) other = other ≡ Some (record found { rest = found.rest ++ us })

with_argument_token-more : (us : List Hiding) (t : Hiding) (found other : Option Arguments) → ClosesToo us found other
    → ClosesToo us (with_argument_token t found) (with_argument_token t other)
with_argument_token-more us t None other h = tt
with_argument_token-more us t (Some found) other h = ap (with_argument_token t) h

with_cut-more : (us : List Hiding) (found other : Option Arguments) → ClosesToo us found other → ClosesToo us (with_cut found) (with_cut other)
with_cut-more us None other h = tt
with_cut-more us (Some found) other h = ap with_cut h

split-more : (depth cuts : ℕ) (ts us : List Hiding) → ClosesToo us (split depth cuts ts) (split depth cuts (ts ++ us))
split-more depth cuts [] us = tt
split-more depth cuts (t ∷ ts) us =
    elim (is_right_parenthesis t.token.kind) as (λ v. ClosesToo us
    (elim v as (λ _. Option Arguments) [
      | true ↦ elim (nat_eq depth 0) as (λ _. Option Arguments) [
        | true ↦ Some (record { first = []; more = []; closing = t; rest = ts })
        | false ↦ with_argument_token t (split (depth - 1) cuts ts)
      ]
      | false ↦ elim (is_left_parenthesis t.token.kind) as (λ _. Option Arguments) [
        | true ↦ with_argument_token t (split (depth + 1) cuts ts)
        | false ↦ elim (is_comma t.token.kind && nat_eq depth 0 && nat_lt 0 cuts) as (λ _. Option Arguments) [
          | true ↦ with_cut (split depth (cuts - 1) ts)
          | false ↦ with_argument_token t (split depth cuts ts)
        ]
      ]
    ])
    (elim v as (λ _. Option Arguments) [
      | true ↦ elim (nat_eq depth 0) as (λ _. Option Arguments) [
        | true ↦ Some (record { first = []; more = []; closing = t; rest = ts ++ us })
        | false ↦ with_argument_token t (split (depth - 1) cuts (ts ++ us))
      ]
      | false ↦ elim (is_left_parenthesis t.token.kind) as (λ _. Option Arguments) [
        | true ↦ with_argument_token t (split (depth + 1) cuts (ts ++ us))
        | false ↦ elim (is_comma t.token.kind && nat_eq depth 0 && nat_lt 0 cuts) as (λ _. Option Arguments) [
          | true ↦ with_cut (split depth (cuts - 1) (ts ++ us))
          | false ↦ with_argument_token t (split depth cuts (ts ++ us))
        ]
      ]
    ])) [
      | true ↦ elim (nat_eq depth 0) as (λ v. ClosesToo us
          (elim v as (λ _. Option Arguments) [
            | true ↦ Some (record { first = []; more = []; closing = t; rest = ts })
            | false ↦ with_argument_token t (split (depth - 1) cuts ts)
          ])
          (elim v as (λ _. Option Arguments) [
            | true ↦ Some (record { first = []; more = []; closing = t; rest = ts ++ us })
            | false ↦ with_argument_token t (split (depth - 1) cuts (ts ++ us))
          ])) [
            | true ↦ refl
            | false ↦ with_argument_token-more us t (split (depth - 1) cuts ts) (split (depth - 1) cuts (ts ++ us)) (split-more (depth - 1) cuts ts us)
          ]
      | false ↦ elim (is_left_parenthesis t.token.kind) as (λ v. ClosesToo us
          (elim v as (λ _. Option Arguments) [
            | true ↦ with_argument_token t (split (depth + 1) cuts ts)
            | false ↦ elim (is_comma t.token.kind && nat_eq depth 0 && nat_lt 0 cuts) as (λ _. Option Arguments) [
              | true ↦ with_cut (split depth (cuts - 1) ts)
              | false ↦ with_argument_token t (split depth cuts ts)
            ]
          ])
          (elim v as (λ _. Option Arguments) [
            | true ↦ with_argument_token t (split (depth + 1) cuts (ts ++ us))
            | false ↦ elim (is_comma t.token.kind && nat_eq depth 0 && nat_lt 0 cuts) as (λ _. Option Arguments) [
              | true ↦ with_cut (split depth (cuts - 1) (ts ++ us))
              | false ↦ with_argument_token t (split depth cuts (ts ++ us))
            ]
          ])) [
            | true ↦ with_argument_token-more us t (split (depth + 1) cuts ts) (split (depth + 1) cuts (ts ++ us)) (split-more (depth + 1) cuts ts us)
            | false ↦ elim (is_comma t.token.kind && nat_eq depth 0 && nat_lt 0 cuts) as (λ v. ClosesToo us
                (elim v as (λ _. Option Arguments) [
                  | true ↦ with_cut (split depth (cuts - 1) ts)
                  | false ↦ with_argument_token t (split depth cuts ts)
                ])
                (elim v as (λ _. Option Arguments) [
                  | true ↦ with_cut (split depth (cuts - 1) (ts ++ us))
                  | false ↦ with_argument_token t (split depth cuts (ts ++ us))
                ])) [
                  | true ↦ with_cut-more us (split depth (cuts - 1) ts) (split depth (cuts - 1) (ts ++ us)) (split-more depth (cuts - 1) ts us)
                  | false ↦ with_argument_token-more us t (split depth cuts ts) (split depth cuts (ts ++ us)) (split-more depth cuts ts us)
                ]
          ]
    ]

-- What the first token is for, where more follows: the same, unless it stays since nothing stands behind it, or opens a call
-- that isn't closed.
abbrev UsedToo : List Hiding → List Hiding → Use → Use → Type 0
UsedToo us ts Stays other = (ts ≡ []) ⊎ (other ≡ Stays)
UsedToo us ts (Replaces m arguments hides rest) other = other ≡ Replaces m arguments hides (rest ++ us)
UsedToo us ts (Wrong WrongArguments) other = other ≡ Wrong WrongArguments
UsedToo us ts (Wrong OpenCall) other = ⊤
UsedToo us ts (Wrong BadPaste) other = other ≡ Wrong BadPaste
UsedToo us ts (Predefines name) other = other ≡ Predefines name

use_of_matched-more : (us ts : List Hiding) (t closing : Hiding) (rest : List Hiding) (m : Macro) (arguments : Option (List (List Hiding)))
    → UsedToo us ts (use_of_matched t closing rest m arguments) (use_of_matched t closing (rest ++ us) m arguments)
use_of_matched-more us ts t closing rest m None = refl
use_of_matched-more us ts t closing rest m (Some arguments) = refl

use_of_split-more : (us ts : List Hiding) (t : Hiding) (m : Macro) (found other : Option Arguments) → ClosesToo us found other
    → UsedToo us ts (use_of_split t m found) (use_of_split t m other)
use_of_split-more us ts t m None other h = tt
use_of_split-more us ts t m (Some found) other h =
    subst (λ (x : Option Arguments). UsedToo us ts (use_of_split t m (Some found)) (use_of_split t m x)) (sym h)
    (use_of_matched-more us ts t found.closing found.rest m (matched m (found.first ∷ found.more)))

use_of_call-more : (us : List Hiding) (t : Hiding) (m : Macro) (ts : List Hiding) → UsedToo us ts (use_of_call t m ts) (use_of_call t m (ts ++ us))
use_of_call-more us t m [] = inl refl
use_of_call-more us t m (next ∷ rest) =
    elim (is_left_parenthesis next.token.kind) as (λ v. UsedToo us (next ∷ rest)
    (elim v as (λ _. Use) [ true ↦ use_of_split t m (split 0 (most_cuts m) rest) | false ↦ Stays ])
    (elim v as (λ _. Use) [ true ↦ use_of_split t m (split 0 (most_cuts m) (rest ++ us)) | false ↦ Stays ])) [
      | true ↦
          use_of_split-more us (next ∷ rest) t m (split 0 (most_cuts m) rest) (split 0 (most_cuts m) (rest ++ us))
          (split-more 0 (most_cuts m) rest us)
      | false ↦ inr refl
    ]

use_of_predefined-more : (us ts : List Hiding) (name : Option Predefined) → UsedToo us ts (use_of_predefined name) (use_of_predefined name)
use_of_predefined-more us ts None = inr refl
use_of_predefined-more us ts (Some name) = refl

use_of_name-more : (us : List Hiding) (t : Hiding) (ts : List Hiding) (m : Option Macro) → UsedToo us ts (use_of_name t ts m) (use_of_name t (ts ++ us) m)
use_of_name-more us t ts None = use_of_predefined-more us ts (predefined_of t.token.text)
use_of_name-more us t ts (Some m) =
    elim (is_function_like m) as (λ v. UsedToo us ts
    (elim v as (λ _. Use) [ true ↦ use_of_call t m ts | false ↦ Replaces m [] (joined t.hides (only t.token.text)) ts ])
    (elim v as (λ _. Use) [ true ↦ use_of_call t m (ts ++ us) | false ↦ Replaces m [] (joined t.hides (only t.token.text)) (ts ++ us) ])) [
      | true ↦ use_of_call-more us t m ts
      | false ↦ refl
    ]

use_of-more : (us : List Hiding) (table : List Definition) (t : Hiding) (ts : List Hiding) → UsedToo us ts (use_of table t ts) (use_of table t (ts ++ us))
use_of-more us table t ts =
    elim (is_identifier_kind t.token.kind && not (t.hides t.token.text)) as (λ v. UsedToo us ts
    (elim v as (λ _. Use) [ true ↦ use_of_name t ts (macro_of table t.token.text) | false ↦ Stays ])
    (elim v as (λ _. Use) [ true ↦ use_of_name t (ts ++ us) (macro_of table t.token.text) | false ↦ Stays ])) [
      | true ↦ use_of_name-more us t ts (macro_of table t.token.text)
      | false ↦ inr refl
    ]

-- Replacements

-- the second is the first with more behind it
abbrev GoesOn : List Hiding → List Hiding → Type 0
GoesOn ts us = (more : List Hiding) × (us ≡ ts ++ more)

space_first-more : (space : Bool) (ts more : List Hiding) → GoesOn (space_first space ts) (space_first space (ts ++ more))
space_first-more space [] more = (space_first space more, refl)
space_first-more space (t ∷ ts) more = (more, refl)

space_first-goes_on : (space : Bool) (ts us : List Hiding) → GoesOn ts us → GoesOn (space_first space ts) (space_first space us)
space_first-goes_on space ts us h =
    let all = space_first-more space ts h.0 in
    (all.0, ap (space_first space) h.1 ∙ all.1)

laid_before-more : (names : NameSet) (parts : List LaidPart) (rest us : List Hiding) → GoesOn (laid_before names parts rest) (laid_before names parts (rest ++ us))
laid_before-more names [] rest us = (us, refl)
laid_before-more names (part ∷ parts) rest us =
    let later = laid_before-more names parts rest us in
    space_first-goes_on part.space (hiding names part.tokens ++ laid_before names parts rest) (hiding names part.tokens ++ laid_before names parts (rest ++ us)) (
      later.0,
      ap (λ (all : List Hiding). hiding names part.tokens ++ all) later.1
          ∙ sym (append_assoc (hiding names part.tokens) (laid_before names parts rest) later.0),
    )

goes_on : (f : Expander) → StopsWithin f → (b : Budget) (ts us : List Hiding) → GoesOn ts us → BreaksOff (f b ts).end → f b us ≡ f b ts
goes_on f stops b ts us h off = ap (f b) h.1 ∙ stops b ts h.0 off

laid-more : (f : Expander) → StopsWithin f → (t : Hiding) (hides : NameSet) (rest us : List Hiding) (b : Budget) (s : Substituted)
    → BreaksOff (laid f t hides rest b s).end → laid f t hides (rest ++ us) b s ≡ laid f t hides rest b s
laid-more f stops t hides rest us b (BrokenBehind count) off = refl
laid-more f stops t hides rest us b (WholeBody parts) off =
    let left : Budget = record b { tokens = b.tokens - count_of parts } in
    let next : List Hiding = space_first t.token.space_before (laid_before hides parts rest) in
    let that : List Hiding = space_first t.token.space_before (laid_before hides parts (rest ++ us)) in
    elim (nat_lt b.tokens (count_of parts)) as (λ v.
    BreaksOff (elim v as (λ _. Expanded) [ true ↦ ends (Passed MadeTokens) | false ↦ f left next ]).end
    → (elim v as (λ _. Expanded) [ true ↦ ends (Passed MadeTokens) | false ↦ f left that ])
    ≡ (elim v as (λ _. Expanded) [ true ↦ ends (Passed MadeTokens) | false ↦ f left next ])) [
      | true ↦ λ h. refl
      | false ↦ λ h.
          goes_on f stops left next that
          (space_first-goes_on t.token.space_before (laid_before hides parts rest) (laid_before hides parts (rest ++ us)) (laid_before-more hides parts rest us)) h
    ] off

called-more : (f : Expander) → StopsWithin f → (t : Hiding) (m : Macro) (arguments : List (List Hiding)) (hides : NameSet) (rest us : List Hiding) (r : Ready)
    → BreaksOff (called f t m arguments hides rest r).end → called f t m arguments hides (rest ++ us) r ≡ called f t m arguments hides rest r
called-more f stops t m arguments hides rest us (Stops e) off = refl
called-more f stops t m arguments hides rest us (AllReady expanded b) off =
    laid-more f stops t hides rest us b (substituted t.token.at arguments expanded (chains m)) off

spending_one-more : (b : Budget) (next that : Budget → Expanded) → ((c : Budget) → BreaksOff (next c).end → that c ≡ next c)
    → BreaksOff (spending_one b next).end → spending_one b that ≡ spending_one b next
spending_one-more b next that h off =
    elim b.replacements as (λ n.
    BreaksOff (elim n as (λ _. Expanded) [ zero ↦ ends (Passed Replacements) | suc left ↦ next (record b { replacements = left }) ]).end
    → (elim n as (λ _. Expanded) [ zero ↦ ends (Passed Replacements) | suc left ↦ that (record b { replacements = left }) ])
    ≡ (elim n as (λ _. Expanded) [ zero ↦ ends (Passed Replacements) | suc left ↦ next (record b { replacements = left }) ])) [
      | zero ↦ λ k. refl
      | suc left ↦ λ k. h (record b { replacements = left }) k
    ] off

replaced-more : (f : Expander) → StopsWithin f → (b : Budget) (t : Hiding) (m : Macro) (arguments : List (List Hiding)) (hides : NameSet) (rest us : List Hiding)
    → BreaksOff (replaced f b t m arguments hides rest).end → replaced f b t m arguments hides (rest ++ us) ≡ replaced f b t m arguments hides rest
replaced-more f stops b t m arguments hides rest us off =
    spending_one-more b
    (λ c. called f t m arguments hides rest (expand_arguments f (chains m) c 0 arguments))
    (λ c. called f t m arguments hides (rest ++ us) (expand_arguments f (chains m) c 0 arguments))
    (λ c h. called-more f stops t m arguments hides rest us (expand_arguments f (chains m) c 0 arguments) h) off

predefined-more : (f : Expander) → StopsWithin f → (table : MacroTable) (b : Budget) (t : Hiding) (name : Predefined) (rest us : List Hiding)
    → BreaksOff (predefined f table b t name rest).end → predefined f table b t name (rest ++ us) ≡ predefined f table b t name rest
predefined-more f stops table b t name rest us off =
    spending_one-more b
    (λ c. put (in_place_of t (predefined_token table b.counter t.token name)) (f (record c { counter = counter_behind name b.counter }) rest))
    (λ c. put (in_place_of t (predefined_token table b.counter t.token name)) (f (record c { counter = counter_behind name b.counter }) (rest ++ us)))
    (λ c h. ap (put (in_place_of t (predefined_token table b.counter t.token name))) (stops (record c { counter = counter_behind name b.counter }) rest us h)) off

-- Expansions

-- what comes of a list by what its first token is for
abbrev by_use : Expander → MacroTable → Budget → Hiding → List Hiding → Use → Expanded
by_use f table b t ts Stays = put t (expand_by f table b ts)
by_use f table b t ts (Replaces m arguments hides rest) = replaced f b t m arguments hides rest
by_use f table b t ts (Wrong fault) = ends (Failed fault t.token.at)
by_use f table b t ts (Predefines name) = predefined f table b t name ts

by_use-is : (f : Expander) (table : MacroTable) (b : Budget) (t : Hiding) (ts : List Hiding) (u : Use)
    → (elim u as (λ _. Expanded) [
      | Stays ↦ put t (expand_by f table b ts)
      | Replaces m arguments hides rest ↦ replaced f b t m arguments hides rest
      | Wrong fault ↦ ends (Failed fault t.token.at)
      | Predefines name ↦ predefined f table b t name ts
    ]) ≡ by_use f table b t ts u
by_use-is f table b t ts Stays = refl
by_use-is f table b t ts (Replaces m arguments hides rest) = refl
by_use-is f table b t ts (Wrong fault) = refl
by_use-is f table b t ts (Predefines name) = refl

by_use-more : (f : Expander) → StopsWithin f → (table : MacroTable) (b : Budget) (t : Hiding) (ts us : List Hiding)
    → (BreaksOff (expand_by f table b ts).end → expand_by f table b (ts ++ us) ≡ expand_by f table b ts)
    → (u v : Use) → UsedToo us ts u v → BreaksOff (by_use f table b t ts u).end → by_use f table b t (ts ++ us) v ≡ by_use f table b t ts u
by_use-more f stops table b t ts us later Stays v (inl empty) off =
    absurd (subst (λ (all : List Hiding). BreaksOff (expand_by f table b all).end) empty off)
by_use-more f stops table b t ts us later Stays v (inr e) off = ap (by_use f table b t (ts ++ us)) e ∙ ap (put t) (later off)
by_use-more f stops table b t ts us later (Replaces m arguments hides rest) v e off =
    ap (by_use f table b t (ts ++ us)) e ∙ replaced-more f stops b t m arguments hides rest us off
by_use-more f stops table b t ts us later (Wrong WrongArguments) v e off = ap (by_use f table b t (ts ++ us)) e
by_use-more f stops table b t ts us later (Wrong OpenCall) v e off = absurd off
by_use-more f stops table b t ts us later (Wrong BadPaste) v e off = ap (by_use f table b t (ts ++ us)) e
by_use-more f stops table b t ts us later (Predefines name) v e off =
    ap (by_use f table b t (ts ++ us)) e ∙ predefined-more f stops table b t name ts us off

expand_by-more : (f : Expander) → StopsWithin f → (table : MacroTable) → StopsWithin (expand_by f table)
expand_by-more f stops table b [] us off = absurd off
expand_by-more f stops table b (t ∷ ts) us off =
    by_use-is f table b t (ts ++ us) (use_of table.definitions t (ts ++ us))
    ∙ by_use-more f stops table b t ts us (λ h. expand_by-more f stops table b ts us h)
    (use_of table.definitions t ts) (use_of table.definitions t (ts ++ us)) (use_of-more us table.definitions t ts)
    (subst (λ (all : Expanded). BreaksOff all.end) (by_use-is f table b t ts (use_of table.definitions t ts)) off)
    ∙ sym (by_use-is f table b t ts (use_of table.definitions t ts))

within-more : (n : ℕ) (table : MacroTable) → StopsWithin (within n table)
unfolding within
within-more zero table = expand_by-more nothing_left (λ b ts us off. refl) table
within-more (suc n) table = expand_by-more (within n table) (within-more n table) table

pub expansion-more : (table : MacroTable) (b : Budget) (ts us : List Hiding) → BreaksOff (expansion table b ts).end
    → expansion table b (ts ++ us) ≡ expansion table b ts
unfolding expansion
expansion-more table b ts us off = within-more b.replacements table b ts us off
