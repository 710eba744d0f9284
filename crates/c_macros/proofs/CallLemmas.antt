-- How a call goes on with its arguments.
use Rattle.std.proofs.Common.{◌≡◌, ◌+◌, Bool, true, false, List, [], ◌∷◌, ◌++◌, length, refl, sym, ap, ◌∙◌, length-append}
use Rattle.std.proofs.lemmas.List.{append_assoc, append-nil}
use Rattle.meaning_macros.specs.Macros.{MacroTable}
use Rattle.meaning_macros.specs.Bodies.{chains, stands_apart, stands_raw}
use Rattle.meaning_macros.specs.Hiding.{Hiding}
use Rattle.meaning_macros.specs.Substitution.{substituted}
use Rattle.meaning_macros.specs.Expansion.{Budget, End, Finished, Failed, Passed, Expanded, Expander, Ready, AllReady, Stops, with_argument, after_argument, expand_arguments, called, laid}
use Rattle.c_macros.specs.Meaning.{IsExpansion, put_all, add_all, if_wanted, raw_from, Opened, calling, Suspended, taken}

add_all-one : (arguments : List (List Hiding)) (one : List Hiding) (others : Ready) → add_all (arguments ++ one ∷ []) others ≡ add_all arguments (with_argument one others)
add_all-one [] one others = refl
add_all-one (a ∷ arguments) one others = ap (with_argument a) (add_all-one arguments one others)

add_all-Stops : (arguments : List (List Hiding)) (end : End) → add_all arguments (Stops end) ≡ Stops end
add_all-Stops [] end = refl
add_all-Stops (a ∷ arguments) end = ap (with_argument a) (add_all-Stops arguments end)

add_all-ready : (arguments : List (List Hiding)) (b : Budget) → add_all arguments (AllReady [] b) ≡ AllReady arguments b
add_all-ready [] b = refl
add_all-ready (a ∷ arguments) b = ap (with_argument a) (add_all-ready arguments b)

-- an argument that was expanded by itself
expanded_argument : (f : Expander) (c : Opened) (raws readys : List (List Hiding)) (raw : List Hiding) (later : List (List Hiding)) (tokens : List Hiding) (end : End)
    → put_all c.put (called f c.name c.macro (raws ++ (raw ∷ raw_from (chains c.macro) (length readys + 1) later)) c.hides c.rest
    (add_all readys (after_argument tokens end (λ left. expand_arguments f (chains c.macro) left (length readys + 1) later))))
    ≡ taken f (record { call = c; raws = raws; readys = readys; raw = raw; later = later }) tokens end
expanded_argument f c raws readys raw later tokens (Finished left) =
    let k : length readys + 1 ≡ length (readys ++ tokens ∷ []) = sym (length-append readys (tokens ∷ [])) in
    λ i. put_all c.put (called f c.name c.macro
    ((sym (append_assoc raws (raw ∷ []) (raw_from (chains c.macro) (length readys + 1) later)) ∙ ap (λ n. (raws ++ raw ∷ []) ++ raw_from (chains c.macro) n later) k) i)
    c.hides c.rest
    ((sym (add_all-one readys tokens (expand_arguments f (chains c.macro) left (length readys + 1) later)) ∙ ap (λ n. add_all (readys ++ tokens ∷ []) (expand_arguments f (chains c.macro) left n later)) k) i))
expanded_argument f c raws readys raw later tokens (Failed fault place) =
    ap (λ r. put_all c.put (called f c.name c.macro (raws ++ (raw ∷ raw_from (chains c.macro) (length readys + 1) later)) c.hides c.rest r)) (add_all-Stops readys (Failed fault place))
    ∙ λ i. record { tokens = append-nil c.put i; end = Failed fault c.name.token.at }
expanded_argument f c raws readys raw later tokens (Passed counted) =
    ap (λ r. put_all c.put (called f c.name c.macro (raws ++ (raw ∷ raw_from (chains c.macro) (length readys + 1) later)) c.hides c.rest r)) (add_all-Stops readys (Passed counted))
    ∙ λ i. record { tokens = append-nil c.put i; end = Passed counted }

-- the next argument is expanded where it is wanted so; else there is nothing to expand
pub next_argument : (f : Expander) (table : MacroTable) → IsExpansion table f → (c : Opened) (raws readys : List (List Hiding)) (a : List Hiding) (later : List (List Hiding)) (b : Budget)
    → calling f c raws readys (a ∷ later) b
    ≡ taken f (record { call = c; raws = raws; readys = readys; raw = if_wanted (stands_raw (length readys) (chains c.macro)) a; later = later })
    (f b (if_wanted (stands_apart (length readys) (chains c.macro)) a)).tokens (f b (if_wanted (stands_apart (length readys) (chains c.macro)) a)).end
next_argument f table is c raws readys a later b = by (stands_apart (length readys) (chains c.macro))
  where
    raw : List Hiding
    raw = if_wanted (stands_raw (length readys) (chains c.macro)) a

    this : Suspended
    this = record { call = c; raws = raws; readys = readys; raw = raw; later = later }

    by : (wanted : Bool) → put_all c.put (called f c.name c.macro (raws ++ (raw ∷ raw_from (chains c.macro) (length readys + 1) later)) c.hides c.rest
        (add_all readys (elim wanted as (λ _. Ready) [
          | true ↦ after_argument (f b a).tokens (f b a).end (λ left. expand_arguments f (chains c.macro) left (length readys + 1) later)
          | false ↦ with_argument [] (expand_arguments f (chains c.macro) b (length readys + 1) later)
        ]))) ≡ taken f this (f b (if_wanted wanted a)).tokens (f b (if_wanted wanted a)).end
    by true = expanded_argument f c raws readys raw later (f b a).tokens (f b a).end
    by false = expanded_argument f c raws readys raw later [] (Finished b) ∙ ap (λ (e : Expanded). taken f this e.tokens e.end) (sym (is b []))

-- an argument that isn't there is empty
pub absent_argument : (f : Expander) (table : MacroTable) → IsExpansion table f → (c : Opened) (raws readys : List (List Hiding)) (b : Budget)
    → calling f c raws readys ([] ∷ []) b ≡ calling f c (raws ++ [] ∷ []) (readys ++ [] ∷ []) [] b
absent_argument f table is c raws readys b =
    next_argument f table is c raws readys [] [] b
    ∙ by (stands_raw (length readys) (chains c.macro)) (stands_apart (length readys) (chains c.macro))
  where
    by : (raw apart : Bool) → taken f (record { call = c; raws = raws; readys = readys; raw = if_wanted raw []; later = [] }) (f b (if_wanted apart [])).tokens (f b (if_wanted apart [])).end
        ≡ calling f c (raws ++ [] ∷ []) (readys ++ [] ∷ []) [] b
    by true true = ap (λ (e : Expanded). taken f (record { call = c; raws = raws; readys = readys; raw = []; later = [] }) e.tokens e.end) (is b [])
    by true false = ap (λ (e : Expanded). taken f (record { call = c; raws = raws; readys = readys; raw = []; later = [] }) e.tokens e.end) (is b [])
    by false true = ap (λ (e : Expanded). taken f (record { call = c; raws = raws; readys = readys; raw = []; later = [] }) e.tokens e.end) (is b [])
    by false false = ap (λ (e : Expanded). taken f (record { call = c; raws = raws; readys = readys; raw = []; later = [] }) e.tokens e.end) (is b [])

-- all arguments are ready
pub last_argument : (f : Expander) (c : Opened) (raws readys : List (List Hiding)) (b : Budget)
    → calling f c raws readys [] b ≡ put_all c.put (laid f c.name c.hides c.rest b (substituted c.name.token.at raws readys (chains c.macro)))
last_argument f c raws readys b =
    λ i. put_all c.put (called f c.name c.macro (append-nil raws i) c.hides c.rest (add_all-ready readys b i))
