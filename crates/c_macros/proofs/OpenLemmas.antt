-- A call that begins, an argument that ends, and a call that ends, in lists.
use Rattle.std.proofs.Common.{◌≡◌, ℕ, zero, suc, List, [], ◌∷◌, ◌++◌, length, refl, sym, ap, ◌∙◌}
use Rattle.std.proofs.lemmas.List.{append-nil}
use Rattle.meaning_macros.specs.Bodies.{OwnToken, Argument, Stringized, CommaAndRest, Chain, chains, space_of_chain, stands_raw, stands_apart}
use Rattle.meaning_text.specs.Places.{At}
use Rattle.meaning_macros.specs.Hiding.{Hiding, set_at}
use Rattle.meaning_macros.specs.Macros as macros
use Rattle.meaning_macros.specs.Substitution.{Joins, part_of, with_part, substituted, argument_of}
use Rattle.meaning_macros.specs.Expansion.{Budget, Expanded, Expander, called, laid, expand_arguments}
use Rattle.c_macros.specs.Meaning.{IsExpansion, put_all, if_wanted, Opened, Suspended, calling, taken, resume, meaning}
use Rattle.c_macros.proofs.CallLemmas.{next_argument, absent_argument, last_argument}
use Rattle.c_macros.proofs.RawLemmas.{substituted-same, first_argument}

-- a substitution looks at expanded arguments by their numbers alone
part-ready : (place : At) (raws readys others : List (List Hiding)) (chain : Chain) → ((k : ℕ) → argument_of readys k ≡ argument_of others k) → part_of place raws readys chain ≡ part_of place raws others chain
part-ready place raws readys others [] same = refl
part-ready place raws readys others (OwnToken t ∷ os) same = refl
part-ready place raws readys others (Stringized space j ∷ os) same = refl
part-ready place raws readys others (CommaAndRest comma space j ∷ os) same = refl
part-ready place raws readys others (Argument space j ∷ []) same = ap (λ argument. Joins (set_at place argument)) (same j)
part-ready place raws readys others (Argument space j ∷ o ∷ os) same = refl

substituted-ready : (place : At) (raws readys others : List (List Hiding)) (body : List Chain) → ((k : ℕ) → argument_of readys k ≡ argument_of others k) → substituted place raws readys body ≡ substituted place raws others body
substituted-ready place raws readys others [] same = refl
substituted-ready place raws readys others (chain ∷ body) same =
    λ i. with_part (space_of_chain chain) (part-ready place raws readys others chain same i) (substituted-ready place raws readys others body same i)

-- one empty argument is as none
none-empty : (k : ℕ) → argument_of ([] ∷ []) k ≡ argument_of [] k
none-empty zero = refl
none-empty (suc k) = refl

-- a call with these arguments, of a macro that has parameters
pub opens-is : (f : Expander) (table : macros.MacroTable) → IsExpansion table f → (ss : List Suspended) (c : Opened) (first : List Hiding) (later : List (List Hiding)) (b : Budget)
    → resume f ss (put_all c.put (called f c.name c.macro (first ∷ later) c.hides c.rest (expand_arguments f (chains c.macro) b 0 (first ∷ later))))
    ≡ meaning f (record { call = c; raws = []; readys = []; raw = if_wanted (stands_raw 0 (chains c.macro)) first; later = later } ∷ ss) [] (if_wanted (stands_apart 0 (chains c.macro)) first) b
opens-is f table is ss c first later b =
    ap (resume f ss) (first_argument f c (first ∷ later) b ∙ next_argument f table is c [] [] first later b)

-- a call of a macro without parameters, whose one argument is empty
pub opens-empty : (f : Expander) (table : macros.MacroTable) → IsExpansion table f → (ss : List Suspended) (c : Opened) (b : Budget)
    → resume f ss (put_all c.put (called f c.name c.macro [] c.hides c.rest (expand_arguments f (chains c.macro) b 0 [])))
    ≡ meaning f (record { call = c; raws = []; readys = []; raw = []; later = [] } ∷ ss) [] [] b
opens-empty f table is ss c b =
    ap (resume f ss)
    (ap (λ found. put_all c.put (laid f c.name c.hides c.rest b found))
    (substituted-same c.name.token.at [] ([] ∷ []) [] (chains c.macro) (λ k asked. sym (none-empty k))
    ∙ substituted-ready c.name.token.at ([] ∷ []) [] ([] ∷ []) (chains c.macro) (λ k. sym (none-empty k)))
    ∙ sym (last_argument f c ([] ∷ []) ([] ∷ []) b)
    ∙ ap (λ (e : Expanded). taken f (record { call = c; raws = []; readys = []; raw = []; later = [] }) e.tokens e.end) (sym (is b [])))

-- an argument that ends where another follows
pub next-is : (f : Expander) (table : macros.MacroTable) → IsExpansion table f → (ss : List Suspended) (s : Suspended) (made next : List Hiding) (others : List (List Hiding)) (b : Budget) → s.later ≡ next ∷ others
    → meaning f (s ∷ ss) made [] b
    ≡ meaning f (record { call = s.call; raws = s.raws ++ s.raw ∷ []; readys = s.readys ++ made ∷ []; raw = if_wanted (stands_raw (length (s.readys ++ made ∷ [])) (chains s.call.macro)) next; later = others } ∷ ss) []
    (if_wanted (stands_apart (length (s.readys ++ made ∷ [])) (chains s.call.macro)) next) b
next-is f table is ss s made next others b more =
    ap (resume f ss) (ended ∙ ap (λ later. calling f s.call (s.raws ++ s.raw ∷ []) (s.readys ++ made ∷ []) later b) more
    ∙ next_argument f table is s.call (s.raws ++ s.raw ∷ []) (s.readys ++ made ∷ []) next others b)
  where
    ended : taken f s (made ++ (f b []).tokens) (f b []).end ≡ calling f s.call (s.raws ++ s.raw ∷ []) (s.readys ++ made ∷ []) s.later b
    ended = ap (λ (e : Expanded). taken f s (made ++ e.tokens) e.end) (is b []) ∙ ap (λ tokens. calling f s.call (s.raws ++ s.raw ∷ []) (s.readys ++ tokens ∷ []) s.later b) (append-nil made)

-- the last argument ends
pub last-is : (f : Expander) (table : macros.MacroTable) → IsExpansion table f → (ss : List Suspended) (s : Suspended) (made : List Hiding) (b : Budget) → s.later ≡ []
    → meaning f (s ∷ ss) made [] b
    ≡ resume f ss (put_all s.call.put (laid f s.call.name s.call.hides s.call.rest b (substituted s.call.name.token.at (s.raws ++ s.raw ∷ []) (s.readys ++ made ∷ []) (chains s.call.macro))))
last-is f table is ss s made b none =
    ap (resume f ss) (ap (λ (e : Expanded). taken f s (made ++ e.tokens) e.end) (is b []) ∙ ap (λ tokens. calling f s.call (s.raws ++ s.raw ∷ []) (s.readys ++ tokens ∷ []) s.later b) (append-nil made)
    ∙ ap (λ later. calling f s.call (s.raws ++ s.raw ∷ []) (s.readys ++ made ∷ []) later b) none
    ∙ last_argument f s.call (s.raws ++ s.raw ∷ []) (s.readys ++ made ∷ []) b)

-- the last argument ends before one that isn't there
pub last-absent : (f : Expander) (table : macros.MacroTable) → IsExpansion table f → (ss : List Suspended) (s : Suspended) (made : List Hiding) (b : Budget) → s.later ≡ [] ∷ []
    → meaning f (s ∷ ss) made [] b
    ≡ resume f ss (put_all s.call.put (laid f s.call.name s.call.hides s.call.rest b (substituted s.call.name.token.at ((s.raws ++ s.raw ∷ []) ++ [] ∷ []) ((s.readys ++ made ∷ []) ++ [] ∷ []) (chains s.call.macro))))
last-absent f table is ss s made b one =
    ap (resume f ss) (ap (λ (e : Expanded). taken f s (made ++ e.tokens) e.end) (is b []) ∙ ap (λ tokens. calling f s.call (s.raws ++ s.raw ∷ []) (s.readys ++ tokens ∷ []) s.later b) (append-nil made)
    ∙ ap (λ later. calling f s.call (s.raws ++ s.raw ∷ []) (s.readys ++ made ∷ []) later b) one
    ∙ absent_argument f table is s.call (s.raws ++ s.raw ∷ []) (s.readys ++ made ∷ []) b
    ∙ last_argument f s.call ((s.raws ++ s.raw ∷ []) ++ [] ∷ []) ((s.readys ++ made ∷ []) ++ [] ∷ []) b)
