-- How the operands of a flat list, noted one by one, take the arguments of parameters.
use Rattle.std.proofs.Common.{◌≡◌, ℕ, ◌<◌, ◌≤◌, Bool, true, false, not, nat_eq, ◌&&◌, ◌||◌, if◌then◌else◌, List, [], ◌∷◌, length, get_or, slice_get, slice_set, replicate, option_map, Some, None, Option, refl, sym, ap, ◌∙◌, ⊎_elim, true≢false, arith}
use Rattle.std.specs.List.{list_any}
use Rattle.std.proofs.Math.Bool.{or-false, or_assoc, and-true}
use Rattle.std.proofs.lemmas.Bool.{cases_lt, ne_eqb}
use Rattle.std.proofs.lemmas.Bool.Decides.{eqb_tells}
use Rattle.std.proofs.lemmas.List.{get_or-set_same, get_or-set_other, get_or-replicate, length-set, length-replicate}
use Rattle.std.proofs.lemmas.Option.{slice_get-get_or, slice_get_past}
use Rattle.meaning_macros.specs.Bodies.{Operand, OwnToken, Argument, Stringized, CommaAndRest, Chain, hung_before, is_apart, is_of, takes_raw, stands_apart, stands_raw}
use Rattle.c_macros.specs.declared.operand.ParameterUse.{ParameterUse}
use Rattle.c_macros.specs.Operands.{FlatOperand, begins_next, grouped}
use Rattle.c_macros.specs.Uses.{marked, marked_at, noted, noted_all, use_in}

-- what is known after a use of a parameter that is there
pub after_mark : (uses : List ParameterUse) (parameter : ℕ) (apart : Bool) (known new : ParameterUse) → parameter < length uses → known ≡ get_or uses parameter known → new ≡ marked apart known
    → (k : ℕ) → slice_get (slice_set uses parameter new) k ≡ option_map (marked_at parameter apart k) (slice_get uses k)
after_mark uses parameter apart known new within known_is new_is k = ⊎_elim inside outside (cases_lt k (length uses))
  where
    at_k : get_or (slice_set uses parameter new) k known ≡ marked_at parameter apart k (get_or uses k known)
    at_k = ⊎_elim
        (λ same. ap (λ j. get_or (slice_set uses parameter new) j known) (sym same.1) ∙ get_or-set_same uses parameter new known within
        ∙ new_is ∙ ap (marked apart) (known_is ∙ ap (λ j. get_or uses j known) same.1)
        ∙ ap (λ here. if here then marked apart (get_or uses k known) else get_or uses k known) (sym same.0))
        (λ other. get_or-set_other uses parameter k new known (λ same. other.1 (sym same))
        ∙ ap (λ here. if here then marked apart (get_or uses k known) else get_or uses k known) (sym other.0))
        (eqb_tells parameter k)

    inside : k < length uses → slice_get (slice_set uses parameter new) k ≡ option_map (marked_at parameter apart k) (slice_get uses k)
    inside below =
        slice_get-get_or (slice_set uses parameter new) k known (omega (arith, below, length-set uses parameter new))
        ∙ ap Some at_k ∙ ap (option_map (marked_at parameter apart k)) (sym (slice_get-get_or uses k known below))

    outside : length uses ≤ k → slice_get (slice_set uses parameter new) k ≡ option_map (marked_at parameter apart k) (slice_get uses k)
    outside above =
        slice_get_past (slice_set uses parameter new) k (omega (arith, above, length-set uses parameter new))
        ∙ ap (option_map (marked_at parameter apart k)) (sym (slice_get_past uses k above))

-- a parameter that isn't there has no uses
pub after_none : (uses : List ParameterUse) (parameter : ℕ) (apart : Bool) → length uses ≤ parameter → (k : ℕ) → slice_get uses k ≡ option_map (marked_at parameter apart k) (slice_get uses k)
after_none uses parameter apart above k = ⊎_elim inside outside (cases_lt k (length uses))
  where
    other : (known : ParameterUse) → k < length uses → known ≡ marked_at parameter apart k known
    other known below = ap (λ here. if here then marked apart known else known) (sym (ne_eqb parameter k (λ same. omega (arith, below, above, same))))

    inside : k < length uses → slice_get uses k ≡ option_map (marked_at parameter apart k) (slice_get uses k)
    inside below =
        let unknown : ParameterUse = record { apart = false; raw = false } in
        let here = slice_get-get_or uses k unknown below in
        here ∙ ap Some (other (get_or uses k unknown) below) ∙ ap (option_map (marked_at parameter apart k)) (sym here)

    outside : length uses ≤ k → slice_get uses k ≡ option_map (marked_at parameter apart k) (slice_get uses k)
    outside past = slice_get_past uses k past ∙ ap (option_map (marked_at parameter apart k)) (sym (slice_get_past uses k past))

-- a parameter by itself
abbrev is_argument : ℕ → Operand → Bool
is_argument k (OwnToken t) = false
is_argument k (Argument space j) = nat_eq j k
is_argument k (Stringized space j) = false
is_argument k (CommaAndRest comma space j) = false

-- the parameter is a chain of a flat list
abbrev flat_apart : ℕ → List FlatOperand → Bool
flat_apart k [] = false
flat_apart k (o ∷ os) = ((o.begins && begins_next os) && is_argument k o.operand) || flat_apart k os

-- the parameter stands in a flat list and isn't a chain there
abbrev flat_raw : ℕ → List FlatOperand → Bool
flat_raw k [] = false
flat_raw k (o ∷ os) = (is_of k o.operand && not ((o.begins && begins_next os) && is_argument k o.operand)) || flat_raw k os

-- nothing more is known
same_use : (known : ParameterUse) → record { apart = known.apart || false; raw = known.raw || false } ≡ known
same_use known = λ i. record { apart = or-false known.apart i; raw = or-false known.raw i }

-- an operand adds what it is
noted-is : (alone : Bool) (o : Operand) (k : ℕ) (known : ParameterUse) → noted alone o k known ≡ record { apart = known.apart || (alone && is_argument k o); raw = known.raw || (is_of k o && not (alone && is_argument k o)) }
noted-is true (OwnToken t) k known = sym (same_use known)
noted-is false (OwnToken t) k known = sym (same_use known)
noted-is alone (Argument space j) k known = by alone (nat_eq j k)
  where
    by : (alone here : Bool) → (if here then marked alone known else known) ≡ record { apart = known.apart || (alone && here); raw = known.raw || (here && not (alone && here)) }
    by true true = refl
    by false true = refl
    by true false = sym (same_use known)
    by false false = sym (same_use known)
noted-is alone (Stringized space j) k known = by alone (nat_eq j k)
  where
    by : (alone here : Bool) → (if here then marked false known else known) ≡ record { apart = known.apart || (alone && false); raw = known.raw || (here && not (alone && false)) }
    by true true = refl
    by false true = refl
    by true false = sym (same_use known)
    by false false = sym (same_use known)
noted-is alone (CommaAndRest comma space j) k known = by alone (nat_eq j k)
  where
    by : (alone here : Bool) → (if here then marked false known else known) ≡ record { apart = known.apart || (alone && false); raw = known.raw || (here && not (alone && false)) }
    by true true = refl
    by false true = refl
    by true false = sym (same_use known)
    by false false = sym (same_use known)

-- all operands add what they are
noted_all-is : (k : ℕ) (os : List FlatOperand) (known : ParameterUse) → noted_all k os known ≡ record { apart = known.apart || flat_apart k os; raw = known.raw || flat_raw k os }
noted_all-is k [] known = sym (same_use known)
noted_all-is k (o ∷ os) known =
    noted_all-is k os (noted (o.begins && begins_next os) o.operand k known)
    ∙ ap (λ (more : ParameterUse). record { apart = more.apart || flat_apart k os; raw = more.raw || flat_raw k os }) (noted-is (o.begins && begins_next os) o.operand k known)
    ∙ (λ i. record {
      apart = or_assoc known.apart ((o.begins && begins_next os) && is_argument k o.operand) (flat_apart k os) i;
      raw = or_assoc known.raw (is_of k o.operand && not ((o.begins && begins_next os) && is_argument k o.operand)) (flat_raw k os) i;
    })

is_apart-one : (k : ℕ) (o : Operand) → is_apart k (o ∷ []) ≡ is_argument k o
is_apart-one k (OwnToken t) = refl
is_apart-one k (Argument space j) = refl
is_apart-one k (Stringized space j) = refl
is_apart-one k (CommaAndRest comma space j) = refl

is_apart-more : (k : ℕ) (o p : Operand) (os : Chain) → is_apart k (o ∷ p ∷ os) ≡ false
is_apart-more k (OwnToken t) p os = refl
is_apart-more k (Argument space j) p os = refl
is_apart-more k (Stringized space j) p os = refl
is_apart-more k (CommaAndRest comma space j) p os = refl

takes_raw-one : (k : ℕ) (o : Operand) → takes_raw k (o ∷ []) ≡ (is_of k o && not (is_argument k o))
takes_raw-one k (OwnToken t) = refl
takes_raw-one k (Argument space j) = by (nat_eq j k)
  where
    by : (here : Bool) → false ≡ (here && not here)
    by true = refl
    by false = refl
takes_raw-one k (Stringized space j) = or-false (nat_eq j k) ∙ sym (and-true (nat_eq j k))
takes_raw-one k (CommaAndRest comma space j) = or-false (nat_eq j k) ∙ sym (and-true (nat_eq j k))

takes_raw-more : (k : ℕ) (o p : Operand) (os : Chain) → takes_raw k (o ∷ p ∷ os) ≡ (is_of k o || list_any (is_of k) (p ∷ os))
takes_raw-more k (OwnToken t) p os = refl
takes_raw-more k (Argument space j) p os = refl
takes_raw-more k (Stringized space j) p os = refl
takes_raw-more k (CommaAndRest comma space j) p os = refl

-- the first chain has the first operand at its head
abbrev Heads : FlatOperand → List Chain → Type 0
Heads o chains = (c : Chain) × (cs : List Chain) × (chains ≡ (o.operand ∷ c) ∷ cs)

heads : (o : FlatOperand) (os : List FlatOperand) → Heads o (grouped (o ∷ os))
heads o os = by (begins_next os) (grouped os)
  where
    by : (begins : Bool) (later : List Chain) → Heads o (if begins then (o.operand ∷ []) ∷ later else hung_before o.operand later)
    by true later = ([], later, refl)
    by false [] = ([], [], refl)
    by false (c ∷ cs) = (c, cs, refl)

abbrev behind_first : List Chain → List Chain
behind_first [] = []
behind_first (c ∷ cs) = cs

abbrev first_has : ℕ → List Chain → Bool
first_has k [] = false
first_has k (c ∷ cs) = list_any (is_of k) c

-- what the chains say where the first of them begins with the first operand, or began before it
abbrev apart_said : ℕ → (begins : Bool) → List Chain → Bool
apart_said k begins chains = if begins then stands_apart k chains else stands_apart k (behind_first chains)

abbrev raw_said : ℕ → (begins : Bool) → List Chain → Bool
raw_said k begins chains = if begins then stands_raw k chains else (first_has k chains || stands_raw k (behind_first chains))

-- one operand before others, of which the first begins a chain or not
apart_step : (k : ℕ) (o : FlatOperand) (os : List FlatOperand) (next : Bool) (later : Bool) → begins_next os ≡ next → later ≡ apart_said k next (grouped os)
    → (((o.begins && next) && is_argument k o.operand) || later) ≡ apart_said k o.begins (if next then (o.operand ∷ []) ∷ grouped os else hung_before o.operand (grouped os))
apart_step k o os true later next is = by o.begins
  where
    by : (begins : Bool) → (((begins && true) && is_argument k o.operand) || later) ≡ apart_said k begins ((o.operand ∷ []) ∷ grouped os)
    by true = (λ i. sym (is_apart-one k o.operand) i || is i)
    by false = is
apart_step k o [] false later next is = absurd (true≢false next)
apart_step k o (p ∷ os) false later next is = by o.begins
  where
    found : Heads p (grouped (p ∷ os))
    found = heads p os

    behind : later ≡ stands_apart k found.1
    behind = is ∙ ap (λ chains. stands_apart k (behind_first chains)) found.2

    by : (begins : Bool) → (((begins && false) && is_argument k o.operand) || later) ≡ apart_said k begins (hung_before o.operand (grouped (p ∷ os)))
    by true =
        behind ∙ ap (λ more. more || stands_apart k found.1) (sym (is_apart-more k o.operand p.operand found.0))
        ∙ ap (λ chains. stands_apart k (hung_before o.operand chains)) (sym found.2)
    by false = behind ∙ ap (λ chains. stands_apart k (behind_first (hung_before o.operand chains))) (sym found.2)

apart-flat : (k : ℕ) (os : List FlatOperand) → flat_apart k os ≡ apart_said k (begins_next os) (grouped os)
apart-flat k [] = refl
apart-flat k (o ∷ os) = apart_step k o os (begins_next os) (flat_apart k os) refl (apart-flat k os)

raw_step : (k : ℕ) (o : FlatOperand) (os : List FlatOperand) (next : Bool) (later : Bool) → begins_next os ≡ next → later ≡ raw_said k next (grouped os)
    → ((is_of k o.operand && not ((o.begins && next) && is_argument k o.operand)) || later) ≡ raw_said k o.begins (if next then (o.operand ∷ []) ∷ grouped os else hung_before o.operand (grouped os))
raw_step k o os true later next is = by o.begins
  where
    by : (begins : Bool) → ((is_of k o.operand && not ((begins && true) && is_argument k o.operand)) || later) ≡ raw_said k begins ((o.operand ∷ []) ∷ grouped os)
    by true = (λ i. sym (takes_raw-one k o.operand) i || is i)
    by false = (λ i. (and-true (is_of k o.operand) ∙ sym (or-false (is_of k o.operand))) i || is i)
raw_step k o [] false later next is = absurd (true≢false next)
raw_step k o (p ∷ os) false later next is = by o.begins
  where
    found : Heads p (grouped (p ∷ os))
    found = heads p os

    joined : Bool
    joined = list_any (is_of k) (p.operand ∷ found.0)

    behind : later ≡ (joined || stands_raw k found.1)
    behind = is ∙ ap (λ chains. first_has k chains || stands_raw k (behind_first chains)) found.2

    all : ((is_of k o.operand && true) || later) ≡ ((is_of k o.operand || joined) || stands_raw k found.1)
    all = (λ i. and-true (is_of k o.operand) i || behind i) ∙ sym (or_assoc (is_of k o.operand) joined (stands_raw k found.1))

    by : (begins : Bool) → ((is_of k o.operand && not ((begins && false) && is_argument k o.operand)) || later) ≡ raw_said k begins (hung_before o.operand (grouped (p ∷ os)))
    by true =
        all ∙ ap (λ more. more || stands_raw k found.1) (sym (takes_raw-more k o.operand p.operand found.0))
        ∙ ap (λ chains. stands_raw k (hung_before o.operand chains)) (sym found.2)
    by false =
        all ∙ ap (λ chains. first_has k (hung_before o.operand chains) || stands_raw k (behind_first (hung_before o.operand chains))) (sym found.2)

raw-flat : (k : ℕ) (os : List FlatOperand) → flat_raw k os ≡ raw_said k (begins_next os) (grouped os)
raw-flat k [] = refl
raw-flat k (o ∷ os) = raw_step k o os (begins_next os) (flat_raw k os) refl (raw-flat k os)

-- all operands of a list that begins with a chain, noted where nothing is known, say how its chains take the argument
pub noted_all-use_in : (k : ℕ) (os : List FlatOperand) → begins_next os ≡ true → noted_all k os (record { apart = false; raw = false }) ≡ use_in k (grouped os)
noted_all-use_in k os begins =
    noted_all-is k os (record { apart = false; raw = false })
    ∙ (λ i. record {
      apart = (apart-flat k os ∙ ap (λ next. apart_said k next (grouped os)) begins) i;
      raw = (raw-flat k os ∙ ap (λ next. raw_said k next (grouped os)) begins) i;
    })

-- the same of a parameter in the list of what is known
pub all_noted : (k count : ℕ) (os : List FlatOperand) (known : List ParameterUse) → k < count → begins_next os ≡ true
    → option_map (noted_all k []) (slice_get known k) ≡ option_map (noted_all k os) (slice_get (replicate count (record { apart = false; raw = false })) k)
    → slice_get known k ≡ Some (use_in k (grouped os))
all_noted k count os known below begins given =
    let unused : ParameterUse = record { apart = false; raw = false } in
    let unknown : slice_get (replicate count unused) k ≡ Some unused =
    slice_get-get_or (replicate count unused) k unused (omega (arith, below, length-replicate count unused)) ∙ ap Some (get_or-replicate count k unused unused below) in
    same (slice_get known k) ∙ given ∙ ap (option_map (noted_all k os)) unknown ∙ ap Some (noted_all-use_in k os begins)
  where
    same : (found : Option ParameterUse) → found ≡ option_map (noted_all k []) found
    same None = refl
    same (Some use_of_k) = refl

-- one operand more is noted
pub noted_more : (k : ℕ) (o : FlatOperand) (os : List FlatOperand) (old new : Option ParameterUse) (all : Option ParameterUse) → new ≡ option_map (noted (o.begins && begins_next os) o.operand k) old
    → option_map (noted_all k (o ∷ os)) old ≡ all → option_map (noted_all k os) new ≡ all
noted_more k o os None new all is given = ap (option_map (noted_all k os)) is ∙ given
noted_more k o os (Some known) new all is given = ap (option_map (noted_all k os)) is ∙ given
