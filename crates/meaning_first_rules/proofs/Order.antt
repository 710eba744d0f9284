-- Failures in order: two ordered lists with the same failures are equal, and ordered lists that stand apart join.
use Rattle.std.proofs.Common.{◌≡◌, ℕ, ◌+◌, ◌<◌, ◌≤◌, Bool, true, false, List, [], ◌∷◌, ◌++◌, All, Contains, ◌⊎◌, inl, inr, if◌then◌else◌, refl, sym, subst, ap₂, ◌∙◌, lt_of_lt_of_le, length, length-append, arith}
use Rattle.std.proofs.lemmas.List.Elements.{All-nil, All-head, All-tail, All-append, All-contains, All-weaker}
use Rattle.meaning_first_rules.specs.Failures.{Failure, IsBefore, AreOrdered}
use Rattle.meaning_first_rules.proofs.Elements.{Contains-nil, Contains-cons_cases, Contains-cons_head, Contains-cons_tail, All-if}

-- One order for each set of failures

-- no failure stands before itself
pub IsBefore-irreflexive : (f : Failure) → IsBefore f f → ⊥
IsBefore-irreflexive f h = grind arith

-- no two stand before each other
pub IsBefore-asymmetric : (f g : Failure) → IsBefore f g → IsBefore g f → ⊥
IsBefore-asymmetric f g h k = grind arith

-- where each is the other or stands before it, the two are equal
equal_or_before-antisymmetric : (f g : Failure) → (f ≡ g) ⊎ IsBefore f g → (g ≡ f) ⊎ IsBefore g f → f ≡ g
equal_or_before-antisymmetric f g (inl e) k = e
equal_or_before-antisymmetric f g (inr h) (inl e) = sym e
equal_or_before-antisymmetric f g (inr h) (inr k) = absurd (IsBefore-asymmetric f g h k)

-- an element of an ordered list is the first or stands behind it
first_or_behind : (f : Failure) (fs : List Failure) (g : Failure) → AreOrdered (f ∷ fs) → Contains (f ∷ fs) g → (f ≡ g) ⊎ IsBefore f g
first_or_behind f fs g ordered h =
    elim (Contains-cons_cases f fs g h) [ inl e ↦ inl e | inr k ↦ inr (All-contains (IsBefore f) fs g ordered.0 k) ]

-- each element of the one list is one of the other
abbrev pub AreAmong : List Failure → List Failure → Type 0
AreAmong failures others = (failure : Failure) → Contains failures failure → Contains others failure

-- two ordered lists with the same elements begin with the same
same_first :
    (f : Failure) (fs : List Failure) (g : Failure) (gs : List Failure) → AreOrdered (f ∷ fs) → AreOrdered (g ∷ gs) →
    AreAmong (f ∷ fs) (g ∷ gs) → AreAmong (g ∷ gs) (f ∷ fs) → f ≡ g
same_first f fs g gs ordered other among back =
    equal_or_before-antisymmetric f g
    (first_or_behind f fs g ordered (back g (Contains-cons_head g gs)))
    (first_or_behind g gs f other (among f (Contains-cons_head f fs)))

-- and go on with the same
others_among :
    (f : Failure) (fs : List Failure) (g : Failure) (gs : List Failure) → f ≡ g → AreOrdered (f ∷ fs) → AreAmong (f ∷ fs) (g ∷ gs) → AreAmong fs gs
others_among f fs g gs same ordered among x h =
    elim (Contains-cons_cases g gs x (among x (Contains-cons_tail f fs x h))) [ inl e ↦ absurd (IsBefore-irreflexive f (before_itself e)) | inr k ↦ k ]
  where
    before_itself : g ≡ x → IsBefore f f
    before_itself e = subst (IsBefore f) (sym (same ∙ e)) (All-contains (IsBefore f) fs x ordered.0 h)

-- so they are equal
pub AreOrdered-unique :
    (failures others : List Failure) → AreOrdered failures → AreOrdered others → AreAmong failures others → AreAmong others failures → failures ≡ others
AreOrdered-unique [] [] ordered other among back = refl
AreOrdered-unique [] (g ∷ gs) ordered other among back = absurd (Contains-nil g (back g (Contains-cons_head g gs)))
AreOrdered-unique (f ∷ fs) [] ordered other among back = absurd (Contains-nil f (among f (Contains-cons_head f fs)))
AreOrdered-unique (f ∷ fs) (g ∷ gs) ordered other among back =
    let same : f ≡ g = same_first f fs g gs ordered other among back in
    let further : fs ≡ gs =
    AreOrdered-unique fs gs ordered.1 other.1 (others_among f fs g gs same ordered among) (others_among g gs f fs (sym same) other back) in
    ap₂ ◌∷◌ same further

-- Failures that stand between two tokens

-- each token is this one or one behind it
abbrev pub StandFrom : ℕ → List Failure → Type 0
StandFrom low failures = All (λ failure. low ≤ failure.token) failures

-- each token is one before this
abbrev pub StandBelow : ℕ → List Failure → Type 0
StandBelow high failures = All (λ failure. failure.token < high) failures

-- Failures in order, from the one token on and before the other.
pub record StandIn (low high : ℕ) (failures : List Failure) : Type 0 where
  pub ordered : AreOrdered failures
  pub from : StandFrom low failures
  pub below : StandBelow high failures

-- ordered lists join where the one stands before the other
pub AreOrdered-append :
    (middle : ℕ) (failures others : List Failure) → AreOrdered failures → AreOrdered others → StandBelow middle failures → StandFrom middle others →
    AreOrdered (failures ++ others)
AreOrdered-append middle [] others ordered other below from = other
AreOrdered-append middle (f ∷ fs) others ordered other below from = (
  All-append (IsBefore f) fs others ordered.0 (All-weaker (λ g. middle ≤ g.token) (IsBefore f) (λ g h. inl (before g h)) others from),
  AreOrdered-append middle fs others ordered.1 other (All-tail (λ g. g.token < middle) f fs below) from,
)
  where
    before : (g : Failure) → middle ≤ g.token → f.token < g.token
    before g h = lt_of_lt_of_le (All-head (λ x. x.token < middle) f fs below) h

-- no failures stand between any two tokens
pub StandIn-nil : (low high : ℕ) → StandIn low high []
StandIn-nil low high = record { ordered = tt; from = All-nil (λ failure. low ≤ failure.token); below = All-nil (λ failure. failure.token < high) }

-- what stands between two tokens stands between any two further apart
pub StandIn-wider :
    (low high lower higher : ℕ) (failures : List Failure) → lower ≤ low → high ≤ higher → StandIn low high failures → StandIn lower higher failures
StandIn-wider low high lower higher failures l m h = record {
  ordered = h.ordered;
  from = All-weaker (λ failure. low ≤ failure.token) (λ failure. lower ≤ failure.token) (λ failure k. omega arith) failures h.from;
  below = All-weaker (λ failure. failure.token < high) (λ failure. failure.token < higher) (λ failure k. omega arith) failures h.below;
}

-- failures between two tokens, then failures from the second on
pub StandIn-append :
    (low middle high : ℕ) (failures others : List Failure) → low ≤ middle → middle ≤ high → StandIn low middle failures → StandIn middle high others →
    StandIn low high (failures ++ others)
StandIn-append low middle high failures others l m h k =
    let wide : StandIn low high failures = StandIn-wider low middle low high failures (omega arith) m h in
    let further : StandIn low high others = StandIn-wider middle high low high others l (omega arith) k in
    record {
      ordered = AreOrdered-append middle failures others h.ordered k.ordered h.below k.from;
      from = All-append (λ failure. low ≤ failure.token) failures others wide.from further.from;
      below = All-append (λ failure. failure.token < high) failures others wide.below further.below;
    }

-- the same where the tokens are those of texts and of the texts behind them
pub StandIn-append_texts :
    (first : ℕ) (texts further : List (List ℕ)) (failures others : List Failure) →
    StandIn first (first + length texts) failures → StandIn (first + length texts) (first + length texts + length further) others →
    StandIn first (first + length (texts ++ further)) (failures ++ others)
StandIn-append_texts first texts further failures others h k =
    let total : length (texts ++ further) ≡ length texts + length further = length-append texts further in
    StandIn-append first (first + length texts) (first + length (texts ++ further)) failures others (omega arith) (omega (arith, total)) h
    (StandIn-wider (first + length texts) (first + length texts + length further) (first + length texts) (first + length (texts ++ further)) others
    (omega arith) (omega (arith, total)) k)

-- one failure, where a test passes, is in order
AreOrdered-if : (test : Bool) (failure : Failure) → AreOrdered (if test then failure ∷ [] else [])
AreOrdered-if true failure = (All-nil (IsBefore failure), tt)
AreOrdered-if false failure = tt

-- and stands around its token
pub StandIn-if :
    (test : Bool) (low high : ℕ) (failure : Failure) → low ≤ failure.token → failure.token < high →
    StandIn low high (if test then failure ∷ [] else [])
StandIn-if test low high failure l h = record {
  ordered = AreOrdered-if test failure;
  from = All-if (λ f. low ≤ f.token) test failure (λ passes. l);
  below = All-if (λ f. f.token < high) test failure (λ passes. h);
}
