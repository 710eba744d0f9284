-- A `goto` has one label where no label is defined twice.
use Rattle.std.proofs.Common.{◌≡◌, ℕ, zero, suc, ◌<◌, ◌⊎◌, inl, inr, if◌then◌else◌, Bool, true, false, ◌&&◌, nat_eq, List, [], ◌∷◌, ◌++◌, length, Some, option_map, refl, sym, ap, subst, ◌∙◌, arith}
use Rattle.std.specs.Str.{bytes_eq}
use Rattle.std.proofs.lemmas.Option.{same_Some}
use Rattle.std.proofs.lemmas.Slice.Eq.{bytes_eq-Decides}
use Rattle.std.proofs.lemmas.Bool.Decides.{nat_tests}
use Rattle.meaning_typing.specs.Units.{UnitNodes, node_at}
use Rattle.meaning_typing.specs.Surroundings.{Surrounding}
use Rattle.meaning_statements.specs.Above.{expressions_around, innermost}
use Rattle.meaning_statements.specs.Jumps.{SeenLabel, earlier, first_named, is_named, label_in, labels_at, labels_before}
use Rattle.meaning_typing.specs.Typing.{token_at}
use Rattle.meaning_statements.specs.Statements.{label_row}
use Rattle.meaning_statements.specs.laws.Labels.{DefinesNoLabelTwice, GotosHaveOneLabel, IsLabelOf}

-- Among labels there is a first one of the name

abbrev IsFound : (owner : ℕ) → (name : List ℕ) → List SeenLabel → Type 0
IsFound owner name labels = (found : SeenLabel) × (first_named owner name labels ≡ Some found)

found-by : (owner : ℕ) (name : List ℕ) (label : SeenLabel) (labels : List SeenLabel) (test : Bool) → (test ≡ true) ⊎ IsFound owner name labels
    → (found : SeenLabel) × ((if test then Some (earlier label (first_named owner name labels)) else first_named owner name labels) ≡ Some found)
found-by owner name label labels true is = (earlier label (first_named owner name labels), refl)
found-by owner name label labels false (inl differs) = absurd (cc differs)
found-by owner name label labels false (inr found) = found

found-behind : (owner : ℕ) (name : List ℕ) (front labels : List SeenLabel) → IsFound owner name labels → IsFound owner name (front ++ labels)
found-behind owner name [] labels found = found
found-behind owner name (label ∷ front) labels found =
    found-by owner name label (front ++ labels) (is_named owner name label) (inr (found-behind owner name front labels found))

-- a label is one that is seen
abbrev seen : UnitNodes → List Surrounding → (label owner : ℕ) → SeenLabel
seen nodes surroundings label owner =
    record {
      handle = label;
      token = (node_at nodes label).token;
      name = (node_at nodes label).name;
      owner = owner;
      inside = innermost (expressions_around nodes surroundings label);
    }

seen-at : (nodes : UnitNodes) (surroundings : List Surrounding) (goto label : ℕ) (is : IsLabelOf nodes surroundings goto label)
    → labels_at nodes surroundings label ≡ seen nodes surroundings label is.owner ∷ []
seen-at nodes surroundings goto label is = rw (is.is_label, is.of_label) refl

both-hold : (a b : Bool) → a ≡ true → b ≡ true → (a && b) ≡ true
both-hold true true is also = refl
both-hold true false is also = also
both-hold false b is also = is

same-number : (n : ℕ) → nat_eq n n ≡ true
same-number n = grind (arith, nat_tests)

named-so : (nodes : UnitNodes) (surroundings : List Surrounding) (goto label : ℕ) (is : IsLabelOf nodes surroundings goto label)
    → is_named is.owner (node_at nodes goto).name (seen nodes surroundings label is.owner) ≡ true
named-so nodes surroundings goto label is =
    both-hold (nat_eq is.owner is.owner) (bytes_eq (node_at nodes label).name (node_at nodes goto).name) (same-number is.owner)
    ((bytes_eq-Decides (node_at nodes label).name (node_at nodes goto).name).1 is.named)

last-or-before : (label count : ℕ) → label < suc count → (label ≡ count) ⊎ (label < count)
last-or-before label count below = grind arith

found-before : (nodes : UnitNodes) (surroundings : List Surrounding) (goto label : ℕ) (is : IsLabelOf nodes surroundings goto label)
    → (count : ℕ) → label < count → IsFound is.owner (node_at nodes goto).name (labels_before nodes surroundings count)
found-before nodes surroundings goto label is zero below = absurd (omega (arith, below))
found-before nodes surroundings goto label is (suc count) below =
    elim (last-or-before label count below) [
      | inl last ↦
          subst (λ front. IsFound is.owner (node_at nodes goto).name (front ++ labels_before nodes surroundings count))
          (sym (ap (labels_at nodes surroundings) (sym last) ∙ seen-at nodes surroundings goto label is))
          (found-by is.owner (node_at nodes goto).name (seen nodes surroundings label is.owner) (labels_before nodes surroundings count)
          (is_named is.owner (node_at nodes goto).name (seen nodes surroundings label is.owner)) (inl (named-so nodes surroundings goto label is)))
      | inr before ↦
          found-behind is.owner (node_at nodes goto).name (labels_at nodes surroundings count) (labels_before nodes surroundings count)
          (found-before nodes surroundings goto label is count before)
    ]

-- so a later one is defined twice
one-owner : (nodes : UnitNodes) (surroundings : List Surrounding) (goto label other : ℕ)
    → (is : IsLabelOf nodes surroundings goto label) → (also : IsLabelOf nodes surroundings goto other) → is.owner ≡ also.owner
one-owner nodes surroundings goto label other is also = same_Some is.owner also.owner (sym is.of_goto ∙ also.of_goto)

-- what is said of one behind another
told-twice : (token : ℕ) (name : List ℕ) (labels : List SeenLabel) (owner : ℕ) → IsFound owner name labels
    → (label_row token name (option_map (λ (label : SeenLabel). label.token) (first_named owner name labels))).broken ≡ [] → ⊥
told-twice token name labels owner found none =
    cc (sym (ap (λ first. (label_row token name (option_map (λ (label : SeenLabel). label.token) first)).broken) found.1) ∙ none)

not-before : (nodes : UnitNodes) (surroundings : List Surrounding) → DefinesNoLabelTwice nodes surroundings → (goto label other : ℕ) → other < length nodes
    → (is : IsLabelOf nodes surroundings goto label) → IsLabelOf nodes surroundings goto other → label < other → ⊥
not-before nodes surroundings once goto label other inside is also before =
    told-twice (token_at nodes other) (node_at nodes other).name (labels_before nodes surroundings other) is.owner
    (subst (λ name. IsFound is.owner name (labels_before nodes surroundings other)) (sym also.named) (found-before nodes surroundings goto label is other before))
    (ap (λ owner. (label_row (token_at nodes other) (node_at nodes other).name
    (option_map (λ (label : SeenLabel). label.token) (label_in (labels_before nodes surroundings other) owner (node_at nodes other).name))).broken)
    (ap Some (one-owner nodes surroundings goto label other is also) ∙ sym also.of_label)
    ∙ once other inside also.is_label)

less-or-not : (label other : ℕ) → (label ≡ other) ⊎ ((label < other) ⊎ (other < label))
less-or-not label other = grind arith

pub gotos_have_one_label : GotosHaveOneLabel
gotos_have_one_label nodes surroundings once goto label other within inside is also =
    elim (less-or-not label other) [
      | inl same ↦ same
      | inr (inl before) ↦ absurd (not-before nodes surroundings once goto label other inside is also before)
      | inr (inr behind) ↦ absurd (not-before nodes surroundings once goto other label within also is behind)
    ]
