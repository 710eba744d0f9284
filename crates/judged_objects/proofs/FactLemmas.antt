-- What is told of facts, where one more is known.
use Rattle.std.proofs.Common.{◌≡◌, ℕ, zero, suc, ◌+◌, ◌<◌, Bool, true, false, ◌&&◌, ◌||◌, nat_eq, List, [], ◌∷◌, ◌++◌, length, get_or, Option, None, if◌then◌else◌, refl, sym, ap, ◌∙◌, arith}
use Rattle.std.specs.Option.{option_or}
use Rattle.std.proofs.lemmas.Bool.{eq-eqb, eqb-false, eqb-true, ne_eqb}
use Rattle.meaning_typing.specs.ContextSums.{LinkedDeclaration, contexts_of, declarations_with, first_contexts, linked_from}
use Rattle.meaning_typing.specs.DeclarationRows.{is_linked_before}
use Rattle.meaning_typing.specs.Facts.{Fact, Unknown, Expression, Specified, Declared, NamedType, fact_at}
use Rattle.meaning_typing.specs.Names.{links_name}
use Rattle.meaning_typing.specs.Surroundings.{Surrounding}
use Rattle.meaning_typing.specs.Units.{UnitNodes}
use Rattle.meaning_objects.specs.Objects.{first_linked, handle_if}
use Rattle.meaning_objects.specs.Carried.{is_linked_noreturn, says_noreturn}
use Rattle.judged_objects.specs.declared.note.ObjectNote.{ObjectNote}
use Rattle.judged_objects.specs.Notes.{no_note, note_and, note_if, note_said, note_told}
use Rattle.judged_objects.specs.Kept.{told_linked}
use Rattle.judged_objects.proofs.NoteLemmas.{and-and, and-none, told-and}

-- The first declaration of a name

module _ (name : List ℕ) where
  first-step : (first : ℕ) (fact : Fact) (facts : List Fact)
      → first_linked name first (fact ∷ facts) ≡ handle_if (is_linked_before name fact) first (first_linked name (first + 1) facts)
  first-step first Unknown facts = refl
  first-step first (Expression expression) facts = refl
  first-step first (Specified specified) facts = refl
  first-step first (Declared declaration) facts = refl
  first-step first (NamedType type_) facts = refl

  pub first-more : (first : ℕ) (facts : List Fact) (fact : Fact)
      → first_linked name first (facts ++ fact ∷ []) ≡ option_or (first_linked name first facts) (handle_if (is_linked_before name fact) (first + length facts) None)
  first-more first [] fact =
      let same : first ≡ first + 0 = omega arith in
      first-step first fact [] ∙ ap (λ handle. handle_if (is_linked_before name fact) handle None) same
  first-more first (other ∷ facts) fact =
      first-step first other (facts ++ fact ∷ [])
      ∙ by (is_linked_before name other) (first-more (first + 1) facts fact)
      ∙ ap (λ found. option_or found last) (sym (first-step first other facts))
    where
      last : Option ℕ
      last = handle_if (is_linked_before name fact) (first + suc (length facts)) None

      by : (test : Bool)
          → first_linked name (first + 1) (facts ++ fact ∷ [])
          ≡ option_or (first_linked name (first + 1) facts) (handle_if (is_linked_before name fact) (first + 1 + length facts) None)
          → handle_if test first (first_linked name (first + 1) (facts ++ fact ∷ [])) ≡ option_or (handle_if test first (first_linked name (first + 1) facts)) last
      by true later = refl
      by false later =
          let same : first + 1 + length facts ≡ first + suc (length facts) = omega arith in
          later ∙ ap (λ handle. option_or (first_linked name (first + 1) facts) (handle_if (is_linked_before name fact) handle None)) same

-- What the declarations of a name come to

module _ (nodes : UnitNodes) (name : List ℕ) where
  by-test : (test : Bool) (declaration : LinkedDeclaration) (others : List LinkedDeclaration) (says more : Bool)
      → note_told (first_contexts (declarations_with test declaration others)) ((test && says) || more)
      ≡ note_and (note_if test (note_told declaration.contexts says)) (note_told (first_contexts others) more)
  by-test true declaration others says more = told-and declaration.contexts (first_contexts others) says more
  by-test false declaration others says more = refl

  told-step : (first : ℕ) (surrounding : Surrounding) (surroundings : List Surrounding) (fact : Fact) (facts : List Fact)
      → told_linked nodes name first (surrounding ∷ surroundings) (fact ∷ facts)
      ≡ note_and (note_if (is_linked_before name fact) (note_said nodes first surrounding)) (told_linked nodes name (first + 1) surroundings facts)
  told-step first surrounding surroundings Unknown facts = refl
  told-step first surrounding surroundings (Expression expression) facts = refl
  told-step first surrounding surroundings (Specified specified) facts = refl
  told-step first surrounding surroundings (Declared declaration) facts =
      by-test (links_name name declaration) (record { type_ = declaration.type_; contexts = contexts_of nodes first surrounding })
      (linked_from nodes name (first + 1) surroundings facts) (says_noreturn nodes first surrounding) (is_linked_noreturn nodes name (first + 1) surroundings facts)
  told-step first surrounding surroundings (NamedType type_) facts = refl

  told-none : (first : ℕ) (surroundings : List Surrounding) → told_linked nodes name first surroundings [] ≡ no_note
  told-none first [] = refl
  told-none first (surrounding ∷ surroundings) = refl

  pub told-more : (first : ℕ) (surroundings : List Surrounding) (facts : List Fact) (fact : Fact) (otherwise : Surrounding) → length facts < length surroundings
      → told_linked nodes name first surroundings (facts ++ fact ∷ [])
      ≡ note_and (told_linked nodes name first surroundings facts)
      (note_if (is_linked_before name fact) (note_said nodes (first + length facts) (get_or surroundings (length facts) otherwise)))
  told-more first [] facts fact otherwise within = absurd (omega (arith, within))
  told-more first (surrounding ∷ surroundings) [] fact otherwise within =
      let same : first ≡ first + 0 = omega arith in
      told-step first surrounding surroundings fact []
      ∙ ap (note_and (note_if (is_linked_before name fact) (note_said nodes first surrounding))) (told-none (first + 1) surroundings)
      ∙ and-none (note_if (is_linked_before name fact) (note_said nodes first surrounding))
      ∙ ap (λ handle. note_if (is_linked_before name fact) (note_said nodes handle surrounding)) same
  told-more first (surrounding ∷ surroundings) (other ∷ facts) fact otherwise within =
      let next : first + 1 + length facts ≡ first + suc (length facts) = omega arith in
      let one = note_if (is_linked_before name other) (note_said nodes first surrounding) in
      let rest = told_linked nodes name (first + 1) surroundings facts in
      let last : ℕ → ObjectNote = λ handle. note_if (is_linked_before name fact) (note_said nodes handle (get_or surroundings (length facts) otherwise)) in
      told-step first surrounding surroundings other (facts ++ fact ∷ [])
      ∙ ap (note_and one) (told-more (first + 1) surroundings facts fact otherwise (omega (arith, within)))
      ∙ sym (and-and one rest (last (first + 1 + length facts)))
      ∙ (λ i. note_and (sym (told-step first surrounding surroundings other facts) i) (last (next i)))

-- The fact of a handle

eq-suc : (one other : ℕ) → nat_eq one other ≡ nat_eq (suc one) (suc other)
eq-suc one other = by (nat_eq one other) refl
  where
    by : (test : Bool) → nat_eq one other ≡ test → test ≡ nat_eq (suc one) (suc other)
    by true same = sym (eq-eqb (suc one) (suc other) (ap suc (eqb-true one other same)))
    by false apart = sym (ne_eqb (suc one) (suc other) (λ same. eqb-false one other apart (omega (arith, same))))

pub fact-more : (facts : List Fact) (fact : Fact) (handle : ℕ) → fact_at (facts ++ fact ∷ []) handle ≡ (if nat_eq (length facts) handle then fact else fact_at facts handle)
fact-more [] fact zero = refl
fact-more [] fact (suc handle) = ap (λ test. if test then fact else Unknown) (sym (ne_eqb 0 (suc handle) (λ same. omega (arith, same))))
fact-more (other ∷ facts) fact zero = ap (λ test. if test then fact else other) (sym (ne_eqb (suc (length facts)) 0 (λ same. omega (arith, same))))
fact-more (other ∷ facts) fact (suc handle) =
    fact-more facts fact handle ∙ ap (λ test. if test then fact else fact_at facts handle) (eq-suc (length facts) handle)

-- nothing is known behind the last one
pub fact-behind : (facts : List Fact) → fact_at facts (length facts) ≡ Unknown
fact-behind [] = refl
fact-behind (fact ∷ facts) = fact-behind facts
