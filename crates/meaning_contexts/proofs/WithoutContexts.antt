-- Where no attribute says a context and no statement changes a count, nothing fails on paths.
use Rattle.std.proofs.Common.{◌≡◌, ◌≢◌, ℕ, zero, suc, ◌+◌, pos, Bool, true, false, List, [], ◌∷◌, Option, Some, None, length, refl, sym, ap, subst, ◌∙◌, if◌then◌else◌}
use Rattle.vocabulary.specs.declared.node_kind.NodeKind.{NodeKind}
use Rattle.vocabulary.specs.declared.node_kind.NodeKind.TheVariants as kinds
use Rattle.meaning_paths.specs.ContextRules.{Balanced, IsAnswer}
use Rattle.meaning_typing.specs.ContextSums.{LinkedDeclaration, attributes_of_declarator, contexts_of, declarations_with, first_contexts, linked_from, option_sums, sums_among, sums_before}
use Rattle.meaning_typing.specs.Declarators.{is_declarator}
use Rattle.meaning_typing.specs.Facts.{Fact, Declared, fact_at}
use Rattle.meaning_typing.specs.Names.{links_name}
use Rattle.meaning_typing.specs.Surroundings.{Surrounding, surrounding_at}
use Rattle.meaning_typing.specs.Units.{UnitNodes, kind_at, child_at}
use Rattle.meaning_objects.specs.Carried.{contexts_of_object, contexts_declared, own_contexts}
use Rattle.meaning_control.specs.Functions.{IsPathOfFunction, closing_brace, body_of}
use Rattle.meaning_control.specs.Nodes.{control_at, controls_of, passed_of}
use Rattle.meaning_control.specs.laws.Changes.{NamesNone, NodeKeepsCounts, AreAmong, AreWithoutContexts}
use Rattle.meaning_control.proofs.Changes.{balanced}
use Rattle.meaning_control.proofs.Contexts.{function_without}
use Rattle.meaning_control.proofs.Unchanged.{path_unchanged}
use Rattle.meaning_contexts.specs.Failures.{AreFailuresBefore, AreFailuresByKind, IsFunctionAnswer, sums_or_none, declarator_of}
use Rattle.meaning_contexts.specs.Laws.{IsWithoutContexts, UnitsWithoutContextsFailNowhere}
use Rattle.meaning_contexts.specs.Units.{judged_of}

-- Declarations carry none

no-sums-before : (nodes : UnitNodes) (kind : NodeKind) (handle : ℕ) → kind ≢ kinds.ContextAttribute → sums_before nodes kind handle None ≡ None
no-sums-before nodes kinds.ContextAttribute handle other = absurd (other refl)
no-sums-before nodes kind handle other = refl

either : {X : Type 0} (test : Bool) (one other x : X) → one ≡ x → other ≡ x → (if test then one else other) ≡ x
either true one other x is also = is
either false one other x is also = also

module _ (nodes : UnitNodes) (without : IsWithoutContexts nodes) where
  no-sums-among : (attributes : List ℕ) → sums_among nodes attributes ≡ None
  no-sums-among [] = refl
  no-sums-among (handle ∷ handles) =
      ap (sums_before nodes (kind_at nodes handle) handle) (no-sums-among handles) ∙ no-sums-before nodes (kind_at nodes handle) handle (without handle).0

  no-contexts : (declarator : ℕ) (surrounding : Surrounding) → contexts_of nodes declarator surrounding ≡ None
  no-contexts declarator surrounding =
      either (is_declarator (kind_at nodes declarator)) (sums_among nodes (attributes_of_declarator nodes declarator surrounding)) None None
      (no-sums-among (attributes_of_declarator nodes declarator surrounding)) refl

  first-of-more : (test : Bool) (declaration : LinkedDeclaration) (others : List LinkedDeclaration) → declaration.contexts ≡ None → first_contexts others ≡ None
      → first_contexts (declarations_with test declaration others) ≡ None
  first-of-more true declaration others none before = ap (λ contexts. option_sums contexts (first_contexts others)) none ∙ before
  first-of-more false declaration others none before = before

  no-first : (name : List ℕ) (first : ℕ) (surroundings : List Surrounding) (facts : List Fact) → first_contexts (linked_from nodes name first surroundings facts) ≡ None
  no-first name first [] facts = refl
  no-first name first (surrounding ∷ surroundings) [] = refl
  no-first name first (surrounding ∷ surroundings) (Declared declaration ∷ facts) =
      first-of-more (links_name name declaration) (record { type_ = declaration.type_; contexts = contexts_of nodes first surrounding })
      (linked_from nodes name (first + 1) surroundings facts) (no-contexts first surrounding) (no-first name (first + 1) surroundings facts)
  no-first name first (surrounding ∷ surroundings) (fact ∷ facts) = no-first name (first + 1) surroundings facts

  module _ (surroundings : List Surrounding) (facts : List Fact) where
    none-declared : (declarator : ℕ) (fact : Fact) → contexts_declared nodes surroundings facts declarator fact ≡ None
    none-declared declarator (Declared declaration) =
        either declaration.has_linkage (first_contexts (linked_from nodes declaration.name 0 surroundings facts))
        (own_contexts nodes surroundings declarator declaration) None (no-first declaration.name 0 surroundings facts)
        (either declaration.is_typedef None (contexts_of nodes declarator (surrounding_at surroundings declarator)) None refl
        (no-contexts declarator (surrounding_at surroundings declarator)))
    none-declared declarator fact = refl

    pub objects-carry-none : (object : ℕ) → contexts_of_object nodes surroundings facts object ≡ None
    objects-carry-none object = none-declared object (fact_at facts object)

    -- Nothing changes a count

    names-none : (names : Option ℕ) → NamesNone (judged_of nodes surroundings facts) names
    names-none None = tt
    names-none (Some function) = objects-carry-none function

    keeps : (handle : ℕ) (kind : NodeKind) → kind ≢ kinds.ContextStatement → NodeKeepsCounts (judged_of nodes surroundings facts) handle kind
    keeps handle kinds.ContextStatement other = absurd (other refl)
    keeps handle kinds.Call other = names-none (control_at (controls_of (judged_of nodes surroundings facts) handle) (child_at nodes handle 0)).names
    keeps handle kind other = tt

    all-among : (handles : List ℕ) → AreAmong (λ handle. true) handles
    all-among [] = tt
    all-among (handle ∷ handles) = (refl, all-among handles)

    all-without : AreWithoutContexts (judged_of nodes surroundings facts) (λ handle. true)
    all-without =
        record {
          keep = λ handle is. keeps handle (kind_at nodes handle) (without handle).1;
          parts = λ handle is. all-among (passed_of (judged_of nodes surroundings facts) handle (kind_at nodes handle));
        }

    -- Each function is balanced

    answered : (function : ℕ) → IsFunctionAnswer (judged_of nodes surroundings facts) function Balanced
    answered function =
        subst (λ contexts. IsAnswer (IsPathOfFunction (judged_of nodes surroundings facts) function) 0 (pos (sums_or_none contexts).enters) (pos (sums_or_none contexts).leaves) Balanced)
        (sym (objects-carry-none (declarator_of nodes function)))
        (balanced (IsPathOfFunction (judged_of nodes surroundings facts) function)
        (path_unchanged (closing_brace (judged_of nodes surroundings facts) function) (body_of (judged_of nodes surroundings facts) function)
        (function_without (judged_of nodes surroundings facts) (λ handle. true) all-without function refl))
        0 (pos 0))

    by-kind : (handle : ℕ) (kind : NodeKind) → AreFailuresByKind (judged_of nodes surroundings facts) handle kind []
    by-kind handle kinds.FunctionDefinition = (Balanced, answered handle, refl)
    by-kind handle kind = refl

    before : (count : ℕ) → AreFailuresBefore (judged_of nodes surroundings facts) count []
    before zero = refl
    before (suc count) = ([], [], before count, by-kind count (kind_at nodes count), refl)

pub nothing_fails : UnitsWithoutContextsFailNowhere
nothing_fails nodes surroundings facts without = before nodes without surroundings facts (length nodes)
