-- A unit of which nothing is refused has one listing, with what fails on its control paths.
use Rattle.std.proofs.Common.{◌≡◌, ℕ, zero, suc, Bool, true, false, ◌||◌, List, [], ◌∷◌, ◌++◌, refl, sym, ap, subst, ◌∙◌, append-nil}
use Rattle.meaning_operands.specs.Failures.{Failure}
use Rattle.meaning_warnings.specs.Listing.{AreOrdered, first_like}
use Rattle.meaning_warnings.proofs.Listings.{in_order, lists, unique}
use Rattle.meaning_typing.specs.Rows.{Row}
use Rattle.meaning_typing.specs.Surroundings.{Surrounding}
use Rattle.meaning_typing.specs.Units.{UnitNodes, kind_at}
use Rattle.meaning_units.specs.WholeRows.{AreRows, facts_of}
use Rattle.meaning_units.proofs.RowLemmas.{rows_are_unique}
use Rattle.meaning_contexts.specs.Failures.{AreContextFailures}
use Rattle.meaning_contexts.specs.Laws.{IsWithoutContexts}
use Rattle.meaning_contexts.specs.Units.{judged_of}
use Rattle.meaning_contexts.proofs.FailureLemmas.{failures_are_unique, failures_exist}
use Rattle.meaning_contexts.proofs.WithoutContexts.{nothing_fails}
use Rattle.meaning_answer.specs.Units.{IsWholeListing}
use Rattle.meaning_answer.specs.plain.Replying.{has_context, is_context}

-- a unit without contexts, node by node

none-of-both : (one other : Bool) → one || other ≡ false → (one ≡ false) × (other ≡ false)
none-of-both false other none = (refl, none)
none-of-both true other none = absurd (cc none)

no-context-at : (nodes : UnitNodes) (handle : ℕ) → has_context nodes ≡ false → is_context (kind_at nodes handle) ≡ false
no-context-at [] handle none = refl
no-context-at (node ∷ nodes) zero none = (none-of-both (is_context node.kind) (has_context nodes) none).0
no-context-at (node ∷ nodes) (suc handle) none = no-context-at nodes handle (none-of-both (is_context node.kind) (has_context nodes) none).1

without-contexts : (nodes : UnitNodes) → has_context nodes ≡ false → IsWithoutContexts nodes
without-contexts nodes none handle =
    let other = no-context-at nodes handle none in
    (λ is. let test = ap is_context is in cc (test, other), λ is. let test = ap is_context is in cc (test, other))

-- Its listing

module _ (nodes : UnitNodes) (surroundings : List Surrounding) (listing : List Failure) where
  -- these fail on the paths of nodes with these rows
  abbrev FailWith : List Row → List Failure → Type 0
  FailWith rows failures = AreContextFailures (judged_of nodes surroundings (facts_of rows)) failures

  pub whole_exists : (rows : List Row) → AreRows nodes surroundings rows → (whole : List Failure) × IsWholeListing nodes surroundings listing whole
  whole_exists rows are =
      let paths = failures_exist (judged_of nodes surroundings (facts_of rows)) in
      (in_order (listing ++ paths.0), (paths.0, (rows, are, paths.1), lists (listing ++ paths.0)))

  pub whole_is_unique : (whole other : List Failure) → IsWholeListing nodes surroundings listing whole
      → IsWholeListing nodes surroundings listing other → whole ≡ other
  whole_is_unique whole other (paths, (rows, are, fail), is) (others, (more, also, also_fail), also_is) =
      let same_rows = rows_are_unique nodes surroundings more rows also are in
      let same = failures_are_unique (judged_of nodes surroundings (facts_of rows)) paths others fail
      (subst (λ (these : List Row). FailWith these others) same_rows also_fail) in
      unique whole other is.ordered also_is.ordered
      (λ failure. is.same failure ∙ ap (λ (these : List Failure). first_like failure (listing ++ these)) same ∙ sym (also_is.same failure))

  -- without contexts it is the listing itself
  pub whole_without : has_context nodes ≡ false → AreOrdered listing → (rows : List Row) → AreRows nodes surroundings rows
      → IsWholeListing nodes surroundings listing listing
  whole_without none ordered rows are = (
    [],
    (rows, are, nothing_fails nodes surroundings (facts_of rows) (without-contexts nodes none)),
    record { ordered = ordered; same = λ failure. ap (first_like failure) (sym (append-nil listing)) },
  )
