-- What stands at the rows of the first nodes stays where one row more joins them.
use Rattle.std.proofs.Common.{◌≡◌, ℕ, zero, suc, ◌<◌, ◌++◌, [], ◌∷◌, List, length, refl, sym, ap, ap₂, subst, ◌∙◌, arith}
use Rattle.std.proofs.lemmas.List.{map-append}
use Rattle.meaning_rules.specs.Rules.{gathered}
use Rattle.meaning_typing.specs.Facts.{Fact}
use Rattle.meaning_typing.specs.Rows.{Row}
use Rattle.meaning_typing.specs.Surroundings.{Surrounding, surrounding_at}
use Rattle.meaning_typing.specs.Typing.{access_failures, token_at}
use Rattle.meaning_typing.specs.Units.{UnitNodes}
use Rattle.meaning_units.specs.WholeRows.{broken_at, facts_of, failures_at, passed_at, row_at}
use Rattle.node_judge.specs.declared.known.Known.{Known}
use Rattle.node_judge.specs.Known.{IsKnownOf, facts_seen}
use Rattle.type_judge.specs.Rows.{accessed}

-- Lists of what nodes have

gathered_same : {A : Type 0} (one other : ℕ → List A) (count : ℕ) → ((handle : ℕ) → handle < count → one handle ≡ other handle)
    → gathered one count ≡ gathered other count
gathered_same one other zero same = refl
gathered_same one other (suc count) same =
    ap₂ (λ front back. front ++ back) (gathered_same one other count (λ handle within. same handle (omega (arith, within)))) (same count (omega arith))

-- Rows

row_stays : (rows more : List Row) (handle : ℕ) → handle < length rows → row_at (rows ++ more) handle ≡ row_at rows handle
row_stays [] more handle within = absurd (omega (arith, within))
row_stays (row ∷ rows) more zero within = refl
row_stays (row ∷ rows) more (suc handle) within = row_stays rows more handle (omega (arith, within))

row_last : (rows : List Row) (row : Row) → row_at (rows ++ row ∷ []) (length rows) ≡ row
row_last [] row = refl
row_last (first ∷ rows) row = row_last rows row

pub facts_more : (rows : List Row) (row : Row) → facts_of (rows ++ row ∷ []) ≡ facts_of rows ++ row.fact ∷ []
facts_more rows row = map-append (λ (r : Row). r.fact) rows (row ∷ [])

-- what is found at one row more, by what is asked of a row
module _ {A : Type 0} (ask : ℕ → Row → List A) (rows : List Row) (row : Row) where
  asked_more : (count : ℕ) → length rows ≡ count
      → gathered (λ handle. ask handle (row_at (rows ++ row ∷ []) handle)) (suc count) ≡ gathered (λ handle. ask handle (row_at rows handle)) count ++ ask count row
  asked_more count all =
      ap₂ (λ front back. front ++ back)
      (gathered_same (λ handle. ask handle (row_at (rows ++ row ∷ []) handle)) (λ handle. ask handle (row_at rows handle)) count
      (λ handle within. ap (ask handle) (row_stays rows (row ∷ []) handle (omega (arith, within, all)))))
      (ap (λ n. ask count (row_at (rows ++ row ∷ []) n)) (sym all) ∙ ap (ask count) (row_last rows row))

module _ (nodes : UnitNodes) (surroundings : List Surrounding) (rows : List Row) (row : Row) (count : ℕ) (all : length rows ≡ count) where
  pub failures_more : gathered (failures_at nodes surroundings (rows ++ row ∷ [])) (suc count)
      ≡ gathered (failures_at nodes surroundings rows) count ++ (accessed nodes surroundings count row).failures
  failures_more =
      asked_more (λ handle r. r.failures ++ access_failures (token_at nodes handle) (surrounding_at surroundings handle) r.fact) rows row count all

  pub broken_more : gathered (broken_at (rows ++ row ∷ [])) (suc count) ≡ gathered (broken_at rows) count ++ row.broken
  broken_more = asked_more (λ handle r. r.broken) rows row count all

  pub passed_more : gathered (passed_at (rows ++ row ∷ [])) (suc count) ≡ gathered (passed_at rows) count ++ row.passed
  passed_more = asked_more (λ handle r. r.passed) rows row count all

-- What is known

-- is known of its own facts
pub known_itself : (nodes : UnitNodes) (surroundings : List Surrounding) (count : ℕ) {seen : List Fact} (known : Known)
    → IsKnownOf nodes surroundings count seen known → IsKnownOf nodes surroundings count (facts_seen known) known
known_itself nodes surroundings count known is = subst (λ (facts : List Fact). IsKnownOf nodes surroundings count facts known) (sym is.facts) is
