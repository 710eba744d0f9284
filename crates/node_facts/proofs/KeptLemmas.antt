-- The two lists in which what is known of entries is kept.
use Rattle.std.proofs.Common.{◌≡◌, ℕ, zero, suc, ◌+◌, List, [], ◌∷◌, ◌++◌, Option, Some, None, length, map, get_or, slice_get, refl, sym, ap, ◌∙◌, arith, length-append}
use Rattle.std.proofs.lemmas.List.{map-append}
use Rattle.std.proofs.lemmas.Option.{get_or_from_slice_get}
use Rattle.c_types.specs.declared.nodes.NodeType.{NodeType}
use Rattle.node_facts.specs.declared.fact.NodeFact.{NodeFact}
use Rattle.node_facts.specs.declared.fact.NodeFact.TheVariants as facts
use Rattle.node_facts.specs.declared.marks.NodeMark.{NodeMark}
use Rattle.node_facts.specs.declared.marks.NodeMark.TheVariants as marks
use Rattle.node_facts.specs.Kept.{AreKept, fact_kept, facts_kept, mark_kept, node_kept}

-- what was kept of a fact is that fact
pub kept_whole : (fact : NodeFact) → fact_kept (node_kept fact) (mark_kept fact) ≡ fact
kept_whole facts.Unknown = refl
kept_whole (facts.Expression expression) = refl
kept_whole (facts.Specified specifiers) = refl
kept_whole (facts.Declared declaration) = refl
kept_whole (facts.NamedType of) = refl

-- one more
pub kept_behind : (entries : List (Option NodeType)) (kept : List NodeMark) (entry : Option NodeType) (mark : NodeMark) → length entries ≡ length kept
    → facts_kept (entries ++ entry ∷ []) (kept ++ mark ∷ []) ≡ facts_kept entries kept ++ fact_kept entry mark ∷ []
kept_behind [] [] entry mark all = refl
kept_behind [] (other ∷ kept) entry mark all = absurd (omega (arith, all))
kept_behind (other ∷ entries) [] entry mark all = absurd (omega (arith, all))
kept_behind (other ∷ entries) (another ∷ kept) entry mark all = ap (λ l. fact_kept other another ∷ l) (kept_behind entries kept entry mark (omega (arith, all)))

-- the one at a place
pub kept_or : (entries : List (Option NodeType)) (kept : List NodeMark) (index : ℕ) → length entries ≡ length kept
    → get_or (facts_kept entries kept) index facts.Unknown ≡ fact_kept (get_or entries index None) (get_or kept index marks.Unknown)
kept_or [] [] index all = refl
kept_or [] (other ∷ kept) index all = absurd (omega (arith, all))
kept_or (other ∷ entries) [] index all = absurd (omega (arith, all))
kept_or (one ∷ entries) (other ∷ kept) zero all = refl
kept_or (one ∷ entries) (other ∷ kept) (suc index) all = kept_or entries kept index (omega (arith, all))

pub kept_read : (entries : List (Option NodeType)) (kept : List NodeMark) (index : ℕ) (entry : Option NodeType) (mark : NodeMark)
    → length entries ≡ length kept → slice_get entries index ≡ Some entry → slice_get kept index ≡ Some mark
    → get_or (facts_kept entries kept) index facts.Unknown ≡ fact_kept entry mark
kept_read entries kept index entry mark all is same =
    kept_or entries kept index all
    ∙ (λ i. fact_kept (get_or_from_slice_get entries index entry None is i) (get_or_from_slice_get kept index mark marks.Unknown same i))

module _ (entries : List (Option NodeType)) (kept : List NodeMark) (fact : NodeFact) (are_kept : AreKept entries kept) where
  -- a fact that joins them is seen behind the others
  pub pushed_view : facts_kept (entries ++ node_kept fact ∷ []) (kept ++ mark_kept fact ∷ []) ≡ facts_kept entries kept ++ fact ∷ []
  pushed_view =
      kept_behind entries kept (node_kept fact) (mark_kept fact) are_kept.all ∙ ap (λ f. facts_kept entries kept ++ f ∷ []) (kept_whole fact)

  pub pushed : AreKept (entries ++ node_kept fact ∷ []) (kept ++ mark_kept fact ∷ [])
  pushed =
      record {
        all = length-append entries (node_kept fact ∷ []) ∙ ap (λ n. n + 1) are_kept.all ∙ sym (length-append kept (mark_kept fact ∷ []));
        each =
            ap (map node_kept) pushed_view
            ∙ map-append node_kept (facts_kept entries kept) (fact ∷ [])
            ∙ ap (λ l. l ++ node_kept fact ∷ []) are_kept.each;
      }
