-- Whether `packed` stands in lists that stand one behind the other.
use Rattle.std.proofs.Common.{◌≡◌, ℕ, ◌+◌, true, ◌||◌, List, Some, slice_get, sym, ap, ◌∙◌}
use Rattle.std.proofs.lemmas.List.Folds.{list_any-append}
use Rattle.meaning_typing.specs.MemberDeclarations.{is_packed_word}
use Rattle.meaning_typing.specs.Specifiers.{attributes_among, attributes_of}
use Rattle.meaning_typing.specs.Units.{UnitNodes, children_at, kind_at}
use Rattle.decl_judge.specs.Seen.{is_list, lists_from}
use Rattle.decl_judge.proofs.MarkLemmas.{from_list}
use Rattle.body_members.specs.Seen.{are_packed}

module _ (nodes : UnitNodes) where
  -- one list, and those behind it
  pub packed_from : (children : List (ℕ × ℕ)) (place : ℕ) (entry : ℕ × ℕ) (attributes : List ℕ) → slice_get children place ≡ Some entry
      → is_list (kind_at nodes entry.0) ≡ true → attributes ≡ attributes_of (kind_at nodes entry.0) (children_at nodes entry.0)
      → are_packed nodes (attributes_among nodes (lists_from nodes children place))
      ≡ are_packed nodes attributes || are_packed nodes (attributes_among nodes (lists_from nodes children (place + 1)))
  packed_from children place entry attributes found is same =
      ap (λ lists. are_packed nodes (attributes_among nodes lists)) (from_list nodes children place entry found is)
      ∙ list_any-append (λ handle. is_packed_word (kind_at nodes handle)) (attributes_of (kind_at nodes entry.0) (children_at nodes entry.0)) (attributes_among nodes (lists_from nodes children (place + 1)))
      ∙ ap (λ first. are_packed nodes first || are_packed nodes (attributes_among nodes (lists_from nodes children (place + 1)))) (sym same)
