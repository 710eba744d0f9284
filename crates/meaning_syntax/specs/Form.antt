-- The first form: a derivation of the tokens, with its conditions.
use Rattle.std.specs.Prelude.{◌≡◌, ℕ, true, List, []}
use Rattle.std.specs.List.{flat_map, list_all}
use Rattle.meaning_syntax.specs.Items.{Item, item_spelled, item_fits}
use Rattle.meaning_syntax.specs.Binding.{are_bound}

-- The tokens with these spellings are these items.
pub record IsSpelled (texts : List (List ℕ)) (items : List Item) : Type 0 where
  pub spelled : texts ≡ flat_map item_spelled items
  pub fits : list_all item_fits items ≡ true

-- and each name is declared once, before it is used
pub record IsUnit (texts : List (List ℕ)) (items : List Item) : Type 0 where
  pub is_spelled : IsSpelled texts items
  pub bound : are_bound [] items ≡ true
