-- What the parts of a declarator break and pass, one by one.
use Rattle.std.proofs.Common.{◌≡◌, ℕ, List, [], ◌∷◌, ◌++◌, Option, Some, None, refl, sym, ap, ◌∙◌}
use Rattle.meaning_layout.specs.Sizes.{Told}
use Rattle.meaning_operands.specs.Failures.{Broken}
use Rattle.meaning_types.specs.Types.{TypeTree}
use Rattle.meaning_rules.specs.Rules.{least_broken, least_token, lesser}
use Rattle.meaning_typing.specs.DeclarationRows.{large_parts_of, made_by_part, made_by_parts, one_part_broken, parts_broken}
use Rattle.meaning_typing.specs.Facts.{Fact}
use Rattle.meaning_typing.specs.Units.{UnitNodes}
use Rattle.declaration_rows.specs.Parts.{large_at, lowest}
use Rattle.declaration_rows.proofs.LeastLemmas.{least_more, lesser_none, lowest_more, lowest_none}

module _ (told : Told) (nodes : UnitNodes) (facts : List Fact) (token : ℕ) where
  -- where nothing is made, no part behind it says anything
  none-broken : (parts : List ℕ) → parts_broken told nodes facts token parts None ≡ []
  none-broken [] = refl
  none-broken (part ∷ parts) = refl

  none-large : (parts : List ℕ) → large_parts_of told nodes facts token parts None ≡ []
  none-large [] = refl
  none-large (part ∷ parts) = refl

  none-made : (parts : List ℕ) → made_by_parts told nodes facts token parts None ≡ None
  none-made [] = refl
  none-made (part ∷ parts) = refl

  module _ (part : ℕ) (parts : List ℕ) (type_ : TypeTree) (made : Option TypeTree)
      (is : made ≡ made_by_part told nodes facts token part type_) where
    abbrev own_broken : List Broken
    own_broken = one_part_broken told nodes facts token part type_

    -- what it breaks, and those behind it, which makes this
    abbrev broken_from : Option TypeTree → List Broken
    broken_from made = own_broken ++ parts_broken told nodes facts token parts made

    abbrev large_from : Option TypeTree → List ℕ
    large_from made = large_at told nodes part made ++ large_parts_of told nodes facts token parts made

    pub broken_step : (least own : Option Broken) → own ≡ least_broken own_broken
        → lesser (lesser least own) (least_broken (parts_broken told nodes facts token parts made))
        ≡ lesser least (least_broken (parts_broken told nodes facts token (part ∷ parts) (Some type_)))
    broken_step least own own_is =
        ap (λ one. lesser (lesser least one) (least_broken (parts_broken told nodes facts token parts made))) own_is
        ∙ least_more least own_broken (parts_broken told nodes facts token parts made)
        ∙ ap (λ made. lesser least (least_broken (broken_from made))) is

    pub large_step : (least own : Option ℕ) → own ≡ least_token (large_at told nodes part made)
        → lowest (lowest least own) (least_token (large_parts_of told nodes facts token parts made))
        ≡ lowest least (least_token (large_parts_of told nodes facts token (part ∷ parts) (Some type_)))
    large_step least own own_is =
        ap (λ one. lowest (lowest least one) (least_token (large_parts_of told nodes facts token parts made))) own_is
        ∙ lowest_more least (large_at told nodes part made) (large_parts_of told nodes facts token parts made)
        ∙ ap (λ made. lowest least (least_token (large_from made))) is

    -- it makes nothing, so it is the last that says something
    pub made_end : made ≡ None → None ≡ made_by_parts told nodes facts token (part ∷ parts) (Some type_)
    made_end none = sym (none-made parts) ∙ ap (made_by_parts told nodes facts token parts) (sym none ∙ is)

    pub broken_end : (least own : Option Broken) → made ≡ None
        → own ≡ least_broken own_broken
        → lesser least own ≡ lesser least (least_broken (parts_broken told nodes facts token (part ∷ parts) (Some type_)))
    broken_end least own none own_is =
        sym (lesser_none (lesser least own))
        ∙ ap (λ broken. lesser (lesser least own) (least_broken broken)) (sym (none-broken parts))
        ∙ ap (λ made. lesser (lesser least own) (least_broken (parts_broken told nodes facts token parts made))) (sym none)
        ∙ broken_step least own own_is

    pub large_end : (least own : Option ℕ) → made ≡ None → own ≡ least_token (large_at told nodes part made)
        → lowest least own ≡ lowest least (least_token (large_parts_of told nodes facts token (part ∷ parts) (Some type_)))
    large_end least own none own_is =
        sym (lowest_none (lowest least own))
        ∙ ap (λ tokens. lowest (lowest least own) (least_token tokens)) (sym (none-large parts))
        ∙ ap (λ made. lowest (lowest least own) (least_token (large_parts_of told nodes facts token parts made))) (sym none)
        ∙ large_step least own own_is
