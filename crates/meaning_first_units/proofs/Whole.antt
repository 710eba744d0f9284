-- Units of the first form: where no rule fails by the rules of all units, none does by those of the form.
use Rattle.std.proofs.Common.{◌≡◌, ℕ, suc, ◌+◌, ◌-◌, inl, inr, true, ◌&&◌, List, [], ◌∷◌, ◌++◌, length, All, Contains, flat_map, Some, slice_get, refl, sym, ap, subst, ◌∙◌, append_assoc}
use Rattle.std.proofs.lemmas.Bool.{both_ways}
use Rattle.std.proofs.lemmas.List.Elements.{All-nil, All-cons, All-append, All-contains, All-head, All-tail, All-weaker, Contains-append_left}
use Rattle.std.proofs.lemmas.Option.{get_or_from_slice_get}
use Rattle.vocabulary.specs.declared.node_kind.NodeKind.TheVariants as kinds
use Rattle.vocabulary.specs.declared.role.Role.TheVariants.{Evaluated}
use Rattle.vocabulary.specs.Roles.{role_of}
use Rattle.meaning_types.specs.Types.{flags_of, has_flag}
use Rattle.meaning_tree.specs.Trees.{parts_of}
use Rattle.meaning_syntax.specs.Items.{Statement, Item, Object, Function, item_spelled, statement_spelled}
use Rattle.meaning_syntax.specs.Binding.{item_statements}
use Rattle.meaning_syntax.specs.Trees.{item_tree, item_trees, statement_trees, unit_tree}
use Rattle.meaning_first_rules.specs.Evaluation.{accesses_in, conversions_in}
use Rattle.meaning_first_rules.specs.Failures.{Failure, Fails}
use Rattle.meaning_first_rules.specs.Placed.{Placed, placed_accesses, placed_behind, placed_body, placed_conversions, placed_in, tokens_before_body}
use Rattle.meaning_first_rules.proofs.Trees.{accesses_in-unit_tree, conversions_in-unit_tree}
use Rattle.meaning_typing.specs.Building.{surroundings_of}
use Rattle.meaning_typing.specs.Facts.{Fact}
use Rattle.meaning_typing.specs.Surroundings.{Surrounding, AreSurroundings, evaluates, of_unit, surrounding_at}
use Rattle.meaning_typing.specs.Units.{UnitNodes, node_at}
use Rattle.meaning_typing.specs.WholeTyping.{whole_facts_of}
use Rattle.meaning_typing.specs.laws.Surroundings.{IsLaidUnit}
use Rattle.meaning_typing.proofs.Surroundings.{surroundings_are_found}
use Rattle.meaning_judgements.specs.WholeFacts.{AreWholeFacts}
use Rattle.meaning_judgements.proofs.FactLemmas.{whole_facts_are_found}
use Rattle.meaning_first_units.specs.Laws.{IsSilent, SilenceIsHandedOver}
use Rattle.meaning_first_units.specs.Units.{IsFirstFormUnit, Renaming}
use Rattle.meaning_first_units.proofs.Declared.{function-shape}
use Rattle.meaning_first_units.proofs.Named.{around-is, root, some-nodes}
use Rattle.meaning_first_units.proofs.Standing.{Make, Makes, node-of}
use Rattle.meaning_first_units.proofs.Statements.{QuietAccess, QuietConversion, statement-quiet}

module _ (renaming : Renaming) (nodes : UnitNodes) (items : List Item) (surroundings : List Surrounding) (facts : List Fact) (unit : IsLaidUnit nodes) (form : IsFirstFormUnit renaming nodes items)
    (are : AreSurroundings nodes surroundings) (known : AreWholeFacts nodes surroundings facts) (silent : IsSilent nodes) where
  abbrev IsEvaluated : ℕ → Type 0
  IsEvaluated handle = (surrounding_at surroundings handle).is_evaluated ≡ true

  -- an evaluated part of what is evaluated
  part-evaluated : (parent place : ℕ) (child : ℕ × ℕ) → IsEvaluated parent → slice_get (node_at nodes parent).children place ≡ Some child → Evaluated ≡ role_of child.1 → IsEvaluated child.0
  part-evaluated parent place child evaluated at in_role =
      ap (λ (s : Surrounding). s.is_evaluated) (around-is renaming nodes items surroundings facts unit form are known parent place child at)
      ∙ ap (λ role. (surrounding_at surroundings parent).is_evaluated && evaluates role) (sym in_role)
      ∙ ap (λ b. b && true) evaluated

  -- all that are, of some children
  abbrev AreEvaluated : List (ℕ × ℕ) → Type 0
  AreEvaluated children = (place : ℕ) (child : ℕ × ℕ) → slice_get children place ≡ Some child → Evaluated ≡ role_of child.1 → IsEvaluated child.0

  parts-evaluated : (parent : ℕ) (children : List (ℕ × ℕ)) → IsEvaluated parent → (node_at nodes parent).children ≡ children → AreEvaluated children
  parts-evaluated parent children evaluated are_children place child at in_role =
      part-evaluated parent place child evaluated (ap (λ all. slice_get all place) are_children ∙ at) in_role

  -- Placed statements

  abbrev IsQuietPlaced : Placed → Type 0
  IsQuietPlaced placed = All QuietAccess (placed_accesses placed) × All QuietConversion (placed_conversions placed)

  body-quiet :
      (before : List Item) → ((item : Item) → Contains before item → Contains items item) → (first : ℕ) (statements : List Statement) (children : List (ℕ × ℕ))
      → AreEvaluated children → Make renaming nodes children (parts_of Evaluated (statement_trees first statements)) → All IsQuietPlaced (placed_body before first statements)
  body-quiet before among first [] children evaluated make = All-nil IsQuietPlaced
  body-quiet before among first (statement ∷ statements) [] evaluated make = absurd make
  body-quiet before among first (statement ∷ statements) (child ∷ children) evaluated make =
      All-cons IsQuietPlaced (record { before = before; first = first; statement = statement }) (placed_body before (first + length (statement_spelled statement)) statements)
      (statement-quiet renaming nodes items surroundings facts unit form are known silent before among child.0 first statement make.1 (evaluated 0 child refl make.0))
      (body-quiet before among (first + length (statement_spelled statement)) statements children (λ place. evaluated (suc place)) make.2)

  item-quiet :
      (before : List Item) → ((item : Item) → Contains before item → Contains items item) → (first : ℕ) (item : Item) (handle : ℕ) → IsEvaluated handle
      → Makes renaming nodes handle (item_tree first item) → All IsQuietPlaced (placed_body before (first + tokens_before_body) (item_statements item))
  item-quiet before among first (Object words stars name) handle evaluated makes = All-nil IsQuietPlaced
  item-quiet before among first (Function name statements) handle evaluated makes =
      let shape = function-shape renaming nodes handle first name statements makes in
      let body = part-evaluated handle 2 shape.body evaluated (ap (λ children. slice_get children 2) shape.parts) (sym shape.evaluated) in
      body-quiet before among (first + 6) statements shape.statement_handles (parts-evaluated shape.body.0 shape.statement_handles body shape.statements_are) shape.make

  items-quiet :
      (before behind : List Item) → items ≡ before ++ behind → (first : ℕ) (children : List (ℕ × ℕ)) → AreEvaluated children
      → Make renaming nodes children (parts_of Evaluated (item_trees first behind)) → All IsQuietPlaced (placed_behind before first behind)
  items-quiet before [] all first children evaluated make = All-nil IsQuietPlaced
  items-quiet before (item ∷ behind) all first [] evaluated make = absurd make
  items-quiet before (item ∷ behind) all first (child ∷ children) evaluated make =
      All-append IsQuietPlaced (placed_body before (first + tokens_before_body) (item_statements item)) (placed_behind (before ++ item ∷ []) (first + length (item_spelled item)) behind)
      (item-quiet before (λ other is. subst (λ list. Contains list other) (sym all) (Contains-append_left before (item ∷ behind) other is)) first item child.0
      (evaluated 0 child refl make.0) make.1)
      (items-quiet (before ++ item ∷ []) behind (all ∙ sym (append_assoc before (item ∷ []) behind)) (first + length (item_spelled item)) children
      (λ place. evaluated (suc place)) make.2)

  all-quiet : All IsQuietPlaced (placed_in items)
  all-quiet =
      let last = length nodes - 1 in
      let makes = root renaming nodes items surroundings facts unit form are known in
      let node = node-of renaming nodes last kinds.TranslationUnit 0 [] 0 (parts_of Evaluated (item_trees 0 items)) makes in
      let top = get_or_from_slice_get surroundings last (of_unit last) (of_unit (length surroundings)) (are.unit (some-nodes renaming nodes items surroundings facts unit form are known)) in
      items-quiet [] items refl 0 node.0 (parts-evaluated last node.0 (ap (λ (s : Surrounding). s.is_evaluated) top) node.1.are_children) node.2

-- Lists of placed statements

flat-all : {A B : Type 0} (P : B → Type 0) (f : A → List B) (xs : List A) → All (λ x. All P (f x)) xs → All P (flat_map f xs)
flat-all P f [] all = All-nil P
flat-all P f (x ∷ xs) all = All-append P (f x) (flat_map f xs) (All-head (λ y. All P (f y)) x xs all) (flat-all P f xs (All-tail (λ y. All P (f y)) x xs all))

-- The law

pub silence_is_handed_over : SilenceIsHandedOver
silence_is_handed_over renaming nodes items unit form silent =
    record { sound = All-nil (Fails (unit_tree items)); complete = λ failure fails. absurd (none failure fails); ordered = tt }
  where
    quiet : All (λ placed. All QuietAccess (placed_accesses placed) × All QuietConversion (placed_conversions placed)) (placed_in items)
    quiet =
        all-quiet renaming nodes items (surroundings_of nodes) (whole_facts_of nodes (surroundings_of nodes)) unit form (surroundings_are_found nodes unit)
        (whole_facts_are_found nodes (surroundings_of nodes)) silent

    accesses : All QuietAccess (accesses_in (unit_tree items))
    accesses =
        subst (All QuietAccess) (sym (accesses_in-unit_tree items))
        (flat-all QuietAccess placed_accesses (placed_in items)
        (All-weaker (λ placed. All QuietAccess (placed_accesses placed) × All QuietConversion (placed_conversions placed)) (λ placed. All QuietAccess (placed_accesses placed))
        (λ placed both. both.0) (placed_in items) quiet))

    conversions : All QuietConversion (conversions_in (unit_tree items))
    conversions =
        subst (All QuietConversion) (sym (conversions_in-unit_tree items))
        (flat-all QuietConversion placed_conversions (placed_in items)
        (All-weaker (λ placed. All QuietAccess (placed_accesses placed) × All QuietConversion (placed_conversions placed)) (λ placed. All QuietConversion (placed_conversions placed))
        (λ placed both. both.1) (placed_in items) quiet))

    none : (failure : Failure) → Fails (unit_tree items) failure → ⊥
    none failure (inl access) =
        both_ways (has_flag (flags_of access.0.place)) (All-contains QuietAccess (accesses_in (unit_tree items)) access.0 accesses access.1) access.2
    none failure (inr conversion) = All-contains QuietConversion (conversions_in (unit_tree items)) conversion.0 conversions conversion.1 conversion.2
