-- The rows of expressions of the first form.
use Rattle.std.proofs.Common.{◌≡◌, ℕ, ℤ, zero, suc, Bool, true, false, List, [], ◌∷◌, Option, Some, None, option_map, if◌then◌else◌, refl, sym, ap, ◌∙◌, append-nil}
use Rattle.vocabulary.specs.declared.node_kind.NodeKind.{NodeKind}
use Rattle.vocabulary.specs.declared.node_kind.NodeKind.TheVariants as kinds
use Rattle.vocabulary.specs.declared.rule.RuleCode.TheVariants.{A1, A2, A4}
use Rattle.meaning_types.specs.Types.{Flags, TypeTree, Typed, PointerTree, flags_of, has_flag, no_flags}
use Rattle.meaning_types.specs.Marks.{marked}
use Rattle.meaning_types.proofs.Spaces.{mix_spaces-Decides}
use Rattle.meaning_types.specs.Spaces.{MixSpaces, have_other_targets}
use Rattle.meaning_layout.specs.Sizes.{Told}
use Rattle.meaning_operands.specs.Conversions.{Fine, Fails, answer_of_bases, base_in, conversion_answer, pointers_answer}
use Rattle.meaning_operands.specs.Failures.{Broken}
use Rattle.meaning_operands.specs.Operands.{Operand}
use Rattle.meaning_constants.specs.Constants.{Constant, own_constant}
use Rattle.meaning_constants.specs.Nodes.{NodeFacts, NoFold, folded, fold_of, of_one}
use Rattle.meaning_constants.specs.Sizes.{sizes_by}
use Rattle.meaning_typing.specs.Aggregates.{KnownAggregates}
use Rattle.meaning_typing.specs.EnumRows.{enumerator_name_fact, is_enumerator}
use Rattle.meaning_typing.specs.Expressions.{address_row, address_taken, assigned, assignment_row, indirection_of, indirection_row, store_broken}
use Rattle.meaning_typing.specs.Facts.{Fact, Expression, Declared, ExpressionFact, DeclaredFact, Addressed, NotAddress, operand_of, place, type_of_value, value}
use Rattle.meaning_typing.specs.MemberRows.{aggregates_before}
use Rattle.meaning_typing.specs.Names.{address_of_name, declared_behind, name_row, named_place, type_of_name}
use Rattle.meaning_typing.specs.Rows.{Row, converted_by, fails_with, gives, known, nothing, unless_broken}
use Rattle.meaning_typing.specs.Surroundings.{Surrounding, Want, ForValue, surrounding_at}
use Rattle.meaning_typing.specs.Typing.{access_failures, accesses, part_fact, part_seen, part_token, row_with_constant, token_at, with_constant}
use Rattle.meaning_typing.specs.Units.{UnitNodes, kind_at, node_at}
use Rattle.meaning_typing.specs.Wholes.{only_const, loaded_broken, row_loaded, whole_assignment_row}
use Rattle.meaning_typing.specs.WholeTyping.{keeps_constant, whole_constant_at, whole_facts_for_constant, whole_row_at, whole_row_by, whole_row_of}
use Rattle.meaning_statements.specs.StatementRows.{statement_row_of}
use Rattle.meaning_judgements.specs.UnitRows.{row_by_statement, unit_row_at}
use Rattle.meaning_first_units.proofs.Scalars.{scalar, scalar-const, mixed-turned}

-- a place of an object's type
abbrev pub located : TypeTree → Addressed → ExpressionFact
located type_ address = record (place type_) { address = address }

-- What the row of a kind says is known, where nothing more is said of it

pub row-known :
    (told : Told) (token : ℕ) (want : Want) (constant : Option ℤ) (row : Row) (fact : Fact) → row.fact ≡ fact → with_constant constant fact ≡ fact
    → ((asked : Want) → loaded_broken told token asked fact ≡ []) → (row_loaded told token want (row_with_constant constant row)).fact ≡ fact
row-known told token want constant row fact is same unbroken =
    ap (λ (f : Fact). unless_broken (loaded_broken told token want (with_constant constant f)) (with_constant constant f)) is
    ∙ ap (λ (f : Fact). unless_broken (loaded_broken told token want f) f) same
    ∙ ap (λ broken. unless_broken broken fact) (unbroken want)

-- a place that is complete
located-unbroken : (told : Told) (token stars : ℕ) (flags : Flags) (address : Addressed) (want : Want)
    → loaded_broken told token want (Expression (located (scalar stars flags) address)) ≡ []
located-unbroken told token zero flags address ForValue = refl
located-unbroken told token (suc stars) flags address ForValue = refl
located-unbroken told token stars flags address want = refl

module _ (nodes : UnitNodes) (surroundings : List Surrounding) (earlier : List Fact) (handle : ℕ) where
  abbrev aggregates : KnownAggregates
  aggregates = aggregates_before nodes surroundings earlier

  abbrev declarator : ℕ
  declarator = (node_at nodes handle).number

  abbrev seen : NodeFacts
  seen = whole_facts_for_constant aggregates nodes surroundings earlier handle

  abbrev number_of : Option Constant → Option ℤ
  number_of found = option_map (λ constant. constant.number) found

  abbrev own_constant_at : Option ℤ
  own_constant_at = whole_constant_at aggregates nodes surroundings earlier handle

  name-constant : kind_at nodes handle ≡ kinds.Name → kind_at nodes declarator ≡ kinds.Declarator → own_constant_at ≡ None
  name-constant is_name is_declarator =
      ap (λ (kind : NodeKind). number_of (folded (sizes_by aggregates.told) (fold_of kind) seen)) is_name
      ∙ ap (λ (kind : NodeKind).
      number_of (of_one own_constant ((if is_enumerator kind then part_seen (enumerator_name_fact nodes surroundings earlier declarator) else None) ∷ []))) is_declarator

  -- nor has one of a kind that folds nothing
  kind-constant : (kind : NodeKind) → kind_at nodes handle ≡ kind → fold_of kind ≡ NoFold → own_constant_at ≡ None
  kind-constant kind is_kind none =
      ap (λ (k : NodeKind). number_of (folded (sizes_by aggregates.told) (fold_of k) seen)) is_kind
      ∙ ap (λ fold. number_of (folded (sizes_by aggregates.told) fold seen)) none

  -- what is known of a node by its kind
  by-kind :
      (kind : NodeKind) (expression : ExpressionFact) → kind_at nodes handle ≡ kind → keeps_constant kind ≡ false
      → (whole_row_of aggregates nodes surroundings earlier handle kind).fact ≡ Expression expression → own_constant_at ≡ None → expression.constant ≡ None
      → ((want : Want) → loaded_broken aggregates.told (token_at nodes handle) want (Expression expression) ≡ [])
      → (whole_row_at nodes surroundings earlier handle).fact ≡ Expression expression
  by-kind kind expression is_kind plain is none no_constant unbroken =
      ap (λ (k : NodeKind). (whole_row_by aggregates nodes surroundings earlier handle k).fact) is_kind
      ∙ ap (λ (b : Bool). (if b then whole_row_of aggregates nodes surroundings earlier handle kind
      else row_loaded aggregates.told (token_at nodes handle) (surrounding_at surroundings handle).want
      (row_with_constant own_constant_at (whole_row_of aggregates nodes surroundings earlier handle kind))).fact) plain
      ∙ row-known aggregates.told (token_at nodes handle) (surrounding_at surroundings handle).want own_constant_at
      (whole_row_of aggregates nodes surroundings earlier handle kind) (Expression expression) is
      (ap (λ c. Expression (record expression { constant = c })) (none ∙ sym no_constant)) unbroken

  -- 6.5.1
  pub name-fact :
      (declaration : DeclaredFact) (stars : ℕ) (flags : Flags)
      → kind_at nodes handle ≡ kinds.Name → kind_at nodes declarator ≡ kinds.Declarator
      → declared_behind nodes surroundings earlier declarator ≡ Declared declaration → declaration.is_typedef ≡ false → declaration.is_register ≡ false
      → type_of_name earlier declaration ≡ scalar stars flags
      → (whole_row_at nodes surroundings earlier handle).fact ≡ Expression (located (scalar stars flags) (address_of_name declaration))
  name-fact declaration stars flags is_name is_declarator is_declared no_typedef no_register of_type =
      by-kind kinds.Name (located (scalar stars flags) (address_of_name declaration)) is_name refl
      (ap (λ (kind : NodeKind). (if is_enumerator kind then known (enumerator_name_fact nodes surroundings earlier declarator)
      else name_row earlier (declared_behind nodes surroundings earlier declarator)).fact) is_declarator
      ∙ ap (λ (fact : Fact). (name_row earlier fact).fact) is_declared
      ∙ ap (λ (b : Bool). (if b then nothing else gives (named_place earlier declaration) [] []).fact) no_typedef
      ∙ ap (λ (b : Bool). Expression (record (place (type_of_name earlier declaration)) { is_register = b; address = address_of_name declaration })) no_register
      ∙ ap (λ (type_ : TypeTree). Expression (located type_ (address_of_name declaration))) of_type)
      (name-constant is_name is_declarator) refl
      (located-unbroken aggregates.told (token_at nodes handle) stars flags (address_of_name declaration))

  -- 6.5.3.2 p4
  pub indirection-fact :
      (pointer : ExpressionFact) (stars : ℕ) (flags : Flags)
      → kind_at nodes handle ≡ kinds.Indirection → part_fact nodes earlier handle 0 ≡ Expression pointer
      → type_of_value pointer ≡ scalar (suc stars) flags
      → (whole_row_at nodes surroundings earlier handle).fact ≡ Expression (located (scalar stars flags) NotAddress)
  indirection-fact pointer stars flags is_kind is_pointer of_type =
      by-kind kinds.Indirection (located (scalar stars flags) NotAddress) is_kind refl
      (ap (λ (fact : Fact). (indirection_row (token_at nodes handle) (part_token nodes handle 0) fact).fact) is_pointer
      ∙ ap (λ (type_ : TypeTree). (indirection_of (token_at nodes handle) (part_token nodes handle 0) pointer type_).fact) of_type)
      (kind-constant kinds.Indirection is_kind refl) refl
      (located-unbroken aggregates.told (token_at nodes handle) stars flags NotAddress)

  -- 6.5.3.2 p3
  abbrev pub addressed : ℕ → Flags → Addressed → ExpressionFact
  addressed stars flags address = record (value (scalar (suc stars) flags)) { address = address_taken address }

  pub address-fact :
      (stars : ℕ) (flags : Flags) (address : Addressed)
      → kind_at nodes handle ≡ kinds.Address → part_fact nodes earlier handle 0 ≡ Expression (located (scalar stars flags) address)
      → (whole_row_at nodes surroundings earlier handle).fact ≡ Expression (addressed stars flags address)
  address-fact stars flags address is_kind is_place =
      by-kind kinds.Address (addressed stars flags address) is_kind refl
      (ap (λ (fact : Fact). (address_row (token_at nodes handle) fact).fact) is_place)
      (kind-constant kinds.Address is_kind refl) refl unloaded
    where
      unloaded : (want : Want) → loaded_broken aggregates.told (token_at nodes handle) want (Expression (addressed stars flags address)) ≡ []
      unloaded ForValue = refl
      unloaded want = refl

-- Assignments (6.5.16.1)

-- two pointers that mix spaces
mixed-answer :
    (operand : Operand) (null : Bool) (to from : TypeTree) → operand.of ≡ from → null ≡ false → MixSpaces to from
    → conversion_answer operand null to ≡ Fails A1
mixed-answer operand null (Typed (PointerTree t) r g) (Typed (PointerTree u) q f) of_type no_null mixed =
    let from = Typed (PointerTree u) q f in
    let to = Typed (PointerTree t) r g in
    ap (λ (type_ : TypeTree). answer_of_bases operand null to (base_in type_) (PointerTree t)) of_type
    ∙ ap (λ (n : Bool). pointers_answer n operand.of to) no_null
    ∙ ap (λ (type_ : TypeTree). pointers_answer false type_ to) of_type
    ∙ ap (λ (b : Bool). if b then Fails A1 else (if have_other_targets from to then Fails A2 else Fine))
    ((mix_spaces-Decides from to).1 (mixed-turned to from mixed))
mixed-answer operand null (Typed other r g) (Typed base q f) of_type no_null mixed = absurd mixed

-- an object that isn't const may be written
stored : (token stars : ℕ) (flags : Flags) (address : Addressed) → store_broken token (located (scalar stars flags) address) ≡ []
stored token zero flags address = refl
stored token (suc stars) flags address = refl

assigned-fails :
    (token second : ℕ) (left right : ExpressionFact) (broken : List Broken) → broken ≡ []
    → conversion_answer (operand_of right) right.is_null left.type_ ≡ Fails A1
    → (assigned token second left right broken).failures ≡ fails_with A1 token 0 (Some left.type_) (Some (type_of_value right)) [] ∷ []
assigned-fails token second left right broken none fails =
    ap (λ b. (assigned token second left right b).failures) none
    ∙ ap (λ answer. (converted_by answer token 0 second right left.type_).failures) fails

module _ (nodes : UnitNodes) (surroundings : List Surrounding) (earlier : List Fact) (handle : ℕ) where
  abbrev known_then : KnownAggregates
  known_then = aggregates_before nodes surroundings earlier

  pub assignment-fails :
      (stars : ℕ) (flags : Flags) (address : Addressed) (right : ExpressionFact)
      → kind_at nodes handle ≡ kinds.Assignment → part_fact nodes earlier handle 0 ≡ Expression (located (scalar stars flags) address)
      → part_fact nodes earlier handle 1 ≡ Expression right → right.is_null ≡ false → MixSpaces (scalar stars flags) (type_of_value right)
      → (unit_row_at nodes surroundings earlier handle).failures
      ≡ fails_with A1 (token_at nodes handle) 0 (Some (scalar stars flags)) (Some (type_of_value right)) [] ∷ []
  assignment-fails stars flags address right is_kind is_left is_right no_null mixed =
      let token = token_at nodes handle in
      let second = part_token nodes handle 1 in
      let left = located (scalar stars flags) address in
      ap (λ (kind : NodeKind). (row_by_statement kind (whole_row_by known_then nodes surroundings earlier handle kind) (statement_row_of nodes surroundings earlier handle kind)).failures) is_kind
      ∙ append-nil _
      ∙ ap (λ (fact : Fact). (whole_assignment_row known_then token second fact (part_fact nodes earlier handle 1)).failures) is_left
      ∙ ap (λ (fact : Fact). (whole_assignment_row known_then token second (Expression left) fact).failures) is_right
      ∙ ap (λ (b : Bool). (assignment_row token second
      (if b then Expression (record left { type_ = marked only_const no_flags left.type_ }) else Expression left) (Expression right)).failures)
      (scalar-const known_then.has_const stars flags)
      ∙ assigned-fails token second left right _ (stored token stars flags address)
      (mixed-answer (operand_of right) right.is_null (scalar stars flags) (type_of_value right) refl no_null mixed)

-- Accesses (6.3.2.1 p2, 6.5.16 p3)

pub access-fails :
    (token stars : ℕ) (flags : Flags) (address : Addressed) (surrounding : Surrounding) → surrounding.is_evaluated ≡ true → accesses surrounding.want ≡ true
    → has_flag (flags_of (scalar stars flags)) ≡ true
    → access_failures token surrounding (Expression (located (scalar stars flags) address)) ≡ fails_with A4 token 0 (Some (scalar stars flags)) None [] ∷ []
access-fails token zero flags address surrounding evaluated wanted flagged = rw (evaluated, wanted, flagged) refl
access-fails token (suc stars) flags address surrounding evaluated wanted flagged = absurd (cc flagged)
