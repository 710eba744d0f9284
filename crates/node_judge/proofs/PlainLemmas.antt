-- Rows by which nothing is known of an expression have no constant, and nothing is loaded of them.
use Rattle.std.proofs.Common.{◌≡◌, ℕ, ℤ, Bool, true, false, List, [], ◌∷◌, ◌++◌, Option, Some, None, if◌then◌else◌, refl, sym, ap, ◌∙◌, append-nil}
use Rattle.vocabulary.specs.declared.error_kind.ErrorKind.TheVariants.{ReturnWithoutValue, StaticAssertionFailed, ValueReturnedFromVoid}
use Rattle.vocabulary.specs.declared.node_kind.NodeKind.{NodeKind}
use Rattle.vocabulary.specs.declared.node_kind.NodeKind.TheVariants as kinds
use Rattle.meaning_layout.specs.Sizes.{Told}
use Rattle.meaning_operands.specs.Failures.{Broken}
use Rattle.meaning_types.specs.Spaces.{is_void}
use Rattle.meaning_types.specs.Types.{TypeTree}
use Rattle.meaning_typing.specs.Aggregates.{KnownAggregates}
use Rattle.meaning_typing.specs.DeclarationRows.{declarator_parts_broken, parameter_node_broken}
use Rattle.meaning_typing.specs.Declarators.{declarator_fact, named_if, parameter_fact, parameter_type, specifiers_of, type_declared}
use Rattle.meaning_typing.specs.Facts.{Fact, Unknown, Expression, Specified, Declared, NamedType, SpecifiedFact, type_of_value}
use Rattle.meaning_typing.specs.MemberDeclarations.{member_declarator_fact, member_declared_if, member_type_said}
use Rattle.meaning_typing.specs.MemberRows.{is_member_declaration, member_declarator_row, typed_member_broken}
use Rattle.meaning_typing.specs.Rows.{Row, breaks, breaks_at, converted, nothing, unless_broken}
use Rattle.meaning_typing.specs.Statements.{result_around, return_row}
use Rattle.meaning_typing.specs.Surroundings.{Surrounding, Want, ForValue, surrounding_at}
use Rattle.meaning_typing.specs.Typing.{first_fact, part_fact, row_with_constant, token_at, with_constant}
use Rattle.meaning_typing.specs.Units.{UnitNodes, child_at, children_at, kind_at, node_at}
use Rattle.meaning_typing.specs.Wholes.{loaded_broken, row_loaded}
use Rattle.meaning_typing.specs.WholeTyping.{assertion_row, declaration_broken, declaration_row_by, declared_row, declared_unless, holds_number, keeps_constant, own_name_broken, whole_constant_at, whole_row_by, whole_row_of}

-- it is nothing that is known of an expression
abbrev pub IsNoExpression : Fact → Type 0
IsNoExpression (Expression expression) = ⊥
IsNoExpression fact = Unit {0}

none_constant : (constant : Option ℤ) (fact : Fact) → IsNoExpression fact → with_constant constant fact ≡ fact
none_constant constant Unknown is = refl
none_constant constant (Expression expression) is = absurd is
none_constant constant (Specified specifiers) is = refl
none_constant constant (Declared declaration) is = refl
none_constant constant (NamedType type_) is = refl

none_loaded : (told : Told) (token : ℕ) (want : Want) (fact : Fact) → IsNoExpression fact → loaded_broken told token want fact ≡ []
none_loaded told token ForValue Unknown is = refl
none_loaded told token ForValue (Expression expression) is = absurd is
none_loaded told token ForValue (Specified specifiers) is = refl
none_loaded told token ForValue (Declared declaration) is = refl
none_loaded told token ForValue (NamedType type_) is = refl
none_loaded told token want fact is = refl

plain : (told : Told) (token : ℕ) (want : Want) (constant : Option ℤ) (row : Row) → IsNoExpression row.fact
    → row_loaded told token want (row_with_constant constant row) ≡ row
plain told token want constant row is =
    ap (λ fact. row_loaded told token want (record row { fact = fact })) (none_constant constant row.fact is)
    ∙ ap (λ (broken : List Broken). record row { fact = unless_broken broken row.fact; broken = row.broken ++ broken }) (none_loaded told token want row.fact is)
    ∙ ap (λ (broken : List Broken). record row { broken = broken }) (append-nil row.broken)

module _ (aggregates : KnownAggregates) (nodes : UnitNodes) (surroundings : List Surrounding) (facts : List Fact) (handle : ℕ) where
  pub plain_by : (kind : NodeKind) → keeps_constant kind ≡ false → IsNoExpression (whole_row_of aggregates nodes surroundings facts handle kind).fact
      → whole_row_of aggregates nodes surroundings facts handle kind ≡ whole_row_by aggregates nodes surroundings facts handle kind
  plain_by kind asks is =
      let row = whole_row_of aggregates nodes surroundings facts handle kind in
      let told = aggregates.told in
      let want = (surrounding_at surroundings handle).want in
      let constant = whole_constant_at aggregates nodes surroundings facts handle in
      sym (plain told (token_at nodes handle) want constant row is)
      ∙ ap (λ test. if test then row else row_loaded told (token_at nodes handle) want (row_with_constant constant row)) (sym asks)

  -- By kinds

  unless_none : (broken : List Broken) (fact : Fact) → IsNoExpression fact → IsNoExpression (unless_broken broken fact)
  unless_none [] fact is = is
  unless_none (first ∷ broken) fact is = tt

  named_none : (type_ : Option TypeTree) → IsNoExpression (named_if type_)
  named_none None = tt
  named_none (Some type_) = tt

  member_none : (name : List ℕ) (type_ : Option TypeTree) → IsNoExpression (member_declared_if name type_)
  member_none name None = tt
  member_none name (Some type_) = tt

  declaration_none : (surrounding : Surrounding) (fact : Fact)
      → IsNoExpression (declaration_row_by aggregates.told nodes surroundings facts handle surrounding fact).fact
  declaration_none surrounding Unknown = tt
  declaration_none surrounding (Expression expression) = tt
  declaration_none surrounding (Specified specifiers) = tt
  declaration_none surrounding (Declared declaration) =
      unless_none (declaration_broken aggregates.told nodes surroundings facts handle surrounding declaration) (Declared declaration) tt
  declaration_none surrounding (NamedType type_) = tt

  declared_none : (surrounding : Surrounding) → IsNoExpression (declared_row aggregates.told nodes surroundings facts handle surrounding).fact
  declared_none surrounding = by (is_member_declaration (kind_at nodes surrounding.parent))
    where
      specifiers : Option SpecifiedFact
      specifiers = specifiers_of nodes facts surrounding.parent

      by : (test : Bool) → IsNoExpression (if test then member_declarator_row nodes surroundings aggregates.told facts handle surrounding
          else declaration_row_by aggregates.told nodes surroundings facts handle surrounding (declarator_fact nodes surrounding facts handle specifiers)).fact
      by true =
          unless_none
          (typed_member_broken nodes surroundings aggregates.told handle surrounding.parent (type_declared (member_declarator_fact nodes facts handle surrounding)))
          (member_declarator_fact nodes facts handle surrounding)
          (member_none (node_at nodes handle).name (member_type_said nodes facts handle surrounding specifiers))
      by false = declaration_none surrounding (declarator_fact nodes surrounding facts handle specifiers)

  assertion_none : (token : ℕ) (fact : Fact) → IsNoExpression (assertion_row token fact).fact
  assertion_none token Unknown = tt
  assertion_none token (Expression expression) = by (holds_number expression.constant)
    where
      by : (test : Bool) → IsNoExpression (if test then nothing else breaks (breaks_at StaticAssertionFailed token)).fact
      by true = tt
      by false = tt
  assertion_none token (Specified specifiers) = tt
  assertion_none token (Declared declaration) = tt
  assertion_none token (NamedType type_) = tt

  test_none : (test : Bool) (row other : Row) → IsNoExpression row.fact → IsNoExpression other.fact → IsNoExpression (if test then row else other).fact
  test_none true row other first second = first
  test_none false row other first second = second

  return_none : (token value : ℕ) (fact : Option Fact) (result : Option TypeTree) → IsNoExpression (return_row token value fact result).fact
  return_none token value fact None = tt
  return_none token value None (Some result) = test_none (is_void result) nothing (breaks (breaks_at ReturnWithoutValue token)) tt tt
  return_none token value (Some (Expression expression)) (Some result) =
      test_none (is_void result)
      (if is_void (type_of_value expression) then nothing else breaks (breaks_at ValueReturnedFromVoid token))
      (record nothing { broken = (converted token 0 value expression result).broken; failures = (converted token 0 value expression result).failures })
      (test_none (is_void (type_of_value expression)) nothing (breaks (breaks_at ValueReturnedFromVoid token)) tt tt) tt
  return_none token value (Some fact) (Some result) = tt

  typed_none : (parts names : List Broken) (row : Row) → IsNoExpression row.fact → IsNoExpression (declared_unless parts names row).fact
  typed_none [] names row none = none
  typed_none (broken ∷ others) names row none = tt

  pub declarator_by : whole_row_of aggregates nodes surroundings facts handle kinds.Declarator ≡ whole_row_by aggregates nodes surroundings facts handle kinds.Declarator
  declarator_by =
      let surrounding = surrounding_at surroundings handle in
      plain_by kinds.Declarator refl
      (typed_none (declarator_parts_broken aggregates.told nodes facts handle surrounding (specifiers_of nodes facts surrounding.parent))
      (own_name_broken nodes surroundings facts handle surrounding) (declared_row aggregates.told nodes surroundings facts handle surrounding)
      (declared_none surrounding))

  pub parameter_by : whole_row_of aggregates nodes surroundings facts handle kinds.Parameter ≡ whole_row_by aggregates nodes surroundings facts handle kinds.Parameter
  parameter_by =
      plain_by kinds.Parameter refl
      (unless_none (parameter_node_broken aggregates.told nodes surroundings facts handle (parameter_type nodes facts handle))
      (parameter_fact nodes facts handle) (named_none (parameter_type nodes facts handle)))

  pub assertion_by : whole_row_of aggregates nodes surroundings facts handle kinds.StaticAssertion
      ≡ whole_row_by aggregates nodes surroundings facts handle kinds.StaticAssertion
  assertion_by = plain_by kinds.StaticAssertion refl (assertion_none (token_at nodes handle) (part_fact nodes facts handle 0))

  pub return_by : whole_row_of aggregates nodes surroundings facts handle kinds.ReturnStatement
      ≡ whole_row_by aggregates nodes surroundings facts handle kinds.ReturnStatement
  return_by =
      plain_by kinds.ReturnStatement refl
      (return_none (token_at nodes handle) (token_at nodes (child_at nodes handle 0)) (first_fact facts (children_at nodes handle))
      (result_around nodes facts (surrounding_at surroundings handle).around.function))

  pub array_by : whole_row_of aggregates nodes surroundings facts handle kinds.ArrayDeclarator
      ≡ whole_row_by aggregates nodes surroundings facts handle kinds.ArrayDeclarator
  array_by = plain_by kinds.ArrayDeclarator refl tt

  pub list_by : whole_row_of aggregates nodes surroundings facts handle kinds.FunctionDeclarator
      ≡ whole_row_by aggregates nodes surroundings facts handle kinds.FunctionDeclarator
  list_by = plain_by kinds.FunctionDeclarator refl tt

  pub unit_by : whole_row_of aggregates nodes surroundings facts handle kinds.TranslationUnit
      ≡ whole_row_by aggregates nodes surroundings facts handle kinds.TranslationUnit
  unit_by = plain_by kinds.TranslationUnit refl tt
