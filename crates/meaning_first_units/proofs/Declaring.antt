-- Which nodes of the first form declare something: declarators alone, and under their own names.
use Rattle.std.proofs.Common.{◌≡◌, ℕ, ℤ, Bool, true, false, List, [], ◌∷◌, Option, Some, None, if◌then◌else◌, refl, sym, subst}
use Rattle.vocabulary.specs.declared.node_kind.NodeKind.{NodeKind}
use Rattle.vocabulary.specs.declared.node_kind.NodeKind.TheVariants as kinds
use Rattle.meaning_types.specs.Types.{TypeTree, Typed, PointerTree}
use Rattle.meaning_layout.specs.Sizes.{Told}
use Rattle.meaning_operands.specs.Failures.{Broken}
use Rattle.meaning_typing.specs.Aggregates.{KnownAggregates}
use Rattle.meaning_typing.specs.Declarators.{declared_if, declared_type, declarator_fact, named_if, parameter_fact, parameter_type, specifiers_of}
use Rattle.meaning_typing.specs.EnumRows.{enumerator_name_fact, is_enumerator}
use Rattle.meaning_typing.specs.Expressions.{address_row, assigned, assignment_row, has_address, indirection_of, indirection_row, store_broken}
use Rattle.meaning_typing.specs.Facts.{Fact, Unknown, Expression, Specified, Declared, NamedType, ExpressionFact, SpecifiedFact, type_of_value}
use Rattle.meaning_typing.specs.MemberRows.{aggregates_before, is_member_declaration, member_declarator_row}
use Rattle.meaning_typing.specs.Names.{declared_behind, name_row}
use Rattle.meaning_typing.specs.Rows.{Row, known, nothing, unless_broken}
use Rattle.meaning_typing.specs.Specifiers.{Words, words_of}
use Rattle.meaning_typing.specs.Surroundings.{Surrounding, Want, surrounding_at}
use Rattle.meaning_typing.specs.Tags.{any_type_said, attributes_of_specifiers, specifiers_by}
use Rattle.meaning_typing.specs.Typing.{part_fact, part_token, row_with_constant, token_at, with_constant}
use Rattle.meaning_typing.specs.Units.{UnitNodes, children_at, kind_at, node_at}
use Rattle.meaning_typing.specs.Wholes.{as_stored, row_loaded}
use Rattle.meaning_typing.specs.WholeTyping.{declaration_row_by, declared_row, declared_unless, whole_constant_at, whole_declarator_row, whole_row_at, whole_row_by, whole_row_of}

-- nothing is declared
abbrev pub NotDeclared : Fact → Type 0
NotDeclared (Declared declaration) = ⊥
NotDeclared fact = Unit {0}

-- what is declared has this name
abbrev pub NamedSo : List ℕ → Fact → Type 0
NamedSo name (Declared declaration) = declaration.name ≡ name
NamedSo name fact = Unit {0}

-- Constraints and constants change nothing

unless-quiet : (broken : List Broken) (fact : Fact) → NotDeclared fact → NotDeclared (unless_broken broken fact)
unless-quiet [] fact quiet = quiet
unless-quiet (b ∷ bs) fact quiet = tt

unless-named : (name : List ℕ) (broken : List Broken) (fact : Fact) → NamedSo name fact → NamedSo name (unless_broken broken fact)
unless-named name [] fact named = named
unless-named name (b ∷ bs) fact named = tt

constant-quiet : (constant : Option ℤ) (fact : Fact) → NotDeclared fact → NotDeclared (with_constant constant fact)
constant-quiet constant (Declared declaration) quiet = quiet
constant-quiet constant (Expression expression) quiet = tt
constant-quiet constant Unknown quiet = tt
constant-quiet constant (Specified specifiers) quiet = tt
constant-quiet constant (NamedType type_) quiet = tt

constant-named : (name : List ℕ) (constant : Option ℤ) (fact : Fact) → NamedSo name fact → NamedSo name (with_constant constant fact)
constant-named name constant (Declared declaration) named = named
constant-named name constant (Expression expression) named = tt
constant-named name constant Unknown named = tt
constant-named name constant (Specified specifiers) named = tt
constant-named name constant (NamedType type_) named = tt

loaded-quiet : (told : Told) (token : ℕ) (want : Want) (constant : Option ℤ) (row : Row) → NotDeclared row.fact
    → NotDeclared (row_loaded told token want (row_with_constant constant row)).fact
loaded-quiet told token want constant row quiet = unless-quiet _ (with_constant constant row.fact) (constant-quiet constant row.fact quiet)

loaded-named : (name : List ℕ) (told : Told) (token : ℕ) (want : Want) (constant : Option ℤ) (row : Row) → NamedSo name row.fact
    → NamedSo name (row_loaded told token want (row_with_constant constant row)).fact
loaded-named name told token want constant row named = unless-named name _ (with_constant constant row.fact) (constant-named name constant row.fact named)

-- Rows

declared-if-named : (name : List ℕ) (parts names : List Broken) (row : Row) → NamedSo name row.fact → NamedSo name (declared_unless parts names row).fact
declared-if-named name [] names row named = named
declared-if-named name (broken ∷ others) names row named = tt

either : (P : Row → Type 0) (test : Bool) (row other : Row) → P row → P other → P (if test then row else other)
either P true row other one two = one
either P false row other one two = two

abbrev QuietRow : Row → Type 0
QuietRow row = NotDeclared row.fact

specifiers-quiet : (nodes : UnitNodes) (token : ℕ) (attributes : List ℕ) (words : Words) (said : Option TypeTree) → QuietRow (specifiers_by nodes token attributes words said)
specifiers-quiet nodes token attributes words None = tt
specifiers-quiet nodes token attributes words (Some type_) = unless-quiet _ (Specified _) tt

named-quiet : (type_ : Option TypeTree) → NotDeclared (named_if type_)
named-quiet None = tt
named-quiet (Some type_) = tt

name-quiet : (facts : List Fact) (fact : Fact) → QuietRow (name_row facts fact)
name-quiet facts (Declared declaration) = either QuietRow declaration.is_typedef nothing _ tt tt
name-quiet facts fact = tt

indirection-quiet : (token operand : ℕ) (fact : Fact) → QuietRow (indirection_row token operand fact)
indirection-quiet token operand (Expression expression) = by (type_of_value expression)
  where
    by : (type_ : TypeTree) → QuietRow (indirection_of token operand expression type_)
    by (Typed (PointerTree target) qualifiers flags) = tt
    by (Typed base qualifiers flags) = tt
indirection-quiet token operand fact = tt

address-quiet : (token : ℕ) (fact : Fact) → QuietRow (address_row token fact)
address-quiet token (Expression expression) = either QuietRow (has_address expression) _ _ tt tt
address-quiet token fact = tt

gives-quiet : (expression : ExpressionFact) (broken : List Broken) → NotDeclared (unless_broken broken (Expression expression))
gives-quiet expression broken = unless-quiet broken (Expression expression) tt

assignment-quiet : (token second : ℕ) (left right : Fact) → QuietRow (assignment_row token second left right)
assignment-quiet token second (Expression left) (Expression right) = by (store_broken token left)
  where
    by : (broken : List Broken) → QuietRow (assigned token second left right broken)
    by [] = gives-quiet _ _
    by (b ∷ bs) = tt
assignment-quiet token second (Expression left) Unknown = gives-quiet _ _
assignment-quiet token second (Expression left) (Specified specifiers) = gives-quiet _ _
assignment-quiet token second (Expression left) (Declared declaration) = gives-quiet _ _
assignment-quiet token second (Expression left) (NamedType type_) = gives-quiet _ _
assignment-quiet token second Unknown right = tt
assignment-quiet token second (Specified specifiers) right = tt
assignment-quiet token second (Declared declaration) right = tt
assignment-quiet token second (NamedType type_) right = tt

-- the kinds of the first form but declarators
abbrev pub is_quiet : NodeKind → Bool
is_quiet kinds.TranslationUnit = true
is_quiet kinds.Declaration = true
is_quiet kinds.FunctionDefinition = true
is_quiet kinds.Specifiers = true
is_quiet kinds.ExternSpecifier = true
is_quiet kinds.IntSpecifier = true
is_quiet kinds.VoidSpecifier = true
is_quiet kinds.AttributeList = true
is_quiet kinds.NoderefAttribute = true
is_quiet kinds.AddressSpaceAttribute = true
is_quiet kinds.PointerDeclarator = true
is_quiet kinds.FunctionDeclarator = true
is_quiet kinds.Parameter = true
is_quiet kinds.CompoundStatement = true
is_quiet kinds.ExpressionStatement = true
is_quiet kinds.Assignment = true
is_quiet kinds.Indirection = true
is_quiet kinds.Address = true
is_quiet kinds.Name = true
is_quiet kind = false

pub never : false ≡ true → ⊥
never is = cc is

module _ (nodes : UnitNodes) (surroundings : List Surrounding) (earlier : List Fact) (handle : ℕ) where
  abbrev aggregates : KnownAggregates
  aggregates = aggregates_before nodes surroundings earlier

  abbrev loads : Row → Row
  loads row =
      row_loaded aggregates.told (token_at nodes handle) (surrounding_at surroundings handle).want
      (row_with_constant (whole_constant_at aggregates nodes surroundings earlier handle) row)

  quiet-row : (row : Row) → QuietRow row → QuietRow (loads row)
  quiet-row row quiet =
      loaded-quiet aggregates.told (token_at nodes handle) (surrounding_at surroundings handle).want
      (whole_constant_at aggregates nodes surroundings earlier handle) row quiet

  quiet-by :
      (kind : NodeKind) → is_quiet kind ≡ true → (kind ≡ kinds.Name → kind_at nodes (node_at nodes handle).number ≡ kinds.Declarator)
      → QuietRow (whole_row_by aggregates nodes surroundings earlier handle kind)
  quiet-by kinds.TranslationUnit is names = quiet-row (whole_row_of aggregates nodes surroundings earlier handle kinds.TranslationUnit) tt
  quiet-by kinds.Declaration is names = quiet-row nothing tt
  quiet-by kinds.FunctionDefinition is names = quiet-row nothing tt
  quiet-by kinds.Specifiers is names =
      quiet-row (whole_row_of aggregates nodes surroundings earlier handle kinds.Specifiers) (specifiers-quiet nodes (token_at nodes handle)
      (attributes_of_specifiers nodes (children_at nodes handle)) (words_of nodes (children_at nodes handle))
      (any_type_said nodes earlier (words_of nodes (children_at nodes handle)) (children_at nodes handle)))
  quiet-by kinds.ExternSpecifier is names = quiet-row nothing tt
  quiet-by kinds.IntSpecifier is names = quiet-row nothing tt
  quiet-by kinds.VoidSpecifier is names = quiet-row nothing tt
  quiet-by kinds.AttributeList is names = quiet-row nothing tt
  quiet-by kinds.NoderefAttribute is names = quiet-row nothing tt
  quiet-by kinds.AddressSpaceAttribute is names = quiet-row nothing tt
  quiet-by kinds.PointerDeclarator is names = quiet-row nothing tt
  quiet-by kinds.FunctionDeclarator is names = quiet-row (whole_row_of aggregates nodes surroundings earlier handle kinds.FunctionDeclarator) tt
  quiet-by kinds.Parameter is names =
      quiet-row (whole_row_of aggregates nodes surroundings earlier handle kinds.Parameter)
      (unless-quiet _ (parameter_fact nodes earlier handle) (named-quiet (parameter_type nodes earlier handle)))
  quiet-by kinds.CompoundStatement is names = quiet-row nothing tt
  quiet-by kinds.ExpressionStatement is names = quiet-row nothing tt
  quiet-by kinds.Assignment is names =
      quiet-row (whole_row_of aggregates nodes surroundings earlier handle kinds.Assignment)
      (unless-quiet _ _
      (assignment-quiet (token_at nodes handle) (part_token nodes handle 1) (as_stored aggregates (part_fact nodes earlier handle 0)) (part_fact nodes earlier handle 1)))
  quiet-by kinds.Indirection is names =
      quiet-row (whole_row_of aggregates nodes surroundings earlier handle kinds.Indirection)
      (indirection-quiet (token_at nodes handle) (part_token nodes handle 0) (part_fact nodes earlier handle 0))
  quiet-by kinds.Address is names =
      quiet-row (whole_row_of aggregates nodes surroundings earlier handle kinds.Address) (address-quiet (token_at nodes handle) (part_fact nodes earlier handle 0))
  quiet-by kinds.Name is names =
      let declarator = (node_at nodes handle).number in
      quiet-row (whole_row_of aggregates nodes surroundings earlier handle kinds.Name)
      (subst (λ kind. QuietRow (if is_enumerator kind then known (enumerator_name_fact nodes surroundings earlier declarator) else name_row earlier (declared_behind nodes surroundings earlier declarator)))
      (sym (names refl)) (name-quiet earlier (declared_behind nodes surroundings earlier declarator)))
  quiet-by kind is names = absurd (never is)

  pub nothing-declared :
      is_quiet (kind_at nodes handle) ≡ true → (kind_at nodes handle ≡ kinds.Name → kind_at nodes (node_at nodes handle).number ≡ kinds.Declarator)
      → NotDeclared (whole_row_at nodes surroundings earlier handle).fact
  nothing-declared is names = quiet-by (kind_at nodes handle) is names

  -- Declarators

  declared-named : (fact : Fact) (told : Told) (surrounding : Surrounding) (name : List ℕ) → NamedSo name fact
      → NamedSo name (declaration_row_by told nodes surroundings earlier handle surrounding fact).fact
  declared-named (Declared declaration) told surrounding name named = unless-named name _ (Declared declaration) named
  declared-named Unknown told surrounding name named = tt
  declared-named (Expression expression) told surrounding name named = tt
  declared-named (Specified specifiers) told surrounding name named = tt
  declared-named (NamedType type_) told surrounding name named = tt

  fact-named : (surrounding : Surrounding) (specifiers : Option SpecifiedFact) → NamedSo (node_at nodes handle).name (declarator_fact nodes surrounding earlier handle specifiers)
  fact-named surrounding None = tt
  fact-named surrounding (Some specifiers) = by (declared_type nodes earlier surrounding.parent surrounding.place (children_at nodes handle) specifiers.type_)
    where
      by : (type_ : Option TypeTree) → NamedSo (node_at nodes handle).name (declared_if nodes surrounding (node_at nodes handle).name specifiers.storage type_)
      by None = tt
      by (Some type_) = refl

  pub declared-by-name :
      kind_at nodes handle ≡ kinds.Declarator → is_member_declaration (kind_at nodes (surrounding_at surroundings handle).parent) ≡ false
      → NamedSo (node_at nodes handle).name (whole_row_at nodes surroundings earlier handle).fact
  declared-by-name is_kind no_member =
      let surrounding = surrounding_at surroundings handle in
      let name = (node_at nodes handle).name in
      let told = aggregates.told in
      let specifiers = specifiers_of nodes earlier surrounding.parent in
      subst (λ kind. NamedSo name (whole_row_by aggregates nodes surroundings earlier handle kind).fact) (sym is_kind)
      (loaded-named name told (token_at nodes handle) surrounding.want (whole_constant_at aggregates nodes surroundings earlier handle)
      (whole_declarator_row told nodes surroundings earlier handle surrounding)
      (declared-if-named name _ _ (declared_row told nodes surroundings earlier handle surrounding)
      (subst (λ (b : Bool). NamedSo name (if b then member_declarator_row nodes surroundings told earlier handle surrounding
      else declaration_row_by told nodes surroundings earlier handle surrounding (declarator_fact nodes surrounding earlier handle specifiers)).fact) (sym no_member)
      (declared-named (declarator_fact nodes surrounding earlier handle specifiers) told surrounding name (fact-named surrounding specifiers)))))
