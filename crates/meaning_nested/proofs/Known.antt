-- What is known of a member's declarator, and what lies in the type of a member.
use Rattle.std.proofs.Common.{◌≡◌, ℕ, ℤ, ◌<◌, ◌≤◌, Bool, true, false, not, ◌||◌, ◌&&◌, ◌⊎◌, inl, inr, List, [], ◌∷◌, ◌++◌, length, map, take, Option, Some, None, option_map, slice_get, unwrap_or, refl, sym, ap, subst, ◌∙◌, arith, if◌then◌else◌}
use Rattle.std.proofs.lemmas.List.{length-map, length-take-le}
use Rattle.std.proofs.lemmas.Option.{none-some, same_Some, slice_get_cases, slice_get-map, unwrap_or-slice_get}
use Rattle.vocabulary.specs.declared.error_kind.ErrorKind.TheVariants.{IncompleteType}
use Rattle.vocabulary.specs.declared.node_kind.NodeKind.{NodeKind}
use Rattle.vocabulary.specs.declared.node_kind.NodeKind.TheVariants as kinds
use Rattle.meaning_types.specs.Spaces.{is_void}
use Rattle.meaning_types.specs.Types.{TypeTree, Typed, VoidTree, IntegerTree, RestrictedTree, PointerTree, ArrayTree, FunctionTree, AggregateTree}
use Rattle.meaning_operands.specs.Failures.{Broken}
use Rattle.meaning_operands.specs.Operands.{is_integer}
use Rattle.meaning_layout.specs.Sizes.{Told, extent_of}
use Rattle.meaning_layout.specs.Telling.{nothing_told}
use Rattle.meaning_typing.specs.Declarators.{is_function, type_declared}
use Rattle.meaning_typing.specs.Facts.{Fact, Unknown, Expression, Declared, fact_at}
use Rattle.meaning_typing.specs.MemberDeclarations.{bodies_before, is_empty, member_declarator_fact, type_of_entry}
use Rattle.meaning_typing.specs.MemberRows.{aggregates_before, is_flexible, is_member_declaration, is_no_object, may_be_flexible, member_broken, name_broken, typed_member_broken}
use Rattle.meaning_typing.specs.Operators.{has_no_size, is_incomplete}
use Rattle.meaning_typing.specs.Rows.{Row, breaks_at, unless_broken}
use Rattle.meaning_typing.specs.Surroundings.{Surrounding, Want, surrounding_at}
use Rattle.meaning_typing.specs.Typing.{row_with_constant, token_at, with_constant}
use Rattle.meaning_typing.specs.Units.{UnitNodes, kind_at, node_at}
use Rattle.meaning_typing.specs.Wholes.{loaded_broken, row_loaded}
use Rattle.meaning_typing.specs.WholeTyping.{declared_row, declared_unless, declaration_row_by, own_name_broken, whole_constant_at, whole_declarator_row, whole_row_at, whole_row_by}
use Rattle.meaning_judgements.specs.UnitRows.{unit_row_at}
use Rattle.meaning_judgements.proofs.RowLemmas.{statements_tell_no_facts}
use Rattle.meaning_units.specs.UnitRows.{row_by_initializer}
use Rattle.meaning_units.specs.WholeRows.{AreFirstRows, facts_of}
use Rattle.meaning_nested.proofs.Heights.{LiesAmong, is_told}
use Rattle.meaning_nested.proofs.Tellings.{lies-whole, nodes-tell, not-told, tells_before}

-- What is declared breaks nothing

unbroken : (broken : List Broken) (fact : Fact) (type_ : TypeTree) → type_declared (unless_broken broken fact) ≡ Some type_ → broken ≡ []
unbroken [] fact type_ is = refl
unbroken (one ∷ others) fact type_ is = absurd (none-some type_ is)

kept : (broken : List Broken) (fact : Fact) (type_ : TypeTree) → type_declared (unless_broken broken fact) ≡ Some type_ → type_declared fact ≡ Some type_
kept [] fact type_ is = is
kept (one ∷ others) fact type_ is = absurd (none-some type_ is)

kept-parts : (parts names : List Broken) (row : Row) (type_ : TypeTree) → type_declared (declared_unless parts names row).fact ≡ Some type_ → type_declared row.fact ≡ Some type_
kept-parts [] names row type_ is = is
kept-parts (one ∷ others) names row type_ is = absurd (none-some type_ is)

kept-constant : (constant : Option ℤ) (fact : Fact) (type_ : TypeTree) → type_declared (with_constant constant fact) ≡ Some type_ → type_declared fact ≡ Some type_
kept-constant constant (Expression expression) type_ is = absurd (none-some type_ is)
kept-constant constant fact type_ is = is

chosen : (is : Bool) (row other : Row) (type_ : TypeTree) → is ≡ true → type_declared (if is then row else other).fact ≡ Some type_ → type_declared row.fact ≡ Some type_
chosen true row other type_ holds is = is
chosen false row other type_ holds is = absurd (cc holds)

-- Types of members lie in what is told

module _ (told : Told) (among : ℕ → Bool) (none : (number : ℕ) (is_union : Bool) → among number ≡ false → told number is_union ≡ None) where
  sized : (void function incomplete : Bool) → (void || (function || (not (void || function) && incomplete))) ≡ false → incomplete ≡ false
  sized true function incomplete is = absurd (cc is)
  sized false true incomplete is = absurd (cc is)
  sized false false incomplete is = is

  object-lies : (type_ : TypeTree) → is_no_object told type_ ≡ false → LiesAmong among type_
  object-lies type_ is = lies-whole told among none type_ (sized (is_void type_) (is_function type_) (is_incomplete (extent_of told type_)) is)

  not-false : (is : Bool) → not is ≡ true → is ≡ false
  not-false true holds = absurd (cc holds)
  not-false false holds = refl

  flexible-lies : (type_ : TypeTree) → is_flexible told type_ ≡ true → LiesAmong among type_
  flexible-lies (Typed VoidTree qualifiers flags) is = tt
  flexible-lies (Typed (IntegerTree kind) qualifiers flags) is = tt
  flexible-lies (Typed (RestrictedTree kind identity) qualifiers flags) is = tt
  flexible-lies (Typed (PointerTree target) qualifiers flags) is = tt
  flexible-lies (Typed (ArrayTree element None) qualifiers flags) is = object-lies element (not-false (is_no_object told element) is)
  flexible-lies (Typed (ArrayTree element (Some length)) qualifiers flags) is = absurd (cc is)
  flexible-lies (Typed (FunctionTree result parameters variadic) qualifiers flags) is = tt
  flexible-lies (Typed (AggregateTree number is_union) qualifiers flags) is = absurd (cc is)

  lies-by : (token : ℕ) (type_ : TypeTree) (flexible may object : Bool) → is_flexible told type_ ≡ flexible → is_no_object told type_ ≡ object
      → (if not true || (may && flexible) then [] else (if object then breaks_at IncompleteType token else [])) ≡ [] → LiesAmong among type_
  lies-by token type_ true true object flexible no_object is = flexible-lies type_ flexible
  lies-by token type_ true false true flexible no_object is = absurd (cc is)
  lies-by token type_ true false false flexible no_object is = object-lies type_ no_object
  lies-by token type_ false true true flexible no_object is = absurd (cc is)
  lies-by token type_ false true false flexible no_object is = object-lies type_ no_object
  lies-by token type_ false false true flexible no_object is = absurd (cc is)
  lies-by token type_ false false false flexible no_object is = object-lies type_ no_object

  member-lies : (token : ℕ) (may : Bool) (type_ : TypeTree) → member_broken told token true may type_ ≡ [] → LiesAmong among type_
  member-lies token may type_ is = lies-by token type_ (is_flexible told type_) may (is_no_object told type_) refl refl is

-- integers lie in nothing
integer-lies : (among : ℕ → Bool) (type_ : TypeTree) → is_integer type_ ≡ true → LiesAmong among type_
integer-lies among (Typed VoidTree qualifiers flags) is = tt
integer-lies among (Typed (IntegerTree kind) qualifiers flags) is = tt
integer-lies among (Typed (RestrictedTree kind identity) qualifiers flags) is = tt
integer-lies among (Typed (PointerTree target) qualifiers flags) is = tt
integer-lies among (Typed (ArrayTree element length) qualifiers flags) is = absurd (cc is)
integer-lies among (Typed (FunctionTree result parameters variadic) qualifiers flags) is = tt
integer-lies among (Typed (AggregateTree number is_union) qualifiers flags) is = absurd (cc is)

chosen-integer : (among : ℕ → Bool) (is : Bool) (type_ other : TypeTree) → is_integer type_ ≡ is → (if is then Some type_ else None) ≡ Some other → LiesAmong among other
chosen-integer among true type_ other integer is = subst (LiesAmong among) (same_Some _ _ is) (integer-lies among type_ integer)
chosen-integer among false type_ other integer is = absurd (none-some other is)

-- a member with a name lies in what is told, and one without has a type of integers
pub entry-lies : (among : ℕ → Bool) (name : List ℕ) (declared : Option TypeTree) (type_ : TypeTree)
    → (is_empty name ≡ false → declared ≡ Some type_ → LiesAmong among type_) → type_of_entry name declared ≡ Some type_ → LiesAmong among type_
entry-lies among [] None type_ named is = absurd (none-some type_ is)
entry-lies among [] (Some other) type_ named is = chosen-integer among (is_integer other) other type_ refl is
entry-lies among (byte ∷ bytes) declared type_ named is = named refl is

module _ (nodes : UnitNodes) (surroundings : List Surrounding) where
  -- The row of a member's declarator

  declared-lies : (told : Told) (among : ℕ → Bool) → ((number : ℕ) (is_union : Bool) → among number ≡ false → told number is_union ≡ None)
      → (facts : List Fact) (handle : ℕ) (surrounding : Surrounding) (type_ : TypeTree)
      → is_member_declaration (kind_at nodes surrounding.parent) ≡ true → is_empty (node_at nodes handle).name ≡ false
      → type_declared (whole_declarator_row told nodes surroundings facts handle surrounding).fact ≡ Some type_ → LiesAmong among type_
  declared-lies told among none facts handle surrounding type_ member named is =
      let fact = member_declarator_fact nodes facts handle surrounding in
      let row_is : type_declared (declared_row told nodes surroundings facts handle surrounding).fact ≡ Some type_ = kept-parts _ _ _ type_ is in
      let own : type_declared (unless_broken (typed_member_broken nodes surroundings told handle surrounding.parent (type_declared fact)) fact) ≡ Some type_ =
      chosen _ _ _ type_ member row_is in
      let typed = kept _ fact type_ own in
      let fine : typed_member_broken nodes surroundings told handle surrounding.parent (Some type_) ≡ [] =
      ap (typed_member_broken nodes surroundings told handle surrounding.parent) (sym typed) ∙ unbroken _ fact type_ own in
      member-lies told among none (node_at nodes handle).token (may_be_flexible nodes surroundings handle surrounding.parent) type_
      (ap (λ empty. member_broken told (node_at nodes handle).token (not empty) (may_be_flexible nodes surroundings handle surrounding.parent) type_) (sym named) ∙ fine)

  -- Facts

  module _ (rows : List Row) (known : AreFirstRows nodes surroundings rows) where
    fact-is : (handle : ℕ) → fact_at (facts_of rows) handle ≡ unwrap_or (option_map (λ row. row.fact) (slice_get rows handle)) Unknown
    fact-is handle = sym (unwrap_or-slice_get (facts_of rows) handle Unknown) ∙ ap (λ found. unwrap_or found Unknown) (slice_get-map (λ (row : Row). row.fact) rows handle)

    kept-loaded : (told : Told) (token : ℕ) (want : Want) (constant : Option ℤ) (row : Row) (type_ : TypeTree)
        → type_declared (row_loaded told token want (row_with_constant constant row)).fact ≡ Some type_ → type_declared row.fact ≡ Some type_
    kept-loaded told token want constant row type_ is = kept-constant constant row.fact type_ (kept _ (with_constant constant row.fact) type_ is)

    abbrev earlier : ℕ → List Fact
    earlier handle = facts_of (take handle rows)

    same-fact : (handle : ℕ) (row : Row) → slice_get rows handle ≡ Some row → fact_at (facts_of rows) handle ≡ row.fact
    same-fact handle row is = fact-is handle ∙ ap (λ (found : Option Row). unwrap_or (option_map (λ (r : Row). r.fact) found) Unknown) is

    no-fact : (handle : ℕ) → slice_get rows handle ≡ None → fact_at (facts_of rows) handle ≡ Unknown
    no-fact handle is = fact-is handle ∙ ap (λ (found : Option Row). unwrap_or (option_map (λ (r : Row). r.fact) found) Unknown) is

    abbrev before : (handle : ℕ) → Told
    before handle = (aggregates_before nodes surroundings (earlier handle)).told

    declarator-fact : (handle : ℕ) (row initializing : Row) → kind_at nodes handle ≡ kinds.Declarator
        → row ≡ row_by_initializer (kind_at nodes handle) (unit_row_at nodes surroundings (earlier handle) handle) initializing
        → row.fact
        ≡ (row_loaded (before handle) (token_at nodes handle) (surrounding_at surroundings handle).want
        (row_with_constant (whole_constant_at (aggregates_before nodes surroundings (earlier handle)) nodes surroundings (earlier handle) handle)
        (whole_declarator_row (before handle) nodes surroundings (earlier handle) handle (surrounding_at surroundings handle)))).fact
    declarator-fact handle row initializing kind is =
        ap (λ (r : Row). r.fact) is
        ∙ ap (λ (k : NodeKind). (row_by_initializer k (unit_row_at nodes surroundings (earlier handle) handle) initializing).fact) kind
        ∙ statements_tell_no_facts nodes surroundings (earlier handle) handle
        ∙ ap (λ (k : NodeKind). (whole_row_by (aggregates_before nodes surroundings (earlier handle)) nodes surroundings (earlier handle) handle k).fact) kind

    row-declares : (handle : ℕ) (type_ : TypeTree) → kind_at nodes handle ≡ kinds.Declarator → handle < length rows → type_declared (fact_at (facts_of rows) handle) ≡ Some type_
        → type_declared (whole_declarator_row (before handle) nodes surroundings (earlier handle) handle (surrounding_at surroundings handle)).fact ≡ Some type_
    row-declares handle type_ kind within is =
        let at = known.each handle within in
        kept-loaded (before handle) (token_at nodes handle) (surrounding_at surroundings handle).want
        (whole_constant_at (aggregates_before nodes surroundings (earlier handle)) nodes surroundings (earlier handle) handle)
        (whole_declarator_row (before handle) nodes surroundings (earlier handle) handle (surrounding_at surroundings handle)) type_
        (sym (ap type_declared (same-fact handle at.0 at.1 ∙ declarator-fact handle at.0 at.2.0 kind at.2.2)) ∙ is)

    front-length : (handle : ℕ) → handle < length rows → length (earlier handle) ≡ handle
    front-length handle within = length-map (take handle rows) (λ (row : Row). row.fact) ∙ length-take-le handle rows (omega (arith, within))

    none-before : (handle : ℕ) → handle < length rows → (number : ℕ) (is_union : Bool) → tells_before nodes handle number ≡ false → before handle number is_union ≡ None
    none-before handle within number is_union is =
        not-told nothing_told (bodies_before nodes surroundings (earlier handle) (length (earlier handle))) number is_union refl
        (nodes-tell nodes surroundings (earlier handle) (length (earlier handle)) number
        ∙ ap (λ count. tells_before nodes count number) (front-length handle within) ∙ is)

    -- what a member's declarator declares with a name lies in what is told before it
    pub declarator-lies : (handle : ℕ) (type_ : TypeTree) → kind_at nodes handle ≡ kinds.Declarator
        → is_member_declaration (kind_at nodes (surrounding_at surroundings handle).parent) ≡ true → is_empty (node_at nodes handle).name ≡ false
        → type_declared (fact_at (facts_of rows) handle) ≡ Some type_ → LiesAmong (tells_before nodes handle) type_
    declarator-lies handle type_ kind member named is =
        elim (slice_get_cases rows handle).1 [
          | inl within ↦
              declared-lies (before handle) (tells_before nodes handle) (none-before handle within.1) (earlier handle) handle (surrounding_at surroundings handle) type_ member named
              (row-declares handle type_ kind within.1 is)
          | inr past ↦ absurd (none-some type_ (sym (ap type_declared (no-fact handle past.1)) ∙ is))
        ]
