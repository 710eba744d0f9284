-- What the rows of specifiers and declarators say of objects of the first form.
use Rattle.std.proofs.Common.{◌≡◌, ℕ, zero, suc, Bool, true, false, ◌||◌, ◌&&◌, List, [], ◌∷◌, ◌++◌, drop, get_or, length, Some, option_map, option_and_then, if◌then◌else◌, refl, ap, ◌∙◌}
use Rattle.vocabulary.specs.declared.node_kind.NodeKind.{NodeKind}
use Rattle.vocabulary.specs.declared.node_kind.NodeKind.TheVariants as kinds
use Rattle.vocabulary.specs.declared.role.Role.{Role}
use Rattle.vocabulary.specs.declared.error_kind.ErrorKind.TheVariants.{DefinedTwice}
use Rattle.meaning_types.specs.Types.{Space, NoSpace, NumberedSpace, NamedSpace, Flags, TypeTree, no_flags, no_qualifiers, pointer_to}
use Rattle.meaning_types.specs.Marks.{with_flags, marked, later_space}
use Rattle.meaning_layout.specs.Sizes.{Told}
use Rattle.meaning_operands.specs.Operands.{is_integer}
use Rattle.meaning_first_rules.specs.Typing.{behind_stars, int_with}
use Rattle.meaning_typing.specs.Aggregates.{KnownAggregates}
use Rattle.meaning_typing.specs.DeclarationRows.{begins_with_initializer, declarator_parts_broken, declared_object_broken, definition_broken, defines, has_initializer, is_declaration_kind, is_definition_kind, is_earlier_definition, made_by_part, made_by_parts, made_or, object_broken, one_part_broken, own_bitwise_broken, part_broken, parts_broken, type_unless}
use Rattle.meaning_typing.specs.Declarators.{adjusted_in, declared, declared_if, declared_type, declarator_fact, declares_with_linkage, derived, derived_by, in_file, leading_lists, links, lists_before, lists_behind, lists_in_front, own_marks, specified_by, specifiers_of}
use Rattle.meaning_typing.specs.Facts.{Fact, Specified, Declared, SpecifiedFact, DeclaredFact, fact_at}
use Rattle.meaning_typing.specs.MemberRows.{aggregates_before, is_member_declaration, member_declarator_row}
use Rattle.meaning_typing.specs.Rows.{breaks_named, unless_broken}
use Rattle.meaning_typing.specs.Specifiers.{Marks, Words, attributes_among, marks_among, marks_behind, no_marks, no_words, with_marks, words_of, type_of_words}
use Rattle.meaning_typing.specs.Surroundings.{Surrounding, Want, ForValue, asked, surrounding_at}
use Rattle.meaning_typing.specs.Tags.{any_type_said, attributes_of_specifiers, bitwise_broken, bitwise_words, is_any_below, specifiers_by, specifiers_row}
use Rattle.meaning_typing.specs.Typing.{token_at}
use Rattle.meaning_typing.specs.Units.{UnitNodes, child_at, children_at, kind_at, node_at}
use Rattle.meaning_typing.specs.Wholes.{loaded_broken}
use Rattle.meaning_typing.specs.WholeTyping.{declaration_broken, declaration_row_by, declared_row, declared_unless, own_name_broken, whole_constant_at, whole_declarator_row, whole_row_at, whole_row_by}
use Rattle.meaning_first_units.proofs.Rows.{row-known}
use Rattle.meaning_first_units.proofs.Scalars.{scalar}

or-false : (b : Bool) → (b || false) ≡ b
or-false false = refl
or-false true = refl

nothing-after : (flags : Flags) → with_flags flags no_flags ≡ flags
nothing-after flags = ap (λ (b : Bool). record { noderef = b; space = flags.space }) (or-false flags.noderef)

nothing-before : (flags : Flags) → with_flags no_flags flags ≡ flags
nothing-before flags = ap (λ (space : Space). record { noderef = flags.noderef; space = space }) (by flags.space)
  where
    by : (space : Space) → later_space NoSpace space ≡ space
    by NoSpace = refl
    by (NumberedSpace number) = refl
    by (NamedSpace name) = refl

-- stars count from either end
star-inside : (stars : ℕ) (type_ : TypeTree) → behind_stars stars (pointer_to type_) ≡ pointer_to (behind_stars stars type_)
star-inside zero type_ = refl
star-inside (suc stars) type_ = ap pointer_to (star-inside stars type_)

scalar-unmarked : (stars : ℕ) (flags : Flags) → marked no_qualifiers no_flags (scalar stars flags) ≡ scalar stars flags
scalar-unmarked zero flags = ap int_with (nothing-after flags)
scalar-unmarked (suc stars) flags = refl

-- Specifiers

abbrev pub extern_words : Words
extern_words = record no_words { storage = record no_words.storage { is_extern = true } }

abbrev pub of_words : Flags → Marks
of_words flags = record { flags = flags; is_bitwise = false }

abbrev pub extern_int : Flags → SpecifiedFact
extern_int flags = record { type_ = int_with flags; storage = extern_words.storage }

-- all that the row of specifiers asks of them
pub record Specify (nodes : UnitNodes) (handles attributes : List ℕ) : Type 0 where
  pub words : words_of nodes handles ≡ extern_words
  pub among : attributes_of_specifiers nodes handles ≡ attributes
  pub said : (facts : List Fact) (words : Words) → any_type_said nodes facts words handles ≡ Some (type_of_words words)

specified-by :
    (nodes : UnitNodes) (token : ℕ) (attributes : List ℕ) (flags : Flags) → marks_behind nodes no_marks attributes ≡ of_words flags
    → (specifiers_by nodes token attributes extern_words (Some (type_of_words extern_words))).fact ≡ Specified (extern_int flags)
specified-by nodes token attributes flags marks =
    ap (λ m. Specified (record { type_ = with_marks token m (type_of_words extern_words); storage = extern_words.storage })) marks
    ∙ ap (λ f. Specified (extern_int f)) (nothing-before flags)

not-loaded : (told : Told) (token : ℕ) (specifiers : SpecifiedFact) (want : Want) → loaded_broken told token want (Specified specifiers) ≡ []
not-loaded told token specifiers ForValue = refl
not-loaded told token specifiers want = refl

declared-not-loaded : (told : Told) (token : ℕ) (declaration : DeclaredFact) (want : Want) → loaded_broken told token want (Declared declaration) ≡ []
declared-not-loaded told token declaration ForValue = refl
declared-not-loaded told token declaration want = refl

module _ (nodes : UnitNodes) (surroundings : List Surrounding) (earlier : List Fact) (handle : ℕ) where
  abbrev aggregates : KnownAggregates
  aggregates = aggregates_before nodes surroundings earlier

  pub specifiers-fact :
      (attributes : List ℕ) (flags : Flags) → kind_at nodes handle ≡ kinds.Specifiers → Specify nodes (children_at nodes handle) attributes
      → marks_behind nodes no_marks attributes ≡ of_words flags
      → (whole_row_at nodes surroundings earlier handle).fact ≡ Specified (extern_int flags)
  specifiers-fact attributes flags is_kind specify marks =
      let handles = children_at nodes handle in
      let token = (node_at nodes handle).token in
      ap (λ (kind : NodeKind). (whole_row_by aggregates nodes surroundings earlier handle kind).fact) is_kind
      ∙ row-known aggregates.told (token_at nodes handle) (surrounding_at surroundings handle).want
      (whole_constant_at aggregates nodes surroundings earlier handle) (specifiers_row nodes earlier handle) (Specified (extern_int flags))
      (ap (λ words. (specifiers_by nodes token (attributes_of_specifiers nodes handles) words (any_type_said nodes earlier words handles)).fact) specify.words
      ∙ ap (λ type_. (specifiers_by nodes token (attributes_of_specifiers nodes handles) extern_words type_).fact) (specify.said earlier extern_words)
      ∙ ap (λ among. (specifiers_by nodes token among extern_words (Some (type_of_words extern_words))).fact) specify.among
      ∙ specified-by nodes token attributes flags marks)
      refl (not-loaded aggregates.told (token_at nodes handle) (extern_int flags))

-- Declarators

pub record Stars (nodes : UnitNodes) (parts : List ℕ) (stars : ℕ) : Type 0 where
  pub derive : (facts : List Fact) (identity : ℕ) (type_ : TypeTree) → derived_by nodes facts identity parts type_ ≡ Some (behind_stars stars type_)
  pub unbroken : (told : Told) (facts : List Fact) (identity : ℕ) (type_ : TypeTree) → parts_broken told nodes facts identity parts (Some type_) ≡ []
  pub made : (told : Told) (facts : List Fact) (identity : ℕ) (type_ : TypeTree)
      → made_by_parts told nodes facts identity parts (Some type_) ≡ Some (behind_stars stars type_)

nothing-bitwise : (nodes : UnitNodes) (type_ : TypeTree) → bitwise_broken nodes [] type_ ≡ []
nothing-bitwise nodes type_ = by (is_integer type_)
  where
    by : (b : Bool) → (if b then [] else bitwise_words nodes []) ≡ []
    by true = refl
    by false = refl

pub no-stars : (nodes : UnitNodes) → Stars nodes [] 0
no-stars nodes = record { derive = λ facts identity type_. refl; unbroken = λ told facts identity type_. refl; made = λ told facts identity type_. refl }

pub one-star :
    (nodes : UnitNodes) (part : ℕ) (parts : List ℕ) (stars : ℕ) → kind_at nodes part ≡ kinds.PointerDeclarator → children_at nodes part ≡ []
    → Stars nodes parts stars → Stars nodes (part ∷ parts) (suc stars)
one-star nodes part parts stars is_kind none behind = record { derive = derive_all; unbroken = whole; made = made_all }
  where
    derives : (facts : List Fact) (identity : ℕ) (type_ : TypeTree)
        → derived nodes facts identity (kind_at nodes part) (children_at nodes part) type_ ≡ Some (pointer_to type_)
    derives facts identity type_ =
        ap (λ kind. derived nodes facts identity kind (children_at nodes part) type_) is_kind
        ∙ ap (λ children. derived nodes facts identity kinds.PointerDeclarator children type_) none

    derive_all : (facts : List Fact) (identity : ℕ) (type_ : TypeTree) → derived_by nodes facts identity (part ∷ parts) type_ ≡ Some (behind_stars (suc stars) type_)
    derive_all facts identity type_ =
        ap (option_and_then (derived_by nodes facts identity parts)) (derives facts identity type_)
        ∙ behind.derive facts identity (pointer_to type_) ∙ ap Some (star-inside stars type_)

    one : (told : Told) (facts : List Fact) (identity : ℕ) (type_ : TypeTree) → one_part_broken told nodes facts identity part type_ ≡ []
    one told facts identity type_ =
        ap (λ m. part_broken told nodes part (kind_at nodes part) type_ (made_or type_ m)) (derives facts identity type_)
        ∙ ap (λ kind. part_broken told nodes part kind type_ (pointer_to type_)) is_kind
        ∙ ap (λ children. bitwise_broken nodes (attributes_among nodes children) (pointer_to type_)) none
        ∙ nothing-bitwise nodes (pointer_to type_)

    makes : (told : Told) (facts : List Fact) (identity : ℕ) (type_ : TypeTree) → made_by_part told nodes facts identity part type_ ≡ Some (pointer_to type_)
    makes told facts identity type_ =
        ap (λ broken. type_unless broken (derived nodes facts identity (kind_at nodes part) (children_at nodes part) type_)) (one told facts identity type_)
        ∙ derives facts identity type_

    whole : (told : Told) (facts : List Fact) (identity : ℕ) (type_ : TypeTree) → parts_broken told nodes facts identity (part ∷ parts) (Some type_) ≡ []
    whole told facts identity type_ =
        ap (λ broken. broken ++ parts_broken told nodes facts identity parts (made_by_part told nodes facts identity part type_)) (one told facts identity type_)
        ∙ ap (parts_broken told nodes facts identity parts) (makes told facts identity type_)
        ∙ behind.unbroken told facts identity (pointer_to type_)

    made_all : (told : Told) (facts : List Fact) (identity : ℕ) (type_ : TypeTree)
        → made_by_parts told nodes facts identity (part ∷ parts) (Some type_) ≡ Some (behind_stars (suc stars) type_)
    made_all told facts identity type_ =
        ap (made_by_parts told nodes facts identity parts) (makes told facts identity type_)
        ∙ behind.made told facts identity (pointer_to type_)
        ∙ ap Some (star-inside stars type_)

-- what an object that is declared `extern` at file scope is
abbrev pub object_declared : UnitNodes → Surrounding → (name : List ℕ) → (stars : ℕ) → Flags → DeclaredFact
object_declared nodes surrounding name stars flags = declared nodes surrounding name extern_words.storage (scalar stars flags)

links-extern : (in_file : Bool) (type_ : TypeTree) → links in_file extern_words.storage type_ ≡ true
links-extern true type_ = refl
links-extern false type_ = refl

pub object-linked :
    (nodes : UnitNodes) (parent : ℕ) (role : Role) (outer : Surrounding) (name : List ℕ) (stars : ℕ) (flags : Flags) → kind_at nodes parent ≡ kinds.Declaration
    → (object_declared nodes (asked kinds.Declaration parent 1 role outer) name stars flags).has_linkage ≡ true
object-linked nodes parent role outer name stars flags is_parent =
    let surrounding = asked kinds.Declaration parent 1 role outer in
    ap (λ kind. declares_with_linkage kind && links (in_file nodes surrounding) extern_words.storage (scalar stars flags)) is_parent
    ∙ links-extern (in_file nodes surrounding) (scalar stars flags)

object-unbroken : (told : Told) (token : ℕ) (declaration : DeclaredFact) → declaration.is_typedef ≡ false → declaration.has_linkage ≡ true
    → object_broken told token false declaration ≡ []
object-unbroken told token declaration no_typedef linked = rw (no_typedef, linked) refl

module _ (nodes : UnitNodes) (surroundings : List Surrounding) (earlier : List Fact) (handle parent specifiers : ℕ) (role : Role) (outer : Surrounding)
    (name : List ℕ) (stars : ℕ) (flags : Flags)
    (is_kind : kind_at nodes handle ≡ kinds.Declarator) (is_named : (node_at nodes handle).name ≡ name)
    (around : surrounding_at surroundings handle ≡ asked kinds.Declaration parent 1 role outer)
    (is_parent : kind_at nodes parent ≡ kinds.Declaration) (parts : children_at nodes parent ≡ specifiers ∷ handle ∷ [])
    (are_specifiers : kind_at nodes specifiers ≡ kinds.Specifiers) (specify : fact_at earlier specifiers ≡ Specified (extern_int flags))
    (of_stars : Stars nodes (children_at nodes handle) stars) where
  abbrev surrounding : Surrounding
  surrounding = asked kinds.Declaration parent 1 role outer

  abbrev token : ℕ
  token = (node_at nodes parent).token

  abbrev what : DeclaredFact
  what = object_declared nodes surrounding name stars flags

  linked : what.has_linkage ≡ true
  linked = object-linked nodes parent role outer name stars flags is_parent

  specified : specifiers_of nodes earlier parent ≡ Some (extern_int flags)
  specified = ap (λ children. specified_by (fact_at earlier (get_or children 0 (length nodes)))) parts ∙ ap specified_by specify

  first-part : child_at nodes parent 0 ≡ specifiers
  first-part = ap (λ children. get_or children 0 (length nodes)) parts

  no-lists : lists_before nodes parent 1 ++ lists_behind nodes parent 1 ≡ []
  no-lists =
      ap (λ part. leading_lists (kind_at nodes part) (children_at nodes part) ++ lists_behind nodes parent 1) first-part
      ∙ ap (λ kind. leading_lists kind (children_at nodes specifiers) ++ lists_behind nodes parent 1) are_specifiers
      ∙ ap (λ children. lists_in_front nodes (drop 2 children)) parts

  typed : declared_type nodes earlier parent 1 (children_at nodes handle) (int_with flags) ≡ Some (scalar stars flags)
  typed =
      ap (option_map (λ derived. adjusted_in (kind_at nodes parent) (with_marks token (own_marks nodes parent 1) derived)))
      (of_stars.derive earlier token (int_with flags))
      ∙ ap (λ kind. Some (adjusted_in kind (with_marks token (own_marks nodes parent 1) (scalar stars flags)))) is_parent
      ∙ ap (λ lists. Some (with_marks token (marks_among nodes lists) (scalar stars flags))) no-lists
      ∙ ap Some (scalar-unmarked stars flags)

  uninitialized : has_initializer nodes surrounding ≡ false
  uninitialized = ap (λ children. begins_with_initializer nodes (drop 2 children)) parts

  undefined : defines nodes (surrounding_at surroundings handle) ≡ false
  undefined =
      ap (defines nodes) around
      ∙ ap (λ kind. is_definition_kind kind || (is_declaration_kind kind && has_initializer nodes surrounding)) is_parent
      ∙ uninitialized

  module _ (told : Told) where
    parts-unbroken : declarator_parts_broken told nodes earlier handle surrounding (specifiers_of nodes earlier parent) ≡ []
    parts-unbroken =
        ap (declarator_parts_broken told nodes earlier handle surrounding) specified
        ∙ ap (λ broken. broken ++ own_bitwise_broken nodes parent 1 (made_by_parts told nodes earlier token (children_at nodes handle) (Some (int_with flags))))
        (of_stars.unbroken told earlier token (int_with flags))
        ∙ ap (own_bitwise_broken nodes parent 1) (of_stars.made told earlier token (int_with flags))
        ∙ ap (λ lists. bitwise_broken nodes (attributes_among nodes lists) (scalar stars flags)) no-lists
        ∙ nothing-bitwise nodes (scalar stars flags)

    unbroken : declaration_broken told nodes surroundings earlier handle surrounding what ≡ []
    unbroken =
        let behind = definition_broken nodes surroundings earlier handle what in
        let at = token_at nodes handle in
        ap (λ kind. declared_object_broken told nodes at surrounding kind what ++ behind) is_parent
        ∙ ap (λ b. object_broken told at b what ++ behind) uninitialized
        ∙ ap (λ broken. broken ++ behind) (object-unbroken told at what refl linked)
        ∙ ap (λ (b : Bool). if what.has_linkage && (b && is_any_below (λ other. is_earlier_definition nodes surroundings earlier name other (fact_at earlier other)) handle)
        then breaks_named DefinedTwice (node_at nodes handle).token name else []) undefined
        ∙ ap (λ (b : Bool). if b && false then breaks_named DefinedTwice (node_at nodes handle).token name else []) linked

    declares : (declared_row told nodes surroundings earlier handle surrounding).fact ≡ Declared what
    declares =
        let row : Fact → Fact = λ fact. (declaration_row_by told nodes surroundings earlier handle surrounding fact).fact in
        ap (λ kind. (if is_member_declaration kind then member_declarator_row nodes surroundings told earlier handle surrounding
        else declaration_row_by told nodes surroundings earlier handle surrounding (declarator_fact nodes surrounding earlier handle (specifiers_of nodes earlier parent))).fact) is_parent
        ∙ ap (λ specifiers. row (declarator_fact nodes surrounding earlier handle specifiers)) specified
        ∙ ap (λ type_. row (declared_if nodes surrounding (node_at nodes handle).name extern_words.storage type_)) typed
        ∙ ap (λ own. row (Declared (object_declared nodes surrounding own stars flags))) is_named
        ∙ ap (λ broken. unless_broken broken (Declared what)) unbroken

    declarator-known : (whole_declarator_row told nodes surroundings earlier handle (surrounding_at surroundings handle)).fact ≡ Declared what
    declarator-known =
        ap (λ s. (whole_declarator_row told nodes surroundings earlier handle s).fact) around
        ∙ ap (λ broken. (declared_unless broken (own_name_broken nodes surroundings earlier handle surrounding)
        (declared_row told nodes surroundings earlier handle surrounding)).fact) parts-unbroken
        ∙ declares

  pub declarator-fact : (whole_row_at nodes surroundings earlier handle).fact ≡ Declared what
  declarator-fact =
      let aggregates = aggregates_before nodes surroundings earlier in
      ap (λ (kind : NodeKind). (whole_row_by aggregates nodes surroundings earlier handle kind).fact) is_kind
      ∙ row-known aggregates.told (token_at nodes handle) (surrounding_at surroundings handle).want
      (whole_constant_at aggregates nodes surroundings earlier handle)
      (whole_declarator_row aggregates.told nodes surroundings earlier handle (surrounding_at surroundings handle)) (Declared what)
      (declarator-known aggregates.told) refl (declared-not-loaded aggregates.told (token_at nodes handle) what)
