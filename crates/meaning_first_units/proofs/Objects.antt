-- Declarations of objects as nodes.
use Rattle.std.proofs.Common.{◌≡◌, ℕ, zero, suc, ◌+◌, ◌<◌, Bool, true, false, List, [], ◌∷◌, ◌++◌, length, Some, if◌then◌else◌, refl, sym, ap, ap₂, subst, ◌∙◌, append-nil}
use Rattle.std.proofs.lemmas.Bool.{both_ways}
use Rattle.vocabulary.specs.declared.node_kind.NodeKind.TheVariants as kinds
use Rattle.vocabulary.specs.declared.role.Role.TheVariants.{Evaluated, TypePart}
use Rattle.meaning_types.specs.Types.{NumberedSpace, NamedSpace, Flags, no_flags}
use Rattle.meaning_tree.specs.Trees.{Node, NoParts, Part, parts_of}
use Rattle.meaning_syntax.specs.Items.{Word, Noderef, AddressSpace, attribute_spelled, word_spelled}
use Rattle.meaning_syntax.specs.Trees.{attribute_trees, declarator_tree, object_specifiers, object_tree, star_trees, word_trees, word_tree, leaf}
use Rattle.meaning_syntax.specs.Words.{is_plain_identifier, number_of}
use Rattle.meaning_first_rules.specs.Typing.{flagged, space_of}
use Rattle.meaning_typing.specs.Facts.{Fact, fact_at}
use Rattle.meaning_typing.specs.Specifiers.{Marks, Words, marked_by, marks_behind, no_marks, no_words, space_named, type_named, type_of_words, with_word, words_of}
use Rattle.meaning_typing.specs.Tags.{any_type_said, attributes_of_specifiers, names_any_type, tag_attributes}
use Rattle.meaning_typing.specs.Units.{UnitNodes, children_at, kind_at, node_at}
use Rattle.meaning_first_units.specs.Units.{Renaming}
use Rattle.meaning_first_units.proofs.Declarators.{Specify, Stars, no-stars, of_words, one-star}
use Rattle.meaning_first_units.proofs.Renamed.{renamed_flags, renamed_space}
use Rattle.meaning_first_units.proofs.Saying.{KeepsNames, first-said, keeps-behind}
use Rattle.meaning_first_units.proofs.Standing.{Make, Makes, children-are, first-part, handles_of, leaf-of, no-part, node-of}

-- Stars

stars-of : (renaming : Renaming) (nodes : UnitNodes) (token stars : ℕ) (children : List (ℕ × ℕ)) → Make renaming nodes children (parts_of TypePart (star_trees token stars))
    → Stars nodes (handles_of children) stars
stars-of renaming nodes token zero children make = rw (no-part renaming nodes children make) (no-stars nodes)
stars-of renaming nodes token (suc stars) children make =
    let part = first-part renaming nodes children TypePart (leaf kinds.PointerDeclarator token) (parts_of TypePart (star_trees (token + 1) stars)) make in
    let is = leaf-of renaming nodes part.child.0 kinds.PointerDeclarator token [] 0 part.makes in
    subst (λ (all : List (ℕ × ℕ)). Stars nodes (handles_of all) (suc stars)) (sym part.are)
    (one-star nodes part.child.0 (handles_of part.others) stars is.is_kind
    (children-are nodes part.child.0 kinds.PointerDeclarator token (renaming []) 0 [] is)
    (stars-of renaming nodes (token + 1) stars part.others part.make))

-- Words of attributes

-- an identifier isn't empty
some-name : (name : List ℕ) → (name ≡ [] → ⊥) → space_named name 0 ≡ NamedSpace name
some-name [] is_name = absurd (is_name refl)
some-name (byte ∷ bytes) is_name = refl

named-space : (renaming : Renaming) (id : List ℕ) → is_plain_identifier id ≡ true → (renaming id ≡ [] → id ≡ [])
    → space_named (renaming id) 0 ≡ renamed_space renaming (space_of id)
named-space renaming id plain something =
    some-name (renaming id) (λ none. both_ways (is_plain_identifier id) (ap is_plain_identifier (something none)) plain)
    ∙ ap (λ (b : Bool). renamed_space renaming (if b then NamedSpace id else NumberedSpace (number_of id))) (sym plain)

numbered-space : (renaming : Renaming) (id : List ℕ) → is_plain_identifier id ≡ false → renaming [] ≡ []
    → space_named (renaming []) (number_of id) ≡ renamed_space renaming (space_of id)
numbered-space renaming id plain nothing =
    ap (λ name. space_named name (number_of id)) nothing
    ∙ ap (λ (b : Bool). renamed_space renaming (if b then NamedSpace id else NumberedSpace (number_of id))) (sym plain)

-- flags with another space
abbrev with_space : Flags → List ℕ → ℕ → Marks
with_space flags name number = of_words (record flags { space = space_named name number })

-- what a word adds
word-marks : (renaming : Renaming) (nodes : UnitNodes) (handle token : ℕ) (word : Word) (words : List Word) (flags : Flags) → KeepsNames renaming (word ∷ words)
    → Makes renaming nodes handle (word_tree token word)
    → marked_by (node_at nodes handle) (kind_at nodes handle) (of_words (renamed_flags renaming flags)) ≡ of_words (renamed_flags renaming (flagged flags (word ∷ [])))
word-marks renaming nodes handle token Noderef words flags keeps makes =
    let is = leaf-of renaming nodes handle kinds.NoderefAttribute token [] 0 makes in
    ap (λ kind. marked_by (node_at nodes handle) kind (of_words (renamed_flags renaming flags))) is.is_kind
word-marks renaming nodes handle token (AddressSpace id) words flags keeps makes = by (is_plain_identifier id) refl makes
  where
    seen : (name : List ℕ) (number : ℕ) → Makes renaming nodes handle (Node kinds.AddressSpaceAttribute token name number NoParts)
        → marked_by (node_at nodes handle) (kind_at nodes handle) (of_words (renamed_flags renaming flags)) ≡ with_space flags (renaming name) number
    seen name number made =
        let is = leaf-of renaming nodes handle kinds.AddressSpaceAttribute token name number made in
        ap (λ kind. marked_by (node_at nodes handle) kind (of_words (renamed_flags renaming flags))) is.is_kind
        ∙ ap₂ (with_space flags) is.is_name is.is_number

    by : (test : Bool) → is_plain_identifier id ≡ test
        → Makes renaming nodes handle (if test then Node kinds.AddressSpaceAttribute token id 0 NoParts else Node kinds.AddressSpaceAttribute token [] (number_of id) NoParts)
        → marked_by (node_at nodes handle) (kind_at nodes handle) (of_words (renamed_flags renaming flags))
        ≡ of_words (renamed_flags renaming (record flags { space = space_of id }))
    by true plain made = seen id 0 made ∙ ap (λ space. of_words (record flags { space = space })) (named-space renaming id plain (keeps.something id (first-said id words plain)))
    by false plain made = seen [] (number_of id) made ∙ ap (λ space. of_words (record flags { space = space })) (numbered-space renaming id plain keeps.nothing)

-- one word and others
flagged-one : (flags : Flags) (word : Word) (words : List Word) → flagged (flagged flags (word ∷ [])) words ≡ flagged flags (word ∷ words)
flagged-one flags Noderef words = refl
flagged-one flags (AddressSpace id) words = refl

words-marks : (renaming : Renaming) (nodes : UnitNodes) (token : ℕ) (words : List Word) (children : List (ℕ × ℕ)) (flags : Flags)
    → KeepsNames renaming words → Make renaming nodes children (parts_of TypePart (word_trees token words))
    → marks_behind nodes (of_words (renamed_flags renaming flags)) (handles_of children) ≡ of_words (renamed_flags renaming (flagged flags words))
words-marks renaming nodes token [] children flags keeps make =
    ap (λ (all : List (ℕ × ℕ)). marks_behind nodes (of_words (renamed_flags renaming flags)) (handles_of all)) (no-part renaming nodes children make)
words-marks renaming nodes token (word ∷ words) children flags keeps make =
    let next = token + length (word_spelled word) + 1 in
    let part = first-part renaming nodes children TypePart (word_tree token word) (parts_of TypePart (word_trees next words)) make in
    ap (λ (all : List (ℕ × ℕ)). marks_behind nodes (of_words (renamed_flags renaming flags)) (handles_of all)) part.are
    ∙ ap (λ marks. marks_behind nodes marks (handles_of part.others)) (word-marks renaming nodes part.child.0 token word words flags keeps part.makes)
    ∙ words-marks renaming nodes next words part.others (flagged flags (word ∷ [])) (keeps-behind renaming word words keeps) part.make
    ∙ ap (λ f. of_words (renamed_flags renaming f)) (flagged-one flags word words)

-- Specifiers

-- lists of attributes among specifiers
pub record Lists (nodes : UnitNodes) (handles attributes : List ℕ) : Type 0 where
  pub words : words_of nodes handles ≡ words_of nodes []
  pub among : attributes_of_specifiers nodes handles ≡ attributes
  pub said : (facts : List Fact) (words : Words) → any_type_said nodes facts words handles ≡ Some (type_of_words words)

lists-of :
    (renaming : Renaming) (nodes : UnitNodes) (token : ℕ) (words : List Word) (children : List (ℕ × ℕ)) → KeepsNames renaming words
    → Make renaming nodes children (parts_of TypePart (attribute_trees token words))
    → (attributes : List ℕ) × Lists nodes (handles_of children) attributes
    × (marks_behind nodes no_marks attributes ≡ of_words (renamed_flags renaming (flagged no_flags words)))
lists-of renaming nodes token [] children keeps make =
    let none = no-part renaming nodes children make in (
      [],
      subst (λ (all : List (ℕ × ℕ)). Lists nodes (handles_of all) []) (sym none) (record { words = refl; among = refl; said = λ facts words. refl }),
      refl,
    )
lists-of renaming nodes token (word ∷ words) children keeps make =
    let words_parts = parts_of TypePart (word_trees (token + 3) (word ∷ words)) in
    let part = first-part renaming nodes children TypePart (Node kinds.AttributeList token [] 0 words_parts) NoParts make in
    let list = part.child.0 in
    let is = node-of renaming nodes list kinds.AttributeList token [] 0 words_parts part.makes in
    let alone : children ≡ part.child ∷ [] = part.are ∙ ap (λ others. part.child ∷ others) (no-part renaming nodes part.others part.make) in (
      children_at nodes list,
      subst (λ (all : List (ℕ × ℕ)). Lists nodes (handles_of all) (children_at nodes list)) (sym alone) (record {
        words = ap (λ kind. with_word kind no_words) is.1.is_kind;
        among = ap (λ kind. tag_attributes nodes kind (children_at nodes list) ++ []) is.1.is_kind ∙ append-nil (children_at nodes list);
        said = λ facts said. ap (λ kind. if names_any_type kind then type_named (fact_at facts list) else Some (type_of_words said)) is.1.is_kind;
      }),
      ap (marks_behind nodes no_marks) (children-are nodes list kinds.AttributeList token (renaming []) 0 is.0 is.1)
          ∙ words-marks renaming nodes (token + 3) (word ∷ words) is.0 no_flags keeps is.2,
    )

-- `extern int` and its attribute
pub record SpecifiersShape (renaming : Renaming) (nodes : UnitNodes) (handle : ℕ) (words : List Word) : Type 0 where
  pub within : handle < length nodes
  pub is_kind : kind_at nodes handle ≡ kinds.Specifiers
  pub attributes : List ℕ
  pub specify : Specify nodes (children_at nodes handle) attributes
  pub marks : marks_behind nodes no_marks attributes ≡ of_words (renamed_flags renaming (flagged no_flags words))

specifying : (nodes : UnitNodes) (one other : ℕ) (handles attributes : List ℕ) → kind_at nodes one ≡ kinds.ExternSpecifier → kind_at nodes other ≡ kinds.IntSpecifier
    → Lists nodes handles attributes → Specify nodes (one ∷ other ∷ handles) attributes
specifying nodes one other handles attributes is_extern is_int lists =
    record {
      words =
          ap (λ kind. with_word kind (with_word (kind_at nodes other) (words_of nodes handles))) is_extern
          ∙ ap (λ kind. with_word kinds.ExternSpecifier (with_word kind (words_of nodes handles))) is_int
          ∙ ap (with_word kinds.ExternSpecifier) lists.words;
      among =
          ap (λ kind. tag_attributes nodes kind (children_at nodes one) ++ attributes_of_specifiers nodes (other ∷ handles)) is_extern
          ∙ ap (λ kind. tag_attributes nodes kind (children_at nodes other) ++ attributes_of_specifiers nodes handles) is_int
          ∙ lists.among;
      said = λ facts words.
          ap (λ kind. if names_any_type kind then type_named (fact_at facts one) else any_type_said nodes facts words (other ∷ handles)) is_extern
          ∙ ap (λ kind. if names_any_type kind then type_named (fact_at facts other) else any_type_said nodes facts words handles) is_int
          ∙ lists.said facts words;
    }

specifiers-shape : (renaming : Renaming) (nodes : UnitNodes) (handle first : ℕ) (words : List Word) → KeepsNames renaming words → Makes renaming nodes handle (object_specifiers first words)
    → SpecifiersShape renaming nodes handle words
specifiers-shape renaming nodes handle first words keeps makes =
    let lists_parts = parts_of TypePart (attribute_trees (first + 2) words) in
    let int_parts = Part TypePart (leaf kinds.IntSpecifier (first + 1)) lists_parts in
    let parts = Part TypePart (leaf kinds.ExternSpecifier first) int_parts in
    let is = node-of renaming nodes handle kinds.Specifiers first [] 0 parts makes in
    let one = first-part renaming nodes is.0 TypePart (leaf kinds.ExternSpecifier first) int_parts is.2 in
    let other = first-part renaming nodes one.others TypePart (leaf kinds.IntSpecifier (first + 1)) lists_parts one.make in
    let lists = lists-of renaming nodes (first + 2) words other.others keeps other.make in
    let all : is.0 ≡ one.child ∷ other.child ∷ other.others = one.are ∙ ap (λ others. one.child ∷ others) other.are in
    record {
      within = is.1.within;
      is_kind = is.1.is_kind;
      attributes = lists.0;
      specify =
          subst (λ handles. Specify nodes handles lists.0)
          (sym (children-are nodes handle kinds.Specifiers first (renaming []) 0 is.0 is.1 ∙ ap handles_of all))
          (specifying nodes one.child.0 other.child.0 (handles_of other.others) lists.0
          (leaf-of renaming nodes one.child.0 kinds.ExternSpecifier first [] 0 one.makes).is_kind
          (leaf-of renaming nodes other.child.0 kinds.IntSpecifier (first + 1) [] 0 other.makes).is_kind lists.1);
      marks = lists.2;
    }

-- The whole declaration

pub record ObjectShape (renaming : Renaming) (nodes : UnitNodes) (handle : ℕ) (words : List Word) (stars : ℕ) (name : List ℕ) : Type 0 where
  pub within : handle < length nodes
  pub is_kind : kind_at nodes handle ≡ kinds.Declaration
  pub first : ℕ × ℕ
  pub second : ℕ × ℕ
  pub parts : (node_at nodes handle).children ≡ first ∷ second ∷ []
  pub specifiers : SpecifiersShape renaming nodes first.0 words
  pub second_within : second.0 < length nodes
  pub is_declarator : kind_at nodes second.0 ≡ kinds.Declarator
  pub is_named : (node_at nodes second.0).name ≡ renaming name
  pub of_stars : Stars nodes (children_at nodes second.0) stars

pub object-shape :
    (renaming : Renaming) (nodes : UnitNodes) (handle first : ℕ) (words : List Word) (stars : ℕ) (name : List ℕ) → KeepsNames renaming words
    → Makes renaming nodes handle (object_tree first words stars name) → ObjectShape renaming nodes handle words stars name
object-shape renaming nodes handle first words stars name keeps makes =
    let at = first + 2 + length (attribute_spelled words) in
    let declarator_parts = Part Evaluated (declarator_tree at stars name) NoParts in
    let is = node-of renaming nodes handle kinds.Declaration first [] 0 (Part TypePart (object_specifiers first words) declarator_parts) makes in
    let one = first-part renaming nodes is.0 TypePart (object_specifiers first words) declarator_parts is.2 in
    let other = first-part renaming nodes one.others Evaluated (declarator_tree at stars name) NoParts one.make in
    let star_parts = parts_of TypePart (star_trees at stars) in
    let declarator = node-of renaming nodes other.child.0 kinds.Declarator (at + stars) name 0 star_parts other.makes in
    record {
      within = is.1.within;
      is_kind = is.1.is_kind;
      first = one.child;
      second = other.child;
      parts =
          is.1.are_children ∙ one.are ∙ ap (λ others. one.child ∷ others) (other.are ∙ ap (λ others. other.child ∷ others) (no-part renaming nodes other.others other.make));
      specifiers = specifiers-shape renaming nodes one.child.0 first words keeps one.makes;
      second_within = declarator.1.within;
      is_declarator = declarator.1.is_kind;
      is_named = declarator.1.is_name;
      of_stars =
          subst (λ handles. Stars nodes handles stars) (sym (children-are nodes other.child.0 kinds.Declarator (at + stars) (renaming name) 0 declarator.0 declarator.1))
          (stars-of renaming nodes at stars declarator.0 declarator.2);
    }
