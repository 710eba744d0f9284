-- What holds of each name in the tree of a unit holds of those of its items.
use Rattle.std.proofs.Common.{ℕ, ◌+◌, Bool, true, false, List, [], ◌∷◌, Contains, flat_map, length, if◌then◌else◌, inl, inr, subst}
use Rattle.std.proofs.lemmas.List.Elements.{Contains-append_cases}
use Rattle.vocabulary.specs.declared.node_kind.NodeKind.TheVariants as kinds
use Rattle.vocabulary.specs.declared.role.Role.TheVariants.{Evaluated, TypePart}
use Rattle.meaning_tree.specs.Trees.{SyntaxTree, Node, Parts, NoParts, Part, parts_of}
use Rattle.meaning_syntax.specs.Items.{Word, Noderef, AddressSpace, Item, Object, Function, item_spelled, word_spelled}
use Rattle.meaning_syntax.specs.Trees.{attribute_trees, item_tree, item_trees, unit_tree, word_tree, word_trees}
use Rattle.meaning_syntax.specs.Words.{is_plain_identifier, number_of}
use Rattle.meaning_first_rules.proofs.Elements.{Contains-nil, Contains-cons_cases, Contains-single}
use Rattle.meaning_first_units.specs.Trees.{EachName, EachNameIn}
use Rattle.meaning_first_units.specs.Units.{IsNameOf, names_said, parts_without_links, space_names, without_links}

module _ (IsSo : List ℕ → Type 0) where
  -- links aren't asked for
  mutual
    pub without-so : (tree : SyntaxTree) → EachName IsSo tree → EachName IsSo (without_links tree)
    without-so (Node kind token name number parts) so = (so.0, parts-without-so parts so.1)

    parts-without-so : (parts : Parts (List ℕ)) → EachNameIn IsSo parts → EachNameIn IsSo (parts_without_links parts)
    parts-without-so NoParts so = tt
    parts-without-so (Part role tree parts) so = (without-so tree so.0, parts-without-so parts so.1)

  -- Words of attributes

  word-so : (token : ℕ) (word : Word) (name : List ℕ) → EachName IsSo (word_tree token word) → Contains (space_names word) name → IsSo name
  word-so token Noderef name so among = absurd (Contains-nil name among)
  word-so token (AddressSpace id) name so among = by (is_plain_identifier id) so among
    where
      by : (test : Bool)
          → EachName IsSo (if test then Node kinds.AddressSpaceAttribute token id 0 NoParts else Node kinds.AddressSpaceAttribute token [] (number_of id) NoParts)
          → Contains (if test then id ∷ [] else []) name → IsSo name
      by true own is = subst IsSo (Contains-single id name is) own.0
      by false own is = absurd (Contains-nil name is)

  words-so : (token : ℕ) (words : List Word) (name : List ℕ) → EachNameIn IsSo (parts_of TypePart (word_trees token words)) → Contains (flat_map space_names words) name
      → IsSo name
  words-so token [] name so among = absurd (Contains-nil name among)
  words-so token (word ∷ words) name so among =
      elim (Contains-append_cases (space_names word) (flat_map space_names words) name among) [
        | inl own ↦ word-so token word name so.0 own
        | inr behind ↦ words-so (token + length (word_spelled word) + 1) words name so.1 behind
      ]

  attributes-so : (token : ℕ) (words : List Word) (name : List ℕ) → EachNameIn IsSo (parts_of TypePart (attribute_trees token words))
      → Contains (flat_map space_names words) name → IsSo name
  attributes-so token [] name so among = absurd (Contains-nil name among)
  attributes-so token (word ∷ words) name so among = words-so (token + 3) (word ∷ words) name so.0.1 among

  -- Items

  item-so : (first : ℕ) (item : Item) (name : List ℕ) → EachName IsSo (item_tree first item) → Contains (names_said item) name → IsSo name
  item-so first (Object words stars own) name so among =
      let specifiers = so.1.0 in
      let declarator = so.1.1.0 in
      elim (Contains-cons_cases own (flat_map space_names words) name among) [
        | inl same ↦ subst IsSo same declarator.0
        | inr space ↦ attributes-so (first + 2) words name specifiers.1.1.1 space
      ]
  item-so first (Function own statements) name so among =
      let declarator = so.1.1.0 in
      subst IsSo (Contains-single own name among) declarator.0

  items-so : (first : ℕ) (items : List Item) (name : List ℕ) → EachNameIn IsSo (parts_of Evaluated (item_trees first items)) → Contains (flat_map names_said items) name
      → IsSo name
  items-so first [] name so among = absurd (Contains-nil name among)
  items-so first (item ∷ items) name so among =
      elim (Contains-append_cases (names_said item) (flat_map names_said items) name among) [
        | inl own ↦ item-so first item name so.0 own
        | inr behind ↦ items-so (first + length (item_spelled item)) items name so.1 behind
      ]

  pub names-so : (items : List Item) (name : List ℕ) → EachName IsSo (unit_tree items) → IsNameOf items name → IsSo name
  names-so items name so among = items-so 0 items name so.1 among
