-- What is known of names in statements of the first form.
use Rattle.std.proofs.Common.{◌≡◌, ℕ, ◌-◌, ◌<◌, ◌⊎◌, inl, inr, Bool, true, false, ◌||◌, List, [], ◌∷◌, length, take, drop, get_or, Contains, Some, slice_get, if◌then◌else◌, refl, sym, ap, subst, ◌∙◌, arith, length-take}
use Rattle.std.specs.Str.{bytes_eq}
use Rattle.std.proofs.lemmas.Bool.{and_parts}
use Rattle.std.proofs.lemmas.Option.{get_or_from_slice_get, slice_get_within}
use Rattle.std.proofs.lemmas.List.{get_or-take, length-map}
use Rattle.std.proofs.lemmas.Slice.Eq.{bytes_eq-Decides}
use Rattle.vocabulary.specs.declared.node_kind.NodeKind.{NodeKind}
use Rattle.vocabulary.specs.declared.node_kind.NodeKind.TheVariants as kinds
use Rattle.vocabulary.specs.Roles.{role_of}
use Rattle.meaning_types.specs.Types.{TypeTree, no_flags}
use Rattle.meaning_tree.specs.Forms.{kind_of}
use Rattle.meaning_tree.specs.Nodes.{IsTreeOf, end_of}
use Rattle.meaning_tree.specs.Trees.{SyntaxTree, Node}
use Rattle.meaning_unit_nodes.specs.Laws.{with_names}
use Rattle.meaning_syntax.specs.Items.{Word, Item, Object, Function}
use Rattle.meaning_syntax.specs.Binding.{item_name}
use Rattle.meaning_syntax.specs.Trees.{unit_tree}
use Rattle.meaning_first_rules.specs.Typing.{flagged}
use Rattle.meaning_typing.specs.Facts.{Fact, Unknown, Expression, Declared, DeclaredFact, Addressed, Specified, fact_at}
use Rattle.meaning_typing.specs.MemberRows.{is_member_declaration, is_unbounded}
use Rattle.meaning_typing.specs.Names.{address_of_name, common_type, declared_behind, declared_with, first_initializer, initializer_behind, linked_types, links_name, type_of_name}
use Rattle.meaning_typing.specs.Surroundings.{Surrounding, AreSurroundings, asked, of_unit, surrounding_at}
use Rattle.meaning_typing.specs.Units.{UnitNodes, children_at, kind_at, node_at}
use Rattle.meaning_typing.specs.WholeTyping.{whole_row_at}
use Rattle.meaning_typing.specs.laws.Surroundings.{IsLaidUnit}
use Rattle.meaning_judgements.specs.WholeFacts.{AreWholeFacts}
use Rattle.meaning_first_units.specs.Units.{IsFirstFormUnit, Renaming, without_link}
use Rattle.meaning_first_units.proofs.Declarators.{declarator-fact, extern_int, object_declared, object-linked, specifiers-fact}
use Rattle.meaning_first_units.proofs.Declared.{OfFunction, OfObject, by-parent}
use Rattle.meaning_first_units.proofs.Declaring.{NamedSo, NotDeclared, declared-by-name, is_quiet, never, nothing-declared}
use Rattle.meaning_first_units.proofs.Objects.{ObjectShape}
use Rattle.meaning_first_units.proofs.Reaching.{AllFine, above, is_declarator_kind, last-or-part, reach}
use Rattle.meaning_first_units.proofs.Renamed.{renamed_flags, renamed_scalar}
use Rattle.meaning_first_units.proofs.Rows.{located, name-fact}
use Rattle.meaning_first_units.proofs.Saying.{told-item}
use Rattle.meaning_first_units.proofs.Scalars.{scalar}
use Rattle.meaning_first_units.proofs.Standing.{Makes, handles_of, makes-kind, plain}
use Rattle.meaning_first_units.proofs.Types.{common-one, linked-one}

-- Kinds

pub fine-kind : (items : List Item) (tree : SyntaxTree) → AllFine items tree → (kind : NodeKind) → kind ≡ kind_of tree → (is_quiet kind || is_declarator_kind kind) ≡ true
fine-kind items (Node kinds.Declaration token name number parts) fine kind is = ap (λ k. is_quiet k || is_declarator_kind k) is
fine-kind items (Node kinds.FunctionDefinition token name number parts) fine kind is = ap (λ k. is_quiet k || is_declarator_kind k) is
fine-kind items (Node own token name number parts) fine kind is = ap (λ k. is_quiet k || is_declarator_kind k) is ∙ fine.0.0

quiet-or-declarator : (kind : NodeKind) → (is_quiet kind || is_declarator_kind kind) ≡ true → (kind ≡ kinds.Declarator) ⊎ (is_quiet kind ≡ true)
quiet-or-declarator kinds.Declarator is = inl refl
quiet-or-declarator kind is = inr is

-- the type of what an item declares
abbrev item_type : Renaming → Item → TypeTree
item_type renaming (Object words stars name) = renamed_scalar renaming stars (flagged no_flags words)
item_type renaming (Function name statements) = scalar 0 no_flags

abbrev is_function_item : Item → Bool
is_function_item (Object words stars name) = false
is_function_item (Function name statements) = true

either-same : {A : Type 0} (test : Bool) (one : A) → (if test then one else one) ≡ one
either-same true one = refl
either-same false one = refl

-- equal facts declare the same
abbrev fact_type : TypeTree → Fact → TypeTree
fact_type otherwise (Declared declaration) = declaration.type_
fact_type otherwise fact = otherwise

abbrev fact_name : Fact → List ℕ
fact_name (Declared declaration) = declaration.name
fact_name fact = []

pub root-of : (renaming : Renaming) (nodes : UnitNodes) (items : List Item) → IsTreeOf (plain nodes) (with_names renaming (unit_tree items))
    → Makes renaming nodes (length nodes - 1) (unit_tree items)
root-of renaming nodes items is_tree =
    let last : end_of (plain nodes) - 1 ≡ length nodes - 1 = omega (arith, length-map nodes without_link) in
    subst (λ handle. Makes renaming nodes handle (unit_tree items)) last is_tree.1

module _ (renaming : Renaming) (nodes : UnitNodes) (items : List Item) (surroundings : List Surrounding) (facts : List Fact) (unit : IsLaidUnit nodes) (form : IsFirstFormUnit renaming nodes items)
    (are : AreSurroundings nodes surroundings) (known : AreWholeFacts nodes surroundings facts) where
  pub some-nodes : 0 < length nodes
  some-nodes = omega (arith, form.is_tree.0, length-map nodes without_link)

  pub root : Makes renaming nodes (length nodes - 1) (unit_tree items)
  root = root-of renaming nodes items form.is_tree

  pub fact-is : (handle : ℕ) → handle < length nodes → fact_at facts handle ≡ (whole_row_at nodes surroundings (take handle facts) handle).fact
  fact-is handle within = get_or_from_slice_get facts handle _ Unknown (known.each handle within)

  pub earlier-is : (handle earlier : ℕ) → earlier < handle → fact_at (take handle facts) earlier ≡ fact_at facts earlier
  earlier-is handle earlier before = get_or-take handle facts earlier Unknown before

  pub around-is :
      (parent place : ℕ) (child : ℕ × ℕ) → slice_get (node_at nodes parent).children place ≡ Some child
      → surrounding_at surroundings child.0 ≡ asked (kind_at nodes parent) parent place (role_of child.1) (surrounding_at surroundings parent)
  around-is parent place child at = get_or_from_slice_get surroundings child.0 _ (of_unit (length surroundings)) (are.parts parent place child at)

  -- Objects

  object-stands :
      (parent : ℕ) (words : List Word) (stars : ℕ) (name : List ℕ) (shape : ObjectShape renaming nodes parent words stars name)
      → surrounding_at surroundings shape.second.0 ≡ asked kinds.Declaration parent 1 (role_of shape.second.1) (surrounding_at surroundings parent)
  object-stands parent words stars name shape =
      around-is parent 1 shape.second (ap (λ children. slice_get children 1) shape.parts)
      ∙ ap (λ kind. asked kind parent 1 (role_of shape.second.1) (surrounding_at surroundings parent)) shape.is_kind

  -- no initializer stands behind it
  object-alone :
      (parent : ℕ) (words : List Word) (stars : ℕ) (name : List ℕ) (shape : ObjectShape renaming nodes parent words stars name)
      → initializer_behind nodes (surrounding_at surroundings shape.second.0) shape.second.0 ≡ shape.second.0
  object-alone parent words stars name shape =
      let parts : children_at nodes parent ≡ shape.first.0 ∷ shape.second.0 ∷ [] = ap handles_of shape.parts in
      ap (λ surrounding. initializer_behind nodes surrounding shape.second.0) (object-stands parent words stars name shape)
      ∙ ap (λ children. first_initializer nodes shape.second.0 (drop 2 children)) parts

  object-declares :
      (parent : ℕ) (words : List Word) (stars : ℕ) (name : List ℕ) (shape : ObjectShape renaming nodes parent words stars name)
      → fact_at facts shape.second.0
      ≡ Declared (object_declared nodes (asked kinds.Declaration parent 1 (role_of shape.second.1) (surrounding_at surroundings parent)) (renaming name) stars
      (renamed_flags renaming (flagged no_flags words)))
  object-declares parent words stars name shape =
      let first = shape.first.0 in
      let second = shape.second.0 in
      let flags = renamed_flags renaming (flagged no_flags words) in
      let parts : children_at nodes parent ≡ first ∷ second ∷ [] = ap handles_of shape.parts in
      let in_order : first < second = subst (λ (children : List ℕ). get_or children 0 (length nodes) < get_or children 1 (length nodes)) parts (form.in_order parent shape.is_kind) in
      let around = object-stands parent words stars name shape in
      let specified : fact_at (take second facts) first ≡ Specified (extern_int flags) =
      earlier-is second first in_order ∙ fact-is first shape.specifiers.within
      ∙ specifiers-fact nodes surroundings (take first facts) first shape.specifiers.attributes flags shape.specifiers.is_kind shape.specifiers.specify shape.specifiers.marks in
      fact-is second shape.second_within
      ∙ declarator-fact nodes surroundings (take second facts) second parent first (role_of shape.second.1) (surrounding_at surroundings parent) (renaming name) stars flags
      shape.is_declarator shape.is_named around shape.is_kind parts shape.specifiers.is_kind specified shape.of_stars

  -- items of one name are one
  same-item : (one other : Item) → Contains items one → Contains items other → renaming (item_name one) ≡ renaming (item_name other) → one ≡ other
  same-item one other among also same = told-item renaming items one other form.told_apart form.bound among also same

  -- Declarators

  pub declarator-item : (handle : ℕ) → handle < length nodes → kind_at nodes handle ≡ kinds.Declarator → OfObject renaming nodes items handle ⊎ OfFunction renaming nodes items handle
  declarator-item handle within is =
      elim (last-or-part handle (length nodes) within) [
        | inl last ↦
            absurd (never (ap is_declarator_kind (sym (ap (kind_at nodes) last ∙ makes-kind renaming nodes (length nodes - 1) (unit_tree items) root) ∙ is)))
        | inr part ↦
            let over = above renaming nodes items unit root handle part in
            let parent = reach renaming nodes items unit root over.parent over.within in
            by-parent renaming nodes items form.told_apart handle over.parent over.place over.tag parent.tree is over.at parent.makes parent.all
      ]

  -- what a node declares with linkage under the name of an object has the object's type
  pub declared-type :
      (words : List Word) (stars : ℕ) (name : List ℕ) → Contains items (Object words stars name)
      → (handle : ℕ) (declaration : DeclaredFact) → handle < length nodes → fact_at facts handle ≡ Declared declaration → links_name (renaming name) declaration ≡ true
      → declaration.type_ ≡ renamed_scalar renaming stars (flagged no_flags words)
  declared-type words stars name among handle declaration within is links =
      let own : declaration.name ≡ renaming name =
      (bytes_eq-Decides declaration.name (renaming name)).0 (and_parts declaration.has_linkage (bytes_eq declaration.name (renaming name)) links).1 in
      let fine = reach renaming nodes items unit root handle within in
      elim (quiet-or-declarator (kind_at nodes handle) (fine-kind items fine.tree fine.all (kind_at nodes handle) (makes-kind renaming nodes handle fine.tree fine.makes))) [
        | inl declarator ↦ elim (declarator-item handle within declarator) [
          | inl object ↦ of-object object own
          | inr function ↦ absurd (of-function function declarator own)
        ]
        | inr quiet ↦
            absurd (subst NotDeclared (sym (fact-is handle within) ∙ is)
            (nothing-declared nodes surroundings (take handle facts) handle quiet (λ is_name. (form.linked handle is_name).is_declarator)))
      ]
    where
      of-object : OfObject renaming nodes items handle → declaration.name ≡ renaming name → declaration.type_ ≡ renamed_scalar renaming stars (flagged no_flags words)
      of-object object own =
          let same_fact = sym is ∙ ap (fact_at facts) object.is ∙ object-declares object.parent object.words object.stars object.name object.shape in
          let same_name : renaming object.name ≡ renaming name = sym (ap fact_name same_fact) ∙ own in
          let same = same-item (Object object.words object.stars object.name) (Object words stars name) object.among among same_name in
          ap (fact_type (scalar 0 no_flags)) same_fact ∙ ap (item_type renaming) same

      of-function : OfFunction renaming nodes items handle → kind_at nodes handle ≡ kinds.Declarator → declaration.name ≡ renaming name → ⊥
      of-function function declarator own =
          let no_member : is_member_declaration (kind_at nodes (surrounding_at surroundings handle).parent) ≡ false =
          ap (λ (s : Surrounding). is_member_declaration (kind_at nodes s.parent)) (around-is function.parent function.place (handle, function.tag) function.at)
          ∙ ap is_member_declaration function.is_kind in
          let named : declaration.name ≡ (node_at nodes handle).name =
          subst (NamedSo (node_at nodes handle).name) (sym (fact-is handle within) ∙ is) (declared-by-name nodes surroundings (take handle facts) handle declarator no_member) in
          let same =
          same-item (Function function.name function.statements) (Object words stars name) function.among among
          (sym function.is_named ∙ sym named ∙ own) in
          never (sym (ap is_function_item same))

  -- a name that an object has designates a place of the object's type
  pub object-name :
      (words : List Word) (stars : ℕ) (name : List ℕ) → Contains items (Object words stars name)
      → (handle : ℕ) → handle < length nodes → kind_at nodes handle ≡ kinds.Name → (node_at nodes handle).name ≡ renaming name
      → (address : Addressed) × (fact_at facts handle ≡ Expression (located (renamed_scalar renaming stars (flagged no_flags words)) address))
  object-name words stars name among handle within is_name is_named =
      let link = form.linked handle is_name in
      elim (declarator-item declarator (omega (arith, link.before, within)) link.is_declarator) [
        | inl object ↦ of-object object
        | inr function ↦
            let same =
            same-item (Function function.name function.statements) (Object words stars name) function.among among
            (sym function.is_named ∙ link.same ∙ is_named) in
            absurd (never (sym (ap is_function_item same)))
      ]
    where
      declarator : ℕ
      declarator = (node_at nodes handle).number

      type_ : TypeTree
      type_ = renamed_scalar renaming stars (flagged no_flags words)

      of-object : OfObject renaming nodes items declarator → (address : Addressed) × (fact_at facts handle ≡ Expression (located type_ address))
      of-object object =
          let link = form.linked handle is_name in
          let shape = object.shape in
          let outer = surrounding_at surroundings object.parent in
          let role = role_of shape.second.1 in
          let own_name = renaming object.name in
          let own_flags = renamed_flags renaming (flagged no_flags object.words) in
          let declaration = object_declared nodes (asked kinds.Declaration object.parent 1 role outer) own_name object.stars own_flags in
          let same_name : own_name ≡ renaming name = sym shape.is_named ∙ ap (λ h. (node_at nodes h).name) (sym object.is) ∙ link.same ∙ is_named in
          let same = same-item (Object object.words object.stars object.name) (Object words stars name) object.among among same_name in
          let is_fact : fact_at facts declarator ≡ Declared declaration =
          ap (fact_at facts) object.is ∙ object-declares object.parent object.words object.stars object.name shape in
          let is_alone : initializer_behind nodes (surrounding_at surroundings declarator) declarator ≡ declarator =
          subst (λ h. initializer_behind nodes (surrounding_at surroundings h) h ≡ h) (sym object.is)
          (object-alone object.parent object.words object.stars object.name shape) in
          let completed : declared_behind nodes surroundings (take handle facts) declarator ≡ Declared declaration =
          ap (λ initializer. declared_with (fact_at (take handle facts) declarator) (fact_at (take handle facts) initializer)) is_alone
          ∙ ap (λ fact. declared_with fact fact) (earlier-is handle declarator link.before ∙ is_fact)
          ∙ either-same (is_unbounded declaration.type_) (Declared declaration) in
          let all = linked-one type_ own_name (take handle facts) (λ k other at links.
          let before : k < handle = omega (arith, slice_get_within (take handle facts) k (Declared other) at, length-take handle facts) in
          declared-type words stars name among k other (omega (arith, before, within))
          (sym (earlier-is handle k before) ∙ get_or_from_slice_get (take handle facts) k (Declared other) Unknown at)
          (subst (λ n. links_name n other ≡ true) same_name links)) in
          let of_type : type_of_name (take handle facts) declaration ≡ type_ =
          ap (λ (b : Bool). if b then common_type declaration.type_ (linked_types own_name (take handle facts)) else declaration.type_)
          (object-linked nodes object.parent role outer own_name object.stars own_flags shape.is_kind)
          ∙ common-one type_ declaration.type_ (linked_types own_name (take handle facts)) (ap (item_type renaming) same) all in (
            address_of_name declaration,
            fact-is handle within
                ∙ name-fact nodes surroundings (take handle facts) handle declaration stars (renamed_flags renaming (flagged no_flags words)) is_name link.is_declarator
                completed refl refl of_type,
          )
