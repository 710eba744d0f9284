-- The members that a body tells lie in what was told before its specifier.
use Rattle.std.proofs.Common.{◌≡◌, ℕ, zero, suc, ◌+◌, ◌<◌, ◌≤◌, nat_eq, Bool, true, false, ◌||◌, ◌&&◌, inl, inr, List, [], ◌∷◌, ◌++◌, length, map, get_or, Option, Some, None, slice_get, refl, sym, ap, subst, ◌∙◌, arith, if◌then◌else◌}
use Rattle.std.specs.List.{flat_map, list_any}
use Rattle.std.proofs.lemmas.Option.{get_or_from_slice_get}
use Rattle.std.proofs.lemmas.Bool.Decides.{eqb_tells}
use Rattle.vocabulary.specs.Roles.{role_of}
use Rattle.vocabulary.specs.declared.node_kind.NodeKind.{NodeKind}
use Rattle.vocabulary.specs.declared.node_kind.NodeKind.TheVariants as kinds
use Rattle.meaning_types.specs.Types.{TypeTree, Typed, VoidTree, IntegerTree, RestrictedTree, PointerTree, ArrayTree, FunctionTree, AggregateTree}
use Rattle.meaning_layout.specs.Members.{DeclaredMember}
use Rattle.meaning_typing.specs.Aggregates.{Bodies}
use Rattle.meaning_typing.specs.Declarators.{specifiers_of, type_declared}
use Rattle.meaning_typing.specs.Facts.{Fact, fact_at}
use Rattle.meaning_typing.specs.MemberDeclarations.{BodyMember, MemberEntry, PendingMembers, attributes_behind, bodies_at, bodies_before, body_member, declared_body, entry_member, has_member_list, is_empty, is_member_list, is_tagless, is_type_of_tagless, member_alignment, member_entries, member_list, member_lists, members_by, members_of_list, members_of_part, name_said, nameless_of_type, pending_from, pending_with, specified_type, specifier_bodies, type_of_entry, width_said}
use Rattle.meaning_typing.specs.MemberRows.{is_member_declaration}
use Rattle.meaning_typing.specs.Rows.{Row}
use Rattle.meaning_typing.specs.Surroundings.{Surrounding, AreSurroundings, asked, of_unit, surrounding_at}
use Rattle.meaning_typing.specs.Units.{UnitNodes, node_at, kind_at, children_at, children_from, child_at}
use Rattle.meaning_typing.specs.laws.Surroundings.{IsLaidUnit}
use Rattle.meaning_units.specs.WholeRows.{AreFirstRows, facts_of}
use Rattle.meaning_nested.proofs.Heights.{AllLieAmong, LieAmong, LiesAmong, lies-more}
use Rattle.meaning_nested.proofs.Tellings.{tells-itself, tells-more, tells_before}
use Rattle.meaning_nested.proofs.Children.{AreChildren, IsChild, are-children, are-children-from, child-before, child-passes, first-is}
use Rattle.meaning_nested.proofs.Known.{declarator-lies, entry-lies}

-- Members of a body, before their alignments are dropped

abbrev OwnLieAmong : (ℕ → Bool) → List BodyMember → Type 0
OwnLieAmong among [] = Unit {0}
OwnLieAmong among (member ∷ members) = LiesAmong among member.declared.of × OwnLieAmong among members

own-dropped : (among : ℕ → Bool) (members : List BodyMember) → OwnLieAmong among members → LieAmong among (map (λ member. member.declared) members)
own-dropped among [] lie = tt
own-dropped among (member ∷ members) lie = (lie.0, own-dropped among members lie.1)

own-append : (among : ℕ → Bool) (members others : List BodyMember) → OwnLieAmong among members → OwnLieAmong among others → OwnLieAmong among (members ++ others)
own-append among [] others one other = other
own-append among (member ∷ members) others one other = (one.0, own-append among members others one.1 other)

own-member : (among : ℕ → Bool) (name : Option (List ℕ)) (width : Option ℕ) (written : ℕ) (type_ : Option TypeTree)
    → ((of : TypeTree) → type_ ≡ Some of → LiesAmong among of) → OwnLieAmong among (body_member name width written type_)
own-member among name width written None lies = tt
own-member among name width written (Some type_) lies = (lies type_ refl, tt)

-- where each of these handles has members that lie so
own-all : (among : ℕ → Bool) (nodes : UnitNodes) (parent : ℕ) (of : ℕ → List BodyMember) (handles : List ℕ) → AreChildren nodes parent handles
    → ((handle : ℕ) → IsChild nodes parent handle → OwnLieAmong among (of handle)) → OwnLieAmong among (flat_map of handles)
own-all among nodes parent of [] are lie = tt
own-all among nodes parent of (handle ∷ handles) are lie =
    own-append among (of handle) (flat_map of handles) (lie handle are.0) (own-all among nodes parent of handles are.1 lie)

-- Entries are declarators among the parts of their declaration

abbrev IsEntry : UnitNodes → (declaration : ℕ) → MemberEntry → Type 0
IsEntry nodes declaration entry = IsChild nodes declaration entry.declarator × (kind_at nodes entry.declarator ≡ kinds.Declarator)

abbrev AreEntries : UnitNodes → (declaration : ℕ) → List MemberEntry → Type 0
AreEntries nodes declaration [] = Unit {0}
AreEntries nodes declaration (entry ∷ entries) = IsEntry nodes declaration entry × AreEntries nodes declaration entries

module _ (nodes : UnitNodes) where
  entries-with : (declaration : ℕ) (kind : NodeKind) (handle : ℕ) (pending : PendingMembers) → kind_at nodes handle ≡ kind → IsChild nodes declaration handle
      → AreEntries nodes declaration pending.entries → AreEntries nodes declaration (pending_with kind handle pending).entries
  entries-with declaration kinds.AttributeList handle pending is child are = are
  entries-with declaration kinds.BitFieldWidth handle pending is child are = are
  entries-with declaration kinds.Declarator handle pending is child are = ((child, is), are)
  entries-with declaration kind handle pending is child are = are

  entries-from : (declaration : ℕ) (handles : List ℕ) → AreChildren nodes declaration handles → AreEntries nodes declaration (pending_from nodes handles).entries
  entries-from declaration [] are = tt
  entries-from declaration (handle ∷ handles) are =
      entries-with declaration (kind_at nodes handle) handle (pending_from nodes handles) refl are.0 (entries-from declaration handles are.1)

  entries-are : (declaration : ℕ) → AreEntries nodes declaration (member_entries nodes declaration)
  entries-are declaration = entries-from declaration (children_from nodes declaration 1) (are-children-from nodes declaration 1)

  own-entries : (among : ℕ → Bool) (declaration : ℕ) (of : MemberEntry → List BodyMember) (entries : List MemberEntry) → AreEntries nodes declaration entries
      → ((entry : MemberEntry) → IsEntry nodes declaration entry → OwnLieAmong among (of entry)) → OwnLieAmong among (flat_map of entries)
  own-entries among declaration of [] are lie = tt
  own-entries among declaration of (entry ∷ entries) are lie =
      own-append among (of entry) (flat_map of entries) (lie entry are.0) (own-entries among declaration of entries are.1 lie)

  -- Structures without a tag

  and-first : (one other : Bool) → (one && other) ≡ true → one ≡ true
  and-first true other is = refl
  and-first false other is = absurd (cc is)

  and-second : (one other : Bool) → (one && other) ≡ true → other ≡ true
  and-second true other is = is
  and-second false other is = absurd (cc is)

  equal-numbers : (one other : ℕ) → nat_eq one other ≡ true → one ≡ other
  equal-numbers one other is =
      elim (eqb_tells one other) [
        | inl same ↦ same.1
        | inr differ ↦ absurd (cc (sym is ∙ differ.0))
      ]

  tagless-lies-by : (handle number : ℕ) → is_tagless nodes handle (kind_at nodes handle) ≡ true → has_member_list nodes handle ≡ true
      → nat_eq (node_at nodes handle).number number ≡ true → tells_before nodes (suc handle) number ≡ true
  tagless-lies-by handle number tagless members same =
      subst (λ n. tells_before nodes (suc handle) n ≡ true) (equal-numbers (node_at nodes handle).number number same) (tells-itself nodes handle tagless members)

  tagless-lies : (handle : ℕ) (type_ : TypeTree) → is_type_of_tagless nodes type_ handle ≡ true → LiesAmong (tells_before nodes (suc handle)) type_
  tagless-lies handle (Typed VoidTree qualifiers flags) is = tt
  tagless-lies handle (Typed (IntegerTree kind) qualifiers flags) is = tt
  tagless-lies handle (Typed (RestrictedTree kind identity) qualifiers flags) is = tt
  tagless-lies handle (Typed (PointerTree target) qualifiers flags) is = tt
  tagless-lies handle (Typed (ArrayTree element length) qualifiers flags) is = absurd (cc is)
  tagless-lies handle (Typed (FunctionTree result parameters variadic) qualifiers flags) is = tt
  tagless-lies handle (Typed (AggregateTree number is_union) qualifiers flags) is =
      let tagless = and-first _ _ is in
      let others = and-second (is_tagless nodes handle (kind_at nodes handle)) _ is in
      tagless-lies-by handle number tagless (and-first _ _ others) (and-second (has_member_list nodes handle) _ others)

  module _ (unit : IsLaidUnit nodes) where
    nameless-lies : (among : ℕ → Bool) (declaration : ℕ) (type_ : Option TypeTree)
        → ((number : ℕ) → tells_before nodes declaration number ≡ true → among number ≡ true) → OwnLieAmong among (nameless_of_type nodes declaration type_)
    nameless-lies among declaration None more = tt
    nameless-lies among declaration (Some type_) more = by (list_any (λ handle. is_type_of_tagless nodes type_ handle) (children_at nodes (child_at nodes declaration 0))) refl
      where
        lies : list_any (λ handle. is_type_of_tagless nodes type_ handle) (children_at nodes (child_at nodes declaration 0)) ≡ true → LiesAmong among type_
        lies is =
            let specifiers = child_at nodes declaration 0 in
            let found = child-passes nodes specifiers (λ handle. is_type_of_tagless nodes type_ handle) (children_at nodes specifiers) (are-children nodes specifiers) is in
            let inner = child-before nodes unit specifiers found.0 found.1 in
            let outer = child-before nodes unit declaration specifiers (first-is nodes declaration found.0 found.1) in
            lies-more (tells_before nodes (suc found.0)) among
            (λ number told. more number (tells-more nodes (suc found.0) declaration number (omega (arith, inner, outer)) told)) type_ (tagless-lies found.0 type_ found.2)

        by : (is : Bool) → list_any (λ handle. is_type_of_tagless nodes type_ handle) (children_at nodes (child_at nodes declaration 0)) ≡ is
            → OwnLieAmong among (if is then body_member None None (member_alignment nodes declaration []) (Some type_) else [])
        by true is = (lies is, tt)
        by false is = tt

    module _ (surroundings : List Surrounding) (are : AreSurroundings nodes surroundings) (rows : List Row) (known : AreFirstRows nodes surroundings rows) where
      -- the node above a child
      above : (parent child : ℕ) → IsChild nodes parent child → (surrounding_at surroundings child).parent ≡ parent
      above parent child is =
          ap (λ (surrounding : Surrounding). surrounding.parent)
          (get_or_from_slice_get surroundings child (asked (kind_at nodes parent) parent is.0 (role_of is.1) (surrounding_at surroundings parent)) (of_unit (length surroundings))
          (are.parts parent is.0 (child, is.1) is.2))

      entry-lies-so : (among : ℕ → Bool) (declaration : ℕ) (entry : MemberEntry) → kind_at nodes declaration ≡ kinds.MemberDeclaration → IsEntry nodes declaration entry
          → ((number : ℕ) → tells_before nodes declaration number ≡ true → among number ≡ true) → OwnLieAmong among (entry_member nodes (facts_of rows) declaration entry)
      entry-lies-so among declaration entry kind is more =
          own-member among (name_said (node_at nodes entry.declarator).name) (width_said (facts_of rows) entry.width) (member_alignment nodes declaration entry.lists)
          (type_of_entry (node_at nodes entry.declarator).name (type_declared (fact_at (facts_of rows) entry.declarator)))
          (λ type_ has.
          entry-lies among (node_at nodes entry.declarator).name (type_declared (fact_at (facts_of rows) entry.declarator)) type_
          (λ named declares.
          lies-more (tells_before nodes entry.declarator) among
          (λ number told. more number (tells-more nodes entry.declarator declaration number (omega (arith, child-before nodes unit declaration entry.declarator is.0)) told)) type_
          (declarator-lies nodes surroundings rows known entry.declarator type_ is.1
          (ap is_member_declaration (ap (kind_at nodes) (above declaration entry.declarator is.0) ∙ kind)) named declares))
          has)

      members-by : (among : ℕ → Bool) (declaration : ℕ) (entries : List MemberEntry) → kind_at nodes declaration ≡ kinds.MemberDeclaration → AreEntries nodes declaration entries
          → ((number : ℕ) → tells_before nodes declaration number ≡ true → among number ≡ true) → OwnLieAmong among (members_by nodes (facts_of rows) declaration entries)
      members-by among declaration [] kind all more = nameless-lies among declaration (specified_type (specifiers_of nodes (facts_of rows) declaration)) more
      members-by among declaration (entry ∷ entries) kind all more =
          own-entries among declaration (λ member. entry_member nodes (facts_of rows) declaration member) (entry ∷ entries) all
          (λ one is. entry-lies-so among declaration one kind is more)

      part-lies : (among : ℕ → Bool) (kind : NodeKind) (handle : ℕ) → kind_at nodes handle ≡ kind
          → ((number : ℕ) → tells_before nodes handle number ≡ true → among number ≡ true) → OwnLieAmong among (members_of_part nodes (facts_of rows) kind handle)
      part-lies among kinds.MemberDeclaration handle is more = members-by among handle (member_entries nodes handle) is (entries-are handle) more
      part-lies among kind handle is more = tt

      list-lies : (among : ℕ → Bool) (list : ℕ) → ((number : ℕ) → tells_before nodes list number ≡ true → among number ≡ true)
          → OwnLieAmong among (members_of_list nodes (facts_of rows) list)
      list-lies among list more =
          own-all among nodes list (λ part. members_of_part nodes (facts_of rows) (kind_at nodes part) part) (children_at nodes list) (are-children nodes list)
          (λ part is.
          part-lies among (kind_at nodes part) part refl
          (λ number told. more number (tells-more nodes part list number (omega (arith, child-before nodes unit list part is)) told)))

      -- Bodies

      lists-by : (specifier : ℕ) (kind : NodeKind) (handle : ℕ) → IsChild nodes specifier handle → AreChildren nodes specifier (member_list kind handle)
      lists-by specifier kinds.MemberList handle is = (is, tt)
      lists-by specifier kind handle is = tt

      children-append : (specifier : ℕ) (handles others : List ℕ) → AreChildren nodes specifier handles → AreChildren nodes specifier others → AreChildren nodes specifier (handles ++ others)
      children-append specifier [] others one other = other
      children-append specifier (handle ∷ handles) others one other = (one.0, children-append specifier handles others one.1 other)

      lists-from : (specifier : ℕ) (handles : List ℕ) → AreChildren nodes specifier handles
          → AreChildren nodes specifier (flat_map (λ child. member_list (kind_at nodes child) child) handles)
      lists-from specifier [] all = tt
      lists-from specifier (handle ∷ handles) all =
          children-append specifier (member_list (kind_at nodes handle) handle) (flat_map (λ child. member_list (kind_at nodes child) child) handles)
          (lists-by specifier (kind_at nodes handle) handle all.0) (lists-from specifier handles all.1)

      bodies-lie : (specifier : ℕ) (lists : List ℕ) → AreChildren nodes specifier lists
          → AllLieAmong (tells_before nodes specifier)
          (map (λ list. ((node_at nodes specifier).number, declared_body nodes (attributes_behind nodes (surrounding_at surroundings specifier)) (members_of_list nodes (facts_of rows) list))) lists)
      bodies-lie specifier [] all = tt
      bodies-lie specifier (list ∷ lists) all = (
        own-dropped (tells_before nodes specifier) (members_of_list nodes (facts_of rows) list)
            (list-lies (tells_before nodes specifier) list
            (λ number told. tells-more nodes list specifier number (omega (arith, child-before nodes unit specifier list all.0)) told)),
        bodies-lie specifier lists all.1,
      )

      pub node-lies : (kind : NodeKind) (handle : ℕ) → AllLieAmong (tells_before nodes handle) (bodies_at nodes surroundings (facts_of rows) handle kind)
      node-lies kinds.StructSpecifier handle = bodies-lie handle (member_lists nodes handle) (lists-from handle (children_at nodes handle) (are-children nodes handle))
      node-lies kinds.UnionSpecifier handle = bodies-lie handle (member_lists nodes handle) (lists-from handle (children_at nodes handle) (are-children nodes handle))
      node-lies kind handle = tt
