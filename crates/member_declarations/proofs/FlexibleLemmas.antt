-- What is kept of a body tells which of its members may be flexible.
use Rattle.std.proofs.Common.{◌≡◌, ℕ, zero, suc, ◌+◌, ◌<◌, ◌≤◌, nat_eq, Bool, true, false, ◌&&◌, ◌||◌, not, List, [], ◌∷◌, drop, slice_get, Some, None, if◌then◌else◌, inl, inr, refl, sym, ap, ◌∙◌, arith}
use Rattle.std.specs.List.{list_any}
use Rattle.std.proofs.lemmas.Bool.{eq-eqb}
use Rattle.std.proofs.lemmas.Bool.Decides.{eqb_tells, nat_tests}
use Rattle.std.proofs.lemmas.Option.{none-some, same_Some}
use Rattle.vocabulary.specs.declared.node_kind.NodeKind.{NodeKind}
use Rattle.vocabulary.specs.declared.node_kind.NodeKind.TheVariants as kinds
use Rattle.meaning_typing.specs.MemberDeclarations.{MemberEntry, is_empty, is_tagless_among, member_entries}
use Rattle.meaning_typing.specs.MemberRows.{declares_members, has_no_entry, has_other_member, is_last_entry, is_member_declaration, is_other_member, is_structure, may_be_flexible, specifier_around}
use Rattle.meaning_typing.specs.Surroundings.{Surrounding, surrounding_at}
use Rattle.meaning_typing.specs.Units.{UnitNodes, child_at, children_at, kind_at, node_at}
use Rattle.member_declarations.specs.declared.flexible.FlexiblePlace.{FlexiblePlace}
use Rattle.member_declarations.specs.declared.flexible.NamedMembers.{NamedMembers}
use Rattle.member_declarations.specs.declared.flexible.NamedMembers.TheVariants as names
use Rattle.member_declarations.specs.Flexible.{IsToldOf, flexible_over, has_member_besides, has_named_besides, is_last_at, last_entry, named_over, nothing_kept, with_declaration, with_kind, with_last, with_name, with_name_of, with_part}

-- Tests

or-false : (test : Bool) → test ≡ (test || false)
or-false true = refl
or-false false = refl

or-true : (test : Bool) → true ≡ (test || true)
or-true true = refl
or-true false = refl

or-through : (a b c : Bool) → (a || (b || c)) ≡ ((a || b) || c)
or-through true b c = refl
or-through false b c = refl

and-true : (test : Bool) → test ≡ (test && true)
and-true true = refl
and-true false = refl

and-false : (test : Bool) → false ≡ (test && false)
and-false true = refl
and-false false = refl

-- neither one nor the other
neither : (test one other : Bool) → ((test && not one) && not other) ≡ (test && not (one || other))
neither true true other = refl
neither true false other = refl
neither false one other = refl

-- Members with names

besides_more : (members : NamedMembers) (handle declarator : ℕ)
    → has_named_besides (with_name members handle) declarator ≡ (has_named_besides members declarator || not (nat_eq declarator handle))
besides_more names.None handle declarator = refl
besides_more (names.One first) handle declarator = by (nat_eq first handle) refl
  where
    by : (test : Bool) → nat_eq first handle ≡ test
        → has_named_besides (if test then names.One first else names.Several) declarator ≡ (not (nat_eq declarator first) || not (nat_eq declarator handle))
    by true same = grind (arith, nat_tests)
    by false differs = grind (arith, nat_tests)
besides_more names.Several handle declarator = refl

-- the last entry of some
last_some : (found : ℕ) (entries : List MemberEntry) → (last : ℕ) × (last_entry (Some found) entries ≡ Some last)
last_some found [] = (found, refl)
last_some found (entry ∷ entries) = last_some entry.declarator entries

last_is : (entry : MemberEntry) (entries : List MemberEntry) (declarator last : ℕ) → last_entry (Some entry.declarator) entries ≡ Some last
    → nat_eq declarator last ≡ is_last_entry declarator (entry ∷ entries)
last_is entry [] declarator last is = ap (nat_eq declarator) (sym (same_Some entry.declarator last is))
last_is entry (other ∷ entries) declarator last is = last_is other entries declarator last is

module _ (nodes : UnitNodes) where
  besides_entry : (members : NamedMembers) (entry : MemberEntry) (declarator : ℕ)
      → has_named_besides (with_name_of nodes members entry.declarator) declarator
      ≡ (has_named_besides members declarator || is_other_member nodes declarator entry)
  besides_entry members entry declarator = by (not (is_empty (node_at nodes entry.declarator).name))
    where
      by : (test : Bool) → has_named_besides (if test then with_name members entry.declarator else members) declarator
          ≡ (has_named_besides members declarator || (test && not (nat_eq declarator entry.declarator)))
      by true = besides_more members entry.declarator declarator
      by false = or-false (has_named_besides members declarator)

  besides_over : (members : NamedMembers) (entries : List MemberEntry) (declarator : ℕ)
      → has_named_besides (named_over nodes members entries) declarator
      ≡ (has_named_besides members declarator || list_any (λ other. is_other_member nodes declarator other) entries)
  besides_over members [] declarator = or-false (has_named_besides members declarator)
  besides_over members (entry ∷ entries) declarator =
      besides_over (with_name_of nodes members entry.declarator) entries declarator
      ∙ ap (λ here. here || list_any (λ other. is_other_member nodes declarator other) entries) (besides_entry members entry declarator)
      ∙ sym (or-through (has_named_besides members declarator) (is_other_member nodes declarator entry) (list_any (λ other. is_other_member nodes declarator other) entries))

  -- one declaration, or another part
  module _ (place part : ℕ) (kept : FlexiblePlace) where
    abbrev tagless : Bool
    tagless = is_tagless_among nodes (children_at nodes (child_at nodes part 0))

    besides_entries : (entries : List MemberEntry) (declarator : ℕ)
        → has_member_besides (with_declaration nodes place part kept entries) declarator
        ≡ (has_member_besides kept declarator || has_other_member nodes declarator part entries)
    besides_entries [] declarator = by tagless
      where
        by : (test : Bool) → has_member_besides (if test then record { last = None; named = kept.named; has_anonymous = true } else kept) declarator
            ≡ (has_member_besides kept declarator || test)
        by true = or-true (has_member_besides kept declarator)
        by false = or-false (has_member_besides kept declarator)
    besides_entries (entry ∷ entries) declarator =
        let last = last_some entry.declarator entries in
        ap (λ found. has_member_besides (with_last nodes place part kept (entry ∷ entries) found) declarator) last.1
        ∙ ap (λ others. kept.has_anonymous || others) (besides_over kept.named (entry ∷ entries) declarator)
        ∙ or-through kept.has_anonymous (has_named_besides kept.named declarator) (list_any (λ other. is_other_member nodes declarator other) (entry ∷ entries))

    besides_part : (declarator : ℕ) → has_member_besides (with_part nodes place part kept) declarator
        ≡ (has_member_besides kept declarator || (is_member_declaration (kind_at nodes part) && has_other_member nodes declarator part (member_entries nodes part)))
    besides_part declarator = by (kind_at nodes part)
      where
        by : (kind : NodeKind) → has_member_besides (with_kind nodes kind place part kept) declarator
            ≡ (has_member_besides kept declarator || (is_member_declaration kind && has_other_member nodes declarator part (member_entries nodes part)))
        by kinds.MemberDeclaration = besides_entries (member_entries nodes part) declarator
        by kind = or-false (has_member_besides kept declarator)

    -- what is kept of another place stays, unless members are declared
    elsewhere_entries : (entries : List MemberEntry) (declarator other : ℕ) → nat_eq other place ≡ false
        → is_last_at (with_declaration nodes place part kept entries).last declarator other
        ≡ (is_last_at kept.last declarator other && not (not (has_no_entry entries) || tagless))
    elsewhere_entries [] declarator other differs = by tagless
      where
        by : (test : Bool) → is_last_at (if test then record { last = None; named = kept.named; has_anonymous = true } else kept).last declarator other
            ≡ (is_last_at kept.last declarator other && not test)
        by true = and-false (is_last_at kept.last declarator other)
        by false = and-true (is_last_at kept.last declarator other)
    elsewhere_entries (entry ∷ entries) declarator other differs =
        let last = last_some entry.declarator entries in
        ap (λ found. is_last_at (with_last nodes place part kept (entry ∷ entries) found).last declarator other) last.1
        ∙ ap (λ same. same && nat_eq declarator last.0) differs
        ∙ and-false (is_last_at kept.last declarator other)

    elsewhere_part : (declarator other : ℕ) → nat_eq other place ≡ false
        → is_last_at (with_part nodes place part kept).last declarator other ≡ (is_last_at kept.last declarator other && not (declares_members nodes part))
    elsewhere_part declarator other differs = by (kind_at nodes part)
      where
        by : (kind : NodeKind) → is_last_at (with_kind nodes kind place part kept).last declarator other
            ≡ (is_last_at kept.last declarator other
            && not (is_member_declaration kind && (not (has_no_entry (member_entries nodes part)) || tagless)))
        by kinds.MemberDeclaration = elsewhere_entries (member_entries nodes part) declarator other differs
        by kind = and-true (is_last_at kept.last declarator other)

    -- at its own place a declaration has its last declarator
    here_entries : (entries : List MemberEntry) (declarator : ℕ) → is_last_at kept.last declarator place ≡ false
        → is_last_at (with_declaration nodes place part kept entries).last declarator place ≡ is_last_entry declarator entries
    here_entries [] declarator not_yet = by tagless
      where
        by : (test : Bool) → is_last_at (if test then record { last = None; named = kept.named; has_anonymous = true } else kept).last declarator place ≡ false
        by true = refl
        by false = not_yet
    here_entries (entry ∷ entries) declarator not_yet =
        let last = last_some entry.declarator entries in
        ap (λ found. is_last_at (with_last nodes place part kept (entry ∷ entries) found).last declarator place) last.1
        ∙ ap (λ same. same && nat_eq declarator last.0) (eq-eqb place place refl)
        ∙ last_is entry entries declarator last.0 last.1

    here_part : (declarator : ℕ) → is_last_at kept.last declarator place ≡ false → kind_at nodes part ≡ kinds.MemberDeclaration
        → is_last_at (with_part nodes place part kept).last declarator place ≡ is_last_entry declarator (member_entries nodes part)
    here_part declarator not_yet is =
        ap (λ kind. is_last_at (with_kind nodes kind place part kept).last declarator place) is
        ∙ here_entries (member_entries nodes part) declarator not_yet

  -- All parts

  besides_parts : (parts : List ℕ) (place : ℕ) (kept : FlexiblePlace) (declarator : ℕ)
      → has_member_besides (flexible_over nodes place kept parts) declarator
      ≡ (has_member_besides kept declarator
      || list_any (λ part. is_member_declaration (kind_at nodes part) && has_other_member nodes declarator part (member_entries nodes part)) parts)
  besides_parts [] place kept declarator = or-false (has_member_besides kept declarator)
  besides_parts (part ∷ parts) place kept declarator =
      let other = (λ (part : ℕ). is_member_declaration (kind_at nodes part) && has_other_member nodes declarator part (member_entries nodes part)) in
      besides_parts parts (place + 1) (with_part nodes place part kept) declarator
      ∙ ap (λ here. here || list_any other parts) (besides_part place part kept declarator)
      ∙ sym (or-through (has_member_besides kept declarator) (other part) (list_any other parts))

  differs : (other place : ℕ) → (other ≡ place → ⊥) → nat_eq other place ≡ false
  differs other place not = elim (eqb_tells other place) [
    | inl same ↦ absurd (not same.1)
    | inr different ↦ different.0
  ]

  -- a place that was passed
  last_passed : (parts : List ℕ) (place : ℕ) (kept : FlexiblePlace) (declarator other : ℕ) → other < place
      → is_last_at (flexible_over nodes place kept parts).last declarator other
      ≡ (is_last_at kept.last declarator other && not (list_any (λ part. declares_members nodes part) parts))
  last_passed [] place kept declarator other before = and-true (is_last_at kept.last declarator other)
  last_passed (part ∷ parts) place kept declarator other before =
      let later = list_any (λ part. declares_members nodes part) parts in
      last_passed parts (place + 1) (with_part nodes place part kept) declarator other (omega (arith, before))
      ∙ ap (λ here. here && not later) (elsewhere_part place part kept declarator other (differs other place (λ same. omega (arith, same, before))))
      ∙ neither (is_last_at kept.last declarator other) (declares_members nodes part) later

  -- nothing is kept of this place and of later ones
  abbrev IsBefore : FlexiblePlace → ℕ → Type 0
  IsBefore kept place = (declarator other : ℕ) → place ≤ other → is_last_at kept.last declarator other ≡ false

  part_before : (place part : ℕ) (kept : FlexiblePlace) → IsBefore kept place → IsBefore (with_part nodes place part kept) (place + 1)
  part_before place part kept before = λ declarator other behind.
      elsewhere_part place part kept declarator other (differs other place (λ same. omega (arith, same, behind)))
      ∙ ap (λ here. here && not (declares_members nodes part)) (before declarator other (omega (arith, behind)))

  last_there : (parts : List ℕ) (place : ℕ) (kept : FlexiblePlace) → IsBefore kept place → (index declaration : ℕ) → slice_get parts index ≡ Some declaration
      → kind_at nodes declaration ≡ kinds.MemberDeclaration → (declarator : ℕ)
      → is_last_at (flexible_over nodes place kept parts).last declarator (place + index)
      ≡ (is_last_entry declarator (member_entries nodes declaration) && not (list_any (λ part. declares_members nodes part) (drop (index + 1) parts)))
  last_there [] place kept before index declaration found is declarator = absurd (none-some declaration found)
  last_there (part ∷ parts) place kept before zero declaration found is declarator =
      let same : part ≡ declaration = same_Some part declaration found in
      let later = list_any (λ part. declares_members nodes part) parts in
      ap (is_last_at (flexible_over nodes (place + 1) (with_part nodes place part kept) parts).last declarator) here
      ∙ last_passed parts (place + 1) (with_part nodes place part kept) declarator place (omega arith)
      ∙ ap (λ last. last && not later)
      (here_part place part kept declarator (before declarator place (omega arith)) (ap (kind_at nodes) same ∙ is)
      ∙ ap (λ part. is_last_entry declarator (member_entries nodes part)) same)
    where
      here : place + 0 ≡ place
      here = omega arith
  last_there (part ∷ parts) place kept before (suc index) declaration found is declarator =
      ap (is_last_at (flexible_over nodes (place + 1) (with_part nodes place part kept) parts).last declarator) there
      ∙ last_there parts (place + 1) (with_part nodes place part kept) (part_before place part kept before) index declaration found is declarator
      ∙ ap (λ next. is_last_entry declarator (member_entries nodes declaration) && not (list_any (λ part. declares_members nodes part) (drop next (part ∷ parts)))) next
    where
      there : place + suc index ≡ place + 1 + index
      there = omega arith

      next : suc (index + 1) ≡ suc index + 1
      next = omega arith

  pub body_told : (list : ℕ) → IsToldOf nodes list (flexible_over nodes 0 nothing_kept (children_at nodes list))
  body_told list =
      record {
        last = λ declaration place found is declarator.
            ap (is_last_at (flexible_over nodes 0 nothing_kept (children_at nodes list)).last declarator) (from_zero place)
            ∙ last_there (children_at nodes list) 0 nothing_kept (λ declarator other behind. refl) place declaration found is declarator;
        others = λ declarator. besides_parts (children_at nodes list) 0 nothing_kept declarator;
      }
    where
      from_zero : (place : ℕ) → place ≡ 0 + place
      from_zero place = omega arith

  -- a declaration that stands in the body at its place
  pub flexible_told : (surroundings : List Surrounding) (declarator declaration : ℕ) (kept : FlexiblePlace)
      → IsToldOf nodes (surrounding_at surroundings declaration).parent kept
      → slice_get (children_at nodes (surrounding_at surroundings declaration).parent) (surrounding_at surroundings declaration).place ≡ Some declaration
      → kind_at nodes declaration ≡ kinds.MemberDeclaration
      → (is_structure (kind_at nodes (specifier_around surroundings declaration))
      && (is_last_at kept.last declarator (surrounding_at surroundings declaration).place && has_member_besides kept declarator))
      ≡ may_be_flexible nodes surroundings declarator declaration
  flexible_told surroundings declarator declaration kept told there is =
      (λ i. is_structure (kind_at nodes (specifier_around surroundings declaration))
      && (told.last declaration (surrounding_at surroundings declaration).place there is declarator i && told.others declarator i))
