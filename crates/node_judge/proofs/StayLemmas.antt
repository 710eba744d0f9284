-- What is said of a node by what is known of its parts, and of theirs, stays where more is known.
use Rattle.std.proofs.Common.{◌≡◌, ℕ, zero, suc, ◌<◌, ◌≤◌, not, is_none, drop, get_or, List, [], ◌∷◌, ◌++◌, All, map, length, Option, Some, None, IfSome, if◌then◌else◌, refl, sym, ap, ap₂, ◌∙◌, arith, length-append}
use Rattle.std.proofs.lemmas.List.Elements.{All-cons, All-head, All-nil, All-tail}
use Rattle.std.specs.List.{flat_map}
use Rattle.vocabulary.specs.declared.node_kind.NodeKind.{NodeKind}
use Rattle.vocabulary.specs.declared.node_kind.NodeKind.TheVariants as kinds
use Rattle.meaning_typing.specs.Declarators.{length_said, specifiers_of, specified_by, type_declared}
use Rattle.meaning_typing.specs.EnumRows.{enumerators_among, enumerators_of, expression_among, is_enumerator, is_expression_part}
use Rattle.meaning_typing.specs.Facts.{Fact, Unknown, SpecifiedFact, fact_at}
use Rattle.meaning_typing.specs.MemberDeclarations.{MemberEntry, PendingMembers, attributes_behind, bodies_at, bodies_before, body_member, declared_body, entry_member, member_alignment, member_entries, member_list, member_lists, members_by, members_of_list, members_of_part, name_said, nameless_member, nameless_of_type, pending_from, pending_with, specified_type, specifier_bodies, type_of_entry, width_said}
use Rattle.meaning_typing.specs.Surroundings.{Surrounding, surrounding_at}
use Rattle.meaning_typing.specs.Units.{UnitNodes, child_at, children_at, children_from, kind_at, node_at}
use Rattle.node_judge.specs.Bodies.{BodiesStay, PartsStandBefore}

-- Facts

front_fact : (facts more : List Fact) (handle : ℕ) → handle < length facts → fact_at (facts ++ more) handle ≡ fact_at facts handle
front_fact [] more handle within = absurd (omega (arith, within))
front_fact (fact ∷ facts) more zero within = refl
front_fact (fact ∷ facts) more (suc handle) within = front_fact facts more handle (omega (arith, within))

no_fact : (facts : List Fact) (handle : ℕ) → length facts ≤ handle → fact_at facts handle ≡ Unknown
no_fact [] zero behind = refl
no_fact [] (suc handle) behind = refl
no_fact (fact ∷ facts) zero behind = absurd (omega (arith, behind))
no_fact (fact ∷ facts) (suc handle) behind = no_fact facts handle (omega (arith, behind))

-- Lists

module _ {X Y : Type 0} (Holds : X → Type 0) (one other : X → List Y) (same : (x : X) → Holds x → one x ≡ other x) where
  flat_same : (xs : List X) → All Holds xs → flat_map one xs ≡ flat_map other xs
  flat_same [] all = refl
  flat_same (x ∷ xs) all = ap₂ (λ front back. front ++ back) (same x (All-head Holds x xs all)) (flat_same xs (All-tail Holds x xs all))

module _ {X Y : Type 0} (Holds : X → Type 0) (one other : X → Y) (same : (x : X) → Holds x → one x ≡ other x) where
  map_same : (xs : List X) → All Holds xs → map one xs ≡ map other xs
  map_same [] all = refl
  map_same (x ∷ xs) all = ap₂ (λ front back. front ∷ back) (same x (All-head Holds x xs all)) (map_same xs (All-tail Holds x xs all))

module _ {X : Type 0} (Holds : X → Type 0) where
  behind_first : (xs : List X) → All Holds xs → All Holds (drop 1 xs)
  behind_first [] all = all
  behind_first (x ∷ xs) all = All-tail Holds x xs all

  both_all : (xs ys : List X) → All Holds xs → All Holds ys → All Holds (xs ++ ys)
  both_all [] ys front back = back
  both_all (x ∷ xs) ys front back = All-cons Holds x (xs ++ ys) (All-head Holds x xs front) (both_all xs ys (All-tail Holds x xs front) back)

  weaker : (Weaker : X → Type 0) → ((x : X) → Holds x → Weaker x) → (xs : List X) → All Holds xs → All Weaker xs
  weaker Weaker to [] all = All-nil Weaker
  weaker Weaker to (x ∷ xs) all = All-cons Weaker x xs (to x (All-head Holds x xs all)) (weaker Weaker to xs (All-tail Holds x xs all))

-- Members as they stand

abbrev Below : ℕ → ℕ → Type 0
Below bound handle = handle < bound

record IsEntryBelow (bound : ℕ) (entry : MemberEntry) : Type 0 where
  pub declarator : entry.declarator < bound
  pub width : IfSome entry.width (Below bound)

record ArePendingBelow (bound : ℕ) (pending : PendingMembers) : Type 0 where
  pub width : IfSome pending.width (Below bound)
  pub entries : All (IsEntryBelow bound) pending.entries

module _ (nodes : UnitNodes) (bound : ℕ) where
  pending-one : (kind : NodeKind) (handle : ℕ) (pending : PendingMembers) → handle < bound → ArePendingBelow bound pending
      → ArePendingBelow bound (pending_with kind handle pending)
  pending-one kinds.AttributeList handle pending within below = record { width = below.width; entries = below.entries }
  pending-one kinds.BitFieldWidth handle pending within below = record { width = within; entries = below.entries }
  pending-one kinds.Declarator handle pending within below =
      record {
        width = tt;
        entries =
            All-cons (IsEntryBelow bound) (record { declarator = handle; width = pending.width; lists = pending.lists }) pending.entries
            (record { declarator = within; width = below.width }) below.entries;
      }
  pending-one kind handle pending within below = below

  pending-below : (handles : List ℕ) → All (Below bound) handles → ArePendingBelow bound (pending_from nodes handles)
  pending-below [] all = record { width = tt; entries = All-nil (IsEntryBelow bound) }
  pending-below (handle ∷ handles) all =
      pending-one (kind_at nodes handle) handle (pending_from nodes handles) (All-head (Below bound) handle handles all)
      (pending-below handles (All-tail (Below bound) handle handles all))

  entries-below : (declaration : ℕ) → All (Below bound) (children_at nodes declaration) → All (IsEntryBelow bound) (member_entries nodes declaration)
  entries-below declaration all = (pending-below (children_from nodes declaration 1) (behind_first (Below bound) (children_at nodes declaration) all)).entries

-- What is known of handles below a bound is one thing in both lists, and of no node nothing is known

module _ (nodes : UnitNodes) (facts others : List Fact) (bound : ℕ) (before : PartsStandBefore nodes)
    (same : (handle : ℕ) → handle < bound → fact_at others handle ≡ fact_at facts handle)
    (none : fact_at others (length nodes) ≡ fact_at facts (length nodes)) where
  parts-below : (handle : ℕ) → handle ≤ bound → All (Below bound) (children_at nodes handle)
  parts-below handle within =
      weaker (Below handle) (Below bound) (λ child below. omega (arith, within, below)) (children_at nodes handle) (before handle)

  first-same : (children : List ℕ) → All (Below bound) children
      → fact_at others (get_or children 0 (length nodes)) ≡ fact_at facts (get_or children 0 (length nodes))
  first-same [] all = none
  first-same (child ∷ children) all = same child (All-head (Below bound) child children all)

  specifiers-same : (declaration : ℕ) → declaration ≤ bound → specifiers_of nodes others declaration ≡ specifiers_of nodes facts declaration
  specifiers-same declaration within = ap specified_by (first-same (children_at nodes declaration) (parts-below declaration within))

  -- Members

  width-same : (width : Option ℕ) → IfSome width (Below bound) → width_said others width ≡ width_said facts width
  width-same None below = refl
  width-same (Some width) below = ap length_said (same width below)

  entry-same : (declaration : ℕ) (entry : MemberEntry) → IsEntryBelow bound entry
      → entry_member nodes others declaration entry ≡ entry_member nodes facts declaration entry
  entry-same declaration entry below =
      ap₂
      (λ (width : Option ℕ) (fact : Fact). body_member (name_said (node_at nodes entry.declarator).name) width (member_alignment nodes declaration entry.lists)
      (type_of_entry (node_at nodes entry.declarator).name (type_declared fact)))
      (width-same entry.width below.width) (same entry.declarator below.declarator)

  nameless-same : (declaration : ℕ) → declaration ≤ bound → nameless_member nodes others declaration ≡ nameless_member nodes facts declaration
  nameless-same declaration within =
      ap
      (λ (specifiers : Option SpecifiedFact). nameless_of_type nodes declaration (specified_type specifiers))
      (specifiers-same declaration within)

  members-same : (declaration : ℕ) → declaration ≤ bound → (entries : List MemberEntry) → All (IsEntryBelow bound) entries
      → members_by nodes others declaration entries ≡ members_by nodes facts declaration entries
  members-same declaration within [] all = nameless-same declaration within
  members-same declaration within (entry ∷ entries) all =
      flat_same (IsEntryBelow bound) (λ member. entry_member nodes others declaration member) (λ member. entry_member nodes facts declaration member)
      (entry-same declaration) (entry ∷ entries) all

  part-same : (kind : NodeKind) (part : ℕ) → part < bound → members_of_part nodes others kind part ≡ members_of_part nodes facts kind part
  part-same kinds.MemberDeclaration part within =
      members-same part (omega (arith, within)) (member_entries nodes part) (entries-below nodes bound part (parts-below part (omega (arith, within))))
  part-same kind part within = refl

  list-same : (list : ℕ) → list < bound → members_of_list nodes others list ≡ members_of_list nodes facts list
  list-same list within =
      flat_same (Below bound) (λ part. members_of_part nodes others (kind_at nodes part) part) (λ part. members_of_part nodes facts (kind_at nodes part) part)
      (λ part below. part-same (kind_at nodes part) part below) (children_at nodes list) (parts-below list (omega (arith, within)))

  -- Bodies

  one-below : (kind : NodeKind) (child : ℕ) → child < bound → All (Below bound) (member_list kind child)
  one-below kinds.MemberList child within = All-cons (Below bound) child [] within (All-nil (Below bound))
  one-below kind child within = All-nil (Below bound)

  lists-below : (children : List ℕ) → All (Below bound) children → All (Below bound) (flat_map (λ child. member_list (kind_at nodes child) child) children)
  lists-below [] all = All-nil (Below bound)
  lists-below (child ∷ children) all =
      both_all (Below bound) (member_list (kind_at nodes child) child) (flat_map (λ one. member_list (kind_at nodes one) one) children)
      (one-below (kind_at nodes child) child (All-head (Below bound) child children all)) (lists-below children (All-tail (Below bound) child children all))

  specifier-same : (surroundings : List Surrounding) (handle : ℕ) → handle ≤ bound
      → specifier_bodies nodes surroundings others handle ≡ specifier_bodies nodes surroundings facts handle
  specifier-same surroundings handle within =
      let behind = attributes_behind nodes (surrounding_at surroundings handle) in
      map_same (Below bound) (λ list. ((node_at nodes handle).number, declared_body nodes behind (members_of_list nodes others list)))
      (λ list. ((node_at nodes handle).number, declared_body nodes behind (members_of_list nodes facts list)))
      (λ list below. ap (λ members. ((node_at nodes handle).number, declared_body nodes behind members)) (list-same list below)) (member_lists nodes handle)
      (lists-below (children_at nodes handle) (parts-below handle within))

  pub bodies-same : (surroundings : List Surrounding) (handle : ℕ) (kind : NodeKind) → handle ≤ bound
      → bodies_at nodes surroundings others handle kind ≡ bodies_at nodes surroundings facts handle kind
  bodies-same surroundings handle kinds.StructSpecifier within = specifier-same surroundings handle within
  bodies-same surroundings handle kinds.UnionSpecifier within = specifier-same surroundings handle within
  bodies-same surroundings handle kind within = refl

  pub bodies-before-same : (surroundings : List Surrounding) (count : ℕ) → count ≤ bound
      → bodies_before nodes surroundings others count ≡ bodies_before nodes surroundings facts count
  bodies-before-same surroundings zero within = refl
  bodies-before-same surroundings (suc count) within =
      ap₂ (λ front back. front ++ back) (bodies-before-same surroundings count (omega (arith, within)))
      (bodies-same surroundings count (kind_at nodes count) (omega (arith, within)))

  -- Enumerators

  expression-same : (handles : List ℕ) → All (Below bound) handles → expression_among nodes others handles ≡ expression_among nodes facts handles
  expression-same [] all = refl
  expression-same (handle ∷ handles) all =
      ap₂ (λ (fact : Fact) (rest : Option Fact). if is_expression_part (kind_at nodes handle) then Some fact else rest)
      (same handle (All-head (Below bound) handle handles all)) (expression-same handles (All-tail (Below bound) handle handles all))

  enumerators-same : (handles : List ℕ) → All (Below bound) handles → enumerators_among nodes others handles ≡ enumerators_among nodes facts handles
  enumerators-same [] all = refl
  enumerators-same (handle ∷ handles) all =
      let below = All-head (Below bound) handle handles all in
      let expression = expression-same (children_at nodes handle) (parts-below handle (omega (arith, below))) in
      let rest = enumerators-same handles (All-tail (Below bound) handle handles all) in
      (λ i. if is_enumerator (kind_at nodes handle)
      then record { has_expression = not (is_none (expression i)); fact = same handle below i } ∷ rest i
      else rest i)

  pub enumerators-of-same : (enumeration : ℕ) → enumeration ≤ bound → enumerators_of nodes others enumeration ≡ enumerators_of nodes facts enumeration
  enumerators-of-same enumeration within = enumerators-same (children_at nodes enumeration) (parts-below enumeration within)

-- With more behind them

pub bodies_stay : BodiesStay
bodies_stay nodes surroundings facts more handle before few within =
    let none : fact_at (facts ++ more) (length nodes) ≡ fact_at facts (length nodes) =
    no_fact (facts ++ more) (length nodes) few ∙ sym (no_fact facts (length nodes) (omega (arith, few, length-append facts more))) in
    let same = front_fact facts more in
    let bound = length facts in
    record {
      bodies = bodies-same nodes facts (facts ++ more) bound before same none surroundings handle (kind_at nodes handle) within;
      before = bodies-before-same nodes facts (facts ++ more) bound before same none surroundings handle within;
      enumerators = enumerators-of-same nodes facts (facts ++ more) bound before same none handle within;
    }
