-- The entry of a declarator or a width, where its handle stands among the parts of a declaration once.
use Rattle.std.proofs.Common.{◌≡◌, ℕ, zero, suc, ◌+◌, ◌-◌, ◌<◌, ◌≤◌, nat_eq, true, false, List, drop, get_or, length, slice_get, Option, Some, None, option_map, inl, inr, refl, sym, ap, ◌∙◌, subst, arith}
use Rattle.std.proofs.Math.Seq.{drop-cons}
use Rattle.std.proofs.lemmas.Bool.{eq-eqb}
use Rattle.std.proofs.lemmas.Bool.Decides.{eqb_tells}
use Rattle.std.proofs.lemmas.List.{drop_all, get_or-map, length-map}
use Rattle.std.proofs.lemmas.Option.{slice_get_within, slice_get-get_or, get_or_from_slice_get}
use Rattle.vocabulary.specs.declared.node_kind.NodeKind.{NodeKind}
use Rattle.vocabulary.specs.declared.node_kind.NodeKind.TheVariants as kinds
use Rattle.meaning_typing.specs.MemberDeclarations.{MemberEntry, PendingMembers, nothing_pending, pending_from, pending_with}
use Rattle.meaning_typing.specs.MemberRows.{entry_with_width, is_handle}
use Rattle.meaning_typing.specs.Units.{UnitNodes, kind_at}
use Rattle.decl_judge.specs.Units.{handles_of}
use Rattle.member_declarations.specs.Entries.{declarator_before, declarator_by, member_part}

-- One part more in front

-- a part that is another handle adds no entry with this width
record LeavesWidth (width : ℕ) (before after : PendingMembers) : Type 0 where
  pub entries : entry_with_width width after.entries ≡ entry_with_width width before.entries
  pub pending : is_handle width after.width ≡ false

passes-width : (width : ℕ) (kind : NodeKind) (handle : ℕ) (pending : PendingMembers) → nat_eq width handle ≡ false → is_handle width pending.width ≡ false
    → LeavesWidth width pending (pending_with kind handle pending)
passes-width width kinds.AttributeList handle pending other not = record { entries = refl; pending = not }
passes-width width kinds.BitFieldWidth handle pending other not = record { entries = refl; pending = other }
passes-width width kinds.Declarator handle pending other not = record { entries = rw not refl; pending = refl }
passes-width width kind handle pending other not = record { entries = refl; pending = not }

-- Parts by their places

module _ (nodes : UnitNodes) (handles : List ℕ) where
  -- what stands from a place on
  abbrev from : ℕ → PendingMembers
  from place = pending_from nodes (drop place handles)

  abbrev handle_at : ℕ → ℕ
  handle_at place = get_or handles place 0

  abbrev kind_here : ℕ → NodeKind
  kind_here place = kind_at nodes (handle_at place)

  -- one part, and those behind it
  from_part : (place : ℕ) → place < length handles → from place ≡ pending_with (kind_here place) (handle_at place) (from (suc place))
  from_part place within = ap (pending_from nodes) (drop-cons handles place 0 within)

  from_end : (place : ℕ) → length handles ≤ place → from place ≡ nothing_pending
  from_end place past = ap (pending_from nodes) (drop_all place handles past)

  -- a handle that stands at this place alone
  module _ (handle place : ℕ) (there : slice_get handles place ≡ Some handle) (once : (other : ℕ) → slice_get handles other ≡ Some handle → other ≡ place) where
    within : place < length handles
    within = slice_get_within handles place handle there

    here : handle_at place ≡ handle
    here = get_or_from_slice_get handles place handle 0 there

    elsewhere : (other : ℕ) → other < length handles → (other ≡ place → ⊥) → nat_eq handle (handle_at other) ≡ false
    elsewhere other inside not = elim (eqb_tells handle (handle_at other)) [
      | inl same ↦ absurd (not (once other (slice_get-get_or handles other 0 inside ∙ ap Some (sym same.1))))
      | inr differs ↦ differs.0
    ]

    -- no width of this handle stands behind it
    record HasNoWidth (members : PendingMembers) : Type 0 where
      pub entries : entry_with_width handle members.entries ≡ None
      pub pending : is_handle handle members.width ≡ false

    none_behind : (count other : ℕ) → other + count ≡ length handles → place < other → HasNoWidth (from other)
    none_behind zero other all behind = subst HasNoWidth (sym (from_end other (omega arith))) (record { entries = refl; pending = refl })
    none_behind (suc count) other all behind =
        let behind_other = none_behind count (suc other) (omega arith) (omega arith) in
        let passes =
        passes-width handle (kind_here other) (handle_at other) (from (suc other)) (elsewhere other (omega arith) (λ same. omega (arith, same))) behind_other.pending in
        subst HasNoWidth (sym (from_part other (omega arith))) (record { entries = passes.entries ∙ behind_other.entries; pending = passes.pending })

    -- parts in front leave the entry with this width
    stays : (other : ℕ) → 1 ≤ other → other ≤ place → is_handle handle (from other).width ≡ false
        → entry_with_width handle (from 1).entries ≡ entry_with_width handle (from other).entries
    stays zero some before not = absurd (omega (arith, some))
    stays (suc zero) some before not = refl
    stays (suc (suc other)) some before not =
        let passes =
        passes-width handle (kind_here (suc other)) (handle_at (suc other)) (from (suc (suc other)))
        (elsewhere (suc other) (omega (arith, within)) (λ same. omega (arith, same))) not in
        let part = from_part (suc other) (omega (arith, within)) in
        stays (suc other) (omega arith) (omega arith) (ap (λ pending. is_handle handle pending.width) part ∙ passes.pending)
        ∙ ap (λ pending. entry_with_width handle pending.entries) part
        ∙ passes.entries

    abbrev pub declarator_found : PendingMembers → Option ℕ
    declarator_found members = option_map (λ (entry : MemberEntry). entry.declarator) (entry_with_width handle members.entries)

    same_handle : nat_eq handle handle ≡ true
    same_handle = eq-eqb handle handle refl

    -- a width that is pending where a part stands in front of it belongs to that part, or to one before
    claimed : (other : ℕ) (kind : NodeKind) → kind_here (suc other) ≡ kind → 1 ≤ suc other → suc other < place
        → (from (suc (suc other))).width ≡ Some handle → entry_with_width handle (from (suc (suc other))).entries ≡ None
        → ((from (suc other)).width ≡ Some handle → entry_with_width handle (from (suc other)).entries ≡ None → declarator_found (from 1) ≡ declarator_before nodes handles (suc other))
        → declarator_found (from 1) ≡ declarator_by (member_part kind) (handle_at (suc other)) (declarator_before nodes handles (suc other))
    claimed other kind is some before width none otherwise = by kind is
      where
        part : (kind : NodeKind) → kind_here (suc other) ≡ kind → from (suc other) ≡ pending_with kind (handle_at (suc other)) (from (suc (suc other)))
        part kind is =
            from_part (suc other) (omega (arith, within)) ∙ ap (λ kind. pending_with kind (handle_at (suc other)) (from (suc (suc other)))) is

        differs : nat_eq handle (handle_at (suc other)) ≡ false
        differs = elsewhere (suc other) (omega (arith, within)) (λ same. omega (arith, same))

        by : (kind : NodeKind) → kind_here (suc other) ≡ kind
            → declarator_found (from 1) ≡ declarator_by (member_part kind) (handle_at (suc other)) (declarator_before nodes handles (suc other))
        by kinds.Declarator is =
            ap (option_map (λ (entry : MemberEntry). entry.declarator))
            (stays (suc other) some (omega arith) (ap (λ pending. is_handle handle pending.width) (part kinds.Declarator is)))
            ∙ ap declarator_found (part kinds.Declarator is)
            ∙ rw (width, same_handle) refl
        by kinds.BitFieldWidth is =
            ap (option_map (λ (entry : MemberEntry). entry.declarator))
            (stays (suc other) some (omega arith) (ap (λ pending. is_handle handle pending.width) (part kinds.BitFieldWidth is) ∙ differs)
            ∙ ap (λ pending. entry_with_width handle pending.entries) (part kinds.BitFieldWidth is) ∙ none)
        by kinds.AttributeList is =
            otherwise (ap (λ pending. pending.width) (part kinds.AttributeList is) ∙ width)
            (ap (λ pending. entry_with_width handle pending.entries) (part kinds.AttributeList is) ∙ none)
        by kind is =
            otherwise (ap (λ pending. pending.width) (part kind is) ∙ width) (ap (λ pending. entry_with_width handle pending.entries) (part kind is) ∙ none)

    claims : (other : ℕ) → 1 ≤ other → other ≤ place → (from other).width ≡ Some handle → entry_with_width handle (from other).entries ≡ None
        → declarator_found (from 1) ≡ declarator_before nodes handles other
    claims zero some before width none = absurd (omega (arith, some))
    claims (suc zero) some before width none = ap (option_map (λ (entry : MemberEntry). entry.declarator)) none
    claims (suc (suc other)) some before width none =
        claimed other (kind_here (suc other)) refl (omega arith) (omega arith) width none (claims (suc other) (omega arith) (omega arith))

    -- the entry of a width is that of the declarator before it
    pub width_claimed : kind_at nodes handle ≡ kinds.BitFieldWidth → declarator_found (from 1) ≡ declarator_before nodes handles place
    width_claimed is = by place refl
      where
        behind : HasNoWidth (from (suc place))
        behind = none_behind (length handles - suc place) (suc place) (omega (arith, within)) (omega arith)

        part : from place ≡ pending_with kinds.BitFieldWidth handle (from (suc place))
        part = from_part place within ∙ (λ i. pending_with ((ap (kind_at nodes) here ∙ is) i) (here i) (from (suc place)))

        by : (other : ℕ) → place ≡ other → declarator_found (from 1) ≡ declarator_before nodes handles other
        by zero same =
            ap (option_map (λ (entry : MemberEntry). entry.declarator))
            (ap (λ first. entry_with_width handle (from (suc first)).entries) (sym same) ∙ behind.entries)
        by (suc other) same =
            claims (suc other) (omega arith) (omega (arith, same))
            (ap (λ first. (from first).width) (sym same) ∙ ap (λ pending. pending.width) part)
            (ap (λ first. entry_with_width handle (from first).entries) (sym same) ∙ ap (λ pending. entry_with_width handle pending.entries) part ∙ behind.entries)

-- Parts one by one

module _ (nodes : UnitNodes) (children : List (ℕ × ℕ)) (place : ℕ) (child : ℕ × ℕ) (found : slice_get children place ≡ Some child) where
  pub child_within : place < length (handles_of children)
  child_within = subst (λ count. place < count) (sym (length-map children (λ (child : ℕ × ℕ). child.0))) (slice_get_within children place child found)

  pub child_here : get_or (handles_of children) place 0 ≡ child.0
  child_here =
      get_or-map (λ (child : ℕ × ℕ). child.0) children place child 0 (slice_get_within children place child found)
      ∙ ap (λ (child : ℕ × ℕ). child.0) (get_or_from_slice_get children place child child found)

-- the declarator before the place behind a part
pub before_part : (nodes : UnitNodes) (children : List (ℕ × ℕ)) (place before : ℕ) (child : ℕ × ℕ) → place ≡ before + 1 → 1 ≤ before
    → slice_get children before ≡ Some child
    → declarator_before nodes (handles_of children) place
    ≡ declarator_by (member_part (kind_at nodes child.0)) child.0 (declarator_before nodes (handles_of children) before)
before_part nodes children place zero child same some found = absurd (omega (arith, some))
before_part nodes children place (suc before) child same some found =
    ap (declarator_before nodes (handles_of children)) behind
    ∙ ap (λ handle. declarator_by (member_part (kind_at nodes handle)) handle (declarator_before nodes (handles_of children) (suc before)))
    (child_here nodes children (suc before) child found)
  where
    behind : place ≡ suc (suc before)
    behind = omega (arith, same)
