-- What is kept of declarations without a declarator tells the outermost home of a member.
use Rattle.std.proofs.Common.{◌≡◌, ℕ, ◌+◌, ◌≤◌, ◌⊎◌, inl, inr, nat_eq, Bool, true, false, ◌&&◌, ◌||◌, not, List, [], ◌∷◌, length, Option, Some, None, unwrap_or, if◌then◌else◌, refl, sym, ap, subst, ◌∙◌, arith}
use Rattle.std.specs.List.{list_any}
use Rattle.std.proofs.lemmas.Bool.{and_parts}
use Rattle.std.proofs.lemmas.Bool.Decides.{eqb_tells}
use Rattle.vocabulary.specs.declared.node_kind.NodeKind.{NodeKind}
use Rattle.vocabulary.specs.declared.node_kind.NodeKind.TheVariants as kinds
use Rattle.meaning_typing.specs.Units.{UnitNodes, kind_at}
use Rattle.meaning_typing.specs.Surroundings.{Surrounding}
use Rattle.meaning_typing.specs.MemberDeclarations.{PendingMembers, is_tagless, pending_from, pending_with}
use Rattle.meaning_typing.specs.MemberRows.{declaration_around, has_no_entry, is_declarator_kind, is_member_declaration, specifier_around}
use Rattle.member_names.specs.Homes.{ParentsStandBehind, outermost_home}
use Rattle.member_names.specs.Kept.{KeepsAll, KeepsFrom, declares_nameless, home_kept}
use Rattle.member_names.proofs.HomeLemmas.{declaration_within, goes_outwards, same_number}

-- Declarators of a declaration

no_entry_with : (kind : NodeKind) (handle : ℕ) (pending : PendingMembers)
    → has_no_entry (pending_with kind handle pending).entries ≡ (not (is_declarator_kind kind) && has_no_entry pending.entries)
no_entry_with kinds.AttributeList handle pending = refl
no_entry_with kinds.BitFieldWidth handle pending = refl
no_entry_with kinds.Declarator handle pending = refl
no_entry_with kind handle pending = refl

none_more : (is others : Bool) → (not is && not others) ≡ not (is || others)
none_more true others = refl
none_more false others = refl

-- there is no entry where there is no declarator
pub no_entry_told : (nodes : UnitNodes) (handles : List ℕ)
    → has_no_entry (pending_from nodes handles).entries ≡ not (list_any (λ part. is_declarator_kind (kind_at nodes part)) handles)
no_entry_told nodes [] = refl
no_entry_told nodes (handle ∷ handles) =
    no_entry_with (kind_at nodes handle) handle (pending_from nodes handles)
    ∙ ap (λ others. not (is_declarator_kind (kind_at nodes handle)) && others) (no_entry_told nodes handles)
    ∙ none_more (is_declarator_kind (kind_at nodes handle)) _

-- what declares members without a declarator declares members
pub declares : (nodes : UnitNodes) (declaration : ℕ) → declares_nameless nodes declaration ≡ true → is_member_declaration (kind_at nodes declaration) ≡ true
declares nodes declaration is = (and_parts (is_member_declaration (kind_at nodes declaration)) _ is).0

-- Homes

found_or : (test : Bool) (home otherwise : ℕ) → unwrap_or (if test then Some home else None) otherwise ≡ (if test then home else otherwise)
found_or true home otherwise = refl
found_or false home otherwise = refl

module _ (nodes : UnitNodes) (surroundings : List Surrounding) (above : ParentsStandBehind nodes surroundings) where
  -- the home of what is declared in a body of a structure with a tag
  pub home_here : (declaration : ℕ)
      → is_tagless nodes (specifier_around surroundings declaration) (kind_at nodes (specifier_around surroundings declaration)) ≡ false
      → specifier_around surroundings declaration ≡ outermost_home nodes surroundings declaration
  home_here declaration tagged =
      let specifier = specifier_around surroundings declaration in
      let outside = declaration_around surroundings specifier in
      ap (λ test. if test && declares_nameless nodes outside then outermost_home nodes surroundings outside else specifier) (sym tagged)
      ∙ sym (goes_outwards nodes surroundings above declaration)

  -- and in one of a structure without one
  pub home_found : (declaration : ℕ) (found : Option ℕ)
      → is_tagless nodes (specifier_around surroundings declaration) (kind_at nodes (specifier_around surroundings declaration)) ≡ true
      → found ≡ home_kept nodes surroundings (declaration_around surroundings (specifier_around surroundings declaration))
      → unwrap_or found (specifier_around surroundings declaration) ≡ outermost_home nodes surroundings declaration
  home_found declaration found tagless is =
      let specifier = specifier_around surroundings declaration in
      let outside = declaration_around surroundings specifier in
      ap (λ found. unwrap_or found specifier) is
      ∙ found_or (declares_nameless nodes outside) (outermost_home nodes surroundings outside) specifier
      ∙ ap (λ test. if test && declares_nameless nodes outside then outermost_home nodes surroundings outside else specifier) (sym tagless)
      ∙ sym (goes_outwards nodes surroundings above declaration)

-- One node more

module _ (nodes : UnitNodes) (surroundings : List Surrounding) (first : ℕ) (old new : ℕ → Option ℕ) where
  this_or_later : (handle : ℕ) → first ≤ handle → (handle ≡ first) ⊎ (first + 1 ≤ handle)
  this_or_later handle behind = grind arith

  apart_from : (handle other : ℕ) → (handle ≡ other → ⊥) → nat_eq other handle ≡ false
  apart_from handle other apart = elim (eqb_tells other handle) [
    | inl same ↦ absurd (apart (sym same.1))
    | inr other ↦ other.0
  ]

  -- of which nothing is kept
  pub keeps_none : declares_nameless nodes first ≡ false → ((handle : ℕ) → new handle ≡ old handle) → KeepsFrom nodes surroundings (first + 1) old → KeepsFrom nodes surroundings first new
  keeps_none none same keeps = record {
    behind = λ handle behind. elim (this_or_later handle behind) [
      | inl this ↦
          same handle ∙ keeps.before handle (omega (arith, this))
          ∙ ap (λ test. if test then Some (outermost_home nodes surroundings handle) else None) (sym none ∙ ap (declares_nameless nodes) (sym this))
      | inr later ↦ same handle ∙ keeps.behind handle later
    ];
    before = λ handle below. same handle ∙ keeps.before handle (omega (arith, below));
  }

  -- of which its home is
  pub keeps_one : declares_nameless nodes first ≡ true
      → ((handle : ℕ) → new handle ≡ (if nat_eq first handle then Some (outermost_home nodes surroundings first) else old handle))
      → KeepsFrom nodes surroundings (first + 1) old → KeepsFrom nodes surroundings first new
  keeps_one one joins keeps = record {
    behind = λ handle behind. elim (this_or_later handle behind) [
      | inl this ↦ subst (λ handle. new handle ≡ home_kept nodes surroundings handle) (sym this) (
          joins first ∙ ap (λ test. if test then Some (outermost_home nodes surroundings first) else old first) (same_number first)
          ∙ ap (λ test. if test then Some (outermost_home nodes surroundings first) else None) (sym one))
      | inr later ↦
          joins handle
          ∙ ap (λ test. if test then Some (outermost_home nodes surroundings first) else old handle) (apart_from handle first (λ same. absurd (omega (arith, later, same))))
          ∙ keeps.behind handle later
    ];
    before = λ handle below.
        joins handle
        ∙ ap (λ test. if test then Some (outermost_home nodes surroundings first) else old handle) (apart_from handle first (λ same. absurd (omega (arith, below, same))))
        ∙ keeps.before handle (omega (arith, below));
  }

-- Behind the last node nothing is kept, and before the first one there is none

pub keeps_nothing : (nodes : UnitNodes) (surroundings : List Surrounding) (count : ℕ) (kept : ℕ → Option ℕ) → length nodes ≤ count
    → ((handle : ℕ) → kept handle ≡ None) → KeepsFrom nodes surroundings count kept
keeps_nothing nodes surroundings count kept past none = record {
  behind = λ handle behind. none handle ∙ nothing_past handle behind;
  before = λ handle below. none handle;
}
  where
    nothing_past : (handle : ℕ) → count ≤ handle → None ≡ home_kept nodes surroundings handle
    nothing_past handle behind =
        by (declares_nameless nodes handle) refl
      where
        by : (test : Bool) → declares_nameless nodes handle ≡ test → None ≡ (if test then Some (outermost_home nodes surroundings handle) else None)
        by true is = absurd (omega (arith, past, behind, declaration_within nodes handle (declares nodes handle is)))
        by false is = refl

pub keeps_all : (nodes : UnitNodes) (surroundings : List Surrounding) (first : ℕ) (kept : ℕ → Option ℕ) → first ≡ 0 → KeepsFrom nodes surroundings first kept
    → KeepsAll nodes surroundings kept
keeps_all nodes surroundings first kept zero keeps = λ handle. keeps.behind handle (omega (arith, zero))
