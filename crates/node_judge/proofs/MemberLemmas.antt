-- The rows of members as they are taken over, and behind the parts of their declarators.
use Rattle.std.proofs.Common.{◌≡◌, ℕ, Bool, true, false, ◌&&◌, List, [], ◌∷◌, ◌++◌, Option, Some, None, IfSome, if◌then◌else◌, option_map, refl, sym, ap, subst, ◌∙◌}
use Rattle.std.proofs.lemmas.List.Elements.{All-cons, All-head, All-nil}
use Rattle.std.proofs.lemmas.Option.{none-some}
use Rattle.vocabulary.specs.declared.node_kind.NodeKind.{NodeKind}
use Rattle.vocabulary.specs.declared.node_kind.NodeKind.TheVariants as kinds
use Rattle.vocabulary.specs.declared.rule.RuleCode.TheVariants.{S7}
use Rattle.sparse_model.specs.declared.failure.Failure.{Failure}
use Rattle.sparse_model.specs.declared.ids.TypeId.{TypeId}
use Rattle.meaning_operands.specs.Failures as meaning
use Rattle.meaning_rules.specs.Rules.{least_broken, least_token}
use Rattle.meaning_types.specs.Conversions.{is_signed}
use Rattle.meaning_types.specs.Types.{TypeTree, Typed, VoidTree, IntegerTree, RestrictedTree, PointerTree, ArrayTree, FunctionTree, AggregateTree}
use Rattle.meaning_typing.specs.DeclarationRows.{declarator_parts_broken, defined_name_broken}
use Rattle.meaning_typing.specs.Declarators.{declarator_fact, specifiers_of, type_declared}
use Rattle.meaning_typing.specs.Facts.{Fact, SpecifiedFact, fact_at}
use Rattle.meaning_typing.specs.MemberDeclarations.{MemberEntry, member_entries}
use Rattle.meaning_typing.specs.MemberRows.{bit_field_row, entry_with_width, is_member_declaration, is_one, member_declarator_row, name_broken, one_bit_failures, width_of_entry, width_row}
use Rattle.meaning_typing.specs.Rows.{Row, fails_with}
use Rattle.meaning_typing.specs.Surroundings.{Surrounding}
use Rattle.meaning_typing.specs.Units.{UnitNodes, child_at, children_at, kind_at}
use Rattle.meaning_typing.specs.WholeTyping.{declaration_row_by, declared_row, large_by, own_name_broken, whole_declarator_row}
use Rattle.c_types.specs.Layouts.{told_in}
use Rattle.c_types.specs.Table.{TypeTable, IsTypeId, type_at}
use Rattle.member_declarations.specs.DeclaratorParts.{DeclaratorParts}
use Rattle.declaration_judge.specs.Rows.{row_without_type}
use Rattle.declaration_judge.proofs.RowLemmas.{declarator_row, row_typed, row_untyped, untyped_silent}
use Rattle.expression_rows.specs.declared.row.Broken.{Broken}
use Rattle.expression_rows.specs.Arguments.{Appends, listed_failure}
use Rattle.expression_rows.specs.Rows.{IsKnownFailure, Told, broken_seen, failure_listed, failure_seen, told}
use Rattle.expr_judge.specs.declared.row.NodeRow.{NodeRow}
use Rattle.expr_judge.specs.Rows.{Tells, row_kept, row_seen}
use Rattle.expr_judge.proofs.TellingLemmas.{one_known, one_listed, tells_only}
use Rattle.member_declarations.specs.declared.row.MemberRow.{MemberRow}
use Rattle.member_declarations.specs.Seen as members
use Rattle.node_facts.specs.Facts.{IsKnownNodeFact}
use Rattle.node_facts.specs.Growing.{TypesJoin}
use Rattle.node_facts.proofs.GrowthLemmas.{joins_none}
use Rattle.node_judge.specs.Members.{NameNoTypes}

-- Failures that name no types

abbrev NamesNone : meaning.Failure → Type 0
NamesNone failure = (failure.first ≡ None) × (failure.second ≡ None)

none_there : (table : TypeTable) (id : Option TypeId) → option_map (type_at table) id ≡ None → IfSome id (IsTypeId table)
none_there table None none = tt
none_there table (Some id) none = absurd (none-some (type_at table id) (sym none))

listed_known : (table : TypeTable) (failure : Option Failure) (meant : List meaning.Failure) → failure_listed table failure ≡ meant → NameNoTypes meant
    → IfSome failure (IsKnownFailure table)
listed_known table None meant listed none = tt
listed_known table (Some failure) meant listed none =
    let own = All-head NamesNone (failure_seen table failure) [] (subst NameNoTypes (sym listed) none) in
    (none_there table failure.first own.0, none_there table failure.second own.1)

pub taken_member :
    (table : TypeTable) (row : MemberRow) (before after : List Failure) (meant : Row) → members.row_seen table row ≡ told meant
    → IsKnownNodeFact table row.fact → NameNoTypes meant.failures → after ≡ before ++ listed_failure row.failure
    → Tells table table before after (record { fact = row.fact; broken = row.broken; passed = None }) meant
taken_member table row before after meant seen id none appended =
    let listed : failure_listed table row.failure ≡ meant.failures = ap (λ (t : Told). t.failures) seen in
    record {
      row = λ i. record { fact = (seen i).fact; broken = (seen i).broken; passed = least_token (seen i).passed };
      ids = id;
      failures = (
        listed_failure row.failure,
        appended,
        one_listed table row.failure ∙ listed,
        one_known table row.failure (listed_known table row.failure meant.failures listed none),
      );
      keeps = joins_none table;
    }

-- Widths

one_bit : (token : ℕ) (test : Bool) → NameNoTypes (if test then fails_with S7 token 0 None None [] ∷ [] else [])
one_bit token true = All-cons NamesNone (fails_with S7 token 0 None None []) [] (refl, refl) (All-nil NamesNone)
one_bit token false = All-nil NamesNone

one_bit_none : (token : ℕ) (type_ : TypeTree) (size : Fact) → NameNoTypes (one_bit_failures token type_ size)
one_bit_none token (Typed VoidTree _ _) size = All-nil NamesNone
one_bit_none token (Typed (IntegerTree kind) _ _) size = one_bit token (is_signed kind && is_one size)
one_bit_none token (Typed (RestrictedTree kind identity) _ _) size = All-nil NamesNone
one_bit_none token (Typed (PointerTree target) _ _) size = All-nil NamesNone
one_bit_none token (Typed (ArrayTree element length) _ _) size = All-nil NamesNone
one_bit_none token (Typed (FunctionTree result parameters variadic) _ _) size = All-nil NamesNone
one_bit_none token (Typed (AggregateTree number is_union) _ _) size = All-nil NamesNone

width_none : (token : ℕ) (is_named : Bool) (type_ : Option TypeTree) (size : Fact) → NameNoTypes (width_row token is_named type_ size).failures
width_none token is_named None size = All-nil NamesNone
width_none token is_named (Some type_) size = one_bit_none token type_ size

entry_none : (nodes : UnitNodes) (facts : List Fact) (entry : Option MemberEntry) (size : Fact) → NameNoTypes (width_of_entry nodes facts entry size).failures
entry_none nodes facts None size = All-nil NamesNone
entry_none nodes facts (Some entry) size = width_none _ _ (type_declared (fact_at facts entry.declarator)) size

pub field_none : (nodes : UnitNodes) (facts : List Fact) (handle : ℕ) (surrounding : Surrounding) → NameNoTypes (bit_field_row nodes facts handle surrounding).failures
field_none nodes facts handle surrounding =
    entry_none nodes facts (entry_with_width handle (member_entries nodes surrounding.parent)) (fact_at facts (child_at nodes handle 0))

pub none_named : NameNoTypes []
none_named = All-nil NamesNone

-- Declarators of members

pub member_kind : (kind : NodeKind) → is_member_declaration kind ≡ true → kind ≡ kinds.MemberDeclaration
member_kind kinds.MemberDeclaration is = refl
member_kind kind is = cc

module _ (nodes : UnitNodes) (surroundings : List Surrounding) (handle : ℕ) (surrounding : Surrounding) (old new : TypeTable) (join : TypesJoin old new)
    (facts : List Fact) (declares : is_member_declaration (kind_at nodes surrounding.parent) ≡ true) where
  abbrev specifiers : Option SpecifiedFact
  specifiers = specifiers_of nodes facts surrounding.parent

  declared-is : member_declarator_row nodes surroundings (told_in old) facts handle surrounding ≡ declared_row (told_in old) nodes surroundings facts handle surrounding
  declared-is =
      ap
      (λ test. if test then member_declarator_row nodes surroundings (told_in old) facts handle surrounding
      else declaration_row_by (told_in old) nodes surroundings facts handle surrounding (declarator_fact nodes surrounding facts handle specifiers))
      (sym declares)

  abbrev parts_broken : List meaning.Broken
  parts_broken = declarator_parts_broken (told_in old) nodes facts handle surrounding specifiers

  abbrev names_broken : List meaning.Broken
  names_broken = own_name_broken nodes surroundings facts handle surrounding

  abbrev large : List ℕ
  large = large_by (told_in old) nodes facts surrounding.parent (children_at nodes handle) specifiers

  abbrev declared_so : Row
  declared_so = declared_row (told_in old) nodes surroundings facts handle surrounding

  names-are : name_broken nodes surroundings handle ≡ names_broken
  names-are =
      ap
      (λ test. if test then name_broken nodes surroundings handle
      else defined_name_broken nodes surroundings facts handle (declarator_fact nodes surrounding facts handle specifiers))
      (sym declares)

  -- the row, where the parts break nothing
  pub tells_member :
      (before after : List Failure) (row said : NodeRow) (parts : DeclaratorParts)
      → Tells new new before after row (member_declarator_row nodes surroundings (told_in old) facts handle surrounding)
      → parts.broken ≡ None → option_map broken_seen parts.broken ≡ least_broken parts_broken → parts.passed ≡ least_token large
      → row_seen new said ≡ record (row_seen new row) { passed = parts.passed }
      → IsKnownNodeFact new said.fact
      → Tells old new before after said (whole_declarator_row (told_in old) nodes surroundings facts handle surrounding)
  tells_member before after row said parts tells none least passed made id =
      subst (Tells old new before after said)
      (sym (row_typed parts_broken names_broken declared_so large (sym (ap (option_map broken_seen) none) ∙ least)))
      (record {
        row = made ∙ (λ i. record ((tells.row ∙ ap row_kept declared-is) i) { passed = passed i });
        ids = id;
        failures = subst (λ (one : Row). Appends new before after one.failures) declared-is tells.failures;
        keeps = join;
      })

  -- and where they do
  pub tells_untyped :
      (found : List Failure) (said : NodeRow) (parts : DeclaratorParts) (broken : Broken) (name : Option Broken)
      → parts.broken ≡ Some broken → option_map broken_seen parts.broken ≡ least_broken parts_broken → parts.passed ≡ least_token large
      → option_map broken_seen name ≡ least_broken (name_broken nodes surroundings handle)
      → row_seen new said ≡ row_without_type (Some (broken_seen broken)) (option_map broken_seen name) parts.passed
      → IsKnownNodeFact new said.fact
      → Tells old new found found said (whole_declarator_row (told_in old) nodes surroundings facts handle surrounding)
  tells_untyped found said parts broken name some least passed names made id =
      let there : Some (broken_seen broken) ≡ least_broken parts_broken = sym (ap (option_map broken_seen) some) ∙ least in
      tells_only old new found said (declarator_row parts_broken names_broken declared_so large)
      (record {
        row =
            made
            ∙ (λ i. row_without_type (there i) ((names ∙ ap least_broken names-are) i) (passed i))
            ∙ sym (row_untyped parts_broken names_broken declared_so large (broken_seen broken) there);
        ids = id;
        silent = untyped_silent parts_broken names_broken declared_so large (broken_seen broken) there;
      })
      join
