-- What the rows of declarations tell.
use Rattle.std.proofs.Common.{◌≡◌, ℕ, false, List, ◌++◌, Option, Some, None, if◌then◌else◌, option_map, refl, sym, ap, subst, ◌∙◌}
use Rattle.std.proofs.lemmas.Option.{same_Some}
use Rattle.sparse_model.specs.declared.failure.Failure.{Failure}
use Rattle.meaning_layout.specs.Sizes.{Told}
use Rattle.meaning_operands.specs.Failures as meaning
use Rattle.meaning_rules.specs.Rules.{least_broken, least_token, lesser}
use Rattle.meaning_types.specs.Types.{TypeTree}
use Rattle.meaning_typing.specs.DeclarationRows.{declarator_parts_broken, defined_name_broken}
use Rattle.meaning_typing.specs.Declarators.{declarator_fact, declared_if, declared_type, specifiers_of}
use Rattle.meaning_typing.specs.Facts as facts_meant
use Rattle.meaning_typing.specs.Facts.{Fact, Declared}
use Rattle.meaning_typing.specs.MemberRows.{is_member_declaration, member_declarator_row, name_broken}
use Rattle.meaning_typing.specs.Rows.{Row, known, nothing}
use Rattle.meaning_typing.specs.Surroundings.{Surrounding}
use Rattle.meaning_typing.specs.Units.{UnitNodes, children_at, kind_at, node_at}
use Rattle.meaning_typing.specs.WholeTyping.{declaration_broken, declaration_failures, declaration_row_by, declared_row, large_by, own_name_broken, whole_declarator_row}
use Rattle.c_types.specs.Layouts.{told_in}
use Rattle.c_types.specs.Table.{TypeTable, IsTypeId}
use Rattle.decl_judge.specs.declared.declared.DeclaratorPlace.{DeclaratorPlace}
use Rattle.decl_judge.specs.Placed.{standing}
use Rattle.declaration_rows.specs.declared.declarator.DeclaratorParts.{DeclaratorParts}
use Rattle.node_facts.specs.declared.declared.DeclaredFact.{DeclaredFact}
use Rattle.node_facts.specs.declared.fact.NodeFact.{NodeFact}
use Rattle.node_facts.specs.declared.fact.NodeFact.TheVariants as facts
use Rattle.node_facts.specs.Facts.{IsKnownNodeFact, declared_seen, node_seen}
use Rattle.node_facts.proofs.GrowthLemmas.{joins_none}
use Rattle.node_surroundings.specs.declared.surrounding.Surrounding as code
use Rattle.node_surroundings.specs.Seen.{surrounding_seen}
use Rattle.expression_rows.specs.declared.row.Broken.{Broken}
use Rattle.expression_rows.specs.Arguments.{Appends}
use Rattle.expression_rows.specs.Rows.{broken_seen}
use Rattle.expression_rows.proofs.LeastLemmas.{least_both}
use Rattle.expr_judge.specs.declared.row.NodeRow.{NodeRow}
use Rattle.expr_judge.specs.Parts.{declaration_in}
use Rattle.expr_judge.specs.Rows.{Tells, known_row, row_kept, row_seen}
use Rattle.expr_judge.proofs.TellingLemmas.{tells_only}
use Rattle.declaration_judge.specs.declared.declarations.Declarations.{Declarations}
use Rattle.declaration_judge.specs.Kept.{OnlyTypesJoin, facts_seen}
use Rattle.declaration_judge.specs.Rows.{kept_and, row_without_type}
use Rattle.declaration_judge.proofs.RowLemmas.{declarator_row, kept_more, row_typed, row_untyped, untyped_silent}

-- What is declared

pub least_three : (first second third : List meaning.Broken)
    → lesser (lesser (least_broken first) (least_broken second)) (least_broken third) ≡ least_broken (first ++ second ++ third)
least_three first second third =
    ap (λ least. lesser least (least_broken third)) (sym (least_both first second)) ∙ sym (least_both (first ++ second) third)

module _ (nodes : UnitNodes) (surroundings : List Surrounding) (kept : Declarations) (handle : ℕ) (surrounding : Surrounding) where
  abbrev told : Told
  told = told_in kept.types

  abbrev facts_before : List Fact
  facts_before = facts_seen kept

  tells_declared :
      (declaration : DeclaredFact) (before after : List Failure) (row : NodeRow) (broken : Option Broken)
      → Appends kept.types before after (declaration_failures nodes surroundings facts_before handle surrounding (declared_seen kept.types declaration))
      → option_map broken_seen broken
      ≡ least_broken (declaration_broken told nodes surroundings facts_before handle surrounding (declared_seen kept.types declaration))
      → row_seen kept.types row ≡ kept_and (row_seen kept.types (known_row (facts.Declared declaration))) (option_map broken_seen broken)
      → IsKnownNodeFact kept.types row.fact
      → Tells kept.types kept.types before after row
      (declaration_row_by told nodes surroundings facts_before handle surrounding (Declared (declared_seen kept.types declaration)))
  tells_declared declaration before after row broken appends least made id =
      let meant = declared_seen kept.types declaration in
      record {
        row =
            kept_more kept.types (known_row (facts.Declared declaration)) row broken (known (Declared meant))
            (declaration_broken told nodes surroundings facts_before handle surrounding meant) made least refl;
        ids = id;
        failures = appends;
        keeps = joins_none kept.types;
      }

  -- as it is made
  pub tells_made :
      (declaration : DeclaredFact) → IsTypeId kept.types declaration.of → (before after : List Failure) (row said : NodeRow) (broken : Option Broken)
      → Appends kept.types before after (declaration_failures nodes surroundings facts_before handle surrounding (declared_seen kept.types declaration))
      → option_map broken_seen broken
      ≡ least_broken (declaration_broken told nodes surroundings facts_before handle surrounding (declared_seen kept.types declaration))
      → row ≡ known_row (facts.Declared declaration)
      → row_seen kept.types said ≡ kept_and (row_seen kept.types row) (option_map broken_seen broken)
      → (IsKnownNodeFact kept.types row.fact → IsKnownNodeFact kept.types said.fact)
      → Tells kept.types kept.types before after said
      (declaration_row_by told nodes surroundings facts_before handle surrounding (Declared (declared_seen kept.types declaration)))
  tells_made declaration id before after row said broken appends least made seen known =
      tells_declared declaration before after said broken appends least
      (seen ∙ ap (λ (one : NodeRow). kept_and (row_seen kept.types one) (option_map broken_seen broken)) made)
      (known (subst (λ (one : NodeRow). IsKnownNodeFact kept.types one.fact) (sym made) id))

  -- what is known of a declarator, if it is one
  pub no_declaration : (fact : NodeFact) → declaration_in fact ≡ None
      → declaration_row_by told nodes surroundings facts_before handle surrounding (node_seen kept.types fact) ≡ nothing
  no_declaration facts.Unknown none = refl
  no_declaration (facts.Expression expression) none = refl
  no_declaration (facts.Specified specifiers) none = refl
  no_declaration (facts.Declared declaration) none = cc
  no_declaration (facts.NamedType of) none = refl

  pub one_declaration : (fact : NodeFact) (declaration : DeclaredFact) → declaration_in fact ≡ Some declaration
      → declaration_row_by told nodes surroundings facts_before handle surrounding (Declared (declared_seen kept.types declaration))
      ≡ declaration_row_by told nodes surroundings facts_before handle surrounding (node_seen kept.types fact)
  one_declaration facts.Unknown declaration is = cc
  one_declaration (facts.Expression expression) declaration is = cc
  one_declaration (facts.Specified specifiers) declaration is = cc
  one_declaration (facts.Declared other) declaration is =
      ap (λ one. declaration_row_by told nodes surroundings facts_before handle surrounding (Declared (declared_seen kept.types one)))
      (same_Some declaration other (sym is))
  one_declaration (facts.NamedType of) declaration is = cc

  pub one_known : (fact : NodeFact) (declaration : DeclaredFact) → declaration_in fact ≡ Some declaration → IsKnownNodeFact kept.types fact
      → IsTypeId kept.types declaration.of
  one_known facts.Unknown declaration is id = cc
  one_known (facts.Expression expression) declaration is id = cc
  one_known (facts.Specified specifiers) declaration is id = cc
  one_known (facts.Declared other) declaration is id =
      subst (λ (one : DeclaredFact). IsTypeId kept.types one.of) (sym (same_Some declaration other (sym is))) id
  one_known (facts.NamedType of) declaration is id = cc

-- where it is none, nothing is told
pub tells_nothing : (table : TypeTable) (found : List Failure) (row : NodeRow) → row ≡ known_row facts.Unknown → Tells table table found found row nothing
tells_nothing table found row made =
    subst (λ (said : NodeRow). Tells table table found found said nothing) (sym made)
    (tells_only table table found (known_row facts.Unknown) nothing (record { row = refl; ids = tt; silent = refl }) (joins_none table))

-- A declarator where it stands

abbrev pub placed_at : code.Surrounding → DeclaratorPlace
placed_at surrounding = record { parent = surrounding.parent; place = surrounding.place; scope = surrounding.around.scope }

declared-standing :
    (nodes : UnitNodes) (surrounding : code.Surrounding) (name : List ℕ) (storage : facts_meant.StorageFact) (type_ : Option TypeTree)
    → declared_if nodes (standing (placed_at surrounding)) name storage type_ ≡ declared_if nodes (surrounding_seen surrounding) name storage type_
declared-standing nodes surrounding name storage None = refl
declared-standing nodes surrounding name storage (Some type_) = refl

-- of what it stands in no more is asked than its place
pub declarator-standing :
    (nodes : UnitNodes) (surrounding : code.Surrounding) (known : List Fact) (handle : ℕ) (specifiers : Option facts_meant.SpecifiedFact)
    → declarator_fact nodes (standing (placed_at surrounding)) known handle specifiers
    ≡ declarator_fact nodes (surrounding_seen surrounding) known handle specifiers
declarator-standing nodes surrounding known handle None = refl
declarator-standing nodes surrounding known handle (Some specifiers) =
    declared-standing nodes surrounding (node_at nodes handle).name specifiers.storage
    (declared_type nodes known surrounding.parent surrounding.place (children_at nodes handle) specifiers.type_)

module _ (nodes : UnitNodes) (surroundings : List Surrounding) (handle : ℕ) (surrounding : Surrounding) (old new : Declarations) (only : OnlyTypesJoin old new)
    (same : facts_seen new ≡ facts_seen old) (declares : is_member_declaration (kind_at nodes surrounding.parent) ≡ false) (fact : Fact)
    (is : fact ≡ declarator_fact nodes surrounding (facts_seen old) handle (specifiers_of nodes (facts_seen old) surrounding.parent)) where
  abbrev specifiers : Option facts_meant.SpecifiedFact
  specifiers = specifiers_of nodes (facts_seen old) surrounding.parent

  -- where it is none of a member
  declared-is :
      declaration_row_by (told_in new.types) nodes surroundings (facts_seen new) handle surrounding fact
      ≡ declared_row (told_in old.types) nodes surroundings (facts_seen old) handle surrounding
  declared-is =
      (λ i. declaration_row_by (only.types.layouts i) nodes surroundings (same i) handle surrounding (is i))
      ∙ ap
      (λ test. if test then member_declarator_row nodes surroundings (told_in old.types) (facts_seen old) handle surrounding
      else declaration_row_by (told_in old.types) nodes surroundings (facts_seen old) handle surrounding
      (declarator_fact nodes surrounding (facts_seen old) handle specifiers))
      (sym declares)

  abbrev parts_broken : List meaning.Broken
  parts_broken = declarator_parts_broken (told_in old.types) nodes (facts_seen old) handle surrounding specifiers

  abbrev names_broken : List meaning.Broken
  names_broken = own_name_broken nodes surroundings (facts_seen old) handle surrounding

  abbrev large : List ℕ
  large = large_by (told_in old.types) nodes (facts_seen old) surrounding.parent (children_at nodes handle) specifiers

  abbrev declared_so : Row
  declared_so = declared_row (told_in old.types) nodes surroundings (facts_seen old) handle surrounding

  pub names-are : defined_name_broken nodes surroundings (facts_seen new) handle fact ≡ names_broken
  names-are =
      (λ i. defined_name_broken nodes surroundings (same i) handle (is i))
      ∙ ap
      (λ test. if test then name_broken nodes surroundings handle
      else defined_name_broken nodes surroundings (facts_seen old) handle (declarator_fact nodes surrounding (facts_seen old) handle specifiers))
      (sym declares)

  -- its parts break nothing
  pub tells_declarator :
      (before after : List Failure) (row said : NodeRow) (parts : DeclaratorParts)
      → Tells new.types new.types before after row (declaration_row_by (told_in new.types) nodes surroundings (facts_seen new) handle surrounding fact)
      → parts.broken ≡ None → option_map broken_seen parts.broken ≡ least_broken parts_broken → parts.passed ≡ least_token large
      → row_seen new.types said ≡ record (row_seen new.types row) { passed = parts.passed }
      → IsKnownNodeFact new.types said.fact
      → Tells old.types new.types before after said (whole_declarator_row (told_in old.types) nodes surroundings (facts_seen old) handle surrounding)
  tells_declarator before after row said parts tells none least passed made id =
      subst (Tells old.types new.types before after said)
      (sym (row_typed parts_broken names_broken declared_so large (sym (ap (option_map broken_seen) none) ∙ least)))
      (record {
        row = made ∙ (λ i. record ((tells.row ∙ ap row_kept declared-is) i) { passed = passed i });
        ids = id;
        failures = subst (λ (one : Row). Appends new.types before after one.failures) declared-is tells.failures;
        keeps = only.types;
      })

  -- or they do
  pub tells_untyped :
      (found : List Failure) (said : NodeRow) (parts : DeclaratorParts) (broken : Broken) (name : Option Broken)
      → parts.broken ≡ Some broken → option_map broken_seen parts.broken ≡ least_broken parts_broken → parts.passed ≡ least_token large
      → option_map broken_seen name ≡ least_broken (defined_name_broken nodes surroundings (facts_seen new) handle fact)
      → row_seen new.types said ≡ row_without_type (Some (broken_seen broken)) (option_map broken_seen name) parts.passed
      → IsKnownNodeFact new.types said.fact
      → Tells old.types new.types found found said (whole_declarator_row (told_in old.types) nodes surroundings (facts_seen old) handle surrounding)
  tells_untyped found said parts broken name some least passed names made id =
      let there : Some (broken_seen broken) ≡ least_broken parts_broken = sym (ap (option_map broken_seen) some) ∙ least in
      tells_only old.types new.types found said (declarator_row parts_broken names_broken declared_so large)
      (record {
        row =
            made
            ∙ (λ i. row_without_type (there i) ((names ∙ ap least_broken names-are) i) (passed i))
            ∙ sym (row_untyped parts_broken names_broken declared_so large (broken_seen broken) there);
        ids = id;
        silent = untyped_silent parts_broken names_broken declared_so large (broken_seen broken) there;
      })
      only.types
