-- A list of attributes declares nothing.
use Rattle.std.proofs.Common.{◌≡◌, ℕ, inl, inr, false, take, List, [], length, option_map, refl, sym, ap, subst, ◌∙◌, arith}
use Rattle.std.proofs.lemmas.Bool.{cases_lt}
use Rattle.std.proofs.lemmas.List.{get_or_past, length-map}
use Rattle.std.proofs.lemmas.Option.{get_or_from_slice_get, slice_get-map}
use Rattle.vocabulary.specs.declared.node_kind.NodeKind.{NodeKind}
use Rattle.vocabulary.specs.declared.node_kind.NodeKind.TheVariants as kinds
use Rattle.meaning_layout.specs.Sizes.{Told}
use Rattle.meaning_operands.specs.Failures.{Broken}
use Rattle.meaning_typing.specs.Aggregates.{KnownAggregates}
use Rattle.meaning_typing.specs.Evaluation.{is_automatic}
use Rattle.meaning_typing.specs.Facts.{Fact, Unknown, fact_at}
use Rattle.meaning_typing.specs.Rows.{Row, unless_broken}
use Rattle.meaning_typing.specs.Surroundings.{Want, ForValue, Surrounding, surrounding_at}
use Rattle.meaning_typing.specs.Typing.{token_at}
use Rattle.meaning_typing.specs.Wholes.{loaded_broken}
use Rattle.meaning_typing.specs.Units.{UnitNodes, kind_at}
use Rattle.meaning_typing.specs.MemberRows.{aggregates_before}
use Rattle.meaning_typing.specs.WholeTyping.{whole_row_by}
use Rattle.meaning_statements.specs.StatementRows.{statement_row_at}
use Rattle.meaning_judgements.specs.UnitRows.{row_by_statement}
use Rattle.meaning_units.specs.UnitRows.{row_by_initializer}
use Rattle.meaning_units.specs.WholeRows.{AreRows, facts_of}

-- what isn't known is not loaded
nothing-loaded : (told : Told) (token : ℕ) (want : Want) → loaded_broken told token want Unknown ≡ []
nothing-loaded told token ForValue = refl
nothing-loaded told token want = refl

-- its row, by its kind
row-of : (aggregates : KnownAggregates) (nodes : UnitNodes) (surroundings : List Surrounding) (earlier : List Fact) (handle : ℕ) (statement initializing : Row)
    → (kind : NodeKind) → kind ≡ kinds.AttributeList
    → (row_by_initializer kind (row_by_statement kind (whole_row_by aggregates nodes surroundings earlier handle kind) statement) initializing).fact ≡ Unknown
row-of aggregates nodes surroundings earlier handle statement initializing kind is =
    subst (λ (now : NodeKind). (row_by_initializer now (row_by_statement now (whole_row_by aggregates nodes surroundings earlier handle now) statement) initializing).fact ≡ Unknown)
    (sym is)
    (ap (λ (broken : List Broken). unless_broken broken Unknown)
    (nothing-loaded aggregates.told (token_at nodes handle) (surrounding_at surroundings handle).want))

pub lists_declare_nothing : (nodes : UnitNodes) (surroundings : List Surrounding) (rows : List Row) → AreRows nodes surroundings rows
    → (handle : ℕ) → kind_at nodes handle ≡ kinds.AttributeList → is_automatic (fact_at (facts_of rows) handle) ≡ false
lists_declare_nothing nodes surroundings rows are handle is =
    elim (cases_lt handle (length rows)) [
      | inl within ↦
          let (row, found, (initializing, also, same)) = are.first.each handle within in
          let earlier = facts_of (take handle rows) in
          let fact : fact_at (facts_of rows) handle ≡ row.fact =
          get_or_from_slice_get (facts_of rows) handle row.fact Unknown (slice_get-map (λ (row : Row). row.fact) rows handle ∙ ap (option_map (λ (row : Row). row.fact)) found) in
          ap is_automatic
          (fact ∙ ap (λ (row : Row). row.fact) same
          ∙ row-of (aggregates_before nodes surroundings earlier) nodes surroundings earlier handle (statement_row_at nodes surroundings earlier handle) initializing
          (kind_at nodes handle) is)
      | inr past ↦ ap is_automatic (get_or_past (facts_of rows) handle Unknown (omega (arith, past, length-map rows (λ (row : Row). row.fact))))
    ]
