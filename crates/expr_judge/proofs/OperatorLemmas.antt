-- Rows of operators that were taken over, and with their constants.
use Rattle.std.proofs.Common.{◌≡◌, ℕ, zero, suc, Bool, false, List, [], ◌∷◌, ◌++◌, ℤ, pos, map, Option, Some, None, option_map, Result, IfOk, OnOk, refl, sym, ap, subst, ◌∙◌}
use Rattle.std.proofs.lemmas.Option.{none-some, same_Some}
use Rattle.sparse_model.specs.declared.failure.Failure.{Failure}
use Rattle.meaning_types.specs.Conversions.{promoted}
use Rattle.meaning_types.specs.Types.{TypeTree, Typed, IntegerTree, RestrictedTree}
use Rattle.meaning_constants.specs.Bits.{bits_of_number}
use Rattle.meaning_constants.specs.Constants.{Constant, kind_of}
use Rattle.meaning_constants.specs.Nodes.{loaded_type}
use Rattle.meaning_constants.specs.Numbers.{IsInRange}
use Rattle.meaning_constants.specs.laws.Nodes.{FitsItsKind, PartFits, PartsFit}
use Rattle.meaning_constants.proofs.Bits.{bits_tell_numbers}
use Rattle.meaning_constants.proofs.Numbers.{wrapped_is_in_range}
use Rattle.meaning_typing.specs.Facts as meaning
use Rattle.meaning_typing.specs.Facts.{fact_at}
use Rattle.meaning_typing.specs.Rows.{Row}
use Rattle.meaning_typing.specs.Typing.{part_seen, row_with_constant, with_constant}
use Rattle.c_types.specs.Table.{TypeTable, type_at}
use Rattle.node_facts.specs.Known.{number_with}
use Rattle.node_facts.specs.declared.fact.NodeFact.{NodeFact}
use Rattle.node_facts.specs.declared.fact.NodeFact.TheVariants as facts
use Rattle.node_facts.specs.Facts.{IsKnownNodeFact, fact_seen, node_seen, nodes_seen, number_in}
use Rattle.node_facts.specs.Growing.{TypesJoin}
use Rattle.expression_rows.specs.declared.row.Row as expr
use Rattle.expression_rows.specs.Rows.{IsKnownRow, told}
use Rattle.expression_rows.specs.Rows as rows
use Rattle.expr_judge.specs.declared.row.NodeRow.{NodeRow}
use Rattle.expr_judge.specs.Constants.{bits_of, with_bits}
use Rattle.expr_judge.specs.Operators.{HasKindOf, IsOfKind}
use Rattle.expr_judge.specs.Rows.{Tells, listed_failures, node_row}
use Rattle.node_facts.proofs.GrowthLemmas.{joins_on}
use Rattle.expr_judge.proofs.TakenLemmas.{row_taken}

-- a row over operands whose types joined before, and which asks of them nothing but expressions
pub operator_taken :
    {E : Type 0} (old between types : TypeTable) → TypesJoin old between → TypesJoin between types → (before after : List Failure)
    (row : expr.Row) → IsKnownRow types row → (result : Result NodeRow E) → IfOk result (λ taken. taken ≡ node_row row)
    → OnOk result (after ≡ before ++ listed_failures row.failures) → (stated meant : Row) → rows.row_seen types row ≡ told stated → stated ≡ meant
    → IfOk result (λ taken. Tells old types before after taken meant)
operator_taken old between types first join before after row known result taken appended stated meant is same =
    row_taken old types (joins_on old between types first join) before after row meant known result taken appended (is ∙ ap told same)

-- The constant of an operator

abbrev number_if : Option Constant → Option ℤ
number_if constant = option_map (λ known. known.number) constant

-- the bits of a constant that is of its type tell its number
bits-tell : (type_ : TypeTree) (constant : Option Constant) → IsOfKind (kind_of type_) constant → FitsItsKind constant
    → number_in type_ (bits_of constant) ≡ number_if constant
bits-tell type_ None is fits = refl
bits-tell type_ (Some constant) is fits =
    ap (λ kind. number_with kind (Some (bits_of_number constant.number))) is
    ∙ ap Some (bits_tell_numbers constant.kind constant.number (fits constant refl))

-- numbers of parts are of their kinds, as they are kept
module _ (table : TypeTable) where
  number-fits : (type_ : TypeTree) (fouled : Bool) (bits : Option ℕ) → PartFits (Some (record { of = type_; fouled = fouled; number = number_in type_ bits }))
  number-fits (Typed (IntegerTree kind) _ _) fouled (Some bits) constant is =
      subst (λ (c : Constant). IsInRange (promoted c.kind) c.number) (same_Some _ constant is) (wrapped_is_in_range (promoted kind) (pos bits))
  number-fits (Typed (RestrictedTree kind identity) _ _) fouled (Some bits) constant is =
      subst (λ (c : Constant). IsInRange (promoted c.kind) c.number) (same_Some _ constant is) (wrapped_is_in_range (promoted kind) (pos bits))
  number-fits (Typed (IntegerTree kind) _ _) fouled None constant is = absurd (none-some constant is)
  number-fits (Typed (RestrictedTree kind identity) _ _) fouled None constant is = absurd (none-some constant is)
  number-fits type_ fouled bits constant is = absurd (none-some constant is)

  named-fits : (type_ : TypeTree) (fouled : Bool) → PartFits (Some (record { of = type_; fouled = fouled; number = None }))
  named-fits (Typed (IntegerTree kind) _ _) fouled constant is = absurd (none-some constant is)
  named-fits (Typed (RestrictedTree kind identity) _ _) fouled constant is = absurd (none-some constant is)
  named-fits type_ fouled constant is = absurd (none-some constant is)

  pub none-fits : PartFits None
  none-fits constant is = absurd (none-some constant is)

  part-fits : (fact : NodeFact) → PartFits (part_seen (node_seen table fact))
  part-fits facts.Unknown = none-fits
  part-fits (facts.Expression expression) =
      number-fits (loaded_type expression.node.value.width (type_at table expression.node.of)) expression.node.value.fouled expression.node.value.constant
  part-fits (facts.Specified specifiers) = none-fits
  part-fits (facts.Declared declaration) = none-fits
  part-fits (facts.NamedType of) = named-fits (type_at table of) false

  fits-at : (kept : List NodeFact) (handle : ℕ) → PartFits (part_seen (fact_at (nodes_seen table kept) handle))
  fits-at [] handle = none-fits
  fits-at (fact ∷ kept) zero = part-fits fact
  fits-at (fact ∷ kept) (suc handle) = fits-at kept handle

  pub all-fit : (kept : List NodeFact) (handles : List ℕ) → PartsFit (map (λ child. part_seen (fact_at (nodes_seen table kept) child)) handles)
  all-fit kept [] = tt
  all-fit kept (handle ∷ handles) = (fits-at kept handle, all-fit kept handles)

  -- a fact with the constant that is of its type
  fact-with : (constant : Option Constant) (fact : NodeFact) → HasKindOf (node_seen table fact) constant → FitsItsKind constant
      → node_seen table (with_bits (bits_of constant) fact) ≡ with_constant (number_if constant) (node_seen table fact)
  fact-with constant facts.Unknown has fits = refl
  fact-with constant (facts.Expression expression) has fits =
      ap (λ number. meaning.Expression (record (fact_seen table expression) { constant = number }))
      (bits-tell (loaded_type expression.node.value.width (type_at table expression.node.of)) constant has fits)
  fact-with constant (facts.Specified specifiers) has fits = refl
  fact-with constant (facts.Declared declaration) has fits = refl
  fact-with constant (facts.NamedType of) has fits = refl

  pub with-known : (bits : Option ℕ) (fact : NodeFact) → IsKnownNodeFact table fact → IsKnownNodeFact table (with_bits bits fact)
  with-known bits facts.Unknown known = known
  with-known bits (facts.Expression expression) known = known
  with-known bits (facts.Specified specifiers) known = known
  with-known bits (facts.Declared declaration) known = known
  with-known bits (facts.NamedType of) known = known

-- a row with a constant that is of the type that it tells
pub tells_with : (old new : TypeTable) (before after : List Failure) (constant : Option Constant) (meant : Row) (said : NodeRow)
    → HasKindOf meant.fact constant → FitsItsKind constant → Tells old new before after said meant
    → Tells old new before after (record said { fact = with_bits (bits_of constant) said.fact }) (row_with_constant (number_if constant) meant)
tells_with old new before after constant meant said has fits tells =
    let is : node_seen new said.fact ≡ meant.fact = ap (λ kept. kept.fact) tells.row in
    let with : node_seen new (with_bits (bits_of constant) said.fact) ≡ with_constant (number_if constant) meant.fact =
    fact-with new constant said.fact (subst (λ (fact : meaning.Fact). HasKindOf fact constant) (sym is) has) fits
    ∙ ap (with_constant (number_if constant)) is in
    record {
      row = λ i. record { fact = with i; broken = (tells.row i).broken; passed = (tells.row i).passed };
      ids = with-known new (bits_of constant) said.fact tells.ids;
      failures = tells.failures;
      keeps = tells.keeps;
    }
