-- How the row of the specifier of a structure or a union is seen by the definitions.
use Rattle.std.specs.Prelude.{ℕ, Bool, List, [], ◌∷◌, Option, Some, None, option_map}
use Rattle.meaning_types.specs.Types.{AggregateTree}
use Rattle.meaning_typing.specs.Facts.{NamedType}
use Rattle.meaning_typing.specs.Rows.{unless_broken}
use Rattle.meaning_typing.specs.Specifiers.{plain_type}
use Rattle.c_types.specs.Table.{TypeTable}
use Rattle.node_facts.specs.Facts.{node_seen}
use Rattle.expression_rows.specs.declared.row.Broken.{Broken}
use Rattle.expression_rows.specs.Rows.{Told, broken_seen}
use Rattle.tag_rows.specs.Seen.{broken_listed}
use Rattle.aggregate_rows.specs.declared.row.AggregateRow.{AggregateRow}

-- where an object is too large
abbrev pub passed_listed : Option ℕ → List ℕ
passed_listed None = []
passed_listed (Some token) = token ∷ []

abbrev pub row_seen : TypeTable → AggregateRow → Told
row_seen table row =
    record {
      fact = node_seen table row.fact;
      broken = option_map broken_seen row.broken;
      failures = [];
      passed = passed_listed row.passed;
    }

-- the row of this type, by what is broken and where an object is too large
abbrev pub row_told : (number : ℕ) → (is_union : Bool) → Option Broken → (passed : Option ℕ) → Told
row_told number is_union broken passed =
    record {
      fact = unless_broken (broken_listed broken) (NamedType (plain_type (AggregateTree number is_union)));
      broken = option_map broken_seen broken;
      failures = [];
      passed = passed_listed passed;
    }
