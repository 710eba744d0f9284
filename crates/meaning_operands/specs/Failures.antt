-- What is told of a unit: failures of rules, and constraints that are broken.
use Rattle.std.specs.Prelude.{ℕ, ℤ, List, Option}
use Rattle.vocabulary.specs.declared.rule.RuleCode.{RuleCode}
use Rattle.vocabulary.specs.declared.error_kind.ErrorKind.{ErrorKind}
use Rattle.meaning_types.specs.Types.{TypeTree}

-- A rule fails at a token. What its text says besides: which part converts, one or two types, a name, and the numbers
-- that are there and wanted.
pub record Failure : Type 0 where
  pub token : ℕ
  pub rule : RuleCode
  pub part : ℕ
  pub first : Option TypeTree
  pub second : Option TypeTree
  pub name : List ℕ
  pub number : ℤ
  pub wanted : ℤ

-- a constraint is broken at a token; the name is empty where its text has none
pub record Broken : Type 0 where
  pub constraint : ErrorKind
  pub token : ℕ
  pub name : List ℕ
