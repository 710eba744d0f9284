-- Worked examples: statements by what is known of their parts, as one can tell by eye. The keyword stands at token 2, an expression at 3.
use Rattle.std.specs.Prelude.{◌≡◌, ℤ, pos, negsuc, Bool, true, false, List, [], ◌∷◌, ◌++◌, map, Option, Some, None}
use Rattle.vocabulary.specs.declared.error_kind.ErrorKind.TheVariants.{CaseLabelIsNotConstant, ConditionIsNotScalar, ReturnWithoutValue, SwitchOnNoInteger, ValueReturnedFromVoid, VoidValueUsed}
use Rattle.vocabulary.specs.declared.node_kind.NodeKind.TheVariants as kinds
use Rattle.vocabulary.specs.declared.rule.RuleCode.TheVariants.{B3, B5, B6, S4, S5}
use Rattle.meaning_types.specs.Types.{TypeTree}
use Rattle.meaning_operands.specs.Failures.{Failure}
use Rattle.meaning_typing.specs.Surroundings.{ForEffect, ForValue, want_of}
use Rattle.meaning_typing.specs.Facts.{Expression, ExpressionFact, Unknown, value}
use Rattle.meaning_typing.specs.Rows.{Row, breaks, breaks_at, nothing}
use Rattle.meaning_typing.specs.examples.Drawn.{int}
use Rattle.meaning_typing.specs.examples.Values.{be32, c, fouled_h, h, i, l, le16, le32, long, names, none, null_pointer, number, p, r, shows, t, ui, void, void_value, x, zero}
use Rattle.meaning_statements.specs.Statements.{case_row, condition_row, do_row, number_of_label, says, switch_row, whole_return_row}

abbrev pub tested : ExpressionFact → Row
tested condition = condition_row 2 3 (Expression condition)

abbrev pub switched : ExpressionFact → Row
switched operand = switch_row 2 3 (Expression operand)

-- a label under a switch value
abbrev pub labelled : (switched label : ExpressionFact) → Row
labelled switched label = case_row 2 3 (Some 7) false (Expression label) (Expression switched) None

abbrev pub repeats : (braced : Bool) → ExpressionFact → Row
repeats braced condition = do_row 2 3 braced (Expression condition)

abbrev pub returns : (result : TypeTree) → ExpressionFact → Row
returns result operand = whole_return_row 2 3 (Some (Expression operand)) (Some result)

abbrev pub fails : List Failure → Row
fails failures = says [] failures

-- a constant of this type
abbrev pub constant : TypeTree → ℤ → ExpressionFact
constant type_ numbered = record (value type_) { constant = Some numbered }

abbrev pub numbered : (switched label : ExpressionFact) → Option ℤ
numbered switched label = number_of_label (Expression switched) (Expression label)

pub record ConditionExamples : Type 0 where
  -- a structure, a void value; a pointer, a restricted value, a function
  pub aggregate : tested x ≡ breaks (breaks_at ConditionIsNotScalar 3)
  pub no_value : tested void_value ≡ breaks (breaks_at VoidValueUsed 3)
  pub scalars : map tested (p ∷ h ∷ none ∷ []) ≡ nothing ∷ nothing ∷ nothing ∷ []
  -- `~h`, and a value of which nothing is known
  pub fouled : tested fouled_h ≡ fails (names B5 le16 ∷ [])
  pub unknown : condition_row 2 3 Unknown ≡ nothing
  -- `do` without braces, and with them
  pub unbraced : repeats false i ≡ fails (null_pointer S5 ∷ [])
  pub braced : repeats true i ≡ nothing
  pub both : repeats false fouled_h ≡ fails (names B5 le16 ∷ null_pointer S5 ∷ [])
  -- the conditions of `if` and `do` are wanted, and their bodies aren't
  pub wants :
      (want_of kinds.IfStatement 0 ≡ ForValue) × (want_of kinds.IfStatement 1 ≡ ForEffect)
      × (want_of kinds.DoStatement 1 ≡ ForValue) × (want_of kinds.DoStatement 0 ≡ ForEffect)
      × (want_of kinds.ForStatement 2 ≡ ForValue) × (want_of kinds.ForStatement 3 ≡ ForEffect)

pub record SwitchValueExamples : Type 0 where
  -- a pointer, a structure, a void value; a char, a `_Bool`, a restricted value
  pub pointer : switched p ≡ breaks (breaks_at SwitchOnNoInteger 3)
  pub aggregate : switched x ≡ breaks (breaks_at SwitchOnNoInteger 3)
  pub no_value : switched void_value ≡ breaks (breaks_at VoidValueUsed 3)
  pub integers : map switched (c ∷ t ∷ r ∷ []) ≡ nothing ∷ nothing ∷ nothing ∷ []
  pub fouled : switched fouled_h ≡ fails (names B5 le16 ∷ [])

pub record LabelExamples : Type 0 where
  -- an object, a pointer; a number
  pub object : labelled i i ≡ breaks (breaks_at CaseLabelIsNotConstant 3)
  pub pointer : labelled i p ≡ breaks (breaks_at CaseLabelIsNotConstant 3)
  pub integer : labelled i (number (pos 1)) ≡ nothing
  -- `none()`, which is used as a value
  pub no_value : labelled i void_value ≡ breaks (breaks_at VoidValueUsed 3 ++ breaks_at CaseLabelIsNotConstant 3)
  -- `~(FORCE le16)1` under h, and `(FORCE le16)1`
  pub fouled : labelled h (record fouled_h { constant = Some (negsuc 1) }) ≡ fails (names B5 le16 ∷ [])
  pub same : labelled h (constant le16 (pos 1)) ≡ nothing
  -- 1 and 0 under r, another restricted type there, and a restricted label under i
  pub plain : labelled r (number (pos 1)) ≡ fails (shows B6 int le32 ∷ [])
  pub zero_joins : labelled r zero ≡ nothing
  pub other : labelled r (constant be32 (pos 6)) ≡ fails (shows B6 be32 le32 ∷ [])
  pub restricted : labelled i (constant le32 (pos 1)) ≡ fails (shows B6 le32 int ∷ [])
  -- both, under i
  pub both : labelled i (record fouled_h { constant = Some (negsuc 1) }) ≡ fails (names B5 le16 ∷ shows B6 le16 int ∷ [])
  -- of a switch value that isn't known nothing is asked
  pub unknown : case_row 2 3 (Some 7) false (Expression (constant le32 (pos 1))) Unknown None ≡ nothing

pub record NumberExamples : Type 0 where
  -- 4294967297 under int, and under long
  pub narrow : numbered i (constant long (pos 4294967297)) ≡ Some (pos 1)
  pub wide : numbered l (constant long (pos 4294967297)) ≡ Some (pos 4294967297)
  -- -1 under unsigned int; 257 under char, which is promoted
  pub below : numbered ui (number (negsuc 0)) ≡ Some (pos 4294967295)
  pub promoted : numbered c (number (pos 257)) ≡ Some (pos 257)
  -- -2 as one of unsigned short, whose promoted kind is int; 1 under a restricted type
  pub fouled : numbered h (record fouled_h { constant = Some (negsuc 1) }) ≡ Some (negsuc 1)
  pub restricted : numbered r (constant le32 (pos 5)) ≡ Some (pos 5)
  pub none_of_pointer : numbered p (number (pos 1)) ≡ None

pub record ReturnExamples : Type 0 where
  -- `return none();` from a void function, and `return;`
  pub void_on : returns void void_value ≡ fails (null_pointer S4 ∷ [])
  pub no_value : whole_return_row 2 3 None (Some void) ≡ nothing
  -- `return i;` from one, and `return;` from another function
  pub value_from_void : returns void i ≡ breaks (breaks_at ValueReturnedFromVoid 2)
  pub without_value : whole_return_row 2 3 None (Some int) ≡ breaks (breaks_at ReturnWithoutValue 2)
  -- `return none();` and `return 1;` from an int function, and `return r;`, which is told at `return`
  pub void_from_int : returns int void_value ≡ breaks (breaks_at VoidValueUsed 3)
  pub value_from_int : returns int (number (pos 1)) ≡ nothing
  pub converted : returns int r ≡ fails (shows B3 int le32 ∷ [])
  -- outside every function nothing is asked
  pub outside : whole_return_row 2 3 (Some (Expression void_value)) None ≡ nothing
