-- Worked examples: the lines of each rule.
use Rattle.std.specs.Prelude.{◌≡◌, ℕ, List, codes, Option, Some, None}
use Rattle.vocabulary.specs.declared.int_kind.IntKind.TheVariants.{Char, Int, UInt, UShort}
use Rattle.vocabulary.specs.declared.rule.RuleCode.{RuleCode}
use Rattle.vocabulary.specs.declared.rule.RuleCode.TheVariants.{A1, A2, A3, A4, A5, A6, A7, B1, B2, B3, B4, B5, B6, B7, C1, C2, C3, N1, S1, S2, S3, S4, S5, S6, S7, S8}
use Rattle.meaning_types.specs.Types.{NumberedSpace, TypeTree, pointer_to}
use Rattle.meaning_types.specs.examples.Types.{in_space, noderef_in, user, plain, flagged_int}
use Rattle.meaning_types.specs.examples.Derived.{restricted_at}
use Rattle.meaning_warnings.specs.Warnings.{failure_lines}
use Rattle.meaning_warnings.specs.examples.Units.{a_unit, a_place, token_at, failure_at}

-- of a failure at a token that is spelled so
abbrev pub lines_at : List ℕ → ℕ → Option TypeTree → Option TypeTree → RuleCode → List ℕ
lines_at text part first second rule = failure_lines a_unit (Some (token_at text a_place)) (failure_at 0 part first second rule)

abbrev pub to_char : TypeTree
to_char = pointer_to (plain Char)

abbrev pub to_user_int : TypeTree
to_user_int = pointer_to (flagged_int (in_space (NumberedSpace 2)))

pub record PositionExamples : Type 0 where
  pub in_assignment :
      lines_at (codes "x") 0 (Some to_char) (Some to_user_int) A1
      ≡ codes "t.c:3:28: warning: incorrect type in assignment (different address spaces)\nt.c:3:28:    expected char *\nt.c:3:28:    got int address_space(2) *\n"
  pub in_argument :
      lines_at (codes "x") 2 (Some to_char) (Some to_user_int) A1
      ≡ codes "t.c:3:28: warning: incorrect type in argument 2 (different address spaces)\nt.c:3:28:    expected char *\nt.c:3:28:    got int address_space(2) *\n"
  pub in_last_argument :
      lines_at (codes "x") 255 (Some to_char) (Some to_user_int) A1
      ≡ codes "t.c:3:28: warning: incorrect type in argument 255 (different address spaces)\nt.c:3:28:    expected char *\nt.c:3:28:    got int address_space(2) *\n"
  pub in_initializer :
      lines_at (codes "x") 256 (Some to_char) (Some to_user_int) A1
      ≡ codes "t.c:3:28: warning: incorrect type in initializer (different address spaces)\nt.c:3:28:    expected char *\nt.c:3:28:    got int address_space(2) *\n"
  pub in_return :
      lines_at (codes "return") 0 (Some to_char) (Some to_user_int) A1
      ≡ codes "t.c:3:28: warning: incorrect type in return (different address spaces)\nt.c:3:28:    expected char *\nt.c:3:28:    got int address_space(2) *\n"

pub record SpaceExamples : Type 0 where
  pub base_types :
      lines_at (codes "x") 0 (Some to_char) (Some (plain Int)) A2
      ≡ codes "t.c:3:28: warning: incorrect type in assignment (different base types)\nt.c:3:28:    expected char *\nt.c:3:28:    got int\n"
  pub compared :
      lines_at (codes "==") 0 (Some to_char) (Some to_user_int) A3
      ≡ codes "t.c:3:28: warning: incompatible types in comparison\nt.c:3:28:    left char *\nt.c:3:28:    right int address_space(2) *\n"
  pub arms :
      lines_at (codes "?") 0 (Some to_char) (Some to_user_int) A3
      ≡ codes "t.c:3:28: warning: incompatible types in conditional\nt.c:3:28:    left char *\nt.c:3:28:    right int address_space(2) *\n"
  pub subtracted :
      lines_at (codes "-") 0 (Some to_char) (Some to_user_int) A3
      ≡ codes "t.c:3:28: warning: incompatible types in subtraction\nt.c:3:28:    left char *\nt.c:3:28:    right int address_space(2) *\n"
  pub noderef :
      lines_at (codes "x") 0 (Some (flagged_int (noderef_in user))) None A4
      ≡ codes "t.c:3:28: warning: dereference of noderef expression\n"
  pub space :
      lines_at (codes "x") 0 (Some (flagged_int (in_space user))) None A4
      ≡ codes "t.c:3:28: warning: dereference in address space __user\n"
  pub removed :
      lines_at (codes "x") 0 (Some to_user_int) None A5
      ≡ codes "t.c:3:28: warning: cast removes address space 2\n"
  pub added :
      lines_at (codes "x") 0 (Some to_user_int) None A6
      ≡ codes "t.c:3:28: warning: cast adds address space 2\n"
  pub redeclared :
      lines_at (codes "x") 0 (Some to_char) (Some to_user_int) A7
      ≡ codes "t.c:3:28: warning: symbol 'n' redeclared with different type\nt.c:3:28:    expected char *\nt.c:3:28:    got int address_space(2) *\n"

pub record RestrictedExamples : Type 0 where
  pub degrades :
      lines_at (codes "x") 0 (Some (restricted_at 7 UInt)) None B1
      ≡ codes "t.c:3:28: warning: restricted le32 degrades to integer\n"
  pub operands :
      lines_at (codes "x") 0 (Some (restricted_at 7 UInt)) (Some (plain Int)) B2
      ≡ codes "t.c:3:28: warning: operands of different restricted types\nt.c:3:28:    left restricted le32\nt.c:3:28:    right int\n"
  pub restricted_conversion :
      lines_at (codes "x") 1 (Some (restricted_at 7 UInt)) (Some (plain Int)) B3
      ≡ codes "t.c:3:28: warning: incorrect type in argument 1 (different restricted types)\nt.c:3:28:    expected restricted le32\nt.c:3:28:    got int\n"
  pub cast_of :
      lines_at (codes "x") 0 (Some (restricted_at 7 UInt)) (Some (restricted_at 9 UShort)) B4
      ≡ codes "t.c:3:28: warning: cast of restricted le32\n"
  pub cast_to :
      lines_at (codes "x") 0 (Some (plain Int)) (Some (restricted_at 9 UShort)) B4
      ≡ codes "t.c:3:28: warning: cast to restricted unsigned short\n"
  pub fouled :
      lines_at (codes "x") 0 (Some (restricted_at 7 UInt)) None B5
      ≡ codes "t.c:3:28: warning: fouled restricted le32 compared or tested\n"
  pub label :
      lines_at (codes "case") 0 (Some (restricted_at 7 UInt)) (Some (plain Int)) B6
      ≡ codes "t.c:3:28: warning: case label of a different restricted type\nt.c:3:28:    left restricted le32\nt.c:3:28:    right int\n"
  pub assigned :
      lines_at (codes "x") 0 (Some (restricted_at 7 UInt)) None B7
      ≡ codes "t.c:3:28: warning: bad assignment operator on restricted le32\n"

pub record OtherExamples : Type 0 where
  pub counts :
      lines_at (codes "x") 0 None None C1
      ≡ codes "t.c:3:28: warning: context imbalance in 'n' - different counts at this point\n"
  pub release :
      lines_at (codes "x") 0 None None C2
      ≡ codes "t.c:3:28: warning: context imbalance in 'n' - unexpected release\n"
  pub exit :
      lines_at (codes "x") 0 None None C3
      ≡ codes "t.c:3:28: warning: context imbalance in 'n' - wrong count at exit (300 instead of 44)\n"
  pub null :
      lines_at (codes "x") 0 None None N1
      ≡ codes "t.c:3:28: warning: using plain integer as NULL pointer\n"
  pub static :
      lines_at (codes "x") 0 None None S1
      ≡ codes "t.c:3:28: warning: symbol 'n' was not declared. Should it be static?\n"
  pub shadows :
      lines_at (codes "x") 0 None None S2
      ≡ codes "t.c:3:28: warning: symbol 'n' shadows an earlier one\n"
  pub undefined :
      lines_at (codes "x") 0 None None S3
      ≡ codes "t.c:3:28: warning: undefined preprocessor identifier 'n'\n"
  pub returning :
      lines_at (codes "x") 0 None None S4
      ≡ codes "t.c:3:28: warning: returning void-valued expression\n"
  pub do_while :
      lines_at (codes "x") 0 None None S5
      ≡ codes "t.c:3:28: warning: do-while statement is not a compound statement\n"
  pub prototype :
      lines_at (codes "x") 0 None None S6
      ≡ codes "t.c:3:28: warning: empty parameter list taken as (void)\n"
  pub bit_field :
      lines_at (codes "x") 0 None None S7
      ≡ codes "t.c:3:28: warning: one-bit signed bit-field\n"
  pub truncates :
      lines_at (codes "x") 0 None None S8
      ≡ codes "t.c:3:28: warning: cast truncates constant (300 becomes 44)\n"
