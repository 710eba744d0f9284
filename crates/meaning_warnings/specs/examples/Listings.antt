-- Worked examples: failures in their order, and the text of a unit.
use Rattle.std.specs.Prelude.{◌≡◌, ℕ, pos, List, [], ◌∷◌, ◌++◌, codes, None}
use Rattle.std.specs.declared.cmp.Ordering.{Ordering}
use Rattle.std.specs.declared.cmp.Ordering.TheVariants.{Less, Equal, Greater}
use Rattle.vocabulary.specs.declared.class.Class.TheVariants.{AddressSpace, Bitwise, Context, NonPointerNull, Decl, Shadow, Undef, ReturnVoid}
use Rattle.vocabulary.specs.declared.rule.RuleCode.{RuleCode}
use Rattle.vocabulary.specs.declared.rule.RuleCode.TheVariants.{A3, A4, A5, B1, B2, B3, B4, B5, S1, S2, S3, S4, S8}
use Rattle.vocabulary.specs.Rules.{default_classes}
use Rattle.meaning_operands.specs.Failures.{Failure}
use Rattle.meaning_warnings.specs.Places.{ShownUnit}
use Rattle.meaning_warnings.specs.Listing.{order_of, unit_lines}
use Rattle.meaning_warnings.specs.examples.Units.{place_in, token_at, unit_of, failure_at}

abbrev pub at_token : ℕ → ℕ → RuleCode → Failure
at_token token part rule = failure_at token part None None rule

-- which of two goes first at one token, where the second has this part
abbrev pub first_of : RuleCode → RuleCode → ℕ → Ordering
first_of rule other part = order_of (at_token 5 0 rule) (at_token 5 part other)

pub record OrderExamples : Type 0 where
  pub by_token : order_of (at_token 4 2 S8) (at_token 5 0 A3) ≡ Less
  -- the rule counts before the part
  pub access_before_argument : first_of A4 B3 1 ≡ Less
  pub argument_behind_access : order_of (at_token 5 1 B3) (at_token 5 0 A4) ≡ Greater
  pub comparison_before_degrading : first_of A3 B1 0 ≡ Less
  pub operands_before_test : first_of B2 B5 0 ≡ Less
  pub space_before_restricted_cast : first_of A5 B4 0 ≡ Less
  pub restricted_cast_before_truncation : first_of B4 S8 0 ≡ Less
  pub by_part : order_of (at_token 5 1 B3) (at_token 5 2 B3) ≡ Less
  pub one : first_of B3 B3 0 ≡ Equal

-- The unit of `int x;`, `#if FOO`, `#endif`, `int y;` has two failures and one of preprocessing; a token of a header stands
-- between.
abbrev pub named_failure : ℕ → List ℕ → RuleCode → Failure
named_failure token name rule =
    record { token = token; rule = rule; part = 0; first = None; second = None; name = name; number = pos 0; wanted = pos 0 }

abbrev pub a_file : ShownUnit
a_file =
    unit_of (token_at (codes "x") (place_in 1 1 5) ∷ token_at (codes "h") (place_in 2 7 1) ∷ token_at (codes "y") (place_in 1 4 5) ∷ [])
    (named_failure 0 (codes "FOO") S3 ∷ []) (token_at (codes "FOO") (place_in 1 2 5) ∷ [])

abbrev pub two_declared : List Failure
two_declared = named_failure 0 (codes "x") S1 ∷ named_failure 2 (codes "y") S1 ∷ []

-- A header that has two names left in one `#if` is read twice.
abbrev pub left_twice : ShownUnit
left_twice =
    unit_of [] (named_failure 0 (codes "FOO") S3 ∷ named_failure 1 (codes "BAR") S3 ∷ named_failure 2 (codes "FOO") S3 ∷ named_failure 3 (codes "BAR") S3 ∷ [])
    (token_at (codes "FOO") (place_in 2 1 5)
    ∷ token_at (codes "BAR") (place_in 2 1 12)
    ∷ token_at (codes "FOO") (place_in 2 1 5)
    ∷ token_at (codes "BAR") (place_in 2 1 12)
    ∷ [])

-- at one token, in the order of their rules
abbrev pub of_three_classes : List Failure
of_three_classes = named_failure 0 (codes "x") S1 ∷ named_failure 0 (codes "x") S2 ∷ named_failure 0 (codes "x") S4 ∷ []

-- operands of an operator; the class of its rule is on where no word switches it
abbrev pub two_operands : List Failure
two_operands = at_token 0 0 B2 ∷ []

pub record ListingExamples : Type 0 where
  -- those of preprocessing go first
  pub left_names_first :
      unit_lines a_file (Undef ∷ Decl ∷ []) two_declared
      ≡ codes "t.c:2:5: warning: undefined preprocessor identifier 'FOO'\n"
      ++ codes "t.c:1:5: warning: symbol 'x' was not declared. Should it be static?\n"
      ++ codes "t.c:4:5: warning: symbol 'y' was not declared. Should it be static?\n"
  pub by_default : unit_lines a_file default_classes two_declared ≡ []
  pub one_class : unit_lines a_file (Undef ∷ []) two_declared ≡ codes "t.c:2:5: warning: undefined preprocessor identifier 'FOO'\n"
  -- a token of a header has the header's path
  pub in_a_header :
      unit_lines a_file (Decl ∷ []) (named_failure 1 (codes "h") S1 ∷ [])
      ≡ codes "t.h:7:1: warning: symbol 'h' was not declared. Should it be static?\n"
  -- two equal lines, each where it was met
  pub equal_lines :
      unit_lines left_twice (Undef ∷ []) []
      ≡ codes "t.h:1:5: warning: undefined preprocessor identifier 'FOO'\n"
      ++ codes "t.h:1:12: warning: undefined preprocessor identifier 'BAR'\n"
      ++ codes "t.h:1:5: warning: undefined preprocessor identifier 'FOO'\n"
      ++ codes "t.h:1:12: warning: undefined preprocessor identifier 'BAR'\n"
  pub off_between :
      unit_lines a_file (Decl ∷ ReturnVoid ∷ []) of_three_classes
      ≡ codes "t.c:1:5: warning: symbol 'x' was not declared. Should it be static?\n"
      ++ codes "t.c:1:5: warning: returning void-valued expression\n"
  pub on_between :
      unit_lines a_file (Decl ∷ Shadow ∷ ReturnVoid ∷ []) of_three_classes
      ≡ codes "t.c:1:5: warning: symbol 'x' was not declared. Should it be static?\n"
      ++ codes "t.c:1:5: warning: symbol 'x' shadows an earlier one\n"
      ++ codes "t.c:1:5: warning: returning void-valued expression\n"
  -- the classes that `-Wno-undef -Wundef` leaves, and those that `-Wundef -Wno-undef` leaves
  pub switched_on :
      unit_lines a_file (AddressSpace ∷ Bitwise ∷ Context ∷ NonPointerNull ∷ Undef ∷ []) two_declared
      ≡ codes "t.c:2:5: warning: undefined preprocessor identifier 'FOO'\n"
  pub switched_off : unit_lines a_file (AddressSpace ∷ Bitwise ∷ Context ∷ NonPointerNull ∷ []) two_declared ≡ []
  -- those that `-Wno-bitwise -Wbitwise` leaves, and those that `-Wbitwise -Wno-bitwise` leaves
  pub left_on :
      unit_lines a_file (AddressSpace ∷ Bitwise ∷ Context ∷ NonPointerNull ∷ []) two_operands
      ≡ codes "t.c:1:5: warning: operands of different restricted types\n"
  pub left_off : unit_lines a_file (AddressSpace ∷ Context ∷ NonPointerNull ∷ []) two_operands ≡ []
