-- What an operator says of two operands. A unary operator has its operand on both sides.
use Rattle.std.specs.Prelude.{ℕ, Bool, false, ◌&&◌, ◌||◌, not, Option, Some, None, if◌then◌else◌}
use Rattle.vocabulary.specs.declared.operator.Operator.{Operator}
use Rattle.vocabulary.specs.declared.rule.RuleCode.{RuleCode}
use Rattle.vocabulary.specs.declared.rule.RuleCode.TheVariants.{B1, B2, B7}
use Rattle.meaning_operands.specs.Operands.{Operand, identity_of, is_restricted, is_pointer, are_integers, are_one_identity, complement_fouls}
use Rattle.meaning_operands.specs.Operators.{Demand, OneType, PlainOnly, PlainStored, Anything, ResultIdentity, NoIdentity, OneIdentity, OwnIdentity, StoredIdentity, LastIdentity, FoulMark, NeverFouled, BothFouled, EitherFouled, LastFouled, ComplementFouled, OperatorLaw, law_of}

-- The rule that fails, other than that of a fouled value that is tested; whether that one fails; and of the result its
-- restricted identity and whether it is fouled. Of what is stored, that is what the place holds.
pub record OperatorAnswer : Type 0 where
  pub rule : Option RuleCode
  pub tested : Bool
  pub identity : Option ℕ
  pub fouled : Bool

-- one is the constant 0, or both are one restricted type, or both plain
abbrev pub meet : Operand → Operand → Bool
meet left right = left.zero || right.zero || are_one_identity (identity_of left.of) (identity_of right.of)

-- one of them is restricted
abbrev pub have_restricted : Operand → Operand → Bool
have_restricted left right = is_restricted left.of || is_restricted right.of

-- the rule that a demand breaks: two types are asked to be one of integers alone
abbrev pub broken_demand : Demand → Operand → Operand → Option RuleCode
broken_demand OneType left right = if are_integers left right && not (meet left right) then Some B2 else None
broken_demand PlainOnly left right = if have_restricted left right then Some B1 else None
broken_demand PlainStored left right = if have_restricted left right then Some B7 else None
broken_demand Anything left right = None

-- the first that there is
abbrev pub first_identity : Option ℕ → Option ℕ → Option ℕ
first_identity None other = other
first_identity (Some identity) other = Some identity

-- Beside a pointer the arms of `?:` give the left one's type.
abbrev pub given_identity : ResultIdentity → Operand → Operand → Option ℕ
given_identity NoIdentity left right = None
given_identity OneIdentity left right =
    if are_integers left right then first_identity (identity_of left.of) (identity_of right.of) else identity_of left.of
given_identity OwnIdentity left right = identity_of left.of
given_identity StoredIdentity left right = identity_of left.of
given_identity LastIdentity left right = identity_of right.of

abbrev pub is_given_fouled : FoulMark → Operand → Operand → Bool
is_given_fouled NeverFouled left right = false
is_given_fouled BothFouled left right = left.fouled && right.fouled
is_given_fouled EitherFouled left right = (left.fouled || right.fouled) && not (is_pointer left.of) && not (is_pointer right.of)
is_given_fouled LastFouled left right = right.fouled
is_given_fouled ComplementFouled left right = left.fouled || complement_fouls left.of

-- by the law
abbrev pub answer_by : OperatorLaw → Operand → Operand → OperatorAnswer
answer_by law left right =
    record {
      rule = broken_demand law.demand left right;
      tested = law.tests && (left.fouled || right.fouled);
      identity = given_identity law.gives left right;
      fouled = is_given_fouled law.foul left right;
    }

abbrev pub operator_answer : Operator → Operand → Operand → OperatorAnswer
operator_answer operator left right = answer_by (law_of operator) left right
