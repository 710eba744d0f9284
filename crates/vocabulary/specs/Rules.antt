-- The rules: each with its number and its class, and each class with whether it is on by default.
use Rattle.std.specs.Prelude.{◌≡◌, ℕ, Bool, true, false, List, [], ◌∷◌, map}
use Rattle.std.specs.List.{filter}
use Rattle.vocabulary.specs.declared.rule.RuleCode.{RuleCode}
use Rattle.vocabulary.specs.declared.rule.RuleCode.TheVariants.{A1, A2, A3, A4, A5, A6, A7, B1, B2, B3, B4, B5, B6, B7, C1, C2, C3, N1, S1, S2, S3, S4, S5, S6, S7, S8}
use Rattle.vocabulary.specs.declared.class.Class.{Class}
use Rattle.vocabulary.specs.declared.class.Class.TheVariants.{AddressSpace, Bitwise, Context, NonPointerNull, CastToAs, Decl, Shadow, Undef, ReturnVoid, DoWhile, StrictPrototypes, OneBitSignedBitfield, CastTruncate}

-- The number of a rule, by which failures at one token are ordered, and the class that switches it.
pub record RuleRow : Type 0 where
  pub number : ℕ
  pub class_ : Class

-- a row with this number and this class
abbrev pub numbered : ℕ → Class → RuleRow
numbered number class_ = record { number = number; class_ = class_ }

-- the row of a rule
abbrev pub rule_row : RuleCode → RuleRow
rule_row A1 = numbered 1 AddressSpace
rule_row A2 = numbered 2 AddressSpace
rule_row A3 = numbered 3 AddressSpace
rule_row A4 = numbered 4 AddressSpace
rule_row A5 = numbered 5 AddressSpace
rule_row A6 = numbered 6 CastToAs
rule_row A7 = numbered 7 AddressSpace
rule_row B1 = numbered 8 Bitwise
rule_row B2 = numbered 9 Bitwise
rule_row B3 = numbered 10 Bitwise
rule_row B4 = numbered 11 Bitwise
rule_row B5 = numbered 12 Bitwise
rule_row B6 = numbered 13 Bitwise
rule_row B7 = numbered 14 Bitwise
rule_row C1 = numbered 15 Context
rule_row C2 = numbered 16 Context
rule_row C3 = numbered 17 Context
rule_row N1 = numbered 18 NonPointerNull
rule_row S1 = numbered 19 Decl
rule_row S2 = numbered 20 Shadow
rule_row S3 = numbered 21 Undef
rule_row S4 = numbered 22 ReturnVoid
rule_row S5 = numbered 23 DoWhile
rule_row S6 = numbered 24 StrictPrototypes
rule_row S7 = numbered 25 OneBitSignedBitfield
rule_row S8 = numbered 26 CastTruncate

-- the number of a rule
abbrev pub rule_number : RuleCode → ℕ
rule_number code = (rule_row code).number

-- the class that switches a rule
abbrev pub rule_class : RuleCode → Class
rule_class code = (rule_row code).class_

-- the class is on where no word says otherwise
abbrev pub is_on_by_default : Class → Bool
is_on_by_default AddressSpace = true
is_on_by_default Bitwise = true
is_on_by_default Context = true
is_on_by_default NonPointerNull = true
is_on_by_default CastToAs = false
is_on_by_default Decl = false
is_on_by_default Shadow = false
is_on_by_default Undef = false
is_on_by_default ReturnVoid = false
is_on_by_default DoWhile = false
is_on_by_default StrictPrototypes = false
is_on_by_default OneBitSignedBitfield = false
is_on_by_default CastTruncate = false

-- all rules, in the order of their numbers
abbrev pub all_rules : List RuleCode
all_rules = A1 ∷ A2 ∷ A3 ∷ A4 ∷ A5 ∷ A6 ∷ A7 ∷ B1 ∷ B2 ∷ B3 ∷ B4 ∷ B5 ∷ B6 ∷ B7 ∷ C1 ∷ C2 ∷ C3 ∷ N1 ∷ S1 ∷ S2 ∷ S3 ∷ S4 ∷ S5 ∷ S6 ∷ S7 ∷ S8 ∷ []

-- all classes
abbrev pub all_classes : List Class
all_classes = AddressSpace ∷ Bitwise ∷ Context ∷ NonPointerNull ∷ CastToAs ∷ Decl ∷ Shadow ∷ Undef ∷ ReturnVoid ∷ DoWhile ∷ StrictPrototypes ∷ OneBitSignedBitfield ∷ CastTruncate ∷ []

-- the classes that are on where no word says otherwise
abbrev pub default_classes : List Class
default_classes = filter is_on_by_default all_classes

-- The rules are numbered from 1 in their order, so no two have one number; four classes are on.
pub record RulesAreNumbered : Type 0 where
  pub in_order :
      map rule_number all_rules
      ≡ 1 ∷ 2 ∷ 3 ∷ 4 ∷ 5 ∷ 6 ∷ 7 ∷ 8 ∷ 9 ∷ 10 ∷ 11 ∷ 12 ∷ 13 ∷ 14 ∷ 15 ∷ 16 ∷ 17 ∷ 18 ∷ 19 ∷ 20 ∷ 21 ∷ 22 ∷ 23 ∷ 24 ∷ 25 ∷ 26 ∷ []
  pub on : default_classes ≡ AddressSpace ∷ Bitwise ∷ Context ∷ NonPointerNull ∷ []
