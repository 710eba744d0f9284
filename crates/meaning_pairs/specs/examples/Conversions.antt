-- Conversions over all pairs of some types, and accesses to places of them: for each type stands here how it is spelled
-- without const, and without attributes too.
use Rattle.std.specs.Prelude.{◌≡◌, ℕ, Bool, true, false, ◌||◌, not, nat_eq, List, [], ◌∷◌, ◌++◌, map, Option, Some, None, codes, length, if◌then◌else◌}
use Rattle.std.specs.Str.{bytes_eq}
use Rattle.vocabulary.specs.declared.int_kind.IntKind.{IntKind}
use Rattle.vocabulary.specs.declared.int_kind.IntKind.TheVariants.{Bool as BoolKind, Char, UChar, UShort, Int, UInt, Long}
use Rattle.vocabulary.specs.declared.rule.RuleCode.{RuleCode}
use Rattle.vocabulary.specs.declared.rule.RuleCode.TheVariants.{A1, A2, A4, B3, N1}
use Rattle.meaning_types.specs.Types.{NumberedSpace, Flags, TypeTree, Typed, VoidTree, PointerTree, Qualifiers, no_qualifiers, no_flags, pointer_to}
use Rattle.meaning_types.specs.Spaces.{mix_spaces, have_other_targets}
use Rattle.meaning_types.specs.examples.Types.{only_const, only_noderef, in_space, noderef_in, plain, int_with}
use Rattle.meaning_types.specs.examples.Derived.{void, array_of, function_type, restricted_at, structure_at, union_at}
use Rattle.meaning_operands.specs.Conversions.{ConversionAnswer, Fine, Fails, Constraint, conversion_answer}
use Rattle.meaning_operands.specs.Accesses.{access_answer}

-- the attributes of a level
pub data Attributes : Type 0 where
  Absent : Attributes
  User : Attributes
  Space1 : Attributes
  Space2 : Attributes
  Noderef : Attributes

abbrev pub number_of : Attributes → ℕ
number_of Absent = 0
number_of User = 1
number_of Space1 = 2
number_of Space2 = 3
number_of Noderef = 4

abbrev pub flags_in : Attributes → Flags
flags_in Absent = no_flags
flags_in User = noderef_in (NumberedSpace 1)
flags_in Space1 = in_space (NumberedSpace 1)
flags_in Space2 = in_space (NumberedSpace 2)
flags_in Noderef = only_noderef

-- a type, its attributes, and how it is spelled without const, and without attributes too
pub record Spelled : Type 0 where
  pub of : TypeTree
  pub attributes : Attributes
  pub bare : List ℕ
  pub plain : List ℕ

-- what a type is
pub data Sort : Type 0 where
  -- of this kind
  Number : IntKind → Sort
  -- of this identity
  Restricted : ℕ → Sort
  PointerTo : Spelled → Sort
  Aggregate : ℕ → Sort
  -- void, an array, or a function
  Other : Sort

pub record Row : Type 0 where
  pub self : Spelled
  pub sort : Sort

-- it has no attributes
abbrev pub unmarked : TypeTree → List ℕ → Spelled
unmarked of name = record { of = of; attributes = Absent; bare = name; plain = name }

-- an int with these attributes, which are spelled so
abbrev pub marked_int : Qualifiers → Attributes → List ℕ → Spelled
marked_int qualifiers attributes words = record { of = int_with qualifiers (flags_in attributes); attributes = attributes; bare = codes "int" ++ words; plain = codes "int" }

-- The types of the pairs

abbrev pub int : Spelled
int = marked_int no_qualifiers Absent []

abbrev pub const_int : Spelled
const_int = marked_int only_const Absent []

abbrev pub int_user : Spelled
int_user = marked_int no_qualifiers User (codes " USER")

abbrev pub const_int_user : Spelled
const_int_user = marked_int only_const User (codes " USER")

abbrev pub int_space1 : Spelled
int_space1 = marked_int no_qualifiers Space1 (codes " SPACE1")

abbrev pub int_space2 : Spelled
int_space2 = marked_int no_qualifiers Space2 (codes " SPACE2")

abbrev pub int_noderef : Spelled
int_noderef = marked_int no_qualifiers Noderef (codes " NODEREF")

abbrev pub char : Spelled
char = unmarked (plain Char) (codes "char")

abbrev pub le32 : Spelled
le32 = unmarked (restricted_at 1 UInt) (codes "le32")

abbrev pub nothing : Spelled
nothing = unmarked void (codes "void")

abbrev pub const_nothing : Spelled
const_nothing = unmarked (Typed VoidTree only_const no_flags) (codes "void")

abbrev pub nothing_user : Spelled
nothing_user = record { of = Typed VoidTree no_qualifiers (flags_in User); attributes = User; bare = codes "void USER"; plain = codes "void" }

-- a pointer to this
abbrev pub to : Spelled → Spelled
to target = record { of = pointer_to target.of; attributes = Absent; bare = target.bare ++ codes " *"; plain = target.plain ++ codes " *" }

abbrev pub pointer_user : Spelled
pointer_user = record { of = Typed (PointerTree int.of) only_const (flags_in User); attributes = User; bare = codes "int * USER"; plain = codes "int *" }

-- three of these, or an unknown number
abbrev pub three : Spelled → Spelled
three element = record { of = array_of element.of (Some 3); attributes = Absent; bare = element.bare ++ codes " [3]"; plain = element.plain ++ codes " [3]" }

abbrev pub some : Spelled → Spelled
some element = record { of = array_of element.of None; attributes = Absent; bare = element.bare ++ codes " []"; plain = element.plain ++ codes " []" }

abbrev pub function : Spelled
function = unmarked (function_type void []) (codes "void (void)")

abbrev pub function_of : Spelled → Spelled
function_of parameter = record { of = function_type void (parameter.of ∷ []); attributes = Absent; bare = codes "void (" ++ parameter.bare ++ codes ")"; plain = codes "void (" ++ parameter.plain ++ codes ")" }

abbrev pub number : IntKind → Spelled → Row
number kind type_ = record { self = type_; sort = Number kind }

abbrev pub restricted : ℕ → IntKind → List ℕ → Row
restricted identity kind name = record { self = unmarked (restricted_at identity kind) name; sort = Restricted identity }

abbrev pub other : Spelled → Row
other type_ = record { self = type_; sort = Other }

abbrev pub pointer : Spelled → Row
pointer target = record { self = to target; sort = PointerTo target }

-- the plain integers
abbrev pub numbers : List Row
numbers =
    map (number Int) (int ∷ const_int ∷ int_user ∷ const_int_user ∷ int_space1 ∷ int_space2 ∷ int_noderef ∷ [])
    ++ number Char char ∷ number UChar (unmarked (plain UChar) (codes "unsigned char")) ∷ number BoolKind (unmarked (plain BoolKind) (codes "_Bool"))
    ∷ number Long (unmarked (plain Long) (codes "long")) ∷ []

abbrev pub restricted_ones : List Row
restricted_ones =
    restricted 1 UInt (codes "le32") ∷ restricted 2 UInt (codes "be32") ∷ restricted 3 UShort (codes "le16")
    ∷ restricted 4 BoolKind (codes "_Bool BITWISE") ∷ []

abbrev pub others : List Row
others =
    map other
    (nothing ∷ const_nothing ∷ nothing_user ∷ three int ∷ three int_user ∷ three char ∷ some int
    ∷ function ∷ function_of (to int) ∷ function_of (to int_user) ∷ [])

abbrev pub all_pointers : List Row
all_pointers =
    map pointer
    (int ∷ const_int ∷ int_user ∷ const_int_user ∷ int_space1 ∷ int_space2 ∷ int_noderef ∷ char ∷ nothing ∷ const_nothing ∷ nothing_user ∷ le32
    ∷ to int ∷ to int_user ∷ three int ∷ three int_user ∷ three char ∷ some int ∷ function ∷ function_of (to int) ∷ function_of (to int_user) ∷ [])
    ++ record { self = pointer_user; sort = PointerTo int } ∷ []

abbrev pub aggregate : ℕ → TypeTree → List ℕ → Row
aggregate token type_ name = record { self = unmarked type_ name; sort = Aggregate token }

abbrev pub aggregates : List Row
aggregates =
    aggregate 7 (structure_at 7) (codes "struct pair") ∷ aggregate 8 (structure_at 8) (codes "struct other")
    ∷ aggregate 9 (union_at 9) (codes "union both") ∷ []

abbrev pub rows : List Row
rows = numbers ++ restricted_ones ++ others ++ all_pointers ++ aggregates

-- What is expected

-- what is known of a value besides its type: that it is the constant 0, or a null pointer constant of type `void *`
pub record Known : Type 0 where
  pub is_zero : Bool
  pub is_null : Bool

abbrev pub unknown : Known
unknown = record { is_zero = false; is_null = false }

abbrev pub zero : Known
zero = record { is_zero = true; is_null = false }

abbrev pub null : Known
null = record { is_zero = false; is_null = true }

abbrev pub access_of : Attributes → Option RuleCode
access_of Absent = None
access_of _ = Some A4

abbrev pub is_nothing : Spelled → Bool
is_nothing type_ = bytes_eq type_.plain (codes "void")

-- a pointer to one target becomes a pointer to another
abbrev pub pointers : (target : Spelled) → Known → (another : Spelled) → ConversionAnswer
pointers target known another =
    if known.is_null then Fine
    else (if not (nat_eq (number_of target.attributes) (number_of another.attributes)) then Fails A1
    else (if bytes_eq target.bare another.bare then Fine
    else (if bytes_eq target.plain another.plain then Fails A1
    else (if is_nothing target || is_nothing another then Fine
    else Fails A2))))

abbrev pub expected : Sort → Known → Sort → ConversionAnswer
expected (PointerTo target) known (PointerTo another) = pointers target known another
-- a pointer becomes what isn't one
expected (PointerTo _) known (Number BoolKind) = Fine
expected (PointerTo _) known (Number _) = Fails A2
expected (PointerTo _) known (Restricted _) = Fails A2
-- what isn't a pointer becomes one
expected (Number _) known (PointerTo _) = if known.is_zero then Fails N1 else Fails A2
expected (Restricted _) known (PointerTo _) = Fails A2
-- neither is a pointer
expected (Aggregate token) known (Aggregate another) = if nat_eq token another then Fine else Constraint
expected (Number _) known (Number _) = Fine
expected (Number _) known (Restricted _) = if known.is_zero then Fine else Fails B3
expected (Restricted identity) known (Restricted another) = if nat_eq identity another then Fine else Fails B3
expected (Restricted _) known (Number _) = Fails B3
expected from known onto = Constraint

-- The facts

abbrev pub found : Known → Row → Row → ConversionAnswer
found known from onto = conversion_answer (record { of = from.self.of; fouled = false; zero = known.is_zero }) known.is_null onto.self.of

abbrev pub wanted : Known → Row → Row → ConversionAnswer
wanted known from onto = expected from.sort known onto.sort

-- two pointers whose targets mix spaces, or are other ones, by what the conversion of one to the other says
abbrev pub is_failure : RuleCode → ConversionAnswer → Bool
is_failure A1 (Fails A1) = true
is_failure A2 (Fails A2) = true
is_failure rule answer = false

abbrev pub between_pointers : RuleCode → Sort → Sort → Bool
between_pointers rule (PointerTo target) (PointerTo another) = is_failure rule (pointers target unknown another)
between_pointers rule from onto = false

-- the answers of each of these to each row
abbrev pub answers_of : (Row → Row → ConversionAnswer) → List Row → List (List ConversionAnswer)
answers_of of from = map (λ one. map (of one) rows) from

abbrev pub tests_of : (Row → Row → Bool) → List (List Bool)
tests_of of = map (λ one. map (of one) rows) rows

pub record PairsConvert : Type 0 where
  pub count : length rows ≡ 50
  pub values : answers_of (found unknown) rows ≡ answers_of (wanted unknown) rows
  -- the constant 0 of each plain type
  pub zeros : answers_of (found zero) numbers ≡ answers_of (wanted zero) numbers
  -- the null pointer constant of type `void *`
  pub nulls : answers_of (found null) (pointer nothing ∷ []) ≡ answers_of (wanted null) (pointer nothing ∷ [])
  pub mixed : tests_of (λ from onto. mix_spaces from.self.of onto.self.of) ≡ tests_of (λ from onto. between_pointers A1 from.sort onto.sort)
  pub others : tests_of (λ from onto. have_other_targets from.self.of onto.self.of) ≡ tests_of (λ from onto. between_pointers A2 from.sort onto.sort)
  -- a place with attributes isn't read or written
  pub accesses : map (λ row. access_answer row.self.of) rows ≡ map (λ row. access_of row.self.attributes) rows
