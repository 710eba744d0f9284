-- Worked examples: the types that operators give, what fails at them, and what they break.
use Rattle.std.specs.Prelude.{◌≡◌, pos, negsuc, Bool, true, false, [], ◌∷◌, codes, map, replicate, Option, Some, None}
use Rattle.vocabulary.specs.declared.error_kind.ErrorKind.TheVariants.{NotModifiable, WrongOperandTypes, VoidValueUsed, IncompleteType, IncompatibleTypes, BadCast, ConditionIsNotScalar, BadBitField}
use Rattle.vocabulary.specs.declared.operator.Operator.TheVariants as operators
use Rattle.vocabulary.specs.declared.rule.RuleCode.TheVariants.{A3, A5, A6, B1, B2, B3, B4, B5, B7, N1}
use Rattle.meaning_types.specs.Types.{Typed, IntegerTree, no_flags, pointer_to}
use Rattle.vocabulary.specs.declared.int_kind.IntKind.TheVariants as integers
use Rattle.meaning_typing.specs.Facts.{Fact, Unknown, Expression, NamedType, Addressed, NotAddress, ConstantAddress, place, value}
use Rattle.meaning_typing.specs.Declarators.{array_type, nothing_told}
use Rattle.meaning_typing.specs.Rows.{breaks_at, fails_with}
use Rattle.meaning_typing.specs.Expressions.{assignment_row}
use Rattle.meaning_typing.specs.Operators.{comma_row, integer, logical_row, not_row, statement_expression_row}
use Rattle.meaning_typing.specs.Casts.{cast_row, expect_row, is_forced, sizeof_row, truncation}
use Rattle.meaning_typing.specs.Changes.{compound_row}
use Rattle.meaning_typing.specs.Units.{UnitNodes}
use Rattle.meaning_typing.specs.examples.Drawn.{declaration, declarator, int, leaf, named, nodes_of, type_over}
use Rattle.meaning_typing.specs.examples.Values.{char, unsigned_int, long, unsigned_long, void, le16, le32, be32, to_int, to_user_int, to_int_in_space_1, to_void, to_const_void, nothing_from_nothing, unknown_length, structure, c, t, i, ui, l, h, r, rb, fouled_h, p, s, v, u, none, x, void_value, void_place, to_unknown, number, zero, null, unary, binary, conditional, without_middle, cast, forced_cast, compound, behind, before, gives, plain, fouled, names, shows, null_pointer}
use Rattle.vocabulary.specs.declared.node_kind.NodeKind.TheVariants as kinds

-- Types

pub record TypeExamples : Type 0 where
  -- `c + c`, `c << l`, `l << c`, `ui + i`, `ui + l`, `i < l`, `p - p`, `r == r`
  pub usual :
      map gives
      (binary operators.Addition c c ∷ binary operators.LeftShift c l ∷ binary operators.LeftShift l c ∷ binary operators.Addition ui i
      ∷ binary operators.Addition ui l ∷ binary operators.Less i l ∷ binary operators.Subtraction p p ∷ binary operators.Equal r r ∷ [])
      ≡ plain int ∷ plain int ∷ plain long ∷ plain unsigned_int ∷ plain long ∷ plain int ∷ plain long ∷ plain int ∷ []
  -- `~c`, `-t`, `~r`, `~h`, `~~h`, `-h`
  pub alone :
      map gives
      (unary operators.Complement c ∷ unary operators.Negation t ∷ unary operators.Complement r ∷ unary operators.Complement h
      ∷ unary operators.Complement fouled_h ∷ unary operators.Negation h ∷ [])
      ≡ plain int ∷ plain int ∷ plain le32 ∷ fouled le16 ∷ fouled le16 ∷ plain int ∷ []
  -- `h + 1`, `h << 1`, `1 << r`, `r + 1`, `r + l`
  pub degraded :
      map gives
      (binary operators.Addition h (number (pos 1)) ∷ binary operators.LeftShift h (number (pos 1)) ∷ binary operators.LeftShift (number (pos 1)) r
      ∷ binary operators.Addition r (number (pos 1)) ∷ binary operators.Addition r l ∷ [])
      ≡ plain int ∷ plain int ∷ plain int ∷ plain unsigned_int ∷ plain long ∷ []
  -- `r & i`, `i & r`, `r & rb`, `~h & h`, `~h & ~h`, `~h | h`
  pub kept_types :
      map gives
      (binary operators.BitwiseAnd r i ∷ binary operators.BitwiseAnd i r ∷ binary operators.BitwiseAnd r rb ∷ binary operators.BitwiseAnd fouled_h h
      ∷ binary operators.BitwiseAnd fouled_h fouled_h ∷ binary operators.BitwiseOr fouled_h h ∷ [])
      ≡ plain le32 ∷ plain le32 ∷ plain le32 ∷ plain le16 ∷ fouled le16 ∷ fouled le16 ∷ []
  -- `p + 1`, `1 + p`, `none + 1`
  pub moved :
      map gives (binary operators.Addition p (number (pos 1)) ∷ binary operators.Addition (number (pos 1)) p ∷ binary operators.Addition none (number (pos 1)) ∷ [])
      ≡ plain to_int ∷ plain to_int ∷ plain (pointer_to nothing_from_nothing) ∷ []
  -- `i ? p : (void *)0`, `i ? 0 : p`, `i ? p : v`, `i ? v : p`, `i ? p : (const void *)s`, `i ? v : (const void *)s`
  pub pointer_arms :
      map gives
      (conditional i p null ∷ conditional i zero p ∷ conditional i p v ∷ conditional i v p ∷ conditional i p (value to_const_void)
      ∷ conditional i v (value to_const_void) ∷ [])
      ≡ plain to_int ∷ plain to_int ∷ plain to_void ∷ plain to_void ∷ plain to_const_void ∷ plain to_void ∷ []
  -- `i ? c : t`, `i ?: l`, `i ? 3 : p`, `i ? none() : none()`, `i ? ~h : h`, `i ? x : x`
  pub other_arms :
      map gives
      (conditional i c t ∷ without_middle i l ∷ conditional i (number (pos 3)) p ∷ conditional i void_value void_value ∷ conditional i fouled_h h
      ∷ conditional i x x ∷ [])
      ≡ plain int ∷ plain long ∷ plain int ∷ plain void ∷ fouled le16 ∷ plain structure ∷ []
  -- `(i, c)`, `(i, ~h)`, `({ c; })`, `({ ~h; })`, `({ })`
  pub last :
      map gives
      (comma_row (Expression c) ∷ comma_row (Expression fouled_h) ∷ statement_expression_row (Some (Expression c))
      ∷ statement_expression_row (Some (Expression fouled_h)) ∷ statement_expression_row None ∷ [])
      ≡ plain char ∷ fouled le16 ∷ plain char ∷ fouled le16 ∷ plain void ∷ []
  -- `c += i`, `c++`, `++c`, `(le16)~h`, `(const int)i`, `(void)i`
  pub stored :
      map gives
      (compound operators.AdditionAssignment c i ∷ behind operators.PostIncrement c ∷ before operators.PreIncrement c ∷ cast le16 fouled_h
      ∷ cast (Typed (IntegerTree integers.Int) (record { is_const = true; is_volatile = false }) no_flags) i ∷ cast void i ∷ [])
      ≡ plain char ∷ plain char ∷ plain char ∷ plain le16 ∷ plain int ∷ plain void ∷ []
  -- `!p`, `p && p`, `sizeof i`, `__builtin_expect(i, 1)`
  pub others :
      map gives
      (not_row 2 3 (Expression p) ∷ logical_row operators.LogicalAnd 2 1 3 (Expression p) (Expression p) ∷ sizeof_row nothing_told 2 (Expression i)
      ∷ expect_row 1 3 (Expression i) (Expression (number (pos 1))) ∷ [])
      ≡ plain int ∷ plain int ∷ plain unsigned_long ∷ plain long ∷ []
  -- `(~h, i)`, and `h = ~h2`
  pub unfouled : map gives (comma_row (Expression i) ∷ assignment_row 2 3 (Expression h) (Expression fouled_h) ∷ []) ≡ plain int ∷ plain le16 ∷ []
  -- an unsigned bit-field of 3 bits behind `++` gives an int, and before it an unsigned int
  pub bit_fields :
      map gives
      (behind operators.PostIncrement (record ui { width = Some 3 }) ∷ before operators.PreIncrement (record ui { width = Some 3 }) ∷ [])
      ≡ plain int ∷ plain unsigned_int ∷ []

abbrev pub address_given : Fact → Option Addressed
address_given (Expression expression) = Some expression.address
address_given fact = None

abbrev pub is_null_given : Fact → Option Bool
is_null_given (Expression expression) = Some expression.is_null
is_null_given fact = None

pub record AddressExamples : Type 0 where
  -- `none + 1`, `p + 1`, `(int *)4`, `1 ? none : p`, `0 ? none : p`
  pub constant :
      map (λ row. address_given row.fact)
      (binary operators.Addition none (number (pos 1)) ∷ binary operators.Addition p (number (pos 1)) ∷ cast to_int (number (pos 4))
      ∷ conditional (number (pos 1)) none p ∷ conditional zero none p ∷ [])
      ≡ map Some (ConstantAddress ∷ NotAddress ∷ ConstantAddress ∷ ConstantAddress ∷ NotAddress ∷ [])
  -- `(void *)0`, `(void *)(FORCE le32)0`, `(void *)i`, `(const void *)0`, `(int *)0`
  pub null_pointers :
      map (λ row. is_null_given row.fact)
      (cast to_void zero ∷ cast to_void (record (value le32) { constant = Some (pos 0) }) ∷ cast to_void i ∷ cast to_const_void zero ∷ cast to_int zero ∷ [])
      ≡ map Some (true ∷ true ∷ false ∷ false ∷ false ∷ [])

-- Failures

pub record MeetingFailures : Type 0 where
  -- `p == s`, `p < u`, `p != 1`, `p == none`
  pub compared :
      map (λ row. row.failures)
      (binary operators.Equal p s ∷ binary operators.Less p u ∷ binary operators.NotEqual p (number (pos 1)) ∷ binary operators.Equal p none ∷ [])
      ≡ (shows A3 to_int (pointer_to char) ∷ []) ∷ (shows A3 to_int to_user_int ∷ []) ∷ (shows A3 to_int int ∷ [])
      ∷ (shows A3 to_int (pointer_to nothing_from_nothing) ∷ []) ∷ []
  -- `p == p`, `p == v`, `u == (void *)0`, `none == (void *)0`
  pub alike : map (λ row. row.failures) (binary operators.Equal p p ∷ binary operators.Equal p v ∷ binary operators.Equal u null ∷ binary operators.Equal none null ∷ []) ≡ replicate 4 []
  -- `i ? p : s`, `p ?: s`, `p - s`, `i - p`
  pub met :
      map (λ row. row.failures) (conditional i p s ∷ without_middle p s ∷ binary operators.Subtraction p s ∷ binary operators.Subtraction i p ∷ [])
      ≡ (shows A3 to_int (pointer_to char) ∷ []) ∷ (shows A3 to_int (pointer_to char) ∷ []) ∷ (shows A3 to_int (pointer_to char) ∷ [])
      ∷ (shows A3 int to_int ∷ []) ∷ []
  -- `r < p`
  pub two_rules : (binary operators.Less r p).failures ≡ shows A3 le32 to_int ∷ names B1 le32 ∷ []
  -- `p == 0`, `0 != p`, `p < 0`, `i ? p : 0`, `p + 0`
  pub zeros :
      map (λ row. row.failures)
      (binary operators.Equal p zero ∷ binary operators.NotEqual zero p ∷ binary operators.Less p zero ∷ conditional i p zero
      ∷ binary operators.Addition p zero ∷ [])
      ≡ (null_pointer N1 ∷ []) ∷ (null_pointer N1 ∷ []) ∷ (null_pointer N1 ∷ []) ∷ (null_pointer N1 ∷ []) ∷ [] ∷ []

pub record RestrictedFailures : Type 0 where
  -- `r + 1`, `1 - r`, `r << 1`, `-r`, `p + r`
  pub degrades :
      map (λ row. row.failures)
      (binary operators.Addition r (number (pos 1)) ∷ binary operators.Subtraction (number (pos 1)) r ∷ binary operators.LeftShift r (number (pos 1))
      ∷ unary operators.Negation r ∷ binary operators.Addition p r ∷ [])
      ≡ replicate 5 (names B1 le32 ∷ [])
  -- the first one is named: `rb + r`, `h + r`
  pub first_one : map (λ row. row.failures) (binary operators.Addition rb r ∷ binary operators.Addition h r ∷ []) ≡ (names B1 be32 ∷ []) ∷ (names B1 le16 ∷ []) ∷ []
  -- `r & rb`, `r | 1`, `i ^ r`, `r == rb`, `i ? r : 1`
  pub unlike_types :
      map (λ row. row.failures)
      (binary operators.BitwiseAnd r rb ∷ binary operators.BitwiseOr r (number (pos 1)) ∷ binary operators.BitwiseExclusiveOr i r
      ∷ binary operators.Equal r rb ∷ conditional i r (number (pos 1)) ∷ [])
      ≡ (shows B2 le32 be32 ∷ []) ∷ (shows B2 le32 int ∷ []) ∷ (shows B2 int le32 ∷ []) ∷ (shows B2 le32 be32 ∷ []) ∷ (shows B2 le32 int ∷ []) ∷ []
  -- `r & r`, `r == 0`, `0 | r`, `i ? 0 : r`
  pub alike :
      map (λ row. row.failures) (binary operators.BitwiseAnd r r ∷ binary operators.Equal r zero ∷ binary operators.BitwiseOr zero r ∷ conditional i zero r ∷ [])
      ≡ replicate 4 []
  -- `~h == h`, `!~h`, `~h && i`, `~h ? 1 : 2`
  pub fouled_ones :
      map (λ row. row.failures)
      (binary operators.Equal fouled_h h ∷ not_row 2 3 (Expression fouled_h) ∷ logical_row operators.LogicalAnd 2 1 3 (Expression fouled_h) (Expression i)
      ∷ conditional fouled_h (number (pos 1)) (number (pos 2)) ∷ [])
      ≡ replicate 4 (names B5 le16 ∷ [])
  -- `~h == i`
  pub compared_with_plain : (binary operators.Equal fouled_h i).failures ≡ shows B2 le16 int ∷ names B5 le16 ∷ []
  -- `r++`, `--r`, `r += 1`, `i *= r`, `r &= rb`, `r |= 0`, `i += 1`
  pub changes :
      map (λ row. row.failures)
      (behind operators.PostIncrement r ∷ before operators.PreDecrement r ∷ compound operators.AdditionAssignment r (number (pos 1))
      ∷ compound operators.MultiplicationAssignment i r ∷ compound operators.BitwiseAndAssignment r rb ∷ compound operators.BitwiseOrAssignment r zero
      ∷ compound operators.AdditionAssignment i (number (pos 1)) ∷ [])
      ≡ (names B7 le32 ∷ []) ∷ (names B7 le32 ∷ []) ∷ (names B7 le32 ∷ []) ∷ (names B7 le32 ∷ []) ∷ (shows B2 le32 be32 ∷ []) ∷ [] ∷ [] ∷ []
  -- `__builtin_expect(r, 1)`, `__builtin_expect(i, r)`
  pub expected :
      map (λ row. row.failures) (expect_row 1 3 (Expression r) (Expression (number (pos 1))) ∷ expect_row 1 3 (Expression i) (Expression r) ∷ [])
      ≡ (fails_with B3 1 1 (Some long) (Some le32) [] ∷ []) ∷ (fails_with B3 3 2 (Some long) (Some le32) [] ∷ []) ∷ []

pub record CastFailures : Type 0 where
  -- `(int *)u`, `(long)u`, `(unsigned long)u`, `(void)u`, `(FORCE int *)u`
  pub spaces :
      map (λ row. row.failures) (cast to_int u ∷ cast long u ∷ cast unsigned_long u ∷ cast void u ∷ forced_cast to_int u ∷ [])
      ≡ (names A5 to_user_int ∷ []) ∷ (names A5 to_user_int ∷ []) ∷ [] ∷ [] ∷ [] ∷ []
  -- `(int USER *)p`, `(int USER *)l`, `(int SPACE1 *)(void *)0`, `(int SPACE1 *)u`
  pub added :
      map (λ row. row.failures) (cast to_user_int p ∷ cast to_user_int l ∷ cast to_int_in_space_1 null ∷ cast to_int_in_space_1 u ∷ [])
      ≡ (names A6 to_user_int ∷ []) ∷ [] ∷ (names A6 to_int_in_space_1 ∷ []) ∷ (names A5 to_user_int ∷ []) ∷ []
  -- `(le32)u`, of which two rules speak
  pub both : (cast le32 u).failures ≡ names A5 to_user_int ∷ shows B4 to_user_int le32 ∷ []
  -- `(int)r`, `(le32)i`, `(be32)r`, `(le32)r`, `(le32)0`, `(void)r`, `(FORCE int)r`, `(le32 *)p`
  pub restricted_ones :
      map (λ row. row.failures)
      (cast int r ∷ cast le32 i ∷ cast be32 r ∷ cast le32 r ∷ cast le32 zero ∷ cast void r ∷ forced_cast int r ∷ cast (pointer_to le32) p ∷ [])
      ≡ (shows B4 le32 int ∷ []) ∷ (shows B4 int le32 ∷ []) ∷ (shows B4 le32 be32 ∷ []) ∷ [] ∷ [] ∷ [] ∷ [] ∷ [] ∷ []
  -- `(char)300`, `(char)100`, `(unsigned char)-1`, `(unsigned int)-1`, `(char)-128`, `(char)128`, `(_Bool)2`, `(_Bool)1`
  pub truncated :
      map (λ row. row.failures)
      (cast char (number (pos 300)) ∷ cast char (number (pos 100)) ∷ cast (integer integers.UChar) (number (negsuc 0)) ∷ cast unsigned_int (number (negsuc 0))
      ∷ cast char (number (negsuc 127)) ∷ cast char (number (pos 128)) ∷ cast (integer integers.Bool) (number (pos 2))
      ∷ cast (integer integers.Bool) (number (pos 1)) ∷ [])
      ≡ (truncation 2 (pos 300) (pos 44) ∷ []) ∷ [] ∷ (truncation 2 (negsuc 0) (pos 255) ∷ []) ∷ [] ∷ [] ∷ (truncation 2 (pos 128) (negsuc 127) ∷ [])
      ∷ (truncation 2 (pos 2) (pos 1) ∷ []) ∷ [] ∷ []
  -- `(int *)0`, `(int USER *)0`, `(void *)(void *)0`: no cast is told of a null pointer
  pub zeros : map (λ row. row.failures) (cast to_int zero ∷ cast to_user_int zero ∷ cast to_void null ∷ []) ≡ [] ∷ [] ∷ [] ∷ []
  -- `(le16)70000`
  pub truncated_too : (cast le16 (number (pos 70000))).failures ≡ shows B4 int le16 ∷ truncation 2 (pos 70000) (pos 4464) ∷ []

-- `(int FORCE *)`, `(int *FORCE)` and `(int *)`, each alone: the type name is the last node but one
abbrev pub forcing : UnitNodes
forcing = nodes_of (type_over kinds.TypeName 0 (type_over kinds.Specifiers 0 (leaf kinds.IntSpecifier 0 ∷ type_over kinds.AttributeList 1 (leaf kinds.ForceAttribute 1 ∷ []) ∷ []) ∷ type_over kinds.Declarator 2 (leaf kinds.PointerDeclarator 2 ∷ []) ∷ []) ∷ [])

abbrev pub forcing_pointer : UnitNodes
forcing_pointer = nodes_of (type_over kinds.TypeName 0 (type_over kinds.Specifiers 0 (leaf kinds.IntSpecifier 0 ∷ []) ∷ type_over kinds.Declarator 1 (type_over kinds.PointerDeclarator 1 (type_over kinds.AttributeList 2 (leaf kinds.ForceAttribute 2 ∷ []) ∷ []) ∷ []) ∷ []) ∷ [])

abbrev pub not_forcing : UnitNodes
not_forcing = nodes_of (type_over kinds.TypeName 0 (type_over kinds.Specifiers 0 (leaf kinds.IntSpecifier 0 ∷ []) ∷ type_over kinds.Declarator 1 (leaf kinds.PointerDeclarator 1 ∷ []) ∷ []) ∷ [])

-- `typedef int FORCE T;`, and the type name `T`
abbrev pub forcing_typedef : UnitNodes
forcing_typedef =
    nodes_of
    (declaration 0 (leaf kinds.TypedefSpecifier 0 ∷ leaf kinds.IntSpecifier 1 ∷ type_over kinds.AttributeList 2 (leaf kinds.ForceAttribute 2 ∷ []) ∷ []) (declarator 3 (codes "T") [] ∷ [])
    ∷ type_over kinds.TypeName 5 (type_over kinds.Specifiers 5 (named kinds.TypedefName 5 (codes "T") 5 ∷ []) ∷ []) ∷ [])

pub record ForceExamples : Type 0 where
  pub among_specifiers : is_forced forcing 6 ≡ true
  pub behind_star : is_forced forcing_pointer 6 ≡ true
  pub nowhere : is_forced not_forcing 4 ≡ false
  pub of_a_typedef : is_forced forcing_typedef 9 ≡ false

-- Constraints

pub record OperandConstraints : Type 0 where
  -- `p + p`, `0 - p`, `v - s`, `p - (void *)0`, `p & 1`, `1 << p`, `r & p`, `none == v`
  pub not_taken :
      map (λ row. row.broken)
      (binary operators.Addition p p ∷ binary operators.Subtraction zero p ∷ binary operators.Subtraction v s ∷ binary operators.Subtraction p null
      ∷ binary operators.BitwiseAnd p (number (pos 1)) ∷ binary operators.LeftShift (number (pos 1)) p ∷ binary operators.BitwiseAnd r p
      ∷ binary operators.Equal none v ∷ [])
      ≡ replicate 8 (breaks_at WrongOperandTypes 2)
  -- `-p`, `p *= 2`, `i += p`, `p += p`
  pub changed_or_alone :
      map (λ row. row.broken)
      (unary operators.Negation p ∷ compound operators.MultiplicationAssignment p (number (pos 2)) ∷ compound operators.AdditionAssignment i p
      ∷ compound operators.AdditionAssignment p p ∷ [])
      ≡ replicate 4 (breaks_at WrongOperandTypes 2)
  -- `p - p`, `v - v`, `v + 1`, `v++`, `none + 1`, `p += 1`, `p < (void *)0`, `v < p`, `p == s`
  pub taken :
      map (λ row. row.broken)
      (binary operators.Subtraction p p ∷ binary operators.Subtraction v v ∷ binary operators.Addition v (number (pos 1)) ∷ behind operators.PostIncrement v
      ∷ binary operators.Addition none (number (pos 1)) ∷ compound operators.AdditionAssignment p (number (pos 1)) ∷ binary operators.Less p null
      ∷ binary operators.Less v p ∷ binary operators.Equal p s ∷ [])
      ≡ replicate 9 []
  -- of a pointer to an array without a length: `k + 1`, `k++`, `k - k`
  pub without_size :
      map (λ row. row.broken)
      (binary operators.Addition to_unknown (number (pos 1)) ∷ behind operators.PostIncrement to_unknown ∷ binary operators.Subtraction to_unknown to_unknown ∷ [])
      ≡ breaks_at IncompleteType 2 ∷ breaks_at IncompleteType 2 ∷ replicate 2 (record { constraint = IncompleteType; token = 2; name = [] }) ∷ []
  -- `i + none()`, `1 + *v`, `!none()`, `i ? none() : 1`, `*v += 1`
  pub void_ones :
      map (λ row. row.broken)
      (binary operators.Addition i void_value ∷ binary operators.Addition (number (pos 1)) void_place ∷ not_row 2 3 (Expression void_value)
      ∷ conditional i void_value (number (pos 1)) ∷ compound operators.AdditionAssignment void_place (number (pos 1)) ∷ [])
      ≡ breaks_at VoidValueUsed 3 ∷ breaks_at VoidValueUsed 3 ∷ breaks_at VoidValueUsed 3 ∷ breaks_at VoidValueUsed 3 ∷ breaks_at VoidValueUsed 1 ∷ []
  -- `5 += 1`, `5 += p`, `a++` of an array
  pub not_modifiable :
      map (λ row. row.broken)
      (compound operators.AdditionAssignment (number (pos 5)) (number (pos 1)) ∷ compound operators.AdditionAssignment (number (pos 5)) p
      ∷ behind operators.PostIncrement (place (array_type int (Some 3))) ∷ [])
      ≡ replicate 3 (breaks_at NotModifiable 2)
  -- `x == 1`, `x == x`, `x + 1`, `!x`, `i ? x : 1`
  pub aggregates :
      map (λ row. row.broken)
      (binary operators.Equal x (number (pos 1)) ∷ binary operators.Equal x x ∷ binary operators.Addition x (number (pos 1)) ∷ not_row 2 3 (Expression x)
      ∷ conditional i x (number (pos 1)) ∷ [])
      ≡ breaks_at IncompatibleTypes 2 ∷ breaks_at WrongOperandTypes 2 ∷ breaks_at WrongOperandTypes 2 ∷ breaks_at ConditionIsNotScalar 3
      ∷ breaks_at IncompatibleTypes 2 ∷ []
  -- `(int)none()`, `(int [2])p`, `(void (void))p`, `(int [2])` of what isn't known
  pub bad_casts :
      map (λ row. row.broken)
      (cast int void_value ∷ cast (array_type int (Some 2)) p ∷ cast nothing_from_nothing p ∷ cast_row 2 false (NamedType (array_type int (Some 2))) Unknown ∷ [])
      ≡ replicate 4 (breaks_at BadCast 2)
  -- `(int)p`, `(char *)l`, `(void)none()`
  pub good_casts : map (λ row. row.broken) (cast int p ∷ cast (pointer_to char) l ∷ cast void void_value ∷ []) ≡ replicate 3 []
  -- `sizeof k` of an array without a length, `sizeof(void)`, `sizeof none`, `sizeof f` of a bit-field
  pub sizes :
      map (λ row. row.broken)
      (sizeof_row nothing_told 2 (Expression (place unknown_length)) ∷ sizeof_row nothing_told 2 (NamedType void) ∷ sizeof_row nothing_told 2 (Expression none)
      ∷ sizeof_row nothing_told 2 (Expression (record ui { width = Some 3 })) ∷ [])
      ≡ breaks_at IncompleteType 2 ∷ [] ∷ [] ∷ breaks_at BadBitField 2 ∷ []
  -- where the right side isn't known: `5 += ..`
  pub one_known : (compound_row nothing_told operators.AdditionAssignment 2 1 3 (Expression (number (pos 5))) Unknown).broken ≡ breaks_at NotModifiable 2
