-- What is known of parts, as an expression or nothing.
use Rattle.std.proofs.Common.{◌≡◌, ℕ, zero, suc, ◌+◌, Bool, List, [], ◌∷◌, ◌++◌, All, Option, Some, None, IfSome, map, option_map, if◌then◌else◌, refl, sym, ap, subst, ◌∙◌}
use Rattle.std.proofs.lemmas.List.{append_assoc, length-map, map-append}
use Rattle.std.proofs.lemmas.List.Elements.{All-cons, All-head, All-nil, All-push, All-tail}
use Rattle.vocabulary.specs.declared.error_kind.ErrorKind.TheVariants.{CalledObjectIsNoFunction, WrongNumberOfArguments}
use Rattle.meaning_types.specs.Types.{TypeTree, Typed, PointerTree, FunctionTree, TypeTrees, NoTypes, MoreTypes, value_type}
use Rattle.meaning_typing.specs.Expressions.{Argument, address_row, arguments_passed, assignment_row, call_of, call_row, indirection_row, passed_as, passed_freely, row_or, subscript_row, takes_arguments}
use Rattle.meaning_typing.specs.Facts.{Fact, Expression, fact_at, type_of_value, value}
use Rattle.meaning_typing.specs.Rows.{Row, Converted, both_converted, breaks, breaks_at, gives, void_used}
use Rattle.meaning_typing.specs.Statements.{return_row}
use Rattle.c_types.specs.Table.{TypeTable}
use Rattle.node_facts.specs.declared.fact.NodeFact.{NodeFact}
use Rattle.node_facts.specs.declared.fact.NodeFact.TheVariants as facts
use Rattle.node_facts.specs.declared.expression.ExpressionFact as code
use Rattle.node_facts.specs.Facts.{IsKnownNodeFact, node_seen, nodes_seen}
use Rattle.node_facts.specs.Growing.{TypesJoin}
use Rattle.node_facts.proofs.GrowthLemmas.{fact_later, id_later, type_later}
use Rattle.expression_rows.specs.declared.call.Argument as calls
use Rattle.expression_rows.specs.declared.value.Valued.{Valued}
use Rattle.expression_rows.specs.Arguments.{IsKnownArgument, argument_seen}
use Rattle.expression_rows.specs.Facts.{IsKnownPart, IsValued, part_seen, valued_part}
use Rattle.expr_judge.specs.Parts.{expression_in, kept_at, only_arguments, only_expression}

-- What is kept at a handle

module _ (table : TypeTable) where
  pub kept-is : (kept : List NodeFact) (handle : ℕ) → node_seen table (kept_at kept handle) ≡ fact_at (nodes_seen table kept) handle
  kept-is [] handle = refl
  kept-is (fact ∷ kept) zero = refl
  kept-is (fact ∷ kept) (suc handle) = kept-is kept handle

  pub known_at : (kept : List NodeFact) (handle : ℕ) → All (IsKnownNodeFact table) kept → IsKnownNodeFact table (kept_at kept handle)
  known_at [] handle known = tt
  known_at (fact ∷ kept) zero known = All-head (IsKnownNodeFact table) fact kept known
  known_at (fact ∷ kept) (suc handle) known = known_at kept handle (All-tail (IsKnownNodeFact table) fact kept known)

  expression-is : (fact : NodeFact) → part_seen table (expression_in fact) ≡ only_expression (node_seen table fact)
  expression-is facts.Unknown = refl
  expression-is (facts.Expression expression) = refl
  expression-is (facts.Specified specifiers) = refl
  expression-is (facts.Declared declaration) = refl
  expression-is (facts.NamedType of) = refl

  pub part_is : (kept : List NodeFact) (handle : ℕ) → part_seen table (expression_in (kept_at kept handle)) ≡ only_expression (fact_at (nodes_seen table kept) handle)
  part_is kept handle = expression-is (kept_at kept handle) ∙ ap only_expression (kept-is kept handle)

  pub expression-known : (fact : NodeFact) → IsKnownNodeFact table fact → IsKnownPart table (expression_in fact)
  expression-known facts.Unknown known = tt
  expression-known (facts.Expression expression) known = known
  expression-known (facts.Specified specifiers) known = tt
  expression-known (facts.Declared declaration) known = tt
  expression-known (facts.NamedType of) known = tt

  pub part_known : (kept : List NodeFact) (handle : ℕ) → All (IsKnownNodeFact table) kept → IsKnownPart table (expression_in (kept_at kept handle))
  part_known kept handle known = expression-known (kept_at kept handle) (known_at kept handle known)

  pub valued_is : (found : Option Valued) → valued_part table found ≡ part_seen table (option_map (λ valued. valued.fact) found)
  valued_is None = refl
  valued_is (Some valued) = refl

-- Over a table that types joined

module _ (old new : TypeTable) (join : TypesJoin old new) where
  pub part_later : (part : Option code.ExpressionFact) → IsKnownPart old part → part_seen new part ≡ part_seen old part
  part_later None known = refl
  part_later (Some fact) known = ap Expression (fact_later old new join fact known)

  pub value_later : (found : Option Valued) → IfSome found (IsValued old) → valued_part new found ≡ valued_part old found
  value_later None valued = refl
  value_later (Some valued) is = ap Expression (fact_later old new join valued.fact is.0)

  pub value_known : (found : Option Valued) → IfSome found (IsValued old) → IfSome found (IsValued new)
  value_known None is = is
  value_known (Some valued) is = (
    id_later old new join valued.fact.node.of is.0,
    record {
      known = id_later old new join valued.value is.1.known;
      value = type_later old new join valued.value is.1.known ∙ is.1.value ∙ ap type_of_value (sym (fact_later old new join valued.fact is.0));
    },
  )

  pub arguments_later : (arguments : List calls.Argument) → All (IsKnownArgument old) arguments
      → map (argument_seen new) arguments ≡ map (argument_seen old) arguments
  arguments_later [] known = refl
  arguments_later (argument ∷ arguments) known =
      λ i. record { token = argument.token; fact = value_later argument.part (All-head (IsKnownArgument old) argument arguments known) i }
      ∷ arguments_later arguments (All-tail (IsKnownArgument old) argument arguments known) i

  pub arguments_known : (arguments : List calls.Argument) → All (IsKnownArgument old) arguments → All (IsKnownArgument new) arguments
  arguments_known [] known = All-nil (IsKnownArgument new)
  arguments_known (argument ∷ arguments) known =
      All-cons (IsKnownArgument new) argument arguments (value_known argument.part (All-head (IsKnownArgument old) argument arguments known))
      (arguments_known arguments (All-tail (IsKnownArgument old) argument arguments known))

  -- one argument more, which stands before those that are left
  module _ (arguments more : List calls.Argument) (argument : calls.Argument) (pushed : more ≡ arguments ++ argument ∷ []) (known : All (IsKnownArgument old) arguments) where
    pub argument_more : (meant : Argument) (left all : List Argument) → argument_seen new argument ≡ meant
        → map (argument_seen old) arguments ++ meant ∷ left ≡ all → map (argument_seen new) more ++ left ≡ all
    argument_more meant left all is whole =
        ap (λ l. map (argument_seen new) l ++ left) pushed
        ∙ ap (λ l. l ++ left) (map-append (argument_seen new) arguments (argument ∷ []))
        ∙ append_assoc (map (argument_seen new) arguments) (argument_seen new argument ∷ []) left
        ∙ (λ i. arguments_later arguments known i ++ is i ∷ left)
        ∙ whole

    pub argument_more_known : IsKnownArgument new argument → All (IsKnownArgument new) more
    argument_more_known is =
        subst (All (IsKnownArgument new)) (sym pushed) (All-push (IsKnownArgument new) arguments argument (arguments_known arguments known) is)

  -- a value of a part that was known before
  pub operand_is : (kept : List NodeFact) (handle : ℕ) (found : Option Valued) → All (IsKnownNodeFact old) kept
      → option_map (λ valued. valued.fact) found ≡ expression_in (kept_at kept handle)
      → valued_part new found ≡ only_expression (fact_at (nodes_seen old kept) handle)
  operand_is kept handle found known same =
      valued_is new found ∙ ap (part_seen new) same ∙ part_later (expression_in (kept_at kept handle)) (part_known old kept handle known)
      ∙ part_is old kept handle

-- Rows ask of a part nothing but an expression

pub indirection_only : (token operand : ℕ) (fact : Fact) → indirection_row token operand (only_expression fact) ≡ indirection_row token operand fact
indirection_only token operand (Expression expression) = refl
indirection_only token operand fact = refl

pub address_only : (token : ℕ) (fact : Fact) → address_row token (only_expression fact) ≡ address_row token fact
address_only token (Expression expression) = refl
address_only token fact = refl

pub subscript_only : (token first second : ℕ) (left right : Fact)
    → subscript_row token first second (only_expression left) (only_expression right) ≡ subscript_row token first second left right
subscript_only token first second (Expression left) (Expression right) = refl
subscript_only token first second (Expression left) right = refl
subscript_only token first second left right = refl

pub assignment_only : (token second : ℕ) (left right : Fact)
    → assignment_row token second (only_expression left) (only_expression right) ≡ assignment_row token second left right
assignment_only token second (Expression left) (Expression right) = refl
assignment_only token second (Expression left) right = refl
assignment_only token second left right = refl

pub passed_only : (part token : ℕ) (fact : Fact) (to : TypeTree) → passed_as part token (only_expression fact) to ≡ passed_as part token fact to
passed_only part token (Expression expression) to = refl
passed_only part token fact to = refl

freely_only : (token : ℕ) (fact : Fact) → passed_freely token (only_expression fact) ≡ passed_freely token fact
freely_only token (Expression expression) = refl
freely_only token fact = refl

all_passed_only : (part : ℕ) (arguments : List Argument) (parameters : TypeTrees) → arguments_passed part (only_arguments arguments) parameters ≡ arguments_passed part arguments parameters
all_passed_only part [] parameters = refl
all_passed_only part (argument ∷ arguments) NoTypes =
    λ i. both_converted (freely_only argument.token argument.fact i) (all_passed_only (part + 1) arguments NoTypes i)
all_passed_only part (argument ∷ arguments) (MoreTypes parameter parameters) =
    λ i. both_converted (passed_only part argument.token argument.fact parameter i) (all_passed_only (part + 1) arguments parameters i)

-- the row of a call of a function with so many arguments, which are passed so
abbrev called_with : (token : ℕ) → (result : TypeTree) → TypeTrees → (variadic : Bool) → (count : ℕ) → Converted → Option Row
called_with token result parameters variadic count passed =
    Some
    (gives (value (value_type result)) ((if takes_arguments parameters variadic count then [] else breaks_at WrongNumberOfArguments token) ++ passed.broken)
    passed.failures)

called_only : (token : ℕ) (arguments : List Argument) (type_ : TypeTree) → call_of token (only_arguments arguments) type_ ≡ call_of token arguments type_
called_only token arguments (Typed (PointerTree (Typed (FunctionTree result parameters variadic) _ _)) _ _) =
    λ i. called_with token result parameters variadic (length-map {B = Argument} arguments (λ argument. record { token = argument.token; fact = only_expression argument.fact }) i)
    (all_passed_only 1 arguments parameters i)
called_only token arguments type_ = refl

pub call_only : (token called : ℕ) (callee : Fact) (arguments : List Argument)
    → call_row token called (only_expression callee) (only_arguments arguments) ≡ call_row token called callee arguments
call_only token called (Expression callee) arguments =
    ap (λ row. row_or row (breaks (breaks_at CalledObjectIsNoFunction token ++ void_used called callee))) (called_only token arguments (type_of_value callee))
call_only token called callee arguments = refl

pub return_only : (token value : ℕ) (fact : Option Fact) (result : Option TypeTree) → return_row token value (option_map only_expression fact) result ≡ return_row token value fact result
return_only token value fact None = refl
return_only token value None (Some result) = refl
return_only token value (Some (Expression expression)) (Some result) = refl
return_only token value (Some fact) (Some result) = refl
