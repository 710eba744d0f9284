-- Steps to a tree, and what they make.
use Rattle.std.proofs.Common.{rules, ◌≡◌, ℕ, Bool, List, [], ◌∷◌, ◌++◌, length, map, reverse, Option, Result, Ok, Err, OnOk, refl, sym, ap, ◌∙◌, arith}
use Rattle.std.proofs.lemmas.List.{length-map, length-reverse, map-append, reverse-append}
use Rattle.sparse_model.specs.declared.ctype.CType.{CType}
use Rattle.meaning_types.specs.Types.{TypeTree, Typed, BaseTree, VoidTree, IntegerTree, RestrictedTree, PointerTree, ArrayTree, FunctionTree, AggregateTree, TypeTrees, NoTypes, MoreTypes}
use Rattle.sparse_model.specs.declared.ctype.CBase.{Row_of-CType, end_of-CType, more_of-CType, items-the_row-CType, the_lemmas}
use Rattle.sparse_model.specs.declared.ctype.CBase.TheVariants as bases
use Rattle.c_types.specs.declared.shapes.OuterBase.TheVariants as outers
use Rattle.c_types.specs.declared.shapes.OuterShape.{OuterShape}
use Rattle.c_types.specs.declared.trees.Step.{Step}
use Rattle.c_types.specs.declared.trees.Step.TheVariants.{Append, Around, Make, Parameters}
use Rattle.c_types.specs.Rows.{parameter_types, type_numbered}
use Rattle.c_types.specs.Table.{base_of_outer, type_of_outer}
use Rattle.c_types.specs.Trees.{after_step, after_steps, around, base_around, base_of_ctype, joined_types, made_seen, parameters_seen, tree_seen, with_marks, with_parameters}

-- the last of the steps is taken first
pub after_steps-push : (types : List TypeTree) (steps : List Step) (step : Step) (made : List TypeTree)
    → after_steps types (steps ++ step ∷ []) made ≡ after_steps types steps (after_step types step made)
after_steps-push types [] step made = refl
after_steps-push types (other ∷ steps) step made = ap (after_step types other) (after_steps-push types steps step made)

-- a parameter in front of others
pub joined-one : (own : TypeTrees) (first : TypeTree) (others : TypeTrees)
    → joined_types (joined_types own (MoreTypes first NoTypes)) others ≡ joined_types own (MoreTypes first others)
joined-one NoTypes first others = refl
joined-one (MoreTypes type_ own) first others = ap (MoreTypes type_) (joined-one own first others)

pub joined-none : (own : TypeTrees) → joined_types own NoTypes ≡ own
joined-none NoTypes = refl
joined-none (MoreTypes type_ own) = ap (MoreTypes type_) (joined-none own)

-- one parameter and then the others are all of them
pub with_parameters-first : (function first : TypeTree) (others : TypeTrees)
    → with_parameters (with_parameters function (MoreTypes first NoTypes)) others ≡ with_parameters function (MoreTypes first others)
with_parameters-first (Typed VoidTree q f) first others = refl
with_parameters-first (Typed (IntegerTree k) q f) first others = refl
with_parameters-first (Typed (RestrictedTree k i) q f) first others = refl
with_parameters-first (Typed (PointerTree t) q f) first others = refl
with_parameters-first (Typed (ArrayTree e n) q f) first others = refl
with_parameters-first (Typed (FunctionTree result own variadic) q f) first others = ap (λ parameters. Typed (FunctionTree result parameters variadic) q f) (joined-one own first others)
with_parameters-first (Typed (AggregateTree n u) q f) first others = refl

-- without parameters a function stays
pub with_parameters-none : (function : TypeTree) → with_parameters function NoTypes ≡ function
with_parameters-none (Typed VoidTree q f) = refl
with_parameters-none (Typed (IntegerTree k) q f) = refl
with_parameters-none (Typed (RestrictedTree k i) q f) = refl
with_parameters-none (Typed (PointerTree t) q f) = refl
with_parameters-none (Typed (ArrayTree e n) q f) = refl
with_parameters-none (Typed (FunctionTree result own variadic) q f) = ap (λ parameters. Typed (FunctionTree result parameters variadic) q f) (joined-none own)
with_parameters-none (Typed (AggregateTree n u) q f) = refl

-- Parameters as they are kept

abbrev pub list_types : List TypeTree → TypeTrees
list_types [] = NoTypes
list_types (type_ ∷ types) = MoreTypes type_ (list_types types)

pub parameters_seen-items : (n : _) (row : Row_of-CType n) → parameters_seen row ≡ list_types (map tree_seen (items-the_row-CType n row))
parameters_seen-items n end_of-CType = refl
parameters_seen-items n (more_of-CType base c v m space rest) = ap (MoreTypes (with_marks (base_of_ctype base) c v m space)) (parameters_seen-items _ rest)

pub list_types-push : (types : List TypeTree) (type_ : TypeTree) → list_types (types ++ type_ ∷ []) ≡ joined_types (list_types types) (MoreTypes type_ NoTypes)
list_types-push [] type_ = refl
list_types-push (other ∷ types) type_ = ap (MoreTypes other) (list_types-push types type_)

-- a function as it is kept
pub function-seen : (answer : _) (parameters : _) (variadic : Bool)
    → base_of_ctype (bases.Function answer parameters variadic) ≡ FunctionTree (tree_seen answer.value) (list_types (map tree_seen parameters.items)) variadic
function-seen answer parameters variadic = search (rules, the_lemmas, parameters_seen-items)

-- with one parameter more
pub function-seen-push : (answer : _) (parameters : List CType) (parameter : CType) (variadic : Bool)
    → FunctionTree answer (list_types (map tree_seen (parameters ++ parameter ∷ []))) variadic
    ≡ FunctionTree answer (joined_types (list_types (map tree_seen parameters)) (MoreTypes (tree_seen parameter) NoTypes)) variadic
function-seen-push answer parameters parameter variadic =
    ap (λ types. FunctionTree answer types variadic)
    (ap list_types (map-append tree_seen parameters (parameter ∷ [])) ∙ list_types-push (map tree_seen parameters) (tree_seen parameter))

-- Steps

-- the first parameter, and then the others
pub steps-first : (types : List TypeTree) (steps : List Step) (number first rest : ℕ)
    → parameter_types (type_numbered types number) ≡ MoreTypes (type_numbered types first) (parameter_types (type_numbered types rest)) → (made : List TypeTree)
    → after_steps types (((steps ++ Parameters rest ∷ []) ++ Append ∷ []) ++ Make first ∷ []) made ≡ after_steps types (steps ++ Parameters number ∷ []) made
steps-first types steps number first rest parameters made =
    after_steps-push types ((steps ++ Parameters rest ∷ []) ++ Append ∷ []) (Make first) made
    ∙ after_steps-push types (steps ++ Parameters rest ∷ []) Append (type_numbered types first ∷ made)
    ∙ after_steps-push types steps (Parameters rest) (after_step types Append (type_numbered types first ∷ made))
    ∙ ap (after_steps types steps) (given made) ∙ sym (after_steps-push types steps (Parameters number) made)
  where
    given : (made : List TypeTree) → after_step types (Parameters rest) (after_step types Append (type_numbered types first ∷ made)) ≡ after_step types (Parameters number) made
    given [] = refl
    given (function ∷ made) =
        ap (λ t. t ∷ made)
        (with_parameters-first function (type_numbered types first) (parameter_types (type_numbered types rest)) ∙ ap (with_parameters function) (sym parameters))

-- there are none
pub steps-none : (types : List TypeTree) (steps : List Step) (number : ℕ) → parameter_types (type_numbered types number) ≡ NoTypes → (made : List TypeTree)
    → after_steps types steps made ≡ after_steps types (steps ++ Parameters number ∷ []) made
steps-none types steps number none made = ap (after_steps types steps) (kept made) ∙ sym (after_steps-push types steps (Parameters number) made)
  where
    kept : (made : List TypeTree) → made ≡ after_step types (Parameters number) made
    kept [] = refl
    kept (function ∷ made) = ap (λ t. t ∷ made) (sym (ap (with_parameters function) none ∙ with_parameters-none function))

-- its part is made first
pub steps-around : (types : List TypeTree) (steps : List Step) (outer : OuterShape) (part : ℕ) (made : List TypeTree) (tree : TypeTree) → around outer (type_numbered types part) ≡ tree
    → after_steps types ((steps ++ Around outer ∷ []) ++ Make part ∷ []) made ≡ after_steps types steps (tree ∷ made)
steps-around types steps outer part made tree is =
    after_steps-push types (steps ++ Around outer ∷ []) (Make part) made
    ∙ after_steps-push types steps (Around outer) (type_numbered types part ∷ made)
    ∙ ap (λ t. after_steps types steps (t ∷ made)) is

-- and its parameters last
pub steps-function : (types : List TypeTree) (steps : List Step) (outer : OuterShape) (number part : ℕ) (made : List TypeTree) (tree : TypeTree)
    → with_parameters (around outer (type_numbered types part)) (parameter_types (type_numbered types number)) ≡ tree
    → after_steps types (((steps ++ Parameters number ∷ []) ++ Around outer ∷ []) ++ Make part ∷ []) made ≡ after_steps types steps (tree ∷ made)
steps-function types steps outer number part made tree is =
    steps-around types (steps ++ Parameters number ∷ []) outer part made (around outer (type_numbered types part)) refl
    ∙ after_steps-push types steps (Parameters number) (around outer (type_numbered types part) ∷ made)
    ∙ ap (λ t. after_steps types steps (t ∷ made)) is

-- A type is its outermost level around its part

module _ (types : List TypeTree) (outer : OuterShape) (part : ℕ) where
  abbrev level : BaseTree → TypeTree
  level base = with_marks base outer.is_const outer.is_volatile outer.noderef outer.space

  pub pointer-around : (parameters : TypeTrees) (tree : TypeTree) → outer.base ≡ outers.Pointer (record { 0 = part }) → type_of_outer types parameters outer ≡ tree
      → around outer (type_numbered types part) ≡ tree
  pointer-around parameters tree base is =
      ap (λ b. level (base_around b (type_numbered types part))) base ∙ sym (ap (λ b. level (base_of_outer types parameters b)) base) ∙ is

  pub array-around : (length : Option ℕ) (parameters : TypeTrees) (tree : TypeTree) → outer.base ≡ outers.Array (record { 0 = part }) length → type_of_outer types parameters outer ≡ tree
      → around outer (type_numbered types part) ≡ tree
  array-around length parameters tree base is =
      ap (λ b. level (base_around b (type_numbered types part))) base ∙ sym (ap (λ b. level (base_of_outer types parameters b)) base) ∙ is

  pub function-around : (count : ℕ) (parameters : TypeTrees) (variadic : Bool) (tree : TypeTree) → outer.base ≡ outers.Function (record { 0 = part }) count variadic
      → type_of_outer types parameters outer ≡ tree → with_parameters (around outer (type_numbered types part)) parameters ≡ tree
  function-around count parameters variadic tree base is =
      ap (λ b. with_parameters (level (base_around b (type_numbered types part))) parameters) base
      ∙ sym (ap (λ b. level (base_of_outer types parameters b)) base) ∙ is

-- Answers

-- what an Ok says more
pub OnOk_from : {X E A B : Type 0} (result : Result X E) → (A → B) → OnOk result A → OnOk result B
OnOk_from (Ok x) to holds = to holds
OnOk_from (Err e) to holds = tt
