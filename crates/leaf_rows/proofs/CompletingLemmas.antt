-- An array without a length, and one of its elements that has one, have one type.
use Rattle.std.proofs.Common.{◌≡◌, ℕ, Bool, true, false, ◌&&◌, List, Option, Some, None, refl, sym, ap, ◌∙◌, if◌then◌else◌}
use Rattle.std.proofs.lemmas.Option.{same_Some}
use Rattle.meaning_types.specs.Types.{Flags, Qualifiers, TypeTree, TypeTrees, Typed, VoidTree, IntegerTree, RestrictedTree, PointerTree, ArrayTree, FunctionTree, AggregateTree, no_flags}
use Rattle.meaning_types.specs.Composite as types
use Rattle.meaning_types.specs.Composite.{composite}
use Rattle.meaning_types.specs.Equality.{are_equal_flags, are_same}
use Rattle.meaning_types.proofs.Equality.{are_same-Decides}
use Rattle.meaning_typing.specs.Declarators.{array_type}
use Rattle.meaning_typing.specs.Expressions.{is_array}
use Rattle.meaning_initializers.specs.Filling.{completed}
use Rattle.c_types.specs.declared.shapes.OuterBase.{OuterBase}
use Rattle.c_types.specs.declared.shapes.OuterBase.TheVariants as outers
use Rattle.c_types.specs.Table.{base_of_outer}
use Rattle.leaf_rows.specs.Completing.{element_in, element_of}
pub use Rattle.decl_judge.proofs.MarkingLemmas.{marked_none}

same_itself : (type_ : TypeTree) → are_same type_ type_ ≡ true
same_itself type_ = (are_same-Decides type_ type_).1 refl

never : (first second : Bool) → (first && (second && false)) ≡ false
never true true = refl
never true false = refl
never false second = refl

with_same : (whole other : Option TypeTree) (test : Bool) → test ≡ true → (if test then whole else other) ≡ whole
with_same whole other true is = refl
with_same whole other false is = absurd (cc is)

pub composite_is : (type_ element : TypeTree) (length : ℕ) → element_of type_ ≡ Some element → composite type_ (array_type element (Some length)) ≡ Some (completed type_ length)
composite_is (Typed (ArrayTree own None) qualifiers flags) element length is =
    let object = Typed (ArrayTree own None) qualifiers flags in
    let whole = Typed (ArrayTree own (Some length)) qualifiers flags in
    ap (λ (e : TypeTree). composite object (array_type e (Some length))) (sym (same_Some _ _ is))
    ∙ (ap (λ (test : Bool). if test then Some object else types.completed object (array_type own (Some length))) (never (are_equal_flags flags no_flags) (are_same own own))
    ∙ with_same (Some whole) None (are_same own own) (same_itself own))
composite_is (Typed (ArrayTree own (Some count)) qualifiers flags) element length is = absurd (cc is)
composite_is (Typed VoidTree qualifiers flags) element length is = absurd (cc is)
composite_is (Typed (IntegerTree kind) qualifiers flags) element length is = absurd (cc is)
composite_is (Typed (RestrictedTree kind identity) qualifiers flags) element length is = absurd (cc is)
composite_is (Typed (PointerTree target) qualifiers flags) element length is = absurd (cc is)
composite_is (Typed (FunctionTree result parameters variadic) qualifiers flags) element length is = absurd (cc is)
composite_is (Typed (AggregateTree number is_union) qualifiers flags) element length is = absurd (cc is)

-- No other type is completed

pub completed_stays : (type_ : TypeTree) (length : ℕ) → element_of type_ ≡ None → type_ ≡ completed type_ length
completed_stays (Typed (ArrayTree own None) qualifiers flags) length is = absurd (cc is)
completed_stays (Typed (ArrayTree own (Some count)) qualifiers flags) length is = refl
completed_stays (Typed VoidTree qualifiers flags) length is = refl
completed_stays (Typed (IntegerTree kind) qualifiers flags) length is = refl
completed_stays (Typed (RestrictedTree kind identity) qualifiers flags) length is = refl
completed_stays (Typed (PointerTree target) qualifiers flags) length is = refl
completed_stays (Typed (FunctionTree result parameters variadic) qualifiers flags) length is = refl
completed_stays (Typed (AggregateTree number is_union) qualifiers flags) length is = refl

-- Elements

element_by : (types : List TypeTree) (parameters : TypeTrees) (base : OuterBase) (qualifiers : Qualifiers) (flags : Flags)
    → element_in types base ≡ element_of (Typed (base_of_outer types parameters base) qualifiers flags)
element_by types parameters outers.Void qualifiers flags = refl
element_by types parameters (outers.Integer kind None) qualifiers flags = refl
element_by types parameters (outers.Integer kind (Some identity)) qualifiers flags = refl
element_by types parameters (outers.Pointer target) qualifiers flags = refl
element_by types parameters (outers.Array element None) qualifiers flags = refl
element_by types parameters (outers.Array element (Some count)) qualifiers flags = refl
element_by types parameters (outers.Function result count variadic) qualifiers flags = refl
element_by types parameters (outers.Aggregate number is_union) qualifiers flags = refl

pub element_outer : (types : List TypeTree) (parameters : TypeTrees) (base : OuterBase) (qualifiers : Qualifiers) (flags : Flags) (type_ : TypeTree)
    → Typed (base_of_outer types parameters base) qualifiers flags ≡ type_ → element_in types base ≡ element_of type_
element_outer types parameters base qualifiers flags type_ is = element_by types parameters base qualifiers flags ∙ ap element_of is

pub no_element : (type_ : TypeTree) → is_array type_ ≡ false → None ≡ element_of type_
no_element (Typed (ArrayTree own length) qualifiers flags) is = absurd (cc is)
no_element (Typed VoidTree qualifiers flags) is = refl
no_element (Typed (IntegerTree kind) qualifiers flags) is = refl
no_element (Typed (RestrictedTree kind identity) qualifiers flags) is = refl
no_element (Typed (PointerTree target) qualifiers flags) is = refl
no_element (Typed (FunctionTree result parameters variadic) qualifiers flags) is = refl
no_element (Typed (AggregateTree number is_union) qualifiers flags) is = refl
