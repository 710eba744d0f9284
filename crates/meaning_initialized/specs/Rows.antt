-- The row of a node that initializes an object, by what its initializer makes of the object.
use Rattle.std.specs.Prelude.{◌≡◌, ℕ, Bool, List, [], ◌∷◌, ◌++◌, map, if◌then◌else◌}
use Rattle.vocabulary.specs.declared.error_kind.ErrorKind.TheVariants.{ExtraInitializer, IncompleteType}
use Rattle.vocabulary.specs.declared.node_kind.NodeKind.{NodeKind}
use Rattle.vocabulary.specs.declared.node_kind.NodeKind.TheVariants as kinds
use Rattle.meaning_types.specs.Types.{TypeTree}
use Rattle.meaning_layout.specs.Sizes.{Told, extent_of}
use Rattle.meaning_operands.specs.Failures.{Broken, Failure}
use Rattle.meaning_typing.specs.Units.{UnitNodes, node_at, kind_at}
use Rattle.meaning_typing.specs.Surroundings.{Surrounding, surrounding_at}
use Rattle.meaning_typing.specs.Facts.{Fact, Unknown, Expression, Declared, NotAddress, ConstantPlace, fact_at, place}
use Rattle.meaning_typing.specs.Rows.{Row, nothing, breaks, breaks_at, unless_broken}
use Rattle.meaning_typing.specs.Declarators.{is_too_large}
use Rattle.meaning_typing.specs.MemberRows.{is_unbounded}
use Rattle.meaning_typing.specs.ContextSums.{redeclared_otherwise}
use Rattle.meaning_initializers.specs.Plans.{Refusal}
use Rattle.meaning_initializers.specs.Filling.{Outcome}
use Rattle.meaning_initializers.specs.Reading.{InitializesAt, initializer_failures}
use Rattle.meaning_initialized.specs.Initialized.{Initialized, NoObject, NoPlace, Incomplete, AnObject, declarator_before, initialized_at, initializing_part}

-- What is known of it: what is declared, or a place, with the completed type

abbrev pub declared_complete : (complete : TypeTree) → Fact → Fact
declared_complete complete (Declared declaration) = Declared (record declaration { type_ = complete })
declared_complete complete fact = Unknown

abbrev pub literal_complete : (complete : TypeTree) → (is_static : Bool) → Fact
literal_complete complete is_static = Expression (record (place complete) { address = if is_static then ConstantPlace else NotAddress })

abbrev pub fact_by : UnitNodes → List Surrounding → List Fact → (handle : ℕ) → (is_static : Bool) → (complete : TypeTree) → NodeKind → Fact
fact_by nodes surroundings facts handle is_static complete kinds.CompoundLiteral = literal_complete complete is_static
fact_by nodes surroundings facts handle is_static complete kind =
    declared_complete complete (fact_at facts (declarator_before nodes (surrounding_at surroundings handle)))

-- What fails besides: where the initializer says the length, it says whether an object with linkage was declared otherwise, at the name

abbrev pub completed_otherwise : UnitNodes → List Surrounding → List Fact → (declarator : ℕ) → (complete : TypeTree) → Fact → List Failure
completed_otherwise nodes surroundings facts declarator complete (Declared declaration) =
    if is_unbounded declaration.type_
    then redeclared_otherwise nodes surroundings facts declarator (surrounding_at surroundings declarator) (record declaration { type_ = complete })
    else []
completed_otherwise nodes surroundings facts declarator complete fact = []

abbrev pub failures_by : UnitNodes → List Surrounding → List Fact → (handle : ℕ) → (complete : TypeTree) → NodeKind → List Failure
failures_by nodes surroundings facts handle complete kinds.CompoundLiteral = []
failures_by nodes surroundings facts handle complete kind =
    completed_otherwise nodes surroundings facts (declarator_before nodes (surrounding_at surroundings handle)) complete
    (fact_at facts (declarator_before nodes (surrounding_at surroundings handle)))

-- Rows

abbrev pub refused_so : List Refusal → List Broken
refused_so refusals = map (λ refusal. record { constraint = refusal.constraint; token = refusal.token; name = [] }) refusals

-- the limit stands where the initializer does; it isn't asked where something is refused (our choice)
abbrev pub passed_unless : Told → (token : ℕ) → (complete : TypeTree) → List Refusal → List ℕ
passed_unless told token complete [] = if is_too_large (extent_of told complete) then token ∷ [] else []
passed_unless told token complete (refusal ∷ refusals) = []

-- nor are the rules: a unit in which something is refused is told no failures
abbrev pub failures_unless : List Failure → List Refusal → List Failure
failures_unless failures [] = failures
failures_unless failures (refusal ∷ refusals) = []

abbrev pub row_of_outcome : Told → UnitNodes → List Surrounding → List Fact → (handle : ℕ) → (is_static : Bool) → Outcome → Row
row_of_outcome told nodes surroundings facts handle is_static outcome =
    record {
      fact = unless_broken (refused_so outcome.refusals) (fact_by nodes surroundings facts handle is_static outcome.complete (kind_at nodes handle));
      broken = refused_so outcome.refusals;
      failures =
          failures_unless
          (initializer_failures nodes facts outcome.leaves ++ failures_by nodes surroundings facts handle outcome.complete (kind_at nodes handle))
          outcome.refusals;
      passed = passed_unless told (node_at nodes (initializing_part nodes handle)).token outcome.complete outcome.refusals;
    }

-- a type that no object has is told at the node, and an initializer without a place at the initializer
abbrev pub IsRowOf : Told → UnitNodes → List Surrounding → List Fact → (handle : ℕ) → Initialized → Row → Type 0
IsRowOf told nodes surroundings facts handle NoObject row = row ≡ nothing
IsRowOf told nodes surroundings facts handle NoPlace row = row ≡ breaks (breaks_at ExtraInitializer (node_at nodes (initializing_part nodes handle)).token)
IsRowOf told nodes surroundings facts handle Incomplete row = row ≡ breaks (breaks_at IncompleteType (node_at nodes handle).token)
IsRowOf told nodes surroundings facts handle (AnObject type_ is_static) row =
    (outcome : Outcome) × InitializesAt nodes surroundings facts type_ is_static (initializing_part nodes handle) outcome
    × (row ≡ row_of_outcome told nodes surroundings facts handle is_static outcome)

-- this is the row of a node that initializes something, over what is known of the nodes before it
abbrev pub IsInitializingRow : Told → UnitNodes → List Surrounding → List Fact → (handle : ℕ) → Row → Type 0
IsInitializingRow told nodes surroundings facts handle row =
    IsRowOf told nodes surroundings facts handle (initialized_at told nodes surroundings facts handle) row
