-- The parts of a declaration that control passes, child by child.
use Rattle.std.specs.Prelude.{◌≡◌, ℕ, Bool, true, false, ◌&&◌, ◌||◌, List, [], ◌∷◌, ◌++◌, if◌then◌else◌}
use Rattle.vocabulary.specs.declared.node_kind.NodeKind.{NodeKind}
use Rattle.vocabulary.specs.declared.node_kind.NodeKind.TheVariants as kinds
use Rattle.vocabulary.specs.Roles.{role_of}
use Rattle.meaning_typing.specs.Evaluation.{evaluated_among, is_automatic, under_address}
use Rattle.meaning_typing.specs.Facts.{Fact, fact_at}
use Rattle.meaning_typing.specs.Surroundings.{evaluates}
use Rattle.meaning_typing.specs.Units.{UnitNodes, child_at, kind_at, node_at}

-- an object that comes to be where its declaration is reached
abbrev pub is_object : List Fact → ℕ × ℕ → Bool
is_object facts child = evaluates (role_of child.1) && is_automatic (fact_at facts child.0)

abbrev pub objects_among : List Fact → List (ℕ × ℕ) → List ℕ
objects_among facts [] = []
objects_among facts (child ∷ children) = if is_object facts child then child.0 ∷ objects_among facts children else objects_among facts children

-- a list of attributes declares no object
abbrev pub KnowsLists : UnitNodes → List Fact → Type 0
KnowsLists nodes facts = (handle : ℕ) → kind_at nodes handle ≡ kinds.AttributeList → is_automatic (fact_at facts handle) ≡ false

abbrev pub is_initializer : NodeKind → Bool
is_initializer kinds.Initializer = true
is_initializer kind = false

abbrev pub is_attribute_list : NodeKind → Bool
is_attribute_list kinds.AttributeList = true
is_attribute_list kind = false

-- the initializers of objects, where one waits for its own or none does
abbrev pub initializers_waited : UnitNodes → List Fact → (waits : Bool) → List (ℕ × ℕ) → List ℕ
initializers_waited nodes facts waits [] = []
initializers_waited nodes facts waits (child ∷ children) =
    (if waits && is_initializer (kind_at nodes child.0) then child.0 ∷ [] else [])
    ++ initializers_waited nodes facts (is_object facts child || (waits && is_attribute_list (kind_at nodes child.0))) children

-- the parts that are evaluated, where objects are told child by child
abbrev pub evaluated_so : UnitNodes → List Fact → (handle : ℕ) → NodeKind → List ℕ
evaluated_so nodes facts handle kinds.StringLiteral = []
evaluated_so nodes facts handle kinds.Declaration = objects_among facts (node_at nodes handle).children
evaluated_so nodes facts handle kinds.Address = under_address nodes (kind_at nodes (child_at nodes handle 0)) (child_at nodes handle 0)
evaluated_so nodes facts handle kind = evaluated_among (node_at nodes handle).children
