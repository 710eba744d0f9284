-- Which parts of a node are evaluated, in order: what a body does, and the paths through it, go by them.
use Rattle.std.specs.Prelude.{ℕ, Bool, false, ◌||◌, not, List, [], ◌∷◌, if◌then◌else◌}
use Rattle.std.specs.List.{filter}
use Rattle.vocabulary.specs.declared.node_kind.NodeKind.{NodeKind}
use Rattle.vocabulary.specs.declared.node_kind.NodeKind.TheVariants as kinds
use Rattle.vocabulary.specs.Roles.{role_of}
use Rattle.meaning_typing.specs.Units.{UnitNodes, node_at, kind_at, child_at}
use Rattle.meaning_typing.specs.Surroundings.{evaluates}
use Rattle.meaning_typing.specs.Facts.{Fact, Declared, fact_at}

-- the children that their role says are
abbrev pub evaluated_among : List (ℕ × ℕ) → List ℕ
evaluated_among [] = []
evaluated_among (child ∷ children) = if evaluates (role_of child.1) then child.0 ∷ evaluated_among children else evaluated_among children

-- an object that comes to be where its declaration is reached (C11 6.2.4 p5)
abbrev pub is_automatic : Fact → Bool
is_automatic (Declared declaration) = not (declaration.is_typedef || declaration.is_static)
is_automatic fact = false

-- of `&*p` neither operator is evaluated, but p is (6.5.3.2 p3)
abbrev pub under_address : UnitNodes → NodeKind → (operand : ℕ) → List ℕ
under_address nodes kinds.Indirection operand = child_at nodes operand 0 ∷ []
under_address nodes kind operand = operand ∷ []

abbrev pub evaluated_of : UnitNodes → List Fact → (handle : ℕ) → NodeKind → List ℕ
-- the spellings of a literal say what it is
evaluated_of nodes facts handle kinds.StringLiteral = []
evaluated_of nodes facts handle kinds.Declaration = filter (λ part. is_automatic (fact_at facts part)) (evaluated_among (node_at nodes handle).children)
evaluated_of nodes facts handle kinds.Address = under_address nodes (kind_at nodes (child_at nodes handle 0)) (child_at nodes handle 0)
evaluated_of nodes facts handle kind = evaluated_among (node_at nodes handle).children

-- by their handles
abbrev pub evaluated_parts : UnitNodes → List Fact → (handle : ℕ) → List ℕ
evaluated_parts nodes facts handle = evaluated_of nodes facts handle (kind_at nodes handle)
