-- Most actions make one node of what they take, and one row each says how: how many values that is, where the node stands,
-- which word has its name or its number, and what its parts are. A value is told by how far it stands below the top.
use Rattle.std.specs.Prelude.{ℕ, List, [], ◌∷◌, Option, Some, None}
use Rattle.vocabulary.specs.declared.role.Role.{Role}
use Rattle.vocabulary.specs.declared.role.Role.TheVariants.{Evaluated, Condition, TypePart}
use Rattle.vocabulary.specs.declared.node_kind.NodeKind.{NodeKind}
use Rattle.vocabulary.specs.declared.node_kind.NodeKind.TheVariants as kinds
use Rattle.vocabulary.specs.declared.action.Action.{Action}
use Rattle.vocabulary.specs.declared.action.Action.TheVariants.{MakeBinary, MakeBuiltinOffsetof, MakeCall, MakeCompoundStatement, MakeConditional, MakeDeclaration, MakeDeclarator, MakeDoStatement, MakeEnumerator, MakeForStatement, MakeFunctionDefinition, MakeIfStatement, MakeInitializerItem, MakeLabelStatement, MakeLeaf, MakeLoneDeclaration, MakeMember, MakeMemberDeclaration, MakeNamed, MakeOver, MakeOverList, MakeOverTwo, MakeParameter, MakePostfix, MakeSizeofType, MakeStringPiece, MakeTagged, MakeTranslationUnit}
use Rattle.meaning_tree.specs.Trees.{SyntaxTree, Node, Parts, NoParts, with_parts}
use Rattle.meaning_derivation.specs.Values.{Value, value_at, token_of, text_of, parts_of, before, alone, stands_at}

-- where a node stands
pub data Place : Type 0 where
  -- at the first token of the unit
  AtFirst : Place
  -- at this word
  AtWord : (depth : ℕ) → Place
  -- where this tree stands
  AtTree : (depth : ℕ) → Place

-- what parts of a node are made of
pub data Source : Type 0 where
  -- this tree, in this role
  OneTree : Role → (depth : ℕ) → Source
  -- the trees of this list, in their roles
  AllTrees : (depth : ℕ) → Source

pub record Shape : Type 0 where
  -- how many values are taken
  pub takes : ℕ
  pub kind : NodeKind
  pub place : Place
  -- the word whose spelling is the name
  pub name : Option ℕ
  -- the word whose token is the number
  pub number : Option ℕ
  -- where the parts come from, in their order
  pub sources : List Source

-- The node of a shape

abbrev pub token_at : Place → List Value → ℕ
token_at AtFirst values = 0
token_at (AtWord depth) values = token_of (value_at values depth)
token_at (AtTree depth) values = stands_at (value_at values depth)

abbrev pub spelling_at : Option ℕ → List Value → List ℕ
spelling_at None values = []
spelling_at (Some depth) values = text_of (value_at values depth)

abbrev pub number_at : Option ℕ → List Value → ℕ
number_at None values = 0
number_at (Some depth) values = token_of (value_at values depth)

-- the last source stands alone, each other one before those behind it
abbrev pub parts_from : List Source → List Value → Parts (List ℕ)
parts_from [] values = NoParts
parts_from (OneTree role depth ∷ []) values = alone role (value_at values depth)
parts_from (AllTrees depth ∷ []) values = parts_of (value_at values depth)
parts_from (OneTree role depth ∷ source ∷ sources) values = before role (value_at values depth) (parts_from (source ∷ sources) values)
parts_from (AllTrees depth ∷ source ∷ sources) values = with_parts (parts_of (value_at values depth)) (parts_from (source ∷ sources) values)

abbrev pub shaped_tree : Shape → List Value → SyntaxTree
shaped_tree shape values =
    Node shape.kind (token_at shape.place values) (spelling_at shape.name values) (number_at shape.number values) (parts_from shape.sources values)

-- The rows

-- one without a name and a number
abbrev pub plain_shape : (takes : ℕ) → NodeKind → Place → List Source → Option Shape
plain_shape takes kind place sources =
    Some (record { takes = takes; kind = kind; place = place; name = None; number = None; sources = sources })

-- one with the name of a word
abbrev pub named_shape : (takes : ℕ) → NodeKind → Place → (name : ℕ) → List Source → Option Shape
named_shape takes kind place name sources =
    Some (record { takes = takes; kind = kind; place = place; name = Some name; number = None; sources = sources })

-- one with the number of a word
abbrev pub numbered_shape : (takes : ℕ) → NodeKind → Place → (number : ℕ) → List Source → Option Shape
numbered_shape takes kind place number sources =
    Some (record { takes = takes; kind = kind; place = place; name = None; number = Some number; sources = sources })

-- the shape of an action's node, where it makes a node and does nothing else
abbrev pub shape_of : Action → Option Shape
shape_of (MakeLeaf kind) = plain_shape 1 kind (AtWord 0) []
shape_of (MakeNamed kind) = named_shape 2 kind (AtWord 1) 0 []
shape_of (MakeOver kind role) = plain_shape 2 kind (AtWord 1) (OneTree role 0 ∷ [])
shape_of (MakeOverTwo kind role other) = plain_shape 3 kind (AtWord 2) (OneTree role 1 ∷ OneTree other 0 ∷ [])
shape_of (MakeOverList kind) = plain_shape 2 kind (AtWord 1) (AllTrees 0 ∷ [])
shape_of (MakeBinary kind role) = plain_shape 3 kind (AtWord 1) (OneTree role 2 ∷ OneTree role 0 ∷ [])
shape_of (MakePostfix kind) = plain_shape 2 kind (AtWord 0) (OneTree Evaluated 1 ∷ [])
shape_of (MakeMember kind) = named_shape 3 kind (AtWord 1) 0 (OneTree Evaluated 2 ∷ [])
shape_of MakeTranslationUnit = plain_shape 1 kinds.TranslationUnit AtFirst (AllTrees 0 ∷ [])
shape_of MakeLoneDeclaration = plain_shape 1 kinds.Declaration (AtTree 0) (OneTree TypePart 0 ∷ [])
shape_of MakeDeclaration = plain_shape 2 kinds.Declaration (AtTree 1) (OneTree TypePart 1 ∷ AllTrees 0 ∷ [])
shape_of MakeFunctionDefinition =
    plain_shape 4 kinds.FunctionDefinition (AtTree 3) (OneTree TypePart 3 ∷ OneTree TypePart 2 ∷ AllTrees 1 ∷ OneTree Evaluated 0 ∷ [])
shape_of (MakeTagged kind) =
    Some (record {
      takes = 5;
      kind = kind;
      place = AtWord 4;
      name = Some 2;
      number = Some 1;
      sources = AllTrees 3 ∷ AllTrees 0 ∷ [];
    })
shape_of MakeMemberDeclaration = plain_shape 2 kinds.MemberDeclaration (AtTree 1) (OneTree TypePart 1 ∷ AllTrees 0 ∷ [])
shape_of MakeEnumerator = named_shape 2 kinds.Enumerator (AtWord 1) 1 (AllTrees 0 ∷ [])
shape_of MakeDeclarator = named_shape 2 kinds.Declarator (AtWord 1) 1 (AllTrees 0 ∷ [])
shape_of MakeParameter = plain_shape 2 kinds.Parameter (AtTree 1) (OneTree TypePart 1 ∷ AllTrees 0 ∷ [])
shape_of MakeInitializerItem = plain_shape 3 kinds.InitializerItem (AtWord 2) (AllTrees 1 ∷ OneTree Evaluated 0 ∷ [])
shape_of MakeCompoundStatement = numbered_shape 3 kinds.CompoundStatement (AtWord 2) 0 (AllTrees 1 ∷ [])
shape_of MakeLabelStatement = named_shape 2 kinds.LabelStatement (AtWord 1) 1 (OneTree Evaluated 0 ∷ [])
shape_of MakeIfStatement = plain_shape 3 kinds.IfStatement (AtWord 2) (OneTree Condition 1 ∷ AllTrees 0 ∷ [])
shape_of MakeDoStatement = numbered_shape 4 kinds.DoStatement (AtWord 3) 1 (OneTree Evaluated 2 ∷ OneTree Condition 0 ∷ [])
shape_of MakeForStatement =
    plain_shape 5 kinds.ForStatement (AtWord 4) (OneTree Evaluated 3 ∷ OneTree Condition 2 ∷ OneTree Evaluated 1 ∷ OneTree Evaluated 0 ∷ [])
shape_of MakeConditional = plain_shape 4 kinds.Conditional (AtWord 2) (OneTree Condition 3 ∷ AllTrees 1 ∷ OneTree Evaluated 0 ∷ [])
shape_of MakeSizeofType = plain_shape 3 kinds.SizeofType (AtWord 2) (OneTree TypePart 0 ∷ [])
shape_of MakeCall = plain_shape 3 kinds.Call (AtWord 1) (OneTree Evaluated 2 ∷ AllTrees 0 ∷ [])
shape_of MakeStringPiece = named_shape 1 kinds.StringPiece (AtWord 0) 0 []
shape_of MakeBuiltinOffsetof = named_shape 4 kinds.BuiltinOffsetof (AtWord 3) 1 (OneTree TypePart 2 ∷ AllTrees 0 ∷ [])
shape_of action = None
