-- Worked examples: the initializer that nodes are, and constant expressions among nodes.
use Rattle.std.specs.Prelude.{◌≡◌, pos, false, true, List, [], ◌∷◌, Some, None, codes}
use Rattle.vocabulary.specs.declared.node_kind.NodeKind.TheVariants as kinds
use Rattle.meaning_tree.specs.Trees.{SyntaxTree, Node, NoParts}
use Rattle.meaning_typing.specs.Units.{UnitNodes}
use Rattle.meaning_typing.specs.Facts.{Fact, Unknown, Expression, Declared, DeclaredFact}
use Rattle.meaning_typing.specs.Declarators.{array_type}
use Rattle.meaning_typing.specs.Expressions.{string_place}
use Rattle.meaning_typing.specs.examples.Drawn.{address, declarator, int, named, nodes_from, number, over}
use Rattle.meaning_typing.specs.examples.Told.{static_place}
use Rattle.meaning_typing.specs.examples.Values as values
use Rattle.meaning_initializers.specs.Items.{Designator, MemberNamed, ElementAt, Initializer, Value, Braces, NoItems, Item}
use Rattle.meaning_initializers.specs.Reading.{initializer_at}
use Rattle.meaning_initializers.specs.Constants.{IsConstantLeaf}

-- `{ [1].a = "ab", { 6 } }`, of which the first `{` is at token 10: its index has handle 0, its designators 1 and 2, the string 3,
-- its item 4, the 6 within braces 5, and so on
abbrev pub list : SyntaxTree
list =
    over kinds.BracedInitializer 10
    (over kinds.InitializerItem 11
    (over kinds.IndexDesignator 11 (number 12 1 ∷ []) ∷ named kinds.MemberDesignator 14 (codes "a") 0 ∷ Node kinds.StringLiteral 17 [] 3 NoParts ∷ [])
    ∷ over kinds.InitializerItem 19 (over kinds.BracedInitializer 19 (over kinds.InitializerItem 20 (number 20 6 ∷ []) ∷ []) ∷ []) ∷ [])

abbrev pub facts_of_list : List Fact
facts_of_list =
    Expression (values.number (pos 1)) ∷ Unknown ∷ Unknown ∷ Expression (string_place 3) ∷ Unknown ∷ Expression (values.number (pos 6)) ∷ Unknown ∷ Unknown ∷ Unknown ∷ []

abbrev pub designators : List Designator
designators =
    record { handle = 1; token = 11; target = ElementAt (Expression (values.number (pos 1))) }
    ∷ record { handle = 2; token = 14; target = MemberNamed (codes "a") } ∷ []

abbrev pub first_item : Initializer
first_item = Value (record { handle = 3; token = 17; elements = Some 3; fact = Expression (string_place 3) })

abbrev pub inner_item : Initializer
inner_item = Value (record { handle = 5; token = 20; elements = None; fact = Expression (values.number (pos 6)) })

-- `&a[1]` of a static array a, whose declarator has handle 0; and `&p[1]` of a static pointer
abbrev pub element_nodes : UnitNodes
element_nodes =
    nodes_from 0
    (over kinds.TranslationUnit 0
    (declarator 2 (codes "a") [] ∷ address 5 (over kinds.Subscript 7 (named kinds.Name 6 (codes "a") 0 ∷ number 8 1 ∷ [])) ∷ []))

abbrev pub static_declaration : DeclaredFact
static_declaration =
    record { name = codes "a"; type_ = array_type int (Some 2); is_typedef = false; has_linkage = true; is_static = true; is_register = false }

abbrev pub element_facts : List Fact
element_facts =
    Declared static_declaration ∷ Expression (static_place (array_type int (Some 2))) ∷ Expression (values.number (pos 1))
    ∷ Expression (static_place int) ∷ Unknown ∷ []

pub record NodeExamples : Type 0 where
  pub read :
      initializer_at (nodes_from 0 list) facts_of_list 9
      ≡ Braces 9 10 (Item designators false first_item (Item [] false (Braces 7 19 (Item [] false inner_item NoItems)) NoItems))
  pub number : IsConstantLeaf element_nodes [] element_facts 2
  pub address_of_element : IsConstantLeaf element_nodes [] element_facts 4
