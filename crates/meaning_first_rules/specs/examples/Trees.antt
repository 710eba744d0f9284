-- Worked examples: what single expressions and declarations are read, write, convert and bind, in a small scope.
use Rattle.std.specs.Prelude.{◌≡◌, true, List, [], ◌∷◌, ◌++◌, Some, None, codes}
use Rattle.meaning_types.specs.Types.{NoSpace, NamedSpace, NumberedSpace, Flags, no_flags, TypeTree}
use Rattle.vocabulary.specs.declared.node_kind.NodeKind.TheVariants.{Declaration, Specifiers, ExternSpecifier, IntSpecifier, AttributeList, NoderefAttribute, AddressSpaceAttribute, ExpressionStatement}
use Rattle.vocabulary.specs.declared.role.Role.TheVariants.{Evaluated, Condition, TypePart, Unevaluated}
use Rattle.meaning_tree.specs.Trees.{SyntaxTree, Node, NoParts, Part, parts_of}
use Rattle.meaning_syntax.specs.Items.{Noderef, AddressSpace, Assign, Object}
use Rattle.meaning_syntax.specs.Trees.{plain_node, leaf, one_part, two_parts, name_tree, assignment_tree, indirection_tree, address_tree, declarator_tree, object_tree, function_declarator, function_tree, unit_tree}
use Rattle.meaning_first_rules.specs.Bindings.{Binding, pointer_to, bindings_of, type_in}
use Rattle.meaning_first_rules.specs.Expressions.{no_fact, fact_of}
use Rattle.meaning_first_rules.specs.Evaluation.{ForValue, InAssignment, accesses_of, conversions_of, accesses_in}
use Rattle.meaning_first_rules.specs.Typing.{int_with}
use Rattle.meaning_first_rules.specs.examples.Failures.{function_of}

-- the flags that `__attribute__((noderef))` gives
abbrev pub only_noderef : Flags
only_noderef = record { noderef = true; space = NoSpace }

abbrev pub plain : TypeTree
plain = int_with no_flags

abbrev pub flagged_int : TypeTree
flagged_int = int_with only_noderef

-- `extern int __attribute__((noderef)) *p; extern int *q; extern int x; void f(void) { }`
abbrev pub small_scope : List Binding
small_scope =
    record { name = codes "p"; object = Some (pointer_to flagged_int) }
    ∷ record { name = codes "q"; object = Some (pointer_to plain) }
    ∷ record { name = codes "x"; object = Some plain }
    ∷ record { name = codes "f"; object = None }
    ∷ []

-- `q = &*p`
abbrev pub address_behind : SyntaxTree
address_behind = assignment_tree 1 (name_tree 0 (codes "q")) (address_tree 2 (indirection_tree 3 (name_tree 4 (codes "p"))))

pub record ExpressionExamples : Type 0 where
  -- `*p = x`: a store through the pointer, a load of the pointer, a load of the source
  pub through :
      accesses_of small_scope ForValue (assignment_tree 2 (indirection_tree 0 (name_tree 1 (codes "p"))) (name_tree 3 (codes "x")))
      ≡ record { token = 0; place = flagged_int } ∷ record { token = 1; place = pointer_to flagged_int } ∷ record { token = 3; place = plain } ∷ []
  -- `q = &x` loads nothing
  pub address :
      accesses_of small_scope ForValue (assignment_tree 1 (name_tree 0 (codes "q")) (address_tree 2 (name_tree 3 (codes "x"))))
      ≡ record { token = 0; place = pointer_to plain } ∷ []
  -- `&*p` loads the pointer, and not what it points to
  pub address_behind_pointer :
      accesses_of small_scope ForValue address_behind
      ≡ record { token = 0; place = pointer_to plain } ∷ record { token = 4; place = pointer_to flagged_int } ∷ []
  -- and the address keeps the flags of the place
  pub address_converted :
      conversions_of small_scope address_behind
      ≡ record { token = 1; position = InAssignment; to = pointer_to plain; from = pointer_to flagged_int } ∷ []
  -- `*p = x`: the value becomes one of the place's type
  pub store_converted :
      conversions_of small_scope (assignment_tree 2 (indirection_tree 0 (name_tree 1 (codes "p"))) (name_tree 3 (codes "x")))
      ≡ record { token = 2; position = InAssignment; to = flagged_int; from = plain } ∷ []
  -- `x = *p`: a value that is loaded has no flags
  pub value_converted :
      conversions_of small_scope (assignment_tree 1 (name_tree 0 (codes "x")) (indirection_tree 2 (name_tree 3 (codes "p"))))
      ≡ record { token = 1; position = InAssignment; to = plain; from = plain } ∷ []
  -- a function is no object, and `*x` points nowhere
  pub function : fact_of small_scope (name_tree 0 (codes "f")) ≡ no_fact
  pub number : fact_of small_scope (indirection_tree 0 (name_tree 1 (codes "x"))) ≡ no_fact
  -- an assignment is no place, and its value has the type of the left side, without the flags of that place
  pub assignment :
      fact_of small_scope (assignment_tree 1 (name_tree 0 (codes "p")) (name_tree 2 (codes "q")))
      ≡ record { place = None; value = Some (pointer_to flagged_int) }
  pub assignment_to_flagged :
      fact_of small_scope (assignment_tree 2 (indirection_tree 0 (name_tree 1 (codes "p"))) (name_tree 3 (codes "x")))
      ≡ record { place = None; value = Some plain }
  -- a condition is evaluated; a part of a type isn't, and neither is a part that is said not to be
  pub condition :
      accesses_of small_scope ForValue (Node ExpressionStatement 0 [] 0 (Part Condition (name_tree 0 (codes "x")) NoParts))
      ≡ record { token = 0; place = plain } ∷ []
  pub type_part : accesses_of small_scope ForValue (Node ExpressionStatement 0 [] 0 (Part TypePart (name_tree 0 (codes "x")) NoParts)) ≡ []
  pub unevaluated : accesses_of small_scope ForValue (Node ExpressionStatement 0 [] 0 (Part Unevaluated (name_tree 0 (codes "x")) NoParts)) ≡ []

-- `extern int __attribute__((noderef)) __attribute__((address_space(4))) r, *s, t;`
abbrev pub lists_and_declarators_tree : SyntaxTree
lists_and_declarators_tree =
    plain_node Declaration 0
    (Part TypePart
    (plain_node Specifiers 0
    (parts_of TypePart
    (leaf ExternSpecifier 0
    ∷ leaf IntSpecifier 1
    ∷ plain_node AttributeList 2 (parts_of TypePart (leaf NoderefAttribute 5 ∷ []))
    ∷ plain_node AttributeList 8 (parts_of TypePart (Node AddressSpaceAttribute 11 [] 4 NoParts ∷ []))
    ∷ [])))
    (parts_of Evaluated (declarator_tree 17 0 (codes "r") ∷ declarator_tree 19 1 (codes "s") ∷ declarator_tree 22 0 (codes "t") ∷ [])))

-- `int` with the flags of both lists
abbrev pub flagged_by_both : TypeTree
flagged_by_both = int_with (record { noderef = true; space = NumberedSpace 4 })

-- `extern int g(void);`
abbrev pub function_declaration : SyntaxTree
function_declaration =
    plain_node Declaration 0
    (Part TypePart (plain_node Specifiers 0 (parts_of TypePart (leaf ExternSpecifier 0 ∷ leaf IntSpecifier 1 ∷ [])))
    (one_part (function_declarator 2 (codes "g"))))

-- `extern int __attribute__((noderef)) x; extern int x; void f(void) { x = x; }`
abbrev pub twice_declared : SyntaxTree
twice_declared =
    unit_tree
    (Object (Noderef ∷ []) 0 (codes "x") ∷ Object [] 0 (codes "x") ∷ function_of (Assign (codes "x") (codes "x") ∷ []) ∷ [])

pub record DeclarationExamples : Type 0 where
  -- `extern int **r;`
  pub stars : bindings_of (object_tree 0 [] 2 (codes "r")) ≡ record { name = codes "r"; object = Some (pointer_to (pointer_to plain)) } ∷ []
  -- `extern int __attribute__((address_space(1), noderef, address_space(__user))) *r;`: the later space counts
  pub spaces :
      bindings_of (object_tree 0 (AddressSpace (codes "1") ∷ Noderef ∷ AddressSpace (codes "__user") ∷ []) 1 (codes "r"))
      ≡ record { name = codes "r"; object = Some (pointer_to (int_with (record { noderef = true; space = NamedSpace (codes "__user") }))) } ∷ []
  -- `extern int __attribute__((address_space(12))) r;`
  pub number :
      bindings_of (object_tree 0 (AddressSpace (codes "12") ∷ []) 0 (codes "r"))
      ≡ record { name = codes "r"; object = Some (int_with (record no_flags { space = NumberedSpace 12 })) } ∷ []
  pub function : bindings_of (function_tree 0 (codes "f") []) ≡ record { name = codes "f"; object = None } ∷ []
  -- what returns an int is no int
  pub function_of_int : bindings_of function_declaration ≡ record { name = codes "g"; object = None } ∷ []
  -- without specifiers nothing is bound
  pub no_specifiers : bindings_of (plain_node Declaration 0 (two_parts (leaf IntSpecifier 0) (declarator_tree 1 0 (codes "r")))) ≡ []
  -- each list adds its flags, and each declarator a name with its own stars
  pub lists_and_declarators :
      bindings_of lists_and_declarators_tree
      ≡ record { name = codes "r"; object = Some flagged_by_both }
      ∷ record { name = codes "s"; object = Some (pointer_to flagged_by_both) }
      ∷ record { name = codes "t"; object = Some flagged_by_both }
      ∷ []
  -- a name with two declarations has the type of the first
  pub first_declaration :
      type_in (small_scope ++ record { name = codes "x"; object = Some (pointer_to plain) } ∷ []) (codes "x") ≡ Some plain
  pub first_declaration_accessed :
      accesses_in twice_declared ≡ record { token = 20; place = flagged_int } ∷ record { token = 22; place = flagged_int } ∷ []
