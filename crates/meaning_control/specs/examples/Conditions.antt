-- Worked examples: conditions, and the expressions that hand on what their part says.
use Rattle.std.specs.Prelude.{◌≡◌, pos, negsuc, codes, [], ◌∷◌}
use Rattle.vocabulary.specs.declared.node_kind.NodeKind.TheVariants as kinds
use Rattle.meaning_control.specs.examples.Drawn.{at, moment, adds, calls, ends, number, object, f, over, deciding, call_f, call_die, block, statement_expression, empty, expression, context, takes, initialized, declaration, item, paths, paths_with}

pub record ConditionExamples : Type 0 where
  -- if (a) __context__(1); else ; ;
  pub either :
      paths 13 (deciding kinds.IfStatement 1 (object 3) (context 5 1 ∷ empty 11 ∷ []) ∷ empty 12 ∷ [])
      ≡ (at 1 ∷ at 5 ∷ adds 5 (pos 1) ∷ at 12 ∷ at 13 ∷ ends 13 ∷ [])
      ∷ (at 1 ∷ at 11 ∷ at 12 ∷ at 13 ∷ ends 13 ∷ []) ∷ []
  -- if (a && b) ; else __context__(-2);  the second operand is passed where the first one is true
  pub both :
      paths 15
      (deciding kinds.IfStatement 1 (over kinds.LogicalAnd 4 (object 3 ∷ object 5 ∷ [])) (empty 7 ∷ takes 9 2 ∷ []) ∷ [])
      ≡ (at 1 ∷ at 7 ∷ at 15 ∷ ends 15 ∷ [])
      ∷ (at 1 ∷ at 9 ∷ adds 9 (negsuc 1) ∷ at 15 ∷ ends 15 ∷ [])
      ∷ (at 1 ∷ at 9 ∷ adds 9 (negsuc 1) ∷ at 15 ∷ ends 15 ∷ []) ∷ []
  -- if (a ?: b) __context__(1);
  pub without_middle :
      paths 13 (deciding kinds.IfStatement 1 (over kinds.Conditional 4 (object 3 ∷ object 6 ∷ [])) (context 8 1 ∷ []) ∷ [])
      ≡ (at 1 ∷ at 8 ∷ adds 8 (pos 1) ∷ at 13 ∷ ends 13 ∷ [])
      ∷ (at 1 ∷ at 8 ∷ adds 8 (pos 1) ∷ at 13 ∷ ends 13 ∷ [])
      ∷ (at 1 ∷ at 13 ∷ ends 13 ∷ []) ∷ []
  -- if (!a || (b, 0)) return 1;  a comma is left as its last part is, and 0 as false alone
  pub negated :
      paths 15
      (deciding kinds.IfStatement 1
      (over kinds.LogicalOr 5
      (over kinds.LogicalNot 3 (object 4 ∷ []) ∷ over kinds.Parenthesized 6 (over kinds.Comma 8 (object 7 ∷ number 9 0 ∷ []) ∷ []) ∷ []))
      (over kinds.ReturnStatement 12 (number 13 1 ∷ []) ∷ []) ∷ [])
      ≡ (at 1 ∷ at 15 ∷ ends 15 ∷ [])
      ∷ (at 1 ∷ at 12 ∷ moment 12 ∷ ends 12 ∷ []) ∷ []
  -- if (1 ? a : b) die();  the third operand is never passed
  pub constant :
      paths 13
      (deciding kinds.IfStatement 1 (over kinds.Conditional 4 (number 3 1 ∷ object 5 ∷ object 7 ∷ []))
      (expression 9 (call_die 10) ∷ []) ∷ [])
      ≡ (at 1 ∷ at 9 ∷ []) ∷ (at 1 ∷ at 13 ∷ ends 13 ∷ []) ∷ []
  -- if (({ if (a) __context__(1); b; })) ;  the last expression statement says how the whole is left
  pub of_statements :
      paths 20
      (deciding kinds.IfStatement 1
      (over kinds.Parenthesized 2
      (statement_expression 3 (deciding kinds.IfStatement 5 (object 7) (context 9 1 ∷ []) ∷ expression 14 (object 14) ∷ []) ∷ []))
      (empty 19 ∷ []) ∷ [])
      ≡ (at 1 ∷ at 5 ∷ at 9 ∷ adds 9 (pos 1) ∷ at 14 ∷ at 19 ∷ at 20 ∷ ends 20 ∷ [])
      ∷ (at 1 ∷ at 5 ∷ at 9 ∷ adds 9 (pos 1) ∷ at 14 ∷ at 20 ∷ ends 20 ∷ [])
      ∷ (at 1 ∷ at 5 ∷ at 14 ∷ at 19 ∷ at 20 ∷ ends 20 ∷ [])
      ∷ (at 1 ∷ at 5 ∷ at 14 ∷ at 20 ∷ ends 20 ∷ []) ∷ []
  -- if (__builtin_expect(a, f(b))) ; b = __builtin_expect(a, b);
  pub expected :
      paths 23
      (deciding kinds.IfStatement 1 (over kinds.BuiltinExpect 3 (object 5 ∷ call_f 8 ∷ [])) (empty 13 ∷ [])
      ∷ expression 14 (over kinds.Assignment 15 (object 14 ∷ over kinds.BuiltinExpect 16 (object 18 ∷ object 20 ∷ []) ∷ [])) ∷ [])
      ≡ (at 1 ∷ at 8 ∷ calls 8 ∷ at 13 ∷ at 14 ∷ at 23 ∷ ends 23 ∷ [])
      ∷ (at 1 ∷ at 8 ∷ calls 8 ∷ at 14 ∷ at 23 ∷ ends 23 ∷ []) ∷ []
  -- if (sizeof(f(a)) == 4) ; else __context__(1);  nothing is passed of what isn't evaluated, and the whole is constant
  pub measured :
      paths_with ((10, pos 1) ∷ []) 40 20
      (deciding kinds.IfStatement 1 (over kinds.Equal 10 (over kinds.SizeofType 3 [] ∷ number 11 4 ∷ [])) (empty 13 ∷ context 15 1 ∷ []) ∷ [])
      ≡ (at 1 ∷ at 13 ∷ at 20 ∷ ends 20 ∷ []) ∷ []

pub record ValueExamples : Type 0 where
  -- b = a && f(1);  whether a is true decides in a value too
  pub stored :
      paths 10
      (expression 1 (over kinds.Assignment 2 (object 1 ∷ over kinds.LogicalAnd 4 (object 3 ∷ call_f 6 ∷ []) ∷ [])) ∷ [])
      ≡ (at 1 ∷ at 6 ∷ calls 6 ∷ at 10 ∷ ends 10 ∷ [])
      ∷ (at 1 ∷ at 10 ∷ ends 10 ∷ []) ∷ []
  -- f((f(a), ({ ; 1; })));  a call is passed behind its arguments
  pub arguments :
      paths 19
      (expression 1
      (over kinds.Call 2
      (f 1
      ∷ over kinds.Parenthesized 3 (over kinds.Comma 8 (call_f 5 ∷ statement_expression 9 (empty 11 ∷ expression 12 (number 12 1) ∷ []) ∷ []) ∷ [])
      ∷ [])) ∷ [])
      ≡ (at 1 ∷ at 5 ∷ calls 5 ∷ at 11 ∷ at 12 ∷ at 2 ∷ calls 2 ∷ at 19 ∷ ends 19 ∷ []) ∷ []
  -- (f)(a); (*f)(a);  the second is no call by name
  pub by_name :
      paths 28
      (expression 13 (over kinds.Call 16 (over kinds.Parenthesized 13 (f 14 ∷ []) ∷ object 17 ∷ []))
      ∷ expression 20 (over kinds.Call 24 (over kinds.Parenthesized 20 (over kinds.Indirection 21 (f 22 ∷ []) ∷ []) ∷ object 25 ∷ [])) ∷ [])
      ≡ (at 13 ∷ at 16 ∷ calls 16 ∷ at 20 ∷ at 28 ∷ ends 28 ∷ []) ∷ []
  -- { { } int d = f(a); _Static_assert(1, ""); }  of a declaration the initializer is passed, which is no point
  pub declared :
      paths 20 (block 1 19 (block 2 3 [] ∷ declaration 4 (call_f 8) ∷ over kinds.StaticAssertion 12 [] ∷ []) ∷ [])
      ≡ (at 1 ∷ at 2 ∷ at 8 ∷ calls 8 ∷ at 20 ∷ ends 20 ∷ []) ∷ []
  -- if (f(a)) ;
  pub tested :
      paths 9 (deciding kinds.IfStatement 1 (call_f 4) (empty 8 ∷ []) ∷ [])
      ≡ (at 1 ∷ at 4 ∷ calls 4 ∷ at 8 ∷ at 9 ∷ ends 9 ∷ []) ∷ (at 1 ∷ at 4 ∷ calls 4 ∷ at 9 ∷ ends 9 ∷ []) ∷ []
  -- static int s = f(a); ;  the initializer of a static object is passed by nobody
  pub static : paths 11 (initialized 4 (codes "s") (call_f 6) ∷ empty 10 ∷ []) ≡ (at 10 ∷ at 11 ∷ ends 11 ∷ []) ∷ []
  -- int d[] = { [1] = f(a), [0] = f(a) };  in the order of the text
  pub listed :
      paths 26 (declaration 5 (over kinds.BracedInitializer 6 (item 7 (call_f 12) ∷ item 16 (call_f 21) ∷ [])) ∷ [])
      ≡ (at 12 ∷ calls 12 ∷ at 21 ∷ calls 21 ∷ at 26 ∷ ends 26 ∷ []) ∷ []
  -- &*f(a);
  pub addressed :
      paths 8 (expression 1 (over kinds.Address 1 (over kinds.Indirection 2 (call_f 4 ∷ []) ∷ [])) ∷ [])
      ≡ (at 1 ∷ at 4 ∷ calls 4 ∷ at 8 ∷ ends 8 ∷ []) ∷ []
