-- Worked examples: loops, switches and jumps.
use Rattle.std.specs.Prelude.{◌≡◌, ℕ, pos, codes, [], ◌∷◌}
use Rattle.vocabulary.specs.declared.node_kind.NodeKind.TheVariants as kinds
use Rattle.meaning_tree.specs.Trees.{SyntaxTree}
use Rattle.meaning_control.specs.examples.Drawn.{at, moment, adds, calls, ends, number, object, over, deciding, call_f, call_die, block, statement_expression, empty, expression, context, case, do_loop, for_loop, omitted, label, goto, declaration, paths, paths_with}

abbrev pub default : ℕ → SyntaxTree → SyntaxTree
default token statement = over kinds.DefaultStatement token (statement ∷ [])

abbrev pub break : ℕ → SyntaxTree
break token = over kinds.BreakStatement token []

pub record LoopExamples : Type 0 where
  -- while (a) __context__(1);  over two turns
  pub turns :
      paths_with [] 10 10 (deciding kinds.WhileStatement 1 (object 3) (context 5 1 ∷ []) ∷ [])
      ≡ (at 1 ∷ moment 1 ∷ at 5 ∷ adds 5 (pos 1) ∷ moment 1 ∷ at 5 ∷ adds 5 (pos 1) ∷ moment 1 ∷ at 5 ∷ adds 5 (pos 1) ∷ moment 1 ∷ [])
      ∷ (at 1 ∷ moment 1 ∷ at 5 ∷ adds 5 (pos 1) ∷ moment 1 ∷ at 5 ∷ adds 5 (pos 1) ∷ moment 1 ∷ at 10 ∷ ends 10 ∷ [])
      ∷ (at 1 ∷ moment 1 ∷ at 5 ∷ adds 5 (pos 1) ∷ moment 1 ∷ at 10 ∷ ends 10 ∷ [])
      ∷ (at 1 ∷ moment 1 ∷ at 10 ∷ ends 10 ∷ []) ∷ []
  -- do __context__(1); while (0);
  pub once :
      paths 12 (do_loop 1 7 (context 2 1) (number 9 0) ∷ [])
      ≡ (at 1 ∷ at 2 ∷ adds 2 (pos 1) ∷ moment 7 ∷ at 12 ∷ ends 12 ∷ []) ∷ []
  -- while (0) ; for (; 0; ) ; for (;;) break;  there is no point before a condition that isn't there
  pub never :
      paths 20
      (deciding kinds.WhileStatement 1 (number 3 0) (empty 5 ∷ [])
      ∷ for_loop 6 omitted (number 9 0) omitted (empty 12)
      ∷ for_loop 13 omitted omitted omitted (break 18) ∷ [])
      ≡ (at 1 ∷ moment 1 ∷ at 6 ∷ moment 6 ∷ at 13 ∷ at 18 ∷ at 20 ∷ ends 20 ∷ []) ∷ []
  -- for (int i = f(a); 1; a++) { if (a) break; return 0; }
  pub left :
      paths 27
      (for_loop 1 (declaration 3 (call_f 7)) (number 11 1) (over kinds.PostIncrement 14 (object 13 ∷ []))
      (block 16 26 (deciding kinds.IfStatement 17 (object 19) (break 21 ∷ []) ∷ over kinds.ReturnStatement 23 (number 24 0 ∷ []) ∷ [])) ∷ [])
      ≡ (at 1 ∷ at 7 ∷ calls 7 ∷ moment 1 ∷ at 16 ∷ at 17 ∷ at 21 ∷ at 27 ∷ ends 27 ∷ [])
      ∷ (at 1 ∷ at 7 ∷ calls 7 ∷ moment 1 ∷ at 16 ∷ at 17 ∷ at 23 ∷ moment 23 ∷ ends 23 ∷ []) ∷ []
  -- while (1) { if (a) die(); return f(a); }  nothing is passed behind a call that doesn't return
  pub dies :
      paths 21
      (deciding kinds.WhileStatement 1 (number 3 1)
      (block 5 20 (deciding kinds.IfStatement 6 (object 8) (expression 10 (call_die 11) ∷ []) ∷ over kinds.ReturnStatement 14 (call_f 16 ∷ []) ∷ []) ∷ []) ∷ [])
      ≡ (at 1 ∷ moment 1 ∷ at 5 ∷ at 6 ∷ at 10 ∷ [])
      ∷ (at 1 ∷ moment 1 ∷ at 5 ∷ at 6 ∷ at 14 ∷ at 16 ∷ calls 16 ∷ moment 14 ∷ ends 14 ∷ []) ∷ []
  -- do { if (a) continue; break; } while (0);
  pub continued :
      paths 17
      (do_loop 1 12 (block 2 11 (deciding kinds.IfStatement 3 (object 5) (over kinds.ContinueStatement 7 [] ∷ []) ∷ break 9 ∷ [])) (number 14 0) ∷ [])
      ≡ (at 1 ∷ at 2 ∷ at 3 ∷ at 7 ∷ moment 12 ∷ at 17 ∷ ends 17 ∷ [])
      ∷ (at 1 ∷ at 2 ∷ at 3 ∷ at 9 ∷ at 17 ∷ ends 17 ∷ []) ∷ []
  -- for (; a; f(a)) continue;  it goes on with the last expression
  pub stepped :
      paths_with [] 10 13 (for_loop 1 omitted (object 4) (call_f 7) (over kinds.ContinueStatement 11 []) ∷ [])
      ≡ (at 1 ∷ moment 1 ∷ at 11 ∷ at 7 ∷ calls 7 ∷ moment 1 ∷ at 11 ∷ [])
      ∷ (at 1 ∷ moment 1 ∷ at 11 ∷ at 7 ∷ calls 7 ∷ moment 1 ∷ at 13 ∷ ends 13 ∷ [])
      ∷ (at 1 ∷ moment 1 ∷ at 13 ∷ ends 13 ∷ []) ∷ []
  -- while (a) { for (; ({ if (b) break; 1; }); ) ; }  a `break` in a condition leaves the loop around
  pub in_condition :
      paths_with [] 10 25
      (deciding kinds.WhileStatement 1 (object 3)
      (block 5 24
      (for_loop 6 omitted
      (statement_expression 9 (deciding kinds.IfStatement 11 (object 13) (break 15 ∷ []) ∷ expression 17 (number 17 1) ∷ []))
      omitted (empty 23) ∷ []) ∷ []) ∷ [])
      ≡ (at 1 ∷ moment 1 ∷ at 5 ∷ at 6 ∷ moment 6 ∷ at 11 ∷ at 15 ∷ at 25 ∷ ends 25 ∷ [])
      ∷ (at 1 ∷ moment 1 ∷ at 5 ∷ at 6 ∷ moment 6 ∷ at 11 ∷ at 17 ∷ [])
      ∷ (at 1 ∷ moment 1 ∷ at 25 ∷ ends 25 ∷ []) ∷ []

pub record SwitchExamples : Type 0 where
  -- switch (a) { ; case 1: case 2: __context__(1); break; default: ; }  neither the `{` nor what stands before a label is passed
  pub cases :
      paths 24
      (deciding kinds.SwitchStatement 1 (object 3)
      (block 5 23 (empty 6 ∷ case 7 1 (case 10 2 (context 13 1)) ∷ break 18 ∷ default 20 (empty 22) ∷ []) ∷ []) ∷ [])
      ≡ (at 1 ∷ at 7 ∷ at 10 ∷ at 13 ∷ adds 13 (pos 1) ∷ at 18 ∷ at 24 ∷ ends 24 ∷ [])
      ∷ (at 1 ∷ at 10 ∷ at 13 ∷ adds 13 (pos 1) ∷ at 18 ∷ at 24 ∷ ends 24 ∷ [])
      ∷ (at 1 ∷ at 20 ∷ at 22 ∷ at 24 ∷ ends 24 ∷ []) ∷ []
  -- switch (a) case 1: ;  without a default also past it
  pub past :
      paths 9 (deciding kinds.SwitchStatement 1 (object 3) (case 5 1 (empty 8) ∷ []) ∷ [])
      ≡ (at 1 ∷ at 5 ∷ at 8 ∷ at 9 ∷ ends 9 ∷ []) ∷ (at 1 ∷ at 9 ∷ ends 9 ∷ []) ∷ []
  -- switch (2) { case 1: ; case 2: ; }
  pub constant :
      paths 15
      (deciding kinds.SwitchStatement 1 (number 3 2) (block 5 14 (case 6 1 (empty 9) ∷ case 10 2 (empty 13) ∷ []) ∷ []) ∷ [])
      ≡ (at 1 ∷ at 10 ∷ at 13 ∷ at 15 ∷ ends 15 ∷ []) ∷ []
  -- the same of 3, which is past it, and of 3 with a default
  pub constant_past :
      paths 15
      (deciding kinds.SwitchStatement 1 (number 3 3) (block 5 14 (case 6 1 (empty 9) ∷ case 10 2 (empty 13) ∷ []) ∷ []) ∷ [])
      ≡ (at 1 ∷ at 15 ∷ ends 15 ∷ []) ∷ []
  pub constant_default :
      paths 15
      (deciding kinds.SwitchStatement 1 (number 3 3) (block 5 14 (default 6 (empty 9) ∷ case 10 2 (empty 13) ∷ []) ∷ []) ∷ [])
      ≡ (at 1 ∷ at 6 ∷ at 9 ∷ at 10 ∷ at 13 ∷ at 15 ∷ ends 15 ∷ []) ∷ []
  -- switch (a) { case 1: ; switch (b) { case 2: ; } }  a switch goes to its own labels
  pub inner :
      paths 21
      (deciding kinds.SwitchStatement 1 (object 3)
      (block 5 20 (case 6 1 (empty 9) ∷ deciding kinds.SwitchStatement 10 (object 12) (block 14 19 (case 15 2 (empty 18) ∷ []) ∷ []) ∷ []) ∷ []) ∷ [])
      ≡ (at 1 ∷ at 6 ∷ at 9 ∷ at 10 ∷ at 15 ∷ at 18 ∷ at 21 ∷ ends 21 ∷ [])
      ∷ (at 1 ∷ at 6 ∷ at 9 ∷ at 10 ∷ at 21 ∷ ends 21 ∷ [])
      ∷ (at 1 ∷ at 21 ∷ ends 21 ∷ []) ∷ []
  -- while (a) { switch (b) { case 1: continue; case 2: break; } return; }  `break` leaves the switch, `continue` goes on in the loop
  pub in_loop :
      paths_with [] 12 25
      (deciding kinds.WhileStatement 1 (object 3)
      (block 5 24
      (deciding kinds.SwitchStatement 6 (object 8)
      (block 10 21 (case 11 1 (over kinds.ContinueStatement 14 []) ∷ case 16 2 (break 19) ∷ default 20 (break 20) ∷ []) ∷ [])
      ∷ over kinds.ReturnStatement 22 [] ∷ []) ∷ []) ∷ [])
      ≡ (at 1 ∷ moment 1 ∷ at 5 ∷ at 6 ∷ at 11 ∷ at 14 ∷ moment 1 ∷ at 5 ∷ at 6 ∷ [])
      ∷ (at 1 ∷ moment 1 ∷ at 5 ∷ at 6 ∷ at 11 ∷ at 14 ∷ moment 1 ∷ at 25 ∷ ends 25 ∷ [])
      ∷ (at 1 ∷ moment 1 ∷ at 5 ∷ at 6 ∷ at 16 ∷ at 19 ∷ at 22 ∷ moment 22 ∷ ends 22 ∷ [])
      ∷ (at 1 ∷ moment 1 ∷ at 5 ∷ at 6 ∷ at 20 ∷ at 20 ∷ at 22 ∷ moment 22 ∷ ends 22 ∷ [])
      ∷ (at 1 ∷ moment 1 ∷ at 25 ∷ ends 25 ∷ []) ∷ []

pub record JumpExamples : Type 0 where
  -- x: y: __attribute__((unused)); goto z; ; z: ;
  pub over_statements :
      paths 19
      (label 1 (codes "x") (label 3 (codes "y") (over kinds.AttributeStatement 5 []))
      ∷ goto 12 (codes "z") ∷ empty 15 ∷ label 16 (codes "z") (empty 18) ∷ [])
      ≡ (at 1 ∷ at 3 ∷ at 5 ∷ at 12 ∷ at 16 ∷ at 18 ∷ at 19 ∷ ends 19 ∷ []) ∷ []
  -- return ({ if (a) goto out; f(a); }); out: ;  out of a statement expression
  pub outward :
      paths 22
      (over kinds.ReturnStatement 1
      (statement_expression 2 (deciding kinds.IfStatement 4 (object 6) (goto 8 (codes "out") ∷ []) ∷ expression 11 (call_f 12) ∷ []) ∷ [])
      ∷ label 19 (codes "out") (empty 21) ∷ [])
      ≡ (at 1 ∷ at 4 ∷ at 8 ∷ at 19 ∷ at 21 ∷ at 22 ∷ ends 22 ∷ [])
      ∷ (at 1 ∷ at 4 ∷ at 11 ∷ at 12 ∷ calls 12 ∷ moment 1 ∷ ends 1 ∷ []) ∷ []
  -- goto z; ({ z: ; 1; }); z: ;  none goes into a statement expression that isn't around it
  pub not_inward :
      paths 20
      (goto 1 (codes "z") ∷ expression 4 (statement_expression 4 (label 6 (codes "z") (empty 8) ∷ expression 9 (number 9 1) ∷ []))
      ∷ label 14 (codes "z") (empty 16) ∷ [])
      ≡ (at 1 ∷ at 14 ∷ at 16 ∷ at 20 ∷ ends 20 ∷ []) ∷ []
  -- if (__builtin_expect(a, ({ if (b) goto x; __context__(1); x: ; 2; }))) ;  what is expected is passed behind either outcome
  pub behind_both :
      paths 31
      (deciding kinds.IfStatement 1
      (over kinds.BuiltinExpect 3
      (object 5
      ∷ statement_expression 7
      (deciding kinds.IfStatement 9 (object 11) (goto 13 (codes "x") ∷ []) ∷ context 16 1 ∷ label 21 (codes "x") (empty 23) ∷ expression 24 (number 24 2) ∷ [])
      ∷ []))
      (empty 30 ∷ []) ∷ [])
      ≡ (at 1 ∷ at 9 ∷ at 13 ∷ at 21 ∷ at 23 ∷ at 24 ∷ at 30 ∷ at 31 ∷ ends 31 ∷ [])
      ∷ (at 1 ∷ at 9 ∷ at 16 ∷ adds 16 (pos 1) ∷ at 21 ∷ at 23 ∷ at 24 ∷ at 30 ∷ at 31 ∷ ends 31 ∷ [])
      ∷ (at 1 ∷ at 9 ∷ at 13 ∷ at 21 ∷ at 23 ∷ at 24 ∷ at 31 ∷ ends 31 ∷ [])
      ∷ (at 1 ∷ at 9 ∷ at 16 ∷ adds 16 (pos 1) ∷ at 21 ∷ at 23 ∷ at 24 ∷ at 31 ∷ ends 31 ∷ []) ∷ []
  -- switch (a) { case 1: ({ goto z; z: ; 1; }); default: return 2; } y: ;
  pub within :
      paths 31
      (deciding kinds.SwitchStatement 1 (object 3)
      (block 5 27
      (case 6 1 (expression 9 (statement_expression 9 (goto 11 (codes "z") ∷ label 14 (codes "z") (empty 16) ∷ expression 17 (number 17 1) ∷ [])))
      ∷ default 22 (over kinds.ReturnStatement 24 (number 25 2 ∷ [])) ∷ []) ∷ [])
      ∷ label 28 (codes "y") (empty 30) ∷ [])
      ≡ (at 1 ∷ at 6 ∷ at 9 ∷ at 11 ∷ at 14 ∷ at 16 ∷ at 17 ∷ at 22 ∷ at 24 ∷ moment 24 ∷ ends 24 ∷ [])
      ∷ (at 1 ∷ at 22 ∷ at 24 ∷ moment 24 ∷ ends 24 ∷ []) ∷ []
