-- Worked examples: what jumps and labels belong to, and what they break, as one can tell by eye.
use Rattle.std.specs.Prelude.{◌≡◌, ℕ, List, [], ◌∷◌, codes, Option, Some, None}
use Rattle.vocabulary.specs.declared.error_kind.ErrorKind.TheVariants.{CaseValueUsedTwice, JumpIntoStatementExpression, JumpOutsideLoop, LabelDefinedTwice, LabelIsNotDefined, LabelOutsideSwitch, TwoDefaultLabels}
use Rattle.meaning_tree.specs.Trees.{SyntaxTree}
use Rattle.meaning_typing.specs.Rows.{breaks_at, breaks_named}
use Rattle.meaning_typing.specs.Building.{surroundings_of}
use Rattle.meaning_typing.specs.examples.Drawn.{i, in_body, number, u}
use Rattle.meaning_statements.specs.Jumps.{label_of, labels_of, loop_continued, statement_left}
use Rattle.meaning_statements.specs.examples.Drawn.{braces, break, breaking, broken_of, case, continue, default, do_loop, empty, endless, expression, goto, inner, inner_statement, labelled, omitted, outside, return, switch, while_loop}

-- the first node of the body has handle 43

abbrev pub left_by : (jump : ℕ) → List SyntaxTree → Option ℕ
left_by jump statements = statement_left (in_body statements) (surroundings_of (in_body statements)) jump

abbrev pub continued_by : (jump : ℕ) → List SyntaxTree → Option ℕ
continued_by jump statements = loop_continued (in_body statements) (surroundings_of (in_body statements)) jump

abbrev pub reached_by : (jump : ℕ) → List SyntaxTree → Option ℕ
reached_by jump statements = label_of (in_body statements) (surroundings_of (in_body statements)) jump

abbrev pub labels_in : (statement : ℕ) → List SyntaxTree → List ℕ
labels_in statement statements = labels_of (in_body statements) (surroundings_of (in_body statements)) statement

abbrev pub out : List ℕ
out = codes "out"

-- `while (i) switch (i) break;`: `i` and `i` are 43 and 44, `break` is 45, the switch 46, the loop 47
abbrev pub switch_in_loop : SyntaxTree → List SyntaxTree
switch_in_loop jump = while_loop 33 (i 35) (switch 37 (i 39) jump) ∷ []

pub record TargetExamples : Type 0 where
  pub left : left_by 45 (switch_in_loop (break 41)) ≡ Some 46
  pub continued : continued_by 45 (switch_in_loop (continue 41)) ≡ Some 47
  -- `while (i) while (({ break; 1; })) ;`: `break` is 44, the outer loop 51
  pub in_condition : left_by 44 (while_loop 33 (i 35) (while_loop 37 (inner 39 (break 41 ∷ expression 43 (number 43 1) ∷ [])) (empty 48)) ∷ []) ≡ Some 51
  -- `for (;; ({ break; })) ;` at once, and in its body: `break` is 45 and 46
  pub in_step : left_by 45 (endless 33 (inner 37 (break 39 ∷ [])) (empty 44) ∷ []) ≡ None
  pub in_body_of_for : left_by 46 (endless 33 (omitted 37) (break 38) ∷ []) ≡ Some 47
  -- `do break; while (i);`: `break` is 43, the loop 45
  pub in_do : left_by 43 (do_loop 33 (break 34) (i 38) ∷ []) ≡ Some 45
  -- `goto out; out: ;`: `goto` is 43, the label 45; and of two labels the first one
  pub reached : reached_by 43 (goto 33 out ∷ labelled 36 out (empty 38) ∷ []) ≡ Some 45
  pub first : reached_by 43 (goto 33 out ∷ labelled 36 out (labelled 38 out (empty 40)) ∷ []) ≡ Some 46
  pub none : reached_by 43 (goto 33 out ∷ labelled 36 (codes "in") (empty 38) ∷ []) ≡ None
  -- `switch (i) { case 1: case 2: ; default: ; }`: the cases are 48 and 47, `default` is 50, the switch 52; and of a switch in it none
  pub labels : labels_in 52 (switch 33 (i 35) (braces 37 (case 38 1 (case 41 2 (empty 44)) ∷ default 45 (empty 47) ∷ [])) ∷ []) ≡ 48 ∷ 47 ∷ 50 ∷ []
  pub other_labels : labels_in 48 (switch 33 (i 35) (switch 37 (i 39) (case 41 1 (empty 44))) ∷ []) ≡ 47 ∷ []
  pub no_labels : labels_in 49 (switch 33 (i 35) (switch 37 (i 39) (case 41 1 (empty 44))) ∷ []) ≡ []

pub record SwitchExamples : Type 0 where
  -- `case 1: ;`, `while (i) default: ;` and `switch (i) case 1: ;`
  pub case_outside : breaking (case 33 1 (empty 36) ∷ []) ≡ breaks_at LabelOutsideSwitch 33
  pub default_outside : breaking (while_loop 33 (i 35) (default 37 (empty 39)) ∷ []) ≡ breaks_at LabelOutsideSwitch 37
  pub in_switch : breaking (switch 33 (i 35) (case 37 1 (empty 40)) ∷ []) ≡ []
  -- `switch (i) { case 1: ; case 1: ; }`, and `case 1: case 1: ;`, of which the inner one is read first
  pub twice : breaking (switch 33 (i 35) (braces 37 (case 38 1 (empty 41) ∷ case 42 1 (empty 45) ∷ [])) ∷ []) ≡ breaks_at CaseValueUsedTwice 43
  pub one_in_another : breaking (switch 33 (i 35) (case 37 1 (case 40 1 (empty 43))) ∷ []) ≡ breaks_at CaseValueUsedTwice 41
  -- 1, 1 and 1: each but the first
  pub three_times :
      breaking (switch 33 (i 35) (braces 37 (case 38 1 (case 41 1 (empty 44)) ∷ case 45 1 (empty 48) ∷ [])) ∷ [])
      ≡ record { constraint = CaseValueUsedTwice; token = 42; name = [] } ∷ record { constraint = CaseValueUsedTwice; token = 46; name = [] } ∷ []
  -- other numbers, and the same number in a switch within
  pub others : breaking (switch 33 (i 35) (braces 37 (case 38 1 (empty 41) ∷ case 42 2 (empty 45) ∷ [])) ∷ []) ≡ []
  pub in_another : breaking (switch 33 (i 35) (case 37 1 (switch 40 (i 42) (case 44 1 (empty 47)))) ∷ []) ≡ []
  -- `default: ; default: ;`, and one in each of two
  pub two_defaults : breaking (switch 33 (i 35) (braces 37 (default 38 (empty 40) ∷ default 41 (empty 43) ∷ [])) ∷ []) ≡ breaks_at TwoDefaultLabels 41
  pub one_default : breaking (switch 33 (i 35) (default 37 (switch 39 (i 41) (default 43 (empty 45)))) ∷ []) ≡ []
  -- `switch (i) { case 1: ({ case 2: ; }); }`, and a switch of its own in there
  pub entered : breaking (switch 33 (i 35) (case 37 1 (inner_statement 40 (case 42 2 (empty 45) ∷ []))) ∷ []) ≡ breaks_at JumpIntoStatementExpression 42
  pub not_entered : breaking (switch 33 (i 35) (case 37 1 (inner_statement 40 (switch 42 (i 44) (case 46 2 (empty 49)) ∷ []))) ∷ []) ≡ []
  -- `typeof(({ case 1: ; })) k;`
  pub outside_functions : broken_of (outside (case 4 1 (empty 7) ∷ [])) ≡ breaks_at LabelOutsideSwitch 4

pub record LoopExamples : Type 0 where
  -- `break;`, `switch (i) continue;`, `while (({ break; 1; })) ;` and `for (;; ({ continue; })) ;`
  pub no_loop : breaking (break 33 ∷ []) ≡ breaks_at JumpOutsideLoop 33
  pub no_loop_around : breaking (switch 33 (i 35) (continue 37) ∷ []) ≡ breaks_at JumpOutsideLoop 37
  pub condition : breaking (while_loop 33 (inner 35 (break 37 ∷ expression 39 (number 39 1) ∷ [])) (empty 44) ∷ []) ≡ breaks_at JumpOutsideLoop 37
  pub step : breaking (endless 33 (inner 37 (continue 39 ∷ [])) (empty 44) ∷ []) ≡ breaks_at JumpOutsideLoop 39
  -- `while (i) { break; continue; }`, `switch (i) break;`, `for (;;) switch (i) continue;` and `while (i) ({ break; });`
  pub in_loop : breaking (while_loop 33 (i 35) (braces 37 (break 38 ∷ continue 40 ∷ [])) ∷ []) ≡ []
  pub in_switch : breaking (switch 33 (i 35) (break 37) ∷ []) ≡ []
  pub loop_around : breaking (endless 33 (omitted 37) (switch 38 (i 40) (continue 42)) ∷ []) ≡ []
  pub in_expression : breaking (while_loop 33 (i 35) (inner_statement 37 (break 39 ∷ [])) ∷ []) ≡ []

pub record GotoExamples : Type 0 where
  -- `goto out;`, and `out: goto out;`
  pub no_label : breaking (goto 33 out ∷ []) ≡ breaks_named LabelIsNotDefined 33 out
  pub label : breaking (labelled 33 out (goto 35 out) ∷ []) ≡ []
  -- `out: ; out: ;`, and `out: out: ;`, of which the inner one is read first
  pub twice : breaking (labelled 33 out (empty 35) ∷ labelled 36 out (empty 38) ∷ []) ≡ breaks_named LabelDefinedTwice 36 out
  pub one_in_another : breaking (labelled 33 out (labelled 35 out (empty 37)) ∷ []) ≡ breaks_named LabelDefinedTwice 35 out
  -- `goto in; ({ in: ; });`
  pub entered :
      breaking (goto 33 (codes "in") ∷ inner_statement 36 (labelled 38 (codes "in") (empty 40) ∷ []) ∷ []) ≡ breaks_at JumpIntoStatementExpression 33
  -- `({ goto out; }); ({ a: goto a; }); out: ;`
  pub left : breaking (inner_statement 33 (goto 35 out ∷ []) ∷ inner_statement 42 (labelled 44 (codes "a") (goto 46 (codes "a")) ∷ []) ∷ labelled 52 out (empty 54) ∷ []) ≡ []
  -- `typeof(({ goto out; })) k;`, `typeof(({ ({ goto out; }); })) k;`, `typeof(({ out: ({ goto out; }); })) k;` and `typeof(({ return u; return; })) k;`
  pub none_outside : broken_of (outside (goto 4 out ∷ [])) ≡ breaks_named LabelIsNotDefined 4 out
  pub none_around : broken_of (outside (inner_statement 4 (goto 6 out ∷ []) ∷ [])) ≡ breaks_named LabelIsNotDefined 6 out
  pub outermost : broken_of (outside (labelled 4 out (inner_statement 6 (goto 8 out ∷ [])) ∷ [])) ≡ []
  pub returns_outside : broken_of (outside (return 4 (u 5 ∷ []) ∷ return 7 [] ∷ [])) ≡ []
