-- The examples compute, node by node.
use Rattle.std.proofs.Common.{List, ℕ, ◌<◌, ◌≤◌, [], ◌∷◌, codes, refl, arith}
use Rattle.std.proofs.lemmas.List.Elements.{All-nil, All-cons}
use Rattle.vocabulary.specs.declared.node_kind.NodeKind.TheVariants.{Name, Assignment, ExpressionStatement}
use Rattle.vocabulary.specs.declared.role.Role.TheVariants.{Evaluated, Unevaluated}
use Rattle.meaning_tree.specs.Trees.{Parts, NoParts, Part}
use Rattle.meaning_tree.specs.Nodes.{ChildrenStandBefore}
use Rattle.meaning_tree.specs.Forms.{expressions, One, Fits, nothing, one, left_out, there, no_more, one_more, no_declarator, declarator}
use Rattle.meaning_tree.specs.examples.Trees.{node_at, assignment_nodes}
use Rattle.meaning_tree.specs.examples.Forms.{leaf, operand}
use Rattle.meaning_tree.proofs.Finding.{stand_before-nil, stand_before-added}
use Rattle.meaning_tree.proofs.LaidExamples.{assignment_is_laid, turned_is_laid, shared_is_not_laid, left_out_is_not_laid, scattered_is_not_laid}
use Rattle.meaning_tree.proofs.nodes.worked_examples.Goals as goal

-- each node of the assignment is added behind its children
assignment_order : ChildrenStandBefore assignment_nodes
assignment_order =
    let before : ℕ → ℕ × ℕ → Type 0 = λ end child. (0 ≤ child.0) × (child.0 < end) in
    let a = node_at Name 0 (codes "a") [] in
    let b = node_at Name 2 (codes "b") [] in
    let assignment = node_at Assignment 1 [] ((0, 0) ∷ (1, 0) ∷ []) in
    let statement = node_at ExpressionStatement 0 [] ((2, 0) ∷ []) in
    stand_before-added (record { first = 0; nodes = a ∷ b ∷ assignment ∷ [] }) statement
    (stand_before-added (record { first = 0; nodes = a ∷ b ∷ [] }) assignment
    (stand_before-added (record { first = 0; nodes = a ∷ [] }) b
    (stand_before-added (record { first = 0; nodes = [] }) a (stand_before-nil 0) (All-nil (before 0)))
    (All-nil (before 1)))
    (All-cons (before 2) (0, 0) ((1, 0) ∷ []) (omega arith, omega arith) (All-cons (before 2) (1, 0) [] (omega arith, omega arith) (All-nil (before 2)))))
    (All-cons (before 3) (2, 0) [] (omega arith, omega arith) (All-nil (before 3)))

pub returns-clause-parts : goal.returns-clause-parts
returns-clause-parts c = record {
  of_one_role = refl;
  behind_others = refl;
  tags = refl;
}

pub returns-clause-nodes : goal.returns-clause-nodes
returns-clause-nodes c = record {
  tree = (
    omega arith,
    (
      (2, 0) ∷ [],
      (omega arith, refl),
      (refl, ((0, 0) ∷ (1, 0) ∷ [], (omega arith, refl), (refl, ([], (omega arith, refl), tt), (refl, ([], (omega arith, refl), tt), tt))), tt),
    ),
  );
  in_order = assignment_order;
  in_two_parts = (
    omega arith,
    (
      (2, 0) ∷ [],
      (omega arith, refl),
      (refl, ((0, 0) ∷ (1, 0) ∷ [], (omega arith, refl), (refl, ([], (omega arith, refl), tt), (refl, ([], (omega arith, refl), tt), tt))), tt),
    ),
  );
  part_alone = λ order. absurd (omega (arith, (order 2 (node_at Assignment 1 [] ((0, 0) ∷ (1, 0) ∷ [])) (omega arith, refl) 0 (0, 0) (omega arith)).0));
}

-- what `sizeof` has
abbrev FitsSizeof : Parts (List ℕ) → Type 0
FitsSizeof parts = Fits (One Unevaluated expressions ∷ []) parts

no_evaluated_operand : FitsSizeof (Part Evaluated operand NoParts) → ⊥
no_evaluated_operand fits = elim fits [ ]

no_statement : FitsSizeof (Part Unevaluated (leaf ExpressionStatement) NoParts) → ⊥
no_statement (one is fits) = absurd (cc is)

no_missing_operand : FitsSizeof NoParts → ⊥
no_missing_operand fits = elim fits [ ]

pub returns-clause-forms : goal.returns-clause-forms
returns-clause-forms c = record {
  declaration = (one refl (declarator (left_out (one refl (no_more (there refl (declarator (left_out (one refl (no_more (left_out (no_declarator nothing))))))))))), ((one_more refl (no_more nothing), ((nothing, tt), tt)), ((no_more nothing, tt), ((one refl nothing, ((nothing, tt), tt)), ((no_more nothing, tt), tt)))));
  conditional = (one refl (there refl (one refl nothing)), ((nothing, tt), ((nothing, tt), ((nothing, tt), tt))));
  without_middle = (one refl (left_out (one refl nothing)), ((nothing, tt), ((nothing, tt), tt)));
  unevaluated = (one refl nothing, ((nothing, tt), tt));
  wrong_role = λ formed. no_evaluated_operand formed.0;
  wrong_kind = λ formed. no_statement formed.0;
  missing_part = λ formed. no_missing_operand formed.0;
}

pub returns-clause-laid : goal.returns-clause-laid
returns-clause-laid c = record {
  assignment = assignment_is_laid;
  turned = turned_is_laid;
  shared = shared_is_not_laid;
  left_out = left_out_is_not_laid;
  scattered = scattered_is_not_laid;
}
