-- Worked examples: trees that have the parts that their kinds allow, and near ones that don't.
use Rattle.std.specs.Prelude.{ℕ, List, []}
use Rattle.vocabulary.specs.declared.node_kind.NodeKind.{NodeKind}
use Rattle.vocabulary.specs.declared.node_kind.NodeKind.TheVariants as kinds
use Rattle.vocabulary.specs.declared.role.Role.TheVariants.{Evaluated, Condition, TypePart, Unevaluated}
use Rattle.meaning_tree.specs.Trees.{SyntaxTree, Node, Parts, NoParts, Part}
use Rattle.meaning_tree.specs.Forms.{IsFormedTree}

-- a node at the first token, without a name
abbrev pub plain : NodeKind → Parts (List ℕ) → SyntaxTree
plain kind parts = Node kind 0 [] 0 parts

abbrev pub leaf : NodeKind → SyntaxTree
leaf kind = plain kind NoParts

-- `int`, and an operand
abbrev pub int_specifiers : SyntaxTree
int_specifiers = plain kinds.Specifiers (Part TypePart (leaf kinds.IntSpecifier) NoParts)

abbrev pub operand : SyntaxTree
operand = leaf kinds.Name

-- a node of this kind with these parts
abbrev pub Formed : NodeKind → Parts (List ℕ) → Type 0
Formed kind parts = IsFormedTree (plain kind parts)

pub record FormExamples : Type 0 where
  -- `int d = x, d;`
  pub declaration :
      Formed kinds.Declaration
      (Part TypePart int_specifiers
      (Part Evaluated (leaf kinds.Declarator)
      (Part Evaluated (plain kinds.Initializer (Part Evaluated operand NoParts))
      (Part Evaluated (leaf kinds.Declarator) NoParts))))
  -- `x ? x : x`, and without a middle
  pub conditional : Formed kinds.Conditional (Part Condition operand (Part Evaluated operand (Part Evaluated operand NoParts)))
  pub without_middle : Formed kinds.Conditional (Part Condition operand (Part Evaluated operand NoParts))
  -- the operand of `sizeof` isn't evaluated
  pub unevaluated : Formed kinds.SizeofExpression (Part Unevaluated operand NoParts)
  pub wrong_role : Formed kinds.SizeofExpression (Part Evaluated operand NoParts) → ⊥
  pub wrong_kind : Formed kinds.SizeofExpression (Part Unevaluated (leaf kinds.ExpressionStatement) NoParts) → ⊥
  pub missing_part : Formed kinds.SizeofExpression NoParts → ⊥
