-- Worked examples: the numbers of tags, each the token of the keyword that first names the tag in its scope.
use Rattle.std.specs.Prelude.{◌≡◌, ℕ, List, [], ◌∷◌, ◌++◌, codes}
use Rattle.vocabulary.specs.declared.node_kind.NodeKind.{NodeKind}
use Rattle.vocabulary.specs.declared.node_kind.NodeKind.TheVariants as kinds
use Rattle.meaning_tree.specs.Trees.{SyntaxTree, Node, Parts, NoParts, Part}
use Rattle.meaning_derivation.specs.Values.{Value, WordValue, TreeValue, ListValue}
use Rattle.meaning_derivation.specs.examples.Units.{Shown, IsLeft, unit}

-- the number of a node, if it is that of a tag
abbrev pub tag_number : NodeKind → ℕ → List ℕ
tag_number kinds.StructSpecifier number = number ∷ []
tag_number kinds.UnionSpecifier number = number ∷ []
tag_number kinds.EnumSpecifier number = number ∷ []
tag_number kind number = []

abbrev mutual
  pub tag_numbers : SyntaxTree → List ℕ
  tag_numbers (Node kind token name number parts) = tag_number kind number ++ tag_numbers_in parts

  pub tag_numbers_in : Parts (List ℕ) → List ℕ
  tag_numbers_in NoParts = []
  tag_numbers_in (Part role tree parts) = tag_numbers tree ++ tag_numbers_in parts

abbrev pub numbers_of : List Value → List ℕ
numbers_of (TreeValue tree ∷ values) = tag_numbers tree
numbers_of values = []

abbrev pub shown_numbers : Shown → List ℕ
shown_numbers (IsLeft values) = numbers_of values
shown_numbers told = []

-- the numbers of all tags of a text, each before those in its members
abbrev pub numbers_in : List ℕ → List ℕ
numbers_in text = shown_numbers (unit text)

-- Tags (6.2.1 p7, 6.7.2.3)
pub record TagExamples : Type 0 where
  pub one_type : numbers_in (codes "struct s *p; struct s { struct s *q; } r;") ≡ 0 ∷ 0 ∷ 0 ∷ []
  pub members_define : numbers_in (codes "void f(void) { struct s *p; { struct s { int a; }; } }") ≡ 6 ∷ 12 ∷ []
  -- a declaration of the tag alone is of this scope
  pub alone : numbers_in (codes "void f(void) { struct s *p; { struct s; struct s *q; } }") ≡ 6 ∷ 12 ∷ 12 ∷ []
  pub union_alone : numbers_in (codes "union u *p; void f(void) { union __attribute__((x)) u; union u *q; }") ≡ 0 ∷ 11 ∷ 11 ∷ []
  -- one with more words is not, and neither are a member and an enumeration
  pub qualified : numbers_in (codes "void f(void) { struct s *p; { const struct s; } }") ≡ 6 ∷ 6 ∷ []
  pub member : numbers_in (codes "struct s *p; void f(void) { struct { struct s; } x; }") ≡ 0 ∷ 11 ∷ 0 ∷ []
  pub enumeration : numbers_in (codes "enum e { A }; void f(void) { enum e; }") ≡ 0 ∷ 0 ∷ []
  -- the scope has it already
  pub again : numbers_in (codes "struct s *p; struct s; struct s *q;") ≡ 0 ∷ 0 ∷ 0 ∷ []
  pub parameters : numbers_in (codes "void f(struct s *a, struct s *b) { struct s *c; }") ≡ 3 ∷ 3 ∷ 3 ∷ []
  pub prototype : numbers_in (codes "int f(struct s *p); struct s *q;") ≡ 3 ∷ 9 ∷ []
  pub without_tags : numbers_in (codes "struct { int a; } x; struct { int a; } y;") ≡ 0 ∷ 8 ∷ []
