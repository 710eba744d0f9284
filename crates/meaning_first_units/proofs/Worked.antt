-- The small file and the lists near it.
use Rattle.std.proofs.Common.{◌≡◌, ℕ, true, zero, suc, ◌<◌, List, [], ◌∷◌, codes, map, ◌⊎◌, inl, inr, refl, sym, ap, subst, ◌∙◌, arith}
use Rattle.std.specs.List.{list_all}
use Rattle.std.specs.Str.{bytes_eq}
use Rattle.std.proofs.lemmas.Bool.{both_ways}
use Rattle.vocabulary.specs.declared.node_kind.NodeKind.TheVariants.{Declaration, Name}
use Rattle.meaning_tree.specs.Nodes.{StandsFor}
use Rattle.meaning_tree.proofs.Standing.{StandsFor-unique}
use Rattle.meaning_tree.specs.Trees.{SyntaxTree, Node, Part}
use Rattle.meaning_syntax.specs.Items.{item_fits}
use Rattle.meaning_syntax.specs.Trees.{unit_tree}
use Rattle.meaning_syntax.specs.Words.{is_keyword, is_name, is_reserved}
use Rattle.meaning_typing.specs.Units.{child_at, kind_at, node_at, unit_list}
use Rattle.meaning_unit_nodes.specs.Laws.{with_names}
use Rattle.meaning_first_rules.proofs.Elements.{Contains-cons_cases, Contains-cons_head, Contains-cons_tail, Contains-single}
use Rattle.meaning_first_units.specs.Units.{IsLinked, IsNameOf, TellsApart, without_link}
use Rattle.meaning_first_units.specs.examples.Units.{UnitExamples, file_nodes, items_of, number_of_name}

names-linked : (handle : ℕ) → kind_at (file_nodes 3 3) handle ≡ Name → IsLinked (file_nodes 3 3) handle (node_at (file_nodes 3 3) handle).number
names-linked zero is = absurd (cc is)
names-linked (suc zero) is = absurd (cc is)
names-linked (suc (suc zero)) is = absurd (cc is)
names-linked (suc (suc (suc zero))) is = absurd (cc is)
names-linked (suc (suc (suc (suc zero)))) is = absurd (cc is)
names-linked (suc (suc (suc (suc (suc zero))))) is = absurd (cc is)
names-linked (suc (suc (suc (suc (suc (suc zero)))))) is = absurd (cc is)
names-linked (suc (suc (suc (suc (suc (suc (suc zero))))))) is = absurd (cc is)
names-linked (suc (suc (suc (suc (suc (suc (suc (suc zero)))))))) is = absurd (cc is)
names-linked (suc (suc (suc (suc (suc (suc (suc (suc (suc zero))))))))) is = absurd (cc is)
names-linked (suc (suc (suc (suc (suc (suc (suc (suc (suc (suc zero)))))))))) is = absurd (cc is)
names-linked (suc (suc (suc (suc (suc (suc (suc (suc (suc (suc (suc zero))))))))))) is = absurd (cc is)
names-linked (suc (suc (suc (suc (suc (suc (suc (suc (suc (suc (suc (suc zero)))))))))))) is = record { before = omega arith; is_declarator = refl; same = refl }
names-linked (suc (suc (suc (suc (suc (suc (suc (suc (suc (suc (suc (suc (suc zero))))))))))))) is = record { before = omega arith; is_declarator = refl; same = refl }
names-linked (suc (suc (suc (suc (suc (suc (suc (suc (suc (suc (suc (suc (suc (suc zero)))))))))))))) is = absurd (cc is)
names-linked (suc (suc (suc (suc (suc (suc (suc (suc (suc (suc (suc (suc (suc (suc (suc zero))))))))))))))) is = absurd (cc is)
names-linked (suc (suc (suc (suc (suc (suc (suc (suc (suc (suc (suc (suc (suc (suc (suc (suc zero)))))))))))))))) is = absurd (cc is)
names-linked (suc (suc (suc (suc (suc (suc (suc (suc (suc (suc (suc (suc (suc (suc (suc (suc (suc zero))))))))))))))))) is = absurd (cc is)
names-linked (suc (suc (suc (suc (suc (suc (suc (suc (suc (suc (suc (suc (suc (suc (suc (suc (suc (suc zero)))))))))))))))))) is = absurd (cc is)
names-linked (suc (suc (suc (suc (suc (suc (suc (suc (suc (suc (suc (suc (suc (suc (suc (suc (suc (suc (suc handle))))))))))))))))))) is = absurd (cc is)

specifiers-first : (handle : ℕ) → kind_at (file_nodes 3 3) handle ≡ Declaration → child_at (file_nodes 3 3) handle 0 < child_at (file_nodes 3 3) handle 1
specifiers-first zero is = absurd (cc is)
specifiers-first (suc zero) is = absurd (cc is)
specifiers-first (suc (suc zero)) is = absurd (cc is)
specifiers-first (suc (suc (suc zero))) is = absurd (cc is)
specifiers-first (suc (suc (suc (suc zero)))) is = omega arith
specifiers-first (suc (suc (suc (suc (suc zero))))) is = absurd (cc is)
specifiers-first (suc (suc (suc (suc (suc (suc zero)))))) is = absurd (cc is)
specifiers-first (suc (suc (suc (suc (suc (suc (suc zero))))))) is = absurd (cc is)
specifiers-first (suc (suc (suc (suc (suc (suc (suc (suc zero)))))))) is = absurd (cc is)
specifiers-first (suc (suc (suc (suc (suc (suc (suc (suc (suc zero))))))))) is = absurd (cc is)
specifiers-first (suc (suc (suc (suc (suc (suc (suc (suc (suc (suc zero)))))))))) is = absurd (cc is)
specifiers-first (suc (suc (suc (suc (suc (suc (suc (suc (suc (suc (suc zero))))))))))) is = absurd (cc is)
specifiers-first (suc (suc (suc (suc (suc (suc (suc (suc (suc (suc (suc (suc zero)))))))))))) is = absurd (cc is)
specifiers-first (suc (suc (suc (suc (suc (suc (suc (suc (suc (suc (suc (suc (suc zero))))))))))))) is = absurd (cc is)
specifiers-first (suc (suc (suc (suc (suc (suc (suc (suc (suc (suc (suc (suc (suc (suc zero)))))))))))))) is = absurd (cc is)
specifiers-first (suc (suc (suc (suc (suc (suc (suc (suc (suc (suc (suc (suc (suc (suc (suc zero))))))))))))))) is = absurd (cc is)
specifiers-first (suc (suc (suc (suc (suc (suc (suc (suc (suc (suc (suc (suc (suc (suc (suc (suc zero)))))))))))))))) is = absurd (cc is)
specifiers-first (suc (suc (suc (suc (suc (suc (suc (suc (suc (suc (suc (suc (suc (suc (suc (suc (suc zero))))))))))))))))) is = absurd (cc is)
specifiers-first (suc (suc (suc (suc (suc (suc (suc (suc (suc (suc (suc (suc (suc (suc (suc (suc (suc (suc zero)))))))))))))))))) is = absurd (cc is)
specifiers-first (suc (suc (suc (suc (suc (suc (suc (suc (suc (suc (suc (suc (suc (suc (suc (suc (suc (suc (suc handle))))))))))))))))))) is = absurd (cc is)

-- the tree with numbers for names
abbrev named : List ℕ → SyntaxTree
named name = with_names number_of_name (unit_tree (items_of name))

-- each node stands for its tree
file-stands : StandsFor (unit_list (map without_link (file_nodes 3 3))) 18 (named (codes "x"))
file-stands =
    (((4, 0) ∷ (17, 0) ∷ []), (omega arith, refl), (refl, (((2, 2) ∷ (3, 0) ∷ []), (omega arith, refl), (refl, (((0, 2) ∷ (1, 2) ∷ []), (omega arith, refl), (refl, ([], (omega arith, refl), tt), (refl, ([], (omega arith, refl), tt), tt))), (refl, ([], (omega arith, refl), tt), tt))), (refl, (((6, 2) ∷ (11, 2) ∷ (16, 0) ∷ []), (omega arith, refl), (refl, (((5, 2) ∷ []), (omega arith, refl), (refl, ([], (omega arith, refl), tt), tt)), (refl, (((10, 2) ∷ []), (omega arith, refl), (refl, (((9, 2) ∷ []), (omega arith, refl), (refl, (((8, 2) ∷ []), (omega arith, refl), (refl, (((7, 2) ∷ []), (omega arith, refl), (refl, ([], (omega arith, refl), tt), tt)), tt)), tt)), tt)), (refl, (((15, 0) ∷ []), (omega arith, refl), (refl, (((14, 0) ∷ []), (omega arith, refl), (refl, (((12, 0) ∷ (13, 0) ∷ []), (omega arith, refl), (refl, ([], (omega arith, refl), tt), (refl, ([], (omega arith, refl), tt), tt))), tt)), tt)), tt)))), tt)))

-- the name that the first declaration of a unit declares
abbrev first_name : SyntaxTree → List ℕ
first_name (Node _ _ _ _ (Part _ (Node _ _ _ _ (Part _ _ (Part _ (Node _ _ name _ _) _))) _)) = name
first_name tree = []

names-differ : named (codes "x") ≡ named (codes "y") → ⊥
names-differ same = both_ways true (ap (λ tree. bytes_eq (first_name tree) (1 ∷ [])) same) refl

words-fit : list_all item_fits (items_of (codes "x")) ≡ true
unfolding is_name is_keyword is_reserved
words-fit = refl

-- the two names
by-name : (name : List ℕ) → IsNameOf (items_of (codes "x")) name → (codes "x" ≡ name) ⊎ (codes "f" ≡ name)
by-name name among =
    elim (Contains-cons_cases (codes "x") (codes "f" ∷ []) name among) [
      | inl first ↦ inl first
      | inr behind ↦ inr (Contains-single (codes "f") name behind)
    ]

names-apart : (name other : List ℕ) → IsNameOf (items_of (codes "x")) name → IsNameOf (items_of (codes "x")) other
    → number_of_name name ≡ number_of_name other → name ≡ other
names-apart name other among also same =
    elim (by-name name among) [
      | inl is_x ↦ elim (by-name other also) [
        | inl too ↦ sym is_x ∙ too
        | inr is_f ↦ absurd (numbers-differ (ap number_of_name is_x ∙ same ∙ ap number_of_name (sym is_f)))
      ]
      | inr is_f ↦ elim (by-name other also) [
        | inl is_x ↦ absurd (numbers-differ (ap number_of_name is_x ∙ sym same ∙ ap number_of_name (sym is_f)))
        | inr too ↦ sym is_f ∙ too
      ]
    ]
  where
    numbers-differ : number_of_name (codes "x") ≡ number_of_name (codes "f") → ⊥
    numbers-differ is = absurd (cc is)

some-number : (name : List ℕ) → number_of_name name ≡ [] → name ≡ []
some-number [] is = refl
some-number (byte ∷ bytes) is = absurd (cc is)

apart : TellsApart number_of_name (items_of (codes "x"))
apart = record { nothing = refl; something = λ name among. some-number name; apart = names-apart }

-- the file says both names
says : (name : List ℕ) → (codes "x" ≡ name) ⊎ (codes "f" ≡ name) → IsNameOf (items_of (codes "x")) name
says name (inl same) = subst (IsNameOf (items_of (codes "x"))) same (Contains-cons_head (codes "x") (codes "f" ∷ []))
says name (inr same) =
    subst (IsNameOf (items_of (codes "x"))) same (Contains-cons_tail (codes "x") (codes "f" ∷ []) (codes "f") (Contains-cons_head (codes "f") []))

spellings-differ : codes "x" ≡ codes "f" → ⊥
spellings-differ same = both_ways (bytes_eq (codes "f") (codes "x")) refl (ap (bytes_eq (codes "f")) same)

pub unit_examples : UnitExamples
unit_examples = record {
  file = record { fit = words-fit; bound = refl; told_apart = apart; is_tree = (omega arith, file-stands); linked = names-linked; in_order = specifiers-first };
  other_name = λ form. names-differ (StandsFor-unique (unit_list (map without_link (file_nodes 3 3))) 18 (named (codes "x")) (named (codes "y")) file-stands form.is_tree.1);
  to_function = λ form. absurd (cc (form.linked 13 refl).same);
  to_nothing = λ form. absurd (cc (form.linked 13 refl).is_declarator);
  not_apart = λ nodes form. spellings-differ (form.told_apart.apart (codes "x") (codes "f") (says (codes "x") (inl refl)) (says (codes "f") (inr refl)) refl);
}
