-- The nodes are one run: each stands right behind its parts.
use Rattle.std.proofs.Common.{◌≡◌, ℕ, List, [], ◌∷◌, refl, sym, subst, ◌∙◌, arith}
use Rattle.vocabulary.specs.declared.node_kind.NodeKind.{NodeKind}
use Rattle.vocabulary.specs.declared.node_kind.NodeKind.TheVariants.{Name, Assignment, ExpressionStatement, CompoundStatement}
use Rattle.sparse_model.specs.declared.ids.NameId.{NameId}
use Rattle.meaning_tree.specs.Nodes.{TreeNode, NodeList, with_node}
use Rattle.meaning_tree.specs.Laid.{IsLaid}
use Rattle.meaning_tree.specs.Runs.{IsRun, run, no_runs, last_run}
use Rattle.acceptance_nodes.proofs.surroundings.small_unit.Goals as goal

abbrev node : NodeKind → List (ℕ × ℕ) → TreeNode NameId
node kind children = record { kind = kind; token = 0; name = record { 0 = 0 }; number = 0; children = children }

abbrev drawn : NodeList NameId
drawn =
    record {
      first = 0;
      nodes =
          node Name [] ∷ node Name [] ∷ node Assignment ((0, 0) ∷ (1, 0) ∷ []) ∷ node ExpressionStatement ((2, 0) ∷ [])
          ∷ node CompoundStatement ((3, 0) ∷ []) ∷ [];
    }

drawn_is_run : IsRun drawn 0 4
drawn_is_run =
    run _ (omega arith, refl)
    (last_run [] [] (3, 0) 0 no_runs
    (run _ (omega arith, refl)
    (last_run [] [] (2, 0) 0 no_runs
    (run _ (omega arith, refl)
    (last_run ((0, 0) ∷ []) [] (1, 0) 1 (last_run [] [] (0, 0) 0 no_runs (run _ (omega arith, refl) no_runs)) (run _ (omega arith, refl) no_runs))))))

-- one node more over the same parts
added : (before unit same : NodeList NameId) (kind : NodeKind) (children parts : List (ℕ × ℕ)) → unit ≡ with_node before (node kind children)
    → before ≡ same → children ≡ parts → unit ≡ with_node same (node kind parts)
added before unit same kind children parts is alike told = is ∙ (λ i. with_node (alike i) (node kind (told i)))

pub returns-clause-laid : goal.returns-clause-laid
returns-clause-laid c =
    let one = added _ _ _ Name _ _ c.in_ok-add.ensures c.new-unit.ensures c.new.ensures.empty in
    let two = added _ _ _ Name _ _ c.in_ok-add-2.ensures one c.new-2.ensures.empty in
    let three = added _ _ _ Assignment _ _ c.in_ok-add-3.ensures two c.in_ok-sides.ensures in
    let four = added _ _ _ ExpressionStatement _ _ c.in_ok-add-4.ensures three c.in_ok-expression.ensures in
    let five : c.add-5.new.unit ≡ drawn = added _ _ _ CompoundStatement _ _ c.in_ok-add-5.ensures four c.in_ok-statement.ensures in
    subst IsLaid (sym five) (c.runs_are_laid.ensures drawn 4 refl drawn_is_run)
