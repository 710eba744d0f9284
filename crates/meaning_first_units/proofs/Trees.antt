-- The nodes of a tree that is in the first form without its links are a unit of the form.
use Rattle.std.proofs.Common.{◌≡◌, ℕ, Bool, true, false, ◌||◌, List, [], ◌∷◌, refl, sym, ap, subst, ◌∙◌, arith}
use Rattle.std.proofs.lemmas.Option.{get_or_from_slice_get, slice_get-get_or}
use Rattle.vocabulary.specs.declared.node_kind.NodeKind.{NodeKind}
use Rattle.vocabulary.specs.declared.node_kind.NodeKind.TheVariants as kinds
use Rattle.meaning_text.specs.Tokens.{Tok}
use Rattle.meaning_tree.specs.Nodes.{TreeNode, IsTreeOf}
use Rattle.meaning_tree.specs.Trees.{SyntaxTree}
use Rattle.meaning_unit_nodes.specs.Laws.{with_names}
use Rattle.meaning_unit_nodes.specs.Linked.{AreLinked, is_declaring}
use Rattle.meaning_unit_nodes.specs.Numbered.{number_told, spellings_told, unit_nodes}
use Rattle.meaning_unit_nodes.proofs.Behind.{tree-ordered}
use Rattle.meaning_unit_nodes.proofs.Naming.{nodes-named}
use Rattle.meaning_unit_nodes.proofs.Numbers.{number_told-apart}
use Rattle.meaning_unit_nodes.proofs.Standing as standing
use Rattle.meaning_syntax.specs.Items.{Item}
use Rattle.meaning_syntax.specs.Trees.{IsInFirstForm, unit_tree}
use Rattle.meaning_typing.specs.Units.{UnitNodes, kind_at, no_node, node_at, unit_list}
use Rattle.meaning_typing.specs.laws.Surroundings.{IsLaidUnit}
use Rattle.meaning_first_units.specs.Laws.{TreesOfTheFormAreUnits}
use Rattle.meaning_first_units.specs.Trees.{AreNamesTold, IsTold}
use Rattle.meaning_first_units.specs.Units.{IsLinked, IsNameOf, Renaming, TellsApart, without_links}
use Rattle.meaning_first_units.proofs.Declaring.{is_quiet, never}
use Rattle.meaning_first_units.proofs.Named.{fine-kind, root-of}
use Rattle.meaning_first_units.proofs.Ordering.{in-order, within-by-kind}
use Rattle.meaning_first_units.proofs.Reaching.{AllFine, is_declarator_kind, reach, unit-fine}
use Rattle.meaning_first_units.proofs.Standing.{makes-kind, plain}
use Rattle.meaning_first_units.proofs.Telling.{names-so, without-so}
use Rattle.meaning_first_units.proofs.Unlinked.{is_tree-without, without-named}

some-number : (told : List (List ℕ)) (name : List ℕ) → number_told told name ≡ [] → name ≡ []
some-number told [] is = refl
some-number told (byte ∷ bytes) is = absurd (cc is)

-- in the form a declarator declares, and nothing else
declaring-declarator : (kind : NodeKind) → (is_quiet kind || is_declarator_kind kind) ≡ true → is_declaring kind ≡ true → kind ≡ kinds.Declarator
declaring-declarator kinds.Declarator fine declares = refl
declaring-declarator kinds.Enumerator fine declares = absurd (never fine)
declaring-declarator kind fine declares = absurd (never declares)

abbrev is_name_kind : NodeKind → Bool
is_name_kind kinds.Name = true
is_name_kind kind = false

-- links with what declares a name are those of the form
names-linked :
    (renaming : Renaming) (nodes : UnitNodes) (items : List Item) → IsLaidUnit nodes → IsTreeOf (plain nodes) (with_names renaming (unit_tree items)) → AreLinked nodes
    → (handle : ℕ) → kind_at nodes handle ≡ kinds.Name → IsLinked nodes handle (node_at nodes handle).number
names-linked renaming nodes items unit is_tree linked handle is_name =
    let node = node_at nodes handle in
    let within = within-by-kind nodes handle kinds.Name is_name (λ same. never (sym (ap is_name_kind same))) in
    let link = linked handle node (slice_get-get_or nodes handle no_node within) is_name in
    let before = link.before in
    let stands : node_at nodes node.number ≡ link.declaration = get_or_from_slice_get nodes node.number link.declaration no_node link.stands in
    let found = reach renaming nodes items unit (root-of renaming nodes items is_tree) node.number (omega (arith, before, within)) in
    let fine = fine-kind items found.tree found.all (kind_at nodes node.number) (makes-kind renaming nodes node.number found.tree found.makes) in
    record {
      before = before;
      is_declarator = declaring-declarator (kind_at nodes node.number) fine (ap (λ (one : TreeNode (List ℕ)). is_declaring one.kind) stands ∙ link.declares);
      same = ap (λ (one : TreeNode (List ℕ)). one.name) stands ∙ link.same;
    }

module _ (tokens : List Tok) (tree : SyntaxTree) (form : IsInFirstForm (without_links tree)) (told : AreNamesTold tokens tree) where
  abbrev numbers : Renaming
  numbers = number_told (spellings_told tokens)

  abbrev nodes : UnitNodes
  nodes = unit_nodes tokens tree

  pub unit-laid : IsLaidUnit nodes
  unit-laid =
      subst IsLaidUnit (sym (nodes-named numbers 0 tree))
      (record { laid = standing.nodes_are_laid (with_names numbers tree); ordered = tree-ordered 0 (with_names numbers tree) })

  unit-tree : IsTreeOf (plain nodes) (with_names numbers (unit_tree form.items))
  unit-tree =
      let stands : IsTreeOf (unit_list nodes) (with_names numbers tree) =
      subst (λ (some : UnitNodes). IsTreeOf (unit_list some) (with_names numbers tree)) (sym (nodes-named numbers 0 tree)) (standing.nodes_stand (with_names numbers tree)) in
      subst (IsTreeOf (plain nodes)) (without-named numbers tree ∙ ap (with_names numbers) form.is_tree) (is_tree-without nodes (with_names numbers tree) stands)

  names-told : (name : List ℕ) → IsNameOf form.items name → IsTold tokens name
  names-told name among =
      names-so (IsTold tokens) form.items name (subst (AreNamesTold tokens) form.is_tree (without-so (IsTold tokens) tree told)) among

  told-apart : TellsApart numbers form.items
  told-apart =
      record {
        nothing = refl;
        something = λ name among. some-number (spellings_told tokens) name;
        apart = λ name other among also. number_told-apart (spellings_told tokens) name other (names-told name among);
      }

  all-fine : AllFine form.items (without_links tree)
  all-fine = subst (AllFine form.items) (sym form.is_tree) (unit-fine form.items)

pub trees_of_the_form_are_units : TreesOfTheFormAreUnits
trees_of_the_form_are_units tokens tree form told linked =
    let nodes = unit_nodes tokens tree in
    let numbers = number_told (spellings_told tokens) in
    let laid = unit-laid tokens tree form told in
    let is_tree = unit-tree tokens tree form told in (
      laid,
      record {
        fit = form.fit;
        bound = form.bound;
        told_apart = told-apart tokens tree form told;
        is_tree = is_tree;
        linked = names-linked numbers nodes form.items laid is_tree linked;
        in_order = in-order form.items numbers tree (all-fine tokens tree form told);
      },
    )
