-- Trees and their nodes without the numbers that link nodes.
use Rattle.std.proofs.Common.{◌≡◌, ℕ, ◌-◌, List, [], ◌∷◌, map, option_map, refl, ap, ap₂, subst, ◌∙◌, arith}
use Rattle.std.proofs.lemmas.List.{length-map}
use Rattle.std.proofs.lemmas.Option.{slice_get-map}
use Rattle.meaning_tree.specs.Trees.{SyntaxTree, Node, Parts, NoParts, Part}
use Rattle.meaning_tree.specs.Nodes.{NodeList, StandsFor, StandFor, IsTreeOf, end_of}
use Rattle.meaning_unit_nodes.specs.Laws.{parts_with_names, with_names}
use Rattle.meaning_typing.specs.Units.{UnitNodes, unit_list}
use Rattle.meaning_first_units.specs.Units.{Renaming, own_number, parts_without_links, without_link, without_links}

abbrev without : NodeList (List ℕ) → NodeList (List ℕ)
without list = record list { nodes = map without_link list.nodes }

mutual
  stands-without : (list : NodeList (List ℕ)) (handle : ℕ) (tree : SyntaxTree) → StandsFor list handle tree → StandsFor (without list) handle (without_links tree)
  stands-without list handle (Node kind token name number parts) stands = (
    stands.0,
    (stands.1.0, slice_get-map without_link list.nodes (handle - list.first) ∙ ap (option_map without_link) stands.1.1),
    stand-without list stands.0 parts stands.2,
  )

  stand-without : (list : NodeList (List ℕ)) (children : List (ℕ × ℕ)) (parts : Parts (List ℕ)) → StandFor list children parts
      → StandFor (without list) children (parts_without_links parts)
  stand-without list [] NoParts stand = tt
  stand-without list [] (Part role tree parts) stand = absurd stand
  stand-without list (child ∷ children) NoParts stand = absurd stand
  stand-without list (child ∷ children) (Part role tree parts) stand =
      (stand.0, stands-without list child.0 tree stand.1, stand-without list children parts stand.2)

pub is_tree-without : (nodes : UnitNodes) (tree : SyntaxTree) → IsTreeOf (unit_list nodes) tree → IsTreeOf (unit_list (map without_link nodes)) (without_links tree)
is_tree-without nodes tree is =
    let all = unit_list (map without_link nodes) in
    let same = length-map nodes without_link in
    let last : end_of (unit_list nodes) - 1 ≡ end_of all - 1 = omega (arith, same) in (
      omega (arith, same, is.0),
      subst (λ root. StandsFor all root (without_links tree)) last (stands-without (unit_list nodes) (end_of (unit_list nodes) - 1) tree is.1),
    )

-- names don't link
mutual
  pub without-named : (renaming : Renaming) (tree : SyntaxTree) → without_links (with_names renaming tree) ≡ with_names renaming (without_links tree)
  without-named renaming (Node kind token name number parts) =
      ap (Node kind token (renaming name) (own_number kind number)) (parts-named renaming parts)

  parts-named : (renaming : Renaming) (parts : Parts (List ℕ)) → parts_without_links (parts_with_names renaming parts) ≡ parts_with_names renaming (parts_without_links parts)
  parts-named renaming NoParts = refl
  parts-named renaming (Part role tree parts) = ap₂ (Part role) (without-named renaming tree) (parts-named renaming parts)
