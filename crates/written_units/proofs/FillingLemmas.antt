-- What fills the run of a node goes on filling it where the runs of further nodes are kept.
use Rattle.std.proofs.Common.{◌≡◌, ◌⊎◌, inl, inr, ℕ, zero, suc, ◌+◌, ◌-◌, ◌<◌, ◌≤◌, ◌&&◌, nat_eq, nat_lt, List, [], ◌∷◌, ◌++◌, length, get_or, slice_get, Option, None, Some, All, true, if◌then◌else◌, refl, sym, ap, ap₂, subst, ◌∙◌, arith, length-append}
use Rattle.std.specs.Option.{option_eq}
use Rattle.std.proofs.lemmas.Bool.{eqb-true}
use Rattle.std.proofs.lemmas.Option.{same_Some, slice_get-get_or, get_or_from_slice_get}
use Rattle.std.proofs.lemmas.List.Elements.{All-head, All-tail}
use Rattle.sparse_model.specs.declared.ids.NameId.{NameId}
use Rattle.meaning_tree.specs.Nodes.{TreeNode, NodeList, HasNode, ChildrenStandBefore}
use Rattle.written_units.specs.Filling.{IsFilled, fills, start_at, suffix_at}

at-front : (xs ys : List ℕ) (place : ℕ) → place < length xs → start_at (xs ++ ys) place ≡ start_at xs place
at-front [] ys place within = absurd (omega (arith, within))
at-front (x ∷ xs) ys zero within = refl
at-front (x ∷ xs) ys (suc place) within = at-front xs ys place (omega (arith, within))

at-end : (xs : List ℕ) (x place : ℕ) → place ≡ length xs → start_at (xs ++ x ∷ []) place ≡ x
at-end [] x zero is = refl
at-end [] x (suc place) is = absurd (omega (arith, is))
at-end (first ∷ xs) x zero is = absurd (omega (arith, is))
at-end (first ∷ xs) x (suc place) is = at-end xs x place (omega (arith, is))

-- runs of children are kept with further ones
fills-stays : (nodes : List (TreeNode NameId)) (starts more : List ℕ) (low high : ℕ) (children : List (ℕ × ℕ)) → All (λ child. child.0 < length starts) children
    → fills nodes (starts ++ more) low high children ≡ fills nodes starts low high children
fills-stays nodes starts more low high [] below = refl
fills-stays nodes starts more low high (child ∷ children) below =
    let within = All-head (λ (one : ℕ × ℕ). one.0 < length starts) child children below in
    let rest = All-tail (λ (one : ℕ × ℕ). one.0 < length starts) child children below in
    ap
    (λ first. nat_lt child.0 high
    && (if suffix_at nodes child.0 then nat_eq (child.0 + 1) high && fills nodes (starts ++ more) low first children
    else nat_eq first low && fills nodes (starts ++ more) (child.0 + 1) high children))
    (at-front starts more child.0 within)
    ∙ ap₂
    (λ behind before. nat_lt child.0 high
    && (if suffix_at nodes child.0 then nat_eq (child.0 + 1) high && behind else nat_eq (start_at starts child.0) low && before))
    (fills-stays nodes starts more low (start_at starts child.0) children rest) (fills-stays nodes starts more (child.0 + 1) high children rest)

-- where the run of each of so many nodes is kept
pub record AreFilled (nodes : List (TreeNode NameId)) (starts : List ℕ) (count : ℕ) : Type 0 where
  pub all : length starts ≡ count
  pub each : (handle : ℕ) → handle < count → IsFilled nodes starts (start_at starts handle) handle

pub none-filled : (nodes : List (TreeNode NameId)) (starts : List ℕ) → starts ≡ [] → AreFilled nodes starts 0
none-filled nodes starts is = record { all = ap length is; each = λ handle within. absurd (omega (arith, within)) }

two : (handle count : ℕ) → handle < count + 1 → (handle < count) ⊎ (handle ≡ count)
two handle count within = grind (arith, within)

-- children stand before their parents
abbrev pub StandBefore : List (TreeNode NameId) → Type 0
StandBefore nodes = (handle : ℕ) (node : TreeNode NameId) → slice_get nodes handle ≡ Some node → All (λ child. child.0 < handle) node.children

-- the next one is kept
pub one-filled : (nodes : List (TreeNode NameId)) (starts later : List ℕ) (count start : ℕ) → later ≡ starts ++ start ∷ [] → StandBefore nodes
    → AreFilled nodes starts count → IsFilled nodes starts start count → AreFilled nodes later (count + 1)
one-filled nodes starts later count start is before are one =
    subst (λ (kept : List ℕ). AreFilled nodes kept (count + 1)) (sym is) (record {
      all = length-append starts (start ∷ []) ∙ omega (arith, are.all);
      each = λ handle within.
          elim (two handle count within) [
            | inl early ↦ stays handle (start_at starts handle) (omega (arith, early)) (at-front starts (start ∷ []) handle (omega (arith, early, are.all))) (are.each handle early)
            | inr last ↦ stays handle start (omega (arith, last)) (at-end starts start handle (last ∙ sym are.all)) (subst (IsFilled nodes starts start) (sym last) one)
          ];
    })
  where
    stays : (handle first : ℕ) → handle ≤ count → start_at (starts ++ start ∷ []) handle ≡ first → IsFilled nodes starts first handle
        → IsFilled nodes (starts ++ start ∷ []) (start_at (starts ++ start ∷ []) handle) handle
    stays handle first upto same filled node has =
        let known = filled node has in
        let below : All (λ child. child.0 < length starts) node.children = λ place other within.
        let under = before handle node has place other within in omega (arith, under, upto, are.all) in (
          ap (λ from. fills nodes (starts ++ start ∷ []) from handle node.children) same ∙ fills-stays nodes starts (start ∷ []) first handle node.children below ∙ known.0,
          known.1,
        )

-- in a unit that begins with handle 0 they do
pub stand_before : (list : NodeList NameId) → list.first ≡ 0 → ChildrenStandBefore list → StandBefore list.nodes
stand_before list from order handle node has place other within =
    (order handle node (omega (arith, from), ap (slice_get list.nodes) (omega (arith, from)) ∙ has) place other within).1

-- the bound on names of one node more
pub one-named : (list : NodeList NameId) (count names : ℕ) (one : TreeNode NameId) → list.first ≡ 0 → HasNode list count one → one.name.0 < names
    → ((handle : ℕ) → handle < count → (node : TreeNode NameId) → slice_get list.nodes handle ≡ Some node → node.name.0 < names)
    → (handle : ℕ) → handle < count + 1 → (node : TreeNode NameId) → slice_get list.nodes handle ≡ Some node → node.name.0 < names
one-named list count names one from has small named handle within node is =
    elim (two handle count within) [
      | inl early ↦ named handle early node is
      | inr last ↦
          let at : handle ≡ count - list.first = omega (arith, last, from) in
          subst (λ (found : TreeNode NameId). found.name.0 < names) (same_Some one node (sym has.1 ∙ ap (slice_get list.nodes) (sym at) ∙ is)) small
    ]

-- the last run that is kept
pub last_kept : (starts : List ℕ) (first : Option ℕ) → option_eq nat_eq first (Some 0) ≡ true → first ≡ slice_get starts (length starts - 1)
    → (last : ℕ) → length starts ≡ last + 1 → start_at starts last ≡ 0
last_kept starts first zero_found is last ends =
    let at : length starts - 1 ≡ last = omega (arith, ends) in
    get_or_from_slice_get starts last 0 0 (ap (slice_get starts) (sym at) ∙ sym is ∙ found first zero_found)
  where
    found : (first : Option ℕ) → option_eq nat_eq first (Some 0) ≡ true → first ≡ Some 0
    found None same = absurd (cc same)
    found (Some start) same = ap Some (eqb-true start 0 same)

-- so many nodes are all
pub all_named : (nodes : List (TreeNode NameId)) (count names : ℕ) → length nodes ≡ count
    → ((handle : ℕ) → handle < count → (node : TreeNode NameId) → slice_get nodes handle ≡ Some node → node.name.0 < names)
    → All (λ (node : TreeNode NameId). node.name.0 < names) nodes
all_named nodes count names long named place other within =
    named place (omega (arith, within, long)) (get_or nodes place other) (slice_get-get_or nodes place other within)
