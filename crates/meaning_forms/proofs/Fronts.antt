-- The values on the top of a stack by what is known of them, above others that stay as they are.
use Rattle.std.proofs.Common.{◌≡◌, ℕ, zero, suc, ◌≤◌, true, List, [], ◌∷◌, ◌++◌, drop, length, refl, ap, subst, ◌∙◌, arith}
use Rattle.meaning_tree.specs.Trees.{SyntaxTree, Parts}
use Rattle.meaning_tree.specs.Forms.{PartSort, IsOf, Slot, IsFormedTree}
use Rattle.meaning_derivation.specs.Values.{Value, WordValue, TreeValue, ListValue, value_at}
use Rattle.meaning_forms.proofs.Knowledge.{Known, AWord, ATree, AList, Grown, AreOf, Is, Are, is_list}
use Rattle.meaning_forms.proofs.Effects.{known_at}

-- what is known stands above these values
pub record Stand (begun : Parts (List ℕ)) (known : List Known) (values rest : List Value) : Type 0 where
  pub front : List Value
  pub is_front : values ≡ front ++ rest
  pub are : Are begun known front

-- below the same value
pub beneath : {value : Value} {values others : List Value} → values ≡ others → value ∷ values ≡ value ∷ others
beneath {value = value} is = ap (λ all. value ∷ all) is

module _ (begun : Parts (List ℕ)) where
  -- Each first value

  pub word_first :
      (known : List Known) (values rest : List Value) → Stand begun (AWord ∷ known) values rest
      → (token : ℕ) × (text : List ℕ) × (others : List Value) × (values ≡ WordValue token text ∷ others) × Stand begun known others rest
  word_first known values rest stand = of_front stand.front stand.is_front stand.are
    where
      of_front : (front : List Value) → values ≡ front ++ rest → Are begun (AWord ∷ known) front
          → (token : ℕ) × (text : List ℕ) × (others : List Value) × (values ≡ WordValue token text ∷ others) × Stand begun known others rest
      of_front [] is are = absurd are
      of_front (WordValue token text ∷ front) is are = (token, text, front ++ rest, is, record { front = front; is_front = refl; are = are.1 })
      of_front (TreeValue tree ∷ front) is are = absurd are.0
      of_front (ListValue parts ∷ front) is are = absurd are.0

  pub tree_first :
      (sorts : List PartSort) (known : List Known) (values rest : List Value) → Stand begun (ATree sorts ∷ known) values rest
      → (tree : SyntaxTree) × (others : List Value) × (values ≡ TreeValue tree ∷ others) × (IsFormedTree tree × IsOf sorts tree) × Stand begun known others rest
  tree_first sorts known values rest stand = of_front stand.front stand.is_front stand.are
    where
      of_front : (front : List Value) → values ≡ front ++ rest → Are begun (ATree sorts ∷ known) front
          → (tree : SyntaxTree) × (others : List Value) × (values ≡ TreeValue tree ∷ others) × (IsFormedTree tree × IsOf sorts tree) × Stand begun known others rest
      of_front [] is are = absurd are
      of_front (WordValue token text ∷ front) is are = absurd are.0
      of_front (TreeValue tree ∷ front) is are = (tree, front ++ rest, is, are.0, record { front = front; is_front = refl; are = are.1 })
      of_front (ListValue parts ∷ front) is are = absurd are.0

  pub list_first :
      (list : Known) (known : List Known) (values rest : List Value) → is_list list ≡ true → Stand begun (list ∷ known) values rest
      → (parts : Parts (List ℕ)) × (others : List Value) × (values ≡ ListValue parts ∷ others) × Is begun list (ListValue parts) × Stand begun known others rest
  list_first list known values rest test_list stand = of_front list test_list stand.front stand.is_front stand.are
    where
      of_front : (it : Known) → is_list it ≡ true → (front : List Value) → values ≡ front ++ rest → Are begun (it ∷ known) front
          → (parts : Parts (List ℕ)) × (others : List Value) × (values ≡ ListValue parts ∷ others) × Is begun it (ListValue parts) × Stand begun known others rest
      of_front it test [] is are = absurd are
      of_front it test (ListValue parts ∷ front) is are = (parts, front ++ rest, is, are.0, record { front = front; is_front = refl; are = are.1 })
      of_front AWord test (value ∷ front) is are = absurd (cc test)
      of_front (ATree sorts) test (value ∷ front) is are = absurd (cc test)
      of_front (AList slots) test (WordValue token text ∷ front) is are = absurd are.0
      of_front (AList slots) test (TreeValue tree ∷ front) is are = absurd are.0
      of_front (Grown slots) test (WordValue token text ∷ front) is are = absurd are.0
      of_front (Grown slots) test (TreeValue tree ∷ front) is are = absurd are.0

  -- the first value, whatever it is
  pub some_first :
      (one : Known) (known : List Known) (values rest : List Value) → Stand begun (one ∷ known) values rest
      → (value : Value) × (others : List Value) × (values ≡ value ∷ others) × Is begun one value × Stand begun known others rest
  some_first one known values rest stand = of_front stand.front stand.is_front stand.are
    where
      of_front : (front : List Value) → values ≡ front ++ rest → Are begun (one ∷ known) front
          → (value : Value) × (others : List Value) × (values ≡ value ∷ others) × Is begun one value × Stand begun known others rest
      of_front [] is are = absurd are
      of_front (value ∷ front) is are = (value, front ++ rest, is, are.0, record { front = front; is_front = refl; are = are.1 })

  -- one value more
  pub stand_more :
      (known : Known) (all : List Known) (value : Value) (values rest : List Value) → Is begun known value → Stand begun all values rest
      → Stand begun (known ∷ all) (value ∷ values) rest
  stand_more known all value values rest is stand =
      record { front = value ∷ stand.front; is_front = ap (λ others. value ∷ others) stand.is_front; are = (is, stand.are) }

  -- other values that are the same
  pub stand_same : (known : List Known) (values others rest : List Value) → others ≡ values → Stand begun known values rest → Stand begun known others rest
  stand_same known values others rest same stand = record { front = stand.front; is_front = same ∙ stand.is_front; are = stand.are }

  -- Values so far below the top

  pub stand_dropped :
      (count : ℕ) (known : List Known) (values rest : List Value) → count ≤ length known → Stand begun known values rest
      → Stand begun (drop count known) (drop count values) rest
  stand_dropped count known values rest few stand =
      let found = dropped count known stand.front few stand.are in
      record { front = drop count stand.front; is_front = ap (drop count) stand.is_front ∙ found.0; are = found.1 }
    where
      dropped : (many : ℕ) (all : List Known) (front : List Value) → many ≤ length all → Are begun all front
          → (drop many (front ++ rest) ≡ drop many front ++ rest) × Are begun (drop many all) (drop many front)
      dropped zero all front few are = (refl, are)
      dropped (suc many) [] front few are = absurd (omega (arith, few))
      dropped (suc many) (one ∷ all) [] few are = absurd are
      dropped (suc many) (one ∷ all) (value ∷ front) few are = dropped many all front (omega (arith, few)) are.1

  pub tree_stands :
      (known : List Known) (values rest : List Value) (depth : ℕ) (sorts : List PartSort) → known_at known depth ≡ ATree sorts → Stand begun known values rest
      → (tree : SyntaxTree) × (value_at values depth ≡ TreeValue tree) × IsFormedTree tree × IsOf sorts tree
  tree_stands [] values rest depth sorts at stand = absurd (cc at)
  tree_stands (one ∷ known) values rest zero sorts at stand =
      let (tree, others, is, formed, below) = tree_first sorts known values rest (subst (λ k. Stand begun (k ∷ known) values rest) at stand) in
      (tree, ap (λ all. value_at all 0) is, formed.0, formed.1)
  tree_stands (one ∷ known) values rest (suc depth) sorts at stand =
      let (value, others, top, first_is, second) = some_first one known values rest stand in
      let (tree, is, formed, are) = tree_stands known others rest depth sorts at second in
      (tree, ap (λ all. value_at all (suc depth)) top ∙ is, formed, are)

  pub list_stands :
      (known : List Known) (values rest : List Value) (depth : ℕ) (slots : List Slot) → known_at known depth ≡ AList slots → Stand begun known values rest
      → (parts : Parts (List ℕ)) × (value_at values depth ≡ ListValue parts) × AreOf slots parts
  list_stands [] values rest depth slots at stand = absurd (cc at)
  list_stands (one ∷ known) values rest zero slots at stand =
      let (parts, others, is, are, below) = list_first (AList slots) known values rest refl (subst (λ k. Stand begun (k ∷ known) values rest) at stand) in
      (parts, ap (λ all. value_at all 0) is, are)
  list_stands (one ∷ known) values rest (suc depth) slots at stand =
      let (value, others, top, first_is, second) = some_first one known values rest stand in
      let (parts, is, are) = list_stands known others rest depth slots at second in
      (parts, ap (λ all. value_at all (suc depth)) top ∙ is, are)
