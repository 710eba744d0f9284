-- What is known of the values on the stack while a row is read: of which sorts a tree is, and which slots the parts of a list fit.
use Rattle.std.proofs.Common.{◌≡◌, ℕ, Bool, true, false, ◌&&◌, List, [], ◌∷◌, ◌++◌, refl, ap, ◌∙◌}
use Rattle.vocabulary.specs.declared.role.Role.{Role}
use Rattle.meaning_tree.specs.Trees.{SyntaxTree, Parts, NoParts, Part, with_parts}
use Rattle.meaning_tree.specs.Forms.{PartSort, IsOf, Slot, One, Fits, nothing, one, IsFormedTree, AreFormedTrees}
use Rattle.meaning_derivation.specs.Values.{Value, WordValue, TreeValue, ListValue}
use Rattle.meaning_forms.proofs.Slots.{are_among, is_within, IsOf-more, within-fits, behind-fits, both}

pub data Known : Type 0 where
  AWord : Known
  -- a formed tree of one of these sorts
  ATree : List PartSort → Known
  -- a list whose parts fit these slots
  AList : List Slot → Known
  -- a list that had parts when the symbol began, and has others behind them that fit these slots
  Grown : List Slot → Known

-- parts of formed trees that fit slots
abbrev pub AreOf : List Slot → Parts (List ℕ) → Type 0
AreOf slots parts = Fits slots parts × AreFormedTrees parts

-- a value is so, where the list that grows began with these parts
abbrev pub Is : Parts (List ℕ) → Known → Value → Type 0
Is begun AWord (WordValue token text) = Unit {0}
Is begun (ATree sorts) (TreeValue tree) = IsFormedTree tree × IsOf sorts tree
Is begun (AList slots) (ListValue parts) = AreOf slots parts
Is begun (Grown slots) (ListValue parts) = (added : Parts (List ℕ)) × (parts ≡ with_parts begun added) × AreOf slots added
Is begun known value = ⊥

abbrev pub Are : Parts (List ℕ) → List Known → List Value → Type 0
Are begun [] [] = Unit {0}
Are begun (known ∷ all) (value ∷ values) = Is begun known value × Are begun all values
Are begun [] (value ∷ values) = ⊥
Are begun (known ∷ all) [] = ⊥

-- Parts behind others

pub with_parts-none : (parts : Parts (List ℕ)) → with_parts parts NoParts ≡ parts
with_parts-none NoParts = refl
with_parts-none (Part role tree parts) = ap (Part role tree) (with_parts-none parts)

pub with_parts-assoc : (first second third : Parts (List ℕ)) → with_parts (with_parts first second) third ≡ with_parts first (with_parts second third)
with_parts-assoc NoParts second third = refl
with_parts-assoc (Part role tree parts) second third = ap (Part role tree) (with_parts-assoc parts second third)

pub formed-behind : (parts others : Parts (List ℕ)) → AreFormedTrees parts → AreFormedTrees others → AreFormedTrees (with_parts parts others)
formed-behind NoParts others formed also = also
formed-behind (Part role tree parts) others formed also = (formed.0, formed-behind parts others formed.1 also)

pub are_of-behind : (first second : List Slot) (parts others : Parts (List ℕ)) → AreOf first parts → AreOf second others → AreOf (first ++ second) (with_parts parts others)
are_of-behind first second parts others are also =
    (behind-fits first second parts others are.0 also.0, formed-behind parts others are.1 also.1)

-- a tree alone fits one slot
pub alone-is : (role : Role) (sorts : List PartSort) (tree : SyntaxTree) → IsFormedTree tree → IsOf sorts tree → AreOf (One role sorts ∷ []) (Part role tree NoParts)
alone-is role sorts tree formed is = (one is nothing, (formed, tt))

-- Lists that grow

-- with parts of these slots behind them
abbrev pub grown : Known → List Slot → Known
grown (AList slots) more = AList (slots ++ more)
grown (Grown slots) more = Grown (slots ++ more)
grown known more = known

abbrev pub is_list : Known → Bool
is_list (AList slots) = true
is_list (Grown slots) = true
is_list known = false

pub grown-is :
    (begun : Parts (List ℕ)) (known : Known) (parts others : Parts (List ℕ)) (more : List Slot) → is_list known ≡ true → Is begun known (ListValue parts)
    → AreOf more others → Is begun (grown known more) (ListValue (with_parts parts others))
grown-is begun AWord parts others more list is also = absurd (cc list)
grown-is begun (ATree sorts) parts others more list is also = absurd (cc list)
grown-is begun (AList slots) parts others more list is also = are_of-behind slots more parts others is also
grown-is begun (Grown slots) parts others more list is also =
    (with_parts is.0 others, ap (λ p. with_parts p others) is.1 ∙ with_parts-assoc begun is.0 others, are_of-behind slots more is.0 others is.2 also)

-- What is known less exactly

abbrev pub serves : (known wanted : Known) → Bool
serves AWord AWord = true
serves (ATree others) (ATree sorts) = are_among others sorts
serves (AList others) (AList slots) = is_within others slots
serves (Grown others) (Grown slots) = is_within others slots
serves known wanted = false

pub serves-is : (begun : Parts (List ℕ)) (known wanted : Known) (value : Value) → serves known wanted ≡ true → Is begun known value → Is begun wanted value
serves-is begun AWord AWord (WordValue token text) serves is = tt
serves-is begun AWord AWord (TreeValue tree) serves is = absurd is
serves-is begun AWord AWord (ListValue parts) serves is = absurd is
serves-is begun (ATree others) (ATree sorts) (WordValue token text) serves is = absurd is
serves-is begun (ATree others) (ATree sorts) (TreeValue tree) serves is = (is.0, IsOf-more others sorts tree serves is.1)
serves-is begun (ATree others) (ATree sorts) (ListValue parts) serves is = absurd is
serves-is begun (AList others) (AList slots) (WordValue token text) serves is = absurd is
serves-is begun (AList others) (AList slots) (TreeValue tree) serves is = absurd is
serves-is begun (AList others) (AList slots) (ListValue parts) serves is = (within-fits others slots serves parts is.0, is.1)
serves-is begun (Grown others) (Grown slots) (WordValue token text) serves is = absurd is
serves-is begun (Grown others) (Grown slots) (TreeValue tree) serves is = absurd is
serves-is begun (Grown others) (Grown slots) (ListValue parts) serves is = (is.0, is.1, (within-fits others slots serves is.0 is.2.0, is.2.1))
serves-is begun known wanted value serves is = absurd (cc serves)

abbrev pub all_serve : (known wanted : List Known) → Bool
all_serve [] [] = true
all_serve (known ∷ all) (wanted ∷ others) = serves known wanted && all_serve all others
all_serve known wanted = false

pub all_serve-are : (begun : Parts (List ℕ)) (known wanted : List Known) (values : List Value) → all_serve known wanted ≡ true → Are begun known values → Are begun wanted values
all_serve-are begun [] [] [] serve are = tt
all_serve-are begun [] [] (value ∷ values) serve are = absurd are
all_serve-are begun (known ∷ all) (wanted ∷ others) [] serve are = absurd are
all_serve-are begun (known ∷ all) (wanted ∷ others) (value ∷ values) serve are =
    let tests = both (serves known wanted) (all_serve all others) serve in
    (serves-is begun known wanted value tests.0 are.0, all_serve-are begun all others values tests.1 are.1)
all_serve-are begun [] (wanted ∷ others) values serve are = absurd (cc serve)
all_serve-are begun (known ∷ all) [] values serve are = absurd (cc serve)
