-- What a symbol derives leaves what the symbol yields; so the tree of a unit is formed.
use Rattle.std.proofs.Common.{◌≡◌, ℕ, Bool, true, false, ◌&&◌, not, List, [], ◌∷◌, ◌++◌, drop, length, map, Option, Some, None, nat_lt, refl, sym, ap, subst, ◌∙◌, if◌then◌else◌}
use Rattle.std.proofs.lemmas.Option.{same_Some}
use Rattle.std.proofs.lemmas.List.Sums.{AllPass-from_list_all}
use Rattle.vocabulary.specs.declared.symbol.Symbol.{Symbol}
use Rattle.vocabulary.specs.declared.action.Action.{Action}
use Rattle.vocabulary.specs.declared.limit.LimitKind.TheVariants.{ParseStack}
use Rattle.vocabulary.specs.declared.token_class.TokenClass.{TokenClass}
use Rattle.vocabulary.specs.declared.token_class.TokenClass.TheVariants.{End}
use Rattle.vocabulary.specs.declared.production_item.ProductionItem.{ProductionItem}
use Rattle.vocabulary.specs.declared.production_item.ProductionItem.TheVariants.{Token, Passed, PassedAny, Name, LabelName, AttributeWord, CaseColon, DesignatorEnd, Nonterminal, Do}
use Rattle.meaning_tree.specs.Trees.{SyntaxTree, Parts, NoParts}
use Rattle.meaning_tree.specs.Forms.{AUnit, nothing, IsFormedTree}
use Rattle.meaning_tree.proofs.Standing.{StandsFor-unique}
use Rattle.meaning_grammar.specs.Classes.{is_same}
use Rattle.meaning_grammar.specs.Items.{takes}
use Rattle.meaning_grammar.specs.Productions.{productions}
use Rattle.meaning_grammar.specs.Choice.{choice}
use Rattle.meaning_grammar.specs.Terminals.{Terminal}
use Rattle.meaning_grammar.proofs.Everywhere.{All-at}
use Rattle.meaning_grammar.proofs.Taking.{what_is_taken_is_a_row}
use Rattle.meaning_derivation.specs.Values.{Value, WordValue, TreeValue, ListValue}
use Rattle.meaning_derivation.specs.State.{State, Held, Fault, PassesLimit, ActionOutcome, Goes, Refuses, Outcome, Done, Fails, most_pending, with_limit, with_waiting}
use Rattle.meaning_derivation.specs.State as states
use Rattle.meaning_derivation.specs.Taking.{look_of, refused_at, take_one, behind_limit, unless_held, advanced, keeps}
use Rattle.meaning_derivation.specs.Derivation.{is_terminal_item, behind_action, Derives, DerivesAll, terminal, action, by_row, without_row, none_left, more, stop}
use Rattle.meaning_derivation.specs.Actions.{act}
use Rattle.meaning_forms.specs.laws.Forms.{DerivedTreesAreFormed, DerivedListsAreFormed}
use Rattle.meaning_forms.proofs.Slots.{both}
use Rattle.meaning_forms.proofs.Knowledge.{Known, AWord, ATree, AList, Grown, Is, Are, grown, is_list, grown-is, serves, serves-is, all_serve, all_serve-are, with_parts-none}
use Rattle.meaning_forms.proofs.Effects.{wants, yields, serve_all, enters, growing, left_for, behind_item, behind_items, comes_to, keeps_known}
use Rattle.meaning_forms.proofs.Rows.{all_keep_known}
use Rattle.meaning_forms.proofs.Fronts.{Stand, stand_more, stand_same, some_first, list_first, tree_first}
use Rattle.meaning_forms.proofs.Acting.{acts}

-- what an outcome leaves, where it goes on
abbrev Reaches : Parts (List ℕ) → List Known → List Value → Outcome → Type 0
Reaches begun after rest (Done next left) = Stand begun after next.values rest
Reaches begun after rest (Fails fault decided stands) = Unit {0}

-- Where a terminal is taken

module _ (begun : Parts (List ℕ)) (after : List Known) (rest : List Value) where
  unless_late-reaches :
      (late : Bool) (fault : Fault) (decided stands : ℕ) (otherwise : Outcome) → Reaches begun after rest otherwise
      → Reaches begun after rest (if late then Fails fault decided stands else otherwise)
  unless_late-reaches true fault decided stands otherwise reaches = tt
  unless_late-reaches false fault decided stands otherwise reaches = reaches

  behind_limit-reaches :
      (passed : Option states.Passed) (decided : ℕ) (otherwise : Outcome) → Reaches begun after rest otherwise → Reaches begun after rest (behind_limit passed decided otherwise)
  behind_limit-reaches None decided otherwise reaches = reaches
  behind_limit-reaches (Some passed) decided otherwise reaches =
      unless_late-reaches (nat_lt passed.terminal decided) (PassesLimit passed.limit) passed.terminal passed.terminal otherwise reaches

  unless_held-reaches :
      (held : Option Held) (decided : ℕ) (otherwise : Outcome) → Reaches begun after rest otherwise → Reaches begun after rest (unless_held held decided otherwise)
  unless_held-reaches None decided otherwise reaches = reaches
  unless_held-reaches (Some held) decided otherwise reaches = tt

  refused-reaches : (item : ProductionItem) (s : State) (left : List Terminal) → Reaches begun after rest (refused_at item s left)
  refused-reaches item s left = behind_limit-reaches s.passed s.taken _ tt

  -- behind the terminal, where one is there
  advanced-reaches :
      (item : ProductionItem) (s : State) (left : List Terminal) (known : List Known) → takes item (look_of s left) ≡ true → is_terminal_item item ≡ true
      → behind_item item known ≡ Some after → Stand begun known s.values rest → Reaches begun after rest (advanced item s left)
  advanced-reaches (Token class_) s [] known taken is found stand = absurd (no_end class_ taken found)
    where
      no_end : (c : TokenClass) → is_same c End ≡ true → (if not (is_same c End) then Some (AWord ∷ known) else None) ≡ Some after → ⊥
      no_end c same got = by_test (is_same c End) same got
        where
          by_test : (test : Bool) → test ≡ true → (if not test then Some (AWord ∷ known) else None) ≡ Some after → ⊥
          by_test true t g = absurd (cc g)
          by_test false t g = absurd (cc t)
  advanced-reaches (Passed class_) s [] known taken is found stand = subst (λ all. Stand begun all s.values rest) (same_Some _ _ found) stand
  advanced-reaches PassedAny s [] known taken is found stand = subst (λ all. Stand begun all s.values rest) (same_Some _ _ found) stand
  advanced-reaches Name s [] known taken is found stand = absurd (cc taken)
  advanced-reaches LabelName s [] known taken is found stand = absurd (cc taken)
  advanced-reaches AttributeWord s [] known taken is found stand = absurd (cc taken)
  advanced-reaches CaseColon s [] known taken is found stand = subst (λ all. Stand begun all s.values rest) (same_Some _ _ found) stand
  advanced-reaches DesignatorEnd s [] known taken is found stand = subst (λ all. Stand begun all s.values rest) (same_Some _ _ found) stand
  advanced-reaches (Nonterminal symbol) s left known taken is found stand = absurd (cc is)
  advanced-reaches (Do what) s left known taken is found stand = absurd (cc is)
  advanced-reaches (Token class_) s (first ∷ left) known taken is found stand = by_test (is_same class_ End) found
    where
      by_test : (test : Bool) → (if not test then Some (AWord ∷ known) else None) ≡ Some after → Stand begun after (WordValue first.index first.text ∷ s.values) rest
      by_test true got = absurd (cc got)
      by_test false got =
          subst (λ all. Stand begun all (WordValue first.index first.text ∷ s.values) rest) (same_Some _ _ got)
          (stand_more begun AWord known (WordValue first.index first.text) s.values rest tt stand)
  advanced-reaches (Passed class_) s (first ∷ left) known taken is found stand = subst (λ all. Stand begun all s.values rest) (same_Some _ _ found) stand
  advanced-reaches PassedAny s (first ∷ left) known taken is found stand = subst (λ all. Stand begun all s.values rest) (same_Some _ _ found) stand
  advanced-reaches CaseColon s (first ∷ left) known taken is found stand = subst (λ all. Stand begun all s.values rest) (same_Some _ _ found) stand
  advanced-reaches DesignatorEnd s (first ∷ left) known taken is found stand = subst (λ all. Stand begun all s.values rest) (same_Some _ _ found) stand
  advanced-reaches item s (first ∷ left) known taken is found stand =
      subst (λ all. Stand begun all (WordValue first.index first.text ∷ s.values) rest) (same_Some _ _ found)
      (stand_more begun AWord known (WordValue first.index first.text) s.values rest tt stand)

  taken-reaches :
      (item : ProductionItem) (s : State) (left : List Terminal) (known : List Known) → is_terminal_item item ≡ true → behind_item item known ≡ Some after
      → Stand begun known s.values rest → Reaches begun after rest (take_one item s left)
  taken-reaches item s left known is found stand = by_test (takes item (look_of s left)) refl
    where
      by_test : (test : Bool) → takes item (look_of s left) ≡ test
          → Reaches begun after rest (if test then behind_limit s.passed s.taken (unless_held s.held s.taken (advanced item s left)) else refused_at item s left)
      by_test true taken =
          behind_limit-reaches s.passed s.taken _ (unless_held-reaches s.held s.taken _ (advanced-reaches item s left known taken is found stand))
      by_test false taken = refused-reaches item s left

-- Symbols

abbrev is_grown : Known → Bool
is_grown (Grown slots) = true
is_grown known = false

-- what is known of a value that doesn't grow is known wherever a list began
elsewhere : (begun also : Parts (List ℕ)) (known : Known) (value : Value) → is_grown known ≡ false → Is begun known value → Is also known value
elsewhere begun also AWord (WordValue token text) plain is = tt
elsewhere begun also AWord (TreeValue tree) plain is = absurd is
elsewhere begun also AWord (ListValue parts) plain is = absurd is
elsewhere begun also (ATree sorts) (WordValue token text) plain is = absurd is
elsewhere begun also (ATree sorts) (TreeValue tree) plain is = is
elsewhere begun also (ATree sorts) (ListValue parts) plain is = absurd is
elsewhere begun also (AList slots) (WordValue token text) plain is = absurd is
elsewhere begun also (AList slots) (TreeValue tree) plain is = absurd is
elsewhere begun also (AList slots) (ListValue parts) plain is = is
elsewhere begun also (Grown slots) value plain is = absurd (cc plain)

-- The values that a symbol takes, and those below them

-- one that doesn't grow, before others
one_enters :
    (begun also : Parts (List ℕ)) (wanted : Known) (others : List Known) (known : Known) (all : List Known) (values rest : List Value) → is_grown wanted ≡ false
    → (serves known wanted && serve_all others all) ≡ true → Stand begun (known ∷ all) values rest
    → ((below : List Value) → serve_all others all ≡ true → Stand begun all below rest
    → (left : List Value) × Stand also others below left × Stand begun (drop (length others) all) left rest)
    → (left : List Value) × Stand also (wanted ∷ others) values left × Stand begun (drop (length others) all) left rest
one_enters begun also wanted others known all values rest plain serve stand further =
    let tests = both (serves known wanted) (serve_all others all) serve in
    let (value, below, top, is, second) = some_first begun known all values rest stand in
    let (left, wanted_stand, others_stand) = further below tests.1 second in (
      left,
      stand_same also (wanted ∷ others) (value ∷ below) values left top
          (stand_more also wanted others value below left (elsewhere begun also wanted value plain (serves-is begun known wanted value tests.0 is)) wanted_stand),
      others_stand,
    )

all_enter :
    (begun also : Parts (List ℕ)) (wanted known : List Known) (values rest : List Value) → serve_all wanted known ≡ true → Stand begun known values rest
    → (left : List Value) × Stand also wanted values left × Stand begun (drop (length wanted) known) left rest
all_enter begun also [] known values rest serve stand = (values, record { front = []; is_front = refl; are = tt }, stand)
all_enter begun also (wanted ∷ others) [] values rest serve stand = absurd (cc serve)
all_enter begun also (Grown slots ∷ others) (known ∷ all) values rest serve stand = absurd (cc serve)
all_enter begun also (AWord ∷ others) (known ∷ all) values rest serve stand =
    one_enters begun also AWord others known all values rest refl serve stand (λ below. all_enter begun also others all below rest)
all_enter begun also (ATree sorts ∷ others) (known ∷ all) values rest serve stand =
    one_enters begun also (ATree sorts) others known all values rest refl serve stand (λ below. all_enter begun also others all below rest)
all_enter begun also (AList slots ∷ others) (known ∷ all) values rest serve stand =
    one_enters begun also (AList slots) others known all values rest refl serve stand (λ below. all_enter begun also others all below rest)

-- What a symbol takes, with what its list began with
record Entered (begun : Parts (List ℕ)) (wanted known : List Known) (values rest : List Value) : Type 0 where
  first : Parts (List ℕ)
  left : List Value
  wanted_stand : Stand first wanted values left
  others_stand : Stand begun (drop (length wanted) known) left rest
  is_growing : Is begun (growing wanted known) (ListValue first)
  grows : is_list (growing wanted known) ≡ true

-- nothing grows
without_list :
    (begun : Parts (List ℕ)) (wanted known : List Known) (values rest : List Value) → growing wanted known ≡ AList [] → serve_all wanted known ≡ true
    → Stand begun known values rest → Entered begun wanted known values rest
without_list begun wanted known values rest none serve stand =
    let (left, wanted_stand, others_stand) = all_enter begun NoParts wanted known values rest serve stand in
    record {
      first = NoParts;
      left = left;
      wanted_stand = wanted_stand;
      others_stand = others_stand;
      is_growing = subst (λ list. Is begun list (ListValue NoParts)) (sym none) (nothing, tt);
      grows = ap is_list none;
    }

symbol_enters :
    (begun : Parts (List ℕ)) (wanted known : List Known) (values rest : List Value) → enters wanted known ≡ true → Stand begun known values rest
    → Entered begun wanted known values rest
symbol_enters begun (Grown [] ∷ others) (known ∷ all) values rest enter stand =
    let tests = both (is_list known) (serve_all others all) enter in
    let (parts, below, top, is, second) = list_first begun known all values rest tests.0 stand in
    let (left, wanted_stand, others_stand) = all_enter begun parts others all below rest tests.1 second in
    record {
      first = parts;
      left = left;
      wanted_stand = stand_same parts (Grown [] ∷ others) (ListValue parts ∷ below) values left top
          (stand_more parts (Grown []) others (ListValue parts) below left (NoParts, sym (with_parts-none parts), (nothing, tt)) wanted_stand);
      others_stand = others_stand;
      is_growing = is;
      grows = tests.0;
    }
symbol_enters begun (Grown [] ∷ others) [] values rest enter stand = absurd (cc enter)
symbol_enters begun (Grown (slot ∷ slots) ∷ others) known values rest enter stand = without_list begun (Grown (slot ∷ slots) ∷ others) known values rest refl enter stand
symbol_enters begun [] known values rest enter stand = without_list begun [] known values rest refl enter stand
symbol_enters begun (AWord ∷ others) known values rest enter stand = without_list begun (AWord ∷ others) known values rest refl enter stand
symbol_enters begun (ATree sorts ∷ others) known values rest enter stand = without_list begun (ATree sorts ∷ others) known values rest refl enter stand
symbol_enters begun (AList slots ∷ others) known values rest enter stand = without_list begun (AList slots ∷ others) known values rest refl enter stand

-- What a symbol leaves, by what is known around it

left_is :
    (begun first : Parts (List ℕ)) (list known : Known) (value : Value) → is_list list ≡ true → Is begun list (ListValue first) → Is first known value
    → Is begun (left_for list known) value
left_is begun first list AWord value test list_is is = elsewhere first begun AWord value refl is
left_is begun first list (ATree sorts) value test list_is is = elsewhere first begun (ATree sorts) value refl is
left_is begun first list (AList slots) value test list_is is = elsewhere first begun (AList slots) value refl is
left_is begun first list (Grown slots) (ListValue parts) test list_is is =
    subst (λ all. Is begun (grown list slots) (ListValue all)) (sym is.1) (grown-is begun list first is.0 slots test list_is is.2)
left_is begun first list (Grown slots) (WordValue token text) test list_is is = absurd is
left_is begun first list (Grown slots) (TreeValue tree) test list_is is = absurd is

-- and above others
all_left :
    (begun first : Parts (List ℕ)) (list : Known) (known below_them : List Known) (front left rest : List Value) → is_list list ≡ true → Is begun list (ListValue first)
    → Are first known front → Stand begun below_them left rest → Stand begun (map (left_for list) known ++ below_them) (front ++ left) rest
all_left begun first list [] below_them [] left rest test list_is are stand = stand
all_left begun first list [] below_them (value ∷ front) left rest test list_is are stand = absurd are
all_left begun first list (known ∷ all) below_them [] left rest test list_is are stand = absurd are
all_left begun first list (known ∷ all) below_them (value ∷ front) left rest test list_is are stand =
    stand_more begun (left_for list known) (map (left_for list) all ++ below_them) value (front ++ left) rest (left_is begun first list known value test list_is are.0)
    (all_left begun first list all below_them front left rest test list_is are.1 stand)

-- a row that comes to what its symbol yields
row_leaves :
    (begun : Parts (List ℕ)) (symbol : Symbol) (known after : List Known) (values rest : List Value) (entered : Entered begun (wants symbol) known values rest)
    (got : List Known) (outcome : Outcome) → all_serve got (yields symbol) ≡ true
    → map (left_for (growing (wants symbol) known)) (yields symbol) ++ drop (length (wants symbol)) known ≡ after
    → Reaches entered.first got entered.left outcome → Reaches begun after rest outcome
row_leaves begun symbol known after values rest entered got (Fails fault decided stands) serve same reaches = tt
row_leaves begun symbol known after values rest entered got (Done next terminals_left) serve same reaches =
    subst (λ all. Stand begun all next.values rest) same
    (stand_same begun _ _ next.values rest reaches.is_front
    (all_left begun entered.first (growing (wants symbol) known) (yields symbol) (drop (length (wants symbol)) known) reaches.front entered.left rest entered.grows
    entered.is_growing (all_serve-are entered.first got (yields symbol) reaches.front serve reaches.are) entered.others_stand))

-- Derivations

waiting-values : (pending : ℕ) (s : State) → (with_waiting pending s).values ≡ s.values
waiting-values pending s = by_test (nat_lt most_pending pending)
  where
    by_test : (test : Bool) → (if test then with_limit ParseStack s else s).values ≡ s.values
    by_test true = refl
    by_test false = refl

-- behind nothing known nothing is
items-none : (items : List ProductionItem) → behind_items items None ≡ None
items-none [] = refl
items-none (item ∷ items) = items-none items

-- a row that is taken keeps what is known
row_keeps : (symbol : Symbol) (items : List ProductionItem) (first second : TokenClass) → choice symbol first second ≡ Some items → keeps_known symbol items ≡ true
row_keeps symbol items first second is =
    let found = what_is_taken_is_a_row symbol items first second is in
    All-at (λ row. keeps_known symbol row ≡ true) (productions symbol) found.0 items found.2.has_row
    (AllPass-from_list_all (keeps_known symbol) (productions symbol) (all_keep_known symbol))

-- an action
action_reaches :
    (begun : Parts (List ℕ)) (what : Action) (s : State) (left : List Terminal) (outcome : ActionOutcome) (known after : List Known) (rest : List Value) → act what s ≡ outcome
    → behind_item (Do what) known ≡ Some after → Stand begun known s.values rest → Reaches begun after rest (behind_action s outcome left)
action_reaches begun what s left (Goes next) known after rest is found stand = acts begun s next rest what known after is found stand
action_reaches begun what s left (Refuses fault stands) known after rest is found stand = tt

-- a symbol, by a row that comes to this
come_reaches :
    (begun : Parts (List ℕ)) (symbol : Symbol) (items : List ProductionItem) (known after : List Known) (values rest : List Value) (outcome : Outcome)
    (come : Option (List Known)) → behind_items items (Some (wants symbol)) ≡ come → comes_to (yields symbol) come ≡ true
    → map (left_for (growing (wants symbol) known)) (yields symbol) ++ drop (length (wants symbol)) known ≡ after → Entered begun (wants symbol) known values rest
    → ((first : Parts (List ℕ)) (got : List Known) (left : List Value) → behind_items items (Some (wants symbol)) ≡ Some got → Stand first (wants symbol) values left
    → Reaches first got left outcome)
    → Reaches begun after rest outcome
come_reaches begun symbol items known after values rest outcome None is comes same entered derives = absurd (cc comes)
come_reaches begun symbol items known after values rest outcome (Some got) is comes same entered derives =
    row_leaves begun symbol known after values rest entered got outcome comes same (derives entered.first got entered.left is entered.wanted_stand)

symbol_reaches :
    (begun : Parts (List ℕ)) (symbol : Symbol) (items : List ProductionItem) (known after : List Known) (values rest : List Value) (outcome : Outcome) (test : Bool)
    → enters (wants symbol) known ≡ test
    → (if test then Some (map (left_for (growing (wants symbol) known)) (yields symbol) ++ drop (length (wants symbol)) known) else None) ≡ Some after
    → keeps_known symbol items ≡ true → Stand begun known values rest
    → ((first : Parts (List ℕ)) (got : List Known) (left : List Value) → behind_items items (Some (wants symbol)) ≡ Some got → Stand first (wants symbol) values left
    → Reaches first got left outcome)
    → Reaches begun after rest outcome
symbol_reaches begun symbol items known after values rest outcome false enter found keeps stand derives = absurd (cc found)
symbol_reaches begun symbol items known after values rest outcome true enter found keeps stand derives =
    come_reaches begun symbol items known after values rest outcome (behind_items items (Some (wants symbol))) refl keeps (same_Some _ _ found)
    (symbol_enters begun (wants symbol) known values rest enter stand) derives

-- items behind an item
further_reaches :
    (begun : Parts (List ℕ)) (items : List ProductionItem) (come : Option (List Known)) (after : List Known) (rest : List Value) (outcome : Outcome)
    → behind_items items come ≡ Some after
    → ((middle : List Known) → come ≡ Some middle → behind_items items (Some middle) ≡ Some after → Reaches begun after rest outcome) → Reaches begun after rest outcome
further_reaches begun items None after rest outcome found derives = let clash : None ≡ Some after = sym (items-none items) ∙ found in absurd (cc clash)
further_reaches begun items (Some middle) after rest outcome found derives = derives middle refl found

mutual
  item_reaches :
      {item : ProductionItem} {behind : ℕ} {s : State} {left : List Terminal} {outcome : Outcome} → Derives act item behind s left outcome
      → (begun : Parts (List ℕ)) (known after : List Known) (rest : List Value) → behind_item item known ≡ Some after → Stand begun known s.values rest
      → Reaches begun after rest outcome
  item_reaches {item = item} {s = s} {left = left} (terminal is) begun known after rest found stand = taken-reaches begun after rest item s left known is found stand
  item_reaches {s = s} {left = left} (action {what = what}) begun known after rest found stand =
      action_reaches begun what s left (act what s) known after rest refl found stand
  item_reaches {s = s} {left = left} {outcome = outcome} (by_row {symbol = symbol} {items = items} chosen derived) begun known after rest found stand =
      symbol_reaches begun symbol items known after s.values rest outcome (enters (wants symbol) known) refl found (row_keeps symbol items _ _ chosen) stand
      (λ first got under is entered. items_reach derived first (wants symbol) got under is
      (stand_same first (wants symbol) s.values _ under (waiting-values _ s) entered))
  item_reaches {s = s} {left = left} (without_row {symbol = symbol} none) begun known after rest found stand =
      refused-reaches begun after rest (Nonterminal symbol) s left

  items_reach :
      {items : List ProductionItem} {behind : ℕ} {s : State} {left : List Terminal} {outcome : Outcome} → DerivesAll act items behind s left outcome
      → (begun : Parts (List ℕ)) (known after : List Known) (rest : List Value) → behind_items items (Some known) ≡ Some after → Stand begun known s.values rest
      → Reaches begun after rest outcome
  items_reach {s = s} none_left begun known after rest found stand = subst (λ all. Stand begun all s.values rest) (same_Some _ _ found) stand
  items_reach {outcome = outcome} (more {item = item} {items = items} first others) begun known after rest found stand =
      further_reaches begun items (behind_item item known) after rest outcome found
      (λ middle is got. items_reach others begun middle after rest got (item_reaches first begun known middle rest is stand))
  items_reach (stop first) begun known after rest found stand = tt

-- The tree of a unit is the only value that is left.
pub derived_trees_are_formed : DerivedTreesAreFormed
derived_trees_are_formed tokens tree derives =
    let (last, derived, values) = derives in
    let stand = items_reach derived NoParts [] (ATree (AUnit ∷ []) ∷ []) [] refl (record { front = []; is_front = refl; are = tt }) in
    let (it, others, top, formed, below_it) = tree_first NoParts (AUnit ∷ []) [] last.values [] stand in
    subst IsFormedTree (tree_of_value (sym top ∙ values)) formed.0
  where
    tree_of_value : {it : SyntaxTree} {others : List Value} → TreeValue it ∷ others ≡ TreeValue tree ∷ [] → it ≡ tree
    tree_of_value same = cc

pub derived_lists_are_formed : DerivedListsAreFormed
derived_lists_are_formed tokens tree list derives stands other also =
    subst IsFormedTree (StandsFor-unique list _ tree other stands.1 also.1) (derived_trees_are_formed tokens tree derives)
