-- Lists of a declarator's parts and of attributes, and the nodes that stand alone in a list.
use Rattle.std.proofs.Common.{◌≡◌, ℕ, zero, suc, ◌+◌, Bool, true, false, ◌||◌, List, [], ◌∷◌, IsSome, Some, Result, IfErr, IsErrAnd, nat_lt, if◌then◌else◌, take, drop, length, slice_get, refl, sym, ap, ap₂, subst, ◌∙◌, arith}
use Rattle.std.proofs.lemmas.Bool.{lt-ltb}
use Rattle.std.proofs.lemmas.Option.{same_Some}
use Rattle.std.proofs.lemmas.Result.{err_from_is_err_and}
use Rattle.vocabulary.specs.declared.action.Action.{Action}
use Rattle.vocabulary.specs.declared.action.Action.TheVariants.{AppendLeadingAttributes, JoinAnyParts, JoinParts, JoinSuffixes}
use Rattle.vocabulary.specs.declared.production_item.ProductionItem.TheVariants.{Do}
use Rattle.vocabulary.specs.declared.role.Role.TheVariants.{TypePart}
use Rattle.vocabulary.specs.declared.limit.LimitKind.TheVariants.{Nodes}
use Rattle.vocabulary.specs.declared.node_kind.NodeKind.TheVariants as kinds
use Rattle.meaning_tree.specs.Trees.{SyntaxTree, Parts, NoParts, Part, with_parts}
use Rattle.meaning_tree.proofs.Listing.{with_parts-NoParts}
use Rattle.meaning_grammar.specs.Sorts.{Sort, AWord, AList, action_effect, effect}
use Rattle.meaning_derivation.specs.Values.{Value, WordValue, TreeValue, ListValue, sort_of, sorts_of, value_at, token_of, text_of, parts_of, plain_tree, named_tree}
use Rattle.meaning_derivation.specs.State.{State, Fault, PassesLimit, ActionOutcome, Goes, Refuses, made, made_as, made_list, most_nodes, with_value, with_values}
use Rattle.meaning_derivation.specs.Lists.{part_count, has_spelling, unnamed_declarator, optional_declarator, attributes_list, leading_attributes, first_tree_token}
use Rattle.meaning_derivation.specs.Actions.{act, below}
use Rattle.parse_state.specs.declared.shape.Source.TheVariants.{OneTree, AllTrees}
use Rattle.parse_state.specs.declared.fault.ActionFault.{ActionFault}
use Rattle.parse_state.specs.declared.fault.ActionFault.TheVariants.{Refused, Limit, Memory}
use Rattle.parse_state.specs.Joining.{EndsInLists, word_at}
use Rattle.parse_state.specs.Sources.{IsCovered, parts_given}
use Rattle.parse_state.specs.Steps.{IsToldBy}
use Rattle.parse_state.proofs.Covering.{covered}
use Rattle.parse_state.proofs.Fitting.{fit}

-- Values of the sorts that an action takes

abbrev first_or : Sort → List Sort → Sort
first_or other [] = other
first_or other (sort ∷ sorts) = sort

fitting : (values : List Value) (takes : List Sort) (depth : ℕ) (sort : Sort) → take (length takes) (sorts_of values) ≡ takes → slice_get takes depth ≡ Some sort
    → sort_of (value_at values depth) ≡ sort
fitting values [] depth sort fits at = absurd (cc at)
fitting [] (first ∷ takes) depth sort fits at = absurd (cc fits)
fitting (value ∷ values) (first ∷ takes) zero sort fits at = ap (first_or first) fits ∙ same_Some _ _ at
fitting (value ∷ values) (first ∷ takes) (suc depth) sort fits at = fitting values takes depth sort (ap (drop 1) fits) at

word_is : (value : Value) → sort_of value ≡ AWord → WordValue (token_of value) (text_of value) ≡ value
word_is (WordValue token text) is = refl
word_is (TreeValue tree) is = absurd (cc is)
word_is (ListValue parts) is = absurd (cc is)

-- a word that an action takes
word_stands : (action : Action) (values : List Value) (depth : ℕ) → IsSome (effect (Do action) (sorts_of values))
    → slice_get (action_effect action).takes depth ≡ Some AWord → word_at values depth ≡ value_at values depth
word_stands action values depth finds at =
    word_is (value_at values depth) (fitting values (action_effect action).takes depth AWord (fit action values finds) at)

-- Joined parts

pub parts_joined : (s : State) → IsSome (effect (Do JoinParts) (sorts_of s.values))
    → act JoinParts s ≡ Goes (with_values s (ListValue (with_parts (parts_of (below s 2)) (parts_of (below s 0))) ∷ word_at s.values 1 ∷ drop 3 s.values))
parts_joined s finds =
    ap (λ (word : Value). Goes (with_values s (ListValue (with_parts (parts_of (below s 2)) (parts_of (below s 0))) ∷ word ∷ drop 3 s.values)))
    (sym (word_stands JoinParts s.values 1 finds refl))

either_word : (test : Bool) (values : List Value) → word_at values 1 ≡ value_at values 1 → word_at values 3 ≡ value_at values 3
    → word_at values (if test then 1 else 3) ≡ (if test then value_at values 1 else value_at values 3)
either_word true values name place = name
either_word false values name place = place

pub any_parts_joined : (s : State) → IsSome (effect (Do JoinAnyParts) (sorts_of s.values))
    → act JoinAnyParts s
    ≡ Goes (with_values s (ListValue (with_parts (parts_of (below s 2)) (parts_of (below s 0))) ∷ word_at s.values (if has_spelling (below s 1) then 1 else 3) ∷ drop 4 s.values))
any_parts_joined s finds =
    ap (λ (word : Value). Goes (with_values s (ListValue (with_parts (parts_of (below s 2)) (parts_of (below s 0))) ∷ word ∷ drop 4 s.values)))
    (sym (either_word (has_spelling (below s 1)) s.values (word_stands JoinAnyParts s.values 1 finds refl) (word_stands JoinAnyParts s.values 3 finds refl)))

two_of_three : (sorts : List Sort) → take 3 sorts ≡ AList ∷ AList ∷ AWord ∷ [] → take 2 sorts ≡ AList ∷ AList ∷ []
two_of_three [] is = absurd (cc is)
two_of_three (first ∷ []) is = absurd (cc is)
two_of_three (first ∷ second ∷ sorts) is =
    ap₂ (λ (one other : Sort). one ∷ other ∷ []) (ap (first_or AWord) is) (ap (λ (some : List Sort). first_or AWord (drop 1 some)) is)

-- what stands behind a name is on top of what stands before it
pub suffixes_end : (values : List Value) → IsSome (effect (Do JoinSuffixes) (sorts_of values)) → EndsInLists values
suffixes_end values finds = two_of_three (sorts_of values) (fit JoinSuffixes values finds)

-- A node that is made

abbrev state_or : State → ActionOutcome → State
state_or s (Goes next) = next
state_or s (Refuses fault stands) = s

-- the state behind it, where there is room for a node
made_there : (test : Bool) (s next mid : State) (fault : Fault) (stands : ℕ) → (if test then Goes next else Refuses fault stands) ≡ Goes mid → (test ≡ true) × (mid ≡ next)
made_there true s next mid fault stands is = (refl, sym (ap (state_or s) is))
made_there false s next mid fault stands is = absurd (cc is)

pub made_state : (s mid : State) (count : ℕ) (value : Value) → made_as s count value ≡ Goes mid
    → (nat_lt s.nodes most_nodes ≡ true) × (mid ≡ record s { values = value ∷ drop count s.values; nodes = s.nodes + 1 })
made_state s mid count value is = made_there (nat_lt s.nodes most_nodes) s (record s { values = value ∷ drop count s.values; nodes = s.nodes + 1 }) mid (PassesLimit Nodes) s.next_token is

told_if : (test : Bool) (next other : State) (refusal : Fault) (stands : ℕ) (fault : ActionFault)
    → IsToldBy (if test then Goes next else Refuses refusal stands) fault → IsToldBy (if test then Goes other else Refuses refusal stands) fault
told_if true next other refusal stands (Refused kind token) told = absurd (cc told)
told_if true next other refusal stands (Limit limit token) told = absurd (cc told)
told_if true next other refusal stands Memory told = tt
told_if false next other refusal stands fault told = told

-- whatever the value is that comes, the limit is told alike
pub told_alike : (s : State) (count others : ℕ) (value other : Value) (fault : ActionFault) → IsToldBy (made_as s count value) fault → IsToldBy (made_as s others other) fault
told_alike s count others value other fault told =
    told_if (nat_lt s.nodes most_nodes) (record s { values = value ∷ drop count s.values; nodes = s.nodes + 1 })
    (record s { values = other ∷ drop others s.values; nodes = s.nodes + 1 }) (PassesLimit Nodes) s.next_token fault told

-- a fault that is handed on
pub passed_on : {T : Type 0} (P : ActionFault → Type 0) (fault : ActionFault) (result : Result T ActionFault) → IsErrAnd result (λ other. other ≡ fault) → P fault
    → IfErr result P
passed_on P fault result is holds =
    let found = err_from_is_err_and result is in
    subst (λ one. IfErr one P) (sym found.1) (subst P (sym found.2) holds)

-- A node that stands alone in a list

pub listed_covers : (s mid : State) (takes : ℕ) (tree : SyntaxTree) → made s takes tree ≡ Goes mid → IsCovered mid.values 1 (OneTree TypePart 0 ∷ [])
listed_covers s mid takes tree is =
    subst (λ (state : State). IsCovered state.values 1 (OneTree TypePart 0 ∷ [])) (sym (made_state s mid takes (TreeValue tree) is).1) refl

pub listed : (s mid : State) (takes : ℕ) (tree : SyntaxTree) → made s takes tree ≡ Goes mid
    → made_list s takes TypePart tree ≡ Goes (with_value mid 1 (ListValue (parts_given mid.values (OneTree TypePart 0 ∷ []))))
listed s mid takes tree is =
    let (room, reached) = made_state s mid takes (TreeValue tree) is in
    let list : Value = ListValue (Part TypePart tree NoParts) in
    ap (λ (test : Bool). if test then Goes (record s { values = list ∷ drop takes s.values; nodes = s.nodes + 1 }) else Refuses (PassesLimit Nodes) s.next_token) room
    ∙ sym (ap (λ (state : State). Goes (with_value state 1 (ListValue (parts_given state.values (OneTree TypePart 0 ∷ []))))) reached)

pub listed_told : (s : State) (takes : ℕ) (tree : SyntaxTree) (fault : ActionFault) → IsToldBy (made s takes tree) fault → IsToldBy (made_list s takes TypePart tree) fault
listed_told s takes tree fault told = told_alike s takes takes (TreeValue tree) (ListValue (Part TypePart tree NoParts)) fault told

-- Attributes in parentheses

pub none_in_parentheses : (s : State) (word : Value) (parts : Parts (List ℕ)) → part_count parts ≡ 0 → attributes_list s word parts ≡ Goes (with_value s 2 (ListValue parts))
none_in_parentheses s word NoParts none = refl
none_in_parentheses s word (Part role tree parts) none = absurd (omega (arith, none))

pub some_in_parentheses : (s : State) (word : Value) (parts : Parts (List ℕ)) → (part_count parts ≡ 0 → ⊥)
    → attributes_list s word parts ≡ made_list s 2 TypePart (plain_tree kinds.ParenthesizedAttributes (token_of word) parts)
some_in_parentheses s word NoParts some = absurd (some refl)
some_in_parentheses s word (Part role tree parts) some = refl

-- Optional declarators

pub nothing_declared : (s : State) (name list : Value) → (has_spelling name || nat_lt 0 (part_count (parts_of list))) ≡ false
    → optional_declarator s name list ≡ Goes (with_value s 2 (ListValue (parts_of list)))
nothing_declared s name list nothing =
    declared_not (has_spelling name) s name (parts_of list) nothing
  where
    declared_not : (test : Bool) (state : State) (word : Value) (parts : Parts (List ℕ)) → (test || nat_lt 0 (part_count parts)) ≡ false
        → (if test then made_list state 2 TypePart (named_tree kinds.Declarator (token_of word) (text_of word) parts) else unnamed_declarator state word parts)
        ≡ Goes (with_value state 2 (ListValue parts))
    declared_not true state word parts is = absurd (cc is)
    declared_not false state word NoParts is = refl
    declared_not false state word (Part role tree parts) is =
        let more : nat_lt 0 (part_count (Part role tree parts)) ≡ true = lt-ltb 0 (1 + part_count parts) (omega arith) in
        absurd (cc (more, is))

-- a word without a spelling
unspelled : (name : Value) → has_spelling name ≡ false → text_of name ≡ []
unspelled (WordValue token []) is = refl
unspelled (WordValue token (byte ∷ bytes)) is = absurd (cc is)
unspelled (TreeValue tree) is = refl
unspelled (ListValue parts) is = refl

pub something_declared : (s : State) (name list : Value) → (has_spelling name || nat_lt 0 (part_count (parts_of list))) ≡ true
    → optional_declarator s name list ≡ made_list s 2 TypePart (named_tree kinds.Declarator (token_of name) (text_of name) (parts_of list))
something_declared s name list something = declared_so (has_spelling name) (unspelled name) (parts_of list) something
  where
    declared_so : (test : Bool) → (test ≡ false → text_of name ≡ []) → (parts : Parts (List ℕ)) → (test || nat_lt 0 (part_count parts)) ≡ true
        → (if test then made_list s 2 TypePart (named_tree kinds.Declarator (token_of name) (text_of name) parts) else unnamed_declarator s name parts)
        ≡ made_list s 2 TypePart (named_tree kinds.Declarator (token_of name) (text_of name) parts)
    declared_so true no_text parts is = refl
    declared_so false no_text NoParts is = absurd (cc is)
    declared_so false no_text (Part role tree parts) is =
        ap (λ (text : List ℕ). made_list s 2 TypePart (named_tree kinds.Declarator (token_of name) text (Part role tree parts))) (sym (no_text refl))

-- Leading attributes

two_lists : (values : List Value) → IsSome (effect (Do AppendLeadingAttributes) (sorts_of values)) → take 2 (sorts_of values) ≡ AList ∷ AList ∷ []
two_lists values finds = fit AppendLeadingAttributes values finds

pub leading_covers : (values : List Value) → IsSome (effect (Do AppendLeadingAttributes) (sorts_of values)) → IsCovered values 1 (AllTrees 0 ∷ [])
leading_covers values finds = one_list values (two_lists values finds)
  where
    one_list : (stack : List Value) → take 2 (sorts_of stack) ≡ AList ∷ AList ∷ [] → IsCovered stack 1 (AllTrees 0 ∷ [])
    one_list [] is = absurd (cc is)
    one_list (ListValue parts ∷ stack) is = refl
    one_list (WordValue token text ∷ stack) is = absurd (cc is)
    one_list (TreeValue tree ∷ stack) is = absurd (cc is)

pub both_cover : (values : List Value) → IsSome (effect (Do AppendLeadingAttributes) (sorts_of values)) → IsCovered values 2 (AllTrees 1 ∷ AllTrees 0 ∷ [])
both_cover values finds = covered values 2 (AList ∷ AList ∷ []) (AllTrees 1 ∷ AllTrees 0 ∷ []) (two_lists values finds) refl

-- an empty list on another one leaves that one
pub no_leading : (s : State) → IsSome (effect (Do AppendLeadingAttributes) (sorts_of s.values)) → part_count (parts_of (below s 0)) ≡ 0
    → act AppendLeadingAttributes s ≡ Goes (with_value s 2 (ListValue (parts_given s.values (AllTrees 1 ∷ AllTrees 0 ∷ []))))
no_leading s finds none =
    without (parts_of (below s 0)) none ∙ ap (λ (list : Value). Goes (with_value s 2 list)) (list_is s.values (two_lists s.values finds) none)
  where
    without : (parts : Parts (List ℕ)) → part_count parts ≡ 0 → leading_attributes s (below s 1) parts ≡ Goes (with_value s 2 (below s 1))
    without NoParts is = refl
    without (Part role tree parts) is = absurd (omega (arith, is))

    empty : (parts : Parts (List ℕ)) → part_count parts ≡ 0 → parts ≡ NoParts
    empty NoParts is = refl
    empty (Part role tree parts) is = absurd (omega (arith, is))

    list_is : (stack : List Value) → take 2 (sorts_of stack) ≡ AList ∷ AList ∷ [] → part_count (parts_of (value_at stack 0)) ≡ 0
        → value_at stack 1 ≡ ListValue (parts_given stack (AllTrees 1 ∷ AllTrees 0 ∷ []))
    list_is [] is count = absurd (cc is)
    list_is (value ∷ []) is count = absurd (cc is)
    list_is (value ∷ WordValue token text ∷ stack) is count = absurd (cc is)
    list_is (value ∷ TreeValue tree ∷ stack) is count = absurd (cc is)
    list_is (value ∷ ListValue parts ∷ stack) is count =
        ap ListValue (sym (ap (λ (behind : Parts (List ℕ)). with_parts parts behind) (empty (parts_of value) count) ∙ with_parts-NoParts parts))

some_leading : (s : State) (list : Value) (parts : Parts (List ℕ)) → (part_count parts ≡ 0 → ⊥)
    → leading_attributes s list parts
    ≡ made_as s 2 (ListValue (with_parts (parts_of list) (Part TypePart (plain_tree kinds.LeadingAttributes (first_tree_token parts) parts) NoParts)))
some_leading s list NoParts some = absurd (some refl)
some_leading s list (Part role tree parts) some = refl

pub appended_covers : (s mid : State) (tree : SyntaxTree) → IsSome (effect (Do AppendLeadingAttributes) (sorts_of s.values)) → made s 1 tree ≡ Goes mid
    → IsCovered mid.values 2 (AllTrees 1 ∷ OneTree TypePart 0 ∷ [])
appended_covers s mid tree finds is =
    subst (λ (state : State). IsCovered state.values 2 (AllTrees 1 ∷ OneTree TypePart 0 ∷ [])) (sym (made_state s mid 1 (TreeValue tree) is).1)
    (one_more s.values (two_lists s.values finds))
  where
    one_more : (stack : List Value) → take 2 (sorts_of stack) ≡ AList ∷ AList ∷ [] → IsCovered (TreeValue tree ∷ drop 1 stack) 2 (AllTrees 1 ∷ OneTree TypePart 0 ∷ [])
    one_more [] fits = absurd (cc fits)
    one_more (value ∷ []) fits = absurd (cc fits)
    one_more (value ∷ ListValue parts ∷ stack) fits = refl
    one_more (value ∷ WordValue token text ∷ stack) fits = absurd (cc fits)
    one_more (value ∷ TreeValue other ∷ stack) fits = absurd (cc fits)

pub leading_appended : (s mid : State) (token : ℕ) → (part_count (parts_of (below s 0)) ≡ 0 → ⊥) → token ≡ first_tree_token (parts_of (below s 0))
    → made s 1 (plain_tree kinds.LeadingAttributes token (parts_of (below s 0))) ≡ Goes mid
    → act AppendLeadingAttributes s ≡ Goes (with_value mid 2 (ListValue (parts_given mid.values (AllTrees 1 ∷ OneTree TypePart 0 ∷ []))))
leading_appended s mid token some at is =
    let attributes : Parts (List ℕ) = parts_of (below s 0) in
    let tree : SyntaxTree = plain_tree kinds.LeadingAttributes token attributes in
    let list : Value = ListValue (with_parts (parts_of (below s 1)) (Part TypePart tree NoParts)) in
    let (room, reached) = made_state s mid 1 (TreeValue tree) is in
    some_leading s (below s 1) attributes some
    ∙ ap (λ (first : ℕ). made_as s 2 (ListValue (with_parts (parts_of (below s 1)) (Part TypePart (plain_tree kinds.LeadingAttributes first attributes) NoParts)))) (sym at)
    ∙ ap (λ (test : Bool). if test then Goes (record s { values = list ∷ drop 2 s.values; nodes = s.nodes + 1 }) else Refuses (PassesLimit Nodes) s.next_token) room
    ∙ same s.values
    ∙ sym (ap (λ (state : State). Goes (with_value state 2 (ListValue (parts_given state.values (AllTrees 1 ∷ OneTree TypePart 0 ∷ []))))) reached)
  where
    same : (stack : List Value) → Goes (record s { values = ListValue (with_parts (parts_of (value_at stack 1)) (Part TypePart (plain_tree kinds.LeadingAttributes token (parts_of (below s 0))) NoParts)) ∷ drop 2 stack; nodes = s.nodes + 1 })
        ≡ Goes (record s { values = ListValue (with_parts (parts_of (value_at (drop 1 stack) 0)) (Part TypePart (plain_tree kinds.LeadingAttributes token (parts_of (below s 0))) NoParts)) ∷ drop 1 (drop 1 stack); nodes = s.nodes + 1 })
    same [] = refl
    same (value ∷ []) = refl
    same (value ∷ other ∷ stack) = refl

pub leading_told : (s : State) (token : ℕ) (fault : ActionFault) → (part_count (parts_of (below s 0)) ≡ 0 → ⊥)
    → IsToldBy (made s 1 (plain_tree kinds.LeadingAttributes token (parts_of (below s 0)))) fault → IsToldBy (act AppendLeadingAttributes s) fault
leading_told s token fault some told =
    subst (λ (outcome : ActionOutcome). IsToldBy outcome fault) (sym (some_leading s (below s 1) (parts_of (below s 0)) some))
    (told_alike s 1 2 _ _ fault told)
