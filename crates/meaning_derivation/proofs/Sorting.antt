-- Each action that goes on leaves values of the sorts that its effect says.
use Rattle.std.proofs.Common.{◌≡◌, ℕ, zero, suc, ◌+◌, Bool, true, false, ◌&&◌, List, [], ◌∷◌, ◌++◌, drop, length, reverse, slice_get, Option, Some, None, refl, sym, ap, subst, ◌∙◌, arith, if◌then◌else◌, nat_lt, Result, Ok, Err, ℤ}
use Rattle.std.proofs.lemmas.List.{map-append}
use Rattle.std.proofs.lemmas.Option.{same_Some, slice_get_within}
use Rattle.vocabulary.specs.declared.error_kind.ErrorKind.TheVariants.{BadDeclaration}
use Rattle.vocabulary.specs.declared.limit.LimitKind.TheVariants.{Parameters}
use Rattle.vocabulary.specs.declared.role.Role.TheVariants.{TypePart}
use Rattle.vocabulary.specs.declared.scope.NameSpace.TheVariants.{Ordinary, Tags}
use Rattle.vocabulary.specs.declared.scope.Bound.{Bound}
use Rattle.vocabulary.specs.declared.scope.Bound.TheVariants.{Enumerator, Unlinked}
use Rattle.vocabulary.specs.declared.action.Action.{Action}
use Rattle.vocabulary.specs.declared.action.Action.TheVariants.{Append, AppendAttribute, AppendDeclarator, AppendLeadingAttributes, AwaitBody, BeginAtNext, BeginDeclarators, BeginList, BindDeclarator, BindEnumerator, BindFurtherDeclarator, BindParameter, CloseParameters, CloseScope, CountParameter, DeclareTag, DefineTag, JoinAnyParts, JoinParts, JoinSuffixes, MakeAttributeList, MakeBlockSpecifiers, MakeCharacterConstant, MakeContextStatement, MakeFileSpecifiers, MakeForPart, MakeIntegerConstant, MakeMemberSpecifiers, MakeOptionalDeclarator, MakeParameterSpecifiers, MakeParenthesizedAttributes, MakeStringLiteral, MakeTypeName, MakeTypeNameSpecifiers, NoteFunctionDeclarator, OpenBody, OpenScope, RequireType, RequireTypeOrAttributes, UseName, UseTag, UseTypedefName, WithoutTag}
use Rattle.vocabulary.specs.declared.int_kind.IntKind.{IntKind}
use Rattle.vocabulary.specs.declared.node_kind.NodeKind.{NodeKind}
use Rattle.vocabulary.specs.declared.node_kind.NodeKind.TheVariants as kinds
use Rattle.vocabulary.specs.declared.production_item.ProductionItem.{ProductionItem}
use Rattle.vocabulary.specs.declared.production_item.ProductionItem.TheVariants.{Do}
use Rattle.meaning_attributes.specs.Pieces.{in_parentheses}
use Rattle.meaning_attributes.specs.Integers.{PlacedConstant, constants_from}
use Rattle.meaning_attributes.specs.Attributes.{Attributes, Attribute, HasSpace, HasContext, HasAlign, HasFlag, no_attributes}
use Rattle.meaning_attributes.specs.Items.{attribute_of}
use Rattle.meaning_attributes.specs.Reading.{Refusal, HasBad, HasLimit, attributes_read}
use Rattle.meaning_attributes.specs.Contexts.{ChangeFault, BadChange, ChangePassesLimit, change_of}
use Rattle.meaning_literals.specs.Constants.{Constant, Fault}
use Rattle.meaning_literals.specs.Integers.{integer_of}
use Rattle.meaning_literals.specs.Quoted.{char_of}
use Rattle.meaning_tree.specs.Trees.{SyntaxTree, Node, Parts, NoParts, Part}
use Rattle.meaning_scopes.specs.Scopes.{Found, is_open}
use Rattle.meaning_scopes.specs.Redeclaration.{bound_here, is_redeclared}
use Rattle.meaning_grammar.specs.Sorts.{Sort, AWord, ATree, AList, is_same_sort, action_effect, exchanged, effect, effects}
use Rattle.meaning_derivation.specs.Values.{Value, WordValue, TreeValue, ListValue, sort_of, sorts_of, value_at, token_of, text_of, parts_of, name_of}
use Rattle.meaning_derivation.specs.State.{State, ActionOutcome, Goes, Refuses, made, made_as, most_nodes, with_limit}
use Rattle.meaning_derivation.specs.Lists.{appended, has_spelling, name_or, unnamed_declarator, attributes_list, leading_attributes, part_of_for, part_count, most_parameters, type_name}
use Rattle.meaning_derivation.specs.State as states
use Rattle.meaning_derivation.specs.Literals.{BadLiteral, bad_piece, constant_made, string_made}
use Rattle.meaning_derivation.specs.Contexts.{tokens_behind, context_made}
use Rattle.meaning_derivation.specs.Attributes.{tokens_from, listed_tokens, attributes_made, constant_at, context_tree, and_then, attribute_appended, word_dropped, context_appended, item_appended}
use Rattle.meaning_derivation.specs.Scoping.{declared, bound_as, hidden_number, hiding_bound, own_name_hidden, top_numbered, parameter_bound, tag_at, is_member_list, is_lone_tag, is_new_here, with_own_keyword, tag_declared, found_name, found_here, parts_below, ends_with_parameters, name_used, typedef_named, without_closed}
use Rattle.meaning_derivation.specs.Storage.{has_kind}
use Rattle.meaning_derivation.specs.Specifiers.{is_bad_in_file, is_bad_in_block, is_bad_member, is_refused_parameter, parameter_error, held_where}
use Rattle.meaning_derivation.specs.Actions.{below, specified}
use Rattle.meaning_derivation.specs.laws.Sorts.{ActionsAreSorted, ActionsLeadOn}

-- Stacks of sorts

same_sort : (sort other : Sort) → is_same_sort sort other ≡ true → sort ≡ other
same_sort AWord AWord is = refl
same_sort ATree ATree is = refl
same_sort AList AList is = refl
same_sort AWord ATree is = absurd (cc is)
same_sort AWord AList is = absurd (cc is)
same_sort ATree AWord is = absurd (cc is)
same_sort ATree AList is = absurd (cc is)
same_sort AList AWord is = absurd (cc is)
same_sort AList ATree is = absurd (cc is)

-- what was on the top, and is now there in its place
abbrev Exchange : (takes leaves sorts after : List Sort) → Type 0
Exchange takes leaves sorts after = (rest : List Sort) × (sorts ≡ takes ++ rest) × (after ≡ leaves ++ rest)

taken_first :
    (test : Bool) (sort other : Sort) (takes leaves sorts after : List Sort) → (test ≡ true → sort ≡ other)
    → (exchanged takes leaves sorts ≡ Some after → Exchange takes leaves sorts after)
    → (if test then exchanged takes leaves sorts else None) ≡ Some after → Exchange (sort ∷ takes) leaves (other ∷ sorts) after
taken_first true sort other takes leaves sorts after same behind is =
    let (rest, stood, left) = behind is in
    let first = same refl in
    (rest, cc, left)
taken_first false sort other takes leaves sorts after same behind is = absurd (cc is)

exchanged-cases : (takes leaves sorts after : List Sort) → exchanged takes leaves sorts ≡ Some after → Exchange takes leaves sorts after
exchanged-cases [] leaves sorts after is = (sorts, refl, sym (same_Some _ _ is))
exchanged-cases (sort ∷ takes) leaves [] after is = absurd (cc is)
exchanged-cases (sort ∷ takes) leaves (other ∷ sorts) after is =
    taken_first (is_same_sort sort other) sort other takes leaves sorts after (same_sort sort other) (exchanged-cases takes leaves sorts after) is

-- Stacks of values

sorts_of-drop : (count : ℕ) (values : List Value) → sorts_of (drop count values) ≡ drop count (sorts_of values)
sorts_of-drop zero values = refl
sorts_of-drop (suc count) [] = refl
sorts_of-drop (suc count) (value ∷ values) = sorts_of-drop count values

sort_at : (values : List Value) (depth : ℕ) (sort : Sort) → slice_get (sorts_of values) depth ≡ Some sort → sort_of (value_at values depth) ≡ sort
sort_at [] depth sort is = absurd (omega (arith, slice_get_within [] depth sort is))
sort_at (value ∷ values) zero sort is = same_Some _ _ is
sort_at (value ∷ values) (suc depth) sort is = sort_at values depth sort is

-- the action finds what it takes in this state, and leaves these
abbrev Finds : Action → State → List Sort → Type 0
Finds action s after = effect (Do action) (sorts_of s.values) ≡ Some after

-- what an action exchanges
exchange-cases : (action : Action) (s : State) (after : List Sort) → Finds action s after
    → Exchange (action_effect action).takes (action_effect action).leaves (sorts_of s.values) after
exchange-cases action s after finds =
    exchanged-cases (action_effect action).takes (action_effect action).leaves (sorts_of s.values) after finds

-- the sort of a value that an action takes
sort_below :
    (action : Action) (s : State) (after : List Sort) (depth : ℕ) (sort : Sort)
    → ((rest : List Sort) → slice_get ((action_effect action).takes ++ rest) depth ≡ Some sort)
    → Finds action s after → sort_of (below s depth) ≡ sort
sort_below action s after depth sort stands finds =
    let (rest, stood, left) = exchange-cases action s after finds in
    sort_at s.values depth sort (ap (λ sorts. slice_get sorts depth) stood ∙ stands rest)

-- new values in the place of so many
replaced :
    (action : Action) (count : ℕ) (new : List Value) (s next : State) (after : List Sort) → next.values ≡ new ++ drop count s.values
    → ((rest : List Sort) → sorts_of new ++ drop count ((action_effect action).takes ++ rest) ≡ (action_effect action).leaves ++ rest)
    → Finds action s after → sorts_of next.values ≡ after
replaced action count new s next after is leaves finds =
    let (rest, stood, left) = exchange-cases action s after finds in
    ap sorts_of is ∙ map-append sort_of new (drop count s.values)
    ∙ ap (λ sorts. sorts_of new ++ sorts) (sorts_of-drop count s.values ∙ ap (drop count) stood) ∙ leaves rest ∙ sym left

-- Outcomes of actions

abbrev state_or : State → ActionOutcome → State
state_or s (Goes next) = next
state_or s (Refuses fault stands) = s

-- the values of a state that is reached
reached : (goal next : State) → Goes goal ≡ Goes next → next.values ≡ goal.values
reached goal next is = sym (ap (λ outcome. (state_or goal outcome).values) is)

-- of one that is reached where a test passes, and of one where it doesn't
reached_if :
    (test : Bool) (goal next : State) (fault : states.Fault) (stands : ℕ) → (if test then Goes goal else Refuses fault stands) ≡ Goes next
    → next.values ≡ goal.values
reached_if true goal next fault stands is = reached goal next is
reached_if false goal next fault stands is = absurd (cc is)

reached_unless :
    (test : Bool) (goal next : State) (fault : states.Fault) (stands : ℕ) → (if test then Refuses fault stands else Goes goal) ≡ Goes next
    → next.values ≡ goal.values
reached_unless true goal next fault stands is = absurd (cc is)
reached_unless false goal next fault stands is = reached goal next is

-- a node is made
made-values : (s next : State) (count : ℕ) (value : Value) → made_as s count value ≡ Goes next → next.values ≡ value ∷ drop count s.values
made-values s next count value is =
    reached_if (nat_lt s.nodes most_nodes) (record s { values = value ∷ drop count s.values; nodes = s.nodes + 1 }) next _ _ is

made-sorted :
    (action : Action) (count : ℕ) (value : Value) (s next : State) (after : List Sort) → made_as s count value ≡ Goes next
    → ((rest : List Sort) → sort_of value ∷ drop count ((action_effect action).takes ++ rest) ≡ (action_effect action).leaves ++ rest)
    → Finds action s after → sorts_of next.values ≡ after
made-sorted action count value s next after is = replaced action count (value ∷ []) s next after (made-values s next count value is)

-- Actions that look at what they take

unnamed-sorted :
    (s next : State) (place : Value) (parts : Parts (List ℕ)) (after : List Sort) → unnamed_declarator s place parts ≡ Goes next
    → Finds MakeOptionalDeclarator s after → sorts_of next.values ≡ after
unnamed-sorted s next place NoParts after is =
    replaced MakeOptionalDeclarator 2 (ListValue NoParts ∷ []) s next after (reached _ next is) (λ rest. refl)
unnamed-sorted s next place (Part role tree parts) after is =
    made-sorted MakeOptionalDeclarator 2 (ListValue _) s next after is (λ rest. refl)

optional-sorted :
    (test : Bool) (s next : State) (named : Parts (List ℕ)) (place : Value) (parts : Parts (List ℕ)) (after : List Sort)
    → (if test then made_as s 2 (ListValue named) else unnamed_declarator s place parts) ≡ Goes next
    → Finds MakeOptionalDeclarator s after → sorts_of next.values ≡ after
optional-sorted true s next named place parts after is =
    made-sorted MakeOptionalDeclarator 2 (ListValue named) s next after is (λ rest. refl)
optional-sorted false s next named place parts after is = unnamed-sorted s next place parts after is

type_name-sorted :
    (s next : State) (specifiers : Value) (parts : Parts (List ℕ)) (after : List Sort) → type_name s specifiers parts ≡ Goes next
    → Finds MakeTypeName s after → sorts_of next.values ≡ after
type_name-sorted s next specifiers NoParts after is = made-sorted MakeTypeName 2 (TreeValue _) s next after is (λ rest. refl)
type_name-sorted s next specifiers (Part role (Node kind token [] number parts) others) after is =
    made-sorted MakeTypeName 2 (TreeValue _) s next after is (λ rest. refl)
type_name-sorted s next specifiers (Part role (Node kind token (byte ∷ bytes) number parts) others) after is = absurd (cc is)

attributes-sorted :
    (s next : State) (word : Value) (parts : Parts (List ℕ)) (after : List Sort) → attributes_list s word parts ≡ Goes next
    → Finds MakeParenthesizedAttributes s after → sorts_of next.values ≡ after
attributes-sorted s next word NoParts after is =
    replaced MakeParenthesizedAttributes 2 (ListValue NoParts ∷ []) s next after (reached _ next is) (λ rest. refl)
attributes-sorted s next word (Part role tree parts) after is =
    made-sorted MakeParenthesizedAttributes 2 (ListValue _) s next after is (λ rest. refl)

leading-sorted :
    (s next : State) (list : Value) (parts : Parts (List ℕ)) (after : List Sort) → sort_of list ≡ AList
    → leading_attributes s list parts ≡ Goes next → Finds AppendLeadingAttributes s after → sorts_of next.values ≡ after
leading-sorted s next list NoParts after is_list is =
    replaced AppendLeadingAttributes 2 (list ∷ []) s next after (reached _ next is) (λ rest. ap (λ sort. sort ∷ rest) is_list)
leading-sorted s next list (Part role tree parts) after is_list is =
    made-sorted AppendLeadingAttributes 2 (ListValue _) s next after is (λ rest. refl)

for_part-sorted :
    (s next : State) (parts : Parts (List ℕ)) (word : Value) (after : List Sort) → part_of_for s parts word ≡ Goes next
    → Finds MakeForPart s after → sorts_of next.values ≡ after
for_part-sorted s next NoParts word after is = made-sorted MakeForPart 2 (TreeValue _) s next after is (λ rest. refl)
for_part-sorted s next (Part role tree (Part next_role other parts)) word after is = made-sorted MakeForPart 2 (TreeValue _) s next after is (λ rest. refl)
for_part-sorted s next (Part role tree NoParts) word after is =
    replaced MakeForPart 2 (TreeValue tree ∷ []) s next after (reached _ next is) (λ rest. refl)

-- one of two words
word-sort : (test : Bool) (place name : Value) → sort_of place ≡ AWord → sort_of name ≡ AWord → sort_of (if test then name else place) ≡ AWord
word-sort true place name is_place is_name = is_name
word-sort false place name is_place is_name = is_place

-- a name is bound, and the tree on top has another number
top_numbered-sorts : (s : State) (number : ℕ) (values : List Value) → s.values ≡ values → sorts_of (top_numbered s number (value_at values 0)).values ≡ sorts_of values
top_numbered-sorts s number [] is = ap sorts_of is
top_numbered-sorts s number (WordValue token text ∷ values) is = ap sorts_of is
top_numbered-sorts s number (TreeValue tree ∷ values) is = ap (λ (all : List Value). ATree ∷ sorts_of (drop 1 all)) is
top_numbered-sorts s number (ListValue NoParts ∷ values) is = ap sorts_of is
top_numbered-sorts s number (ListValue (Part role tree NoParts) ∷ values) is = ap (λ (all : List Value). AList ∷ sorts_of (drop 1 all)) is
top_numbered-sorts s number (ListValue (Part role tree (Part other_role other parts)) ∷ values) is = ap sorts_of is

declared-sorts : (s next : State) (tree : Value) (new : Bound) → declared s tree new ≡ Goes next → sorts_of next.values ≡ sorts_of s.values
declared-sorts s next tree new is =
    ap sorts_of (reached_unless (is_redeclared (bound_here (found_name s Ordinary (name_of tree))) new) (hiding_bound s (name_of tree) new) next _ _ is)
    ∙ top_numbered-sorts s (hidden_number (found_name s Ordinary (name_of tree))) s.values refl

parameter-sorts :
    (s next : State) (specifiers : Value) (parts : Parts (List ℕ)) → parameter_bound s specifiers parts ≡ Goes next → sorts_of next.values ≡ sorts_of s.values
parameter-sorts s next specifiers NoParts is = ap sorts_of (reached s next is)
parameter-sorts s next specifiers (Part role (Node kind token [] number parts) others) is = ap sorts_of (reached s next is)
parameter-sorts s next specifiers (Part role (Node kind token (byte ∷ bytes) number parts) others) is =
    declared-sorts s next (TreeValue (Node kind token (byte ∷ bytes) number parts)) Unlinked is

-- the tree below the top has another number somewhere in it
own_name-sorts : (s : State) (declarator : Value) (values : List Value) → s.values ≡ values → sort_of declarator ≡ ATree → value_at values 1 ≡ declarator
    → sorts_of (own_name_hidden s declarator).values ≡ sorts_of values
own_name-sorts s (WordValue token text) values is tree stands = ap sorts_of is
own_name-sorts s (ListValue parts) values is tree stands = ap sorts_of is
own_name-sorts s (TreeValue declarator) [] is tree stands = absurd (cc stands)
own_name-sorts s (TreeValue declarator) (top ∷ []) is tree stands = absurd (cc stands)
own_name-sorts s (TreeValue declarator) (top ∷ second ∷ values) is tree stands =
    ap (λ (all : List Value). sort_of (value_at all 0) ∷ ATree ∷ sorts_of (drop 2 all)) is
    ∙ ap (λ (one : Value). sort_of top ∷ sort_of one ∷ sorts_of values) (sym stands)

-- something is noted, or not
noted-values : (test : Bool) (s noted : State) → noted.values ≡ s.values → (if test then noted else s).values ≡ s.values
noted-values true s noted is = is
noted-values false s noted is = refl

limited-values : (test : Bool) (s limited : State) → limited.values ≡ s.values → (if test then s else limited).values ≡ s.values
limited-values true s limited is = refl
limited-values false s limited is = is

-- what was on the top stays there
kept-sorted :
    (action : Action) (s next : State) (after : List Sort) → next.values ≡ s.values
    → ((rest : List Sort) → (action_effect action).takes ++ rest ≡ (action_effect action).leaves ++ rest)
    → Finds action s after → sorts_of next.values ≡ after
kept-sorted action s next after is = replaced action 0 [] s next after is

-- so does its sort
kept_sorts :
    (action : Action) (s next : State) (after : List Sort) → sorts_of next.values ≡ sorts_of s.values
    → ((rest : List Sort) → (action_effect action).takes ++ rest ≡ (action_effect action).leaves ++ rest)
    → Finds action s after → sorts_of next.values ≡ after
kept_sorts action s next after is leaves finds =
    let (rest, stood, left) = exchange-cases action s after finds in
    is ∙ stood ∙ leaves rest ∙ sym left

-- the keyword that first names a tag is put on the top
tag-sorted :
    (action : Action) (s next : State) (found : Option (Found (List ℕ))) (tag : List ℕ) (keyword : ℕ) (after : List Sort)
    → tag_at s found tag keyword ≡ Goes next
    → ((rest : List Sort) → AWord ∷ (action_effect action).takes ++ rest ≡ (action_effect action).leaves ++ rest)
    → Finds action s after → sorts_of next.values ≡ after
tag-sorted action s next None tag keyword after is = replaced action 0 (WordValue keyword [] ∷ []) s next after (reached _ next is)
tag-sorted action s next (Some first) tag keyword after is =
    replaced action 0 (WordValue first.entry.declaration [] ∷ []) s next after (reached _ next is)

-- a tree is put in the place of another one, or not
declared_tag-either :
    (test : Bool) (s next : State) (tag : List ℕ) (keyword : ℕ) (tree : SyntaxTree) (after : List Sort)
    → Goes (if test then with_own_keyword s tag keyword tree else s) ≡ Goes next → Finds DeclareTag s after → sorts_of next.values ≡ after
declared_tag-either true s next tag keyword tree after is = replaced DeclareTag 1 (TreeValue tree ∷ []) s next after (reached _ next is) (λ rest. refl)
declared_tag-either false s next tag keyword tree after is = kept-sorted DeclareTag s next after (reached _ next is) (λ rest. refl)

declared_tag-sorted :
    (s next : State) (specifiers : Value) (after : List Sort) → tag_declared s specifiers ≡ Goes next → Finds DeclareTag s after → sorts_of next.values ≡ after
declared_tag-sorted s next (TreeValue (Node kind token name number (Part role (Node specifier keyword tag first parts) NoParts))) after is =
    declared_tag-either (is_lone_tag specifier tag (has_kind is_member_list parts) && is_new_here s tag) s next tag keyword _ after is
declared_tag-sorted s next (TreeValue (Node kind token name number NoParts)) after is = kept-sorted DeclareTag s next after (reached _ next is) (λ rest. refl)
declared_tag-sorted s next (TreeValue (Node kind token name number (Part role (Node specifier keyword tag first parts) (Part other_role other others)))) after is =
    kept-sorted DeclareTag s next after (reached _ next is) (λ rest. refl)
declared_tag-sorted s next (WordValue token text) after is = kept-sorted DeclareTag s next after (reached _ next is) (λ rest. refl)
declared_tag-sorted s next (ListValue parts) after is = kept-sorted DeclareTag s next after (reached _ next is) (λ rest. refl)

name-sorted :
    (s next : State) (found : Option (Found (List ℕ))) (word : Value) (after : List Sort) → name_used s found word ≡ Goes next
    → Finds UseName s after → sorts_of next.values ≡ after
name-sorted s next None word after is = absurd (cc is)
name-sorted s next (Some declaration) word after is = made-sorted UseName 1 (TreeValue _) s next after is (λ rest. refl)

typedef-sorted :
    (s next : State) (found : Option (Found (List ℕ))) (word : Value) (after : List Sort) → typedef_named s found word ≡ Goes next
    → Finds UseTypedefName s after → sorts_of next.values ≡ after
typedef-sorted s next None word after is = absurd (cc is)
typedef-sorted s next (Some declaration) word after is = made-sorted UseTypedefName 1 (TreeValue _) s next after is (λ rest. refl)

constant-sorted :
    (action : Action) (s next : State) (kind_of : IntKind → NodeKind) (word : Value) (found : Result Constant Fault) (after : List Sort)
    → constant_made s kind_of word found ≡ Goes next
    → ((rest : List Sort) → ATree ∷ drop 1 ((action_effect action).takes ++ rest) ≡ (action_effect action).leaves ++ rest)
    → Finds action s after → sorts_of next.values ≡ after
constant-sorted action s next kind_of word (Ok constant) after is = made-sorted action 1 (TreeValue _) s next after is
constant-sorted action s next kind_of word (Err fault) after is = absurd (cc is)

string-sorted :
    (s next : State) (word list : Value) (bad : Option BadLiteral) (after : List Sort) → string_made s word list bad ≡ Goes next
    → Finds MakeStringLiteral s after → sorts_of next.values ≡ after
string-sorted s next word list None after is = made-sorted MakeStringLiteral 2 (TreeValue _) s next after is (λ rest. refl)
string-sorted s next word list (Some bad) after is = absurd (cc is)

context-sorted :
    (s next : State) (word : Value) (change : Result ℤ ChangeFault) (after : List Sort) → context_made s word change ≡ Goes next
    → Finds MakeContextStatement s after → sorts_of next.values ≡ after
context-sorted s next word (Ok change) after is = made-sorted MakeContextStatement 1 (TreeValue _) s next after is (λ rest. refl)
context-sorted s next word (Err BadChange) after is = absurd (cc is)
context-sorted s next word (Err ChangePassesLimit) after is = absurd (cc is)

-- Attributes

attributes_made-sorted :
    (s next : State) (word list : Value) (found : Result Attributes Refusal) (after : List Sort) → attributes_made s word list found ≡ Goes next
    → Finds MakeAttributeList s after → sorts_of next.values ≡ after
attributes_made-sorted s next word list (Ok attributes) after is = made-sorted MakeAttributeList 2 (TreeValue _) s next after is (λ rest. refl)
attributes_made-sorted s next word list (Err (HasBad bad index)) after is = absurd (cc is)
attributes_made-sorted s next word list (Err HasLimit) after is = absurd (cc is)

-- the state between two steps
pub and_then-between :
    (outcome : ActionOutcome) (step : State → ActionOutcome) (next : State) → and_then outcome step ≡ Goes next
    → (middle : State) × (outcome ≡ Goes middle) × (step middle ≡ Goes next)
and_then-between (Goes middle) step next is = (middle, refl, is)
and_then-between (Refuses fault stands) step next is = absurd (cc is)

-- a node comes in the place of so many values, and goes to the end of the list below them
pub attribute_appended-values :
    (s next : State) (count : ℕ) (tree : SyntaxTree) → attribute_appended s count tree ≡ Goes next
    → next.values ≡ appended TypePart (value_at (drop count s.values) 0) (TreeValue tree) ∷ drop 1 (drop count s.values)
attribute_appended-values s next count tree is =
    let (middle, first, behind) = and_then-between (made s count tree) _ next is in
    reached _ next behind
    ∙ ap (λ all. appended TypePart (value_at all 1) (value_at all 0) ∷ drop 2 all) (made-values s middle count (TreeValue tree) first)

-- a context's two numbers come and go
pub context_appended-values :
    (s next : State) (word : Value) (leaves enters : PlacedConstant) (others : List PlacedConstant) → context_appended s word (leaves ∷ enters ∷ others) ≡ Goes next
    → next.values
    ≡ appended TypePart (value_at (drop 1 s.values) 0) (TreeValue (context_tree (token_of word) (constant_at enters) (constant_at leaves))) ∷ drop 1 (drop 1 s.values)
context_appended-values s next word leaves enters others is =
    let (one, first, behind) = and_then-between (made s 0 (constant_at enters)) _ next is in
    let (two, second, last) = and_then-between (made one 0 (constant_at leaves)) _ next behind in
    let values : two.values ≡ TreeValue (constant_at leaves) ∷ TreeValue (constant_at enters) ∷ s.values =
    made-values one two 0 _ second ∙ ap (λ all. TreeValue (constant_at leaves) ∷ all) (made-values s one 0 _ first) in
    attribute_appended-values two next 3 _ last
    ∙ ap
    (λ all. appended TypePart (value_at (drop 3 all) 0) (TreeValue (context_tree (token_of word) (constant_at enters) (constant_at leaves))) ∷ drop 1 (drop 3 all))
    values

drop_two : (values : List Value) → drop 1 (drop 1 values) ≡ drop 2 values
drop_two [] = refl
drop_two (value ∷ []) = refl
drop_two (value ∷ other ∷ values) = refl

attribute-sorted :
    (s next : State) (list : Parts (List ℕ)) (after : List Sort) → next.values ≡ ListValue list ∷ drop 1 (drop 1 s.values)
    → Finds AppendAttribute s after → sorts_of next.values ≡ after
attribute-sorted s next list after is =
    replaced AppendAttribute 2 (ListValue list ∷ []) s next after (is ∙ ap (λ rest. ListValue list ∷ rest) (drop_two s.values)) (λ rest. refl)

word_dropped-sorted : (s next : State) (after : List Sort) → word_dropped s ≡ Goes next → Finds AppendAttribute s after → sorts_of next.values ≡ after
word_dropped-sorted s next after is = replaced AppendAttribute 1 [] s next after (reached _ next is) (λ rest. refl)

context_appended-sorted :
    (s next : State) (word : Value) (constants : List PlacedConstant) (after : List Sort)
    → context_appended s word constants ≡ Goes next → Finds AppendAttribute s after → sorts_of next.values ≡ after
context_appended-sorted s next word [] after is = word_dropped-sorted s next after is
context_appended-sorted s next word (only ∷ []) after is = word_dropped-sorted s next after is
context_appended-sorted s next word (leaves ∷ enters ∷ others) after is =
    attribute-sorted s next _ after (context_appended-values s next word leaves enters others is)

item_appended-sorted :
    (s next : State) (word : Value) (found : Option Attribute) (after : List Sort)
    → item_appended s word found ≡ Goes next → Finds AppendAttribute s after → sorts_of next.values ≡ after
item_appended-sorted s next word None after is = word_dropped-sorted s next after is
item_appended-sorted s next word (Some (HasSpace space)) after is = attribute-sorted s next _ after (attribute_appended-values s next 1 _ is)
item_appended-sorted s next word (Some (HasAlign align)) after is = attribute-sorted s next _ after (attribute_appended-values s next 1 _ is)
item_appended-sorted s next word (Some (HasFlag flag)) after is = attribute-sorted s next _ after (attribute_appended-values s next 1 _ is)
item_appended-sorted s next word (Some (HasContext context)) after is =
    context_appended-sorted s next word (reverse (constants_from (token_of word) (tokens_from s word))) after is

-- Each action

pub actions_are_sorted : ActionsAreSorted
actions_are_sorted BeginList s next sorts is finds = replaced BeginList 0 (_ ∷ []) s next sorts (reached _ next is) (λ rest. refl) finds
actions_are_sorted BeginAtNext s next sorts is finds = replaced BeginAtNext 0 (_ ∷ _ ∷ []) s next sorts (reached _ next is) (λ rest. refl) finds
actions_are_sorted (Append role) s next sorts is finds = replaced (Append role) 2 (_ ∷ []) s next sorts (reached _ next is) (λ rest. refl) finds
actions_are_sorted BeginDeclarators s next sorts is finds = replaced BeginDeclarators 2 (_ ∷ []) s next sorts (reached _ next is) (λ rest. refl) finds
actions_are_sorted AppendDeclarator s next sorts is finds = replaced AppendDeclarator 3 (_ ∷ []) s next sorts (reached _ next is) (λ rest. refl) finds
actions_are_sorted AppendLeadingAttributes s next sorts is finds =
    leading-sorted s next _ _ sorts (sort_below AppendLeadingAttributes s sorts 1 AList (λ rest. refl) finds) is finds
actions_are_sorted BindDeclarator s next sorts is finds = kept_sorts BindDeclarator s next sorts (declared-sorts s next (below s 0) (bound_as s (below s 1) (below s 0)) is) (λ rest. refl) finds
actions_are_sorted BindFurtherDeclarator s next sorts is finds =
    kept_sorts BindFurtherDeclarator s next sorts (declared-sorts s next (below s 0) (bound_as s (below s 2) (below s 0)) is) (λ rest. refl) finds
actions_are_sorted NoteFunctionDeclarator s next sorts is finds =
    kept-sorted NoteFunctionDeclarator s next sorts
    (reached _ next is ∙ noted-values (is_open s.scopes && ends_with_parameters (parts_below (below s 1))) s (record s { function_end = Some s.taken }) refl) (λ rest. refl) finds
actions_are_sorted AwaitBody s next sorts is finds =
    kept_sorts AwaitBody s next sorts (ap sorts_of (reached _ next is) ∙ own_name-sorts s (below s 1) s.values refl (sort_below AwaitBody s sorts 1 ATree (λ rest. refl) finds) refl) (λ rest. refl) finds
actions_are_sorted MakeFileSpecifiers s next sorts is finds =
    made-sorted MakeFileSpecifiers 2 (TreeValue _) (held_where (is_bad_in_file (specified s)) BadDeclaration (token_of (below s 1)) (without_closed s)) next sorts is (λ rest. refl) finds
actions_are_sorted MakeBlockSpecifiers s next sorts is finds =
    made-sorted MakeBlockSpecifiers 2 (TreeValue _) (held_where (is_bad_in_block (specified s)) BadDeclaration (token_of (below s 1)) s) next sorts is (λ rest. refl) finds
actions_are_sorted MakeMemberSpecifiers s next sorts is finds =
    made-sorted MakeMemberSpecifiers 2 (TreeValue _) (held_where (is_bad_member (specified s)) BadDeclaration (token_of (below s 1)) s) next sorts is (λ rest. refl) finds
actions_are_sorted MakeParameterSpecifiers s next sorts is finds =
    made-sorted MakeParameterSpecifiers 2 (TreeValue _)
    (held_where (is_refused_parameter (specified s)) (parameter_error (specified s)) (token_of (below s 1)) s) next sorts is (λ rest. refl) finds
actions_are_sorted MakeTypeNameSpecifiers s next sorts is finds =
    made-sorted MakeTypeNameSpecifiers 2 (TreeValue _) (held_where (is_bad_member (specified s)) BadDeclaration (token_of (below s 1)) s) next sorts is (λ rest. refl) finds
actions_are_sorted RequireType s next sorts is finds = kept-sorted RequireType s next sorts (reached _ next is) (λ rest. refl) finds
actions_are_sorted RequireTypeOrAttributes s next sorts is finds =
    kept-sorted RequireTypeOrAttributes s next sorts (reached _ next is) (λ rest. refl) finds
actions_are_sorted DeclareTag s next sorts is finds = declared_tag-sorted s next (below s 0) sorts is finds
actions_are_sorted UseTypedefName s next sorts is finds =
    typedef-sorted s next (found_name s Ordinary (text_of (below s 0))) (below s 0) sorts is finds
actions_are_sorted DefineTag s next sorts is finds =
    tag-sorted DefineTag s next (found_here (found_name s Tags (text_of (below s 0)))) _ _ sorts is (λ rest. refl) finds
actions_are_sorted UseTag s next sorts is finds = tag-sorted UseTag s next (found_name s Tags (text_of (below s 0))) _ _ sorts is (λ rest. refl) finds
actions_are_sorted WithoutTag s next sorts is finds = replaced WithoutTag 0 (_ ∷ _ ∷ []) s next sorts (reached _ next is) (λ rest. refl) finds
actions_are_sorted BindEnumerator s next sorts is finds = kept_sorts BindEnumerator s next sorts (declared-sorts s next (below s 0) Enumerator is) (λ rest. refl) finds
actions_are_sorted MakeAttributeList s next sorts is finds =
    attributes_made-sorted s next (below s 1) (below s 0) (attributes_read no_attributes (listed_tokens s (below s 1))) sorts is finds
actions_are_sorted AppendAttribute s next sorts is finds =
    item_appended-sorted s next (below s 0) (attribute_of (tokens_from s (below s 0))) sorts is finds
actions_are_sorted JoinParts s next sorts is finds =
    replaced JoinParts 3 (_ ∷ below s 1 ∷ []) s next sorts (reached _ next is)
    (λ rest. ap (λ sort. AList ∷ sort ∷ rest) (sort_below JoinParts s sorts 1 AWord (λ others. refl) finds)) finds
actions_are_sorted JoinAnyParts s next sorts is finds =
    let name = sort_below JoinAnyParts s sorts 1 AWord (λ others. refl) finds in
    let place = sort_below JoinAnyParts s sorts 3 AWord (λ others. refl) finds in
    replaced JoinAnyParts 4 (_ ∷ name_or (below s 3) (below s 1) ∷ []) s next sorts (reached _ next is)
    (λ rest. ap (λ sort. AList ∷ sort ∷ rest) (word-sort (has_spelling (below s 1)) (below s 3) (below s 1) place name)) finds
actions_are_sorted JoinSuffixes s next sorts is finds = replaced JoinSuffixes 2 (_ ∷ []) s next sorts (reached _ next is) (λ rest. refl) finds
actions_are_sorted MakeParenthesizedAttributes s next sorts is finds = attributes-sorted s next (below s 1) (parts_of (below s 0)) sorts is finds
actions_are_sorted MakeOptionalDeclarator s next sorts is finds = optional-sorted (has_spelling (below s 1)) s next _ (below s 1) (parts_of (below s 0)) sorts is finds
actions_are_sorted MakeTypeName s next sorts is finds = type_name-sorted s next (below s 1) (parts_of (below s 0)) sorts is finds
actions_are_sorted CountParameter s next sorts is finds =
    kept-sorted CountParameter s next sorts
    (reached _ next is ∙ limited-values (nat_lt (part_count (parts_of (below s 0))) most_parameters) s (with_limit Parameters s) refl) (λ rest. refl) finds
actions_are_sorted BindParameter s next sorts is finds =
    kept_sorts BindParameter s next sorts (parameter-sorts s next (below s 1) (parts_of (below s 0)) is) (λ rest. refl) finds
actions_are_sorted CloseParameters s next sorts is finds = kept-sorted CloseParameters s next sorts (reached _ next is) (λ rest. refl) finds
actions_are_sorted OpenScope s next sorts is finds = kept-sorted OpenScope s next sorts (reached _ next is) (λ rest. refl) finds
actions_are_sorted CloseScope s next sorts is finds = kept-sorted CloseScope s next sorts (reached _ next is) (λ rest. refl) finds
actions_are_sorted OpenBody s next sorts is finds = kept-sorted OpenBody s next sorts (reached _ next is) (λ rest. refl) finds
actions_are_sorted MakeForPart s next sorts is finds = for_part-sorted s next (parts_of (below s 1)) (below s 0) sorts is finds
actions_are_sorted UseName s next sorts is finds = name-sorted s next (found_name s Ordinary (text_of (below s 0))) (below s 0) sorts is finds
actions_are_sorted MakeContextStatement s next sorts is finds =
    context-sorted s next (below s 0) (change_of (in_parentheses (tokens_behind s (below s 0)))) sorts is finds
actions_are_sorted MakeIntegerConstant s next sorts is finds =
    constant-sorted MakeIntegerConstant s next kinds.IntegerConstant (below s 0) (integer_of (text_of (below s 0))) sorts is (λ rest. refl) finds
actions_are_sorted MakeCharacterConstant s next sorts is finds =
    constant-sorted MakeCharacterConstant s next kinds.CharacterConstant (below s 0) (char_of (text_of (below s 0))) sorts is (λ rest. refl) finds
actions_are_sorted MakeStringLiteral s next sorts is finds =
    string-sorted s next (below s 1) (below s 0) (bad_piece (parts_of (below s 0))) sorts is finds
-- each other action puts one tree in the place of all that it takes
actions_are_sorted action s next sorts is finds =
    made-sorted action (length (action_effect action).takes) (TreeValue _) s next sorts is (λ rest. refl) finds

-- behind no stack there is none
effects-none : (items : List ProductionItem) → effects items None ≡ None
effects-none [] = refl
effects-none (item ∷ items) = effects-none items

leads_on :
    (items : List ProductionItem) (found : Option (List Sort)) (stack sorts : List Sort) → ((left : List Sort) → found ≡ Some left → stack ≡ left)
    → effects items found ≡ Some sorts → effects items (Some stack) ≡ Some sorts
leads_on items None stack sorts finds have = let clash : None ≡ Some sorts = sym (effects-none items) ∙ have in absurd (cc clash)
leads_on items (Some left) stack sorts finds have = subst (λ found. effects items (Some found) ≡ Some sorts) (sym (finds left refl)) have

pub actions_lead_on : ActionsLeadOn
actions_lead_on action items s next sorts is =
    leads_on items (effect (Do action) (sorts_of s.values)) (sorts_of next.values) sorts (λ left. actions_are_sorted action s next left is)
