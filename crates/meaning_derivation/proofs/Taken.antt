-- What is known where a terminal was taken.
use Rattle.std.proofs.Common.{◌≡◌, ℕ, ◌+◌, ◌*◌, ◌^◌, ◌<◌, ◌≤◌, Bool, true, false, not, List, [], ◌∷◌, Option, Some, None, length, drop, refl, sym, ap, subst, ◌∙◌, arith, if◌then◌else◌, nat_lt}
use Rattle.std.specs.List.{list_all}
use Rattle.std.proofs.lemmas.Bool.{and_parts}
use Rattle.vocabulary.specs.declared.token_class.TokenClass.TheVariants.{End}
use Rattle.vocabulary.specs.declared.production_item.ProductionItem.{ProductionItem}
use Rattle.vocabulary.specs.declared.production_item.ProductionItem.TheVariants.{Token, Passed, PassedAny, Name, LabelName, AttributeWord, CaseColon, DesignatorEnd, Nonterminal, Do}
use Rattle.meaning_grammar.specs.Classes.{is_same}
use Rattle.meaning_grammar.specs.Terminals.{Terminal}
use Rattle.meaning_grammar.specs.Items.{takes}
use Rattle.meaning_grammar.specs.Weights.{live}
use Rattle.meaning_grammar.specs.Sorts.{Sort, effect, effects}
use Rattle.meaning_derivation.specs.Values.{Value, sorts_of}
use Rattle.meaning_derivation.specs.State.{State, Passed as PassedLimit, Held, Outcome, Done, Fails}
use Rattle.meaning_derivation.specs.Derivation.{is_terminal_item}
use Rattle.meaning_derivation.specs.Taking.{look_of, behind_limit, unless_held, advanced, refused_at, take_one, kept}
use Rattle.meaning_derivation.specs.Leading.{is_usual}
use Rattle.meaning_derivation.proofs.Reaching.{live_is_bounded}

-- what goes on behind a limit or what is held is what was said

limit_if : (test : Bool) (first otherwise : Outcome) (next : State) (left : List Terminal) → ((first ≡ Done next left) → ⊥)
    → (if test then first else otherwise) ≡ Done next left → otherwise ≡ Done next left
limit_if true first otherwise next left never is = absurd (never is)
limit_if false first otherwise next left never is = is

pub limit_goes : (passed : Option PassedLimit) (decided : ℕ) (otherwise : Outcome) (next : State) (left : List Terminal)
    → behind_limit passed decided otherwise ≡ Done next left → otherwise ≡ Done next left
limit_goes None decided otherwise next left is = is
limit_goes (Some passed) decided otherwise next left is = limit_if (nat_lt passed.terminal decided) _ otherwise next left (λ clash. cc clash) is

held_goes : (held : Option Held) (decided : ℕ) (otherwise : Outcome) (next : State) (left : List Terminal)
    → unless_held held decided otherwise ≡ Done next left → otherwise ≡ Done next left
held_goes None decided otherwise next left is = is
held_goes (Some held) decided otherwise next left is = absurd (cc is)

taken_if : (test : Bool) (item : ProductionItem) (s next : State) (terminals left : List Terminal)
    → (if test then behind_limit s.passed s.taken (unless_held s.held s.taken (advanced item s terminals)) else refused_at item s terminals) ≡ Done next left
    → (test ≡ true) × (advanced item s terminals ≡ Done next left)
taken_if true item s next terminals left is = (refl, held_goes s.held s.taken _ next left (limit_goes s.passed s.taken _ next left is))
taken_if false item s next terminals left is = let clash = limit_goes s.passed s.taken _ next left is in absurd (cc clash)

-- the item takes what comes next, and goes behind it
pub taken : (item : ProductionItem) (s next : State) (terminals left : List Terminal) → take_one item s terminals ≡ Done next left
    → (takes item (look_of s terminals) ≡ true) × (advanced item s terminals ≡ Done next left)
taken item s next terminals left is = taken_if (takes item (look_of s terminals)) item s next terminals left is

-- Values

abbrev values_or : List Value → Outcome → List Value
values_or values (Done s terminals) = s.values
values_or values (Fails fault decided stands) = values

abbrev left_or : List Terminal → Outcome → List Terminal
left_or others (Done s terminals) = terminals
left_or others (Fails fault decided stands) = others

effect_of_kept : (item : ProductionItem) (terminal : Terminal) (values : List Value) → is_terminal_item item ≡ true
    → effect item (sorts_of values) ≡ Some (sorts_of (kept item terminal values))
effect_of_kept (Token class_) terminal values is = refl
effect_of_kept (Passed class_) terminal values is = refl
effect_of_kept PassedAny terminal values is = refl
effect_of_kept Name terminal values is = refl
effect_of_kept LabelName terminal values is = refl
effect_of_kept AttributeWord terminal values is = refl
effect_of_kept CaseColon terminal values is = refl
effect_of_kept DesignatorEnd terminal values is = refl
effect_of_kept (Nonterminal symbol) terminal values is = absurd (cc is)
effect_of_kept (Do action) terminal values is = absurd (cc is)

not_both : (test : Bool) → not test ≡ true → test ≡ true → ⊥
not_both true first second = cc first
not_both false first second = cc second

-- at the end an item takes nothing
effect_at_end : (item : ProductionItem) (values : List Value) → is_terminal_item item ≡ true → is_usual item ≡ true → takes item End ≡ true
    → effect item (sorts_of values) ≡ Some (sorts_of values)
effect_at_end (Token class_) values is usual ends = absurd (not_both (is_same class_ End) usual ends)
effect_at_end (Passed class_) values is usual ends = refl
effect_at_end PassedAny values is usual ends = absurd (cc ends)
effect_at_end Name values is usual ends = absurd (cc ends)
effect_at_end LabelName values is usual ends = absurd (cc ends)
effect_at_end AttributeWord values is usual ends = absurd (cc ends)
effect_at_end CaseColon values is usual ends = refl
effect_at_end DesignatorEnd values is usual ends = refl
effect_at_end (Nonterminal symbol) values is usual ends = absurd (cc is)
effect_at_end (Do action) values is usual ends = absurd (cc is)

goes_with : (items : List ProductionItem) (all : List Sort) (found : Option (List Sort)) (sorts : List Sort) → found ≡ Some sorts
    → effects items found ≡ Some all → effects items (Some sorts) ≡ Some all
goes_with items all found sorts is have = subst (λ stack. effects items stack ≡ Some all) is have

pub taken_sorted : (item : ProductionItem) (items : List ProductionItem) (s next : State) (terminals left : List Terminal) (all : List Sort)
    → is_terminal_item item ≡ true → is_usual item ≡ true → take_one item s terminals ≡ Done next left
    → effects (item ∷ items) (Some (sorts_of s.values)) ≡ Some all → effects items (Some (sorts_of next.values)) ≡ Some all
taken_sorted item items s next [] left all is usual goes have =
    let facts = taken item s next [] left goes in
    let values : s.values ≡ next.values = ap (values_or []) facts.1 in
    goes_with items all (effect item (sorts_of s.values)) (sorts_of next.values)
    (effect_at_end item s.values is usual facts.0 ∙ ap (λ some. Some (sorts_of some)) values) have
taken_sorted item items s next (terminal ∷ terminals) left all is usual goes have =
    let facts = taken item s next (terminal ∷ terminals) left goes in
    let values : kept item terminal s.values ≡ next.values = ap (values_or []) facts.1 in
    goes_with items all (effect item (sorts_of s.values)) (sorts_of next.values)
    (effect_of_kept item terminal s.values is ∙ ap (λ some. Some (sorts_of some)) values) have

-- Weights

pub live_at_end : (item : ProductionItem) (items : List ProductionItem) → is_terminal_item item ≡ true → is_usual item ≡ true → takes item End ≡ true
    → live (item ∷ items) ≡ 1 + live items
live_at_end (Token class_) items is usual ends = absurd (not_both (is_same class_ End) usual ends)
live_at_end (Passed class_) items is usual ends =
    ap (λ (test : Bool). (if test then 1 else 0) + (if test then live items else 0)) ends
live_at_end PassedAny items is usual ends = absurd (cc ends)
live_at_end Name items is usual ends = absurd (cc ends)
live_at_end LabelName items is usual ends = absurd (cc ends)
live_at_end AttributeWord items is usual ends = absurd (cc ends)
live_at_end CaseColon items is usual ends = absurd (cc ends)
live_at_end DesignatorEnd items is usual ends = absurd (cc ends)
live_at_end (Nonterminal symbol) items is usual ends = absurd (cc is)
live_at_end (Do action) items is usual ends = absurd (cc is)

pub taken_shortens : (item : ProductionItem) (items : List ProductionItem) (s next : State) (terminals left : List Terminal)
    → is_terminal_item item ≡ true → is_usual item ≡ true → length items ≤ 2 ^ 41 → take_one item s terminals ≡ Done next left
    → length left * 2 ^ 50 + live items < length terminals * 2 ^ 50 + live (item ∷ items)
taken_shortens item items s next [] left is usual few goes =
    let facts = taken item s next [] left goes in
    let none : [] ≡ left = ap (left_or []) facts.1 in
    let one = live_at_end item items is usual facts.0 in
    omega (arith, one, ap length none)
taken_shortens item items s next (terminal ∷ terminals) left is usual few goes =
    let facts = taken item s next (terminal ∷ terminals) left goes in
    let rest : terminals ≡ left = ap (left_or []) facts.1 in
    let bounded = live_is_bounded items in
    omega (arith, bounded, few, ap length rest)

-- What is left

pub left_behind : (item : ProductionItem) (s next : State) (terminals left : List Terminal) → take_one item s terminals ≡ Done next left → left ≡ drop 1 terminals
left_behind item s next [] left goes = sym (ap (left_or []) (taken item s next [] left goes).1)
left_behind item s next (terminal ∷ terminals) left goes = sym (ap (left_or []) (taken item s next (terminal ∷ terminals) left goes).1)

pub unended_behind : (p : Terminal → Bool) (terminals : List Terminal) → list_all p terminals ≡ true → list_all p (drop 1 terminals) ≡ true
unended_behind p [] is = refl
unended_behind p (terminal ∷ terminals) is = (and_parts (p terminal) (list_all p terminals) is).1

pub left_behind_end : (terminals left : List Terminal) → terminals ≡ [] → left ≡ drop 1 terminals → left ≡ []
left_behind_end terminals left none is = is ∙ ap (drop 1) none
