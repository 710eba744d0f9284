-- Where the arguments of a call end, and what the definition reads there.
use Rattle.std.proofs.Common.{◌≡◌, ◌+◌, ◌-◌, ◌&&◌, ℕ, Bool, true, false, nat_eq, nat_lt, List, [], ◌∷◌, ◌++◌, length, Option, Some, None, option_map, refl, sym, ap, ◌∙◌}
use Rattle.std.proofs.lemmas.List.{append_assoc}
use Rattle.std.proofs.lemmas.Bool.{eq-eqb}
use Rattle.std.proofs.lemmas.Option.{none-some, same_Some}
use Rattle.meaning_macros.specs.Signs.{is_left_parenthesis, is_right_parenthesis, is_comma}
use Rattle.meaning_macros.specs.Calls.{Arguments, split, with_argument_token, with_cut}
use Rattle.c_macros.specs.declared.item.Item.{Item}
use Rattle.c_macros.specs.Arguments.{arguments_by}
use Rattle.c_macros.specs.Calls.{Found, with_item, with_comma, split_items, found_stops}
use Rattle.c_macros.specs.Reading.{Reading, hiding_by, hidings_by}
use Rattle.c_macros.specs.Stops.{with_stop, stops_from, behind}
use Rattle.c_macros.specs.Waiting.{backwards, pending, later_items}
use Rattle.c_macros.proofs.VectorLemmas.{backwards-append}

-- all tokens of what was found
abbrev pub all_items : Found → List Item
all_items found = found.first ++ pending found.more found.closing found.rest

abbrev pub found_read : Reading → Found → Arguments
found_read r found = record { first = hidings_by r found.first; more = arguments_by r (later_items found.more); closing = hiding_by r found.closing; rest = hidings_by r found.rest }

item-splits : (r : Reading) (t : Item) (found : Option Found) → with_argument_token (hiding_by r t) (option_map (found_read r) found) ≡ option_map (found_read r) (with_item t found)
item-splits r t None = refl
item-splits r t (Some found) = refl

comma-splits : (r : Reading) (t : Item) (found : Option Found) → with_cut (option_map (found_read r) found) ≡ option_map (found_read r) (with_comma t found)
comma-splits r t None = refl
comma-splits r t (Some found) = refl

item-stops : (below : ℕ) (t : Item) (found : Option Found) → option_map (found_stops below) found ≡ option_map (found_stops below) (with_item t found)
item-stops below t None = refl
item-stops below t (Some found) = refl

-- the definition reads what was found
pub split-reads : (r : Reading) (depth cuts : ℕ) (ts : List Item) → split depth cuts (hidings_by r ts) ≡ option_map (found_read r) (split_items depth cuts ts)
split-reads r depth cuts [] = refl
split-reads r depth cuts (t ∷ ts) =
    by (split-reads r (depth - 1) cuts ts) (split-reads r (depth + 1) cuts ts) (split-reads r depth (cuts - 1) ts) (split-reads r depth cuts ts)
    (is_right_parenthesis t.token.kind) (nat_eq depth 0) (is_left_parenthesis t.token.kind) (is_comma t.token.kind && nat_eq depth 0 && nat_lt 0 cuts)
  where
    by : split (depth - 1) cuts (hidings_by r ts) ≡ option_map (found_read r) (split_items (depth - 1) cuts ts) → split (depth + 1) cuts (hidings_by r ts) ≡ option_map (found_read r) (split_items (depth + 1) cuts ts)
        → split depth (cuts - 1) (hidings_by r ts) ≡ option_map (found_read r) (split_items depth (cuts - 1) ts) → split depth cuts (hidings_by r ts) ≡ option_map (found_read r) (split_items depth cuts ts)
        → (right last left comma : Bool)
        → (elim right as (λ _. Option Arguments) [
          | true ↦ elim last as (λ _. Option Arguments) [
            | true ↦ Some (record { first = []; more = []; closing = hiding_by r t; rest = hidings_by r ts })
            | false ↦ with_argument_token (hiding_by r t) (split (depth - 1) cuts (hidings_by r ts))
          ]
          | false ↦ elim left as (λ _. Option Arguments) [
            | true ↦ with_argument_token (hiding_by r t) (split (depth + 1) cuts (hidings_by r ts))
            | false ↦ elim comma as (λ _. Option Arguments) [
              | true ↦ with_cut (split depth (cuts - 1) (hidings_by r ts))
              | false ↦ with_argument_token (hiding_by r t) (split depth cuts (hidings_by r ts))
            ]
          ]
        ])
        ≡ option_map (found_read r) (elim right as (λ _. Option Found) [
          | true ↦ elim last as (λ _. Option Found) [
            | true ↦ Some (record { first = []; more = []; closing = t; rest = ts })
            | false ↦ with_item t (split_items (depth - 1) cuts ts)
          ]
          | false ↦ elim left as (λ _. Option Found) [
            | true ↦ with_item t (split_items (depth + 1) cuts ts)
            | false ↦ elim comma as (λ _. Option Found) [
              | true ↦ with_comma t (split_items depth (cuts - 1) ts)
              | false ↦ with_item t (split_items depth cuts ts)
            ]
          ]
        ])
    by up down cut same true true left comma = refl
    by up down cut same true false left comma = ap (with_argument_token (hiding_by r t)) up ∙ item-splits r t (split_items (depth - 1) cuts ts)
    by up down cut same false last true comma = ap (with_argument_token (hiding_by r t)) down ∙ item-splits r t (split_items (depth + 1) cuts ts)
    by up down cut same false last false true = ap with_cut cut ∙ comma-splits r t (split_items depth (cuts - 1) ts)
    by up down cut same false last false false = ap (with_argument_token (hiding_by r t)) same ∙ item-splits r t (split_items depth cuts ts)

-- nothing is lost
with_item-all : (t : Item) (ts : List Item) (found : Option Found) → ((one : Found) → found ≡ Some one → ts ≡ all_items one) → (one : Found) → with_item t found ≡ Some one → t ∷ ts ≡ all_items one
with_item-all t ts None all one is = absurd (none-some one is)
with_item-all t ts (Some found) all one is = ap (λ xs. t ∷ xs) (all found refl) ∙ ap all_items (same_Some _ _ is)

with_comma-all : (t : Item) (ts : List Item) (found : Option Found) → ((one : Found) → found ≡ Some one → ts ≡ all_items one) → (one : Found) → with_comma t found ≡ Some one → t ∷ ts ≡ all_items one
with_comma-all t ts None all one is = absurd (none-some one is)
with_comma-all t ts (Some found) all one is = ap (λ xs. t ∷ xs) (all found refl) ∙ ap all_items (same_Some _ _ is)

abbrev Kept : List Item → Option Found → Type 0
Kept ts found = (other : Found) → found ≡ Some other → ts ≡ all_items other

pub split-all : (depth cuts : ℕ) (ts : List Item) (one : Found) → split_items depth cuts ts ≡ Some one → ts ≡ all_items one
split-all depth cuts [] one is = absurd (none-some one is)
split-all depth cuts (t ∷ ts) one is =
    by (split-all (depth - 1) cuts ts) (split-all (depth + 1) cuts ts) (split-all depth (cuts - 1) ts) (split-all depth cuts ts)
    (is_right_parenthesis t.token.kind) (nat_eq depth 0) (is_left_parenthesis t.token.kind) (is_comma t.token.kind && nat_eq depth 0 && nat_lt 0 cuts) is
  where
    by : Kept ts (split_items (depth - 1) cuts ts) → Kept ts (split_items (depth + 1) cuts ts) → Kept ts (split_items depth (cuts - 1) ts) → Kept ts (split_items depth cuts ts) → (right last left comma : Bool)
        → (elim right as (λ _. Option Found) [
          | true ↦ elim last as (λ _. Option Found) [
            | true ↦ Some (record { first = []; more = []; closing = t; rest = ts })
            | false ↦ with_item t (split_items (depth - 1) cuts ts)
          ]
          | false ↦ elim left as (λ _. Option Found) [
            | true ↦ with_item t (split_items (depth + 1) cuts ts)
            | false ↦ elim comma as (λ _. Option Found) [
              | true ↦ with_comma t (split_items depth (cuts - 1) ts)
              | false ↦ with_item t (split_items depth cuts ts)
            ]
          ]
        ]) ≡ Some one
        → t ∷ ts ≡ all_items one
    by up down cut same true true left comma is = ap all_items (same_Some _ _ is)
    by up down cut same true false left comma is = with_item-all t ts (split_items (depth - 1) cuts ts) up one is
    by up down cut same false last true comma is = with_item-all t ts (split_items (depth + 1) cuts ts) down one is
    by up down cut same false last false true is = with_comma-all t ts (split_items depth (cuts - 1) ts) cut one is
    by up down cut same false last false false is = with_item-all t ts (split_items depth cuts ts) same one is

-- The next token of a walk

pub walked : (rest below : List Item) (t : Item) → rest ≡ below ++ t ∷ [] → backwards rest ≡ t ∷ backwards below
walked rest below t is = ap backwards is ∙ backwards-append below (t ∷ [])

abbrev by_kind : (below depth cuts : ℕ) → Item → List Item → (right left comma : Bool) → Option (List ℕ)
by_kind below depth cuts t ts right left comma = elim right as (λ _. Option (List ℕ)) [
  | true ↦ elim (nat_eq depth 0) as (λ _. Option (List ℕ)) [
    | true ↦ Some ((below + length (t ∷ ts)) ∷ [])
    | false ↦ stops_from below (depth - 1) cuts ts
  ]
  | false ↦ elim left as (λ _. Option (List ℕ)) [
    | true ↦ stops_from below (depth + 1) cuts ts
    | false ↦ elim comma as (λ _. Option (List ℕ)) [
      | true ↦ with_stop (below + length (t ∷ ts)) (stops_from below depth (cuts - 1) ts)
      | false ↦ stops_from below depth cuts ts
    ]
  ]
]

pub stops-last : (below depth cuts : ℕ) (t : Item) (ts : List Item) → is_right_parenthesis t.token.kind ≡ true → depth ≡ 0 → stops_from below depth cuts (t ∷ ts) ≡ Some ((below + length (t ∷ ts)) ∷ [])
stops-last below depth cuts t ts right none =
    ap (λ b. by_kind below depth cuts t ts b (is_left_parenthesis t.token.kind) (is_comma t.token.kind && nat_eq depth 0 && nat_lt 0 cuts)) right
    ∙ ap (λ b. elim b as (λ _. Option (List ℕ)) [ true ↦ Some ((below + length (t ∷ ts)) ∷ []) | false ↦ stops_from below (depth - 1) cuts ts ]) (eq-eqb depth 0 none)

pub stops-closed : (below depth cuts : ℕ) (t : Item) (ts : List Item) → is_right_parenthesis t.token.kind ≡ true → nat_eq depth 0 ≡ false → stops_from below depth cuts (t ∷ ts) ≡ stops_from below (depth - 1) cuts ts
stops-closed below depth cuts t ts right some =
    ap (λ b. by_kind below depth cuts t ts b (is_left_parenthesis t.token.kind) (is_comma t.token.kind && nat_eq depth 0 && nat_lt 0 cuts)) right
    ∙ ap (λ b. elim b as (λ _. Option (List ℕ)) [ true ↦ Some ((below + length (t ∷ ts)) ∷ []) | false ↦ stops_from below (depth - 1) cuts ts ]) some

pub stops-opened : (below depth cuts : ℕ) (t : Item) (ts : List Item) → is_right_parenthesis t.token.kind ≡ false → is_left_parenthesis t.token.kind ≡ true → stops_from below depth cuts (t ∷ ts) ≡ stops_from below (depth + 1) cuts ts
stops-opened below depth cuts t ts right left =
    λ i. by_kind below depth cuts t ts (right i) (left i) (is_comma t.token.kind && nat_eq depth 0 && nat_lt 0 cuts)

pub stops-cut : (below depth cuts : ℕ) (t : Item) (ts : List Item) → is_right_parenthesis t.token.kind ≡ false → is_left_parenthesis t.token.kind ≡ false → (is_comma t.token.kind && nat_eq depth 0 && nat_lt 0 cuts) ≡ true
    → stops_from below depth cuts (t ∷ ts) ≡ with_stop (below + length (t ∷ ts)) (stops_from below depth (cuts - 1) ts)
stops-cut below depth cuts t ts right left comma = λ i. by_kind below depth cuts t ts (right i) (left i) (comma i)

pub stops-over : (below depth cuts : ℕ) (t : Item) (ts : List Item) → is_right_parenthesis t.token.kind ≡ false → is_left_parenthesis t.token.kind ≡ false → (is_comma t.token.kind && nat_eq depth 0 && nat_lt 0 cuts) ≡ false
    → stops_from below depth cuts (t ∷ ts) ≡ stops_from below depth cuts ts
stops-over below depth cuts t ts right left comma = λ i. by_kind below depth cuts t ts (right i) (left i) (comma i)

-- one more stop is noted
pub behind-one : (before : List ℕ) (stop : ℕ) (found : Option (List ℕ)) → behind (before ++ stop ∷ []) found ≡ behind before (with_stop stop found)
behind-one before stop None = refl
behind-one before stop (Some stops) = ap Some (append_assoc before (stop ∷ []) stops)

pub stop-noted : (stops new : List ℕ) (stop n : ℕ) → new ≡ stops ++ stop ∷ [] → stop ≡ n → Some (stops ++ n ∷ []) ≡ Some new
stop-noted stops new stop n is same = ap Some (sym (is ∙ ap (λ k. stops ++ k ∷ []) same))

pub none-behind : (before : List ℕ) (found : Option (List ℕ)) → behind before found ≡ None → found ≡ None
none-behind before None is = refl
none-behind before (Some stops) is = absurd (none-some (before ++ stops) (sym is))

comma-stops : (below : ℕ) (t : Item) (ts : List Item) (found : Option Found) → Kept ts found → with_stop (below + length (t ∷ ts)) (option_map (found_stops below) found) ≡ option_map (found_stops below) (with_comma t found)
comma-stops below t ts None all = refl
comma-stops below t ts (Some found) all = ap (λ (xs : List Item). Some ((below + length (t ∷ xs)) ∷ found_stops below found)) (all found refl)

-- the stops are those of what was found
pub split-stops : (below depth cuts : ℕ) (ts : List Item) → stops_from below depth cuts ts ≡ option_map (found_stops below) (split_items depth cuts ts)
split-stops below depth cuts [] = refl
split-stops below depth cuts (t ∷ ts) =
    by (split-stops below (depth - 1) cuts ts) (split-stops below (depth + 1) cuts ts) (split-stops below depth (cuts - 1) ts) (split-stops below depth cuts ts) (split-all depth (cuts - 1) ts)
    (is_right_parenthesis t.token.kind) (nat_eq depth 0) (is_left_parenthesis t.token.kind) (is_comma t.token.kind && nat_eq depth 0 && nat_lt 0 cuts)
  where
    by : stops_from below (depth - 1) cuts ts ≡ option_map (found_stops below) (split_items (depth - 1) cuts ts) → stops_from below (depth + 1) cuts ts ≡ option_map (found_stops below) (split_items (depth + 1) cuts ts)
        → stops_from below depth (cuts - 1) ts ≡ option_map (found_stops below) (split_items depth (cuts - 1) ts) → stops_from below depth cuts ts ≡ option_map (found_stops below) (split_items depth cuts ts)
        → Kept ts (split_items depth (cuts - 1) ts) → (right last left comma : Bool)
        → (elim right as (λ _. Option (List ℕ)) [
          | true ↦ elim last as (λ _. Option (List ℕ)) [
            | true ↦ Some ((below + length (t ∷ ts)) ∷ [])
            | false ↦ stops_from below (depth - 1) cuts ts
          ]
          | false ↦ elim left as (λ _. Option (List ℕ)) [
            | true ↦ stops_from below (depth + 1) cuts ts
            | false ↦ elim comma as (λ _. Option (List ℕ)) [
              | true ↦ with_stop (below + length (t ∷ ts)) (stops_from below depth (cuts - 1) ts)
              | false ↦ stops_from below depth cuts ts
            ]
          ]
        ])
        ≡ option_map (found_stops below) (elim right as (λ _. Option Found) [
          | true ↦ elim last as (λ _. Option Found) [
            | true ↦ Some (record { first = []; more = []; closing = t; rest = ts })
            | false ↦ with_item t (split_items (depth - 1) cuts ts)
          ]
          | false ↦ elim left as (λ _. Option Found) [
            | true ↦ with_item t (split_items (depth + 1) cuts ts)
            | false ↦ elim comma as (λ _. Option Found) [
              | true ↦ with_comma t (split_items depth (cuts - 1) ts)
              | false ↦ with_item t (split_items depth cuts ts)
            ]
          ]
        ])
    by up down cut same all true true left comma = refl
    by up down cut same all true false left comma = up ∙ item-stops below t (split_items (depth - 1) cuts ts)
    by up down cut same all false last true comma = down ∙ item-stops below t (split_items (depth + 1) cuts ts)
    by up down cut same all false last false true = ap (with_stop (below + length (t ∷ ts))) cut ∙ comma-stops below t ts (split_items depth (cuts - 1) ts) all
    by up down cut same all false last false false = same ∙ item-stops below t (split_items depth cuts ts)
