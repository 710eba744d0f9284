-- What joins where nothing has joined before, and what is left where something has.
use Rattle.std.proofs.Common.{◌≡◌, ℕ, ◌+◌, ◌<◌, ◌≤◌, Bool, true, false, ℤ, Option, Some, None, List, [], ◌∷◌, ◌++◌, length, map, refl, sym, ap, ◌∙◌, append-nil, append_assoc, arith, length-append, if◌then◌else◌}
use Rattle.std.specs.List.{filter}
use Rattle.std.proofs.lemmas.List.{length-map}
use Rattle.std.proofs.lemmas.Option.{none-some}
use Rattle.sparse_model.specs.declared.ids.NameId.{NameId}
use Rattle.meaning_control.specs.Kinds.{ControlKind}
use Rattle.meaning_control.specs.Choices.{has_number, is_default, is_numbered, or_all, or_else, picked, places_of}
use Rattle.meaning_control.specs.laws.Cells.{LabelledBlock}
use Rattle.control_flow.specs.Seen.{targets}
use Rattle.control_cells.specs.Blocks.{is_wanted, places_after}
use Rattle.control_cells.specs.declared.next.Wanted.TheVariants.{Chosen}

pub after-is : (is_such : ControlKind → Bool) (front : List ℕ) (labels : List LabelledBlock) → places_after is_such front labels ≡ front ++ places_of is_such labels
after-is is_such front [] = sym (append-nil front)
after-is is_such front (label ∷ labels) =
    after-is is_such (front ++ places_of is_such (label ∷ [])) labels
    ∙ append_assoc front (places_of is_such (label ∷ [])) (places_of is_such labels)
    ∙ ap (λ places. front ++ places) (sym (parted (is_such label.0) label (filter (λ (it : LabelledBlock). is_such it.0) labels)))
  where
    parted : (kept : Bool) (one : LabelledBlock) (others : List LabelledBlock)
        → map (λ (it : LabelledBlock). it.1) (if kept then one ∷ others else others)
        ≡ map (λ (it : LabelledBlock). it.1) (if kept then one ∷ [] else []) ++ map (λ (it : LabelledBlock). it.1) others
    parted true one others = refl
    parted false one others = refl

module _ (old new : List (ℕ × ℕ)) where
  grown : (places : List ℕ) → targets new ≡ targets old ++ places → length new ≡ length old + length places
  grown places is =
      omega (arith, ap length is, length-append (targets old) places, length-map old (λ (pair : ℕ × ℕ). pair.0), length-map new (λ (pair : ℕ × ℕ). pair.0))

  pub none_else : (last : List (ℕ × ℕ)) (places : List ℕ) (past : ℕ) → targets new ≡ targets old ++ places → length new ≤ length old
      → targets last ≡ targets new ++ past ∷ [] → targets last ≡ targets old ++ or_else places past
  none_else last [] past is none joined = joined ∙ ap (λ front. front ++ past ∷ []) (is ∙ append-nil (targets old))
  none_else last (place ∷ places) past is none joined = absurd (omega (arith, none, grown (place ∷ places) is))

  pub some_else : (places : List ℕ) (past : ℕ) → targets new ≡ targets old ++ places → length old < length new → targets new ≡ targets old ++ or_else places past
  some_else [] past is some = absurd (omega (arith, some, grown [] is))
  some_else (place ∷ places) past is some = is

  pub none_all : (last : List (ℕ × ℕ)) (places behind : List ℕ) → targets new ≡ targets old ++ places → length new ≤ length old
      → targets last ≡ targets new ++ behind → targets last ≡ targets old ++ or_all places behind
  none_all last [] behind is none joined = joined ∙ ap (λ front. front ++ behind) (is ∙ append-nil (targets old))
  none_all last (place ∷ places) behind is none joined = absurd (omega (arith, none, grown (place ∷ places) is))

  pub some_all : (places behind : List ℕ) → targets new ≡ targets old ++ places → length old < length new → targets new ≡ targets old ++ or_all places behind
  some_all [] behind is some = absurd (omega (arith, some, grown [] is))
  some_all (place ∷ places) behind is some = is

-- lists that join one behind the other
pub both_join : (old middle last first second : List ℕ) → middle ≡ old ++ first → last ≡ middle ++ second → last ≡ old ++ (first ++ second)
both_join old middle last first second one other = other ∙ ap (λ front. front ++ second) one ∙ append_assoc old first second

-- What a switch picks
module _ (names : NameId → List ℕ) (old new : List (ℕ × ℕ)) where
  abbrev Joined : Option ℤ → List LabelledBlock → Type 0
  Joined number labels = targets new ≡ places_after (is_wanted names (Chosen number)) (targets old) labels

  pub some_picked : (labels : List LabelledBlock) (past : ℕ) (number : Option ℤ) (value : ℤ) → number ≡ Some value → Joined number labels → length old < length new
      → targets new ≡ targets old ++ picked number labels past
  some_picked labels past None value is joined some = absurd (none-some value is)
  some_picked labels past (Some number) value is joined some =
      some_all old new (places_of (is_numbered number) labels) (or_else (places_of is_default labels) past) (joined ∙ after-is (is_numbered number) (targets old) labels) some

  pub none_picked : (last : List (ℕ × ℕ)) (labels : List LabelledBlock) (past : ℕ) (number : Option ℤ) (value : ℤ) → number ≡ Some value → Joined number labels
      → length new ≤ length old → targets last ≡ targets new ++ or_else (places_of is_default labels) past → targets last ≡ targets old ++ picked number labels past
  none_picked last labels past None value is joined none more = absurd (none-some value is)
  none_picked last labels past (Some number) value is joined none more =
      none_all old new last (places_of (is_numbered number) labels) (or_else (places_of is_default labels) past) (joined ∙ after-is (is_numbered number) (targets old) labels) none more

  pub any_picked : (last : List (ℕ × ℕ)) (labels : List LabelledBlock) (past : ℕ) (number : Option ℤ) → number ≡ None → Joined number labels
      → targets last ≡ targets new ++ or_else (places_of is_default labels) past → targets last ≡ targets old ++ picked number labels past
  any_picked last labels past None is joined more =
      both_join (targets old) (targets new) (targets last) (places_of has_number labels) (or_else (places_of is_default labels) past)
      (joined ∙ after-is has_number (targets old) labels) more
  any_picked last labels past (Some number) is joined more = absurd (none-some number (sym is))
