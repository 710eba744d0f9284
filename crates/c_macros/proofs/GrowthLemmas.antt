-- Ids of a table of names that grows, and of a table of sets.
use Rattle.std.proofs.Common.{◌≡◌, ℕ, if◌then◌else◌, Bool, true, false, List, [], ◌∷◌, ◌++◌, length, drop, All, refl, sym, ap, ◌∙◌}
use Rattle.std.proofs.lemmas.List.{drop_at, take_at}
use Rattle.std.proofs.lemmas.List.Elements.{All-append, All-drop, All-map, All-same, All-tail, All-take, All-weaker}
use Rattle.number_sets.specs.NumberSets as sets
use Rattle.sparse_model.specs.declared.place.Place.{Place}
use Rattle.c_tokens.specs.Seen.{Extends}
use Rattle.c_tokens.proofs.SeenLemmas.{IsKnown-Extends, text_of-Extends}
use Rattle.c_macros.specs.Chains.{IsWithin, behind_joined, item_at, items_at}
use Rattle.c_macros.specs.Reading.{HasName, HasSet, Reading, ReadsNames}
use Rattle.c_macros.specs.Substitution.{AreKnownParts, IsKnownOperand}
use Rattle.c_macros.specs.declared.item.Item.{Item}
use Rattle.c_macros.specs.declared.operand.Operand.{Operand}
use Rattle.c_macros.specs.declared.operand.Operand.TheVariants.{Own, Argument, Stringized, CommaAndRest}
use Rattle.c_macros.specs.declared.operand.Part.{Part}

-- what reads a table reads the one that it grew from
pub ReadsNames-back : (old new : List (List ℕ)) → Extends old new → (r : Reading) → ReadsNames new r → ReadsNames old r
ReadsNames-back old new extends r reads =
    record {
      texts = λ id known. reads.texts id (IsKnown-Extends old new extends id known) ∙ text_of-Extends old new extends id known;
      apart = reads.apart;
      empty = reads.empty;
    }

-- items stay known
pub names-grown : (old new : List (List ℕ)) → Extends old new → (items : List Item) → All (HasName old) items → All (HasName new) items
names-grown old new extends items known = All-weaker (HasName old) (HasName new) (λ item. IsKnown-Extends old new extends item.token.name) items known

-- an operand stays known
pub operand-grown : (old new : List (List ℕ)) → Extends old new → (operand : Operand) → IsKnownOperand old operand → IsKnownOperand new operand
operand-grown old new extends (Own token) known = IsKnown-Extends old new extends token.name known
operand-grown old new extends (Argument space parameter) known = tt
operand-grown old new extends (Stringized space parameter) known = tt
operand-grown old new extends (CommaAndRest comma space parameter) known = IsKnown-Extends old new extends comma.name known

abbrev pub IsKnownPart : List (List ℕ) → Part → Type 0
IsKnownPart names part = IsKnownOperand names part.operand

pub parts-grown : (old new : List (List ℕ)) → Extends old new → (parts : List Part) → AreKnownParts old parts → AreKnownParts new parts
parts-grown old new extends parts known = All-weaker (IsKnownPart old) (IsKnownPart new) (λ part. operand-grown old new extends part.operand) parts known

-- operands behind a chain are as known as all
behind-by : (names : List (List ℕ)) (part : Part) (parts : List Part) (begins : Bool) → AreKnownParts names (part ∷ parts) → AreKnownParts names (behind_joined parts)
    → AreKnownParts names (if begins then part ∷ parts else behind_joined parts)
behind-by names part parts true all behind = all
behind-by names part parts false all behind = behind

pub parts-behind : (names : List (List ℕ)) (parts : List Part) → AreKnownParts names parts → AreKnownParts names (behind_joined parts)
parts-behind names [] known = known
parts-behind names (part ∷ parts) known = behind-by names part parts part.begins known (parts-behind names parts (All-tail (IsKnownPart names) part parts known))

-- items that are put at a place keep their ids
pub names-placed : (names : List (List ℕ)) (place : Place) (before more all : List Item) → all ≡ before ++ items_at place more → All (HasName names) before → All (HasName names) more → All (HasName names) all
names-placed names place before more all same first second =
    All-same (HasName names) all (before ++ items_at place more) same
    (All-append (HasName names) before (items_at place more) first (All-map (HasName names) (item_at place) more second))

pub sets-placed : (table : sets.Table) (place : Place) (before more all : List Item) → all ≡ before ++ items_at place more → All (HasSet table) before → All (HasSet table) more → All (HasSet table) all
sets-placed table place before more all same first second =
    All-same (HasSet table) all (before ++ items_at place more) same
    (All-append (HasSet table) before (items_at place more) first (All-map (HasSet table) (item_at place) more second))

-- what holds of all items holds of a part of them
pub All-within : (P : Item → Type 0) (part whole : List Item) → IsWithin part whole → All P whole → All P part
All-within P part whole within all =
    let behind : All P (part ++ within.behind) = All-same P _ _ (sym (ap (drop (length within.before)) within.parts ∙ drop_at within.before (part ++ within.behind) (length within.before) refl)) (All-drop P (length within.before) whole all) in
    All-same P _ _ (sym (take_at part within.behind (length part) refl)) (All-take P (length part) (part ++ within.behind) behind)
