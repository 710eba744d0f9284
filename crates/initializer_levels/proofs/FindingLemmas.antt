-- Findings one by one.
use Rattle.std.proofs.Common.{◌≡◌, ℕ, zero, suc, ◌<◌, Bool, All, List, [], ◌∷◌, ◌++◌, Option, refl, sym, ap, subst, ◌∙◌, arith}
use Rattle.std.proofs.lemmas.List.{append-nil, append_assoc}
use Rattle.std.proofs.lemmas.List.Elements.{All-append, All-head, All-tail}
use Rattle.meaning_typing.specs.Facts.{Fact}
use Rattle.meaning_typing.specs.Units.{UnitNodes}
use Rattle.meaning_initializers.specs.Items.{Designator, Given, Initializer, Items, NoItems, Item}
use Rattle.meaning_initializers.specs.Plans.{Leaf, Plan, Refusal, extra, extra_items, followed, no_plan, refused, string_alone, value_plan}
use Rattle.meaning_initializers.specs.Reading.{given_at, initializer_at}
use Rattle.c_types.specs.Table.{IsLonger, TypeTable}
use Rattle.initializer_levels.specs.declared.met.Finding.{Finding}
use Rattle.initializer_levels.specs.declared.met.Finding.TheVariants as finds
use Rattle.initializer_levels.specs.Items.{items_left}
use Rattle.initializer_levels.specs.Met.{IsFindingIn, finding_plan, found_with}
use Rattle.initializer_levels.specs.Parts.{type_seen}
use Rattle.initializer_levels.specs.Turns.{Found, found_behind, told_behind}
use Rattle.initializer_levels.proofs.GoingLemmas.{nothing_found, path_longer}
use Rattle.initializer_levels.proofs.PathLemmas.{path_stays}
use Rattle.initializer_levels.proofs.Telling.{told-append}

-- one plan behind another
pub found_followed : (found : Found) (plan more : Plan) → found_behind (found_behind found plan) more ≡ found_behind found (followed plan more)
found_followed found plan more =
    ap (λ (l : List Leaf). record { leaves = l; told = told_behind (told_behind found.told plan.refusals) more.refusals }) (append_assoc found.leaves plan.leaves more.leaves)
    ∙ ap (λ (t : Option Refusal). record { leaves = found.leaves ++ (plan.leaves ++ more.leaves); told = t }) (sym (told-append found.told plan.refusals more.refusals))

module _ (nodes : UnitNodes) (facts : List Fact) (is_static : Bool) (table : TypeTable) (paths : List (List ℕ)) where
  pub found_with-more : (found : Found) (findings : List Finding) (finding : Finding)
      → found_with nodes facts is_static table paths found (findings ++ finding ∷ [])
      ≡ found_behind (found_with nodes facts is_static table paths found findings) (finding_plan nodes facts is_static table paths finding)
  found_with-more found [] finding = refl
  found_with-more found (first ∷ findings) finding = found_with-more (found_behind found (finding_plan nodes facts is_static table paths first)) findings finding

  -- an item that has no place, and those behind it
  pub extra_more : (found : Found) (findings : List Finding) (initializer : ℕ) (items behind : Items) (designators : List Designator) (is_moved : Bool)
      → items ≡ Item designators is_moved (initializer_at nodes facts initializer) behind
      → found_behind (found_with nodes facts is_static table paths found (findings ++ finds.Extra initializer ∷ [])) (refused (extra_items behind) no_plan)
      ≡ found_behind (found_with nodes facts is_static table paths found findings) (refused (extra_items items) no_plan)
  extra_more found findings initializer items behind designators is_moved is =
      let before = found_with nodes facts is_static table paths found findings in
      ap (λ (f : Found). found_behind f (refused (extra_items behind) no_plan)) (found_with-more found findings (finds.Extra initializer))
      ∙ (found_followed before (refused (extra (initializer_at nodes facts initializer)) no_plan) (refused (extra_items behind) no_plan)
      ∙ ap (λ (i : Items). found_behind before (refused (extra_items i) no_plan)) (sym is))

  pub no_extra : (found : Found) (items : Items) → items ≡ NoItems → found ≡ found_behind found (refused (extra_items items) no_plan)
  no_extra found items is = sym (nothing_found found) ∙ ap (λ (i : Items). found_behind found (refused (extra_items i) no_plan)) (sym is)

-- Where more paths are added

module _ (nodes : UnitNodes) (facts : List Fact) (is_static : Bool) (table : TypeTable) (old new : List (List ℕ)) (longer : IsLonger old new) where
  finding_stays : (finding : Finding) → IsFindingIn table old finding
      → finding_plan nodes facts is_static table new finding ≡ finding_plan nodes facts is_static table old finding
  finding_stays (finds.Leaf placed) known =
      ap (λ (path : List ℕ). value_plan is_static (type_seen table placed.of) path placed.is_moved (given_at nodes facts placed.initializer))
      (path_stays old new placed.path longer known.1)
  finding_stays (finds.Extra initializer) known = refl
  finding_stays (finds.NoPart designator) known = refl

  pub found_stays : (found : Found) (findings : List Finding) → All (IsFindingIn table old) findings
      → found_with nodes facts is_static table new found findings ≡ found_with nodes facts is_static table old found findings
  found_stays found [] known = refl
  found_stays found (finding ∷ findings) known =
      ap (λ (plan : Plan). found_with nodes facts is_static table new (found_behind found plan) findings)
      (finding_stays finding (All-head (IsFindingIn table old) finding findings known))
      ∙ found_stays (found_behind found (finding_plan nodes facts is_static table old finding)) findings (All-tail (IsFindingIn table old) finding findings known)

finding_longer : (table : TypeTable) (old new : List (List ℕ)) (finding : Finding) → IsLonger old new → IsFindingIn table old finding → IsFindingIn table new finding
finding_longer table old new (finds.Leaf placed) longer known = (known.0, path_longer old new placed.path longer known.1)
finding_longer table old new (finds.Extra initializer) longer known = tt
finding_longer table old new (finds.NoPart designator) longer known = tt

pub findings_longer : (table : TypeTable) (old new : List (List ℕ)) (findings : List Finding) → IsLonger old new → All (IsFindingIn table old) findings → All (IsFindingIn table new) findings
findings_longer table old new findings longer known i e within = finding_longer table old new _ longer (known i e within)

one : (table : TypeTable) (paths : List (List ℕ)) (finding : Finding) → IsFindingIn table paths finding → All (IsFindingIn table paths) (finding ∷ [])
one table paths finding known zero e within = known
one table paths finding known (suc i) e within = absurd (omega (arith, within))

pub one_finding : (table : TypeTable) (paths : List (List ℕ)) (findings : List Finding) (finding : Finding) → All (IsFindingIn table paths) findings → IsFindingIn table paths finding
    → All (IsFindingIn table paths) (findings ++ finding ∷ [])
one_finding table paths findings finding known is = All-append (IsFindingIn table paths) findings (finding ∷ []) known (one table paths finding is)
