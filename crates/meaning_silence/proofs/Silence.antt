-- The promise, from the judge of all units to the machine.
use Rattle.std.proofs.Common.{◌≡◌, ℕ, Bool, nat_le, true, false, List, Option, Some, None, if◌then◌else◌, refl, sym, ap, subst, ◌∙◌}
use Rattle.std.proofs.lemmas.Bool.{both_ways}
use Rattle.std.proofs.lemmas.Option.{none-some, same_Some}
use Rattle.vocabulary.specs.declared.class.Class.{Class}
use Rattle.vocabulary.specs.declared.class.Class.TheVariants.{AddressSpace}
use Rattle.meaning_operands.specs.Failures.{Failure, Broken}
use Rattle.meaning_warnings.specs.Listing.{IsListing, is_on}
use Rattle.meaning_rules.specs.Rules.{Judgement, Holds, BreaksConstraint, PassesObjectSize, first_refusal, least_broken, least_token}
use Rattle.meaning_unit_nodes.specs.Numbered.{number_told, spellings_told, unit_nodes}
use Rattle.meaning_syntax.specs.Items.{Item}
use Rattle.meaning_syntax.specs.Trees.{IsInFirstForm as IsTreeInForm, unit_tree}
use Rattle.meaning_typing.specs.Facts.{Fact}
use Rattle.meaning_typing.specs.Surroundings.{Surrounding, AreSurroundings}
use Rattle.meaning_typing.specs.Units.{UnitNodes}
use Rattle.meaning_typing.specs.laws.Surroundings.{IsLaidUnit}
use Rattle.meaning_judgements.specs.WholeFacts.{AreWholeFacts}
use Rattle.meaning_judgements.specs.WholeRules.{IsWholeJudged, holds, refused, whole_broken_in, whole_failures_in, whole_passed_in}
use Rattle.meaning_judgements.proofs.JudgementLemmas.{failures_are_gathered}
use Rattle.meaning_units.specs.WholeRules.{IsJudgement}
use Rattle.meaning_first_units.specs.Laws.{IsSilent}
use Rattle.meaning_first_units.specs.Units.{IsFirstFormUnit, Renaming}
use Rattle.meaning_first_units.proofs.Trees.{trees_of_the_form_are_units}
use Rattle.meaning_first_units.proofs.Whole.{silence_is_handed_over}
use Rattle.meaning_machine.specs.Runs.{IsSafe}
use Rattle.meaning_machine.proofs.Worlds.{unit_is_safe}
use Rattle.meaning_silence.specs.Laws.{AreOfOtherClasses, AreOff, JudgedTreesAreSafe, JudgedUnitsAreSafe, SilentUnitsAreSafe, UntoldUnitsAreSafe}
use Rattle.meaning_silence.proofs.Initializing.{first_forms_initialize_nothing}
use Rattle.meaning_silence.proofs.Listed.{listed}
use Rattle.meaning_silence.proofs.Rows.{judgements_are_whole}
use Rattle.meaning_silence.proofs.Untold.{unit-off}

pub silent_units_are_safe : SilentUnitsAreSafe
silent_units_are_safe renaming nodes items unit form silent =
    let tree_form : IsTreeInForm (unit_tree items) = record { items = items; fit = form.fit; bound = form.bound; is_tree = refl } in
    unit_is_safe (unit_tree items) tree_form (silence_is_handed_over renaming nodes items unit form silent)

-- What is told

-- a class that is on isn't off
of-other-classes : (classes : List Class) (listing : List Failure) → is_on classes AddressSpace ≡ true → AreOff classes listing → AreOfOtherClasses listing
of-other-classes classes listing on off failure among is = both_ways (is_on classes AddressSpace) (sym (ap (is_on classes) is) ∙ off failure among) on

silent-by-listing :
    (nodes : UnitNodes) (surroundings : List Surrounding) (facts : List Fact) (listing : List Failure) → IsLaidUnit nodes
    → AreSurroundings nodes surroundings → AreWholeFacts nodes surroundings facts → IsListing (whole_failures_in nodes surroundings facts) listing
    → AreOfOtherClasses listing → IsSilent nodes
silent-by-listing nodes surroundings facts listing unit are known lists others failure fails is =
    let found = (failures_are_gathered nodes surroundings facts unit are known failure).0 fails in
    let other = listed (whole_failures_in nodes surroundings facts) listing lists failure found is in
    others other.0 other.1 other.2

-- a judgement that refuses holds of nothing
abbrev listing_of : List Failure → Judgement → List Failure
listing_of otherwise (Holds listing) = listing
listing_of otherwise judgement = otherwise

abbrev refuses : Judgement → Bool
refuses (Holds listing) = false
refuses judgement = true

never-holds : (broken : Option Broken) (limit : Option ℕ) (listing : List Failure) → first_refusal broken limit ≡ Some (Holds listing) → ⊥
never-holds None None listing is = none-some (Holds listing) is
never-holds (Some broken) None listing is = both_ways true (sym (ap refuses (sym (same_Some _ _ is)))) refl
never-holds None (Some token) listing is = both_ways true (sym (ap refuses (sym (same_Some _ _ is)))) refl
never-holds (Some broken) (Some token) listing is = by (nat_le broken.token token) is
  where
    by : (before : Bool) → (if before then Some (BreaksConstraint broken) else Some PassesObjectSize) ≡ Some (Holds listing) → ⊥
    by true same = both_ways true (sym (ap refuses (sym (same_Some _ _ same)))) refl
    by false same = both_ways true (sym (ap refuses (sym (same_Some _ _ same)))) refl

silent-by-judgement :
    (nodes : UnitNodes) (surroundings : List Surrounding) (facts : List Fact) (listing : List Failure) (judgement : Judgement)
    → judgement ≡ Holds listing → IsLaidUnit nodes → AreSurroundings nodes surroundings → AreWholeFacts nodes surroundings facts
    → IsWholeJudged nodes surroundings facts judgement → AreOfOtherClasses listing → IsSilent nodes
silent-by-judgement nodes surroundings facts listing _ is unit are known (holds own none lists) others =
    let same : own ≡ listing = ap (listing_of listing) is in
    silent-by-listing nodes surroundings facts listing unit are known (subst (IsListing (whole_failures_in nodes surroundings facts)) same lists) others
silent-by-judgement nodes surroundings facts listing _ is unit are known (refused judgement some) others =
    absurd (never-holds (least_broken (whole_broken_in nodes surroundings facts)) (least_token (whole_passed_in nodes surroundings facts)) listing
    (some ∙ ap Some is))

judged-safe :
    (renaming : Renaming) (nodes : UnitNodes) (items : List Item) (listing : List Failure) → IsLaidUnit nodes → IsFirstFormUnit renaming nodes items
    → IsJudgement nodes (Holds listing) → AreOfOtherClasses listing → IsSafe (unit_tree items)
judged-safe renaming nodes items listing unit form judged others =
    let whole = judgements_are_whole nodes (Holds listing) (first_forms_initialize_nothing renaming nodes items unit form) judged in
    silent_units_are_safe renaming nodes items unit form
    (silent-by-judgement nodes whole.0 whole.1 listing (Holds listing) refl unit whole.2 whole.3 whole.4 others)

pub judged_units_are_safe : JudgedUnitsAreSafe
judged_units_are_safe renaming nodes items classes listing unit form judged on off =
    judged-safe renaming nodes items listing unit form judged (of-other-classes classes listing on off)

pub untold_units_are_safe : UntoldUnitsAreSafe
untold_units_are_safe renaming nodes items shown classes listing unit form judged on none =
    judged_units_are_safe renaming nodes items classes listing unit form judged on (unit-off shown classes listing none)

-- Trees

pub judged_trees_are_safe : JudgedTreesAreSafe
judged_trees_are_safe tokens tree listing form told linked judged others =
    let unit = trees_of_the_form_are_units tokens tree form told linked in
    subst IsSafe (sym form.is_tree)
    (judged-safe (number_told (spellings_told tokens)) (unit_nodes tokens tree) form.items listing unit.0 unit.1 judged others)
