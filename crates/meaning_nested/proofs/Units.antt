-- Each laid unit is nested, so it has exactly one judgement.
use Rattle.std.proofs.Common.{◌≡◌, ℕ, zero, suc, List, length, refl, sym, ◌∙◌}
use Rattle.meaning_rules.specs.Rules.{Judgement}
use Rattle.meaning_typing.specs.MemberDeclarations.{bodies_at, bodies_before}
use Rattle.meaning_typing.specs.Rows.{Row}
use Rattle.meaning_typing.specs.Surroundings.{Surrounding, AreSurroundings}
use Rattle.meaning_typing.specs.Units.{UnitNodes, kind_at}
use Rattle.meaning_typing.specs.laws.Surroundings.{IsLaidUnit}
use Rattle.meaning_units.specs.WholeRows.{AreFirstRows, facts_of}
use Rattle.meaning_units.proofs.JudgementLemmas.{judgements_are_unique, judgements_exist}
use Rattle.meaning_nested.specs.Nested.{EachUnitHasOneJudgement, EachUnitIsNested}
use Rattle.meaning_nested.proofs.Heights.{Nesting, all-lie-more, are-nested, is_told, nested-more, nested-none}
use Rattle.meaning_nested.proofs.Tellings.{nodes-tell, tells_before}
use Rattle.meaning_nested.proofs.Bodies.{node-lies}

-- the bodies of the first nodes nest
nesting : (nodes : UnitNodes) → IsLaidUnit nodes → (surroundings : List Surrounding) → AreSurroundings nodes surroundings → (rows : List Row) → AreFirstRows nodes surroundings rows
    → (count : ℕ) → Nesting (bodies_before nodes surroundings (facts_of rows) count)
nesting nodes unit surroundings are rows known zero = nested-none
nesting nodes unit surroundings are rows known (suc count) =
    let facts = facts_of rows in
    nested-more (bodies_before nodes surroundings facts count) (bodies_at nodes surroundings facts count (kind_at nodes count))
    (nesting nodes unit surroundings are rows known count)
    (all-lie-more (tells_before nodes count) (is_told (bodies_before nodes surroundings facts count))
    (λ number told. nodes-tell nodes surroundings facts count number ∙ told)
    (bodies_at nodes surroundings facts count (kind_at nodes count))
    (node-lies nodes unit surroundings are rows known (kind_at nodes count) count))

pub each_unit_is_nested : EachUnitIsNested
each_unit_is_nested nodes surroundings unit are rows known =
    are-nested (bodies_before nodes surroundings (facts_of rows) (length (facts_of rows))) (nesting nodes unit surroundings are rows known (length (facts_of rows)))

pub each_unit_has_one_judgement : EachUnitHasOneJudgement
each_unit_has_one_judgement nodes unit =
    let found = judgements_exist nodes unit (λ surroundings are. each_unit_is_nested nodes surroundings unit are) in
    (found.0, found.1, λ other is. judgements_are_unique nodes other found.0 unit is found.1)
