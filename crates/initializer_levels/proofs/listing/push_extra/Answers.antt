-- One item more has no place.
use Rattle.std.proofs.Common.{◌≡◌, ◌∷◌, ◌++◌, [], List, All, ap, sym, subst, ◌∙◌}
use Rattle.meaning_initializers.specs.Items.{Items}
use Rattle.meaning_initializers.specs.Plans.{extra_items, no_plan, refused}
use Rattle.meaning_initializers.specs.Reading.{designators_of}
use Rattle.decl_judge.specs.Units.{nodes_of}
use Rattle.initializer_levels.specs.declared.met.Finding.{Finding}
use Rattle.initializer_levels.specs.declared.met.Finding.TheVariants as finds
use Rattle.initializer_levels.specs.Items.{items_left}
use Rattle.initializer_levels.specs.Met.{IsFindingIn, found_with}
use Rattle.initializer_levels.specs.Turns.{found_behind}
use Rattle.initializer_levels.proofs.FindingLemmas.{extra_more, one_finding}
use Rattle.initializer_levels.proofs.listing.push_extra.Goals as goal

pub items-preserved : goal.items-preserved
items-preserved c =
    let nodes = nodes_of c.args.unit.now in
    let extra = finds.Extra c.in-Some.next.initializer in
    record {
      found = λ facts is_static table paths found.
          ap
          (λ (fs : List Finding).
          found_behind (found_with nodes facts is_static table paths found fs) (refused (extra_items (items_left nodes facts c.behind-items.result)) no_plan))
          c.in_ok-push.ensures.items
          ∙ (ap
          (λ (items : Items). found_behind (found_with nodes facts is_static table paths found (c.items.findings.items ++ extra ∷ [])) (refused (extra_items items) no_plan))
          (c.behind-items.ensures.behind nodes facts)
          ∙ (extra_more nodes facts is_static table paths found c.items.findings.items c.in-Some.next.initializer (items_left nodes facts c.items.items) _ _ _
          (c.in-Some.ensures.some facts)
          ∙ c.items.invariant.found facts is_static table paths found));
      known = λ table paths known.
          subst (All (IsFindingIn table paths)) (sym c.in_ok-push.ensures.items) (one_finding table paths c.items.findings.items extra (c.items.invariant.known table paths known) tt);
    }
