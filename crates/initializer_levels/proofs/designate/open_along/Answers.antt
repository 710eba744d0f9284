-- The part so far is a level, and the next one is sought from it.
use Rattle.std.proofs.Common.{All, subst, ◌∙◌}
use Rattle.std.proofs.lemmas.List.Elements.{All-head, All-tail}
use Rattle.meaning_initializers.specs.Items.{NoItems}
use Rattle.initializer_levels.specs.Parts.{IsKnownPart}
use Rattle.initializer_levels.proofs.ArrivingLemmas.{along_more, longer_on}
use Rattle.initializer_levels.proofs.designate.open_along.Goals as goal

pub parts-preserved : goal.parts-preserved
parts-preserved c =
    let table = c.args.types.now in
    let is = c.in-Some.ensures.cases.0 in
    let others = subst (All (IsKnownPart table)) is c.parts.invariant.others in
    record {
      place = λ read.
          along_more table c.parts.paths c.open_part.new.paths read c.parts.part c.in-Some.next.now c.in-Some.more.now _ c.parts.walk c.in_ok-walk.walk
          (c.in_ok-walk.ensures.opened read) is
          ∙ c.parts.invariant.place read;
      items = (c.in_ok-walk.ensures.opened (λ list. NoItems)).items ∙ c.parts.invariant.items;
      known = c.in_ok-walk.ensures.known;
      part = All-head (IsKnownPart table) c.in-Some.next.now c.in-Some.more.now others;
      others = All-tail (IsKnownPart table) c.in-Some.next.now c.in-Some.more.now others;
      keeps = longer_on c.args.paths.now c.parts.paths c.open_part.new.paths c.parts.invariant.keeps c.in_ok-walk.ensures.keeps;
    }

pub returns-clause-known : goal.returns-clause-known
returns-clause-known c =
    record {
      part = c.parts.invariant.part;
      walk =
          record {
            level = c.designated_part-level.ensures.known c.args.types.now c.parts.paths c.parts.invariant.known.level;
            levels = c.parts.invariant.known.levels;
          };
    }
