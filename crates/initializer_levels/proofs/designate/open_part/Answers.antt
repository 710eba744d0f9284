-- The part is a level, and the one of which it is a part stands around.
use Rattle.std.proofs.Common.{◌≡◌, ◌∷◌, ℕ, List, None, sym, ap, ◌∙◌}
use Rattle.initializer_levels.specs.Kept.{level_seen}
use Rattle.initializer_levels.specs.Levels.{Level, designated_part, opened}
use Rattle.initializer_levels.specs.Parts.{type_seen}
use Rattle.initializer_levels.specs.Turns.{Walk, nothing_found}
use Rattle.initializer_levels.specs.Walks.{levels_seen}
use Rattle.initializer_levels.proofs.GoingLemmas.{all_longer, all_stay, known_longer, level_stays}
use Rattle.initializer_levels.proofs.designate.open_part.Goals as goal

pub returns-clause-opened : goal.returns-clause-opened
returns-clause-opened c = λ read.
    let table = c.args.types.now in
    let old = c.args.paths.now in
    let new = c.path_of_part.new.paths in
    let known = c.requires.walk in
    let keeps = c.in_ok-path.ensures.keeps in
    let number = c.args.part.number in
    let seen = c.in_ok-inner.ensures.walk table new read nothing_found in
    record {
      level =
          ap (λ (w : Walk). w.level) seen
          ∙ (c.opened.ensures.level new read
          ∙ ap (λ (path : List ℕ). opened (type_seen table c.args.part.of) path None) (c.in_ok-path.ensures.path table c.args.walk.level.of known.level.parts));
      levels =
          ap (λ (w : Walk). w.levels) seen
          ∙ (ap (λ (level : Level). level ∷ levels_seen table new read c.args.walk.levels.items) (c.designated_part-level.ensures.level table new read)
          ∙ (ap (λ (level : Level). designated_part number level ∷ levels_seen table new read c.args.walk.levels.items)
          (level_stays table old new read c.args.walk.level keeps known.level)
          ∙ ap (λ (levels : List Level). designated_part number (level_seen table old read c.args.walk.level) ∷ levels) (all_stay table old new read c.args.walk.levels.items keeps known.levels)));
      items = c.in_ok-inner.ensures.items;
    }

pub returns-clause-known : goal.returns-clause-known
returns-clause-known c =
    let table = c.args.types.now in
    let old = c.args.paths.now in
    let new = c.path_of_part.new.paths in
    let known = c.requires.walk in
    let keeps = c.in_ok-path.ensures.keeps in
    c.in_ok-inner.ensures.known table new (c.opened.ensures.known new (c.in_ok-path.ensures.known known.level.path))
    (c.designated_part-level.ensures.known table new (known_longer table old new c.args.walk.level keeps known.level))
    (all_longer table old new c.args.walk.levels.items keeps known.levels)
