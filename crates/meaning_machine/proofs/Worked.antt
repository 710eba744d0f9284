-- A worked run is played.
use Rattle.std.proofs.Common.{◌≡◌, ℕ, true, List, [], Some}
use Rattle.std.specs.List.{list_all}
use Rattle.meaning_syntax.specs.Words.{is_name, is_keyword, is_reserved, is_space_id, is_space_name, is_predefined_macro}
use Rattle.meaning_syntax.specs.Items.{Item, item_fits}
use Rattle.meaning_syntax.specs.Binding.{are_bound}
use Rattle.meaning_syntax.specs.Trees.{unit_tree}
use Rattle.meaning_types.specs.Types.{TypeTree}
use Rattle.meaning_first_rules.specs.Failures.{Failure}
use Rattle.meaning_first_rules.proofs.Units.{AreFound, found_are_listed}
use Rattle.meaning_machine.specs.Values.{In, Value}
use Rattle.meaning_machine.specs.Outcomes.{Gives}
use Rattle.meaning_machine.specs.Memory.{load}
use Rattle.meaning_machine.specs.Machine.{Control, Outcome}
use Rattle.meaning_machine.specs.Runs.{World, Move}
use Rattle.meaning_machine.specs.plain.Playing.{played, outcome_of}
use Rattle.meaning_machine.specs.examples.Runs.{Meets, Ends}
use Rattle.meaning_machine.proofs.Playing.{played_is_run}

-- the tests of names compute
unfoldable pub opened : ℕ
unfolding is_keyword is_reserved is_predefined_macro is_name is_space_name is_space_id
opened = 0

-- an example that is played to its outcome
pub meets : {items : List Item} {failures : List Failure} {moves : List Move} {activity : ℕ} {outcome : Outcome} (world : World)
    → played (unit_tree items) moves ≡ Some world → list_all item_fits items ≡ true → are_bound [] items ≡ true → AreFound items failures
    → outcome_of (unit_tree items) world activity ≡ Some outcome → Meets items failures moves activity outcome
meets {items = items} {moves = moves} world is fit bound judged met =
    record {
      fit = fit;
      bound = bound;
      listed = found_are_listed items _ bound judged;
      world = world;
      runs = played_is_run (unit_tree items) moves world is;
      met = met;
    }

-- an example that is played to its end
pub ends : {items : List Item} {moves : List Move} {activities : List Control} {block : ℕ} {type_ : TypeTree} {value : Value} (world : World)
    → played (unit_tree items) moves ≡ Some world → list_all item_fits items ≡ true → are_bound [] items ≡ true → AreFound items []
    → world.activities ≡ activities → load world.blocks (record { type_ = type_; spot = In block [] 0 1 }) ≡ Gives value
    → Ends items moves activities block type_ value
ends {items = items} {moves = moves} world is fit bound judged ended left =
    record {
      fit = fit;
      bound = bound;
      silent = found_are_listed items _ bound judged;
      world = world;
      runs = played_is_run (unit_tree items) moves world is;
      ended = ended;
      left = left;
    }
