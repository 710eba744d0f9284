-- What holds between two steps, and what a step does.
use Rattle.std.specs.Prelude.{◌≡◌, ◌<◌, ◌≤◌, ℕ, ◌+◌, ◌*◌, ◌^◌, true, List, length, Option, Some, None}
use Rattle.std.specs.List.{list_all}
use Rattle.vocabulary.specs.declared.production_item.ProductionItem.{ProductionItem}
use Rattle.meaning_grammar.specs.Terminals.{Terminal}
use Rattle.meaning_grammar.specs.Weights.{live}
use Rattle.meaning_derivation.specs.State.{State}
use Rattle.meaning_derivation.specs.Actions.{act}
use Rattle.meaning_derivation.specs.Leading.{Standing, LeadsTo, is_no_end, is_usual}
use Rattle.parse_state.specs.Seen.{state_of}
use Rattle.c_parse.specs.declared.looks.Looks.{Looks}
use Rattle.c_parse.specs.declared.parser.Parser.{Parser}
use Rattle.c_parse.specs.Steps.{AreLooks, IsSorted, standing}

abbrev pub MayBeLooks : State → List Terminal → Option Looks → Type 0
MayBeLooks s terminals None = Unit {0}
MayBeLooks s terminals (Some looks) = AreLooks s terminals looks

-- items before what a parser has left
abbrev pub standing_with : List ProductionItem → Parser → Standing
standing_with items parser = standing items (state_of parser.state) parser.terminals.terminals

-- what holds where these items wait
pub record IsReady (items : List ProductionItem) (parser : Parser) : Type 0 where
  pub names : parser.terminals.names ≡ parser.state.names
  pub looked : MayBeLooks (state_of parser.state) parser.terminals.terminals parser.looks
  pub sorted : IsSorted items (state_of parser.state)
  pub usual : list_all is_usual items ≡ true
  pub unended : list_all is_no_end parser.terminals.terminals ≡ true
  pub few : length items ≤ 2 ^ 41

-- how far it is to the end
abbrev pub way : List ProductionItem → Parser → ℕ
way items parser = length parser.terminals.terminals * 2 ^ 50 + live items

-- one step, before which these items wait
pub record Moves (items : List ProductionItem) (before after : Parser) : Type 0 where
  pub leads : LeadsTo act (standing_with items before) (standing_with after.pending after)
  pub ready : IsReady after.pending after
  pub names : after.state.names ≡ before.state.names
  pub shorter : way after.pending after < way items before
