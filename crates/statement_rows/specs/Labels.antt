-- Labels as they are kept, and the lists of those that were read for which they stand, the last one first.
use Rattle.std.specs.Prelude.{◌≡◌, ℕ, ℤ, Bool, ◌&&◌, nat_eq, nat_lt, List, Option, Some, None, option_map, if◌then◌else◌}
use Rattle.std.specs.Ordering.{int_eq}
use Rattle.sparse_model.specs.declared.ids.NameId.{NameId}
use Rattle.sparse_model.specs.contracts.ids.NameIdPartialEq.TheImpl as names
use Rattle.indexmap.specs.IndexMap.{get}
use Rattle.meaning_statements.specs.Jumps.{SeenLabel, first_named}
use Rattle.meaning_statements.specs.StatementRows.{SwitchLabel, earliest_alike}
use Rattle.node_facts.specs.Facts.{name_seen}
use Rattle.statement_rows.specs.declared.named_labels.FunctionLabel.{FunctionLabel}
use Rattle.statement_rows.specs.declared.named_labels.FunctionLabels.{FunctionLabels}
use Rattle.statement_rows.specs.declared.switch_labels.SwitchLabels.{SwitchLabels}

-- Labels of switches

-- how the maps compare their keys
abbrev pub same_numbered : ℕ × ℤ → ℕ × ℤ → Bool
same_numbered key other = nat_eq key.0 other.0 && int_eq key.1 other.1

abbrev pub same_switch : ℕ → ℕ → Bool
same_switch switch other = nat_eq switch other

abbrev pub case_label : (switch : ℕ) → (number : ℤ) → (token : ℕ) → SwitchLabel
case_label switch number token = record { switch = switch; number = Some number; token = token }

abbrev pub default_label : (switch : ℕ) → (token : ℕ) → SwitchLabel
default_label switch token = record { switch = switch; number = None; token = token }

-- the maps have the earliest tokens
abbrev pub KeepsCases : List SwitchLabel → (ℕ × ℤ → Option ℕ) → Type 0
KeepsCases labels found = (key : ℕ × ℤ) → found key ≡ earliest_alike key.0 (Some key.1) labels

abbrev pub KeepsDefaults : List SwitchLabel → (ℕ → Option ℕ) → Type 0
KeepsDefaults labels found = (switch : ℕ) → found switch ≡ earliest_alike switch None labels

pub record StandsForLabels (kept : SwitchLabels) (labels : List SwitchLabel) : Type 0 where
  pub cases : KeepsCases labels (get same_numbered kept.numbers)
  pub defaults : KeepsDefaults labels (get same_switch kept.defaults)

-- Labels of functions

abbrev pub same_named : ℕ × NameId → ℕ × NameId → Bool
same_named key other = nat_eq key.0 other.0 && names.eq-value.it key.1 other.1

abbrev pub label_seen : (owner : ℕ) → NameId → FunctionLabel → SeenLabel
label_seen owner name label =
    record { handle = label.handle; token = label.token; name = name_seen name; owner = owner; inside = label.inside }

-- what is kept of one
abbrev pub label_kept : SeenLabel → FunctionLabel
label_kept label = record { handle = label.handle; token = label.token; inside = label.inside }

abbrev pub earlier_label : FunctionLabel → Option FunctionLabel → FunctionLabel
earlier_label label None = label
earlier_label label (Some other) = if nat_lt other.token label.token then other else label

-- the map has the first labels
abbrev pub KeepsNamed : List SeenLabel → (ℕ × NameId → Option FunctionLabel) → Type 0
KeepsNamed labels found = (key : ℕ × NameId) → found key ≡ option_map label_kept (first_named key.0 (name_seen key.1) labels)

abbrev pub StandsForNamed : FunctionLabels → List SeenLabel → Type 0
StandsForNamed kept labels = KeepsNamed labels (get same_named kept.labels)
