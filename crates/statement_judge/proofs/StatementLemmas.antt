-- What is kept of labels and jumps, a node at a time.
use Rattle.std.proofs.Common.{◌≡◌, ℕ, suc, ◌+◌, ◌<◌, ◌≤◌, List, [], ◌∷◌, ◌++◌, length, slice_get, Some, sym, ap, subst, ◌∙◌, arith, append-nil, append_assoc}
use Rattle.meaning_typing.specs.Facts.{Fact}
use Rattle.meaning_typing.specs.Surroundings.{Surrounding}
use Rattle.meaning_typing.specs.Units.{UnitNodes, kind_at, node_at}
use Rattle.meaning_statements.specs.Above.{expressions_around}
use Rattle.meaning_statements.specs.Jumps.{SeenGoto, SeenLabel, gotos_at, gotos_before, labels_at, labels_before, switch_of}
use Rattle.meaning_statements.specs.StatementRows.{SwitchLabel, switch_labels_before, switch_labels_if}
use Rattle.statement_rows.specs.declared.named_labels.FunctionLabels.{FunctionLabels}
use Rattle.statement_rows.specs.declared.switch_labels.SwitchLabels.{SwitchLabels}
use Rattle.statement_rows.specs.Labels.{StandsForLabels, StandsForNamed}
use Rattle.statement_judge.specs.declared.gotos.Gotos.{Gotos}
use Rattle.statement_judge.specs.declared.nesting.Nesting.{Nesting}
use Rattle.statement_judge.specs.declared.statements.Statements.{Statements}
use Rattle.statement_judge.specs.Gotos.{StandsForGotos}
use Rattle.statement_judge.specs.Nesting.{IsNestingOf}
use Rattle.statement_judge.specs.Later.{ComeLater, SwitchValuesStandBefore}
use Rattle.statement_judge.specs.Statements.{IsKeptOf}
use Rattle.statement_judge.proofs.FactLemmas.{labels-later}

-- nothing comes later than all that is known
pub come_now : (nodes : UnitNodes) (facts : List Fact) → length facts ≤ length nodes → ComeLater nodes facts facts
come_now nodes facts few = record { more = []; behind = sym (append-nil facts); few = few }

-- what comes later than what comes later
pub come_later : (nodes : UnitNodes) (facts between later : List Fact) → ComeLater nodes facts between → ComeLater nodes between later
    → ComeLater nodes facts later
come_later nodes facts between later one other = record {
  more = one.more ++ other.more;
  behind = other.behind ∙ ap (λ front. front ++ other.more) one.behind ∙ append_assoc facts one.more other.more;
  few = other.few;
}

-- so what is kept stays kept where more is known
pub kept_later : (nodes : UnitNodes) (surroundings : List Surrounding) (facts later : List Fact) (count : ℕ) (kept : Statements)
    → ComeLater nodes facts later → IsKeptOf nodes surroundings facts count kept → IsKeptOf nodes surroundings later count kept
kept_later nodes surroundings facts later count kept come is = record {
  nesting = is.nesting;
  switches = λ last more. is.switches last (come_later nodes facts later last come more);
  labels = is.labels;
  gotos = is.gotos;
}

module _ (nodes : UnitNodes) (surroundings : List Surrounding) where
  pub kept_none : (facts : List Fact) (nesting : Nesting) (switches : SwitchLabels) (labels : FunctionLabels) (gotos : Gotos)
      → IsNestingOf nodes surroundings nesting → StandsForLabels switches [] → StandsForNamed labels []
      → StandsForGotos (expressions_around nodes surroundings) gotos []
      → IsKeptOf nodes surroundings facts 0 (record { nesting = nesting; switch_labels = switches; labels = labels; gotos = gotos })
  kept_none facts nesting switches labels gotos is no_switches no_labels no_gotos =
      record { nesting = is; switches = λ later come. no_switches; labels = no_labels; gotos = no_gotos }

  -- the next node
  module _ (facts : List Fact) (handle : ℕ) (next : length facts ≡ handle) (order : SwitchValuesStandBefore nodes surroundings)
      (before : (at : ℕ) (child : ℕ × ℕ) → slice_get (node_at nodes handle).children at ≡ Some child → child.0 < handle) (old : Statements)
      (kept : IsKeptOf nodes surroundings facts handle old) where
    kept_next : (switches : SwitchLabels) (labels : FunctionLabels) (gotos : Gotos)
        → ((read : List SwitchLabel) → StandsForLabels old.switch_labels read
        → StandsForLabels switches (switch_labels_if nodes surroundings facts handle (kind_at nodes handle) (switch_of nodes surroundings handle) ++ read))
        → ((read : List SeenLabel) → StandsForNamed old.labels read → StandsForNamed labels (labels_at nodes surroundings handle ++ read))
        → ((read : List SeenGoto) → StandsForGotos (expressions_around nodes surroundings) old.gotos read
        → StandsForGotos (expressions_around nodes surroundings) gotos (gotos_at nodes surroundings handle ++ read))
        → IsKeptOf nodes surroundings facts (suc handle) (record { nesting = old.nesting; switch_labels = switches; labels = labels; gotos = gotos })
    kept_next switches labels gotos more_switches more_labels more_gotos = record {
      nesting = kept.nesting;
      switches = λ later come.
          subst (λ front. StandsForLabels switches (front ++ switch_labels_before nodes surroundings later handle))
          (sym (labels-later nodes surroundings facts later come handle next order before))
          (more_switches (switch_labels_before nodes surroundings later handle) (kept.switches later come));
      labels = more_labels (labels_before nodes surroundings handle) kept.labels;
      gotos = more_gotos (gotos_before nodes surroundings handle) kept.gotos;
    }

    pub kept_more : (switches : SwitchLabels) (labels : FunctionLabels) (gotos : Gotos)
        → ((read : List SwitchLabel) → StandsForLabels old.switch_labels read
        → StandsForLabels switches (switch_labels_if nodes surroundings facts handle (kind_at nodes handle) (switch_of nodes surroundings handle) ++ read))
        → ((read : List SeenLabel) → StandsForNamed old.labels read → StandsForNamed labels (labels_at nodes surroundings handle ++ read))
        → ((read : List SeenGoto) → StandsForGotos (expressions_around nodes surroundings) old.gotos read
        → StandsForGotos (expressions_around nodes surroundings) gotos (gotos_at nodes surroundings handle ++ read))
        → IsKeptOf nodes surroundings facts (handle + 1) (record { nesting = old.nesting; switch_labels = switches; labels = labels; gotos = gotos })
    kept_more switches labels gotos more_switches more_labels more_gotos =
        subst (λ (count : ℕ). IsKeptOf nodes surroundings facts count (record { nesting = old.nesting; switch_labels = switches; labels = labels; gotos = gotos }))
        {x = suc handle} {y = handle + 1} (omega arith) (kept_next switches labels gotos more_switches more_labels more_gotos)
