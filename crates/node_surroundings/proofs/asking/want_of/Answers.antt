-- What is wanted of a part goes by what its node asks.
use Rattle.std.proofs.Common.{◌≡◌, ℕ, ap, sym, ◌∙◌}
use Rattle.vocabulary.specs.declared.node_kind.NodeKind.{NodeKind}
use Rattle.meaning_typing.specs.Operations.{operation_of}
use Rattle.meaning_typing.specs.Surroundings.{Asking, Want, asking_of, want_of, wanted_so}
use Rattle.node_surroundings.specs.Seen.{asking_seen}
use Rattle.node_surroundings.specs.declared.asking.Asking.{Asking as Asked}
use Rattle.node_surroundings.proofs.asking.want_of.Goals as goal

by_asking : (kind : NodeKind) (place : ℕ) (asked by : Asked) (want : Want) → asking_seen asked ≡ asking_of kind → asked ≡ by
    → want ≡ wanted_so (asking_seen by) (operation_of kind) place → want ≡ want_of kind place
by_asking kind place asked by want asks is wanted =
    wanted ∙ ap (λ asking. wanted_so asking (operation_of kind) place) (sym (ap asking_seen is) ∙ asks)

pub returns-in-ValueFirst : goal.returns-in-ValueFirst
returns-in-ValueFirst c =
    by_asking c.args.kind c.args.place c.asking_of.result _ _ c.asking_of.ensures c.in-ValueFirst.is (c.value_first.ensures (operation_of c.args.kind))

pub returns-in-ValueLast : goal.returns-in-ValueLast
returns-in-ValueLast c =
    by_asking c.args.kind c.args.place c.asking_of.result _ _ c.asking_of.ensures c.in-ValueLast.is (c.value_last.ensures (operation_of c.args.kind))

pub returns-in-StoreFirst : goal.returns-in-StoreFirst
returns-in-StoreFirst c =
    by_asking c.args.kind c.args.place c.asking_of.result _ _ c.asking_of.ensures c.in-StoreFirst.is (c.store_first.ensures.simple (operation_of c.args.kind))

pub returns-in-ThreeValues : goal.returns-in-ThreeValues
returns-in-ThreeValues c =
    by_asking c.args.kind c.args.place c.asking_of.result _ _ c.asking_of.ensures c.in-ThreeValues.is (c.three_values.ensures (operation_of c.args.kind))

pub returns-in-OneValue : goal.returns-in-OneValue
returns-in-OneValue c =
    by_asking c.args.kind c.args.place c.asking_of.result _ _ c.asking_of.ensures c.in-OneValue.is (c.one_value.ensures (operation_of c.args.kind))
