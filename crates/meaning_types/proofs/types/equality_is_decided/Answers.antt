use Rattle.meaning_types.proofs.Equality.{are_equal_kinds-Decides, are_equal_flags-Decides, are_same-Decides}
use Rattle.meaning_types.proofs.types.equality_is_decided.Goals as goal

pub returns-clause-kinds : goal.returns-clause-kinds
returns-clause-kinds c = are_equal_kinds-Decides

pub returns-clause-flags : goal.returns-clause-flags
returns-clause-flags c = are_equal_flags-Decides

pub returns-clause-same : goal.returns-clause-same
returns-clause-same c = are_same-Decides
