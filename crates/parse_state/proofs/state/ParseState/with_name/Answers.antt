-- A spelling that isn't empty.
use Rattle.std.proofs.Common.{◌<◌, length, sym, subst}
use Rattle.parse_state.specs.Seen.{Read}
use Rattle.parse_state.proofs.state.ParseState.with_name.Goals as goal

pub spelling-requires : goal.spelling-requires
spelling-requires c = subst (λ (seen : Read). c.args.declared.name.0 < length seen.names) (sym c.self.view_is) c.requires
