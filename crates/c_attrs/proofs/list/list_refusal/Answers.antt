use Rattle.std.proofs.Common.{option_map, sym, ap, ◌∙◌}
use Rattle.c_tokens.specs.Seen.{toks_of}
use Rattle.c_attrs.specs.Seen.{fault_telling}
use Rattle.c_attrs.proofs.RefusalLemmas.{refusal_in-read}
use Rattle.c_attrs.proofs.list.list_refusal.Goals as goal

pub returns : goal.returns
returns c = λ before.
    c.refusal.ensures ∙ ap (option_map fault_telling) (sym (refusal_in-read before (toks_of c.args.names.now c.args.toks.now)))
