use Rattle.c_tokens.specs.Seen.{toks_of}
use Rattle.ksparse.specs.Written.{paths_of, reply_seen}
use Rattle.ksparse.proofs.LinkedTrees.{both-ok}
use Rattle.ksparse.proofs.check.check_tokens.Goals as goal

pub returns-clause-safe : goal.returns-clause-safe
returns-clause-safe c =
    let names = c.args.names in
    let toks = c.args.toks in
    both-ok c.check_renumbered.result _ _ _
    (λ written right linked clean.
    c.clean_checks_are_safe.ensures c.args.classes.now (paths_of names toks.files) (toks_of names toks.tokens) (toks_of names toks.undef_tokens) (reply_seen written)
    right clean (linked clean))
    c.check_renumbered.ensures.right c.check_renumbered.ensures.linked
