use Rattle.std.proofs.Common.{◌∙◌}
use Rattle.c_directives.proofs.SearchLemmas.{directory_taken}
use Rattle.c_directives.proofs.search.directory_of.Goals as goal

pub returns : goal.returns
returns c = c.split_at.ensures.front ∙ directory_taken c.args.path.now c.directory_length.result c.directory_length.ensures.end
