use Rattle.parse_state.specs.Seen.{state_of}
use Rattle.c_decl.proofs.Listing.{suffixes_end}
use Rattle.c_decl.proofs.declarators.join_suffixes.Goals as goal

pub put_suffixes-requires : goal.put_suffixes-requires
put_suffixes-requires c = record { lists = suffixes_end (state_of c.args.state.now).values c.requires.finds }
