use Rattle.meaning_attributes.proofs.PieceLemmas.{pieces_at-joined, comma_pieces-pieces, comma_pieces-unique}
use Rattle.meaning_attributes.proofs.attributes.lists_are_cut_in_one_way.Goals as goal

pub returns-clause-joined : goal.returns-clause-joined
returns-clause-joined c = pieces_at-joined 0

pub returns-clause-pieces : goal.returns-clause-pieces
returns-clause-pieces c = comma_pieces-pieces

pub returns-clause-unique : goal.returns-clause-unique
returns-clause-unique c = λ tokens pieces. comma_pieces-unique pieces tokens
