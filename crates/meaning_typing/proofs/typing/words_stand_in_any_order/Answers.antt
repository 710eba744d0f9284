use Rattle.meaning_typing.proofs.Words.{neighbours_may_swap}
use Rattle.meaning_typing.proofs.typing.words_stand_in_any_order.Goals as goal

pub returns : goal.returns
returns c = neighbours_may_swap
