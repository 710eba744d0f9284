-- Each law is a lemma.
use Rattle.meaning_typing.proofs.Members.{arrow_is_dot_of_star, anonymous_members_are_steps}
use Rattle.meaning_typing.proofs.typing.members_are_selected.Goals as goal

pub returns-clause-arrow : goal.returns-clause-arrow
returns-clause-arrow c = arrow_is_dot_of_star

pub returns-clause-anonymous : goal.returns-clause-anonymous
returns-clause-anonymous c = anonymous_members_are_steps
