-- The listing is one, and so is its text.
use Rattle.std.proofs.Common.{sym, ap, ◌∙◌}
use Rattle.meaning_warnings.specs.Listing.{unit_lines}
use Rattle.meaning_warnings.proofs.Listings.{in_order, lists, unique}
use Rattle.meaning_warnings.proofs.texts.each_unit_has_one_text.Goals as goal

pub returns-clause-exist : goal.returns-clause-exist
returns-clause-exist c found = (in_order found, lists found)

pub returns-clause-unique : goal.returns-clause-unique
returns-clause-unique c found listing other is also = unique listing other is.ordered also.ordered (λ h. is.same h ∙ sym (also.same h))

pub returns-clause-one_text : goal.returns-clause-one_text
returns-clause-one_text c shown classes found text other is also =
    is.tells
    ∙ ap (unit_lines shown classes)
    (unique is.listing also.listing is.lists.ordered also.lists.ordered (λ h. is.lists.same h ∙ sym (also.lists.same h)))
    ∙ sym also.tells
