use Rattle.meaning_first_rules.proofs.Units.{listings_exist, listings_are_unique}
use Rattle.meaning_first_rules.proofs.listing.each_unit_has_one_listing.Goals as goal

pub returns-clause-exist : goal.returns-clause-exist
returns-clause-exist c = listings_exist

pub returns-clause-unique : goal.returns-clause-unique
returns-clause-unique c = listings_are_unique
