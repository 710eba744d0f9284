-- The examples of files compute, once the digits of numbers and the tests of words unfold.
use Rattle.std.proofs.Common.{◌≡◌, ℕ, true, List, [], codes, ap, refl, arith}
use Rattle.std.specs.List.{flat_map, list_all}
use Rattle.std.proofs.lemmas.Bool.{false≢true}
use Rattle.std.specs.Fmt.{digits}
use Rattle.meaning_text.specs.Terminals.{terminals_of}
use Rattle.meaning_text.specs.Punctuators.{punctuator_of, punctuators, plain_punctuators, digraphs}
use Rattle.meaning_text.specs.Fronts.{front_of}
use Rattle.meaning_types.specs.Types.{no_flags}
use Rattle.meaning_syntax.specs.Words.{is_name, is_keyword, is_reserved, is_space_id, is_space_name, is_space_number, is_predefined_macro}
use Rattle.meaning_syntax.specs.Items.{Item, item_spelled, item_fits}
use Rattle.meaning_syntax.specs.Binding.{are_bound}
use Rattle.meaning_first_rules.specs.Failures.{Failure}
use Rattle.meaning_first_rules.specs.plain.Judging.{failures_of}
use Rattle.meaning_first_rules.specs.Text.{warnings_text}
use Rattle.meaning_first_rules.specs.examples.Failures.{Warns, tokens_in, user_flags}
use Rattle.meaning_first_rules.proofs.MixedSpaces.{stars_mix}
use Rattle.meaning_first_rules.proofs.listing.worked_examples.Goals as goal

-- names what an example opens, the digits of numbers and each test of a word
opened : ℕ
unfolding digits front_of punctuator_of punctuators plain_punctuators digraphs is_name is_keyword is_reserved is_space_id is_space_name is_space_number is_predefined_macro
opened = 0

-- an example whose parts compute
warns : {text : List ℕ} {unit : List Item} {failures : List Failure} {warnings : List ℕ}
    → terminals_of (tokens_in text) ≡ flat_map item_spelled unit → list_all item_fits unit ≡ true → are_bound [] unit ≡ true
    → failures_of unit ≡ failures → warnings_text (codes "t.c") (tokens_in text) failures ≡ warnings → Warns text unit failures warnings
warns spelled fits bound listed warned =
    record { is_unit = record { is_spelled = record { spelled = spelled; fits = fits }; bound = bound }; listed = listed; warned = warned }

pub returns-clause-space_lost : goal.returns-clause-space_lost
unfolding opened
returns-clause-space_lost c = warns refl refl refl refl refl

pub returns-clause-deeper_space_lost : goal.returns-clause-deeper_space_lost
unfolding opened
returns-clause-deeper_space_lost c = warns refl refl refl refl refl

pub returns-clause-two_stars : goal.returns-clause-two_stars
returns-clause-two_stars c = stars_mix 1 no_flags user_flags (λ same. false≢true (ap (λ flags. flags.noderef) same))

pub returns-clause-noderef_accessed : goal.returns-clause-noderef_accessed
unfolding opened
returns-clause-noderef_accessed c = warns refl refl refl refl refl

pub returns-clause-space_accessed : goal.returns-clause-space_accessed
unfolding opened
returns-clause-space_accessed c = warns refl refl refl refl refl

pub returns-clause-noderef_told : goal.returns-clause-noderef_told
unfolding opened
returns-clause-noderef_told c = warns refl refl refl refl refl

pub returns-clause-equal_flags : goal.returns-clause-equal_flags
unfolding opened
returns-clause-equal_flags c = warns refl refl refl refl refl

pub returns-clause-plain_ints : goal.returns-clause-plain_ints
unfolding opened
returns-clause-plain_ints c = warns refl refl refl refl refl

pub returns-clause-stored_through : goal.returns-clause-stored_through
unfolding opened
returns-clause-stored_through c = warns refl refl refl refl refl

pub returns-clause-lost_behind_pointer : goal.returns-clause-lost_behind_pointer
unfolding opened
returns-clause-lost_behind_pointer c = warns refl refl refl refl refl

pub returns-clause-load_alone : goal.returns-clause-load_alone
unfolding opened
returns-clause-load_alone c = warns refl refl refl refl refl

pub returns-clause-address : goal.returns-clause-address
unfolding opened
returns-clause-address c = warns refl refl refl refl refl

pub returns-clause-ordered : goal.returns-clause-ordered
returns-clause-ordered c = record {
  number_of_conversions = refl;
  number_of_accesses = refl;
  by_token = grind arith;
  by_rule = grind arith;
  by_part = grind arith;
}
