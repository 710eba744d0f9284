-- Each example computes.
use Rattle.std.proofs.Common.{ℕ, refl}
use Rattle.meaning_text.specs.Punctuators.{plain_punctuators, digraphs, punctuators, punctuator_of}
use Rattle.meaning_text.specs.Kinds.{kind_in}
use Rattle.meaning_text.specs.Fronts.{front_of}
use Rattle.meaning_attributes.proofs.attributes.worked_examples.Goals as goal

-- names what an example opens
opened : ℕ
unfolding plain_punctuators digraphs punctuators punctuator_of kind_in front_of
opened = 0

pub returns-clause-spaces : goal.returns-clause-spaces
unfolding opened
returns-clause-spaces c = record {
  bad = refl;
  good = refl;
  no_single_token = refl;
  a_later_one = refl;
}

pub returns-clause-contexts : goal.returns-clause-contexts
unfolding opened
returns-clause-contexts c = record {
  good = refl;
  bad = refl;
  no_integers = refl;
  greatest = refl;
  beyond = refl;
  too_large_for_any_type = refl;
  words_are_not_looked_at = refl;
  several = refl;
  the_first_bad_item = refl;
}

pub returns-clause-aligns : goal.returns-clause-aligns
unfolding opened
returns-clause-aligns c = record {
  bad = refl;
  good = refl;
  the_largest = refl;
}

pub returns-clause-lists : goal.returns-clause-lists
unfolding opened
returns-clause-lists c = record {
  nothing_meant = refl;
  flags_and_their_arguments = refl;
  each_flag = refl;
  underscores_on_both_sides = refl;
  underscores_on_one_side = refl;
  two_bad_items = refl;
}

pub returns-clause-extensions : goal.returns-clause-extensions
unfolding opened
returns-clause-extensions c = record {
  left_out = refl;
  no_words = refl;
  around_an_item = refl;
  the_word_is_told = refl;
  alone = refl;
}

pub returns-clause-items : goal.returns-clause-items
unfolding opened
returns-clause-items c = record {
  good = refl;
  none = refl;
}

pub returns-clause-statements : goal.returns-clause-statements
unfolding opened
returns-clause-statements c = record {
  good = refl;
  bad = refl;
  beyond = refl;
}
