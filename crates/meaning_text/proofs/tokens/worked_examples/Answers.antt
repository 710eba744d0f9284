-- Each example computes.
use Rattle.std.proofs.Common.{ℕ, refl}
use Rattle.vocabulary.specs.declared.token_kind.TokenKind.{TokenKind}
use Rattle.vocabulary.specs.declared.token_kind.TokenKind.TheVariants.{Identifier, Number, Character, String, HeaderName, Stray}
use Rattle.meaning_text.specs.Punctuators.{own_spelling, plain_punctuators, digraphs, punctuators, punctuator_of}
use Rattle.meaning_text.specs.Kinds.{kind_in}
use Rattle.meaning_text.specs.Fronts.{front_of}
use Rattle.meaning_text.specs.examples.Tokens.{IsFoundAs}
use Rattle.meaning_text.proofs.tokens.worked_examples.Goals as goal

-- names what an example opens
opened : ℕ
unfolding plain_punctuators digraphs punctuators punctuator_of kind_in front_of
opened = 0

pub returns-clause-spellings : goal.returns-clause-spellings
unfolding opened
returns-clause-spellings c = record {
  identifier = refl;
  universal = (refl, refl);
  short_universal = (refl, refl);
  dollar = refl;
  numbers = (refl, refl, refl, refl);
  signs = (refl, refl, refl, refl);
  sign_in_number = (refl, refl, refl);
  sign_behind_universal = (refl, refl, refl, refl);
  characters = (refl, refl, refl, refl, refl);
  no_characters = (refl, refl, refl, refl, refl, refl, refl, refl);
  strings = (refl, refl, refl, refl);
  no_strings = (refl, refl, refl);
  header_names = (refl, refl, refl, refl, refl);
  no_header_names = (refl, refl, refl, refl, refl, refl);
  strays = (refl, refl, refl, refl, refl, refl, refl);
  no_strays = (refl, refl, refl, refl, refl);
}

pub returns-clause-texts : goal.returns-clause-texts
unfolding opened
returns-clause-texts c = record {
  nothing = (refl, refl, refl);
  places = refl;
  tab_column = refl;
  other_file = refl;
  next_line = refl;
  comment_is_space = refl;
  line_start = refl;
  spliced = refl;
  last_backslash = refl;
  longest = refl;
  dots = (refl, refl);
  one_number = refl;
  sign_behind_universal = refl;
  short_universal = refl;
  carriage_return = refl;
  prefixes = refl;
  digraph = refl;
  terminals = refl;
  comments = refl;
  no_comment = refl;
  included = (refl, refl);
  included_string = (refl, refl, refl);
  not_included = (refl, refl, refl, refl, refl, refl, refl);
}

pub returns-clause-faults : goal.returns-clause-faults
unfolding opened
returns-clause-faults c = record {
  comment = (refl, refl);
  literal = refl;
  prefixed = refl;
  first = (refl, refl);
  backslash = (refl, refl);
  spliced = refl;
}

own_spelling-IsFoundAs : (kind : TokenKind) → IsFoundAs kind (own_spelling kind)
unfolding opened
own_spelling-IsFoundAs Identifier = tt
own_spelling-IsFoundAs Number = tt
own_spelling-IsFoundAs Character = tt
own_spelling-IsFoundAs String = tt
own_spelling-IsFoundAs HeaderName = tt
own_spelling-IsFoundAs Stray = tt
own_spelling-IsFoundAs punctuator = refl

pub returns-clause-table : goal.returns-clause-table
unfolding opened
returns-clause-table c = record {
  count = (refl, refl, refl);
  listed = refl;
  once = refl;
  short = refl;
  own_spellings = own_spelling-IsFoundAs;
  targets = refl;
  kinds = (refl, refl);
  fronts = refl;
}
