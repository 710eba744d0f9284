-- What rows can begin with, and where their looks hold: computed for each symbol over all classes.
use Rattle.std.proofs.Common.{◌≡◌, Bool, true, false, not, ◌||◌, refl}
use Rattle.std.specs.List.{list_all, list_any}
use Rattle.vocabulary.specs.declared.token_class.TokenClass.{TokenClass}
use Rattle.vocabulary.specs.declared.symbol.Symbol.{Symbol}
use Rattle.vocabulary.specs.declared.symbol.Symbol.TheVariants.{ExternalDeclarations}
use Rattle.meaning_grammar.specs.Classes.{all_token_classes, is_among}
use Rattle.meaning_grammar.specs.Productions.{productions}
use Rattle.meaning_grammar.specs.Looks.{looks}
use Rattle.meaning_grammar.specs.Beginnings.{beginnings, can_begin}
use Rattle.meaning_grammar.specs.laws.Table.{BeginningsAreThoseOfRows, LooksLeadOn, BeginningsAreTaken, NoBeginningIsLost, holds_before_some, go_on, are_taken, has_rows_alike, is_left_out}
use Rattle.meaning_grammar.proofs.Everywhere.{each_class}

-- two tests have one answer
abbrev agree : Bool → Bool → Bool
agree true b = b
agree false b = not b

agree-same : (a b : Bool) → agree a b ≡ true → a ≡ b
agree-same true true is = refl
agree-same true false is = absurd (cc is)
agree-same false true is = absurd (cc is)
agree-same false false is = refl

begins_alike : (symbol : Symbol) → list_all (λ class_. agree (is_among (beginnings symbol) class_) (list_any (λ row. can_begin row class_) (productions symbol))) all_token_classes ≡ true
begins_alike ExternalDeclarations = refl
begins_alike symbol = refl

pub beginnings_are_those_of_rows : BeginningsAreThoseOfRows
beginnings_are_those_of_rows symbol class_ =
    agree-same (is_among (beginnings symbol) class_) (list_any (λ row. can_begin row class_) (productions symbol))
    (each_class (λ one. agree (is_among (beginnings symbol) one) (list_any (λ row. can_begin row one) (productions symbol))) (begins_alike symbol) class_)

all_go_on : (symbol : Symbol) → list_all (go_on (looks symbol) (productions symbol)) all_token_classes ≡ true
all_go_on ExternalDeclarations = refl
all_go_on symbol = refl

pub looks_lead_on : LooksLeadOn
looks_lead_on symbol class_ = each_class (go_on (looks symbol) (productions symbol)) (all_go_on symbol) class_

-- a premise that is no matter where the first test passes
past : (a b : Bool) → (a || b) ≡ true → a ≡ false → b ≡ true
past true b passes is = absurd (cc is)
past false b passes is = passes

all_are_taken : (symbol : Symbol) → list_all (λ class_. has_rows_alike symbol || are_taken (looks symbol) (productions symbol) class_) all_token_classes ≡ true
all_are_taken ExternalDeclarations = refl
all_are_taken symbol = refl

pub beginnings_are_taken : BeginningsAreTaken
beginnings_are_taken symbol class_ one_each =
    past (has_rows_alike symbol) (are_taken (looks symbol) (productions symbol) class_)
    (each_class (λ one. has_rows_alike symbol || are_taken (looks symbol) (productions symbol) one) (all_are_taken symbol) class_) one_each

-- some look holds at a class, if something begins with it
abbrev is_met : Symbol → TokenClass → Bool
is_met symbol class_ =
    not (is_among (beginnings symbol) class_) || (is_left_out symbol class_ || list_any (λ look. holds_before_some look class_) (looks symbol))

all_are_met : (symbol : Symbol) → list_all (is_met symbol) all_token_classes ≡ true
all_are_met ExternalDeclarations = refl
all_are_met symbol = refl

met : (a b c : Bool) → (not a || (b || c)) ≡ true → a ≡ true → b ≡ false → c ≡ true
met false b c passes begins kept = absurd (cc begins)
met true b c passes begins kept = past b c passes kept

pub no_beginning_is_lost : NoBeginningIsLost
no_beginning_is_lost symbol class_ begins kept =
    met (is_among (beginnings symbol) class_) (is_left_out symbol class_) (list_any (λ look. holds_before_some look class_) (looks symbol))
    (each_class (is_met symbol) (all_are_met symbol) class_) begins kept
