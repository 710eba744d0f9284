-- By what stands first.
use Rattle.std.proofs.Common.{◌≡◌, ◌∙◌, ap, sym}
use Rattle.meaning_initializers.specs.Reading.{designators_of}
use Rattle.decl_judge.specs.Units.{nodes_of}
use Rattle.initializer_levels.proofs.ReadingLemmas.{designated_there, no_string_there, string_there}
use Rattle.initializer_levels.proofs.reading.string_in.Goals as goal

pub returns-then-next : goal.returns-then-next
returns-then-next c = λ facts type_ is.
    designated_there (nodes_of c.args.unit.now) facts c.requires.order type_ _ _ c.in_ok-next.next.initializer c.in_ok-next.next.is_designated c.in_ok-next.next.is_moved
    (designators_of (nodes_of c.args.unit.now) facts c.in_ok-next.next.item) (c.in_ok-next.ensures.some facts) c.if-next.true (c.in_ok-next.ensures.designated facts)

pub returns-then-is_string : goal.returns-then-is_string
returns-then-is_string c = λ facts type_ is.
    string_there (nodes_of c.args.unit.now) facts c.requires.order type_ _ _ c.in_ok-next.next.initializer c.in_ok-next.next.is_designated c.in_ok-next.next.is_moved
    (designators_of (nodes_of c.args.unit.now) facts c.in_ok-next.next.item) (c.in_ok-next.ensures.some facts) c.if-next.false
    (sym (c.is_string_for-is_string.ensures facts type_ is) ∙ c.if-is_string.true)

pub returns : goal.returns
returns c = λ facts type_ is.
    no_string_there (nodes_of c.args.unit.now) facts c.requires.order type_ _ _ c.in_ok-next.next.initializer c.in_ok-next.next.is_designated c.in_ok-next.next.is_moved
    (designators_of (nodes_of c.args.unit.now) facts c.in_ok-next.next.item) (c.in_ok-next.ensures.some facts) c.if-next.false
    (sym (c.is_string_for-is_string.ensures facts type_ is) ∙ c.if-is_string.false)
