use Rattle.std.proofs.Common.{◌≡◌, ℕ, [], ◌∷◌, ◌++◌, length, ap, sym, ◌∙◌, arith, length-append}
use Rattle.meaning_typing.specs.Specifiers as meaning
use Rattle.decl_judge.specs.Seen.{words_before, words_seen}
use Rattle.decl_judge.specs.Units.{handles_of, nodes_of}
use Rattle.decl_judge.proofs.WordLemmas.{before_none, before_taken}
use Rattle.decl_judge.proofs.words.words_of.Goals as goal

pub children-init : goal.children-init
children-init c =
    let nodes = nodes_of c.args.unit.now in
    record {
      words =
          ap (λ rest. words_before nodes (handles_of rest) (words_seen c.none-words.result)) c.iter-rest.ensures.pairs
          ∙ ap (words_before nodes (handles_of c.args.children.now)) c.none-words.ensures.seen
          ∙ before_none nodes (handles_of c.args.children.now);
      few = omega (arith, c.iter-rest.ensures.small, ap length c.iter-rest.ensures.pairs);
    }

pub children-preserved : goal.children-preserved
children-preserved c =
    let nodes = nodes_of c.args.unit.now in
    let last : ℕ × ℕ = (c.in-Some.child, c.in-Some.field-0-1) in
    let left : c.children.rest ≡ c.next_back.new.self ++ last ∷ [] = c.in-Some.ensures.steps in
    record {
      words =
          ap (words_before nodes (handles_of c.next_back.new.self)) (c.add.ensures.seen ∙ ap (λ kind. meaning.with_word kind (words_seen c.children.words)) c.kind_at.ensures)
          ∙ sym (before_taken nodes c.children.rest c.next_back.new.self last (words_seen c.children.words) left)
          ∙ c.children.invariant.words;
      few = omega (arith, c.add.ensures.longs, c.children.invariant.few, ap length left, length-append c.next_back.new.self (last ∷ []));
    }
