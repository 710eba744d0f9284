-- What the symbol opens to stands in its place.
use Rattle.std.proofs.Common.{◌^◌, ◌≤◌, List, length, refl, sym, ap, subst, ◌∙◌}
use Rattle.vocabulary.specs.declared.production_item.ProductionItem.{ProductionItem}
use Rattle.meaning_derivation.specs.Derivation.{symbols}
use Rattle.c_parse.proofs.Moving.{opening_moves}
use Rattle.c_parse.proofs.stepping.replace.Goals as goal

pub returns : goal.returns
returns c =
    let same = c.note_waiting.ensures.same in
    opening_moves c.args.symbol c.args.items.now c.args.looks c.args.parser.now _ _ c.requires.ready c.requires.looked c.requires.opens
    (same ∙ c.in_ok-push.ensures) (ap symbols (sym same)) (subst (λ (items : List ProductionItem). length items ≤ 2 ^ 40) (sym same) c.note_waiting.ensures.few)
    c.note_waiting.ensures.state refl c.note_waiting.ensures.names refl
