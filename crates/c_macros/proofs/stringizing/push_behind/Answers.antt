use Rattle.std.proofs.Common.{◌≡◌, ◌++◌, ℕ, List, ap, sym, ◌∙◌, append_assoc}
use Rattle.std.proofs.lemmas.List.Elements.{All-rest}
use Rattle.meaning_macros.specs.Stringizing.{text_behind}
use Rattle.c_macros.specs.Reading.{HasName, hidings_by}
use Rattle.c_macros.proofs.stringizing.push_behind.Goals as goal

text_more : (before mid after space spelled behind all : List ℕ) → mid ≡ before ++ space → after ≡ mid ++ spelled → before ++ (space ++ spelled ++ behind) ≡ all → after ++ behind ≡ all
text_more before mid after space spelled behind all first second given =
    ap (λ text. text ++ behind) (second ∙ ap (λ text. text ++ spelled) first ∙ append_assoc before space spelled)
    ∙ append_assoc before (space ++ spelled) behind
    ∙ given

pub loop-item-preserved : goal.loop-item-preserved
loop-item-preserved c =
    record {
      text = λ r reads.
          text_more c.loop-item.text.items c.push_space.new.text.items c.push_within.new.text.items _ _ (text_behind (hidings_by r c.in-Some.others.now)) _
          c.in_ok-push_space.ensures (c.in_ok-push_within.ensures r reads)
          (ap (λ items. c.loop-item.text.items ++ text_behind (hidings_by r items)) (sym c.in-Some.ensures.cases.0) ∙ c.loop-item.invariant.text r reads);
      known = All-rest (HasName c.args.names.now) c.in-Some.item.now c.in-Some.others.now c.loop-item.rest.now c.in-Some.ensures.cases.0 c.loop-item.invariant.known;
    }
