-- One more of them, behind the last one of its function.
use Rattle.std.proofs.Common.{◌≡◌, ℕ, ◌∙◌}
use Rattle.indexmap.specs.IndexMap.{get}
use Rattle.statement_judge.specs.Gotos.{same_owner}
use Rattle.statement_judge.proofs.GotoLemmas.{chain-more}
use Rattle.statement_judge.proofs.gotos.Gotos.add.Goals as goal

pub returns : goal.returns
returns c = λ around gotos stands.
    let old = c.args.self.now in
    chain-more around old.gotos.items c.push.new.self.items c.args.owner c.args.handle c.args.token c.args.name c.copied-before.result gotos
    c.in_ok-push.ensures.items (λ (owner : ℕ). get same_owner old.last owner) (λ (owner : ℕ). get same_owner c.keep_last.new.last owner)
    c.len-number.result (c.len-number.ensures ∙ old.gotos.ok.0) (c.copied-before.ensures ∙ c.get.ensures.value) c.in_ok-keep_last.ensures.kept stands
