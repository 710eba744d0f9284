-- What is read on behind a block.
use Rattle.std.proofs.Common.{◌≡◌, ℕ, ◌<◌, true, false, List, [], ◌∷◌, ◌++◌, length, refl, sym, ap, ◌∙◌, subst}
use Rattle.meaning_paths.specs.Graphs.{BasicBlock}
use Rattle.flows.specs.Reading.{Reading, Reads, Fails, behind_spaces}
use Rattle.flows.specs.Lines.{begins_block, behind_bar, block_at}
use Rattle.flows.specs.Answers.{IsOneMore}
use Rattle.flows.proofs.ElementLemmas.{ReadsOn, ends, goes-further}

abbrev pub BlocksReadOn : (before : List BasicBlock) (text : List ℕ) (whole : Reading (List BasicBlock)) → Type 0
BlocksReadOn before text whole = ReadsOn block_at begins_block behind_bar before text whole

another-from : (before after : List BasicBlock) (text behind next : List ℕ) (whole : Reading (List BasicBlock)) (found : Reading BasicBlock) → BlocksReadOn before text whole → block_at text ≡ found
    → IsOneMore before after found behind → length next < length text → begins_block (behind_spaces behind) ≡ true → next ≡ behind_bar (behind_spaces behind) → BlocksReadOn after next whole
another-from before after text behind next whole (Fails wrong left) on is more shorter begins onward = absurd more
another-from before after text behind next whole (Reads one rest) on is more shorter begins onward =
    let read : block_at text ≡ Reads one behind = is ∙ ap (λ (other : List ℕ). Reads one other) more.1 in
    let within : length (behind_bar (behind_spaces behind)) < length text = subst (λ (other : List ℕ). length other < length text) onward shorter in
    subst (λ (all : List BasicBlock). BlocksReadOn all next whole) (sym more.0)
    (subst (λ (other : List ℕ). BlocksReadOn (before ++ one ∷ []) other whole) (sym onward) (goes-further block_at begins_block behind_bar before text whole one behind on read within begins))

last-from : (before after : List BasicBlock) (text behind : List ℕ) (whole : Reading (List BasicBlock)) (found : Reading BasicBlock) → BlocksReadOn before text whole → block_at text ≡ found
    → IsOneMore before after found behind → begins_block (behind_spaces behind) ≡ false → whole ≡ Reads after (behind_spaces behind)
last-from before after text behind whole (Fails wrong left) on is more begins = absurd more
last-from before after text behind whole (Reads one rest) on is more begins =
    let read : block_at text ≡ Reads one behind = is ∙ ap (λ (other : List ℕ). Reads one other) more.1 in
    ends block_at begins_block behind_bar before text whole one behind on read begins ∙ ap (λ (all : List BasicBlock). Reads all (behind_spaces behind)) (sym more.0)

module _ (before after : List BasicBlock) (text behind : List ℕ) (whole : Reading (List BasicBlock)) (on : BlocksReadOn before text whole) (more : IsOneMore before after (block_at text) behind) where
  pub another : (next : List ℕ) → length next < length text → begins_block (behind_spaces behind) ≡ true → next ≡ behind_bar (behind_spaces behind) → BlocksReadOn after next whole
  another next shorter begins onward = another-from before after text behind next whole (block_at text) on refl more shorter begins onward

  pub last : begins_block (behind_spaces behind) ≡ false → whole ≡ Reads after (behind_spaces behind)
  last begins = last-from before after text behind whole (block_at text) on refl more begins
