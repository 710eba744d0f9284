-- Words that are added from the last child on.
use Rattle.std.proofs.Common.{◌≡◌, ℕ, List, [], ◌∷◌, ◌++◌, refl, ap, ◌∙◌}
use Rattle.std.proofs.lemmas.List.{map-append}
use Rattle.meaning_typing.specs.Units.{UnitNodes, kind_at}
use Rattle.meaning_typing.specs.Specifiers as meaning
use Rattle.decl_judge.specs.Seen.{words_before}
use Rattle.decl_judge.specs.Units.{handles_of}

before_last : (nodes : UnitNodes) (handles : List ℕ) (last : ℕ) (words : meaning.Words)
    → words_before nodes (handles ++ last ∷ []) words ≡ words_before nodes handles (meaning.with_word (kind_at nodes last) words)
before_last nodes [] last words = refl
before_last nodes (handle ∷ handles) last words = ap (meaning.with_word (kind_at nodes handle)) (before_last nodes handles last words)

pub before_none : (nodes : UnitNodes) (handles : List ℕ) → words_before nodes handles meaning.no_words ≡ meaning.words_of nodes handles
before_none nodes [] = refl
before_none nodes (handle ∷ handles) = ap (meaning.with_word (kind_at nodes handle)) (before_none nodes handles)

-- the last child that was left adds its word
pub before_taken : (nodes : UnitNodes) (left rest : List (ℕ × ℕ)) (last : ℕ × ℕ) (words : meaning.Words) → left ≡ rest ++ last ∷ []
    → words_before nodes (handles_of left) words ≡ words_before nodes (handles_of rest) (meaning.with_word (kind_at nodes last.0) words)
before_taken nodes left rest last words is =
    ap (λ children. words_before nodes (handles_of children) words) is
    ∙ ap (λ handles. words_before nodes handles words) (map-append (λ child. child.0) rest (last ∷ []))
    ∙ before_last nodes (handles_of rest) last.0 words
