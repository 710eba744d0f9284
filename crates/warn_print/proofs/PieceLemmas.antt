-- A piece that joins a stack goes next.
use Rattle.std.proofs.Common.{◌≡◌, ℕ, ◌+◌, ◌<◌, List, [], ◌∷◌, ◌++◌, refl, sym, ap, ◌∙◌, subst, arith, append-nil, append_assoc}
use Rattle.c_types.specs.Table.{TypeTable, IsTypeId}
use Rattle.warn_print.specs.declared.pieces.Piece.{Piece}
use Rattle.warn_print.specs.Pieces.{AreKnownPieces, id_of, piece_spelling, piece_weight, stack_text, stack_weight}

pub stack_text-push :
    (names : List (List ℕ)) (table : TypeTable) (stack : List Piece) (piece : Piece)
    → stack_text names table (stack ++ piece ∷ []) ≡ piece_spelling names table piece ++ stack_text names table stack
stack_text-push names table [] piece = sym (append-nil (piece_spelling names table piece))
stack_text-push names table (below ∷ stack) piece =
    ap (λ text. text ++ piece_spelling names table below) (stack_text-push names table stack piece)
    ∙ append_assoc (piece_spelling names table piece) (stack_text names table stack) (piece_spelling names table below)

pub stack_weight-push :
    (table : TypeTable) (stack : List Piece) (piece : Piece)
    → stack_weight table (stack ++ piece ∷ []) ≡ piece_weight table piece + stack_weight table stack
stack_weight-push table [] piece = refl
stack_weight-push table (below ∷ stack) piece = omega (arith, stack_weight-push table stack piece)

pub known-push :
    (table : TypeTable) (stack : List Piece) (piece : Piece) → AreKnownPieces table stack → IsTypeId table (id_of piece)
    → AreKnownPieces table (stack ++ piece ∷ [])
known-push table [] piece known is = (is, tt)
known-push table (below ∷ stack) piece known is = (known.0, known-push table stack piece known.1 is)

pub known-rest :
    (table : TypeTable) (stack : List Piece) (piece : Piece) → AreKnownPieces table (stack ++ piece ∷ []) → AreKnownPieces table stack
known-rest table [] piece known = tt
known-rest table (below ∷ stack) piece known = (known.0, known-rest table stack piece known.1)

pub known-last :
    (table : TypeTable) (stack : List Piece) (piece : Piece) → AreKnownPieces table (stack ++ piece ∷ []) → IsTypeId table (id_of piece)
known-last table [] piece known = known.0
known-last table (below ∷ stack) piece known = known-last table stack piece known.1

-- Two pieces that join

module _ (table : TypeTable) (stack one two : List Piece) (piece next : Piece) (first : one ≡ stack ++ piece ∷ []) (second : two ≡ one ++ next ∷ []) where
  pub text-two : (names : List (List ℕ)) → stack_text names table two ≡ piece_spelling names table next ++ (piece_spelling names table piece ++ stack_text names table stack)
  text-two names =
      ap (stack_text names table) second ∙ stack_text-push names table one next
      ∙ ap (λ text. piece_spelling names table next ++ text) (ap (stack_text names table) first ∙ stack_text-push names table stack piece)

  pub weight-two : stack_weight table two ≡ piece_weight table next + (piece_weight table piece + stack_weight table stack)
  weight-two =
      ap (stack_weight table) second ∙ stack_weight-push table one next
      ∙ ap (λ weight. piece_weight table next + weight) (ap (stack_weight table) first ∙ stack_weight-push table stack piece)

  pub known-two : AreKnownPieces table stack → IsTypeId table (id_of piece) → IsTypeId table (id_of next) → AreKnownPieces table two
  known-two known is also =
      subst (AreKnownPieces table) (sym second)
      (known-push table one next (subst (AreKnownPieces table) (sym first) (known-push table stack piece known is)) also)

-- Texts and weights of two pieces in the place of one

pub joined-two : (t a b s m st : List ℕ) → st ≡ a ++ (b ++ s) → m ≡ a ++ b → t ++ st ≡ t ++ m ++ s
joined-two t a b s m st is all = rw (is, all) (simp append_assoc)

pub joined-more : (t k a b s m e st : List ℕ) → e ≡ t ++ k → st ≡ a ++ (b ++ s) → m ≡ k ++ (a ++ b) → e ++ st ≡ t ++ m ++ s
joined-more t k a b s m e st front is all = rw (front, is, all) (simp append_assoc)

pub lighter-more : (two a b s all : ℕ) → two ≡ a + (b + s) → all ≡ a + b + 1 → two < all + s
lighter-more two a b s all is whole = omega (arith, is, whole)

pub lighter-behind : (two p s all : ℕ) → two ≡ p + (1 + s) → all ≡ p + 3 → two < all + s
lighter-behind two p s all is whole = omega (arith, is, whole)

pub lighter-whole : (two a b s all : ℕ) → two ≡ a + (b + s) → a + b < all → two < all + s
lighter-whole two a b s all is below = omega (arith, is, below)
