-- What is known of the tokens of a file is known of its parts.
use Rattle.std.proofs.Common.{◌≡◌, ℕ, List, ◌∷◌, ◌++◌, length, take, drop, sym, subst, ◌∙◌, append_assoc}
use Rattle.std.proofs.Math.Seq.{drop-append_seam, take-append_seam}
use Rattle.std.proofs.lemmas.List.Elements.{All-drop, All-head, All-same, All-tail, All-take}
use Rattle.c_tokens.specs.Seen.{IsKnown}
use Rattle.c_tokens.specs.declared.token.Token.{Token}
use Rattle.c_directives.specs.Conditions.{AreKnown}

-- what is known of tokens is known of those in front and of those behind
pub known-front : (names : List (List ℕ)) (front behind : List Token) → AreKnown names (front ++ behind) → AreKnown names front
known-front names front behind known =
    All-same (λ (t : Token). IsKnown names t.name) front (take (length front) (front ++ behind)) (sym (take-append_seam front behind))
    (All-take (λ (t : Token). IsKnown names t.name) (length front) (front ++ behind) known)

pub known-back : (names : List (List ℕ)) (front behind : List Token) → AreKnown names (front ++ behind) → AreKnown names behind
known-back names front behind known =
    All-same (λ (t : Token). IsKnown names t.name) behind (drop (length front) (front ++ behind)) (sym (drop-append_seam front behind))
    (All-drop (λ (t : Token). IsKnown names t.name) (length front) (front ++ behind) known)

-- the tokens of a directive and those around it are known
pub record KnownParts (names : List (List ℕ)) (text : List Token) (hash : Token) (rest behind : List Token) : Type 0 where
  pub text_known : AreKnown names text
  pub hash_known : IsKnown names hash.name
  pub rest_known : AreKnown names rest
  pub behind_known : AreKnown names behind

pub known-parts : (names : List (List ℕ)) (all text : List Token) (hash : Token) (rest behind : List Token) → text ++ hash ∷ rest ++ behind ≡ all → AreKnown names all → KnownParts names text hash rest behind
known-parts names all text hash rest behind is known =
    let parts : AreKnown names (text ++ (hash ∷ rest ++ behind)) = subst (AreKnown names) (sym is ∙ append_assoc text (hash ∷ rest) behind) known in
    let line = known-back names text (hash ∷ rest ++ behind) parts in
    let others = All-tail (λ (t : Token). IsKnown names t.name) hash (rest ++ behind) line in
    record {
      text_known = known-front names text (hash ∷ rest ++ behind) parts;
      hash_known = All-head (λ (t : Token). IsKnown names t.name) hash (rest ++ behind) line;
      rest_known = known-front names rest behind others;
      behind_known = known-back names rest behind others;
    }
