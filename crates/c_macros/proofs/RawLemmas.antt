-- A substitution looks at no argument as it was written but at those that stand so in the body.
use Rattle.std.proofs.Common.{◌≡◌, ℕ, zero, suc, ◌+◌, Bool, true, false, ◌||◌, List, [], ◌∷◌, refl, sym, ap, ◌∙◌, true≢false, arith}
use Rattle.std.specs.List.{list_any}
use Rattle.std.proofs.lemmas.Bool.{eq-eqb}
use Rattle.meaning_text.specs.Places.{At}
use Rattle.meaning_macros.specs.Bodies.{Operand, OwnToken, Argument, Stringized, CommaAndRest, Chain, chains, is_of, takes_raw, stands_raw, space_of_chain}
use Rattle.meaning_macros.specs.Hiding.{Hiding, hides_nothing, led, put_at, set_at}
use Rattle.meaning_macros.specs.Stringizing.{string_of_argument}
use Rattle.meaning_macros.specs.Substitution.{argument_of, comma_before, operand_tokens, Pasted, Joins, BadBehind, paste, chain_tokens, part_of, with_part, substituted}
use Rattle.meaning_macros.specs.Expansion.{Budget, Expander, Ready, AllReady, Stops, called, laid, expand_arguments}
use Rattle.c_macros.specs.Meaning.{if_wanted, raw_from, put_all, Opened, calling}

or-left : (a b : Bool) → a ≡ true → (a || b) ≡ true
or-left true b h = refl
or-left false b h = absurd (true≢false (sym h))

or-right : (a b : Bool) → b ≡ true → (a || b) ≡ true
or-right true b h = refl
or-right false b h = h

-- the arguments that are asked for are the same
abbrev Same : (asked : ℕ → Bool) → (raws others : List (List Hiding)) → Type 0
Same asked raws others = (k : ℕ) → asked k ≡ true → argument_of raws k ≡ argument_of others k

operand-same : (place : At) (raws others : List (List Hiding)) (o : Operand) → Same (λ k. is_of k o) raws others → operand_tokens place raws o ≡ operand_tokens place others o
operand-same place raws others (OwnToken t) same = refl
operand-same place raws others (Argument space k) same = ap (set_at place) (same k (eq-eqb k k refl))
operand-same place raws others (Stringized space k) same = ap (λ argument. string_of_argument place argument ∷ []) (same k (eq-eqb k k refl))
operand-same place raws others (CommaAndRest comma space k) same =
    ap (λ argument. comma_before (hides_nothing (put_at place comma)) (led space (set_at place argument))) (same k (eq-eqb k k refl))

chain-same : (place : At) (raws others : List (List Hiding)) (left : Pasted) (os : Chain) → Same (λ k. list_any (is_of k) os) raws others → chain_tokens place raws left os ≡ chain_tokens place others left os
chain-same place raws others (BadBehind count) os same = refl
chain-same place raws others (Joins left) [] same = refl
chain-same place raws others (Joins left) (o ∷ os) same =
    ap (λ tokens. chain_tokens place raws (paste left tokens) os) (operand-same place raws others o (λ k h. same k (or-left (is_of k o) (list_any (is_of k) os) h)))
    ∙ chain-same place raws others (paste left (operand_tokens place others o)) os (λ k h. same k (or-right (is_of k o) (list_any (is_of k) os) h))

part-same : (place : At) (raws others readys : List (List Hiding)) (chain : Chain) → Same (λ k. takes_raw k chain) raws others → part_of place raws readys chain ≡ part_of place others readys chain
part-same place raws others readys [] same = refl
part-same place raws others readys (OwnToken t ∷ os) same = chain-same place raws others (Joins []) (OwnToken t ∷ os) same
part-same place raws others readys (Stringized space j ∷ os) same = chain-same place raws others (Joins []) (Stringized space j ∷ os) same
part-same place raws others readys (CommaAndRest comma space j ∷ os) same = chain-same place raws others (Joins []) (CommaAndRest comma space j ∷ os) same
part-same place raws others readys (Argument space j ∷ []) same = refl
part-same place raws others readys (Argument space j ∷ o ∷ os) same = chain-same place raws others (Joins []) (Argument space j ∷ o ∷ os) same

pub substituted-same : (place : At) (raws others readys : List (List Hiding)) (body : List Chain) → Same (λ k. stands_raw k body) raws others → substituted place raws readys body ≡ substituted place others readys body
substituted-same place raws others readys [] same = refl
substituted-same place raws others readys (chain ∷ body) same =
    λ i. with_part (space_of_chain chain)
    (part-same place raws others readys chain (λ k h. same k (or-left (takes_raw k chain) (list_any (takes_raw k) body) h)) i)
    (substituted-same place raws others readys body (λ k h. same k (or-right (takes_raw k chain) (list_any (takes_raw k) body) h)) i)

-- those that are asked for were kept
raw_from-argument : (body : List Chain) (n : ℕ) (arguments : List (List Hiding)) (k : ℕ) → stands_raw (n + k) body ≡ true → argument_of (raw_from body n arguments) k ≡ argument_of arguments k
raw_from-argument body n [] k asked = refl
raw_from-argument body n (a ∷ arguments) zero asked = ap (λ wanted. if_wanted wanted a) (ap (λ j. stands_raw j body) (omega arith) ∙ asked)
raw_from-argument body n (a ∷ arguments) (suc k) asked = raw_from-argument body (n + 1) arguments k (ap (λ j. stands_raw j body) (omega arith) ∙ asked)

-- a call begins with its first argument
pub first_argument : (f : Expander) (c : Opened) (arguments : List (List Hiding)) (b : Budget)
    → put_all c.put (called f c.name c.macro arguments c.hides c.rest (expand_arguments f (chains c.macro) b 0 arguments)) ≡ calling f c [] [] arguments b
first_argument f c arguments b = by (expand_arguments f (chains c.macro) b 0 arguments)
  where
    by : (ready : Ready) → put_all c.put (called f c.name c.macro arguments c.hides c.rest ready) ≡ put_all c.put (called f c.name c.macro (raw_from (chains c.macro) 0 arguments) c.hides c.rest ready)
    by (Stops end) = refl
    by (AllReady readys left) =
        ap (λ found. put_all c.put (laid f c.name c.hides c.rest left found))
        (substituted-same c.name.token.at arguments (raw_from (chains c.macro) 0 arguments) readys (chains c.macro)
        (λ k asked. sym (raw_from-argument (chains c.macro) 0 arguments k (ap (λ j. stands_raw j (chains c.macro)) (omega arith) ∙ asked))))
