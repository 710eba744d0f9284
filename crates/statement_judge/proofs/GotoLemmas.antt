-- `goto`s of a function, from one to the one before it.
use Rattle.std.proofs.Common.{◌≡◌, ℕ, zero, suc, ◌+◌, ◌<◌, Bool, true, false, nat_eq, List, [], ◌∷◌, ◌++◌, length, slice_get, Option, Some, None, IfSome, refl, sym, ap, subst, ◌∙◌, arith, if◌then◌else◌}
use Rattle.std.proofs.lemmas.Bool.Decides.{nat_tests}
use Rattle.meaning_operands.specs.Failures.{Broken}
use Rattle.meaning_statements.specs.Jumps.{SeenGoto, SeenLabel, first_named}
use Rattle.meaning_statements.specs.StatementRows.{goto_broken, gotos_broken}
use Rattle.sparse_model.specs.declared.ids.NameId.{NameId}
use Rattle.node_facts.specs.Facts.{name_seen}
use Rattle.statement_judge.specs.declared.gotos.KeptGoto.{KeptGoto}
use Rattle.statement_judge.specs.Gotos.{IsChain, ends, passes, links, goto_seen, kept_seen, same_owner}

got-front : (kept more : List KeptGoto) (number : ℕ) (goto : KeptGoto) → slice_get kept number ≡ Some goto → slice_get (kept ++ more) number ≡ Some goto
got-front [] more number goto is = absurd (cc is)
got-front (first ∷ kept) more zero goto is = is
got-front (first ∷ kept) more (suc number) goto is = got-front kept more number goto is

got-last : (kept : List KeptGoto) (goto : KeptGoto) → slice_get (kept ++ goto ∷ []) (length kept) ≡ Some goto
got-last [] goto = refl
got-last (first ∷ kept) goto = got-last kept goto

got-within : (kept : List KeptGoto) (number : ℕ) (goto : KeptGoto) → slice_get kept number ≡ Some goto → number < length kept
got-within [] number goto is = absurd (cc is)
got-within (first ∷ kept) zero goto is = omega arith
got-within (first ∷ kept) (suc number) goto is = omega (arith, got-within kept number goto is)

owner-itself : (owner : ℕ) → nat_eq owner owner ≡ true
owner-itself owner = grind (arith, nat_tests)

equal-owners : (owner other : ℕ) → nat_eq owner other ≡ true → owner ≡ other
equal-owners owner other is = grind (arith, nat_tests)

module _ (around : ℕ → List ℕ) (kept : List KeptGoto) where
  -- more of them come behind
  chain-longer : (more : List KeptGoto) (owner : ℕ) (number : Option ℕ) (gotos : List SeenGoto) → IsChain around kept owner number gotos
      → IsChain around (kept ++ more) owner number gotos
  chain-longer more owner number gotos ends = ends
  chain-longer more owner number gotos (passes goto rest other on) = passes goto rest other (chain-longer more owner number rest on)
  chain-longer more owner number gotos (links at goto rest is before on) =
      links at goto rest (got-front kept more at goto is) before (chain-longer more owner goto.before rest on)

  -- none
  pub none_chained : (owner : ℕ) (number : Option ℕ) → number ≡ None → IsChain around kept owner number []
  none_chained owner number is = subst (λ (n : Option ℕ). IsChain around kept owner n []) (sym is) ends

  pub chain-within : (owner number : ℕ) (gotos : List SeenGoto) → IsChain around kept owner (Some number) gotos → number < length kept
  chain-within owner number gotos (passes goto rest other on) = chain-within owner number rest on
  chain-within owner number gotos (links at goto rest is before on) = got-within kept number goto is

  chain-below : (owner : ℕ) (number : Option ℕ) (gotos : List SeenGoto) → IsChain around kept owner number gotos
      → IfSome number (λ at. at < length kept)
  chain-below owner None gotos on = tt
  chain-below owner (Some number) gotos on = chain-within owner number gotos on

  -- one more
  module _ (later : List KeptGoto) (owner handle token : ℕ) (name : NameId) (before : Option ℕ) (gotos : List SeenGoto)
      (pushed : later ≡ kept ++ (record { handle = handle; token = token; name = name; before = before }) ∷ []) where
    abbrev one : KeptGoto
    one = record { handle = handle; token = token; name = name; before = before }

    chained : (other : ℕ) (was : Option ℕ) → IsChain around kept owner before gotos → IsChain around kept other was gotos → (same : Bool)
        → nat_eq owner other ≡ same
        → IsChain around (kept ++ one ∷ []) other (if same then Some (length kept) else was) (goto_seen around owner handle token name ∷ gotos)
    chained other was own on true is =
        subst (λ (o : ℕ). IsChain around (kept ++ one ∷ []) o (Some (length kept)) (goto_seen around owner handle token name ∷ gotos)) (equal-owners owner other is)
        (links (length kept) one gotos (got-last kept one) (chain-below owner before gotos own) (chain-longer (one ∷ []) owner before gotos own))
    chained other was own on false is =
        passes (goto_seen around owner handle token name) gotos is (chain-longer (one ∷ []) other was gotos on)

    pub chain-more : (last now : ℕ → Option ℕ) (number : ℕ) → number ≡ length kept → before ≡ last owner
        → ((other : ℕ) → now other ≡ (if same_owner owner other then Some number else last other))
        → ((other : ℕ) → IsChain around kept other (last other) gotos)
        → (other : ℕ) → IsChain around later other (now other) (goto_seen around owner handle token name ∷ gotos)
    chain-more last now number count is put on other =
        subst (λ items. IsChain around items other (now other) (goto_seen around owner handle token name ∷ gotos)) (sym pushed)
        (subst (λ (at : Option ℕ). IsChain around (kept ++ one ∷ []) other at (goto_seen around owner handle token name ∷ gotos))
        (sym (put other ∙ ap (λ (n : ℕ). if same_owner owner other then Some n else last other) count))
        (chained other (last other) (subst (λ (b : Option ℕ). IsChain around kept owner b gotos) (sym is) (on owner)) (on other) (nat_eq owner other) refl))

  -- Over all of one function

  module _ (owner : ℕ) (labels : List SeenLabel) where
    abbrev pub broken_by : KeptGoto → List Broken
    broken_by goto = goto_broken (kept_seen around owner goto) (first_named owner (name_seen goto.name) labels)

    -- what is broken by one, and by those before it
    pub record IsFirst (number : ℕ) (gotos : List SeenGoto) : Type 0 where
      pub goto : KeptGoto
      pub rest : List SeenGoto
      pub is : slice_get kept number ≡ Some goto
      pub before : IfSome goto.before (λ before. before < number)
      pub on : IsChain around kept owner goto.before rest
      pub broken : gotos_broken owner labels gotos ≡ broken_by goto ++ gotos_broken owner labels rest

    passed : (goto : SeenGoto) (gotos : List SeenGoto) (test : Bool) → test ≡ false
        → (if test then goto_broken goto (first_named owner goto.name labels) else []) ++ gotos_broken owner labels gotos ≡ gotos_broken owner labels gotos
    passed goto gotos true is = absurd (cc is)
    passed goto gotos false is = refl

    taken : (goto : SeenGoto) (gotos : List SeenGoto) (test : Bool) → test ≡ true
        → (if test then goto_broken goto (first_named owner goto.name labels) else []) ++ gotos_broken owner labels gotos
        ≡ goto_broken goto (first_named owner goto.name labels) ++ gotos_broken owner labels gotos
    taken goto gotos true is = refl
    taken goto gotos false is = absurd (cc is)

    pub first-of : (number : ℕ) (gotos : List SeenGoto) → IsChain around kept owner (Some number) gotos → IsFirst number gotos
    first-of number gotos (passes goto rest other on) =
        let first = first-of number rest on in
        record {
          goto = first.goto;
          rest = first.rest;
          is = first.is;
          before = first.before;
          on = first.on;
          broken = passed goto rest (nat_eq goto.owner owner) other ∙ first.broken;
        }
    first-of number gotos (links at goto rest is before on) =
        record {
          goto = goto;
          rest = rest;
          is = is;
          before = before;
          on = on;
          broken = taken (kept_seen around owner goto) rest (nat_eq owner owner) (owner-itself owner);
        }

    pub none-left : (gotos : List SeenGoto) → IsChain around kept owner None gotos → gotos_broken owner labels gotos ≡ []
    none-left gotos ends = refl
    none-left gotos (passes goto rest other on) = passed goto rest (nat_eq goto.owner owner) other ∙ none-left rest on
