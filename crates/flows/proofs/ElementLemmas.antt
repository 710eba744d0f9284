-- What is read on behind elements.
use Rattle.std.proofs.Common.{◌≡◌, ℕ, zero, suc, ◌<◌, Bool, true, false, List, [], ◌∷◌, ◌++◌, length, if◌then◌else◌, sym, ap, ◌∙◌, arith}
use Rattle.flows.specs.declared.line.NoLine.{NoLine}
use Rattle.flows.specs.declared.line.NoLine.TheVariants as no_line
use Rattle.flows.specs.declared.wrong.Wrong.{Wrong}
use Rattle.flows.specs.Reading.{Reading, Reads, Fails, reads_on, behind_spaces}
use Rattle.flows.specs.Lines.{elements_from}
use Rattle.flows.specs.Answers.{IsReadingOf}

-- what was read before and what is read on make up the whole
pub record ReadsOn {X : Type 0} (element : List ℕ → Reading X) (goes_on : List ℕ → Bool) (onward : List ℕ → List ℕ) (before : List X) (text : List ℕ) (whole : Reading (List X)) : Type 0 where
  pub turns : ℕ
  pub enough : length text < turns
  pub same : elements_from element goes_on onward turns before text ≡ whole

module _ {X : Type 0} (element : List ℕ → Reading X) (goes_on : List ℕ → Bool) (onward : List ℕ → List ℕ) where
  pub one-more : (turns : ℕ) (before : List X) (text : List ℕ) (one : X) (rest : List ℕ) (test : Bool) → element text ≡ Reads one rest → goes_on (behind_spaces rest) ≡ test
      → elements_from element goes_on onward (suc turns) before text
      ≡ (if test then elements_from element goes_on onward turns (before ++ one ∷ []) (onward (behind_spaces rest)) else Reads (before ++ one ∷ []) (behind_spaces rest))
  one-more turns before text one rest test read goes =
      ap
      (λ (found : Reading X). reads_on found
      (λ here behind.
      if goes_on (behind_spaces behind)
      then elements_from element goes_on onward turns (before ++ here ∷ []) (onward (behind_spaces behind))
      else Reads (before ++ here ∷ []) (behind_spaces behind)))
      read
      ∙ ap
      (λ (go : Bool). if go then elements_from element goes_on onward turns (before ++ one ∷ []) (onward (behind_spaces rest)) else Reads (before ++ one ∷ []) (behind_spaces rest))
      goes

  goes-from : (turns : ℕ) (before : List X) (text : List ℕ) (whole : Reading (List X)) (one : X) (rest : List ℕ) → length text < turns
      → elements_from element goes_on onward turns before text ≡ whole → element text ≡ Reads one rest → length (onward (behind_spaces rest)) < length text → goes_on (behind_spaces rest) ≡ true
      → ReadsOn element goes_on onward (before ++ one ∷ []) (onward (behind_spaces rest)) whole
  goes-from zero before text whole one rest enough same read shorter goes = absurd (omega (arith, enough))
  goes-from (suc turns) before text whole one rest enough same read shorter goes =
      record { turns = turns; enough = omega (arith, enough, shorter); same = sym (one-more turns before text one rest true read goes) ∙ same }

  pub goes-further : (before : List X) (text : List ℕ) (whole : Reading (List X)) (one : X) (rest : List ℕ) → ReadsOn element goes_on onward before text whole
      → element text ≡ Reads one rest → length (onward (behind_spaces rest)) < length text → goes_on (behind_spaces rest) ≡ true
      → ReadsOn element goes_on onward (before ++ one ∷ []) (onward (behind_spaces rest)) whole
  goes-further before text whole one rest on read shorter goes = goes-from on.turns before text whole one rest on.enough on.same read shorter goes

  ends-from : (turns : ℕ) (before : List X) (text : List ℕ) (whole : Reading (List X)) (one : X) (rest : List ℕ) → length text < turns
      → elements_from element goes_on onward turns before text ≡ whole → element text ≡ Reads one rest → goes_on (behind_spaces rest) ≡ false → whole ≡ Reads (before ++ one ∷ []) (behind_spaces rest)
  ends-from zero before text whole one rest enough same read goes = absurd (omega (arith, enough))
  ends-from (suc turns) before text whole one rest enough same read goes = sym same ∙ one-more turns before text one rest false read goes

  pub ends : (before : List X) (text : List ℕ) (whole : Reading (List X)) (one : X) (rest : List ℕ) → ReadsOn element goes_on onward before text whole → element text ≡ Reads one rest
      → goes_on (behind_spaces rest) ≡ false → whole ≡ Reads (before ++ one ∷ []) (behind_spaces rest)
  ends before text whole one rest on read goes = ends-from on.turns before text whole one rest on.enough on.same read goes

  fails-from : (turns : ℕ) (before : List X) (text : List ℕ) (whole : Reading (List X)) (wrong : Wrong) (left : ℕ) → length text < turns
      → elements_from element goes_on onward turns before text ≡ whole → element text ≡ Fails wrong left → whole ≡ Fails wrong left
  fails-from zero before text whole wrong left enough same read = absurd (omega (arith, enough))
  fails-from (suc turns) before text whole wrong left enough same read =
      sym same
      ∙ ap
      (λ (found : Reading X). reads_on found
      (λ here behind.
      if goes_on (behind_spaces behind)
      then elements_from element goes_on onward turns (before ++ here ∷ []) (onward (behind_spaces behind))
      else Reads (before ++ here ∷ []) (behind_spaces behind)))
      read

  pub fails : (before : List X) (text : List ℕ) (whole : Reading (List X)) (wrong : Wrong) (left : ℕ) → ReadsOn element goes_on onward before text whole → element text ≡ Fails wrong left
      → whole ≡ Fails wrong left
  fails before text whole wrong left on read = fails-from on.turns before text whole wrong left on.enough on.same read

  -- an element that isn't read, for whatever reason
  pub unread : (before : List X) (text : List ℕ) (whole : Reading (List X)) → ReadsOn element goes_on onward before text whole → (why : NoLine) → IsReadingOf (element text) why → IsReadingOf whole why
  unread before text whole on (no_line.Wrong fault) is = fails before text whole fault.wrong fault.left on is
  unread before text whole on no_line.NoMemory is = tt
