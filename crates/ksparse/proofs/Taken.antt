-- What a sink takes piece by piece, and what it tells of it.
use Rattle.std.proofs.Common.{◌≡◌, ℕ, ◌+◌, ◌-◌, List, [], ◌++◌, Option, Some, None, length, take, drop, sym, ◌∙◌, ap, append_assoc, append-nil}
use Rattle.std.proofs.lemmas.List.{take_rest}
use Rattle.std.proofs.Math.Seq.{take-add}
use Rattle.sparse_outside.specs.Put.{Puts, taken_of}
use Rattle.sparse_outside.specs.declared.sink.Put.{Put}
use Rattle.sparse_outside.specs.declared.sink.Put.TheVariants.{Took, Failed}
use Rattle.ksparse.specs.Sinks.{TellsWhatItTook}

-- a sink that took a front of a text and then some of the rest has taken a longer front
pub take_longer :
    (old mid new text : List ℕ) (done count : ℕ) → mid ≡ old ++ take done text → new ≡ mid ++ take count (take (length text - done) (drop done text))
    → new ≡ old ++ take (done + count) text
take_longer old mid new text done count first second =
    second
    ∙ ap (λ (bytes : List ℕ). bytes ++ take count (take (length text - done) (drop done text))) first
    ∙ append_assoc old (take done text) (take count (take (length text - done) (drop done text)))
    ∙ ap (λ (rest : List ℕ). old ++ (take done text ++ take count rest)) (take_rest text done)
    ∙ ap (λ (bytes : List ℕ). old ++ bytes) (sym (take-add done count text))

-- a sink to which nothing is put tells so
pub tells_nothing : (written : Option (List ℕ)) (taken : List ℕ) → TellsWhatItTook written written taken taken
tells_nothing None taken = tt
tells_nothing (Some bytes) taken = ([], sym (append-nil bytes), sym (append-nil taken))

-- one growth behind the other
pub grows_on : (old mid new text more : List ℕ) → mid ≡ old ++ text → new ≡ mid ++ more → new ≡ old ++ (text ++ more)
grows_on old mid new text more first second = second ∙ ap (λ (bytes : List ℕ). bytes ++ more) first ∙ append_assoc old text more

-- a sink that tells what it took goes on telling it behind a put
pub tells_put :
    (old mid new : Option (List ℕ)) (old_taken mid_taken new_taken piece : List ℕ) (answer : Put) → TellsWhatItTook old mid old_taken mid_taken
    → Puts mid new piece answer → new_taken ≡ mid_taken ++ taken_of piece answer → TellsWhatItTook old new old_taken new_taken
tells_put None mid new old_taken mid_taken new_taken piece answer first second takes = tt
tells_put (Some old) None new old_taken mid_taken new_taken piece answer first second takes = absurd first
tells_put (Some old) (Some mid) None old_taken mid_taken new_taken piece (Took n) first second takes = absurd second.2
tells_put (Some old) (Some mid) None old_taken mid_taken new_taken piece Failed first second takes = absurd second
tells_put (Some old) (Some mid) (Some new) old_taken mid_taken new_taken piece (Took n) first second takes =
    (first.0 ++ take n piece, grows_on old mid new first.0 (take n piece) first.1 second.2, grows_on old_taken mid_taken new_taken first.0 (take n piece) first.2 takes)
tells_put (Some old) (Some mid) (Some new) old_taken mid_taken new_taken piece Failed first second takes =
    (first.0, second ∙ first.1, takes ∙ append-nil mid_taken ∙ first.2)
