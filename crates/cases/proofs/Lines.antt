-- The line of a section, put together again.
use Rattle.std.proofs.Common.{◌≡◌, ◌∙◌, ℕ, List, ◌++◌, ap, codes, append_assoc}

pub section_line : (line head name : List ℕ) → line ≡ codes "-- " ++ head → head ≡ name ++ codes " --"
    → line ≡ codes "-- " ++ name ++ codes " --"
section_line line head name begins ends = begins ∙ ap (λ rest. codes "-- " ++ rest) ends

pub escaped_line : (line head inside name : List ℕ) → line ≡ codes "-- " ++ head → head ≡ inside ++ codes " --"
    → inside ≡ name ++ codes " escaped" → line ≡ codes "-- " ++ name ++ codes " escaped --"
escaped_line line head inside name begins ends marked =
    begins
    ∙ ap (λ rest. codes "-- " ++ rest)
    (ends ∙ ap (λ front. front ++ codes " --") marked ∙ append_assoc name (codes " escaped") (codes " --"))
