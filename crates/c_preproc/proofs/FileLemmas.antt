-- What the parts of a file, read one by one, come to.
use Rattle.std.proofs.Common.{◌≡◌, ℕ, List, [], length, Option, Some, None, IfSome, option_map, IfOk, Result, Ok, Err, sym, ap, subst, ◌∙◌, arith, length-append}
use Rattle.std.proofs.lemmas.List.{length-map}
use Rattle.meaning_text.proofs.Lexing.{tokens_are_unique, faults_are_unique}
use Rattle.meaning_text.specs.Lexing.{Lexed, Tokens, Refused, lexed_file}
use Rattle.meaning_text.specs.Logical.{logical_text}
use Rattle.meaning_text.specs.Tokens.{Tok, AtLineStart, LexesFile, OpensFile}
use Rattle.meaning_text.specs.Tokens as tokens
use Rattle.meaning_preprocessing.specs.Directives.{turn_of}
use Rattle.meaning_preprocessing.specs.Groups as groups
use Rattle.meaning_preprocessing.specs.Groups.{Evaluation, Halts}
use Rattle.meaning_preprocessing.specs.Lines.{file_parts, lines_of}
use Rattle.meaning_preprocessing.specs.State.{UnitState, Stop, IsOver, Piece, only_ending, tokens_before, and_then}
use Rattle.meaning_preprocessing.specs.Unit.{Reader, over_parts, turn_piece, text_of_file, lexed_piece, stop_of_fault, unit_limits, capped}
use Rattle.c_tokens.proofs.SeenLemmas.{text_of-Extends, toks_of-Extends}
use Rattle.c_tokens.specs.Seen.{Extends, IsKnown, fault_of, tok_of, toks_of}
use Rattle.c_tokens.specs.declared.fault.LexFault.{LexFault}
use Rattle.c_tokens.specs.declared.token.Token.{Token}
use Rattle.c_directives.proofs.KnownLemmas.{KnownParts}
use Rattle.c_directives.specs.Groups.{groups_seen}
use Rattle.c_directives.specs.Lines.{parts_of}
use Rattle.c_directives.specs.declared.groups.Group.{Group}
use Rattle.c_preproc.specs.Files.{IsReadEnd, IsReadPart}
use Rattle.c_preproc.specs.Opens.{IsTurnDone}
use Rattle.c_preproc.specs.Requests.{request_seen}
use Rattle.c_preproc.specs.States.{EndsUnit, GoesOn, Holds, put_of, stop_of}
use Rattle.c_preproc.specs.declared.file.OpenFile.{OpenFile}
use Rattle.c_preproc.specs.declared.file.Read.{Read}
use Rattle.c_preproc.specs.declared.file.Read.TheVariants as read
use Rattle.c_preproc.specs.declared.include_line.HeaderRequest.{HeaderRequest}
use Rattle.c_preproc.specs.declared.kept.KeptFile.{KeptFile}
use Rattle.c_preproc.specs.declared.pre_fault.PreFault.{PreFault}
use Rattle.c_preproc.specs.declared.state.State.{State}
use Rattle.c_preproc.specs.declared.tasks.Turned.TheVariants as turned
use Rattle.c_preproc.proofs.PieceLemmas.{capped-within, stops-behind}
use Rattle.c_preproc.proofs.StateLemmas.{put-same}

-- A directive

tok-later : (names later : List (List ℕ)) → Extends names later → (token : Token) → IsKnown names token.name → tok_of later token ≡ tok_of names token
tok-later names later more token known = λ i. record (tok_of names token) { text = text_of-Extends names later more token.name known i }

-- what comes behind the text before a directive
abbrev pub behind_text : Evaluation → Reader → List (List ℕ) → Token → (rest behind : List Token) → List groups.Group → UnitState → Piece
behind_text value include names hash rest behind open_groups s =
    turn_piece include open_groups (λ others u. over_parts value include (parts_of names behind) others u) (turn_of value (tok_of names hash) (toks_of names rest) open_groups s)

module _ (value : Evaluation) (include : Reader) (names mid later : List (List ℕ)) (first : Extends names mid) (more : Extends mid later) (all : Extends names later)
    (text : List Token) (hash : Token) (rest behind : List Token) (known : KnownParts names text hash rest behind)
    (open_groups : List groups.Group) (path : List ℕ) (old new : State) (whole : Piece)
    (s : UnitState) (holds : Holds mid path old s) (comes : tokens_before (put_of mid old) (behind_text value include names hash rest behind open_groups s) ≡ whole) where
  same-turn : turn_of value (tok_of mid hash) (toks_of mid rest) open_groups s ≡ turn_of value (tok_of names hash) (toks_of names rest) open_groups s
  same-turn = λ i. turn_of value (tok-later names mid first hash known.hash_known i) (toks_of-Extends names mid first rest known.rest_known i) open_groups s

  -- it was done
  pub part-goes : new.tokens ≡ old.tokens → (next_groups : List Group) → IsTurnDone later path new open_groups next_groups (Ok turned.Done) (turn_of value (tok_of mid hash) (toks_of mid rest) open_groups s)
      → GoesOn later path new whole (λ u. over_parts value include (parts_of later behind) (groups_seen next_groups) u)
  part-goes same next_groups done = (
    done.0,
    done.1,
    (λ i. tokens_before (put-same mid later more path old new s holds same i)
        (over_parts value include (groups_parts i) (groups_seen next_groups) done.0))
        ∙ ap (λ turn. tokens_before (put_of mid old) (turn_piece include open_groups (λ others u. over_parts value include (parts_of names behind) others u) turn)) (sym (sym same-turn ∙ done.2))
        ∙ comes,
  )
    where
      groups_parts : parts_of later behind ≡ parts_of names behind
      groups_parts = ap (λ ts. file_parts (lines_of ts)) (toks_of-Extends names later all behind known.behind_known)

  -- it asks for a file, which is read first
  pub part-includes : new.tokens ≡ old.tokens → (next_groups : List Group) (request : HeaderRequest) → IsTurnDone later path new open_groups next_groups (Ok (turned.Include request)) (turn_of value (tok_of mid hash) (toks_of mid rest) open_groups s)
      → GoesOn later path new whole (λ u. and_then (include (request_seen later request) u) (λ v. over_parts value include (parts_of later behind) (groups_seen next_groups) v))
  part-includes same next_groups request done = (
    done.0,
    done.1,
    (λ i. tokens_before (put-same mid later more path old new s holds same i)
        (and_then (include (request_seen later request) done.0) (λ v. over_parts value include (groups_parts i) (done.3 i) v)))
        ∙ ap (λ turn. tokens_before (put_of mid old) (turn_piece include open_groups (λ others u. over_parts value include (parts_of names behind) others u) turn)) (sym (sym same-turn ∙ done.2))
        ∙ comes,
  )
    where
      groups_parts : parts_of later behind ≡ parts_of names behind
      groups_parts = ap (λ ts. file_parts (lines_of ts)) (toks_of-Extends names later all behind known.behind_known)

  -- the unit ends at it
  pub part-ends : (fault : PreFault) (next_groups : List Group) → IsTurnDone later path new open_groups next_groups (Err fault) (turn_of value (tok_of mid hash) (toks_of mid rest) open_groups s) → EndsUnit later whole fault
  part-ends fault next_groups done = by (stop_of later fault) done
    where
      by : (found : Option Stop) → IfSome found (λ stop. turn_of value (tok_of mid hash) (toks_of mid rest) open_groups s ≡ Halts stop)
          → IfSome found (λ stop. (capped unit_limits.unit_tokens whole).ending ≡ IsOver stop)
      by None is = tt
      by (Some stop) is =
          let ended : tokens_before (put_of mid old) (only_ending (IsOver stop)) ≡ whole =
          ap (λ turn. tokens_before (put_of mid old) (turn_piece include open_groups (λ others u. over_parts value include (parts_of names behind) others u) turn)) (sym (sym same-turn ∙ is)) ∙ comes in
          ap (λ p. (capped unit_limits.unit_tokens p).ending) (sym ended)
          ∙ ap (λ (p : Piece). p.ending) (capped-within unit_limits.unit_tokens (tokens_before (put_of mid old) (only_ending (IsOver stop)))
          (omega (arith, holds.few, length-append (put_of mid old) [], length-map old.tokens.items (tok_of mid))))

-- The end of a file

pub ends-file : (names : List (List ℕ)) (path : List ℕ) (state : State) (s : UnitState) → Holds names path state s → (fault : PreFault) (stop : Stop) (piece whole : Piece) → piece ≡ only_ending (IsOver stop)
    → tokens_before (put_of names state) piece ≡ whole → stop_of names fault ≡ Some stop → EndsUnit names whole fault
ends-file names path state s holds fault stop piece whole is comes told =
    subst (λ (p : Piece). EndsUnit names p fault) comes
    (stops-behind names (put_of names state) piece fault
    (omega (arith, holds.few, ap (λ (p : Piece). length p.tokens) is, length-append (put_of names state) piece.tokens, length-map state.tokens.items (tok_of names)))
    (subst (λ (o : Option Stop). IfSome o (λ (found : Stop). piece.ending ≡ IsOver found)) (sym told) (ap (λ (p : Piece). p.ending) is)))

-- behind the last text a file is at its end
pub end-read : (names : List (List ℕ)) (value : Evaluation) (include : Reader) (path : List ℕ) (state : State) (files : List KeptFile) (file : OpenFile) (whole : Piece) (result_ : Result Read PreFault)
    → IfOk result_ (λ found. found ≡ read.End) → IsReadEnd names path state whole result_ → IsReadPart names value include path state files file whole result_
end-read names value include path state files file whole (Ok found) is end = subst (λ (r : Read). IsReadPart names value include path state files file whole (Ok r)) (sym is) end
end-read names value include path state files file whole (Err fault) is end = end

-- The tokens of a text

pub lexed-tokens : (file : ℕ) (text : List ℕ) (found : List Tok) → LexesFile file text found → lexed_file file text ≡ Tokens found
lexed-tokens file text found lexes = tokens_are_unique AtLineStart (logical_text file text) found lexes

pub lexed-refused : (file : ℕ) (text : List ℕ) (fault : tokens.LexFault) → OpensFile file text fault → lexed_file file text ≡ Refused fault
lexed-refused file text fault opens = faults_are_unique AtLineStart (logical_text file text) fault opens

module _ (value : Evaluation) (include : Reader) (names : List (List ℕ)) (number : ℕ) (text : List ℕ) (s : UnitState) where
  -- a text is what its tokens are
  pub text-read : (found : List Token) → LexesFile number text (toks_of names found) → text_of_file value include number text s ≡ over_parts value include (parts_of names found) [] s
  text-read found lexes = ap (λ (lexed : Lexed). lexed_piece value include lexed s) (lexed-tokens number text (toks_of names found) lexes)

  -- or it ends the unit
  pub text-refused : (fault : LexFault) (told : PreFault) → IfSome (fault_of fault) (OpensFile number text) → stop_of names told ≡ option_map (stop_of_fault s) (fault_of fault)
      → IfSome (stop_of names told) (λ stop. text_of_file value include number text s ≡ only_ending (IsOver stop))
  text-refused fault told opens is = by (fault_of fault) opens is
    where
      by : (found : Option tokens.LexFault) → IfSome found (OpensFile number text) → stop_of names told ≡ option_map (stop_of_fault s) found
          → IfSome (stop_of names told) (λ stop. text_of_file value include number text s ≡ only_ending (IsOver stop))
      by None opens_ is_ = subst (λ (o : Option Stop). IfSome o (λ stop. text_of_file value include number text s ≡ only_ending (IsOver stop))) (sym is_) tt
      by (Some opened) opens_ is_ =
          subst (λ (o : Option Stop). IfSome o (λ stop. text_of_file value include number text s ≡ only_ending (IsOver stop))) (sym is_)
          (ap (λ (lexed : Lexed). lexed_piece value include lexed s) (lexed-refused number text opened opens_))
