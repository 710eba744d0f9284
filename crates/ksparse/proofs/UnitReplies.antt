-- The reply to a request, by the unit that was preprocessed.
use Rattle.std.proofs.Common.{◌≡◌, ℕ, List, Option, Some, None, IfSome, sym, subst}
use Rattle.vocabulary.specs.declared.class.Class.{Class}
use Rattle.meaning_outside.specs.Files.{FileMap}
use Rattle.meaning_text.specs.Tokens.{Tok}
use Rattle.meaning_preprocessing.specs.State.{Stop}
use Rattle.meaning_preprocessing.specs.Unit.{UnitEnd, Ends, EndsEarly, PreprocessedUnit, IsPreprocessedUnit}
use Rattle.c_tokens.specs.Seen.{toks_of}
use Rattle.c_preproc.specs.Units.{IsUnit, EndsEarlySo}
use Rattle.c_preproc.specs.States.{stop_of}
use Rattle.c_preproc.specs.declared.pre_fault.PreFault.{PreFault}
use Rattle.c_preproc.specs.declared.unit.UnitTokens.{UnitTokens}
use Rattle.meaning_answer.specs.Reply.{Reply}
use Rattle.meaning_answer.specs.Requests.{Options, Check, Expand}
use Rattle.meaning_answer.specs.Answers.{IsCheckReply, IsCheckEnd, IsRequestReply, expanded_reply, expand_reply}
use Rattle.ksparse.specs.Stopping.{TellsStop}
use Rattle.ksparse.specs.Written.{paths_of}

-- what is told of files and tokens is told of those that are spelled alike
pub told-alike :
    (classes : List Class) (reply : Reply) {files others : List (List ℕ)} {tokens other_tokens undefined other_undefined : List Tok} → files ≡ others
    → tokens ≡ other_tokens → undefined ≡ other_undefined → IsCheckReply classes files tokens undefined reply
    → IsCheckReply classes others other_tokens other_undefined reply
told-alike classes reply {files} {others} {tokens} {other_tokens} {undefined} {other_undefined} same_files same_tokens same_undefined told =
    subst (λ (paths : List (List ℕ)). IsCheckReply classes paths other_tokens other_undefined reply) same_files
    (subst (λ (toks : List Tok). IsCheckReply classes files toks other_undefined reply) same_tokens
    (subst (λ (toks : List Tok). IsCheckReply classes files tokens toks reply) same_undefined told))

module _ (options : Options) (path : List ℕ) (names : List (List ℕ)) where
  module _ (unit : UnitTokens) where
    pub check_right :
        (files : FileMap) (reply : Reply) → IsUnit options.preprocessing files path names unit
        → IsCheckReply options.classes (paths_of names unit.files) (toks_of names unit.tokens) (toks_of names unit.undef_tokens) reply
        → IsRequestReply (Check options path) files reply
    check_right files reply is told = (
      record { tokens = toks_of names unit.tokens; end = Ends (toks_of names unit.undef_tokens) is.0 },
      is.2,
      subst (λ (paths : List (List ℕ)). IsCheckReply options.classes paths (toks_of names unit.tokens) (toks_of names unit.undef_tokens) reply) is.1 told,
    )

    pub expand_right :
        (files : FileMap) (reply : Reply) → IsUnit options.preprocessing files path names unit → reply ≡ expanded_reply (toks_of names unit.tokens)
        → IsRequestReply (Expand options path) files reply
    expand_right files reply is told = (record { tokens = toks_of names unit.tokens; end = Ends (toks_of names unit.undef_tokens) is.0 }, is.2, told)

  -- a unit that ends early is told by its reason
  module _ (files : FileMap) (reply : Reply) where
    abbrev EndsSo : Option Stop → Type 0
    EndsSo found = IfSome found (λ stop. (whole : PreprocessedUnit) × (whole.end ≡ EndsEarly stop) × IsPreprocessedUnit options.preprocessing files path whole)

    check_stopped_by : (found : Option Stop) → EndsSo found → TellsStop found reply → IsRequestReply (Check options path) files reply
    check_stopped_by None ends told = absurd told
    check_stopped_by (Some stop) ends told =
        (ends.0, ends.2, subst (λ (end : UnitEnd). IsCheckEnd options.classes ends.0.tokens end reply) (sym ends.1) told)

    expand_stopped_by : (found : Option Stop) → EndsSo found → TellsStop found reply → IsRequestReply (Expand options path) files reply
    expand_stopped_by None ends told = absurd told
    expand_stopped_by (Some stop) ends told =
        (ends.0, ends.2, subst (λ (end : UnitEnd). reply ≡ expand_reply ends.0.tokens end) (sym ends.1) told)

    pub check_stopped : (fault : PreFault) → EndsEarlySo options.preprocessing files path names fault → TellsStop (stop_of names fault) reply → IsRequestReply (Check options path) files reply
    check_stopped fault ends told = check_stopped_by (stop_of names fault) ends told

    pub expand_stopped : (fault : PreFault) → EndsEarlySo options.preprocessing files path names fault → TellsStop (stop_of names fault) reply → IsRequestReply (Expand options path) files reply
    expand_stopped fault ends told = expand_stopped_by (stop_of names fault) ends told
