use Rattle.std.proofs.lemmas.Result.{IfOk-weaker, IfErr-weaker}
use Rattle.c_tokens.specs.Seen.{fault_of}
use Rattle.c_tokens.proofs.AnswerLemmas.{IfSome-weaker, LexesFile-lexed, LexesFile-alike, OpensFile-none, OpensFile-lexed, OpensFile-alike, LexesFile-none}
use Rattle.c_tokens.proofs.scanner.lex.Goals as goal

pub returns-clause-tokens : goal.returns-clause-tokens
returns-clause-tokens c =
    IfOk-weaker c.scan.result _ _ (λ tokens. LexesFile-lexed c.args.file c.args.text.now _) c.scan.ensures.tokens

pub returns-clause-only : goal.returns-clause-only
returns-clause-only c =
    IfOk-weaker c.scan.result _ _ (λ tokens. LexesFile-alike c.args.file c.args.text.now _) c.scan.ensures.tokens

pub returns-clause-no_fault : goal.returns-clause-no_fault
returns-clause-no_fault c =
    IfOk-weaker c.scan.result _ _ (λ tokens. OpensFile-none c.args.file c.args.text.now _) c.scan.ensures.tokens

pub returns-clause-fault : goal.returns-clause-fault
returns-clause-fault c =
    IfErr-weaker c.scan.result _ _ (λ fault. IfSome-weaker (fault_of fault) _ _ (OpensFile-lexed c.args.file c.args.text.now)) c.scan.ensures.fault

pub returns-clause-only_fault : goal.returns-clause-only_fault
returns-clause-only_fault c =
    IfErr-weaker c.scan.result _ _ (λ fault. IfSome-weaker (fault_of fault) _ _ (OpensFile-alike c.args.file c.args.text.now)) c.scan.ensures.fault

pub returns-clause-no_tokens : goal.returns-clause-no_tokens
returns-clause-no_tokens c =
    IfErr-weaker c.scan.result _ _ (λ fault. IfSome-weaker (fault_of fault) _ _ (LexesFile-none c.args.file c.args.text.now)) c.scan.ensures.fault
