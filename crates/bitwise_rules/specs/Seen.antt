-- How laws and answers are seen.
use Rattle.c_types.specs.Operands.{identity_seen}
use Rattle.bitwise_rules.specs.declared.answer.RuleAnswer.{RuleAnswer}
use Rattle.bitwise_rules.specs.declared.law.Demand.{Demand}
use Rattle.bitwise_rules.specs.declared.law.Demand.TheVariants as demands
use Rattle.bitwise_rules.specs.declared.law.ResultIdentity.{ResultIdentity}
use Rattle.bitwise_rules.specs.declared.law.ResultIdentity.TheVariants as identities
use Rattle.bitwise_rules.specs.declared.law.FoulMark.{FoulMark}
use Rattle.bitwise_rules.specs.declared.law.FoulMark.TheVariants as marks
use Rattle.bitwise_rules.specs.declared.law.OperatorLaw.{OperatorLaw}
use Rattle.meaning_operands.specs.Operators as meaning
use Rattle.meaning_operands.specs.Answers.{OperatorAnswer}

abbrev pub demand_seen : Demand → meaning.Demand
demand_seen demands.OneType = meaning.OneType
demand_seen demands.PlainOnly = meaning.PlainOnly
demand_seen demands.PlainStored = meaning.PlainStored
demand_seen demands.Anything = meaning.Anything

abbrev pub gives_seen : ResultIdentity → meaning.ResultIdentity
gives_seen identities.NoIdentity = meaning.NoIdentity
gives_seen identities.OneIdentity = meaning.OneIdentity
gives_seen identities.OwnIdentity = meaning.OwnIdentity
gives_seen identities.StoredIdentity = meaning.StoredIdentity
gives_seen identities.LastIdentity = meaning.LastIdentity

abbrev pub foul_seen : FoulMark → meaning.FoulMark
foul_seen marks.NeverFouled = meaning.NeverFouled
foul_seen marks.BothFouled = meaning.BothFouled
foul_seen marks.EitherFouled = meaning.EitherFouled
foul_seen marks.LastFouled = meaning.LastFouled
foul_seen marks.ComplementFouled = meaning.ComplementFouled

-- a law of an operator that takes such operands
abbrev pub law_seen : meaning.Operands → OperatorLaw → meaning.OperatorLaw
law_seen operands law = record { operands = operands; demand = demand_seen law.demand; tests = law.tests; gives = gives_seen law.gives; foul = foul_seen law.foul }

-- an answer, where an identity is its token
abbrev pub rule_answer_seen : RuleAnswer → OperatorAnswer
rule_answer_seen answer =
    record {
      rule = answer.rule;
      tested = answer.tested;
      identity = identity_seen answer.restrict;
      fouled = answer.fouled;
    }
