-- The exits as the endings of the answer.
use Rattle.meaning_answer.specs.Reply as reply
use Rattle.ksparse.specs.declared.exit.Exit.{Exit}
use Rattle.ksparse.specs.declared.exit.Exit.TheVariants as exits

-- the ending that an exit of the code is
abbrev pub ending_seen : Exit → reply.Ending
ending_seen exits.Clean = reply.Clean
ending_seen exits.Warned = reply.Warned
ending_seen exits.Refused = reply.Refused
ending_seen exits.Usage = reply.Usage
ending_seen exits.ReadFault = reply.ReadFault
ending_seen exits.WriteFault = reply.WriteFault
ending_seen exits.NoMemory = reply.NoMemory
ending_seen exits.Limit = reply.Limit
