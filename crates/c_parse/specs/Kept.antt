-- Actions that bind nothing, and open and close no scope, so that the class of each terminal stays.
use Rattle.std.specs.Prelude.{Bool, true, false}
use Rattle.vocabulary.specs.declared.action.Action.{Action}
use Rattle.vocabulary.specs.declared.action.Action.TheVariants.{Append, BeginAtNext, BeginList, JoinSuffixes, MakeBinary, MakeCall, MakeLeaf, MakeMember, MakeNamed, MakeOver, MakeOverList, MakeOverTwo, MakePostfix, UseName}

-- Not all of them: those that stand often between two terminals.
abbrev pub keeps_scopes : Action → Bool
keeps_scopes BeginList = true
keeps_scopes BeginAtNext = true
keeps_scopes (Append role) = true
keeps_scopes JoinSuffixes = true
keeps_scopes (MakeLeaf kind) = true
keeps_scopes (MakeNamed kind) = true
keeps_scopes (MakeOver kind role) = true
keeps_scopes (MakeOverTwo kind role other) = true
keeps_scopes (MakeOverList kind) = true
keeps_scopes (MakeBinary kind role) = true
keeps_scopes (MakePostfix kind) = true
keeps_scopes (MakeMember kind) = true
keeps_scopes MakeCall = true
keeps_scopes UseName = true
keeps_scopes action = false
