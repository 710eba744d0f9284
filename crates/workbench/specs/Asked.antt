-- What a tool needs of its words.
use Rattle.std.specs.Prelude.{◌+◌, ◌<◌, ◌^◌, ⊤}
use Rattle.workbench.specs.declared.asked.Asked.{Asked}
use Rattle.workbench.specs.declared.tool.Tool.{Tool}
use Rattle.workbench.specs.declared.tool.Tool.TheVariants.{Expand}

-- `__COUNTER__` can't be replaced too often
abbrev pub MayExpand : Asked → Type 0
MayExpand asked = asked.budget.counter + asked.budget.replacements < 2 ^ 32

abbrev pub MayRun : Tool → Type 0
MayRun (Expand asked) = MayExpand asked
MayRun tool = ⊤
