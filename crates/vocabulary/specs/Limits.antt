-- The quantities that are counted against a number: each with the name that its line shows.
use Rattle.std.specs.Prelude.{ℕ, List, ◌++◌, codes}
use Rattle.vocabulary.specs.declared.limit.LimitKind.{LimitKind}
use Rattle.vocabulary.specs.declared.limit.LimitKind.TheVariants.{FileSize, AllFiles, IncludeDepth, MacroReplacements, MacroTokens, UnitTokens, ParseStack, Nodes, Parameters, ContextStep, ObjectSize, Steps, Cells}

-- the name of a quantity
abbrev pub limit_name : LimitKind → List ℕ
limit_name FileSize = codes "file size"
limit_name AllFiles = codes "all files"
limit_name IncludeDepth = codes "include depth"
limit_name MacroReplacements = codes "macro replacements"
limit_name MacroTokens = codes "macro tokens"
limit_name UnitTokens = codes "unit tokens"
limit_name ParseStack = codes "parse stack"
limit_name Nodes = codes "nodes"
limit_name Parameters = codes "parameters"
limit_name ContextStep = codes "context step"
limit_name ObjectSize = codes "object size"
limit_name Steps = codes "steps"
limit_name Cells = codes "cells"
