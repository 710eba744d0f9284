-- What each reply is like, by what was asked.
use Rattle.std.specs.Prelude.{◌≡◌, ℕ, List, [], ◌⊎◌}
use Rattle.meaning_answer.specs.Reply.{Ending, Clean, Warned, Refused, Usage, ReadFault, WriteFault, NoMemory, Limit, Reply, IsLine}
use Rattle.meaning_answer.specs.Requests.{Request, BadWord, MissingFile, Check, Expand}

-- a text that is empty or ends a line
abbrev pub IsText : List ℕ → Type 0
IsText text = (text ≡ []) ⊎ IsLine text

-- words at fault are told in a line
abbrev pub HasUsageShape : Ending → List ℕ → List ℕ → Type 0
HasUsageShape Usage out err = (out ≡ []) × IsLine err
HasUsageShape Clean out err = ⊥
HasUsageShape Warned out err = ⊥
HasUsageShape Refused out err = ⊥
HasUsageShape Limit out err = ⊥
HasUsageShape ReadFault out err = ⊥
HasUsageShape WriteFault out err = ⊥
HasUsageShape NoMemory out err = ⊥

-- a check writes nothing to `out`
abbrev pub HasCheckShape : Ending → List ℕ → List ℕ → Type 0
HasCheckShape Clean out err = (out ≡ []) × (err ≡ [])
HasCheckShape Warned out err = (out ≡ []) × IsLine err
HasCheckShape Refused out err = (out ≡ []) × IsLine err
HasCheckShape Limit out err = (out ≡ []) × IsLine err
HasCheckShape Usage out err = ⊥
HasCheckShape ReadFault out err = ⊥
HasCheckShape WriteFault out err = ⊥
HasCheckShape NoMemory out err = ⊥

-- the question for tokens writes to one of both alone, and warns of nothing
abbrev pub HasExpandShape : Ending → List ℕ → List ℕ → Type 0
HasExpandShape Clean out err = IsText out × (err ≡ [])
HasExpandShape Refused out err = (out ≡ []) × IsLine err
HasExpandShape Limit out err = (out ≡ []) × IsLine err
HasExpandShape Warned out err = ⊥
HasExpandShape Usage out err = ⊥
HasExpandShape ReadFault out err = ⊥
HasExpandShape WriteFault out err = ⊥
HasExpandShape NoMemory out err = ⊥

abbrev pub HasShapeFor : Request → Ending → List ℕ → List ℕ → Type 0
HasShapeFor (BadWord position word) ending out err = HasUsageShape ending out err
HasShapeFor MissingFile ending out err = HasUsageShape ending out err
HasShapeFor (Check options path) ending out err = HasCheckShape ending out err
HasShapeFor (Expand options path) ending out err = HasExpandShape ending out err

-- the reply is like what was asked and like its ending
abbrev pub IsShapedFor : Request → Reply → Type 0
IsShapedFor request reply = HasShapeFor request reply.ending reply.out reply.err
