-- The replies of the code as those of the answer.
use Rattle.std.specs.Prelude.{ℕ, List, map}
use Rattle.sparse_model.specs.declared.ids.NameId.{NameId}
use Rattle.c_tokens.specs.Seen.{text_of}
use Rattle.meaning_answer.specs.Reply.{Reply}
use Rattle.ksparse.specs.Ending.{ending_seen}
use Rattle.ksparse.specs.declared.reply.Written.{Written}

-- the texts for `out` and `err` and the exit, as a reply
abbrev pub reply_seen : Written → Reply
reply_seen written = record { out = written.out.items; err = written.err.items; ending = ending_seen written.exit }

-- the paths of files, each at the number of its file
abbrev pub paths_of : List (List ℕ) → List NameId → List (List ℕ)
paths_of names files = map (text_of names) files
