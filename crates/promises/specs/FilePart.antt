-- What `file_part` promises: the file at the front of some bytes, "read to the end its own counts give". Document 02, Job 14. Assumes nothing.
use Rattle.std.specs.Prelude.{ℕ, List, take}
use Rattle.formats.specs.RuleFile.{rule_end}

-- all of the bytes, where the counts give an end past them
abbrev pub file_part : List ℕ → List ℕ
file_part bytes = take (rule_end bytes) bytes
