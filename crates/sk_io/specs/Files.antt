-- What a source over a file tells.
use Rattle.std.specs.Prelude.{ℕ}
use Rattle.std.proofs.Common.{String, Global}
use Rattle.sk_io.specs.declared.file.LazyFile.{LazyFile}

-- How often a source over a file has failed.
abbrev pub file_faults : {R F D : Type 0} → LazyFile R F D → ℕ
file_faults s = s.failed

-- The path of the file that it reads.
abbrev pub file_path : {R F D : Type 0} → LazyFile R F D → String Global
file_path s = s.path
