use Rattle.std.proofs.Common.{◌≡◌, drop}
use Rattle.st_io.specs.MemoryFiles.{named_files, content_of}
use Rattle.st_io.proofs.memory_files.find_content.Given as goal

-- the files before this one have other names
abbrev pub invariant-loop-held : goal.invariant-loop-held
invariant-loop-held l = content_of (named_files (drop l.held-index l.files)) l.name ≡ content_of (named_files l.files) l.name
