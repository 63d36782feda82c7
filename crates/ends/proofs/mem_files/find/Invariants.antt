use Rattle.std.proofs.Common.{◌≡◌, drop, map}
use Rattle.ends.specs.Held.{bytes_of}
use Rattle.ends.specs.MemFile.{held}
use Rattle.ends.proofs.mem_files.find.Given as goal

-- no file so far has the name
abbrev pub invariant-loop-file : goal.invariant-loop-file
invariant-loop-file l = bytes_of (map held (drop l.file-index l.files)) l.name ≡ bytes_of (map held l.files) l.name
