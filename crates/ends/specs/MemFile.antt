-- A file in memory, as names and bytes
use Rattle.std.specs.Prelude.{string_bytes}
use Rattle.ends.specs.Held.{Held}
use Rattle.ends.specs.declared.mem_files.MemFile.{MemFile}

abbrev pub held : MemFile → Held
held file = record { name = string_bytes file.name; bytes = file.bytes.items }
