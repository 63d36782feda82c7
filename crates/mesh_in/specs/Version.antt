-- The versions of the format
use Rattle.std.specs.Prelude.{ℕ, List, codes}
use Rattle.mesh_in.specs.declared.header.Version.{Version}
use Rattle.mesh_in.specs.declared.header.Version.TheVariants.{Plain, Marked}

abbrev pub version_name : Version → List ℕ
version_name Plain = codes "1"
version_name Marked = codes "2"

-- how many markers the line of a cell has
abbrev pub marker_count : Version → ℕ
marker_count Plain = 0
marker_count Marked = 1
