-- Files that are kept in memory, with the numbers of the loads that are to fail
use Rattle.std.specs.Prelude.{ℕ, List, Bool, ◌==◌, ◌||◌, Result, Ok, Err, is_none}
use Rattle.std.specs.List.{list_any}
use Rattle.ends.specs.Count.{next_count}
use Rattle.ends.specs.Held.{Held, bytes_of}
use Rattle.ends.specs.declared.files.LoadError.{LoadError}
use Rattle.ends.specs.declared.files.LoadError.TheVariants.{Fault, Memory}

pub record FilesInMemory : Type 0 where
  pub files : List Held
  pub fail : List ℕ
  pub calls : ℕ
  pub faults : ℕ
  pub last_failed : List ℕ

-- the load is to fail, or there is no such file
abbrev pub fails : FilesInMemory → List ℕ → Bool
fails m name = list_any (λ n. n == next_count m.calls) m.fail || is_none (bytes_of m.files name)

abbrev pub counted : FilesInMemory → FilesInMemory
counted m = record m { calls = next_count m.calls }

-- what a load with this answer leaves
abbrev pub after_load : {X : Type 0} → Result X LoadError → FilesInMemory → List ℕ → FilesInMemory
after_load (Ok _) m name = counted m
after_load (Err Memory) m name = counted m
after_load (Err Fault) m name = record m { calls = next_count m.calls; faults = next_count m.faults; last_failed = name }
