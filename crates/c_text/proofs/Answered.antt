-- A text that spells a lawful unit is taken
use Rattle.std.proofs.Common.{◌≡◌, refl, ◌∙◌, ap, ℕ, List, length, ◌≤◌, ◌^◌, Result, Ok, Err}
use Rattle.c_unit.specs.declared.unit.CUnit.{CUnit}
use Rattle.c_text.specs.declared.refusal.KernelKind.{KernelKind}
use Rattle.c_text.specs.declared.refusal.KernelKind.TheVariants as kinds
use Rattle.c_text.specs.declared.refusal.KernelRefusal.{KernelRefusal}
use Rattle.c_text.specs.declared.read.ReadUnit.{ReadUnit}
use Rattle.c_text.specs.Units.{reading, Answers, Refuses}
use Rattle.c_text.specs.Lawful.{MeetsRules}
use Rattle.c_text.specs.Spelling.{Spells, IsTaken}
use Rattle.c_text.proofs.UnitWords.{unit_read}

only_memory : (k : KernelKind) (e : KernelRefusal) (r : ReadUnit) (read : Result ReadUnit KernelRefusal) → read ≡ Ok r → Refuses k e read → k ≡ kinds.Memory
only_memory kinds.Memory e r read h f = refl
only_memory kinds.Lex e r read h f = cc
only_memory kinds.TooLong e r read h f = cc
only_memory kinds.Syntax e r read h f = cc
only_memory kinds.Slot e r read h f = cc
only_memory kinds.Bound e r read h f = cc
only_memory kinds.Sizes e r read h f = cc

same_read : (q r : ReadUnit) (read : Result ReadUnit KernelRefusal) → read ≡ Ok q → read ≡ Ok r → r ≡ q
same_read q r read h k = cc

pub taken : (result : Result ReadUnit KernelRefusal) (text : List ℕ) → Answers result (reading text) → (u : CUnit) → MeetsRules u → Spells text u → length text ≤ 2 ^ 28 → IsTaken result u
taken (Ok r) text h u keeps spells short =
    let q = unit_read u text keeps spells short in
    ap (λ r. r.unit) (same_read q.0 r (reading text) q.1 h) ∙ q.2
taken (Err e) text h u keeps spells short = let q = unit_read u text keeps spells short in only_memory e.kind e q.0 (reading text) q.1 h
