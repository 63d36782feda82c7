-- The reading of a text, step by step
use Rattle.std.proofs.Common.{◌≡◌, ◌∙◌, ap, ℕ, false, nat_lt, if◌then◌else◌, List, [], ◌∷◌, length, codes, Result, Ok, Err}
use Rattle.c_text.specs.declared.refusal.KernelRefusal.{KernelRefusal}
use Rattle.c_text.specs.declared.refusal.KernelKind.{KernelKind}
use Rattle.c_text.specs.declared.refusal.KernelKind.TheVariants as kinds
use Rattle.c_text.specs.declared.read.ReadUnit.{ReadUnit}
use Rattle.c_text.specs.Stream.{Stream, ◌>>=◌, refusal, expects, stream_of}
use Rattle.c_text.specs.Units.{reading, functions_at, finished, fault_at_end, Refuses}

abbrev head : List (List ℕ)
head = codes "#include" ∷ codes "\"fr.h\"" ∷ []

pub reading_ends : (text : List ℕ) (h : Unit {0} × Stream) (u : ReadUnit × Stream) → nat_lt 268435456 (length text) ≡ false → expects head (stream_of text) ≡ Ok h → functions_at h.1 ≡ Ok u
    → reading text ≡ finished u.0 (fault_at_end u.1)
unfolding reading
reading_ends text h u b e f =
    ap (λ t. if t then Err (refusal kinds.TooLong 0) else (expects head (stream_of text) >>= λ h. functions_at h.1 >>= λ u. finished u.0 (fault_at_end u.1))) b
    ∙ ap (λ r. r >>= λ h. functions_at h.1 >>= λ u. finished u.0 (fault_at_end u.1)) e
    ∙ ap (λ r. r >>= λ u. finished u.0 (fault_at_end u.1)) f

pub refuses : (k : KernelKind) (e : KernelRefusal) (read : Result ReadUnit KernelRefusal) → read ≡ Err e → Refuses k e read
refuses kinds.Memory e read h = tt
refuses kinds.Lex e read h = h
refuses kinds.TooLong e read h = h
refuses kinds.Syntax e read h = h
refuses kinds.Slot e read h = h
refuses kinds.Bound e read h = h
refuses kinds.Sizes e read h = h
