-- The entries of the local tensor
use Rattle.std.proofs.Common.{◌≡◌, ◌≢◌, ℕ, ◌+◌, ◌*◌, ◌<◌, refl, sym, ◌∙◌, ap, ap₂, subst, arith, length, length-append, append_assoc, map, slice_set, List, [], ◌∷◌, ◌++◌, None}
use Rattle.std.proofs.Math.Seq.{set-append_seam, get_or-append_seam}
use Rattle.algebra.specs.Fraction.{Fraction, add, add_zero, mul, zero_fraction}
use Rattle.algebra.specs.Steps.{sum}
use Rattle.ratio.specs.Value.{fraction_of}
use Rattle.c_unit.specs.declared.unit.Array.TheVariants.{T, A}
use Rattle.c_unit.specs.declared.unit.CStmt.{CStmt, Add, Mul}
use Rattle.c_unit.specs.Meaning.{Slots, run_list}
use Rattle.kernel.specs.Ends.{Ends}
use Rattle.kernel_runs.specs.Strips.{EntriesWithin, EntryWithin, entry_value, item, list_sum}
use Rattle.kernel_runs.specs.declared.entry.Entry.{Entry}
use Rattle.kernel_runs.specs.declared.entry.Entry.TheVariants.{Counted, Multiple, NoRow}
use Rattle.kernel_runs.specs.Frame.{Keeps, slot, write, write_out}
use Rattle.kernel_runs.specs.Planned.{entries_code, entry_code, place, stepped}
use Rattle.kernel_runs.specs.Fit.{EntriesFit, EntryFits}
use Rattle.kernel_runs.proofs.Steps.{add_out_then, mul_then, set_then, write_same}
use Rattle.kernel_runs.proofs.Nest.{keeps_write}

abbrev no_turns : List ℕ
no_turns = 0 ∷ 0 ∷ 0 ∷ 0 ∷ []

plain : (k : ℕ) → k + 0 * 0 + 0 * 0 + 0 * 0 + 0 * 0 ≡ k
plain k = omega arith

module _ (Q Z : Type 0) (P : Slots → Type 0) (ks : List (List Fraction)) (scratch row : ℕ) (rs : List Fraction) (s₀ : Slots) (fixed : ℕ → Type 0) where
  -- A is `a`, and all else is as in s₀
  abbrev pub WithOut : List Fraction → Slots → Type 0
  WithOut a s = Keeps fixed (write_out a s₀) s

  out_written : (a b : List Fraction) (s : Slots) → WithOut a s → WithOut b (write_out b s)
  out_written a b s h = record { x = h.x; w = h.w; a = refl; size = h.size; slots = h.slots }

  -- A[e] = A[e] + y
  add_run : (p xs : List Fraction) (x y : Fraction) (k : ℕ) (rest : List CStmt) (s : Slots) → slot s k ≡ y → (sum x y ≡ None → Q) → WithOut (p ++ x ∷ xs) s
      → ((s : Slots) → WithOut (p ++ add x y ∷ xs) s → Ends Q Z P (run_list rest ks 0 no_turns s))
      → Ends Q Z P (run_list (Add (place A (length p) 0 0) (place A (length p) 0 0) (place T k 0 0) ∷ rest) ks 0 no_turns s)
  add_run p xs x y k rest s e fit h go =
      add_out_then Q Z P ks 0 no_turns s rest (stepped (length p) 0 0) (place A (length p) 0 0) (place T k 0 0) (p ++ add x y ∷ xs) x y
      (ap₂ item h.a (plain (length p)) ∙ get_or-append_seam p x xs zero_fraction) (ap (slot s) (plain k) ∙ e)
      (ap (λ l. write_out l s) (ap₂ (λ l n. slice_set l n (add x y)) h.a (plain (length p)) ∙ set-append_seam p x xs (add x y)))
      fit (go _ (out_written (p ++ x ∷ xs) (p ++ add x y ∷ xs) s h))

  module _ (low : scratch < length s₀.t) (free : (k : ℕ) → fixed k → k ≢ scratch) (rows : (b : ℕ) → b < length rs → fixed (row + b) × (slot s₀ (row + b) ≡ item rs b)) where
    pub entry_run : (p xs : List Fraction) (x : Fraction) (e : Entry) (rest : List CStmt) (s : Slots) → EntryWithin (length rs) e → EntryFits Q rs x e → WithOut (p ++ x ∷ xs) s
        → ((s : Slots) → WithOut (p ++ add x (entry_value rs e) ∷ xs) s → Ends Q Z P (run_list rest ks 0 no_turns s))
        → Ends Q Z P (run_list (entry_code scratch row (length p) e ++ rest) ks 0 no_turns s)
    entry_run p xs x NoRow rest s within fit h go = go s (subst (λ v. WithOut (p ++ v ∷ xs) s) (sym (add_zero x)) h)
    entry_run p xs x (Counted b) rest s within fit h go =
        add_run p xs x (item rs b) (row + b) rest s (h.slots (row + b) (rows b within).0 ∙ (rows b within).1) fit h go
    entry_run p xs x (Multiple l b) rest s within fit h go =
        let v : Fraction = fraction_of l in
        let s₁ : Slots = write scratch v s in
        let u : Fraction = mul v (item rs b) in
        let s₂ : Slots = write scratch u s₁ in
        let h₁ : WithOut (p ++ x ∷ xs) s₁ = keeps_write fixed (write_out (p ++ x ∷ xs) s₀) s scratch v free h in
        let h₂ : WithOut (p ++ x ∷ xs) s₂ = keeps_write fixed (write_out (p ++ x ∷ xs) s₀) s₁ scratch u free h₁ in
        let size : length s.t ≡ length s₀.t = h.size in
        let inside : scratch < length s.t = omega arith in
        let size₁ : length s₁.t ≡ length s₀.t = h₁.size in
        let inside₁ : scratch < length s₁.t = omega arith in
        set_then Q Z P ks 0 no_turns s (Mul (place T scratch 0 0) (place T scratch 0 0) (place T (row + b) 0 0) ∷ Add (place A (length p) 0 0) (place A (length p) 0 0) (place T scratch 0 0) ∷ rest)
        (stepped scratch 0 0) l scratch (plain scratch)
        (mul_then Q Z P ks 0 no_turns s₁ (Add (place A (length p) 0 0) (place A (length p) 0 0) (place T scratch 0 0) ∷ rest)
        (stepped scratch 0 0) (place T scratch 0 0) (place T (row + b) 0 0) scratch v (item rs b) (plain scratch)
        (ap (slot s₁) (plain scratch) ∙ write_same scratch v s inside) (ap (slot s₁) (plain (row + b)) ∙ h₁.slots (row + b) (rows b within).0 ∙ (rows b within).1) fit.0
        (add_run p xs x u scratch rest s₂ (write_same scratch u s₁ inside₁) fit.1 h₂ go))

-- all entries, from one on
pub entries_run : (Q Z : Type 0) (ks : List (List Fraction)) (scratch row : ℕ) (rs : List Fraction) (s₀ : Slots) (fixed : ℕ → Type 0)
    → scratch < length s₀.t → ((k : ℕ) → fixed k → k ≢ scratch) → ((b : ℕ) → b < length rs → fixed (row + b) × (slot s₀ (row + b) ≡ item rs b))
    → (es : List Entry) (p xs : List Fraction) → EntriesWithin (length rs) es → EntriesFit Q rs xs es → length es ≡ length xs
    → (s : Slots) → Keeps fixed (write_out (p ++ xs) s₀) s
    → Ends Q Z (Keeps fixed (write_out (p ++ list_sum xs (map (entry_value rs) es)) s₀)) (run_list (entries_code scratch row (length p) es) ks 0 no_turns s)
entries_run Q Z ks scratch row rs s₀ fixed low free rows [] p [] within fit size s h = h
entries_run Q Z ks scratch row rs s₀ fixed low free rows [] p (x ∷ xs) within fit size s h = absurd (omega arith)
entries_run Q Z ks scratch row rs s₀ fixed low free rows (e ∷ es) p [] within fit size s h = absurd (omega arith)
entries_run Q Z ks scratch row rs s₀ fixed low free rows (e ∷ es) p (x ∷ xs) within fit size s h =
    let v : Fraction = add x (entry_value rs e) in
    let us : List Fraction = list_sum xs (map (entry_value rs) es) in
    let size' : length es ≡ length xs = omega arith in
    let P : Slots → Type 0 = Keeps fixed (write_out (p ++ v ∷ us) s₀) in
    entry_run Q Z P ks scratch row rs s₀ fixed low free rows p xs x e (entries_code scratch row (length p + 1) es) s within.0 fit.0 h
    (λ s k.
    subst (λ l. Ends Q Z (Keeps fixed (write_out l s₀)) (run_list (entries_code scratch row (length p + 1) es) ks 0 no_turns s)) (sym (seam p v us))
    (subst (λ n. Ends Q Z (Keeps fixed (write_out ((p ++ v ∷ []) ++ us) s₀)) (run_list (entries_code scratch row n es) ks 0 no_turns s)) (longer p v)
    (entries_run Q Z ks scratch row rs s₀ fixed low free rows es (p ++ v ∷ []) xs within.1 fit.1 size' s (subst (λ l. Keeps fixed (write_out l s₀) s) (seam p v xs) k))))
  where
    seam : (p : List Fraction) (v : Fraction) (a : List Fraction) → p ++ v ∷ a ≡ (p ++ v ∷ []) ++ a
    seam p v a = sym (append_assoc p (v ∷ []) a)

    longer : (p : List Fraction) (v : Fraction) → length (p ++ v ∷ []) ≡ length p + 1
    longer p v = length-append p (v ∷ [])
