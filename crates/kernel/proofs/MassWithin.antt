-- The mass kernel keeps within its arrays
use Rattle.std.proofs.Common.{◌≡◌, refl, sym, subst, ℕ, zero, suc, ◌<◌, ◌≤◌, ◌^◌, List, [], ◌∷◌, length, slice_index, inl, inr, lit<, lit≤, arith}
use Rattle.ratio.specs.declared.reduced.Ratio.{Ratio}
use Rattle.c_unit.specs.declared.unit.Array.{Array}
use Rattle.c_unit.specs.declared.unit.Array.TheVariants.{X, T, A}
use Rattle.c_unit.specs.declared.unit.CFun.{CFun}
use Rattle.c_unit.specs.declared.unit.CStmt.{Mul}
use Rattle.c_unit.specs.Rules.{greatest, Sizes, size_of, sizes_of, outside, KeepsSource, KeepsTarget, keeps_set, keeps_abs, keeps_inv, keeps_sub, keeps_mul, KeepAll, keep_none, keep_more, KeepTables, KeepsSizes}
use Rattle.kernel.specs.Statements.{mass_statements, plain}

abbrev zeros : List ℕ
zeros = 0 ∷ 0 ∷ 0 ∷ 0 ∷ []

no_steps : (k : ℕ) → slice_index zeros k ≡ 0
no_steps zero = refl
no_steps (suc zero) = refl
no_steps (suc (suc zero)) = refl
no_steps (suc (suc (suc zero))) = refl
no_steps (suc (suc (suc (suc k)))) = refl

greatest_of : (base : ℕ) → greatest outside (record { base = base; steps = zeros }) ≡ base
unfolding greatest
greatest_of base = omega arith

-- a slot that is the same in all turns
pub plain_source : (z : Sizes) (array : Array) (k : ℕ) → k < size_of z array → k < 2 ^ 32 → KeepsSource z outside 0 (plain array k)
plain_source z array k below small = record {
  within = record { below = subst (λ n. n < size_of z array) (sym (greatest_of k)) below; own = λ j _. no_steps j; four = refl };
  numbers = (small, lit< tt, lit< tt, lit< tt, lit< tt);
}

module _ (f : CFun) (same other : Ratio) (b : f.body ≡ mass_statements same other) (n : f.tables ≡ []) (x : f.x ≡ 2) (w : f.w ≡ 0) (t : f.t ≡ 5) (a : f.a ≡ 4) where
  coordinate : (k : ℕ) → k < 2 → KeepsSource (sizes_of f) outside 0 (plain X k)
  coordinate k h = plain_source (sizes_of f) X k (omega arith) (omega arith)

  temporary : (k : ℕ) → k < 5 → KeepsSource (sizes_of f) outside 0 (plain T k)
  temporary k h = plain_source (sizes_of f) T k (omega arith) (omega arith)

  entry : (k : ℕ) → k < 4 → KeepsSource (sizes_of f) outside 0 (plain A k)
  entry k h = plain_source (sizes_of f) A k (omega arith) (omega arith)

  into_temporary : (k : ℕ) → k < 5 → KeepsTarget (sizes_of f) outside 0 (plain T k)
  into_temporary k h = let s = temporary k h in record { within = (s.within, inl refl); numbers = s.numbers }

  into_tensor : (k : ℕ) → k < 4 → KeepsTarget (sizes_of f) outside 0 (plain A k)
  into_tensor k h = let s = entry k h in record { within = (s.within, inr refl); numbers = s.numbers }

  entries_keep : KeepAll (sizes_of f) outside 0 (
      Mul (plain A 0) (plain T 2) (plain T 3) ∷ Mul (plain A 1) (plain T 2) (plain T 4) ∷ Mul (plain A 2) (plain T 2) (plain T 4) ∷ Mul (plain A 3) (plain T 2) (plain T 3) ∷ []
      )
  entries_keep =
      let size = temporary 2 (omega arith) in
      let same = temporary 3 (omega arith) in
      let other = temporary 4 (omega arith) in
      keep_more (keeps_mul (into_tensor 0 (omega arith)) size same)
      (keep_more (keeps_mul (into_tensor 1 (omega arith)) size other)
      (keep_more (keeps_mul (into_tensor 2 (omega arith)) size other) (keep_more (keeps_mul (into_tensor 3 (omega arith)) size same) keep_none)))

  statements_keep : KeepAll (sizes_of f) outside 0 (mass_statements same other)
  statements_keep =
      let volume = temporary 0 (omega arith) in
      keep_more (keeps_sub (into_temporary 0 (omega arith)) (coordinate 1 (omega arith)) (coordinate 0 (omega arith)))
      (keep_more (keeps_inv (into_temporary 1 (omega arith)) volume)
      (keep_more (keeps_abs (into_temporary 2 (omega arith)) volume)
      (keep_more (keeps_set (into_temporary 3 (omega arith))) (keep_more (keeps_set (into_temporary 4 (omega arith))) entries_keep))))

  pub keeps_sizes : KeepsSizes f
  keeps_sizes = record {
    x = omega arith;
    w = omega arith;
    t = omega arith;
    a = omega arith;
    some_temporaries = omega arith;
    numbered = subst (λ ts. length ts ≤ 2 ^ 32) (sym n) (lit≤ tt);
    tables = subst KeepTables (sym n) tt;
    statements = subst (KeepAll (sizes_of f) outside 0) (sym b) statements_keep;
  }
