-- The first statements of planned kernels keep within their arrays
use Rattle.std.proofs.Common.{◌≡◌, ℕ, zero, suc, ◌+◌, ◌*◌, ◌<◌, ◌≤◌, ◌^◌, List, ◌++◌, lit<, lit≤, arith}
use Rattle.c_unit.specs.declared.unit.CStmt.{CStmt, Mul, Sub}
use Rattle.c_unit.specs.Rules.{KeepAll, Keeps, KeepsSource, KeepsTarget, Sizes, keep_more, keep_none, keeps_abs, keeps_add, keeps_copy, keeps_inv, keeps_mul, keeps_sub, outside}
use Rattle.calculus.specs.Jacobian.{next_axis}
use Rattle.kernel_runs.specs.Preamble.{all_differences, all_growths, cofactor_code, cofactors_code, difference_code, expansion_code, growth_code, interval_preamble, preamble, t, tetrahedron_preamble, triangle_preamble, volume_code, x}
use Rattle.planner.proofs.KeepLaws.{all_keep, numbers, plain_slot, plain_source, plain_target}

axis_below : (i : ℕ) → next_axis i ≤ 2
axis_below zero = lit≤ tt
axis_below (suc zero) = lit≤ tt
axis_below (suc (suc i)) = lit≤ tt

module _ (z : Sizes) (few : z.t ≤ 2 ^ 24) (fixed : 33 ≤ z.t) (small : z.x ≤ 2 ^ 24) where
  from : (k : ℕ) → k < 33 → KeepsSource z outside 0 (t k)
  from k h = plain_source z few fixed k (omega arith)

  into : (k : ℕ) → k < 33 → KeepsTarget z outside 0 (t k)
  into k h = plain_target z few fixed k (omega arith)

  coordinate : (k : ℕ) → k < z.x → KeepsSource z outside 0 (x k)
  coordinate k h = record { within = plain_slot z.x k h; numbers = numbers k 0 0 (omega arith) (lit< tt) (lit< tt) }

  difference : (d i a : ℕ) → 3 * i + a < 33 → d * (a + 1) + i < z.x → i < z.x → KeepAll z outside 0 (difference_code d i a)
  difference d i a h p q = keep_more (keeps_sub (into (3 * i + a) h) (coordinate (d * (a + 1) + i) p) (coordinate i q)) keep_none

  product : (a b c : ℕ) → a < 33 → b < 33 → c < 33 → Keeps z outside 0 (Mul (t a) (t b) (t c))
  product a b c p q r = keeps_mul (into a p) (from b q) (from c r)

  volume : KeepAll z outside 0 volume_code
  volume =
      keep_more (keeps_inv (into 19 (lit< tt)) (from 18 (lit< tt)))
      (keep_more (keeps_abs (into 20 (lit< tt)) (from 18 (lit< tt))) keep_none)

  -- ---- in each dimension
  interval : 2 ≤ z.x → KeepAll z outside 0 interval_preamble
  interval h =
      all_keep z outside 0 (difference_code 1 0 0) _ (difference 1 0 0 (lit< tt) (omega arith) (omega arith))
      (keep_more (keeps_copy (into 18 (lit< tt)) (from 0 (lit< tt)))
      (all_keep z outside 0 volume_code _ volume (keep_more (keeps_copy (into 21 (lit< tt)) (from 19 (lit< tt))) keep_none)))

  turned : (to at : ℕ) → to < 33 → at < 33 → Keeps z outside 0 (Sub (t to) (t 30) (t at))
  turned to at h p = keeps_sub (into to h) (from 30 (lit< tt)) (from at p)

  triangle : 6 ≤ z.x → KeepAll z outside 0 triangle_preamble
  triangle h =
      all_keep z outside 0 (difference_code 2 0 0) _ (difference 2 0 0 (lit< tt) (omega arith) (omega arith))
      (all_keep z outside 0 (difference_code 2 0 1) _ (difference 2 0 1 (lit< tt) (omega arith) (omega arith))
      (all_keep z outside 0 (difference_code 2 1 0) _ (difference 2 1 0 (lit< tt) (omega arith) (omega arith))
      (all_keep z outside 0 (difference_code 2 1 1) _ (difference 2 1 1 (lit< tt) (omega arith) (omega arith))
      (keep_more (product 32 0 4 (lit< tt) (lit< tt) (lit< tt))
      (keep_more (product 31 1 3 (lit< tt) (lit< tt) (lit< tt))
      (keep_more (keeps_sub (into 18 (lit< tt)) (from 32 (lit< tt)) (from 31 (lit< tt)))
      (all_keep z outside 0 volume_code _ volume
      (keep_more (product 21 4 19 (lit< tt) (lit< tt) (lit< tt))
      (keep_more (product 25 0 19 (lit< tt) (lit< tt) (lit< tt))
      (keep_more (turned 32 1 (lit< tt) (lit< tt))
      (keep_more (product 24 32 19 (lit< tt) (lit< tt) (lit< tt))
      (keep_more (turned 32 3 (lit< tt) (lit< tt))
      (keep_more (product 22 32 19 (lit< tt) (lit< tt) (lit< tt)) keep_none)))))))))))))

  cofactor : (a i : ℕ) → a < 3 → i < 3 → KeepAll z outside 0 (cofactor_code a i)
  cofactor a i h k =
      let first = axis_below a in
      let second = axis_below (next_axis a) in
      let row = axis_below i in
      let other = axis_below (next_axis i) in
      keep_more (product 32 _ _ (lit< tt) (omega arith) (omega arith))
      (keep_more (product 31 _ _ (lit< tt) (omega arith) (omega arith))
      (keep_more (keeps_sub (into (9 + 3 * a + i) (omega arith)) (from 32 (lit< tt)) (from 31 (lit< tt))) keep_none))

  cofactors : (a : ℕ) → a < 3 → KeepAll z outside 0 (cofactors_code a)
  cofactors a h =
      all_keep z outside 0 (cofactor_code a 0) _ (cofactor a 0 h (lit< tt))
      (all_keep z outside 0 (cofactor_code a 1) _ (cofactor a 1 h (lit< tt)) (cofactor a 2 h (lit< tt)))

  growth : (i a : ℕ) → i < 3 → a < 3 → KeepAll z outside 0 (growth_code i a)
  growth i a h k = keep_more (product (21 + 3 * i + a) (9 + 3 * a + i) 19 (omega arith) (omega arith) (lit< tt)) keep_none

  -- one piece for each pair of numbers below three
  nine : (f : ℕ → ℕ → List CStmt) → ((i a : ℕ) → i < 3 → a < 3 → KeepAll z outside 0 (f i a))
      → KeepAll z outside 0 (f 0 0 ++ (f 0 1 ++ (f 0 2 ++ (f 1 0 ++ (f 1 1 ++ (f 1 2 ++ (f 2 0 ++ (f 2 1 ++ f 2 2))))))))
  nine f h =
      all_keep z outside 0 (f 0 0) _ (h 0 0 (lit< tt) (lit< tt))
      (all_keep z outside 0 (f 0 1) _ (h 0 1 (lit< tt) (lit< tt))
      (all_keep z outside 0 (f 0 2) _ (h 0 2 (lit< tt) (lit< tt))
      (all_keep z outside 0 (f 1 0) _ (h 1 0 (lit< tt) (lit< tt))
      (all_keep z outside 0 (f 1 1) _ (h 1 1 (lit< tt) (lit< tt))
      (all_keep z outside 0 (f 1 2) _ (h 1 2 (lit< tt) (lit< tt))
      (all_keep z outside 0 (f 2 0) _ (h 2 0 (lit< tt) (lit< tt))
      (all_keep z outside 0 (f 2 1) (f 2 2) (h 2 1 (lit< tt) (lit< tt)) (h 2 2 (lit< tt) (lit< tt)))))))))

  expansion : KeepAll z outside 0 expansion_code
  expansion =
      keep_more (product 18 0 9 (lit< tt) (lit< tt) (lit< tt))
      (keep_more (product 32 1 12 (lit< tt) (lit< tt) (lit< tt))
      (keep_more (keeps_add (into 18 (lit< tt)) (from 18 (lit< tt)) (from 32 (lit< tt)))
      (keep_more (product 32 2 15 (lit< tt) (lit< tt) (lit< tt))
      (keep_more (keeps_add (into 18 (lit< tt)) (from 18 (lit< tt)) (from 32 (lit< tt))) volume))))

  tetrahedron : 12 ≤ z.x → KeepAll z outside 0 tetrahedron_preamble
  tetrahedron h =
      all_keep z outside 0 all_differences _ (nine (difference_code 3) (λ i a p q. difference 3 i a (omega arith) (omega arith) (omega arith)))
      (all_keep z outside 0 (cofactors_code 0) _ (cofactors 0 (lit< tt))
      (all_keep z outside 0 (cofactors_code 1) _ (cofactors 1 (lit< tt))
      (all_keep z outside 0 (cofactors_code 2) _ (cofactors 2 (lit< tt))
      (all_keep z outside 0 expansion_code all_growths expansion (nine growth_code growth)))))

  pub preamble_keeps : (d : ℕ) → d ≤ 3 → z.x ≡ d * (d + 1) → KeepAll z outside 0 (preamble d)
  preamble_keeps zero h e = keep_none
  preamble_keeps (suc zero) h e = interval (omega (arith, e))
  preamble_keeps (suc (suc zero)) h e = triangle (omega (arith, e))
  preamble_keeps (suc (suc (suc zero))) h e = tetrahedron (omega (arith, e))
  preamble_keeps (suc (suc (suc (suc d)))) h e = absurd (omega (arith, h))
