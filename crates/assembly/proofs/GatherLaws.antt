-- What the functions are run on, gathered
use Rattle.std.proofs.Common.{◌≡◌, ℕ, ◌+◌, ◌<◌, ◌≤◌, List, [], ◌∷◌, ◌++◌, Some, refl, sym, ◌∙◌, ap, ap₂, arith, length, get_or, drop, take, map, add-one, drop-cons, append_assoc, length-append, ◌-◌}
use Rattle.std.proofs.lemmas.List.{drop_all, get_or-map, append-nil, map-append, take_all, length-drop, length-map}
use Rattle.std.proofs.Math.Seq.{take-append_seam}
use borrow.Rule.Slice.PartMut.{post_of}
use Rattle.std.proofs.lemmas.Option.{get_or_from_slice_get, slice_get_within}
use Rattle.std.specs.List.{slice_get, flat_map}
use Rattle.algebra.specs.Fraction.{Fraction, zero_fraction}
use Rattle.ratio.specs.Value.{fraction_of}
use Rattle.ratio.specs.declared.reduced.Ratio.{Ratio}
use Rattle.c_unit.specs.Meaning.{fractions_of}
use Rattle.mesh_in.specs.MeshData.{MeshData, fractions}
use Rattle.std.proofs.Common.{◌*◌, below_more, subst, true, false, if◌then◌else◌, ◌==◌}
use Rattle.std.specs.List.{AllByRecursion}
use Rattle.std.proofs.lemmas.List.{drop-append-le, take-append-le}
use Rattle.std.proofs.Math.Seq.{drop-append_seam}
use Rattle.c_unit.specs.declared.unit.CFun.{CFun}
use Rattle.c_unit.specs.Meaning.{ran}
use Rattle.c_run.specs.Answer.{Answer, answer}
use Rattle.assembly.specs.Assembly.{Runs, IsFew, IsGoodOn, StopsFirst, CellRefused, RunRefused, answer_on, cell_count, marked_fun, fun_on, marker_of, coefficient_values}
use Rattle.assembly.specs.declared.funs.Funs.{Funs}
use Rattle.assembly.specs.declared.funs.MarkedFun.{MarkedFun}
use Rattle.assembly.specs.declared.run_refusal.RunRefusal.{RunRefusal}
use Rattle.assembly.specs.declared.run_refusal.RunRefusal.TheVariants.{TooManyEntries, Zero, CellPassed, SumPassed, Memory}
use Rattle.assembly.specs.Run.{coordinates_of}

drop_here : {A : Type 0} (xs : List A) (i : ℕ) (d : A) → i < length xs → drop i xs ≡ get_or xs i d ∷ drop (i + 1) xs
drop_here xs i d h = rw (add-one, drop-cons xs i d) refl

-- one more piece
one_piece : (x p : List Ratio) (q rest : List Fraction) → fractions_of p ≡ q → fractions_of (x ++ p) ++ rest ≡ fractions_of x ++ (q ++ rest)
one_piece x p q rest e = ap (λ (t : List Fraction). t ++ rest) (map-append fraction_of x p ∙ ap (λ (t : List Fraction). fractions_of x ++ t) e) ∙ append_assoc (fractions_of x) q rest

point_is : (points : List (List Ratio)) (v : ℕ) (p : List Ratio) → slice_get points v ≡ Some p → fractions_of p ≡ get_or (map (map fraction_of) points) v []
point_is points v p e = sym (get_or-map (map fraction_of) points v [] [] (slice_get_within points v p e) ∙ ap (map fraction_of) (get_or_from_slice_get points v p [] e))

pub coordinates_more : (m : MeshData Ratio) (vs : List ℕ) (i : ℕ) (x p y : List Ratio) (whole : List Fraction) → i < length vs → slice_get m.points (get_or vs i 0) ≡ Some p → y ≡ x ++ p
    → fractions_of x ++ coordinates_of (fractions m) (drop i vs) ≡ whole → fractions_of y ++ coordinates_of (fractions m) (drop (i + 1) vs) ≡ whole
coordinates_more m vs i x p y whole h e f w =
    ap (λ z. fractions_of z ++ coordinates_of (fractions m) (drop (i + 1) vs)) f
    ∙ one_piece x p (get_or (map (map fraction_of) m.points) (get_or vs i 0) []) (coordinates_of (fractions m) (drop (i + 1) vs)) (point_is m.points (get_or vs i 0) p e)
    ∙ ap (λ us. fractions_of x ++ coordinates_of (fractions m) us) (sym (drop_here vs i 0 h)) ∙ w

pub coordinates_end : (m : MeshData Ratio) (vs : List ℕ) (i : ℕ) (x : List Ratio) (whole : List Fraction) → length vs ≤ i
    → fractions_of x ++ coordinates_of (fractions m) (drop i vs) ≡ whole → fractions_of x ≡ whole
coordinates_end m vs i x whole h w = sym (append-nil (fractions_of x)) ∙ ap (λ us. fractions_of x ++ coordinates_of (fractions m) us) (sym (drop_all i vs h)) ∙ w

value_is : (values : List Ratio) (r : ℕ) (v : Ratio) → r < length values → v ≡ get_or values r v → fraction_of v ≡ get_or (fractions_of values) r zero_fraction
value_is values r v h e = ap fraction_of e ∙ sym (get_or-map fraction_of values r v zero_fraction h)

pub values_more : (values : List Ratio) (rows : List ℕ) (i : ℕ) (w : List Ratio) (v : Ratio) (y : List Ratio) (whole : List Fraction) → i < length rows → get_or rows i 0 < length values → v ≡ get_or values (get_or rows i 0) v → y ≡ w ++ v ∷ []
    → fractions_of w ++ map (λ r. get_or (fractions_of values) r zero_fraction) (drop i rows) ≡ whole
    → fractions_of y ++ map (λ r. get_or (fractions_of values) r zero_fraction) (drop (i + 1) rows) ≡ whole
values_more values rows i w v y whole h k e f q =
    ap (λ z. fractions_of z ++ map (λ r. get_or (fractions_of values) r zero_fraction) (drop (i + 1) rows)) f
    ∙ one_piece w (v ∷ []) (get_or (fractions_of values) (get_or rows i 0) zero_fraction ∷ []) (map (λ r. get_or (fractions_of values) r zero_fraction) (drop (i + 1) rows))
    (ap (λ (t : Fraction). t ∷ []) (value_is values (get_or rows i 0) v k e))
    ∙ ap (λ us. fractions_of w ++ map (λ r. get_or (fractions_of values) r zero_fraction) us) (sym (drop_here rows i 0 h)) ∙ q

pub values_end : (f : ℕ → Fraction) (rows : List ℕ) (i : ℕ) (w : List Ratio) (whole : List Fraction) → length rows ≤ i → fractions_of w ++ map f (drop i rows) ≡ whole → fractions_of w ≡ whole
values_end f rows i w whole h q = sym (append-nil (fractions_of w)) ∙ ap (λ us. fractions_of w ++ map f us) (sym (drop_all i rows h)) ∙ q

pub pieces_more : {A : Type 0} (f : A → List Fraction) (xs : List A) (i : ℕ) (d : A) (w v : List Ratio) (whole : List Fraction) → i < length xs → fractions_of v ≡ fractions_of w ++ f (get_or xs i d)
    → fractions_of w ++ flat_map f (drop i xs) ≡ whole → fractions_of v ++ flat_map f (drop (i + 1) xs) ≡ whole
pieces_more f xs i d w v whole h e q =
    ap (λ (t : List Fraction). t ++ flat_map f (drop (i + 1) xs)) e ∙ append_assoc (fractions_of w) (f (get_or xs i d)) (flat_map f (drop (i + 1) xs))
    ∙ ap (λ us. fractions_of w ++ flat_map f us) (sym (drop_here xs i d h)) ∙ q

pub pieces_end : {A : Type 0} (f : A → List Fraction) (xs : List A) (i : ℕ) (w : List Ratio) (whole : List Fraction) → length xs ≤ i → fractions_of w ++ flat_map f (drop i xs) ≡ whole → fractions_of w ≡ whole
pieces_end f xs i w whole h q = sym (append-nil (fractions_of w)) ∙ ap (λ us. fractions_of w ++ flat_map f us) (sym (drop_all i xs h)) ∙ q

-- ---- what was written behind the values that were there

pub tail_written : (items ds old zs a : List Ratio) (n room start : ℕ) → ds ≡ items → items ≡ take room old ++ zs → start ≡ length old → start ≤ room → length items ≡ n → start + length a ≡ n
    → take n ((take start ds ++ (a ++ post_of start (length ds - start) ds)) ++ drop (length (take start ds ++ (a ++ post_of start (length ds - start) ds))) items) ≡ old ++ a
tail_written items ds old zs a n room start e f g h l m =
    let front : take start ds ≡ old
    = ap (take start) (e ∙ f ∙ ap (λ (t : List Ratio). t ++ zs) (take_all room old (omega (arith, g, h)))) ∙ ap (λ k. take k (old ++ zs)) g ∙ take-append_seam old zs in
    let back : post_of start (length ds - start) ds ≡ [] = drop_all (length ds - start) (drop start ds) (omega (arith, length-drop start ds)) in
    let whole : take start ds ++ (a ++ post_of start (length ds - start) ds) ≡ old ++ a = ap₂ ◌++◌ front (ap (λ (t : List Ratio). a ++ t) back ∙ append-nil a) in
    ap (λ (w : List Ratio). take n (w ++ drop (length w) items)) whole
    ∙ ap (λ (t : List Ratio). take n ((old ++ a) ++ t)) (drop_all (length (old ++ a)) items (omega (arith, length-append old a, g, l, m)))
    ∙ ap (take n) (append-nil (old ++ a))
    ∙ take_all n (old ++ a) (omega (arith, length-append old a, g, m))

pub refused_as : (a b : Answer) (k : ℕ) (e : RunRefusal) → a ≡ b → CellRefused a k e → CellRefused b k e
refused_as a b k e f r = subst (λ (x : Answer). CellRefused x k e) f r

-- ---- one more cell

pub tensors_more : (size k : ℕ) (tensor : ℕ → List Fraction) (old new : List Fraction) → new ≡ old ++ tensor k → length old ≡ k * size → length (tensor k) ≡ size
    → ((j : ℕ) → j < k → take size (drop (j * size) old) ≡ tensor j) → (j : ℕ) → j < k + 1 → take size (drop (j * size) new) ≡ tensor j
tensors_more size k tensor old new e f g h = below_more (λ j. take size (drop (j * size) new) ≡ tensor j) k
    (λ j l. ap (λ xs. take size (drop (j * size) xs)) e ∙ earlier size j k old (tensor k) f l ∙ h j l)
    (ap (λ xs. take size (drop (k * size) xs)) e ∙ ap (λ n. take size (drop n (old ++ tensor k))) (sym f) ∙ ap (take size) (drop-append_seam old (tensor k)) ∙ take_all size (tensor k) (omega (arith, g)))
  where
    fits : (size j k : ℕ) → j < k → j * size + size ≤ k * size
    fits size j k l =
        let r = k - (j + 1) in
        let e : k ≡ j + 1 + r = omega arith in
        let f : (j + 1 + r) * size ≡ j * size + size + r * size = omega arith in
        omega (arith, ap (λ n. n * size) e, f)

    earlier : (size j k : ℕ) (old more : List Fraction) → length old ≡ k * size → j < k → take size (drop (j * size) (old ++ more)) ≡ take size (drop (j * size) old)
    earlier size j k old more f l =
        let m = fits size j k l in
        ap (take size) (drop-append-le (j * size) old more (omega (arith, m, f)))
        ∙ take-append-le size (drop (j * size) old) more (omega (arith, m, f, length-drop (j * size) old))

-- the values of one more cell stand behind those of the cells before it
pub run_more : (size k : ℕ) (tensor : ℕ → List Fraction) (old new : List Ratio) → fractions_of new ≡ fractions_of old ++ tensor k → length old ≡ k * size → length new ≡ length old + size
    → ((j : ℕ) → j < k → take size (drop (j * size) (fractions_of old)) ≡ tensor j) → (j : ℕ) → j < k + 1 → take size (drop (j * size) (fractions_of new)) ≡ tensor j
run_more size k tensor old new e f g =
    tensors_more size k tensor (fractions_of old) (fractions_of new) e (length-map old fraction_of ∙ f)
    (omega (arith, g, length-map old fraction_of, length-map new fraction_of, ap length e, length-append (fractions_of old) (tensor k)))

-- what is gathered is what the function of the cell is run on
pub answer_is : (s : Runs) (k marker : ℕ) (f : Funs) (x w : List Ratio) → f ≡ s.funs → slice_get s.mesh.markers k ≡ Some marker
    → fractions_of x ≡ coordinates_of (fractions s.mesh) (get_or s.mesh.cells k []) → fractions_of w ≡ flat_map (coefficient_values k) s.coefs
    → answer (ran (fun_on f marker) (fractions_of x) (fractions_of w)) ≡ answer_on s k
unfolding answer_on
answer_is s k marker f x w e m g h =
    ap (λ (t : Funs). answer (ran (fun_on t marker) (fractions_of x) (fractions_of w))) e
    ∙ ap (λ n. answer (ran (fun_on s.funs n) (fractions_of x) (fractions_of w))) (sym (get_or_from_slice_get s.mesh.markers k marker 0 m))
    ∙ ap₂ (λ xs ws. answer (ran (fun_on s.funs (marker_of s.mesh k)) xs ws)) g h

pub refused_first : (s : Runs) (k : ℕ) (e : RunRefusal) → IsFew s → k < cell_count s → ((j : ℕ) → j < k → IsGoodOn s j) → CellRefused (answer_on s k) k e → RunRefused s e
refused_first s k TooManyEntries few h good r = absurd r
refused_first s k (Zero cell at) few h good r = subst (λ (n : ℕ). StopsFirst s n (Zero cell at)) (sym r.0) (record { few = few; cell = h; earlier = good; stops = r.1 })
refused_first s k (CellPassed cell at op l p) few h good r = subst (λ (n : ℕ). StopsFirst s n (CellPassed cell at op l p)) (sym r.0) (record { few = few; cell = h; earlier = good; stops = r.1 })
refused_first s k (SumPassed row col) few h good r = absurd r
refused_first s k Memory few h good r = tt

-- each function of a form has as many entries
pub same_size : (size : ℕ) (ms : List MarkedFun) (k : ℕ) (plain : CFun) → plain.a ≡ size → AllByRecursion (λ (m : MarkedFun). m.fun.a ≡ size) ms → (marked_fun ms k plain).a ≡ size
same_size size [] k plain e a = e
same_size size (m ∷ ms) k plain e a = elim (m.marker == k) as (λ b. (if b then m.fun else marked_fun ms k plain).a ≡ size) [ true ↦ a.0 | false ↦ same_size size ms k plain e a.1 ]
