-- The machine for a marker
use Rattle.std.proofs.Common.{◌≡◌, ◌≢◌, ℕ, zero, suc, ◌<◌, ◌≤◌, ◌==◌, true, false, List, [], ◌∷◌, length, get_or, map, refl, ◌∙◌, ap, arith, subst}
use Rattle.std.proofs.lemmas.Bool.Decides.{nat_tests}
use Rattle.std.specs.List.{AllByRecursion}
use Rattle.c_unit.specs.declared.unit.CFun.{CFun}
use Rattle.std.specs.declared.result.Result.TheVariants.{Ok, Err}
use Rattle.std.specs.Ordering.{nat_cmp}
use Rattle.std.specs.List.Sorted.{IsBinarySearchResult}
use Rattle.std.proofs.lemmas.List.Sorted.{searched}
use Rattle.std.proofs.lemmas.Bool.{cases_lt}
use Rattle.std.proofs.Common.{⊎_elim}
use Rattle.assembly.specs.Assembly.{AreRising, marked_fun, fun_on}
use Rattle.assembly.specs.Machines.{AreMachines}
use Rattle.assembly.specs.declared.runs.Machines.{Machines}
use Rattle.assembly.specs.declared.funs.MarkedFun.{MarkedFun}

abbrev pub markers_of : List MarkedFun → List ℕ
markers_of ms = map (λ (f : MarkedFun). f.marker) ms

rising_at : (low : ℕ) (ms : List MarkedFun) (i : ℕ) → AllByRecursion (λ (later : MarkedFun). low < later.marker) ms → i < length ms → low < get_or (markers_of ms) i 0
rising_at low [] i a h = absurd (omega arith)
rising_at low (m ∷ ms) zero a h = a.0
rising_at low (m ∷ ms) (suc i) a h = rising_at low ms i a.1 (omega arith)

pub length-markers : (ms : List MarkedFun) → length (markers_of ms) ≡ length ms
length-markers [] = refl
length-markers (m ∷ ms) = ap suc (length-markers ms)

-- the markers are in order
pub ascending : (ms : List MarkedFun) → AreRising ms → (i j : ℕ) → i ≤ j → j < length (markers_of ms) → get_or (markers_of ms) i 0 ≤ get_or (markers_of ms) j 0
ascending [] r i j h k = absurd (omega arith)
ascending (m ∷ ms) r zero zero h k = omega arith
ascending (m ∷ ms) r zero (suc j) h k = omega (arith, rising_at m.marker ms j r.0 (omega (arith, length-markers ms)))
ascending (m ∷ ms) r (suc i) zero h k = absurd (omega arith)
ascending (m ∷ ms) r (suc i) (suc j) h k = ascending ms r.1 i j (omega arith) (omega arith)

same_test : (a b : ℕ) → a ≡ b → (a == b) ≡ true
same_test a b e = grind (arith, nat_tests)

less_test : (a b : ℕ) → a < b → (a == b) ≡ false
less_test a b h = grind (arith, nat_tests)

other_test : (a b : ℕ) → a ≢ b → (a == b) ≡ false
other_test a b n = grind (arith, nat_tests)

pub found_fun : (ms : List MarkedFun) (k i : ℕ) (plain d : CFun) → AreRising ms → i < length (markers_of ms) → get_or (markers_of ms) i 0 ≡ k
    → get_or (map (λ (f : MarkedFun). f.fun) ms) i d ≡ marked_fun ms k plain
found_fun [] k i plain d r h e = absurd (omega arith)
found_fun (m ∷ ms) k zero plain d r h e = rw (same_test m.marker k e) refl
found_fun (m ∷ ms) k (suc i) plain d r h e =
    let less : m.marker < k = subst (λ (n : ℕ). m.marker < n) e (rising_at m.marker ms i r.0 (omega (arith, length-markers ms))) in
    rw (less_test m.marker k less) (found_fun ms k i plain d r.1 (omega arith) e)

pub missing_fun : (ms : List MarkedFun) (k : ℕ) (plain : CFun) → ((i : ℕ) → i < length (markers_of ms) → get_or (markers_of ms) i 0 ≢ k) → plain ≡ marked_fun ms k plain
missing_fun [] k plain n = refl
missing_fun (m ∷ ms) k plain n = rw (other_test m.marker k (n zero (omega arith))) (missing_fun ms k plain (λ i h. n (suc i) (omega arith)))

pub machine_found : (m : Machines) (k i : ℕ) (xs : List ℕ) (fun : CFun) → AreMachines m → AreRising m.funs.now.marked.items → xs ≡ m.markers.items → IsBinarySearchResult (λ y. nat_cmp y k) xs (Ok i)
    → fun ≡ get_or m.marked.items i fun → fun ≡ fun_on m.funs.now k
machine_found m k i xs fun is r e p f =
    let ms = m.funs.now.marked.items in
    let p' = subst (λ (ys : List ℕ). IsBinarySearchResult (λ y. nat_cmp y k) ys (Ok i)) (e ∙ is.markers) p in
    let at = searched (markers_of ms) k (Ok i) p' (ascending ms r) in
    f ∙ ap (λ (fs : List CFun). get_or fs i fun) is.marked ∙ found_fun ms k i m.funs.now.plain fun r at.0 at.1

pub machine_missing : (m : Machines) (k i : ℕ) (xs : List ℕ) → AreMachines m → AreRising m.funs.now.marked.items → xs ≡ m.markers.items → IsBinarySearchResult (λ y. nat_cmp y k) xs (Err i)
    → m.plain ≡ fun_on m.funs.now k
machine_missing m k i xs is r e p =
    let ms = m.funs.now.marked.items in
    let p' = subst (λ (ys : List ℕ). IsBinarySearchResult (λ y. nat_cmp y k) ys (Err i)) (e ∙ is.markers) p in
    let at = searched (markers_of ms) k (Err i) p' (ascending ms r) in
    is.plain ∙ missing_fun ms k m.funs.now.plain (λ j h. ⊎_elim
    (λ (l : j < i). λ q. let b = at.1 j l in omega (arith, b, q))
    (λ (l : i ≤ j). λ q. let b = at.2 j l h in omega (arith, b, q))
    (cases_lt j i))
