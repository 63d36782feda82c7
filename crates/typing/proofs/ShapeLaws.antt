-- The shapes that the rows of the typing table give: their ranks, and sizes that fit a byte
use Rattle.std.proofs.Common.{◌≡◌, ◌≤◌, ◌<◌, ◌^◌, ◌+◌, ◌-◌, ◌==◌, ◌&&◌, ℕ, zero, suc, Bool, true, false, if◌then◌else◌, nat_le, List, [], ◌∷◌, ◌++◌, length, take, Option, None, Some, Ok, Err, slice_get, refl, sym, ap, ◌∙◌, subst, arith, length-append}
use Rattle.std.specs.Cmp.Lexicographic.{pointwise}
use Rattle.std.specs.Prelude.{nat_eq}
use Rattle.spaces.specs.declared.cell.Cell.{Cell}
use Rattle.spaces.specs.declared.cell.Cell.TheVariants.{Interval, Triangle, Tetrahedron}
use Rattle.spaces.specs.Cell.{dimension}
use Rattle.ufl_tree.specs.declared.function.Ix.{Ix}
use Rattle.ufl_tree.specs.declared.tree.Op1.{Op1}
use Rattle.ufl_tree.specs.declared.tree.Op1.TheVariants.{Neg, Grad, NablaGrad, Div, NablaDiv, Curl, Transpose, Trace, Sym, Skew, Dev}
use Rattle.ufl_tree.specs.declared.tree.Op2.{Op2}
use Rattle.ufl_tree.specs.declared.tree.Op2.TheVariants.{Sum, Product, Dot, Inner, Outer, Cross}
use Rattle.ufl_tree.specs.Indices.{all_but_first, first_size}
use Rattle.ufl_expr.specs.declared.refusal.TypeRefusal.TheVariants.{Shape}
use Rattle.ufl_expr.specs.Shapes.{ShapeVerdict, shape_if, same_shape, is_scalar, is_vector, is_square, first_of, last_of, all_but_last, same_size, in_dimension, dimension_of, grad_shape, curl_shape, transposed, one_shape, dot_shape, product_shape, two_shape, is_within, rest_shape}
use Rattle.lower.specs.Fitting.{OneRank, DotRank, ProductRank, TwoRank}
use Rattle.typing.specs.Sizes.{AreBytes}

-- what is known where a verdict is Ok
pub record IfShape (b : Bool) (s t : List ℕ) : Type 0 where
  pub test : b ≡ true
  pub shape : s ≡ t

pub if_shape : (b : Bool) (s t : List ℕ) → shape_if b s ≡ Ok t → IfShape b s t
if_shape true s t h = record { test = refl; shape = cc }
if_shape false s t h = cc

abbrev fine : List ℕ → ShapeVerdict
fine s = Ok s

pub ok_shape : (s t : List ℕ) → fine s ≡ fine t → s ≡ t
ok_shape s t h = cc

pub both_true : (a b : Bool) → a && b ≡ true → (a ≡ true) × (b ≡ true)
both_true true b h = (refl, h)
both_true false b h = cc

-- ---- lists of sizes
pub bytes_append : (s t : List ℕ) → AreBytes s → AreBytes t → AreBytes (s ++ t)
bytes_append [] t p q = q
bytes_append (d ∷ s) t p q = (p.0, bytes_append s t p.1 q)

bytes_take : (n : ℕ) (s : List ℕ) → AreBytes s → AreBytes (take n s)
bytes_take zero s p = tt
bytes_take (suc n) [] p = tt
bytes_take (suc n) (d ∷ s) p = (p.0, bytes_take n s p.1)

bytes_rest : (s : List ℕ) → AreBytes s → AreBytes (all_but_first s)
bytes_rest [] p = tt
bytes_rest (d ∷ s) p = p.1

pub dimension_byte : (c : Cell) → dimension c ≤ 255
dimension_byte Interval = omega arith
dimension_byte Triangle = omega arith
dimension_byte Tetrahedron = omega arith

pub same_length : (s t : List ℕ) → same_shape s t ≡ true → length s ≡ length t
same_length [] [] h = refl
same_length [] (e ∷ t) h = cc
same_length (d ∷ s) [] h = cc
same_length (d ∷ s) (e ∷ t) h = ap suc (same_length s t (both_true (nat_eq d e) (pointwise nat_eq s t) h).1)

take_length : (n : ℕ) (s : List ℕ) → length (take n s) ≤ n
take_length zero s = omega arith
take_length (suc n) [] = omega arith
take_length (suc n) (d ∷ s) = omega (arith, take_length n s)

-- the last size of a nonempty shape
record IsThere (o : Option ℕ) : Type 0 where
  size : ℕ
  is : o ≡ Some size

last_there : (d : ℕ) (s : List ℕ) → IsThere (slice_get (d ∷ s) (length s))
last_there d [] = record { size = d; is = refl }
last_there d (e ∷ s) = last_there e s

last_of_there : (d : ℕ) (s : List ℕ) → IsThere (last_of (d ∷ s))
last_of_there d s =
    let e : suc (length s) - 1 ≡ length s = omega arith in
    subst (λ n. IsThere (slice_get (d ∷ s) n)) (sym e) (last_there d s)

-- ---- operators of one operand
record GivesShape (op : Op1) (s t : List ℕ) : Type 0 where
  rank : OneRank op s t
  bytes : AreBytes t

div_gives : (s t : List ℕ) (d : ℕ) → shape_if (same_size (last_of s) (Some d)) (all_but_last s) ≡ Ok t → AreBytes s → (suc (length t) ≤ length s) × AreBytes t
div_gives [] t d h p = cc
div_gives (x ∷ s) t d h p =
    let e = (if_shape (same_size (last_of (x ∷ s)) (Some d)) (all_but_last (x ∷ s)) t h).shape in
    (omega (arith, take_length (length (x ∷ s) - 1) (x ∷ s), ap length e), subst AreBytes e (bytes_take (length (x ∷ s) - 1) (x ∷ s) p))

nabla_gives : (s t : List ℕ) (d : ℕ) → shape_if (same_size (first_of s) (Some d)) (all_but_first s) ≡ Ok t → AreBytes s → (suc (length t) ≤ length s) × AreBytes t
nabla_gives [] t d h p = cc
nabla_gives (x ∷ s) t d h p =
    let e = (if_shape _ s t h).shape in
    (omega (arith, ap length e), subst AreBytes e p.1)

vector_length : (n : ℕ) (s : List ℕ) → is_vector n s ≡ true → length s ≡ 1
vector_length n [] h = cc
vector_length n (m ∷ []) h = refl
vector_length n (m ∷ k ∷ s) h = cc

scalar_length : (s : List ℕ) → is_scalar s ≡ true → length s ≡ 0
scalar_length [] h = refl
scalar_length (m ∷ s) h = cc

curl_third : (s t : List ℕ) (b : Bool) → shape_if (b && is_scalar s) (2 ∷ []) ≡ Ok t → (length s ≤ 1) × AreBytes t
curl_third s t b h =
    let e = if_shape (b && is_scalar s) (2 ∷ []) t h in
    (omega (arith, scalar_length s (both_true b (is_scalar s) e.test).1), subst AreBytes e.shape (omega arith, tt))

curl_second : (s t : List ℕ) (b c : Bool) (r : ShapeVerdict) → (b && is_vector 2 s) ≡ c → (r ≡ Ok t → (length s ≤ 1) × AreBytes t) → (if c then Ok [] else r) ≡ Ok t
    → (length s ≤ 1) × AreBytes t
curl_second s t b true r e f h =
    let empty : [] ≡ t = ok_shape [] t h in
    (omega (arith, vector_length 2 s (both_true b (is_vector 2 s) e).1), subst AreBytes empty tt)
curl_second s t b false r e f h = f h

curl_first : (s t : List ℕ) (b c : Bool) (r : ShapeVerdict) → (b && is_vector 3 s) ≡ c → (r ≡ Ok t → (length s ≤ 1) × AreBytes t) → (if c then Ok (3 ∷ []) else r) ≡ Ok t
    → (length s ≤ 1) × AreBytes t
curl_first s t b true r e f h =
    let three : 3 ∷ [] ≡ t = ok_shape (3 ∷ []) t h in
    (omega (arith, vector_length 3 s (both_true b (is_vector 3 s) e).1), subst AreBytes three (omega arith, tt))
curl_first s t b false r e f h = f h

curl_gives : (s t : List ℕ) (d : ℕ) → curl_shape s d ≡ Ok t → (length s ≤ 1) × AreBytes t
curl_gives s t d h =
    curl_first s t (d == 3) _ _ refl (curl_second s t (d == 2) _ _ refl (curl_third s t (d == 2))) h

transposed_gives : (s t : List ℕ) → transposed s ≡ Ok t → AreBytes s → (2 ≤ length s) × AreBytes t
transposed_gives [] t h p = cc
transposed_gives (m ∷ []) t h p = cc
transposed_gives (m ∷ n ∷ []) t h p = (omega arith, subst AreBytes (ok_shape (n ∷ m ∷ []) t h) (p.1.0, (p.0, tt)))
transposed_gives (m ∷ n ∷ k ∷ s) t h p = cc

square_length : (s : List ℕ) → is_square s ≡ true → 2 ≤ length s
square_length [] h = cc
square_length (m ∷ []) h = cc
square_length (m ∷ n ∷ []) h = omega arith
square_length (m ∷ n ∷ k ∷ s) h = cc

square_gives : (s r t : List ℕ) → shape_if (is_square s) r ≡ Ok t → AreBytes r → (2 ≤ length s) × AreBytes t
square_gives s r t h p =
    let e = if_shape (is_square s) r t h in
    (square_length s e.test, subst AreBytes e.shape p)

first_byte : (s : List ℕ) → AreBytes s → first_size s < 2 ^ 127
first_byte [] p = omega arith
first_byte (d ∷ s) p = let q = p.0 in omega arith

along_cell : (c : Option Cell) (f : ℕ → ShapeVerdict) (t : List ℕ) (P : Type 0) → in_dimension (dimension_of c) f ≡ Ok t → ((d : Cell) → f (dimension d) ≡ Ok t → P) → P
along_cell None f t P h g = cc
along_cell (Some d) f t P h g = g d h

one_gives : (op : Op1) (s : List ℕ) (c : Option Cell) (t : List ℕ) → one_shape op s c ≡ Ok t → AreBytes s → GivesShape op s t
one_gives Neg s c t h p = let e = ok_shape s t h in record { rank = omega (arith, ap length e); bytes = subst AreBytes e p }
one_gives Grad s c t h p = along_cell c (grad_shape s) t (GivesShape Grad s t) h (λ d g.
    let e = ok_shape (s ++ dimension d ∷ []) t g in
    let l = length-append s (dimension d ∷ []) in
    record { rank = omega (arith, ap length e, l); bytes = subst AreBytes e (bytes_append s (dimension d ∷ []) p (dimension_byte d, tt)) })
one_gives NablaGrad s c t h p = along_cell c (λ d. Ok (d ∷ s)) t (GivesShape NablaGrad s t) h (λ d g.
    let e = ok_shape (dimension d ∷ s) t g in
    record { rank = omega (arith, ap length e); bytes = subst AreBytes e (dimension_byte d, p) })
one_gives Div s c t h p = along_cell c (λ d. shape_if (same_size (last_of s) (Some d)) (all_but_last s)) t (GivesShape Div s t) h (λ d g.
    let r = div_gives s t (dimension d) g p in record { rank = r.0; bytes = r.1 })
one_gives NablaDiv s c t h p = along_cell c (λ d. shape_if (same_size (first_of s) (Some d)) (all_but_first s)) t (GivesShape NablaDiv s t) h (λ d g.
    let r = nabla_gives s t (dimension d) g p in record { rank = r.0; bytes = r.1 })
one_gives Curl s c t h p = along_cell c (curl_shape s) t (GivesShape Curl s t) h (λ d g.
    let r = curl_gives s t (dimension d) g in record { rank = r.0; bytes = r.1 })
one_gives Transpose s c t h p = let r = transposed_gives s t h p in record { rank = r.0; bytes = r.1 }
one_gives Trace s c t h p = let r = square_gives s [] t h tt in record { rank = r.0; bytes = r.1 }
one_gives Sym s c t h p = let r = square_gives s s t h p in record { rank = r.0; bytes = r.1 }
one_gives Skew s c t h p = let r = square_gives s s t h p in record { rank = r.0; bytes = r.1 }
one_gives Dev s c t h p = let r = square_gives s s t h p in record { rank = (r.0, first_byte s p); bytes = r.1 }

pub one_rank : (op : Op1) (s : List ℕ) (c : Option Cell) (t : List ℕ) → one_shape op s c ≡ Ok t → AreBytes s → OneRank op s t
one_rank op s c t h p = (one_gives op s c t h p).rank

pub one_bytes : (op : Op1) (s : List ℕ) (c : Option Cell) (t : List ℕ) → one_shape op s c ≡ Ok t → AreBytes s → AreBytes t
one_bytes op s c t h p = (one_gives op s c t h p).bytes

-- ---- operators of two operands
dot_rank : (s t u : List ℕ) → dot_shape s t ≡ Ok u → DotRank s t u
dot_rank [] [] u h = omega (arith, ap length (if_shape true [] u h).shape)
dot_rank [] (e ∷ t) u h = cc
dot_rank (d ∷ s) [] u h =
    let L = last_of_there d s in
    let f = (if_shape (same_size (last_of (d ∷ s)) None) _ u h).test in
    let g : same_size (Some L.size) None ≡ true = sym (ap (λ o. same_size o None) L.is) ∙ f in
    cc
dot_rank (d ∷ s) (e ∷ t) u h =
    let same = (if_shape (same_size (last_of (d ∷ s)) (Some e)) (all_but_last (d ∷ s) ++ t) u h).shape in
    let l = length-append (all_but_last (d ∷ s)) t in
    (omega (arith, ap length same, l, take_length (length (d ∷ s) - 1) (d ∷ s)), omega arith)

dot_bytes : (s t u : List ℕ) → dot_shape s t ≡ Ok u → AreBytes s → AreBytes t → AreBytes u
dot_bytes s t u h p q =
    subst AreBytes (if_shape (same_size (last_of s) (first_of t)) (all_but_last s ++ all_but_first t) u h).shape
    (bytes_append (all_but_last s) (all_but_first t) (bytes_take (length s - 1) s p) (bytes_rest t q))

matrix_dot : (b : Bool) (s t u : List ℕ) → (if b then dot_shape s t else Err Shape) ≡ Ok u → dot_shape s t ≡ Ok u
matrix_dot true s t u h = h
matrix_dot false s t u h = cc

product_rank : (s t u : List ℕ) → product_shape s t ≡ Ok u → ProductRank s t u
product_rank [] t u h = omega (arith, ap length (ok_shape t u h))
product_rank (d ∷ s) [] u h = omega (arith, ap length (ok_shape (d ∷ s) u h))
product_rank (d ∷ s) (e ∷ t) u h = dot_rank (d ∷ s) (e ∷ t) u (matrix_dot ((length (d ∷ s) == 2) && nat_le (length (e ∷ t)) 2) (d ∷ s) (e ∷ t) u h)

product_bytes : (s t u : List ℕ) → product_shape s t ≡ Ok u → AreBytes s → AreBytes t → AreBytes u
product_bytes [] t u h p q = subst AreBytes (ok_shape t u h) q
product_bytes (d ∷ s) [] u h p q = subst AreBytes (ok_shape (d ∷ s) u h) p
product_bytes (d ∷ s) (e ∷ t) u h p q =
    dot_bytes (d ∷ s) (e ∷ t) u (matrix_dot ((length (d ∷ s) == 2) && nat_le (length (e ∷ t)) 2) (d ∷ s) (e ∷ t) u h) p q

pub two_rank : (op : Op2) (s t u : List ℕ) → two_shape op s t ≡ Ok u → TwoRank op s t u
two_rank Sum s t u h =
    let e = if_shape (same_shape s t) s u h in
    (omega (arith, ap length e.shape), omega (arith, ap length e.shape, same_length s t e.test))
two_rank Product s t u h = product_rank s t u h
two_rank Dot s t u h = dot_rank s t u h
two_rank Inner s t u h = omega (arith, same_length s t (if_shape (same_shape s t) [] u h).test)
two_rank Outer s t u h = omega (arith, ap length (ok_shape (s ++ t) u h), length-append s t)
two_rank Cross s t u h =
    let e = both_true (is_vector 3 s) (is_vector 3 t) (if_shape (is_vector 3 s && is_vector 3 t) (3 ∷ []) u h).test in
    (omega (arith, vector_length 3 s e.0), omega (arith, vector_length 3 t e.1))

pub two_bytes : (op : Op2) (s t u : List ℕ) → two_shape op s t ≡ Ok u → AreBytes s → AreBytes t → AreBytes u
two_bytes Sum s t u h p q = subst AreBytes (if_shape (same_shape s t) s u h).shape p
two_bytes Product s t u h p q = product_bytes s t u h p q
two_bytes Dot s t u h p q = dot_bytes s t u h p q
two_bytes Inner s t u h p q = subst AreBytes (if_shape (same_shape s t) [] u h).shape tt
two_bytes Outer s t u h p q = subst AreBytes (ok_shape (s ++ t) u h) (bytes_append s t p q)
two_bytes Cross s t u h p q = subst AreBytes (if_shape (is_vector 3 s && is_vector 3 t) (3 ∷ []) u h).shape (omega arith, tt)

-- ---- components
within_rest : (b : Bool) (r : ShapeVerdict) (t : List ℕ) → (if b then r else Err Shape) ≡ Ok t → r ≡ Ok t
within_rest true r t h = h
within_rest false r t h = cc

pub rest_rank : (at : List Ix) (s t : List ℕ) → rest_shape at s ≡ Ok t → length at + length t ≤ length s
rest_rank [] s t h = omega (arith, ap length (ok_shape s t h))
rest_rank (i ∷ is) [] t h = cc
rest_rank (i ∷ is) (d ∷ s) t h = omega (arith, rest_rank is s t (within_rest (is_within i d) (rest_shape is s) t h))

pub rest_bytes : (at : List Ix) (s t : List ℕ) → rest_shape at s ≡ Ok t → AreBytes s → AreBytes t
rest_bytes [] s t h p = subst AreBytes (ok_shape s t h) p
rest_bytes (i ∷ is) [] t h p = cc
rest_bytes (i ∷ is) (d ∷ s) t h p = rest_bytes is s t (within_rest (is_within i d) (rest_shape is s) t h) p.1
