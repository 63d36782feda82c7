-- What a lawful layout gives
use Rattle.std.specs.Prelude.{◌≡◌, ℕ, zero, suc, ◌+◌, ◌*◌, ◌<◌, ◌≤◌, ◌==◌, Bool, true, false, List, [], ◌∷◌, length, Option, None, Some, slice_get, if◌then◌else◌}
use Rattle.std.proofs.Common.{refl, arith, eqb-true, length-append, inl, inr, sym, subst}
use Rattle.std.proofs.lemmas.List.{length-replicate}
use Rattle.spaces.specs.declared.cell.Cell.{Cell}
use Rattle.spaces.specs.declared.cell.Cell.TheVariants.{Interval, Triangle, Tetrahedron}
use Rattle.spaces.specs.declared.family.Family.TheVariants.{Lagrange}
use Rattle.spaces.specs.declared.parts.Part.{Part}
use Rattle.spaces.specs.declared.parts.Parts.{Parts}
use Rattle.spaces.specs.Cell.{dimension}
use Rattle.spaces.specs.Scalar.{Scalar, placed, part_at, local_size, laid_out}
use Rattle.spaces.specs.Space.{scalar, scalars}
use Rattle.ufl_tree.specs.declared.function.Role.{Role}
use Rattle.ufl_tree.specs.declared.function.Role.TheVariants.{Test, Trial, Position, Coefficient}
use Rattle.monos.specs.declared.layout.CoefPlace.{CoefPlace}
use Rattle.monos.specs.declared.layout.Layout.{Layout}
use Rattle.monos.specs.declared.mono.Atom.{Atom}
use Rattle.monos.specs.Monomial.{directions, derivative_count}
use Rattle.monos.specs.Layout.{AreRising, AreInOrder, ArePartsOn, MayBeOn, IsLawfulLayout, HasPlace, value_count, place_of, place_parts, parts_or_none, role_parts, position_parts, line, line_layout}

pub directions_count : (a : Atom) → length (directions a) ≡ derivative_count a
directions_count a = grind (arith, length-append, length-replicate)

none_some : {A : Type 0} (x : A) → None ≡ Some x → ⊥
none_some x e = grind arith

some_is : {A : Type 0} (x y : A) → Some x ≡ Some y → x ≡ y
some_is x y e = cc

-- ---- the place of a coefficient: the first one, or one of the others
within_step : (at more : ℕ) (x c : CoefPlace) (b : Bool) (o : Option CoefPlace) → x.offset ≡ at
    → (o ≡ Some c → (at + x.parts.local ≤ c.offset) × (c.offset + c.parts.local ≤ at + x.parts.local + more))
    → (if b then Some x else o) ≡ Some c → (at ≤ c.offset) × (c.offset + c.parts.local ≤ at + (x.parts.local + more))
within_step at more x c true o s k e =
    let q = some_is x c e in
    (subst (λ y. at ≤ y.offset) q (omega (arith, s)), subst (λ y. y.offset + y.parts.local ≤ at + (x.parts.local + more)) q (omega (arith, s)))
within_step at more x c false o s k e = let r = k e in let i = r.0 in let j = r.1 in (omega (arith, i), omega (arith, j))

-- it begins at `at` or behind, and ends by the end
pub place_within : (at n : ℕ) (cs : List CoefPlace) → AreInOrder at cs → (c : CoefPlace) → place_of cs n ≡ Some c → (at ≤ c.offset) × (c.offset + c.parts.local ≤ at + value_count cs)
place_within at n [] h c e = absurd (none_some c e)
place_within at n (x ∷ xs) h c e = within_step at (value_count xs) x c (x.number == n) (place_of xs n) h.0 (place_within (at + x.parts.local) n xs h.1 c) e

from_step : (low n : ℕ) (x c : CoefPlace) (b : Bool) (o : Option CoefPlace) → (x.number == n) ≡ b → low ≤ x.number → (o ≡ Some c → x.number + 1 ≤ n)
    → (if b then Some x else o) ≡ Some c → low ≤ n
from_step low n x c true o t s k e = let q = eqb-true x.number n t in omega (arith, s, q)
from_step low n x c false o t s k e = let r = k e in omega (arith, s, r)

-- the numbers from `low` on alone have a place
pub place_from : (low n : ℕ) (cs : List CoefPlace) → AreRising low cs → (c : CoefPlace) → place_of cs n ≡ Some c → low ≤ n
place_from low n [] h c e = absurd (none_some c e)
place_from low n (x ∷ xs) h c e = from_step low n x c (x.number == n) (place_of xs n) refl h.0 (place_from (x.number + 1) n xs h.1 c) e

apart_step : (m n : ℕ) (x c e : CoefPlace) (b d : Bool) (o p : Option CoefPlace) → (x.number == m) ≡ b → (x.number == n) ≡ d → m < n
    → (p ≡ Some e → x.offset + x.parts.local ≤ e.offset) → (o ≡ Some c → x.number + 1 ≤ m) → (o ≡ Some c → p ≡ Some e → c.offset + c.parts.local ≤ e.offset)
    → (if b then Some x else o) ≡ Some c → (if d then Some x else p) ≡ Some e → c.offset + c.parts.local ≤ e.offset
apart_step m n x c e true false o p t u l f g k h i = subst (λ y. y.offset + y.parts.local ≤ e.offset) (some_is x c h) (f i)
apart_step m n x c e true true o p t u l f g k h i = absurd (let j = eqb-true x.number m t in let r = eqb-true x.number n u in omega (arith, j, r, l))
apart_step m n x c e false true o p t u l f g k h i = absurd (let j = g h in let r = eqb-true x.number n u in omega (arith, j, r, l))
apart_step m n x c e false false o p t u l f g k h i = k h i

pub places_apart : (low at m n : ℕ) (cs : List CoefPlace) → AreRising low cs → AreInOrder at cs → m < n → (c e : CoefPlace)
    → place_of cs m ≡ Some c → place_of cs n ≡ Some e → c.offset + c.parts.local ≤ e.offset
places_apart low at m n [] r o l c e g f = absurd (none_some c g)
places_apart low at m n (x ∷ xs) r o l c e g f =
    apart_step m n x c e (x.number == m) (x.number == n) (place_of xs m) (place_of xs n) refl refl l
    (λ h. let i = (place_within (at + x.parts.local) n xs o.1 e h).0 in let q = o.0 in omega (arith, q, i))
    (place_from (x.number + 1) m xs r.1 c)
    (places_apart (x.number + 1) (at + x.parts.local) m n xs r.1 o.1 l c e)
    g f

-- ---- the values of a part are a piece of those of its element
pub part_within : (at : ℕ) (ss : List Scalar) (i : ℕ) (p : Part) → slice_get (placed at ss) i ≡ Some p → p.offset + p.nodes ≤ at + local_size ss
part_within at [] zero p e = absurd (none_some p e)
part_within at [] (suc i) p e = absurd (none_some p e)
part_within at (s ∷ ss) zero p e = subst (λ q. q.offset + q.nodes ≤ at + (s.nodes + local_size ss)) (some_is (part_at at s) p e) (omega arith)
part_within at (s ∷ ss) (suc i) p e = let r = part_within (at + s.nodes) ss i p e in omega (arith, r)

pub laid_part : (ss : List Scalar) (ps : Parts) → ps ≡ laid_out ss → (i : ℕ) (p : Part) → slice_get ps.items i ≡ Some p → p.offset + p.nodes ≤ ps.local
laid_part ss ps h i p = subst (λ q. slice_get q.items i ≡ Some p → p.offset + p.nodes ≤ q.local) (sym h) (λ g. let r = part_within 0 ss i p g in omega (arith, r))

pub parts_within : (c : Cell) (ps : Parts) → MayBeOn c ps → (i : ℕ) (p : Part) → slice_get ps.items i ≡ Some p → p.offset + p.nodes ≤ ps.local
parts_within c ps (inl h) i p e = laid_part (scalars h.element) ps h.parts i p e
parts_within c ps (inr h) i p e = laid_part [] ps h i p e

pub placed_by_parts : (l : Layout) (r : Role) → 0 < length (role_parts l r) → HasPlace l r
placed_by_parts l Test h = h
placed_by_parts l Trial h = h
placed_by_parts l Position h = go l.position refl h
  where
    go : (o : Option Parts) → l.position ≡ o → 0 < length (parts_or_none o) → (ps : Parts) × (l.position ≡ Some ps)
    go None e g = absurd (omega (arith, g))
    go (Some ps) e g = (ps, e)
placed_by_parts l (Coefficient n) h = go (place_of l.coefs n) refl h
  where
    go : (o : Option CoefPlace) → place_of l.coefs n ≡ o → 0 < length (place_parts o) → (c : CoefPlace) × (place_of l.coefs n ≡ Some c)
    go None e g = absurd (omega (arith, g))
    go (Some c) e g = (c, e)

pub position_components : (c : Cell) → length (position_parts c).items ≡ dimension c
position_components Interval = refl
position_components Triangle = refl
position_components Tetrahedron = refl

pub position_values : (c : Cell) → (position_parts c).local ≡ dimension c * (dimension c + 1)
position_values Interval = refl
position_values Triangle = refl
position_values Tetrahedron = refl

pub lawful_within : (l : Layout) → IsLawfulLayout l → (n : ℕ) (c : CoefPlace) → place_of l.coefs n ≡ Some c → c.offset + c.parts.local ≤ value_count l.coefs
lawful_within l h n c e = let r = (place_within 0 n l.coefs (h.1).in_order c e).1 in omega (arith, r)

pub lawful_apart : (l : Layout) → IsLawfulLayout l → (m n : ℕ) → m < n → (c e : CoefPlace) → place_of l.coefs m ≡ Some c → place_of l.coefs n ≡ Some e
    → c.offset + c.parts.local ≤ e.offset
lawful_apart l h m n k c e f g = places_apart 0 0 m n l.coefs (h.1).rising (h.1).in_order k c e f g

-- ---- the worked layout
line_on : ArePartsOn Interval line
line_on = record { element = scalar Lagrange Interval 1; lawful = refl; cell = refl; parts = refl }

pub line_lawful : IsLawfulLayout (line_layout 2)
line_lawful = (
  Interval,
  record {
    dimension = refl;
    rows = inl line_on;
    cols = inr refl;
    coefs = (inl line_on, (inl line_on, tt));
    rising = (omega arith, (omega arith, tt));
    in_order = (refl, (refl, tt));
    few = omega arith;
    position = refl;
  },
)

pub line_only : (n : ℕ) → IsLawfulLayout (line_layout n) → n ≡ 2
line_only n h = (h.1).in_order.1.0
