-- The parts of a sum of monomials in an entry, counted by the sum's weight
use Rattle.std.proofs.Common.{ℕ, ◌+◌, ◌*◌, ◌^◌, ◌≤◌, List, [], ◌∷◌, map, sym, subst}
use Rattle.std.specs.List.{AllByRecursion}
use native.Mathlib.Nat as N
use Rattle.algebra.specs.Fraction.{Fraction}
use Rattle.calculus.specs.Simplex.{Simplex}
use Rattle.monos.specs.declared.layout.Layout.{Layout}
use Rattle.monos.specs.declared.weight.Weight.{Weight}
use Rattle.monos.specs.Monomial.{Monomial}
use Rattle.refint.specs.Reference.{items}
use Rattle.weigh.specs.Lists.{HasWeight, spread, load, loads}
use Rattle.weigh.specs.Numerators.{size_over}
use Rattle.weigh.specs.Refusals.{lcd}
use Rattle.room.specs.Numbered.{AllOver}
use Rattle.room.specs.Rows.{IsCounted, AreCounted, none, more, item_unit, entry_part}
use Rattle.room.proofs.PartLaws.{directions_long}
use Rattle.monomial_weights.specs.Weighed.{cost_at, item_bound}
use Rattle.monomial_weights.proofs.ColumnLaws.{items_counted, few_columns}

module _ (l : Layout) (w : Weight) (v : Simplex) (values : List Fraction) (a b : ℕ) where
  part_counted : (m : Monomial) → AllOver (lcd l.d w) (item_bound l.d w m) (items l m a b)
      → IsCounted w l.d (size_over w.den m.c) (spread (cost_at l) l.d m) (entry_part l v values a b m)
  part_counted m o = record {
    items = subst (λ r. AllOver (lcd l.d w) (item_unit l.d w * (size_over w.den m.c * 3 ^ r)) (items l m a b)) (sym (directions_long m.atoms)) o;
    columns = subst (λ n. n ≤ spread (cost_at l) l.d m) (sym (items_counted l m a b)) (few_columns l m.atoms);
  }

  loads_counted : (ms : List Monomial) → AllByRecursion (λ m. AllOver (lcd l.d w) (item_bound l.d w m) (items l m a b)) ms
      → (total : ℕ) → loads (cost_at l) l.d w.den ms ≤ total → AreCounted w l.d (map (entry_part l v values a b) ms) total
  loads_counted [] o total h = none
  loads_counted (m ∷ ms) o total h =
      more (part_counted m o.0) (loads_counted ms o.1 (loads (cost_at l) l.d w.den ms) (N.le_refl (loads (cost_at l) l.d w.den ms)))
      (subst (λ r. loads (cost_at l) l.d w.den ms + size_over w.den m.c * 3 ^ r * spread (cost_at l) l.d m ≤ total) (sym (directions_long m.atoms))
      (subst (λ n. n ≤ total) (N.add_comm (load (cost_at l) l.d w.den m) (loads (cost_at l) l.d w.den ms)) h))

pub parts_counted : (l : Layout) (w : Weight) (ms : List Monomial) → HasWeight (cost_at l) l.d w ms → (v : Simplex) (values : List Fraction) (a b : ℕ)
    → AllByRecursion (λ m. AllOver (lcd l.d w) (item_bound l.d w m) (items l m a b)) ms
    → AreCounted w l.d (map (entry_part l v values a b) ms) (w.cost * w.num)
parts_counted l w ms h v values a b o = loads_counted l w v values a b ms o (w.cost * w.num) h.total
