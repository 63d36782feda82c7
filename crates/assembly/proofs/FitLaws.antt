-- Maps and the parts of a layout fit where they are of one element
use Rattle.std.proofs.Common.{◌≡◌, ℕ, zero, suc, ◌<◌, ◌*◌, List, [], ◌∷◌, Some, length, sym, ap, ◌∙◌, subst, arith, refl, ap₂}
use Rattle.std.specs.List.{All, AllByRecursion}
use Rattle.spaces.specs.declared.parts.Parts.{Parts}
use Rattle.spaces.specs.Scalar.{Scalar, laid_out, local_size}
use Rattle.dofs.specs.Rows.{Numbering}
use Rattle.ratio.specs.declared.reduced.Ratio.{Ratio}
use Rattle.mesh_in.specs.MeshData.{MeshData}
use Rattle.monos.specs.declared.layout.Layout.{Layout}
use Rattle.assembly.specs.Assembly.{width_of, entry_count, IsMapOf, AreRising, Fits, assembly_of}
use Rattle.assembly.specs.declared.funs.Funs.{Funs}
use Rattle.assembly.specs.declared.funs.MarkedFun.{MarkedFun}

each : {X : Type 0} (P : X → Type 0) (xs : List X) → All P xs → AllByRecursion P xs
each P [] a = tt
each P (x ∷ xs) a = (a zero x (omega arith), each P xs (λ k d h. a (suc k) d (omega arith)))

laid_width : (ss : List Scalar) → 0 < length ss → width_of (laid_out ss) ≡ local_size ss
laid_width [] h = absurd (omega arith)
laid_width (s ∷ ss) h = refl

pub width_is : (ps : Parts) (ss : List Scalar) → ps ≡ laid_out ss → 0 < length ss → width_of ps ≡ local_size ss
width_is ps ss e h = ap width_of e ∙ laid_width ss h

pub map_fits : (ps : Parts) (ss : List Scalar) (n : Numbering) (cells : ℕ) → ps ≡ laid_out ss → 0 < length ss → length n.cells ≡ cells
    → All (λ (rows : List ℕ). length rows ≡ local_size ss) n.cells → IsMapOf cells (width_of ps) (Some n)
map_fits ps ss n cells e h l a =
    (l, subst (λ w. AllByRecursion (λ (rows : List ℕ). length rows ≡ w) n.cells) (sym (width_is ps ss e h)) (each (λ (rows : List ℕ). length rows ≡ local_size ss) n.cells a))

-- without coefficients and markers, and with one element of w local nodes for both arguments
pub fits_by_number : (l : Layout) (f : Funs) (m : MeshData Ratio) (n : Numbering) (ss : List Scalar) (w : ℕ) → l.rows ≡ laid_out ss → l.cols ≡ laid_out ss → 0 < length ss → l.rows.local ≡ w
    → f.plain.a ≡ w * w → f.marked.items ≡ [] → length n.cells ≡ length m.cells → All (λ (rows : List ℕ). length rows ≡ local_size ss) n.cells
    → Fits l (assembly_of f m (Some n) (Some n) [])
fits_by_number l f m n ss w rows cols h local size none cells each_local =
    let same : w ≡ local_size ss = sym local ∙ ap (λ (ps : Parts). ps.local) rows in
    record {
      runs = record {
        plain = size ∙ ap₂ (λ a b. a * b) (same ∙ sym (width_is l.rows ss rows h)) (same ∙ sym (width_is l.cols ss cols h));
        marked = subst (AllByRecursion (λ (k : MarkedFun). k.fun.a ≡ entry_count l)) (sym none) tt;
        rising = subst AreRising (sym none) tt;
        coefs = tt;
      };
      rows = map_fits l.rows ss n (length m.cells) rows h cells each_local;
      cols = map_fits l.cols ss n (length m.cells) cols h cells each_local;
    }
