-- The names of the cells, and the words of a header
use Rattle.std.proofs.Common.{◌≡◌, ℕ, Bool, true, false, List, [], ◌∷◌, Option, Some, None, refl, sym, ap, ◌∙◌}
use Rattle.std.specs.Prelude.{◌≢◌, IfSome, IfNone, codes}
use Rattle.std.specs.Bool.{Decides}
use Rattle.std.specs.Str.{bytes_eq}
use Rattle.std.proofs.lemmas.Slice.Eq.{bytes_eq-Decides}
use Rattle.spaces.specs.Cell.{cell_name}
use Rattle.spaces.specs.declared.cell.Cell.{Cell}
use Rattle.spaces.specs.declared.cell.Cell.TheVariants.{Interval, Triangle, Tetrahedron}
use Rattle.mesh_in.specs.declared.header.Header.{Header}
use Rattle.mesh_in.specs.declared.header.Version.{Version}
use Rattle.mesh_in.specs.Line.{is_some_word}
use Rattle.mesh_in.specs.MeshText.{keyword, one, version_named, cell_named, at_end, header_of}
use Rattle.mesh_in.specs.Number.{number_of}

pub named_again : (cell : Cell) → cell_named (cell_name cell) ≡ Some cell
named_again Interval = refl
named_again Triangle = refl
named_again Tetrahedron = refl

test_fails : (P : Type 0) (b : Bool) → Decides b P → (P → ⊥) → b ≡ false
test_fails P true h other = absurd (other (h.0 refl))
test_fails P false h other = refl

pub other_bytes : (xs ys : List ℕ) → xs ≢ ys → bytes_eq xs ys ≡ false
other_bytes xs ys other = test_fails (xs ≡ ys) (bytes_eq xs ys) (bytes_eq-Decides xs ys) other

pub is_named : (name : List ℕ) (r : Option Cell) → IfSome r (λ cell. name ≡ cell_name cell) → IfNone r ((cell : Cell) → name ≢ cell_name cell) → r ≡ cell_named name
is_named name (Some cell) found none = sym (ap cell_named found ∙ named_again cell)
is_named name None found none =
    rw (other_bytes name (cell_name Interval) (none Interval), other_bytes name (cell_name Triangle) (none Triangle), other_bytes name (cell_name Tetrahedron) (none Tetrahedron)) refl

-- the header of these words, if no word is left
pub header_steps : (ws ws1 ws2 ws3 ws4 ws5 : List (List ℕ)) (version : Version) (kind : Cell) (vertices cells : ℕ) → keyword (codes "mesh") ws ≡ Some ws1 → one version_named ws1 ≡ Some (version, ws2) → one cell_named ws2 ≡ Some (kind, ws3)
    → one number_of ws3 ≡ Some (vertices, ws4) → one number_of ws4 ≡ Some (cells, ws5) → header_of ws ≡ at_end ws5 (record { kind = kind; version = version; vertices = vertices; cells = cells })
unfolding header_of
header_steps ws ws1 ws2 ws3 ws4 ws5 version kind vertices cells mesh is_version is_kind is_vertices is_cells = rw (mesh, is_version, is_kind, is_vertices, is_cells) refl

pub words_left : (ws : List (List ℕ)) (h : Header) → is_some_word ws ≡ true → at_end ws h ≡ None
words_left [] h some = absurd cc
words_left (word ∷ more) h some = refl

pub none_left : (ws : List (List ℕ)) (h : Header) → is_some_word ws ≡ false → at_end ws h ≡ Some h
none_left [] h none = refl
none_left (word ∷ more) h none = absurd cc
