-- The header, and the lines before it
use Rattle.std.proofs.Common.{◌≡◌, ℕ, Bool, true, false, cond, List, [], ◌∷◌, Option, Some, None, refl, ap, subst, ◌∙◌}
use Rattle.std.specs.Prelude.{codes}
use Rattle.std.specs.Str.{bytes_eq}
use Rattle.std.proofs.lemmas.Slice.Eq.{bytes_eq-Decides}
use Rattle.spaces.specs.Cell.{cell_name}
use Rattle.spaces.specs.declared.cell.Cell.{Cell}
use Rattle.spaces.specs.declared.cell.Cell.TheVariants.{Interval, Triangle, Tetrahedron}
use Rattle.mesh_in.specs.declared.header.Header.{Header}
use Rattle.mesh_in.specs.declared.header.Version.{Version}
use Rattle.mesh_in.specs.declared.header.Version.TheVariants.{Plain, Marked}
use Rattle.mesh_in.specs.Number.{number_of}
use Rattle.mesh_in.specs.MeshText.{keyword, one, version_named, cell_named, at_end, header_of}
use Rattle.mesh_in.specs.Version.{version_name}
use Rattle.mesh_in.proofs.HeaderLemmas.{named_again}
use Rattle.mesh_in.proofs.GrammarLaws.{bind_some, some_is}

-- ---- its words

same_bytes : (xs ys : List ℕ) → bytes_eq xs ys ≡ true → xs ≡ ys
same_bytes xs ys e = (bytes_eq-Decides xs ys).0 e

if_some : {A : Type 0} (b : Bool) (o : Option A) (y : A) → cond b o None ≡ Some y → (b ≡ true) × (o ≡ Some y)
if_some true o y e = (refl, e)
if_some false o y e = absurd cc

keyword_is : (name : List ℕ) (ws rest : List (List ℕ)) → keyword name ws ≡ Some rest → ws ≡ name ∷ rest
keyword_is name [] rest e = absurd cc
keyword_is name (w ∷ ws) rest e =
    let p = if_some (bytes_eq w name) (Some ws) rest e in
    ap (λ v. v ∷ ws) (same_bytes w name p.0) ∙ ap (λ vs. name ∷ vs) (some_is ws rest p.1)

one_is : {A : Type 0} (of : List ℕ → Option A) (ws : List (List ℕ)) (r : A × List (List ℕ)) → one of ws ≡ Some r → (w : List ℕ) × (ws ≡ w ∷ r.1) × (of w ≡ Some r.0)
one_is of [] r e = absurd cc
one_is of (w ∷ ws) r e =
    let p = bind_some (of w) (λ x. Some (x, ws)) r e in
    let q = some_is (p.0, ws) r p.2 in
    (w, ap (λ (r : _ × List (List ℕ)). w ∷ r.1) q, p.1 ∙ ap (λ (r : _ × List (List ℕ)). Some r.0) q)

end_is : {A : Type 0} (ws : List (List ℕ)) (x y : A) → at_end ws x ≡ Some y → (ws ≡ []) × (x ≡ y)
end_is [] x y e = (refl, some_is x y e)
end_is (w ∷ ws) x y e = absurd cc

named_by : (word : List ℕ) (cell : Cell) (interval triangle tetrahedron : Bool) → bytes_eq word (cell_name Interval) ≡ interval → bytes_eq word (cell_name Triangle) ≡ triangle → bytes_eq word (cell_name Tetrahedron) ≡ tetrahedron
    → cond interval (Some Interval) (cond triangle (Some Triangle) (cond tetrahedron (Some Tetrahedron) None)) ≡ Some cell → word ≡ cell_name cell
named_by word cell true b c is_interval is_triangle is_tetrahedron e = same_bytes word (cell_name Interval) is_interval ∙ ap cell_name (some_is Interval cell e)
named_by word cell false true c is_interval is_triangle is_tetrahedron e = same_bytes word (cell_name Triangle) is_triangle ∙ ap cell_name (some_is Triangle cell e)
named_by word cell false false true is_interval is_triangle is_tetrahedron e = same_bytes word (cell_name Tetrahedron) is_tetrahedron ∙ ap cell_name (some_is Tetrahedron cell e)
named_by word cell false false false is_interval is_triangle is_tetrahedron e = absurd cc

name_is : (word : List ℕ) (cell : Cell) → cell_named word ≡ Some cell → word ≡ cell_name cell
name_is word cell e = named_by word cell (bytes_eq word (cell_name Interval)) (bytes_eq word (cell_name Triangle)) (bytes_eq word (cell_name Tetrahedron)) refl refl refl e

version_by : (word : List ℕ) (version : Version) (plain marked : Bool) → bytes_eq word (version_name Plain) ≡ plain → bytes_eq word (version_name Marked) ≡ marked
    → cond plain (Some Plain) (cond marked (Some Marked) None) ≡ Some version → word ≡ version_name version
version_by word version true b is_plain is_marked e = same_bytes word (version_name Plain) is_plain ∙ ap version_name (some_is Plain version e)
version_by word version false true is_plain is_marked e = same_bytes word (version_name Marked) is_marked ∙ ap version_name (some_is Marked version e)
version_by word version false false is_plain is_marked e = absurd cc

version_is : (word : List ℕ) (version : Version) → version_named word ≡ Some version → word ≡ version_name version
version_is word version e = version_by word version (bytes_eq word (version_name Plain)) (bytes_eq word (version_name Marked)) refl refl e

version_again : (version : Version) → version_named (version_name version) ≡ Some version
version_again Plain = refl
version_again Marked = refl

-- what a line that is a header says
pub record HasHeaderWords (ws : List (List ℕ)) (h : Header) : Type 0 where
  pub vertices : List ℕ
  pub cells : List ℕ
  pub words_are : ws ≡ codes "mesh" ∷ (version_name h.version ∷ (cell_name h.kind ∷ (vertices ∷ (cells ∷ []))))
  pub all_vertices : number_of vertices ≡ Some h.vertices
  pub all_cells : number_of cells ≡ Some h.cells

pub header_is : (ws : List (List ℕ)) (h : Header) → header_of ws ≡ Some h → HasHeaderWords ws h
unfolding header_of
header_is ws h e =
    let mesh = bind_some (keyword (codes "mesh") ws) _ h e in
    let version = bind_some (one version_named mesh.0) _ h mesh.2 in
    let kind = bind_some (one cell_named version.0.1) _ h version.2 in
    let vertices = bind_some (one number_of kind.0.1) _ h kind.2 in
    let cells = bind_some (one number_of vertices.0.1) _ h vertices.2 in
    let n = one_is version_named mesh.0 version.0 version.1 in
    let k = one_is cell_named version.0.1 kind.0 kind.1 in
    let v = one_is number_of kind.0.1 vertices.0 vertices.1 in
    let c = one_is number_of vertices.0.1 cells.0 cells.1 in
    let end = end_is cells.0.1 (let r : Header = record { kind = kind.0.0; version = version.0.0; vertices = vertices.0.0; cells = cells.0.0 } in r) h cells.2 in
    subst (λ h. HasHeaderWords ws h) end.1 (record {
      vertices = v.0;
      cells = c.0;
      words_are = keyword_is (codes "mesh") ws mesh.0 mesh.1
          ∙ ap (λ vs. codes "mesh" ∷ vs) (n.1 ∙ ap (λ name. name ∷ version.0.1) (version_is n.0 version.0.0 n.2)
          ∙ ap (λ vs. version_name version.0.0 ∷ vs) (k.1 ∙ ap (λ name. name ∷ kind.0.1) (name_is k.0 kind.0.0 k.2)
          ∙ ap (λ vs. cell_name kind.0.0 ∷ vs) (v.1 ∙ ap (λ vs. v.0 ∷ vs) (c.1 ∙ ap (λ vs. c.0 ∷ vs) end.0))));
      all_vertices = v.2;
      all_cells = c.2;
    })

pub header_again : (ws : List (List ℕ)) (h : Header) → HasHeaderWords ws h → header_of ws ≡ Some h
unfolding header_of
header_again ws h p = rw (p.words_are, version_again h.version, named_again h.kind, p.all_vertices, p.all_cells) refl
