-- The markers of a text of version 1
use Rattle.std.proofs.Common.{◌≡◌, ℕ, ◌+◌, List, [], ◌∷◌, length, map, ap, sym, subst, ◌∙◌, arith}
use Rattle.std.specs.List.{AllByRecursion, AllZip}
use Rattle.std.proofs.lemmas.List.{get_or_past}
use Rattle.algebra.specs.Fraction.{Fraction}
use Rattle.spaces.specs.Cell.{dimension}
use Rattle.mesh_in.specs.declared.header.Header.{Header}
use Rattle.mesh_in.specs.declared.header.Version.TheVariants.{Plain}
use Rattle.mesh_in.specs.CellLine.{cell_size, marker_in}
use Rattle.mesh_in.specs.MeshData.{MeshData}
use Rattle.mesh_in.specs.MeshGrammar.{IsNatural, IsRow, IsMeshText, header_for}
use Rattle.mesh_in.specs.Version.{marker_count}
use Rattle.mesh_in.proofs.GrammarLaws.{size_of_row}

no_markers : (h : Header) (ls : List (List (List ℕ))) (numbers : List (List ℕ)) → h.version ≡ Plain → AllZip (IsRow IsNatural (cell_size h)) ls numbers → AllByRecursion (λ marker. marker ≡ 0) (map (marker_in h.kind) numbers)
no_markers h [] [] plain are = tt
no_markers h [] (n ∷ ns) plain are = absurd are
no_markers h (l ∷ ls) [] plain are = absurd are
no_markers h (l ∷ ls) (n ∷ ns) plain are =
    let none : marker_count h.version ≡ 0 = ap marker_count plain in
    let size : length n ≡ cell_size h = size_of_row IsNatural l n are.0.each ∙ are.0.all in
    (get_or_past n (dimension h.kind + 1) 0 (omega (arith, none, size)), no_markers h ls ns plain are.1)

pub plain_markers : (text : List ℕ) (m : MeshData Fraction) (is : IsMeshText text m) → is.version ≡ Plain → AllByRecursion (λ marker. marker ≡ 0) m.markers
plain_markers text m is plain = subst (AllByRecursion (λ marker. marker ≡ 0)) (sym is.markers_are) (no_markers (header_for is.version m) is.opens.cell_lines is.numbers plain is.opens.are_cells)
