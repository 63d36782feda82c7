-- A file of which one byte more than the limit was asked
use Rattle.std.proofs.Common.{◌≡◌, ℕ, ◌+◌, ◌<◌, ◌≤◌, ◌⊎◌, List, Ok, Err, false, length, take, refl, sym, ◌∙◌, ap, arith, subst, inl, inr, ⊎_elim, min, nat_le}
use Rattle.std.proofs.lemmas.List.{length-take, take_all}
use Rattle.std.proofs.lemmas.Bool.{lt-leb}
use Rattle.algebra.specs.Fraction.{Fraction}
use Rattle.mesh_in.specs.MeshText.{meaning, longest}
use Rattle.mesh_in.specs.MeshData.{MeshData}
use Rattle.mesh_in.specs.Refusal.{refusal}
use Rattle.mesh_in.specs.HeaderLine.{IsWrongCell, header_line}
use Rattle.mesh_in.specs.Reader.{Fails}
use Rattle.spaces.specs.declared.cell.Cell.{Cell}
use Rattle.mesh_in.proofs.ReadingLemmas.{long_text}
use Rattle.mesh_in.specs.declared.refusal.MeshKind.{MeshKind}
use Rattle.mesh_in.specs.declared.refusal.MeshKind.TheVariants as kind
use Rattle.mesh_in.specs.declared.refusal.MeshRefusal.{MeshRefusal}
use Rattle.ffc.specs.Inputs.{Loads, IsText, MeshCause}
use Rattle.answers.specs.Outcome.{mesh_outcome, outcome_of_kind}
use Rattle.answers.specs.declared.outcome.Outcome.{Outcome}

-- the extra byte is there
pub too_long : (text bytes : List ℕ) (n : ℕ) → take (n + 1) text ≡ bytes → n < length bytes → n < length text
too_long text bytes n e h = let f : length bytes ≡ min (n + 1) (length text) = ap length (sym e) ∙ length-take (n + 1) text in omega (arith, f)

-- it isn't, so the bytes are the text
pub whole : (text bytes : List ℕ) (n : ℕ) → take (n + 1) text ≡ bytes → length bytes ≤ n → bytes ≡ text
whole text bytes n e h =
    let f : length bytes ≡ min (n + 1) (length text) = ap length (sym e) ∙ length-take (n + 1) text in
    let g : length text ≤ n + 1 = omega (arith, f) in
    sym e ∙ take_all (n + 1) text g

size : (n : ℕ) (xs : List ℕ) → (length xs ≤ n) ⊎ (n < length xs)
size n xs = grind arith

-- a text that is too long has no other meaning
pub same_meaning : (text bytes : List ℕ) → take (longest + 1) text ≡ bytes → meaning bytes ≡ meaning text
unfolding meaning
same_meaning text bytes e =
    ⊎_elim
    (λ (h : length bytes ≤ longest). ap meaning (whole text bytes longest e h))
    (λ (h : longest < length bytes).
    let k : longest < length text = too_long text bytes longest e h in
    let a : nat_le (length bytes) longest ≡ false = lt-leb _ _ h in
    let b : nat_le (length text) longest ≡ false = lt-leb _ _ k in
    rw (a, b) refl)
    (size longest bytes)

-- a text with a mesh is none that is too long
pub mesh_whole : (text bytes : List ℕ) (m : MeshData Fraction) → take (longest + 1) text ≡ bytes → meaning bytes ≡ Ok m → bytes ≡ text
mesh_whole text bytes m e is =
    ⊎_elim
    (λ (h : length bytes ≤ longest). whole text bytes longest e h)
    (λ (h : longest < length bytes). absurd (apart m (refusal kind.TooLong 0) (sym is ∙ long_text bytes h)))
    (size longest bytes)
  where
    apart : (m : MeshData Fraction) (r : MeshRefusal) → Ok m ≡ Err r → ⊥
    apart m r k = cc

by_kind : (l : Loads) (name : List ℕ) (c : Cell) (text : List ℕ) (r : MeshRefusal) (k : MeshKind) → IsText l.content name text → meaning text ≡ Err r → MeshCause l name c (outcome_of_kind k r)
by_kind l name c text r kind.TooLong t e = inr (r, text, refl, t, inl e)
by_kind l name c text r kind.Lex t e = inr (r, text, refl, t, inl e)
by_kind l name c text r kind.Syntax t e = inr (r, text, refl, t, inl e)
by_kind l name c text r kind.Count t e = inr (r, text, refl, t, inl e)
by_kind l name c text r kind.VertexRange t e = inr (r, text, refl, t, inl e)
by_kind l name c text r kind.RepeatedVertex t e = inr (r, text, refl, t, inl e)
by_kind l name c text r kind.WrongCell t e = inr (r, text, refl, t, inl e)
by_kind l name c text r kind.Degenerate t e = inr (r, text, refl, t, inl e)
by_kind l name c text r kind.TooManyEntries t e = inr (r, text, refl, t, inl e)
by_kind l name c text r kind.Memory t e = inl (inl refl)

-- a mesh of other cells
wrong_cell : (c : Cell) (text bytes : List ℕ) (r : MeshRefusal) → take (longest + 1) text ≡ bytes → IsWrongCell c bytes r → IsWrongCell c text r
wrong_cell c text bytes r e (m, is, other, refused) = subst (λ (b : List ℕ). IsWrongCell c b r) (mesh_whole text bytes m e is) (m, is, other, refused)

by_cell : (l : Loads) (name : List ℕ) (c : Cell) (text : List ℕ) (r : MeshRefusal) → IsText l.content name text → IsWrongCell c text r → MeshCause l name c (mesh_outcome r)
by_cell l name c text r t (m, is, other, refused) =
    subst (λ (s : MeshRefusal). MeshCause l name c (mesh_outcome s)) (sym refused) (inr (refusal kind.WrongCell (header_line text), text, refl, t, inr (m, is, other, refl)))

-- a refusal of the text as the outcome
pub mesh_fits : (l : Loads) (name : List ℕ) (c : Cell) (text bytes lent : List ℕ) (r : MeshRefusal) (o : Outcome) → IsText l.content name text → take (longest + 1) text ≡ bytes → lent ≡ bytes
    → Fails r (meaning lent) ⊎ IsWrongCell c lent r → o ≡ mesh_outcome r → MeshCause l name c o
mesh_fits l name c text bytes lent r o t e same (inl (inl memory)) is = subst (MeshCause l name c) (sym is) (subst (λ (s : MeshRefusal). MeshCause l name c (mesh_outcome s)) (sym memory) (inl (inl refl)))
mesh_fits l name c text bytes lent r o t e same (inl (inr refused)) is = subst (MeshCause l name c) (sym is) (by_kind l name c text r r.kind t (sym (ap meaning same ∙ same_meaning text bytes e) ∙ refused))
mesh_fits l name c text bytes lent r o t e same (inr wrong) is =
    subst (MeshCause l name c) (sym is) (by_cell l name c text r t (wrong_cell c text bytes r e (subst (λ (b : List ℕ). IsWrongCell c b r) same wrong)))
