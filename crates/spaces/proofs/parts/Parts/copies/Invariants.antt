use Rattle.std.proofs.Common.{◌≡◌, ◌-◌, ◌≤◌, ◌*◌, [], ◌∷◌}
use Rattle.spaces.specs.Scalar.{scalar_of, appended, laid_out, repeated}
use Rattle.spaces.proofs.parts.Parts.copies.Given as goal

abbrev pub invariant-loop-i : goal.invariant-loop-i
invariant-loop-i l =
    (appended l.parts (repeated (l.copies - l._i) (scalar_of l.part ∷ [])) ≡ laid_out (repeated l.copies (scalar_of l.part ∷ [])))
    × (l.parts.local ≤ 255 * l._i)
