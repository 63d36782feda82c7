-- The part of a scalar element
use Rattle.std.specs.Prelude.{◌≡◌, ◌≤◌, true, false, Option, Some, None, [], ◌∷◌}
use Rattle.spaces.specs.Space.{Space, is_scalar, scalars}
use Rattle.spaces.specs.Scalar.{scalar_of}
use Rattle.spaces.specs.declared.parts.Part.{Part}

abbrev pub SingleOf : Space → Option Part → Type 0
SingleOf s None = is_scalar s ≡ false
SingleOf s (Some p) = (is_scalar s ≡ true) × (scalars s ≡ scalar_of p ∷ []) × (p.nodes ≤ 20)
