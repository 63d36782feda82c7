-- When the parts of a result fit, by the parts of what it is made from
use Rattle.std.specs.Prelude.{ℕ, ℤ, pos, ◌<◌, ◌^◌, ◌/◌, ◌*◌, ◌*ℤ◌, ◌+ℤ◌, unsigned_abs}
use Rattle.algebra.specs.Gcd.{gcd}

-- the reduced form of top over bottom is within 127 bits
abbrev pub Fits : ℕ → ℕ → Type 0
Fits top bottom = (top / gcd top bottom < 2 ^ 127) × (bottom / gcd top bottom < 2 ^ 127)

-- neither product, nor their sum, nor the reduced sum passes 127 bits
abbrev pub SumFits : ℤ → ℕ → ℤ → ℕ → Type 0
SumFits n d m e =
    (unsigned_abs (n *ℤ pos (e / gcd d e)) < 2 ^ 127)
    × (unsigned_abs (m *ℤ pos (d / gcd d e)) < 2 ^ 127)
    × (unsigned_abs (n *ℤ pos (e / gcd d e) +ℤ m *ℤ pos (d / gcd d e)) < 2 ^ 127)
    × Fits (unsigned_abs (n *ℤ pos e +ℤ m *ℤ pos d)) (d * e)
