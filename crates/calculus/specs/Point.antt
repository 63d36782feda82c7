-- A point of space, of the plane or of the line: coordinates that are not used don't matter

pub record Point (R : Type 0) : Type 0 where
  pub x : R
  pub y : R
  pub z : R
