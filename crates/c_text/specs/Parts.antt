-- What the parts of a printed text stand for
use Rattle.std.specs.Prelude.{ℕ, List, [], ◌∷◌, ◌++◌, codes, decimal, ℤ, if◌then◌else◌}
use Rattle.algebra.specs.Sign.{is_negative}
use Rattle.c_unit.specs.declared.unit.Array.{Array}
use Rattle.c_unit.specs.declared.unit.Place.{Place}
use Rattle.c_unit.specs.declared.unit.Slot.{Slot}
use Rattle.c_text.specs.declared.print.Part.{Part}
use Rattle.c_text.specs.Pieces.{text_of, bytes_of}
use Rattle.c_text.specs.Layout.{slot_pieces, place_pieces, value_pieces, indent, array_name}

abbrev pub part_bytes : Part → List ℕ
part_bytes (Part.Text s) = s.now
part_bytes (Part.Number n) = decimal n
part_bytes (Part.Slot s) = text_of (slot_pieces s)
part_bytes (Part.Place p) = text_of (place_pieces p)
part_bytes (Part.Fraction v) = text_of (value_pieces v)
part_bytes (Part.Indent d) = bytes_of (indent d)

abbrev pub parts_bytes : List Part → List ℕ
parts_bytes [] = []
parts_bytes (p ∷ ps) = part_bytes p ++ parts_bytes ps

abbrev pub opening : Array → List ℕ
opening a = codes "&" ++ (array_name a ++ codes "[")

abbrev pub half_bytes : ℕ → List ℕ
half_bytes n = codes ", " ++ (decimal n ++ codes "u")

abbrev pub sign_bytes : ℤ → List ℕ
sign_bytes n = if is_negative n then codes "1" else codes "0"

-- the lines of statements

abbrev pub call_bytes : ℕ → List ℕ → Place → List ℕ → List ℕ
call_bytes depth name to argument = bytes_of (indent depth) ++ (name ++ (codes "(" ++ (text_of (place_pieces to) ++ (codes ", " ++ (argument ++ codes ");\n")))))

abbrev pub test_bytes : ℕ → List ℕ → Place → Place → Place → List ℕ
test_bytes depth name to left right =
    bytes_of (indent depth) ++ (codes "if (" ++ (name ++ (codes "(" ++ (text_of (place_pieces to) ++ (codes ", " ++ (text_of (place_pieces left) ++ (codes ", " ++ (text_of (place_pieces right) ++ codes ")) return 1;\n"))))))))

abbrev pub header_bytes : ℕ → ℕ → List ℕ
header_bytes depth turns =
    bytes_of (indent depth) ++ (codes "for (int i" ++ (decimal depth ++ (codes " = 0; i" ++ (decimal depth ++ (codes " < " ++ (decimal turns ++ (codes "; i" ++ (decimal depth ++ codes "++) {\n"))))))))

abbrev pub inverse_bytes : ℕ → Place → Place → List ℕ
inverse_bytes depth to arg = bytes_of (indent depth) ++ (codes "if (fr_inv(" ++ (text_of (place_pieces to) ++ (codes ", " ++ (text_of (place_pieces arg) ++ codes ")) return 2;\n"))))

abbrev pub load_bytes : ℕ → Place → ℕ → Slot → List ℕ
load_bytes depth to table at = bytes_of (indent depth) ++ (codes "fr_load(" ++ (text_of (place_pieces to) ++ (codes ", &K" ++ (decimal table ++ (codes "[" ++ (text_of (slot_pieces at) ++ codes "]);\n"))))))
