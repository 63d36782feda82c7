-- Bytes that are put one piece after the other
use Rattle.std.proofs.Common.{◌≡◌, ℕ, ◌+◌, List, ◌++◌, Option, Some, None, length, take, refl, sym, ◌∙◌, ap, arith, append_assoc, length-append, ◌<◌, get_or, drop, add-one, drop-cons, subst}
use Rattle.std.specs.List.{flat_map}
use Rattle.std.proofs.Math.Seq.{take-append-add}
use Rattle.std.proofs.lemmas.List.{take-append-le}
use Rattle.ends.specs.Told.{appended, TakesPrefix}
use Rattle.answers.specs.Lines.{PutsAfter, part_text}
use Rattle.answers.specs.declared.lines.Part.{Part}

pub appended_twice : (told : Option (List ℕ)) (a b : List ℕ) → appended (appended told a) b ≡ appended told (a ++ b)
appended_twice None a b = refl
appended_twice (Some x) a b = ap Some (append_assoc x a b)

-- one more piece
pub puts_more : (start now new : Option (List ℕ)) (f g h : ℕ) (line piece rest : List ℕ) → PutsAfter start now f g line (piece ++ rest) → new ≡ appended now piece → h ≡ g → PutsAfter start new f h line rest
puts_more start now new f g h line piece rest (front, is, told, same) e k =
    (front ++ piece, is ∙ sym (append_assoc front piece rest), e ∙ ap (λ o. appended o piece) told ∙ appended_twice start front piece, k ∙ same)

-- a piece of which a prefix was put
pub puts_part : (start now new : Option (List ℕ)) (f g : ℕ) (line piece rest : List ℕ) → PutsAfter start now f g line (piece ++ rest) → TakesPrefix now new piece → TakesPrefix start new line
puts_part start now new f g line piece rest (front, is, told, same) (n, short, e) =
    let size : length line ≡ length front + length (piece ++ rest) = ap length is ∙ length-append front (piece ++ rest) in
    let size_2 : length (piece ++ rest) ≡ length piece + length rest = length-append piece rest in
    let cut : take (length front + n) line ≡ front ++ take n piece =
    ap (λ l. take (length front + n) l) is ∙ take-append-add front (piece ++ rest) n ∙ ap (λ l. front ++ l) (take-append-le n piece rest short) in
    (length front + n, omega (arith, size, size_2, short), e ∙ ap (λ o. appended o (take n piece)) told ∙ appended_twice start front (take n piece) ∙ ap (appended start) (sym cut))

here : (parts : List Part) (i : ℕ) (d : Part) → i < length parts → flat_map part_text (drop i parts) ≡ part_text (get_or parts i d) ++ flat_map part_text (drop (i + 1) parts)
here parts i d h = rw (add-one, drop-cons parts i d) refl

pub parts_more : (start now new : Option (List ℕ)) (f g h : ℕ) (parts : List Part) (i : ℕ) (d : Part) → i < length parts
    → PutsAfter start now f g (flat_map part_text parts) (flat_map part_text (drop i parts)) → new ≡ appended now (part_text (get_or parts i d)) → h ≡ g
    → PutsAfter start new f h (flat_map part_text parts) (flat_map part_text (drop (i + 1) parts))
parts_more start now new f g h parts i d p puts e k =
    let P : List ℕ → Type 0 = λ rest. PutsAfter start now f g (flat_map part_text parts) rest in
    puts_more start now new f g h (flat_map part_text parts) (part_text (get_or parts i d)) _ (subst P (here parts i d p) puts) e k

pub parts_prefix : (start now new : Option (List ℕ)) (f g : ℕ) (parts : List Part) (i : ℕ) (d : Part) → i < length parts
    → PutsAfter start now f g (flat_map part_text parts) (flat_map part_text (drop i parts)) → TakesPrefix now new (part_text (get_or parts i d))
    → TakesPrefix start new (flat_map part_text parts)
parts_prefix start now new f g parts i d p puts t =
    let P : List ℕ → Type 0 = λ rest. PutsAfter start now f g (flat_map part_text parts) rest in
    puts_part start now new f g (flat_map part_text parts) (part_text (get_or parts i d)) (flat_map part_text (drop (i + 1) parts)) (subst P (here parts i d p) puts) t
