-- Loops over lists, by what is left of them
use Rattle.std.proofs.Common.{◌≡◌, ℕ, ◌+◌, ◌<◌, List, [], ◌∷◌, ◌++◌, length, drop, get_or, refl, sym, ap, ◌∙◌, add-one, drop-cons, append_assoc, arith}
use Rattle.c_unit.specs.declared.unit.CStmt.{CStmt}
use Rattle.c_unit.specs.Meaning.{written, written_list}

first_of : {A : Type 0} (xs : List A) (i : ℕ) (d : A) → i < length xs → drop i xs ≡ get_or xs i d ∷ drop (i + 1) xs
first_of xs i d h = rw (add-one, drop-cons xs i d) refl

-- an item that is there comes next
pub drop_here : {A : Type 0} (xs : List A) (i : ℕ) (x : A) → i < length xs → x ≡ get_or xs i x → drop i xs ≡ x ∷ drop (i + 1) xs
drop_here xs i x h e = first_of xs i x h ∙ ap (λ y. y ∷ drop (i + 1) xs) (sym e)

-- what is written and what is left is all: one piece more
pub piece_more : {A : Type 0} (base piece new left old_left whole : List A) → new ≡ base ++ piece → old_left ≡ piece ++ left → base ++ old_left ≡ whole → new ++ left ≡ whole
piece_more base piece new left old_left whole e f h = ap (λ l. l ++ left) e ∙ append_assoc base piece left ∙ ap (λ l. base ++ l) (sym f) ∙ h

-- three pieces
pub three_pieces : {A : Type 0} (a b c s x y z : List A) → x ≡ s ++ a → y ≡ x ++ b → z ≡ y ++ c → z ≡ s ++ (a ++ (b ++ c))
three_pieces a b c s x y z e f g =
    g ∙ ap (λ l. l ++ c) (f ∙ ap (λ l. l ++ b) e) ∙ append_assoc (s ++ a) b c ∙ append_assoc s a (b ++ c)

pub written_append : (cs ds : List CStmt) → written_list (cs ++ ds) ≡ written_list cs + written_list ds
written_append [] ds = none (written_list ds)
  where
    none : (n : ℕ) → n ≡ 0 + n
    none n = omega arith
written_append (c ∷ cs) ds = ap (λ n. written c + n) (written_append cs ds) ∙ moved (written c) (written_list cs) (written_list ds)
  where
    moved : (a b c : ℕ) → a + (b + c) ≡ a + b + c
    moved a b c = omega arith
