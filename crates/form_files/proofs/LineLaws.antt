-- Lines that are written one behind the other
use Rattle.std.proofs.Common.{◌≡◌, ℕ, ◌+◌, ◌<◌, List, ◌++◌, length, drop, get_or, Result, Ok, Err, refl, sym, ◌∙◌, ap, append_assoc, add-one, drop-cons}
use Rattle.ufl_tree.specs.Places.{Table}
use Rattle.ufl_read.specs.declared.refusal.FormRefusal.{FormRefusal}
use Rattle.ufl_elab.specs.declared.program.Named.{Named}
use Rattle.form_files.specs.declared.admissions.Admitted.{Admitted}
use Rattle.form_files.specs.Admissions.{admission_of}
use Rattle.ufl_program.specs.Names.{name_of}
use Rattle.form_files.specs.Checks.{form_line, behind, line_with, form_lines}

behind_twice : (a b : List ℕ) (r : Result (List ℕ) FormRefusal) → behind (a ++ b) r ≡ behind a (behind b r)
behind_twice a b (Ok lines) = ap Ok (append_assoc a b lines)
behind_twice a b (Err e) = refl

-- the lines from a place on
here : (file : List ℕ) (t : Table) (ns : List Named) (i : ℕ) (d : Named) → i < length ns
    → form_lines file t (drop i ns) ≡ line_with (name_of file (get_or ns i d)) (admission_of t (get_or ns i d)) (form_lines file t (drop (i + 1) ns))
here file t ns i d h = rw (add-one, drop-cons ns i d) refl

pub lines_more : (file : List ℕ) (t : Table) (ns : List Named) (i : ℕ) (n : Named) (a : Admitted) (text more : List ℕ)
    → i < length ns → n ≡ get_or ns i n → form_lines file t ns ≡ behind text (form_lines file t (drop i ns)) → Ok a ≡ admission_of t n
    → more ≡ text ++ form_line (name_of file n) a → form_lines file t ns ≡ behind more (form_lines file t (drop (i + 1) ns))
lines_more file t ns i n a text more h is all e m =
    let rest = form_lines file t (drop (i + 1) ns) in
    let now = here file t ns i n h ∙ ap (λ k. line_with (name_of file k) (admission_of t k) rest) (sym is) in
    all ∙ ap (behind text) (now ∙ ap (λ r. line_with (name_of file n) r rest) (sym e))
    ∙ sym (behind_twice text (form_line (name_of file n) a) rest) ∙ ap (λ x. behind x rest) (sym m)
