use Rattle.std.proofs.Common.{◌≡◌, refl, ◌∙◌, ap, ◌||◌, bytes_eq, Bool, true, false, if◌then◌else◌}
use Rattle.std.specs.Ordering.{is_eq, nat_cmp}
use Rattle.std.specs.Cmp.Lexicographic.{slice_cmp}
use Rattle.std.proofs.lemmas.Map.Text.{is_eq-slice_cmp}
use Rattle.c_text.specs.Names.{has_name}
use Rattle.c_text.proofs.read.take_up.Goals as goal

either : (a b : Bool) → (if a then true else b) ≡ (a || b)
either true b = refl
either false b = refl

pub returns-clause-now : goal.returns-clause-now
returns-clause-now c = λ n.
    (c.in_ok-insert.ensures.updates).0 (record { ref_ptr = (0, 0); now = n })
    ∙ either (is_eq (slice_cmp nat_cmp c.args.name.now n)) (has_name c.args.names.now n)
    ∙ ap (λ b. b || has_name c.args.names.now n) (is_eq-slice_cmp c.args.name.now n)
