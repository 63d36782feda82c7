-- Which forms are admitted, with which weight
use Rattle.std.specs.Prelude.{ℕ, Bool, true, false, ◌&&◌, ◌||◌, if◌then◌else◌, Option, None, Some, Result, Ok, Err}
use Rattle.ufl_tree.specs.declared.function.Role.TheVariants.{Test, Trial}
use Rattle.ufl_tree.specs.Places.{Table}
use Rattle.ufl_tree.specs.FormTerm.{FormTerm}
use Rattle.ufl_form.specs.declared.pattern_set.Numbers.{Numbers}
use Rattle.ufl_form.specs.declared.pattern_set.PatternSet.{PatternSet}
use Rattle.ufl_form.specs.Patterns.{only_pair, of_role, product}
use Rattle.ufl_form.specs.Table.{form_patterns}
use Rattle.monos.specs.declared.weight.Weight.{Weight}
use Rattle.weigh.specs.declared.refusal.WeightRefusal.{WeightRefusal}
use Rattle.weigh.specs.declared.refusal.WeightRefusal.TheVariants.{Arity}
use Rattle.weigh.specs.Refusals.{weight_refusal}
use Rattle.weigh.specs.Weighing.{form_weight}

abbrev pub same_flag : Bool → Bool → Bool
same_flag a b = if a then b else (if b then false else true)

abbrev pub same_numbers : Numbers → Numbers → Bool
same_numbers a b = same_flag a.zero b.zero && (same_flag a.one b.one && same_flag a.more b.more)

abbrev pub same_pairs : PatternSet → PatternSet → Bool
same_pairs a b = same_numbers a.zero b.zero && (same_numbers a.one b.one && same_numbers a.more b.more)

-- each term has no argument; the test function once; the test and the trial function once
abbrev pub has_arity : PatternSet → Bool
has_arity p = same_pairs p only_pair || (same_pairs p (of_role Test) || same_pairs p (product (of_role Test) (of_role Trial)))

-- how many arguments a set with an arity says: that of its one pair
abbrev pub rank_of : PatternSet → ℕ
rank_of p = if p.zero.zero then 0 else if p.one.zero then 1 else 2

abbrev pub by_weight : Weight → Option WeightRefusal → Result Weight WeightRefusal
by_weight w None = Ok w
by_weight w (Some r) = Err r

-- in d dimensions, with numbers kept by `cap`; the arity comes first
abbrev pub admission : (ℕ → ℕ) → ℕ → Table → FormTerm → Result Weight WeightRefusal
admission cap d elements f =
    if has_arity (form_patterns f) then by_weight (form_weight cap elements f) (weight_refusal d (form_weight cap elements f)) else Err Arity
