-- The indices that stand for names, and sums over names that are counted up
use Rattle.std.specs.Prelude.{ℕ, suc, List, [], ◌∷◌}
use Rattle.ufl_tree.specs.declared.function.Free.{Free}
use Rattle.ufl_tree.specs.declared.function.Ix.{Ix}
use Rattle.ufl_tree.specs.declared.function.Ix.TheVariants.{Named}
use Rattle.ufl_tree.specs.Term.{Term, over}
use Rattle.lower.specs.Renaming.{Renaming, with_index}
use Rattle.passes.specs.declared.names.Binding.{Binding}

abbrev pub renaming_after : Renaming → List Binding → Renaming
renaming_after r [] = r
renaming_after r (b ∷ bs) = renaming_after (with_index b.name b.index r) bs

-- a name that isn't bound stands for itself
abbrev pub renaming_of : List Binding → Renaming
renaming_of = renaming_after Named

-- the names from n on stand for indices that are summed
abbrev pub with_names_from : List Free → ℕ → Renaming → Renaming
with_names_from [] n r = r
with_names_from (x ∷ xs) n r = with_names_from xs (suc n) (with_index x.index (Named n) r)

-- the names from n on, one for each size
abbrev pub names_from : List ℕ → ℕ → List Ix
names_from [] n = []
names_from (d ∷ ds) n = Named n ∷ names_from ds (suc n)

-- the sums over their values
abbrev pub sums_around : List ℕ → ℕ → Term → Term
sums_around [] n e = e
sums_around (d ∷ ds) n e = over n d (sums_around ds (suc n) e)
