use Rattle.form_monomials.proofs.sums.+sum_of_last.Given as goal

abbrev pub decreases-sum_of_last : goal.decreases-sum_of_last
decreases-sum_of_last l = l.count
