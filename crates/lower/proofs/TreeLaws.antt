-- Lowering keeps the meaning of every tree
use Rattle.std.proofs.Common.{◌≡◌, ℕ, zero, suc, List, [], ◌++◌, refl, ◌∙◌, ap, ap₂}
use Rattle.ratio.specs.declared.reduced.Ratio.{Ratio}
use Rattle.calculus.specs.Polynomial.{plus, coefficient_of, power as raised_to}
use Rattle.ufl_tree.specs.declared.function.Ix.{Ix}
use Rattle.ufl_tree.specs.declared.function.Ix.TheVariants.{Named}
use Rattle.ufl_meaning.specs.Environment.{Environment, parameter_number, raised}
use Rattle.ufl_tree.specs.Indices.{Names, with_names, index_value, index_values, front, back, named, direction, repeated}
use Rattle.ufl_meaning.specs.Meaning.{meaning, item_meaning}
use Rattle.ufl_meaning.specs.Operators.{along, two_value}
use Rattle.monos.specs.Summed.{summed}
use Rattle.ufl_tree.specs.Places.{Table, IsLawfulTable}
use Rattle.ufl_tree.specs.Term.{dx}
use Rattle.ufl_tree.specs.Typed.{Typed, number, identity, function, piece, one, two, power, index, partial, tensor, list, variable, diff, TypedList, no_items, item, own_kind, shape_of, free_of}
use Rattle.ufl_meaning.specs.Value.{value, item_value}
use Rattle.lower.specs.Renaming.{Renaming, renamed, all_renamed}
use Rattle.lower.specs.Lowering.{with_indices, two_term, lower, lower_all}
use Rattle.lower.specs.Keeping.{AreBelow, IsRenamed, IsLowerable, AreLowerable}
use Rattle.lower.proofs.NameLaws.{front_values, back_values, front_below, join_values, join_below, renamed_value, renamed_values, renamed_below, renamed_names}
use Rattle.lower.proofs.OperatorLaws.{one_kept, two_kept, names_kept, identity_kept, power_kept, chosen_kept}
use Rattle.lower.proofs.PieceLaws.{piece_kept}

module _ (share : ℕ → Ratio) (elements : Table) (lawful : IsLawfulTable elements) (m : ℕ) where
  mutual
    -- each component of what a tree is lowered to means what the tree means there
    pub value_kept : (e : Typed) → IsLowerable share m e → (env : Environment) (n : ℕ) (v w : Names) (r : Renaming) → IsRenamed m n w v r → (b : List Ix) → AreBelow n b
        → meaning elements (lower share elements e r b n) env v ≡ value elements e env (index_values v b) w
    value_kept (number k c) H env n v w r R b B = refl
    value_kept (identity k i) H env n v w r R b B = identity_kept elements m env v b
    value_kept (function k f) H env n v w r R b B = refl
    value_kept (piece k f i) H env n v w r R b B = piece_kept elements lawful f i env v b n
    value_kept (one k op a) H env n v w r R b B =
        one_kept elements m env share w r op (shape_of a) H.0 (λ c n. lower share elements a r c n) (λ c. value elements a env c w)
        (λ n v R b B. value_kept a H.1 env n v w r R b B) n v R b B
    value_kept (two k op a d) H env n v w r R b B =
        names_kept elements m env b (index_values v b) (summed op (free_of a) (free_of d))
        (λ r n. two_term op (shape_of a) (shape_of d) (λ c n. lower share elements a r c n) (λ c n. lower share elements d r c n) b n)
        (λ w. two_value op (shape_of a) (shape_of d) (λ c. value elements a env c w) (λ c. value elements d env c w) (index_values v b))
        (λ n v' w r R B e.
        two_kept elements m env w r op (shape_of a) (shape_of d) (λ c n. lower share elements a r c n) (λ c n. lower share elements d r c n) (λ c. value elements a env c w) (λ c. value elements d env c w)
        (λ n v R b B. value_kept a H.0 env n v w r R b B) (λ n v R b B. value_kept d H.1 env n v w r R b B) n v' R b B
        ∙ ap (two_value op (shape_of a) (shape_of d) (λ c. value elements a env c w) (λ c. value elements d env c w)) e)
        n v w r R B refl
    value_kept (power k a i) H env n v w r R b B =
        power_kept elements m env v (lower share elements a r [] n) i ∙ ap (λ p. raised_to p i) (value_kept a H env n v w r R [] tt)
    value_kept (index k a at) H env n v w r R b B =
        names_kept elements m env b (index_values v b) (repeated (free_of a ++ named at (shape_of a))) (λ r n. lower share elements a r (all_renamed r at ++ b) n)
        (λ w. value elements a env (index_values w at ++ index_values v b) w)
        (λ n v' w r R B e.
        value_kept a H.0 env n v' w r R (all_renamed r at ++ b) (join_below n (all_renamed r at) b (renamed_below m n w v' r R at H.1) B)
        ∙ ap (λ c. value elements a env c w) (join_values v' (all_renamed r at) b ∙ ap₂ (λ x y. x ++ y) (renamed_values m n w v' r R at H.1) e))
        n v w r R B refl
    value_kept (partial k a i) H env n v w r R b B =
        names_kept elements m env b (index_values v b) (repeated (free_of a ++ direction i (own_kind a).cell)) (λ r n. dx (renamed r i) (lower share elements a r b n))
        (λ w. along (index_value w i) (value elements a env (index_values v b) w))
        (λ n v' w r R B e.
        ap₂ along (renamed_value m n w v' r R i H.1) (value_kept a H.0 env n v' w r R b B ∙ ap (λ c. value elements a env c w) e))
        n v w r R B refl
    value_kept (tensor k a by) H env n v w r R b B =
        value_kept a H env n v (with_names by (index_values v b) w) (with_indices by b r) (renamed_names m by b n w v r R B) [] tt
    value_kept (list k ts) H env n v w r R b B =
        chosen_kept elements m env v n (λ c. lower_all share elements ts r c n) (λ j c. item_value elements ts env c w j) (λ j b B. items_kept ts H env n v w r R b B j) b B
    value_kept (variable k l a) H env n v w r R b B = ap (λ p. plus p (env.offset l (index_values v b))) (value_kept a H env n v w r R b B)
    value_kept (diff k l by a) H env n v w r R b B =
        let s = shape_of a in
        ap (coefficient_of (parameter_number env.used) 1)
        (value_kept a H (raised l (index_values v (back s b)) env) n v w r R (front s b) (front_below s n b B)
        ∙ ap₂ (λ x y. value elements a (raised l x env) y w) (back_values s v b) (front_values s v b))

    items_kept : (ts : TypedList) → AreLowerable share m ts → (env : Environment) (n : ℕ) (v w : Names) (r : Renaming) → IsRenamed m n w v r → (b : List Ix) → AreBelow n b
        → (j : ℕ) → item_meaning elements (lower_all share elements ts r b n) env v j ≡ item_value elements ts env (index_values v b) w j
    items_kept no_items H env n v w r R b B j = refl
    items_kept (item t ts) H env n v w r R b B zero = value_kept t H.0 env n v w r R b B
    items_kept (item t ts) H env n v w r R b B (suc j) = items_kept ts H.1 env n v w r R b B j

-- where each name stands for itself
pub named_kept : (share : ℕ → Ratio) (elements : Table) → IsLawfulTable elements → (n : ℕ) (e : Typed) → IsLowerable share n e
    → (env : Environment) (v : Names) (b : List Ix) → AreBelow n b → meaning elements (lower share elements e Named b n) env v ≡ value elements e env (index_values v b) v
named_kept share elements lawful n e H env v b B =
    value_kept share elements lawful n e H env n v v Named (record { agrees = λ i h. refl; below = λ i h. h }) b B
