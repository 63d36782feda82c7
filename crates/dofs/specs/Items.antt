-- Keys with their places
use Rattle.std.specs.Prelude.{◌≡◌, ℕ, suc, ◌-◌, ◌<◌, List, [], ◌∷◌, slice_index_or}
use Rattle.std.specs.declared.cmp.Ordering.TheVariants.{Less}
use Rattle.dofs.specs.declared.key.Key.{Key}
use Rattle.dofs.specs.Arrays.{key_cmp}
use Rattle.dofs.specs.declared.ranks.Item.{Item}

-- of a list whose first key has this place
abbrev pub items_from : ℕ → List Key → List Item
items_from i [] = []
items_from i (k ∷ keys) = record { key = k; place = i } ∷ items_from (suc i) keys

-- the key before is less, if there is one
abbrev pub IsFirst : List Item → ℕ → Type 0
IsFirst items i = 0 < i → (d : Item) → key_cmp (slice_index_or items (i - 1) d).key (slice_index_or items i d).key ≡ Less
