-- What the program computes of forms, read from its arguments
use Rattle.std.specs.Prelude.{[]}
use Rattle.calculus.specs.Polynomial.{Polynomial}
use Rattle.ufl_tree.specs.declared.tree.Tree.{Tree}
use Rattle.ufl_tree.specs.Reading.{typed_of}
use Rattle.ufl_tree.specs.Places.{table_of}
use Rattle.ufl_form.specs.declared.form_tree.FormTree.{FormTree}
use Rattle.ufl_form.specs.Reading.{form_of}
use Rattle.ufl_meaning.specs.Value.{value}
use Rattle.ufl_meaning.specs.Density.{density, no_names}
use Rattle.tree_values.specs.Scene.{changed}
use Rattle.tree_values.specs.Value.{env_of}
use Rattle.tree_values.specs.declared.environment.Change.{Change}
use Rattle.tree_values.specs.declared.scene.Scene.{Scene}

-- a form in a scene
unfoldable pub density_in : Scene → FormTree → Polynomial
density_in s f = density (table_of s.elements.now) (form_of f) (env_of s)

-- after one more change
unfoldable pub density_changed : Scene → FormTree → Change → Polynomial
density_changed s f c = density (table_of s.elements.now) (form_of f) (changed c (env_of s))

unfoldable pub integrand_in : Scene → Tree → Polynomial
integrand_in s t = value (table_of s.elements.now) (typed_of t) (env_of s) [] no_names
