-- The functions of forms have names of C that differ and make few statements, so the text of their unit is read back
use Rattle.std.proofs.Common.{◌≡◌, ◌≢◌, ℕ, zero, suc, ◌+◌, ◌*◌, ◌<◌, ◌≤◌, ◌^◌, List, [], ◌∷◌, ◌++◌, map, Option, None, Some, Ok, true, refl, sym, ap, ◌∙◌, subst, arith}
use Rattle.std.proofs.Math.Nat.{le_trans}
use Rattle.std.specs.List.{AllByRecursion}
use Rattle.std.proofs.lemmas.List.Elements.{recursion_from_All}
use Rattle.c_unit.specs.declared.unit.CFun.{CFun}
use Rattle.c_unit.specs.declared.unit.CUnit.{CUnit}
use Rattle.c_unit.specs.Rules.{NewName, EachKeeps}
use Rattle.c_text.specs.Lawful.{is_name, KeepsRules, MeetsRules}
use Rattle.monos.specs.declared.weight.Weight.{Weight}
use Rattle.assembly.specs.Assembly.{AreRising}
use Rattle.assembly.specs.declared.funs.Funs.{Funs}
use Rattle.assembly.specs.declared.funs.MarkedFun.{MarkedFun}
use Rattle.form_values.specs.CellLayout.{Occurring}
use Rattle.form_values.specs.Problem.{Problem}
use Rattle.form_kernels.specs.Kernels.{AreFunctions, IsFunction, plain_name, marked_name}
use Rattle.form_assembly.proofs.Preparing.{functions_rise}
use Rattle.ufl_elab.specs.declared.program.Named.{Named}
use Rattle.ufl_elab.specs.declared.program.UflProgram.{UflProgram}
use Rattle.ufl_program.specs.Names.{name_of, DifferInName}
use Rattle.form_files.specs.Admissions.{IsFileOf}
use Rattle.form_files.specs.Names.{IsIdentifier}
use Rattle.form_files.proofs.NameLaws.{admitted_names}
use Rattle.ffc.specs.Unit.{IsFormUnit, AreFunctionsOf, none, more, AreShort, function_list}
use Rattle.ffc.proofs.FunctionNames.{Key, IsSmall, name_by, one_key, plain_is_name, marked_is_name}

-- ---- functions and their keys
record HasKey (f : CFun) (k : Key) : Type 0 where
  name : f.name ≡ name_by k
  small : IsSmall k.marker
  keeps : KeepsRules f

abbrev HaveKeys : List CFun → List Key → Type 0
HaveKeys [] [] = Unit {0}
HaveKeys [] (k ∷ ks) = ⊥
HaveKeys (f ∷ fs) [] = ⊥
HaveKeys (f ∷ fs) (k ∷ ks) = HasKey f k × HaveKeys fs ks

have_keys_more : (fs gs : List CFun) (ks ls : List Key) → HaveKeys fs ks → HaveKeys gs ls → HaveKeys (fs ++ gs) (ks ++ ls)
have_keys_more [] gs [] ls h later = later
have_keys_more [] gs (k ∷ ks) ls h later = absurd h
have_keys_more (f ∷ fs) gs [] ls h later = absurd h
have_keys_more (f ∷ fs) gs (k ∷ ks) ls h later = (h.0, have_keys_more fs gs ks ls h.1 later)

-- none is that of a later one
abbrev AllDiffer : List Key → Type 0
AllDiffer [] = Unit {0}
AllDiffer (k ∷ ks) = AllByRecursion (λ (l : Key). k ≢ l) ks × AllDiffer ks

abbrev AreSmall : List Key → Type 0
AreSmall ks = AllByRecursion (λ (k : Key). IsSmall k.marker) ks

new_behind : (before : List CFun) (f : CFun) (name : List ℕ) → NewName before name → f.name ≢ name → NewName (before ++ f ∷ []) name
new_behind [] f name new other = (other, tt)
new_behind (g ∷ before) f name new other = (new.0, new_behind before f name new.1 other)

still_new : (before : List CFun) (f : CFun) (k : Key) → HasKey f k → (ls : List Key) → AreSmall ls
    → AllByRecursion (λ (l : Key). NewName before (name_by l)) ls → AllByRecursion (λ (l : Key). k ≢ l) ls
    → AllByRecursion (λ (l : Key). NewName (before ++ f ∷ []) (name_by l)) ls
still_new before f k is [] small new other = tt
still_new before f k is (l ∷ ls) small new other = (
  new_behind before f (name_by l) new.0 (λ e. other.0 (one_key k.marker l.marker k.name l.name is.small small.0 (sym is.name ∙ e))),
  still_new before f k is ls small.1 new.1 other.1,
)

all_small : (fs : List CFun) (ks : List Key) → HaveKeys fs ks → AreSmall ks
all_small [] [] h = tt
all_small [] (k ∷ ks) h = absurd h
all_small (f ∷ fs) [] h = absurd h
all_small (f ∷ fs) (k ∷ ks) h = (h.0.small, all_small fs ks h.1)

keyed_keep : (before fs : List CFun) (ks : List Key) → HaveKeys fs ks → AllDiffer ks → AllByRecursion (λ (k : Key). NewName before (name_by k)) ks
    → EachKeeps KeepsRules before fs
keyed_keep before [] [] h differ new = tt
keyed_keep before [] (k ∷ ks) h differ new = absurd h
keyed_keep before (f ∷ fs) [] h differ new = absurd h
keyed_keep before (f ∷ fs) (k ∷ ks) h differ new = (
  h.0.keeps,
  subst (NewName before) (sym h.0.name) new.0,
  keyed_keep (before ++ f ∷ []) fs ks h.1 differ.1 (still_new before f k h.0 ks (all_small fs ks h.1) new.1 differ.0),
)

all_new : (ks : List Key) → AllByRecursion (λ (k : Key). NewName [] (name_by k)) ks
all_new [] = tt
all_new (k ∷ ks) = (tt, all_new ks)

-- ---- the keys of one form
abbrev marked_key : List ℕ → MarkedFun → Key
marked_key name m = record { marker = Some m.marker; name = name }

abbrev marked_keys : List ℕ → List MarkedFun → List Key
marked_keys name ms = map (marked_key name) ms

abbrev keys_of : List ℕ → Funs → List Key
keys_of name funs = record { marker = None; name = name } ∷ marked_keys name funs.marked.items

keeps : (p : Problem) (o : Occurring) (w : Weight) (c_name : List ℕ) (f : CFun) → IsFunction p o w c_name f → (w.g + w.rmax + 4) * w.cost + 200 ≤ 2 ^ 26
    → is_name c_name ≡ true → KeepsRules f
keeps p o w c_name f is short named =
    record { name = subst (λ name. is_name name ≡ true) (sym is.name_is) named; sizes = is.lawful; count = le_trans is.bound short }

wider : (m : ℕ) → m < 2 ^ 32 → m < 2 ^ 64
wider m h = omega (arith, h)

module _ (p : Problem) (o : Occurring) (w : Weight) (short : (w.g + w.rmax + 4) * w.cost + 200 ≤ 2 ^ 26) (name : List ℕ) (named : IsIdentifier name) where
  marked_have : (ms : List MarkedFun) → AllByRecursion (λ (m : MarkedFun). IsFunction p o w (marked_name m.marker name) m.fun) ms
      → AllByRecursion (λ (m : MarkedFun). m.marker < 2 ^ 32) ms → HaveKeys (map (λ (m : MarkedFun). m.fun) ms) (marked_keys name ms)
  marked_have [] are small = tt
  marked_have (m ∷ ms) are small = (
    record {
      name = are.0.name_is;
      small = wider m.marker small.0;
      keeps = keeps p o w (marked_name m.marker name) m.fun are.0 short (marked_is_name m.marker name (wider m.marker small.0) named);
    },
    marked_have ms are.1 small.1,
  )

  form_has_keys : (markers : List ℕ) (funs : Funs) → AreFunctions p o w name markers funs → HaveKeys (function_list funs) (keys_of name funs)
  form_has_keys markers funs are = (
    record { name = are.plain.name_is; small = tt; keeps = keeps p o w (plain_name name) funs.plain are.plain short (plain_is_name name named) },
    marked_have funs.marked.items are.marked are.small,
  )

abbrev marker_of_key : Key → Option ℕ
marker_of_key k = k.marker

none_some : (n : ℕ) → None ≡ Some n → ⊥
none_some n e = cc

some_same : (m n : ℕ) → Some m ≡ Some n → m ≡ n
some_same m n e = cc

not_itself : (m n : ℕ) → m < n → m ≡ n → ⊥
not_itself m n h e = omega (arith, h, e)

plain_differs : (name : List ℕ) (ms : List MarkedFun) → AllByRecursion (λ (l : Key). record { marker = None; name = name } ≢ l) (marked_keys name ms)
plain_differs name [] = tt
plain_differs name (m ∷ ms) = (λ e. none_some m.marker (ap marker_of_key e), plain_differs name ms)

later_differ : (name : List ℕ) (m : MarkedFun) (ms : List MarkedFun) → AllByRecursion (λ (later : MarkedFun). m.marker < later.marker) ms
    → AllByRecursion (λ (l : Key). marked_key name m ≢ l) (marked_keys name ms)
later_differ name m [] h = tt
later_differ name m (x ∷ ms) h = (λ e. not_itself m.marker x.marker h.0 (some_same m.marker x.marker (ap marker_of_key e)), later_differ name m ms h.1)

marked_differ : (name : List ℕ) (ms : List MarkedFun) → AreRising ms → AllDiffer (marked_keys name ms)
marked_differ name [] h = tt
marked_differ name (m ∷ ms) h = (later_differ name m ms h.0, marked_differ name ms h.1)

form_differs : (name : List ℕ) (funs : Funs) → AreRising funs.marked.items → AllDiffer (keys_of name funs)
form_differs name funs h = (plain_differs name funs.marked.items, marked_differ name funs.marked.items h)

-- ---- the keys of all forms
-- none has this name
abbrev AreOthers : List ℕ → List Key → Type 0
AreOthers name ks = AllByRecursion (λ (k : Key). name ≢ k.name) ks

abbrev name_of_key : Key → List ℕ
name_of_key k = k.name

differ_from : (k : Key) (ls : List Key) → AreOthers k.name ls → AllByRecursion (λ (l : Key). k ≢ l) ls
differ_from k [] h = tt
differ_from k (l ∷ ls) h = (λ e. h.0 (ap name_of_key e), differ_from k ls h.1)

both_all : (P : Key → Type 0) (ks ls : List Key) → AllByRecursion P ks → AllByRecursion P ls → AllByRecursion P (ks ++ ls)
both_all P [] ls h later = later
both_all P (k ∷ ks) ls h later = (h.0, both_all P ks ls h.1 later)

differ_more : (name : List ℕ) (ks ls : List Key) → AllByRecursion (λ (k : Key). k.name ≡ name) ks → AllDiffer ks → AreOthers name ls → AllDiffer ls → AllDiffer (ks ++ ls)
differ_more name [] ls are differ others later = later
differ_more name (k ∷ ks) ls are differ others later = (
  both_all (λ (l : Key). k ≢ l) ks ls differ.0 (differ_from k ls (subst (λ n. AreOthers n ls) (sym are.0) others)),
  differ_more name ks ls are.1 differ.1 others later,
)

marked_named : (name : List ℕ) (ms : List MarkedFun) → AllByRecursion (λ (k : Key). k.name ≡ name) (marked_keys name ms)
marked_named name [] = tt
marked_named name (m ∷ ms) = (refl, marked_named name ms)

keys_named : (name : List ℕ) (funs : Funs) → AllByRecursion (λ (k : Key). k.name ≡ name) (keys_of name funs)
keys_named name funs = (refl, marked_named name funs.marked.items)

others_than : (name other : List ℕ) (ks : List Key) → AllByRecursion (λ (k : Key). k.name ≡ other) ks → name ≢ other → AreOthers name ks
others_than name other [] are differ = tt
others_than name other (k ∷ ks) are differ = (λ e. differ (e ∙ are.0), others_than name other ks are.1 differ)

-- none has the name of a later form
abbrev AreApart : List ℕ → List Named → Type 0
AreApart file [] = Unit {0}
AreApart file (n ∷ ns) = AllByRecursion (λ m. name_of file n ≢ name_of file m) ns × AreApart file ns

apart : (file : List ℕ) (ns : List Named) → DifferInName file ns → AreApart file ns
apart file [] h = tt
apart file (n ∷ ns) h = (
  recursion_from_All (λ m. name_of file n ≢ name_of file m) ns (λ k d l. h zero (suc k) d (omega arith) (omega (arith, l))),
  apart file ns (λ i j d l k. h (suc i) (suc j) d (omega (arith, l)) (omega (arith, k))),
)

-- the keys of functions of forms, one form after the other
record AreKeysOf (file : List ℕ) (ns : List Named) (fs : List CFun) : Type 0 where
  keys : List Key
  have : HaveKeys fs keys
  differ : AllDiffer keys
  others : (name : List ℕ) → AllByRecursion (λ (m : Named). name ≢ name_of file m) ns → AreOthers name keys

module _ (file : List ℕ) (p : UflProgram) where
  unit_keys : (ns : List Named) (fs : List CFun) → AreFunctionsOf file p ns fs → AreShort p ns → AllByRecursion (λ n. IsIdentifier (name_of file n)) ns → AreApart file ns
      → AreKeysOf file ns fs
  unit_keys [] [] none short named differ = record { keys = []; have = tt; differ = tt; others = λ name h. tt }
  unit_keys [] (_ ∷ _) x short named differ = elim x [ ]
  unit_keys (n ∷ ns) fs (more {own = own} {others = rest} is are) short named differ =
      let name = name_of file n in
      let left = unit_keys ns rest are short.1 named.1 differ.1 in
      let h : HaveKeys (function_list is.funs) (keys_of name is.funs) =
      form_has_keys _ _ is.weight (short.0 is.kind is.weight is.admitted) name named.0 is.functions.markers is.funs is.functions.functions in
      record {
        keys = keys_of name is.funs ++ left.keys;
        have = have_keys_more own rest (keys_of name is.funs) left.keys (subst (λ fs. HaveKeys fs (keys_of name is.funs)) (sym is.list) h) left.have;
        differ = differ_more name (keys_of name is.funs) left.keys (keys_named name is.funs)
            (form_differs name is.funs (functions_rise is.funs is.functions.markers is.functions.functions.markers is.functions.are_markers.rising))
            (left.others name differ.0) left.differ;
        others = λ other h. both_all (λ (k : Key). other ≢ k.name) (keys_of name is.funs) left.keys (others_than other name (keys_of name is.funs) (keys_named name is.funs) h.0) (left.others other h.1);
      }

  pub unit_keeps : (u : CUnit) → AreFunctionsOf file p p.forms u.funs → IsFileOf file (Ok p) → AreShort p p.forms → MeetsRules u
  unit_keeps u are says short =
      let h = admitted_names file p says in
      let k = unit_keys p.forms u.funs are short (recursion_from_All _ p.forms h.identifiers) (apart file p.forms h.distinct) in
      keyed_keep [] u.funs k.keys k.have k.differ (all_new k.keys)
