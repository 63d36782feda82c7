-- The columns of one list of factors behind those of another
use Rattle.std.proofs.Common.{◌≡◌, ℕ, ◌+◌, ◌≤◌, ◌^◌, List, [], ◌∷◌, ◌++◌, map, reverse, refl, sym, ap, ap₂, ◌∙◌, subst, append_assoc}
use mathlib.Core.List.{reverse_aux}
use Rattle.std.specs.List.{AllByRecursion}
use Rattle.c_unit.specs.declared.unit.CStmt.{CStmt}
use Rattle.kernel_runs.specs.Strips.{Factor, Fastest, Slowest, factors_in, from_last, in_turn, map_factor}
use Rattle.kernel_runs.specs.Planned.{CountsWithin, columns_at, columns_code, count_after, counts_after, factor_code}
use Rattle.kernel_runs.specs.Body.{strip_of}
use Rattle.kernel_runs.specs.declared.digit.Digit.{Digit}
use Rattle.kernel_runs.specs.declared.digit.Digit.TheVariants.{Growth}
use Rattle.kernel_runs.specs.declared.strip.Strip.{Strip}
use Rattle.kernel_statements.specs.Emitted.{code_from, columns_after}
use Rattle.kernel_statements.specs.declared.columns.Columns.{Columns}
use Rattle.refint.proofs.Lists.{map_append}

-- ---- more factors behind some
pub code_append : (c : Columns) (fs gs : List (Factor Strip)) → code_from c (fs ++ gs) ≡ code_from c fs ++ code_from (columns_after c fs) gs
code_append c [] gs = refl
code_append c (f ∷ fs) gs =
    ap (λ r. factor_code c.next c.at c.count f ∷ r)
    (code_append (record { at = c.next; count = count_after c.count f; next = c.following; following = c.next }) fs gs)

pub after_append : (c : Columns) (fs gs : List (Factor Strip)) → columns_after c (fs ++ gs) ≡ columns_after (columns_after c fs) gs
after_append c [] gs = refl
after_append c (f ∷ fs) gs = after_append (record { at = c.next; count = count_after c.count f; next = c.following; following = c.next }) fs gs

pub within_append : (most n : ℕ) (fs gs : List (Factor Strip)) → CountsWithin most n (fs ++ gs) → CountsWithin most n fs × CountsWithin most (counts_after n fs) gs
within_append most n [] gs h = (tt, h)
within_append most n (f ∷ fs) gs h =
    let r = within_append most (count_after n f) fs gs h.1 in
    ((h.0, r.0), r.1)

-- ---- where columns stand, and how many they are
pub after_count : (c : Columns) (fs : List (Factor Strip)) → (columns_after c fs).count ≡ counts_after c.count fs
after_count c [] = refl
after_count c (f ∷ fs) = after_count (record { at = c.next; count = count_after c.count f; next = c.following; following = c.next }) fs

pub after_at : (c : Columns) (fs : List (Factor Strip)) → (columns_after c fs).at ≡ columns_at c.next c.following c.at fs
after_at c [] = refl
after_at c (f ∷ fs) = after_at (record { at = c.next; count = count_after c.count f; next = c.following; following = c.next }) fs

-- ---- factors of mapped lists
pub turn_mapped : {U V : Type 0} (h : U → V) (xs : List U) (fs : List (Factor U)) → map (map_factor h) (in_turn xs fs) ≡ in_turn (map h xs) (map (map_factor h) fs)
turn_mapped h [] fs = refl
turn_mapped h (x ∷ xs) fs = ap (λ r. Fastest (h x) ∷ r) (turn_mapped h xs fs)

-- the last one first
pub last_is : {U V : Type 0} (h : U → V) (xs acc : List U) → from_last (map h xs) (map (λ x. Slowest (h x)) acc) ≡ map (λ x. Slowest (h x)) (reverse_aux xs acc)
last_is h [] acc = refl
last_is h (x ∷ xs) acc = last_is h xs (x ∷ acc)

all_slowest : {U V : Type 0} (h : U → V) (ys : List U) → map (map_factor h) (map (λ x. Slowest x) ys) ≡ map (λ x. Slowest (h x)) ys
all_slowest h [] = refl
all_slowest h (y ∷ ys) = ap (λ r. Slowest (h y) ∷ r) (all_slowest h ys)

pub last_mapped : {U V : Type 0} (h : U → V) (xs acc : List U) → map (map_factor h) (from_last xs (map (λ x. Slowest x) acc)) ≡ map (λ x. Slowest (h x)) (reverse_aux xs acc)
last_mapped h [] acc = all_slowest h acc
last_mapped h (x ∷ xs) acc = last_mapped h xs (x ∷ acc)

all_onto : {A : Type 0} (P : A → Type 0) (xs acc : List A) → AllByRecursion P xs → AllByRecursion P acc → AllByRecursion P (reverse_aux xs acc)
all_onto P [] acc h k = k
all_onto P (x ∷ xs) acc h k = all_onto P xs (x ∷ acc) h.1 (h.0, k)

pub all_reversed : {A : Type 0} (P : A → Type 0) (xs : List A) → AllByRecursion P xs → AllByRecursion P (reverse xs)
all_reversed P xs h = all_onto P xs [] h tt

-- ---- all columns of a monomial: growths, and then values
pub within_parts : {U : Type 0} (most n : ℕ) (h : U → Strip) (values growths : List U) → CountsWithin most n (map (map_factor h) (factors_in values growths))
    → CountsWithin most n (map (map_factor h) (in_turn growths [])) × CountsWithin most (counts_after n (in_turn (map h growths) [])) (map (map_factor h) (from_last values []))
within_parts most n h values growths w =
    let both = within_append most n (map (map_factor h) (in_turn growths [])) (map (map_factor h) (from_last values []))
    (subst (CountsWithin most n) (map_append (map_factor h) (in_turn growths []) (from_last values [])) w) in
    (both.0, subst (λ k. CountsWithin most k (map (map_factor h) (from_last values []))) (ap (counts_after n) (turn_mapped h growths [])) both.1)

-- behind the statements of growths stand those of values
pub both_written : (c : Columns) (fs gs : List (Factor Strip)) (base first new : List CStmt) → first ≡ base ++ code_from c fs
    → new ≡ first ++ code_from (columns_after c fs) gs → new ≡ base ++ code_from c (fs ++ gs)
both_written c fs gs base first new e f =
    f ∙ ap (λ r. r ++ code_from (columns_after c fs) gs) e ∙ append_assoc base (code_from c fs) (code_from (columns_after c fs) gs)
    ∙ ap (λ r. base ++ r) (sym (code_append c fs gs))

-- ---- a loop over values, from the last on
abbrev pub slowest : ℕ → List Digit → List (Factor Strip)
slowest d xs = map (λ g. Slowest (strip_of d g)) xs

-- the statements so far and those of what is left are all
pub record ValuesLeft (d : ℕ) (start c : Columns) (left all : List Digit) (base body : List CStmt) : Type 0 where
  pub code : body ++ code_from c (slowest d left) ≡ base ++ code_from start (slowest d all)
  pub after : columns_after c (slowest d left) ≡ columns_after start (slowest d all)
  pub few : CountsWithin (2 ^ 20) c.count (slowest d left)

pub next_few : (d : ℕ) (start c : Columns) (x : Digit) (left rest all : List Digit) (base body : List CStmt) (s : Strip) → left ≡ x ∷ rest → s ≡ strip_of d x
    → ValuesLeft d start c left all base body → count_after c.count (Slowest s) ≤ 2 ^ 20
next_few d start c x left rest all base body s e f h =
    let few = subst (λ l. CountsWithin (2 ^ 20) c.count (slowest d l)) e h.few in
    subst (λ r. count_after c.count (Slowest r) ≤ 2 ^ 20) (sym f) few.0

pub next_value : (d : ℕ) (start c next : Columns) (x : Digit) (left rest all : List Digit) (base body new : List CStmt) (s : Strip) → left ≡ x ∷ rest → s ≡ strip_of d x
    → next ≡ columns_after c (Slowest s ∷ []) → new ≡ body ++ code_from c (Slowest s ∷ [])
    → ValuesLeft d start c left all base body → ValuesLeft d start next rest all base new
next_value d start c next x left rest all base body new s e f a n h =
    let g = ap (λ (r : Strip). Slowest r ∷ []) f in
    let b = a ∙ ap (columns_after c) g in
    let few = subst (λ l. CountsWithin (2 ^ 20) c.count (slowest d l)) e h.few in
    record {
      code =
          ap₂ (λ t k. t ++ code_from k (slowest d rest)) (n ∙ ap (λ r. body ++ code_from c r) g) b
          ∙ append_assoc body (code_from c (Slowest (strip_of d x) ∷ [])) (code_from (columns_after c (Slowest (strip_of d x) ∷ [])) (slowest d rest))
          ∙ ap (λ l. body ++ code_from c (slowest d l)) (sym e)
          ∙ h.code;
      after = ap (λ k. columns_after k (slowest d rest)) b ∙ ap (λ l. columns_after c (slowest d l)) (sym e) ∙ h.after;
      few = subst (λ n. CountsWithin (2 ^ 20) n (slowest d rest)) (sym (ap (λ (k : Columns). k.count) b)) few.1;
    }

-- ---- all columns, from the first one on
pub grown_count : (first grown : Columns) (fs : List (Factor Strip)) → grown ≡ columns_after first fs → first.count ≡ 1 → grown.count ≡ counts_after 1 fs
grown_count first grown fs e h = ap (λ (c : Columns). c.count) e ∙ after_count first fs ∙ ap (λ n. counts_after n fs) h

pub all_count : (first grown last : Columns) (fs gs : List (Factor Strip)) → grown ≡ columns_after first fs → first.count ≡ 1 → last ≡ columns_after grown gs
    → last.count ≡ counts_after 1 (fs ++ gs)
all_count first grown last fs gs e h f =
    ap (λ (c : Columns). c.count) (f ∙ ap (λ c. columns_after c gs) e ∙ sym (after_append first fs gs))
    ∙ after_count first (fs ++ gs) ∙ ap (λ n. counts_after n (fs ++ gs)) h

pub all_at : (first grown last : Columns) (new next cur : ℕ) (fs gs : List (Factor Strip)) → grown ≡ columns_after first fs
    → first.next ≡ new → first.following ≡ next → first.at ≡ cur → last ≡ columns_after grown gs → last.at ≡ columns_at new next cur (fs ++ gs)
all_at first grown last new next cur fs gs e a b d f =
    ap (λ (c : Columns). c.at) (f ∙ ap (λ c. columns_after c gs) e ∙ sym (after_append first fs gs))
    ∙ after_at first (fs ++ gs)
    ∙ ap₂ (λ m n. columns_at m n first.at (fs ++ gs)) a b ∙ ap (λ n. columns_at new next n (fs ++ gs)) d

pub all_code : (first grown : Columns) (new next cur : ℕ) (fs gs : List (Factor Strip)) (base grown_body body : List CStmt) → grown ≡ columns_after first fs
    → first.next ≡ new → first.following ≡ next → first.at ≡ cur → first.count ≡ 1 → grown_body ≡ base ++ code_from first fs → body ≡ grown_body ++ code_from grown gs
    → body ≡ base ++ columns_code new next cur 1 (fs ++ gs)
all_code first grown new next cur fs gs base grown_body body e a b d n f g =
    both_written first fs gs base grown_body body f (g ∙ ap (λ c. grown_body ++ code_from c gs) e)
    ∙ ap₂ (λ m k. base ++ columns_code m k first.at first.count (fs ++ gs)) a b
    ∙ ap₂ (λ m k. base ++ columns_code new next m k (fs ++ gs)) d n
