use Rattle.std.proofs.Common.{◌∙◌, sym, ap, Ok, arith, ◌≡◌, refl, ℕ, Bool, true, false, ◌||◌, List, [], ◌∷◌, ◌++◌, bytes_eq}
use Rattle.c_unit.specs.declared.unit.CFun.{CFun}
use Rattle.c_text.specs.declared.read.ReadUnit.{ReadUnit}
use Rattle.c_text.specs.Stream.{◌>>=◌, repeat}
use Rattle.c_text.specs.Units.{function_at, add_function, with_function, is_more, is_among}
use Rattle.c_text.specs.Parser.{stream}
use Rattle.c_text.proofs.ReadLaws.{same_three, gives_err, fails_through, fails_as}
use Rattle.c_text.proofs.Repeats.{one_more, none_more, all_read, some_more}
use Rattle.c_text.proofs.parser.Parser.functions.Goals as goal

same_either : (a b c : Bool) → (a || (b || c)) ≡ (b || (a || c))
same_either true true c = refl
same_either true false c = refl
same_either false true c = refl
same_either false false c = refl

among_more : (fs : List CFun) (f : CFun) (n : List ℕ) → is_among (fs ++ f ∷ []) n ≡ (bytes_eq f.name n || is_among fs n)
among_more [] f n = refl
among_more (g ∷ fs) f n = ap (λ b. bytes_eq g.name n || b) (among_more fs f n) ∙ same_either (bytes_eq g.name n) (bytes_eq f.name n) (is_among fs n)

pub returns-then-not-is_more : goal.returns-then-not-is_more
returns-then-not-is_more c = all_read is_more add_function _ _ _ _ c.all.invariant.read.2 (sym c.is_more.ensures ∙ c.if-not-is_more.true)

pub returns-in_err-fun : goal.returns-in_err-fun
returns-in_err-fun c =
    let test = sym c.is_more.ensures ∙ c.if-not-is_more.false in
    gives_err (λ x. x) c.from_residual.result c.in_err-fun.field-0.0 _ _ c.from_residual.ensures.0 c.from_residual.ensures.1
    (none_more c.in_err-fun.field-0.0 is_more add_function _ _ _ _ _ (some_more (stream c.all.self) test) c.all.invariant.read.1 c.all.invariant.read.2 test
    (fails_through c.in_err-fun.field-0.0 (function_at c.all.funs (stream c.all.self)) _
    (fails_as c.in_err-fun.field-0.0 (function_at c.as_slice.result.now (stream c.all.self)) _ (ap (λ fs. function_at fs (stream c.all.self)) (sym c.as_slice.ensures)) c.in_err-fun.ensures.read)))

pub all-preserved : goal.all-preserved
all-preserved c =
    let test = sym c.is_more.ensures ∙ c.if-not-is_more.false in
    let a : ReadUnit = record { unit = record { funs = c.all.funs }; enums = c.all.enums; lines = c.all.all_lines } in
    let r = one_more is_more add_function _ _ _ _ a _ _ c.all.invariant.read.1 c.in_ok-fun.ensures.shorter c.all.invariant.read.2 test
    (ap (λ r. r >>= λ x. Ok (with_function a x.0, x.1)) (ap (λ fs. function_at fs (stream c.all.self)) (sym c.as_slice.ensures) ∙ c.in_ok-fun.ensures.read)) in
    record {
      names = λ n. c.in_ok-fun.ensures.names n ∙ ap (λ fs. bytes_eq c.in_ok-fun.field-0.fun.name n || is_among fs n) c.as_slice.ensures ∙ sym (among_more c.all.funs c.in_ok-fun.field-0.fun n) ∙ ap (λ fs. is_among fs n) (sym c.in_ok-push.ensures.ok);
      shorter = omega (arith, c.all.invariant.shorter, c.in_ok-fun.ensures.shorter);
      read = (
        r.0,
        r.1,
        r.2
            ∙ same_three (λ fs es ls. repeat is_more add_function r.0 (record { unit = record { funs = fs }; enums = es; lines = ls }) (stream c.function.new.self)) (sym c.in_ok-push.ensures.ok) (sym c.in_ok-push-2.ensures.ok) (sym c.in_ok-push-3.ensures.ok),
      );
    }
