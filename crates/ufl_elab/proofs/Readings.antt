-- What is written, one equation for each variant
use Rattle.std.proofs.Common.{◌≡◌, ℕ, List, [], map, None, Some, sym, ap, ◌∙◌}
use Rattle.ufl_syntax.specs.declared.span.Span.{Span}
use Rattle.ufl_syntax.specs.Spans.{word_at}
use Rattle.ufl_syntax.specs.declared.tree.Syn.{Syn, Syn-F, fold-Syn, fold-roll-Syn, out-Syn, out-roll-Syn}
use Rattle.ufl_syntax.specs.declared.tree.Syn.TheVariants as s
use Rattle.ufl_syntax.specs.declared.tree.Next.{Next, fold_out-Next}
use Rattle.ufl_syntax.specs.declared.tree.Post.{Post, Post-F, fold-Post, fold-roll-Post}
use Rattle.ufl_syntax.specs.declared.tree.Post.TheVariants as q
use Rattle.ufl_syntax.specs.declared.tree.Arg.{Arg, fold_out-Arg}
use Rattle.ufl_values.specs.declared.value.Value.TheVariants as v
use Rattle.ufl_calls.specs.declared.made.Made.{Made}
use Rattle.ufl_elab.specs.declared.head.Head.{Head}
use Rattle.ufl_elab.specs.Literals.{literal}
use Rattle.ufl_elab.specs.Names.{value_in}
use Rattle.ufl_elab.specs.Exports.{listed, list_in, bare_name, name_in}
use Rattle.ufl_elab.specs.Evaluation.{Place, Step, Eval, Operand, Argument, step, closed, worth, whole, name_of, number_of, signed_by, indexed_by, attribute, applied, collected, made_of, values_from, chain_of, arguments_of, no_arguments, posts_of, arg_layer, next_layer, post_layer, syn_layer, eval_of, next_of, post_of, arg_of}

pub eval_of-Name : (p : Place) (w : Span) (m : Made) → eval_of p (s.Name w) m
    ≡ name_of p w (value_in p.names (word_at p.file w)) m
unfolding eval_of next_of post_of
eval_of-Name p w m =
    ap (λ f. f m) (ap (fold-Syn Step Eval Argument Operand (post_layer p) (syn_layer p) arg_layer next_layer) (sym (s.rolls-Name w))
    ∙ fold-roll-Syn Step Eval Argument Operand (post_layer p) (syn_layer p) arg_layer next_layer (Syn-F.Name w))

pub eval_of-Number : (p : Place) (w : Span) (m : Made) → eval_of p (s.Number w) m
    ≡ number_of p w (literal (word_at p.file w)) m
unfolding eval_of next_of post_of
eval_of-Number p w m =
    ap (λ f. f m) (ap (fold-Syn Step Eval Argument Operand (post_layer p) (syn_layer p) arg_layer next_layer) (sym (s.rolls-Number w))
    ∙ fold-roll-Syn Step Eval Argument Operand (post_layer p) (syn_layer p) arg_layer next_layer (Syn-F.Number w))

pub eval_of-Text : (p : Place) (w : Span) (m : Made) → eval_of p (s.Text w) m ≡ syn_layer p (Syn-F.Text w) m
unfolding eval_of next_of post_of
eval_of-Text p w m =
    ap (λ f. f m) (ap (fold-Syn Step Eval Argument Operand (post_layer p) (syn_layer p) arg_layer next_layer) (sym (s.rolls-Text w))
    ∙ fold-roll-Syn Step Eval Argument Operand (post_layer p) (syn_layer p) arg_layer next_layer (Syn-F.Text w))

pub eval_of-Tuple : (p : Place) (w : Span) (es : List Syn) (m : Made) → eval_of p (s.Tuple w es) m
    ≡ made_of v.Tuple (collected p.line w (values_from p.line [] (map (eval_of p) es) m))
unfolding eval_of next_of post_of
eval_of-Tuple p w es m =
    ap (λ f. f m) (ap (fold-Syn Step Eval Argument Operand (post_layer p) (syn_layer p) arg_layer next_layer) (sym (s.rolls-Tuple w es))
    ∙ fold-roll-Syn Step Eval Argument Operand (post_layer p) (syn_layer p) arg_layer next_layer (Syn-F.Tuple w es))

pub eval_of-List : (p : Place) (w : Span) (es : List Syn) (m : Made) → eval_of p (s.List w es) m
    ≡ made_of v.List (collected p.line w (values_from p.line [] (map (eval_of p) es) m))
unfolding eval_of next_of post_of
eval_of-List p w es m =
    ap (λ f. f m) (ap (fold-Syn Step Eval Argument Operand (post_layer p) (syn_layer p) arg_layer next_layer) (sym (s.rolls-List w es))
    ∙ fold-roll-Syn Step Eval Argument Operand (post_layer p) (syn_layer p) arg_layer next_layer (Syn-F.List w es))

pub eval_of-Sign : (p : Place) (w : Span) (e : Syn) (m : Made) → eval_of p (s.Sign w e) m
    ≡ signed_by p w (eval_of p e m)
unfolding eval_of next_of post_of
eval_of-Sign p w e m =
    ap (λ f. f m) (ap (fold-Syn Step Eval Argument Operand (post_layer p) (syn_layer p) arg_layer next_layer) (sym (s.rolls-Sign w e))
    ∙ fold-roll-Syn Step Eval Argument Operand (post_layer p) (syn_layer p) arg_layer next_layer (Syn-F.Sign w e))

pub eval_of-Binary : (p : Place) (e : Syn) (ns : List Next) (m : Made) → eval_of p (s.Binary e ns) m
    ≡ whole (step (worth p.line (eval_of p e m)) (λ a n. chain_of p (map (next_of p) ns) a n))
unfolding eval_of next_of post_of
eval_of-Binary p e ns m =
    ap (λ f. f m) (ap (fold-Syn Step Eval Argument Operand (post_layer p) (syn_layer p) arg_layer next_layer) (sym (s.rolls-Binary e ns))
    ∙ fold-roll-Syn Step Eval Argument Operand (post_layer p) (syn_layer p) arg_layer next_layer (Syn-F.Binary e ns))

pub eval_of-Postfix : (p : Place) (e : Syn) (ps : List Post) (m : Made) → eval_of p (s.Postfix e ps) m
    ≡ step (eval_of p e m) (λ x n. posts_of (map (post_of p) ps) x n)
unfolding eval_of next_of post_of
eval_of-Postfix p e ps m =
    ap (λ f. f m) (ap (fold-Syn Step Eval Argument Operand (post_layer p) (syn_layer p) arg_layer next_layer) (sym (s.rolls-Postfix e ps))
    ∙ fold-roll-Syn Step Eval Argument Operand (post_layer p) (syn_layer p) arg_layer next_layer (Syn-F.Postfix e ps))

pub post_of-Call : (p : Place) (w : Span) (xs : List Arg) (x : Head) (m : Made) → post_of p (q.Call w xs) x m
    ≡ step (arguments_of p (map (arg_of p) xs) no_arguments m) (λ given n. whole (applied p.line x w given n))
unfolding eval_of post_of arg_of
post_of-Call p w xs x m =
    ap (λ f. f x m) (ap (fold-Post Step Eval Argument Operand (post_layer p) (syn_layer p) arg_layer next_layer) (sym (q.rolls-Call w xs))
    ∙ fold-roll-Post Step Eval Argument Operand (post_layer p) (syn_layer p) arg_layer next_layer (Post-F.Call w xs))

pub post_of-Index : (p : Place) (w : Span) (e : Syn) (x : Head) (m : Made) → post_of p (q.Index w e) x m
    ≡ step (closed p.line x m) (λ a n. indexed_by p w a (eval_of p e n))
unfolding eval_of post_of arg_of
post_of-Index p w e x m =
    ap (λ f. f x m) (ap (fold-Post Step Eval Argument Operand (post_layer p) (syn_layer p) arg_layer next_layer) (sym (q.rolls-Index w e))
    ∙ fold-roll-Post Step Eval Argument Operand (post_layer p) (syn_layer p) arg_layer next_layer (Post-F.Index w e))

pub post_of-Attr : (p : Place) (w : Span) (x : Head) (m : Made) → post_of p (q.Attr w) x m
    ≡ step (closed p.line x m) (λ a n. attribute p w a n)
unfolding eval_of post_of arg_of
post_of-Attr p w x m =
    ap (λ f. f x m) (ap (fold-Post Step Eval Argument Operand (post_layer p) (syn_layer p) arg_layer next_layer) (sym (q.rolls-Attr w))
    ∙ fold-roll-Post Step Eval Argument Operand (post_layer p) (syn_layer p) arg_layer next_layer (Post-F.Attr w))

pub next_of-right : (p : Place) (n : Next) (m : Made) → (next_of p n).right m ≡ eval_of p n.right m
unfolding eval_of next_of
next_of-right p n m = ap (λ o. o.right m) (fold_out-Next Step Eval Argument Operand (post_layer p) (syn_layer p) arg_layer next_layer n)

pub next_of-op : (p : Place) (n : Next) → (next_of p n).op ≡ n.op
unfolding next_of
next_of-op p n = ap (λ o. o.op) (fold_out-Next Step Eval Argument Operand (post_layer p) (syn_layer p) arg_layer next_layer n)

pub arg_of-value : (p : Place) (a : Arg) (m : Made) → (arg_of p a).value m ≡ eval_of p a.value m
unfolding eval_of arg_of
arg_of-value p a m = ap (λ x. x.value m) (fold_out-Arg Step Eval Argument Operand (post_layer p) (syn_layer p) arg_layer next_layer a)

pub arg_of-name : (p : Place) (a : Arg) → (arg_of p a).name ≡ a.name
unfolding arg_of
arg_of-name p a = ap (λ x. x.name) (fold_out-Arg Step Eval Argument Operand (post_layer p) (syn_layer p) arg_layer next_layer a)

pub ruleset readings = (eval_of-Name, eval_of-Number, eval_of-Text, eval_of-Tuple, eval_of-List, eval_of-Sign, eval_of-Binary, eval_of-Postfix, post_of-Call, post_of-Index, post_of-Attr, next_of-right, next_of-op, arg_of-value, arg_of-name)

-- ---- bare names, and lists in brackets
pub name_in-Name : (file : List ℕ) (w : Span) → name_in file (s.Name w) ≡ Some (word_at file w)
unfolding name_in
name_in-Name file w = ap (λ e. bare_name file (out-Syn e)) (sym (s.rolls-Name w)) ∙ ap (bare_name file) (out-roll-Syn (Syn-F.Name w))

pub list_in-Name : (w : Span) → list_in (Some (s.Name w)) ≡ None
list_in-Name w = ap (λ e. listed (out-Syn e)) (sym (s.rolls-Name w)) ∙ ap listed (out-roll-Syn (Syn-F.Name w))

pub name_in-Number : (file : List ℕ) (w : Span) → name_in file (s.Number w) ≡ None
unfolding name_in
name_in-Number file w = ap (λ e. bare_name file (out-Syn e)) (sym (s.rolls-Number w)) ∙ ap (bare_name file) (out-roll-Syn (Syn-F.Number w))

pub list_in-Number : (w : Span) → list_in (Some (s.Number w)) ≡ None
list_in-Number w = ap (λ e. listed (out-Syn e)) (sym (s.rolls-Number w)) ∙ ap listed (out-roll-Syn (Syn-F.Number w))

pub name_in-Text : (file : List ℕ) (w : Span) → name_in file (s.Text w) ≡ None
unfolding name_in
name_in-Text file w = ap (λ e. bare_name file (out-Syn e)) (sym (s.rolls-Text w)) ∙ ap (bare_name file) (out-roll-Syn (Syn-F.Text w))

pub list_in-Text : (w : Span) → list_in (Some (s.Text w)) ≡ None
list_in-Text w = ap (λ e. listed (out-Syn e)) (sym (s.rolls-Text w)) ∙ ap listed (out-roll-Syn (Syn-F.Text w))

pub name_in-Tuple : (file : List ℕ) (w : Span) (es : List Syn) → name_in file (s.Tuple w es) ≡ None
unfolding name_in
name_in-Tuple file w es = ap (λ e. bare_name file (out-Syn e)) (sym (s.rolls-Tuple w es)) ∙ ap (bare_name file) (out-roll-Syn (Syn-F.Tuple w es))

pub list_in-Tuple : (w : Span) (es : List Syn) → list_in (Some (s.Tuple w es)) ≡ None
list_in-Tuple w es = ap (λ e. listed (out-Syn e)) (sym (s.rolls-Tuple w es)) ∙ ap listed (out-roll-Syn (Syn-F.Tuple w es))

pub name_in-List : (file : List ℕ) (w : Span) (es : List Syn) → name_in file (s.List w es) ≡ None
unfolding name_in
name_in-List file w es = ap (λ e. bare_name file (out-Syn e)) (sym (s.rolls-List w es)) ∙ ap (bare_name file) (out-roll-Syn (Syn-F.List w es))

pub list_in-List : (w : Span) (es : List Syn) → list_in (Some (s.List w es)) ≡ Some es
list_in-List w es = ap (λ e. listed (out-Syn e)) (sym (s.rolls-List w es)) ∙ ap listed (out-roll-Syn (Syn-F.List w es))

pub name_in-Sign : (file : List ℕ) (w : Span) (e : Syn) → name_in file (s.Sign w e) ≡ None
unfolding name_in
name_in-Sign file w e = ap (λ e. bare_name file (out-Syn e)) (sym (s.rolls-Sign w e)) ∙ ap (bare_name file) (out-roll-Syn (Syn-F.Sign w e))

pub list_in-Sign : (w : Span) (e : Syn) → list_in (Some (s.Sign w e)) ≡ None
list_in-Sign w e = ap (λ e. listed (out-Syn e)) (sym (s.rolls-Sign w e)) ∙ ap listed (out-roll-Syn (Syn-F.Sign w e))

pub name_in-Binary : (file : List ℕ) (e : Syn) (ns : List Next) → name_in file (s.Binary e ns) ≡ None
unfolding name_in
name_in-Binary file e ns = ap (λ e. bare_name file (out-Syn e)) (sym (s.rolls-Binary e ns)) ∙ ap (bare_name file) (out-roll-Syn (Syn-F.Binary e ns))

pub list_in-Binary : (e : Syn) (ns : List Next) → list_in (Some (s.Binary e ns)) ≡ None
list_in-Binary e ns = ap (λ e. listed (out-Syn e)) (sym (s.rolls-Binary e ns)) ∙ ap listed (out-roll-Syn (Syn-F.Binary e ns))

pub name_in-Postfix : (file : List ℕ) (e : Syn) (ps : List Post) → name_in file (s.Postfix e ps) ≡ None
unfolding name_in
name_in-Postfix file e ps = ap (λ e. bare_name file (out-Syn e)) (sym (s.rolls-Postfix e ps)) ∙ ap (bare_name file) (out-roll-Syn (Syn-F.Postfix e ps))

pub list_in-Postfix : (e : Syn) (ps : List Post) → list_in (Some (s.Postfix e ps)) ≡ None
list_in-Postfix e ps = ap (λ e. listed (out-Syn e)) (sym (s.rolls-Postfix e ps)) ∙ ap listed (out-roll-Syn (Syn-F.Postfix e ps))

pub ruleset name_readings = (name_in-Name, name_in-Number, name_in-Text, name_in-Tuple, name_in-List, name_in-Sign, name_in-Binary, name_in-Postfix)

pub ruleset list_readings = (list_in-Name, list_in-Number, list_in-Text, list_in-Tuple, list_in-List, list_in-Sign, list_in-Binary, list_in-Postfix)
