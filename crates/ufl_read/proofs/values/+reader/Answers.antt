use Rattle.std.proofs.Common.{[], ◌∷◌, ◌++◌, ◌≡◌, ◌∙◌, sym, ap, subst, refl, false, true, arith, drop, ◌+◌}
use Rattle.std.proofs.lemmas.Result.{err_from_is_err_and}
use Rattle.ufl_syntax.specs.declared.class.Class.TheVariants as k
use Rattle.ufl_syntax.specs.declared.tree.Syn.TheVariants as s
use Rattle.ufl_syntax.specs.Grammar.{positional, chain, applied, plain, postfix, no_post, Postfix, Posts, Signed, Args, single, Atom, a_name, a_number, a_text}
use Rattle.ufl_syntax.specs.Machine.{part_on, comma_on, a_value, a_later, after_sum, a_signed, a_power, a_postfix, posts, a_post, args, after_arg, an_arg, a_word, is_first, is_post, post_on, an_atom, token}
use Rattle.ufl_syntax.proofs.Words.{same_is}
use Rattle.ufl_syntax.proofs.Complete.{value_begins, postfix_begins, posts_begins, posts_skip, later_begins, args_begins}
use Rattle.ufl_read.proofs.Turns.{short_run, short_at, end_at, skip_at, take_at, stop_at, sink_at, sunk, along, goes_on, comma_not, atom_deep, atom_open, list_deep, list_open, list_at, atom_wrong, Keyed, NotKeyed, keyed_at, keyed_arg, keyed_run, unkeyed, not_assign_some, not_assign_none, heads_at, signed_deep, signed_open, plain_at, power_not, power_deep, power_open, signed_at, power_at, postfix_at, posted_at, later_not, args_not, later_end, later_last, later_more, args_end, args_last, args_more, tuple_at, post_deep, post_open, index_deep, index_open, post_wrong, call_at, index_at, attr_at, bracketed_at}
use Rattle.ufl_read.specs.Levels.{IsChain, IsOperand, a_chain, an_operand, joined}
use Rattle.ufl_read.proofs.LevelLaws.{Joined, joined_empty, joined_moved, joined_moves, operand_moved, chain_moves, chain_begins, chain_alone, not_joined, joins_on, chain_at, joined_at}
use Rattle.ufl_read.proofs.values.+reader.Goals as goal
use Rattle.ufl_read.proofs.values.+reader.Goals.{argument-in-Some-peek, argument-in-None}

-- atom

pub atom-returns-in_default : goal.atom-returns-in_default
atom-returns-in_default t c = λ stack. short_at (an_atom c.args.room) stack _ c.in_default.ensures refl

pub atom-returns-in_err-inside-in-Open : goal.atom-returns-in_err-inside-in-Open
atom-returns-in_err-inside-in-Open t c =
    let p = err_from_is_err_and c.from_residual.result c.from_residual.ensures.1 in
    rw (p.1, p.2) (λ stack. sunk c.args.tokens.now _ c.args.at _ c.in_err-inside-in-Open.ensures.1
    (sink_at (an_atom c.args.room) stack _ c.in-Some.first _ c.in-Some.ensures.0 (atom_deep c.args.room c.in-Some.first.class c.in_err-inside-in-Open.ensures.0 c.in-Open.is)))

pub atom-returns-in_err-inner-in-Open : goal.atom-returns-in_err-inner-in-Open
atom-returns-in_err-inner-in-Open t c =
    let p = err_from_is_err_and c.from_residual-in_err-inner-in-Open.result c.from_residual-in_err-inner-in-Open.ensures.1 in
    let m = c.in_ok-inside-in-Open.inside in
    rw (p.1, p.2) (λ stack. along c.args.tokens.now _ _ _
    (take_at (an_atom c.args.room) stack _ c.in-Some.first _ (a_value m ∷ token k.Close ∷ []) c.in-Some.ensures.0 (atom_open c.args.room m c.in-Some.first.class c.in_ok-inside-in-Open.ensures c.in-Open.is))
    (c.in_err-inner-in-Open.ensures (token k.Close ∷ stack)))

pub atom-returns-in_err-_close-in-Open : goal.atom-returns-in_err-_close-in-Open
atom-returns-in_err-_close-in-Open t c =
    let p = err_from_is_err_and c.from_residual-in_err-_close-in-Open.result c.from_residual-in_err-_close-in-Open.ensures.1 in
    let m = c.in_ok-inside-in-Open.inside in
    rw (p.1, p.2) (λ stack. along c.args.tokens.now _ _ _
    (take_at (an_atom c.args.room) stack _ c.in-Some.first _ (a_value m ∷ token k.Close ∷ []) c.in-Some.ensures.0 (atom_open c.args.room m c.in-Some.first.class c.in_ok-inside-in-Open.ensures c.in-Open.is)
    ∙ c.in_ok-inner-in-Open.ensures.2 (token k.Close ∷ stack))
    (c.in_err-_close-in-Open.ensures stack))

pub atom-returns-in-Name : goal.atom-returns-in-Name
atom-returns-in-Name t c = (
  omega arith,
  subst (λ ts. Atom c.args.room ts (s.Name c.in-Some.first.span) (drop (c.args.at + 1) c.args.tokens.now)) (sym c.in-Some.ensures.0) (a_name c.in-Name.is),
  λ stack. take_at (an_atom c.args.room) stack _ c.in-Some.first _ [] c.in-Some.ensures.0 (ap (λ j. part_on (an_atom c.args.room) j) c.in-Name.is),
)

pub atom-returns-in-Number : goal.atom-returns-in-Number
atom-returns-in-Number t c = (
  omega arith,
  subst (λ ts. Atom c.args.room ts (s.Number c.in-Some.first.span) (drop (c.args.at + 1) c.args.tokens.now)) (sym c.in-Some.ensures.0) (a_number c.in-Number.is),
  λ stack. take_at (an_atom c.args.room) stack _ c.in-Some.first _ [] c.in-Some.ensures.0 (ap (λ j. part_on (an_atom c.args.room) j) c.in-Number.is),
)

pub atom-returns-in_ok-_close-in-Open : goal.atom-returns-in_ok-_close-in-Open
atom-returns-in_ok-_close-in-Open t c =
    let m = c.in_ok-inside-in-Open.inside in
    let v = c.in_ok-inner-in-Open.ensures in
    let x = c.in_ok-_close-in-Open.ensures in (
      omega (arith, v.0, x.0),
      bracketed_at c.args.room m _ _ _ _ c.in-Some.first _ _ c.in_ok-inside-in-Open.ensures c.in-Open.is c.in-Some.ensures.0 v.1 x.1.0 (sym (same_is k.Close _ x.1.1)),
      λ stack.
          take_at (an_atom c.args.room) stack _ c.in-Some.first _ (a_value m ∷ token k.Close ∷ []) c.in-Some.ensures.0 (atom_open c.args.room m c.in-Some.first.class c.in_ok-inside-in-Open.ensures c.in-Open.is)
          ∙ v.2 (token k.Close ∷ stack) ∙ x.2 stack,
    )

pub atom-returns-in_default-class : goal.atom-returns-in_default-class
atom-returns-in_default-class t c =
    λ stack. stop_at (an_atom c.args.room) stack _ c.in-Some.first _ c.in-Some.ensures.0 (atom_wrong c.args.room c.in-Some.first.class c.in_default-class.not-Name c.in_default-class.not-Number c.in_default-class.not-Text c.in_default-class.not-Open c.in_default-class.not-OpenList)

-- chains

pub chain-returns-in_err-first : goal.chain-returns-in_err-first
chain-returns-in_err-first t c =
    let p = err_from_is_err_and c.from_residual.result c.from_residual.ensures.1 in
    rw (p.1, p.2) (λ stack. along c.args.tokens.now _ _ _ (chain_begins c.args.level c.args.room stack _) (c.in_err-first.ensures (joined c.args.level c.args.room ∷ stack)))

pub chain-returns-in_default : goal.chain-returns-in_default
chain-returns-in_default t c =
    let first = c.in_ok-first.ensures in
    let part = joined c.args.level c.args.room in (
      chain_moves c.args.level c.args.room _ _ (operand_moved c.args.level c.args.room _ _ first.0),
      chain_alone c.args.level c.args.room _ _ _ first.1,
      λ stack. chain_begins c.args.level c.args.room stack _ ∙ first.2 (part ∷ stack) ∙ end_at part stack _ c.in_default.ensures (joined_empty c.args.level c.args.room),
    )

pub chain-returns-then-not-joins : goal.chain-returns-then-not-joins
chain-returns-then-not-joins t c =
    let first = c.in_ok-first.ensures in
    let part = joined c.args.level c.args.room in (
      chain_moves c.args.level c.args.room _ _ (operand_moved c.args.level c.args.room _ _ first.0),
      chain_alone c.args.level c.args.room _ _ _ first.1,
      λ stack. chain_begins c.args.level c.args.room stack _ ∙ first.2 (part ∷ stack)
          ∙ skip_at part stack _ c.in-Some.op _ c.in-Some.ensures.0 (not_joined c.args.level c.args.room c.in-Some.op.class (sym c.joins.ensures ∙ c.if-not-joins.true)),
    )

pub chain-returns : goal.chain-returns
chain-returns t c =
    let first = c.in_ok-first.ensures in
    let level = c.args.level in
    let room = c.args.room in
    goes_on (IsOperand level room) (IsChain level room) (a_chain level room) (joined level room) c.args.tokens.now c.args.from c.in_ok-first.past c.in_ok-first.first _
    (λ end moved. chain_moves level room _ end (omega (arith, operand_moved level room _ _ first.0, joined_moved level room _ end moved))) first.1
    (λ stack. chain_begins level room stack _ ∙ first.2 (joined level room ∷ stack)) c.chain_from.ensures

-- the rest of a chain

pub chain_from-all-init : goal.chain_from-all-init
chain_from-all-init t c = (
  omega arith,
  λ ns rest h. subst (λ l. Joined c.args.level c.args.room (drop c.args.from c.args.tokens.now) (l ++ ns) rest) (sym c.new-chain.ensures) h,
  λ stack. refl,
  refl,
)

pub chain_from-returns-in_default : goal.chain_from-returns-in_default
chain_from-returns-in_default t c =
    let part = joined c.args.level c.args.room in (
      joined_moves c.args.level c.args.room _ _ (omega (arith, c.all.invariant.0)),
      λ start first. chain_at c.args.level c.args.room _ _ _ _ _ _ (c.in_ok-chained.ensures ∙ ap (λ e. chain e c.all.chain) c.all.invariant.3) first c.all.invariant.1,
      λ stack. c.all.invariant.2 stack ∙ end_at part stack _ c.in_default.ensures (joined_empty c.args.level c.args.room),
    )

pub chain_from-returns-then-not-joins : goal.chain_from-returns-then-not-joins
chain_from-returns-then-not-joins t c =
    let part = joined c.args.level c.args.room in (
      joined_moves c.args.level c.args.room _ _ (omega (arith, c.all.invariant.0)),
      λ start first. chain_at c.args.level c.args.room _ _ _ _ _ _ (c.in_ok-chained-2.ensures ∙ ap (λ e. chain e c.all.chain) c.all.invariant.3) first c.all.invariant.1,
      λ stack. c.all.invariant.2 stack
          ∙ skip_at part stack _ c.in-Some.op _ c.in-Some.ensures.0 (not_joined c.args.level c.args.room c.in-Some.op.class (sym c.joins.ensures ∙ c.if-not-joins.true)),
    )

pub chain_from-returns-in_err-right : goal.chain_from-returns-in_err-right
chain_from-returns-in_err-right t c =
    let p = err_from_is_err_and c.from_residual-in_err-right.result c.from_residual-in_err-right.ensures.1 in
    let part = joined c.args.level c.args.room in
    rw (p.1, p.2) (λ stack. along c.args.tokens.now _ _ _
    (c.all.invariant.2 stack
    ∙ take_at part stack _ c.in-Some.op _ (an_operand c.args.level c.args.room ∷ part ∷ []) c.in-Some.ensures.0 (joins_on c.args.level c.args.room c.in-Some.op.class (sym c.joins.ensures ∙ c.if-not-joins.false)))
    (c.in_err-right.ensures (part ∷ stack)))

pub chain_from-all-smaller : goal.chain_from-all-smaller
chain_from-all-smaller t c = omega (arith, c.in-Some.ensures.1, operand_moved c.args.level c.args.room _ _ c.in_ok-right.ensures.0)

pub chain_from-all-preserved : goal.chain_from-all-preserved
chain_from-all-preserved t c =
    let right = c.in_ok-right.ensures in
    let part = joined c.args.level c.args.room in
    let is_joined = sym c.joins.ensures ∙ c.if-not-joins.false in (
      omega (arith, c.all.invariant.0, operand_moved c.args.level c.args.room _ _ right.0),
      λ ns rest h. joined_at c.args.level c.args.room _ _ _ _ _ _ _ _ _ _ c.in_ok-add.ensures c.in-Some.ensures.0 is_joined right.1 h (c.all.invariant.1 _ rest),
      λ stack. c.all.invariant.2 stack
          ∙ take_at part stack _ c.in-Some.op _ (an_operand c.args.level c.args.room ∷ part ∷ []) c.in-Some.ensures.0 (joins_on c.args.level c.args.room c.in-Some.op.class is_joined)
          ∙ right.2 (part ∷ stack),
      c.all.invariant.3,
    )

pub term-returns-in-Some : goal.term-returns-in-Some
term-returns-in-Some t c =
    let short = c.in-Some.ensures.term c.args.room in
    (omega arith, short, λ stack. short_run c.args.room _ _ _ stack short c.in-Some.ensures.ended)

-- value

pub value-returns-in_err-first : goal.value-returns-in_err-first
value-returns-in_err-first t c =
    let p = err_from_is_err_and c.from_residual.result c.from_residual.ensures.1 in
    rw (p.1, p.2) (λ stack. along c.args.tokens.now _ _ _ (value_begins c.args.room stack _) (c.in_err-first.ensures (after_sum c.args.room ∷ stack)))

pub value-returns-in_default : goal.value-returns-in_default
value-returns-in_default t c =
    let first = c.in_ok-first.ensures in
    (first.0, single first.1, λ stack. value_begins c.args.room stack _ ∙ first.2 (after_sum c.args.room ∷ stack) ∙ end_at (after_sum c.args.room) stack _ c.in_default.ensures refl)

pub value-returns-then-not-same : goal.value-returns-then-not-same
value-returns-then-not-same t c =
    let first = c.in_ok-first.ensures in (
      first.0,
      single first.1,
      λ stack. value_begins c.args.room stack _ ∙ first.2 (after_sum c.args.room ∷ stack)
          ∙ skip_at (after_sum c.args.room) stack _ c.in-Some.comma _ c.in-Some.ensures.0 (comma_not (a_later c.args.room) c.in-Some.comma.class (sym c.same.ensures ∙ c.if-not-same.true)),
    )

pub value-returns-in_err-items : goal.value-returns-in_err-items
value-returns-in_err-items t c =
    let p = err_from_is_err_and c.from_residual-in_err-items.result c.from_residual-in_err-items.ensures.1 in
    rw (p.1, p.2) (λ stack. along c.args.tokens.now _ _ _
    (value_begins c.args.room stack _ ∙ c.in_ok-first.ensures.2 (after_sum c.args.room ∷ stack)
    ∙ take_at (after_sum c.args.room) stack _ c.in-Some.comma _ (a_later c.args.room ∷ []) c.in-Some.ensures.0 (ap (comma_on (a_later c.args.room)) (sym (same_is k.Comma c.in-Some.comma.class (sym c.same.ensures ∙ c.if-not-same.false)))))
    (c.in_err-items.ensures stack))

pub value-returns : goal.value-returns
value-returns t c =
    let first = c.in_ok-first.ensures in
    let items = c.in_ok-items.ensures in (
      omega (arith, first.0, items.0),
      tuple_at c.args.room _ _ _ _ c.in-Some.comma _ _ _ _ _ first.1 c.in-Some.ensures.0 (same_is k.Comma c.in-Some.comma.class (sym c.same.ensures ∙ c.if-not-same.false)) items.1.1 items.1.2 c.in_ok-add.ensures c.new-before.ensures,
      λ stack. value_begins c.args.room stack _ ∙ first.2 (after_sum c.args.room ∷ stack)
          ∙ take_at (after_sum c.args.room) stack _ c.in-Some.comma _ (a_later c.args.room ∷ []) c.in-Some.ensures.0 (ap (comma_on (a_later c.args.room)) (sym (same_is k.Comma c.in-Some.comma.class (sym c.same.ensures ∙ c.if-not-same.false))))
          ∙ items.2 stack,
    )

pub signed-returns-in_default : goal.signed-returns-in_default
signed-returns-in_default t c =
    λ stack. short_at (a_signed c.args.room) stack _ c.in_default.ensures refl

pub signed-returns-in_err-base : goal.signed-returns-in_err-base
signed-returns-in_err-base t c =
    let p = err_from_is_err_and c.from_residual.result c.from_residual.ensures.1 in
    rw (p.1, p.2) (λ stack. along c.args.tokens.now _ _ _ (plain_at c.args.room stack _ c.in-Some.first _ c.in-Some.ensures.0 (sym c.signs.ensures ∙ c.if-signs.false)) (c.in_err-base.ensures (a_power c.args.room ∷ stack)))

pub signed-returns-in_default-peek : goal.signed-returns-in_default-peek
signed-returns-in_default-peek t c =
    let base = c.in_ok-base.ensures in
    (base.0, plain base.1, λ stack. plain_at c.args.room stack _ c.in-Some.first _ c.in-Some.ensures.0 (sym c.signs.ensures ∙ c.if-signs.false) ∙ base.2 (a_power c.args.room ∷ stack) ∙ end_at (a_power c.args.room) stack _ c.in_default-peek.ensures refl)

pub signed-returns-then-not-same : goal.signed-returns-then-not-same
signed-returns-then-not-same t c =
    let base = c.in_ok-base.ensures in (
      base.0,
      plain base.1,
      λ stack. plain_at c.args.room stack _ c.in-Some.first _ c.in-Some.ensures.0 (sym c.signs.ensures ∙ c.if-signs.false) ∙ base.2 (a_power c.args.room ∷ stack)
          ∙ skip_at (a_power c.args.room) stack _ c.in-Some-peek.op _ c.in-Some-peek.ensures.0 (power_not c.args.room c.in-Some-peek.op.class (sym c.same.ensures ∙ c.if-not-same.true)),
    )

pub signed-returns : goal.signed-returns
signed-returns t c =
    let base = c.in_ok-base.ensures in
    let room = c.args.room in
    goes_on (Postfix room) (Signed room) (a_signed room) (a_power room) c.args.tokens.now c.args.at c.in_ok-base.past c.in_ok-base.base _
    (λ end moved. omega (arith, base.0, moved)) base.1
    (λ stack. plain_at room stack _ c.in-Some.first _ c.in-Some.ensures.0 (sym c.signs.ensures ∙ c.if-signs.false) ∙ base.2 (a_power room ∷ stack)) c.power_of.ensures

-- a sign

pub sign_of-returns-in_err-inside : goal.sign_of-returns-in_err-inside
sign_of-returns-in_err-inside t c =
    let p = err_from_is_err_and c.from_residual.result c.from_residual.ensures.1 in
    rw (p.1, p.2) (λ stack. sunk c.args.tokens.now _ c.args.at _ c.in_err-inside.ensures.1
    (sink_at (a_signed c.args.room) stack _ c.args.sign _ c.requires.here.0 (signed_deep c.args.room c.args.sign.class c.in_err-inside.ensures.0 c.requires.signs)))

pub sign_of-returns-in_err-inner : goal.sign_of-returns-in_err-inner
sign_of-returns-in_err-inner t c =
    let p = err_from_is_err_and c.from_residual-in_err-inner.result c.from_residual-in_err-inner.ensures.1 in
    rw (p.1, p.2) (λ stack. along c.args.tokens.now _ _ _
    (take_at (a_signed c.args.room) stack _ c.args.sign _ (a_signed c.in_ok-inside.inside ∷ []) c.requires.here.0 (signed_open c.args.room c.in_ok-inside.inside c.args.sign.class c.in_ok-inside.ensures c.requires.signs))
    (c.in_err-inner.ensures stack))

pub sign_of-returns : goal.sign_of-returns
sign_of-returns t c =
    let inner = c.in_ok-inner.ensures in (
      omega (arith, inner.0),
      signed_at c.args.room c.in_ok-inside.inside _ _ _ c.args.sign _ _ c.in_ok-inside.ensures c.requires.signs c.requires.here.0 inner.1 c.in_ok-new.ensures,
      λ stack. take_at (a_signed c.args.room) stack _ c.args.sign _ (a_signed c.in_ok-inside.inside ∷ []) c.requires.here.0 (signed_open c.args.room c.in_ok-inside.inside c.args.sign.class c.in_ok-inside.ensures c.requires.signs) ∙ inner.2 stack,
    )

-- a power

pub power_of-returns-in_err-inside : goal.power_of-returns-in_err-inside
power_of-returns-in_err-inside t c =
    let p = err_from_is_err_and c.from_residual.result c.from_residual.ensures.1 in
    rw (p.1, p.2) (λ stack. sunk c.args.tokens.now _ c.args.at _ c.in_err-inside.ensures.1
    (sink_at (a_power c.args.room) stack _ c.args.op _ c.requires.here.0 (power_deep c.args.room c.args.op.class c.in_err-inside.ensures.0 (sym c.requires.power))))

pub power_of-returns-in_err-right : goal.power_of-returns-in_err-right
power_of-returns-in_err-right t c =
    let p = err_from_is_err_and c.from_residual-in_err-right.result c.from_residual-in_err-right.ensures.1 in
    rw (p.1, p.2) (λ stack. along c.args.tokens.now _ _ _
    (take_at (a_power c.args.room) stack _ c.args.op _ (a_signed c.in_ok-inside.inside ∷ []) c.requires.here.0 (power_open c.args.room c.in_ok-inside.inside c.args.op.class c.in_ok-inside.ensures (sym c.requires.power)))
    (c.in_err-right.ensures stack))

pub power_of-returns : goal.power_of-returns
power_of-returns t c =
    let right = c.in_ok-right.ensures in (
      omega (arith, right.0),
      λ start base. power_at c.args.room c.in_ok-inside.inside _ _ _ _ c.args.op _ _ _ _ _ c.in_ok-inside.ensures base c.requires.here.0 (sym c.requires.power) right.1 c.in_ok-new.ensures c.in_ok-add.ensures c.new-chain.ensures,
      λ stack. take_at (a_power c.args.room) stack _ c.args.op _ (a_signed c.in_ok-inside.inside ∷ []) c.requires.here.0 (power_open c.args.room c.in_ok-inside.inside c.args.op.class c.in_ok-inside.ensures (sym c.requires.power)) ∙ right.2 stack,
    )

pub postfix-returns-in_err-first : goal.postfix-returns-in_err-first
postfix-returns-in_err-first t c =
    let p = err_from_is_err_and c.from_residual.result c.from_residual.ensures.1 in
    rw (p.1, p.2) (λ stack. along c.args.tokens.now _ _ _ (postfix_begins c.args.room stack _) (c.in_err-first.ensures (posts c.args.room ∷ stack)))

pub postfix-returns-in_default : goal.postfix-returns-in_default
postfix-returns-in_default t c =
    let first = c.in_ok-first.ensures in
    (first.0, postfix first.1 no_post, λ stack. postfix_begins c.args.room stack _ ∙ first.2 (posts c.args.room ∷ stack) ∙ end_at (posts c.args.room) stack _ c.in_default.ensures refl)

pub postfix-returns-then-not-follows : goal.postfix-returns-then-not-follows
postfix-returns-then-not-follows t c =
    let first = c.in_ok-first.ensures in (
      first.0,
      postfix first.1 no_post,
      λ stack. postfix_begins c.args.room stack _ ∙ first.2 (posts c.args.room ∷ stack) ∙ skip_at (posts c.args.room) stack _ c.in-Some.next _ c.in-Some.ensures.0 (posts_skip c.args.room c.in-Some.next.class (sym c.follows.ensures ∙ c.if-not-follows.true)),
    )

pub postfix-returns : goal.postfix-returns
postfix-returns t c =
    let first = c.in_ok-first.ensures in
    let room = c.args.room in
    goes_on (Atom room) (Postfix room) (a_postfix room) (posts room) c.args.tokens.now c.args.from c.in_ok-first.past c.in_ok-first.first _
    (λ end moved. omega (arith, first.0, moved)) first.1
    (λ stack. postfix_begins room stack _ ∙ first.2 (posts room ∷ stack)) c.postfix_from.ensures

-- the rest of a postfix

pub postfix_from-all-init : goal.postfix_from-all-init
postfix_from-all-init t c =
    (omega arith, λ ps rest h. subst (λ l. Posts c.args.room (drop c.args.from c.args.tokens.now) (l ++ ps) rest) (sym c.new-all.ensures) h, λ stack. refl, refl)

pub postfix_from-returns-in_default : goal.postfix_from-returns-in_default
postfix_from-returns-in_default t c = (
  omega (arith, c.all.invariant.0),
  λ start first. postfix_at c.args.room _ _ _ _ _ _ (c.in_ok-applied.ensures ∙ ap (λ e. applied e c.all.all) c.all.invariant.3) first c.all.invariant.1,
  λ stack. c.all.invariant.2 stack ∙ end_at (posts c.args.room) stack _ c.in_default.ensures refl,
)

pub postfix_from-returns-then-not-follows : goal.postfix_from-returns-then-not-follows
postfix_from-returns-then-not-follows t c = (
  omega (arith, c.all.invariant.0),
  λ start first. postfix_at c.args.room _ _ _ _ _ _ (c.in_ok-applied-2.ensures ∙ ap (λ e. applied e c.all.all) c.all.invariant.3) first c.all.invariant.1,
  λ stack. c.all.invariant.2 stack ∙ skip_at (posts c.args.room) stack _ c.in-Some.next _ c.in-Some.ensures.0 (posts_skip c.args.room c.in-Some.next.class (sym c.follows.ensures ∙ c.if-not-follows.true)),
)

pub postfix_from-returns-in_err-one : goal.postfix_from-returns-in_err-one
postfix_from-returns-in_err-one t c =
    let p = err_from_is_err_and c.from_residual-in_err-one.result c.from_residual-in_err-one.ensures.1 in
    rw (p.1, p.2) (λ stack. along c.args.tokens.now _ _ _
    (c.all.invariant.2 stack ∙ posts_begins c.args.room stack _ (heads_at is_post true _ c.in-Some.next _ c.in-Some.ensures.0 (sym c.follows.ensures ∙ c.if-not-follows.false)))
    (c.in_err-one.ensures (posts c.args.room ∷ stack)))

pub postfix_from-all-preserved : goal.postfix_from-all-preserved
postfix_from-all-preserved t c =
    let one = c.in_ok-one.ensures in (
      omega (arith, c.all.invariant.0, one.0),
      λ ps rest h. posted_at c.args.room _ _ _ _ _ _ _ _ c.in_ok-add.ensures one.1 h (c.all.invariant.1 _ rest),
      λ stack. c.all.invariant.2 stack ∙ posts_begins c.args.room stack _ (heads_at is_post true _ c.in-Some.next _ c.in-Some.ensures.0 (sym c.follows.ensures ∙ c.if-not-follows.false)) ∙ one.2 (posts c.args.room ∷ stack),
      c.all.invariant.3,
    )

pub later-all-init : goal.later-all-init
later-all-init t c =
    (omega arith, λ es rest h. (es, h, refl), λ stack. refl)

pub later-returns-in_default : goal.later-returns-in_default
later-returns-in_default t c =
    (c.all.invariant.0, later_end c.args.room _ _ _ _ c.all.invariant.1, λ stack. c.all.invariant.2 stack ∙ end_at (a_later c.args.room) stack _ c.in_default.ensures refl)

pub later-returns-then-not-starts : goal.later-returns-then-not-starts
later-returns-then-not-starts t c = (
  c.all.invariant.0,
  later_end c.args.room _ _ _ _ c.all.invariant.1,
  λ stack. c.all.invariant.2 stack ∙ skip_at (a_later c.args.room) stack _ c.in-Some.first _ c.in-Some.ensures.0 (later_not c.args.room c.in-Some.first.class (sym c.starts.ensures ∙ c.if-not-starts.true)),
)

pub later-returns-in_err-item : goal.later-returns-in_err-item
later-returns-in_err-item t c =
    let p = err_from_is_err_and c.from_residual.result c.from_residual.ensures.1 in
    rw (p.1, p.2) (λ stack. along c.args.tokens.now _ _ _ (c.all.invariant.2 stack ∙ later_begins c.args.room stack _ (heads_at is_first true _ c.in-Some.first _ c.in-Some.ensures.0 (sym c.starts.ensures ∙ c.if-not-starts.false))) (c.in_err-item.ensures (after_sum c.args.room ∷ stack)))

pub later-returns-in_default-peek : goal.later-returns-in_default-peek
later-returns-in_default-peek t c = (
  omega (arith, c.all.invariant.0, c.in_ok-item.ensures.0),
  later_last c.args.room _ _ _ _ _ _ _ c.in_ok-add.ensures c.in_ok-item.ensures.1 c.all.invariant.1,
  λ stack. c.all.invariant.2 stack ∙ later_begins c.args.room stack _ (heads_at is_first true _ c.in-Some.first _ c.in-Some.ensures.0 (sym c.starts.ensures ∙ c.if-not-starts.false)) ∙ c.in_ok-item.ensures.2 (after_sum c.args.room ∷ stack) ∙ end_at (after_sum c.args.room) stack _ c.in_default-peek.ensures refl,
)

pub later-returns-then-not-same : goal.later-returns-then-not-same
later-returns-then-not-same t c = (
  omega (arith, c.all.invariant.0, c.in_ok-item.ensures.0),
  later_last c.args.room _ _ _ _ _ _ _ c.in_ok-add.ensures c.in_ok-item.ensures.1 c.all.invariant.1,
  λ stack. c.all.invariant.2 stack ∙ later_begins c.args.room stack _ (heads_at is_first true _ c.in-Some.first _ c.in-Some.ensures.0 (sym c.starts.ensures ∙ c.if-not-starts.false)) ∙ c.in_ok-item.ensures.2 (after_sum c.args.room ∷ stack)
      ∙ skip_at (after_sum c.args.room) stack _ c.in-Some-peek.comma _ c.in-Some-peek.ensures.0 (comma_not (a_later c.args.room) c.in-Some-peek.comma.class (sym c.same.ensures ∙ c.if-not-same.true)),
)

pub later-all-smaller : goal.later-all-smaller
later-all-smaller t c =
    omega (arith, c.in_ok-item.ensures.0, c.in-Some-peek.ensures.1)

pub later-all-preserved : goal.later-all-preserved
later-all-preserved t c = (
  omega (arith, c.all.invariant.0, c.in_ok-item.ensures.0),
  later_more c.args.room _ _ _ _ c.in-Some-peek.comma _ _ _ _ c.in_ok-add.ensures c.in_ok-item.ensures.1 c.in-Some-peek.ensures.0 (same_is k.Comma c.in-Some-peek.comma.class (sym c.same.ensures ∙ c.if-not-same.false)) c.all.invariant.1,
  λ stack. c.all.invariant.2 stack ∙ later_begins c.args.room stack _ (heads_at is_first true _ c.in-Some.first _ c.in-Some.ensures.0 (sym c.starts.ensures ∙ c.if-not-starts.false)) ∙ c.in_ok-item.ensures.2 (after_sum c.args.room ∷ stack)
      ∙ take_at (after_sum c.args.room) stack _ c.in-Some-peek.comma _ (a_later c.args.room ∷ []) c.in-Some-peek.ensures.0 (ap (comma_on (a_later c.args.room)) (sym (same_is k.Comma c.in-Some-peek.comma.class (sym c.same.ensures ∙ c.if-not-same.false)))),
)

pub arguments-all-init : goal.arguments-all-init
arguments-all-init t c =
    (omega arith, λ as_ rest h. subst (λ l. Args c.args.room (drop c.args.from c.args.tokens.now) (l ++ as_) rest) (sym c.new-all.ensures) h, λ stack. refl)

pub arguments-returns-in_default : goal.arguments-returns-in_default
arguments-returns-in_default t c =
    (c.all.invariant.0, args_end c.args.room _ _ _ c.all.invariant.1, λ stack. c.all.invariant.2 stack ∙ end_at (args c.args.room) stack _ c.in_default.ensures refl)

pub arguments-returns-then-not-starts : goal.arguments-returns-then-not-starts
arguments-returns-then-not-starts t c = (
  c.all.invariant.0,
  args_end c.args.room _ _ _ c.all.invariant.1,
  λ stack. c.all.invariant.2 stack ∙ skip_at (args c.args.room) stack _ c.in-Some.first _ c.in-Some.ensures.0 (args_not c.args.room c.in-Some.first.class (sym c.starts.ensures ∙ c.if-not-starts.true)),
)

pub arguments-returns-in_err-item : goal.arguments-returns-in_err-item
arguments-returns-in_err-item t c =
    let p = err_from_is_err_and c.from_residual.result c.from_residual.ensures.1 in
    rw (p.1, p.2) (λ stack. along c.args.tokens.now _ _ _ (c.all.invariant.2 stack ∙ args_begins c.args.room stack _ (heads_at is_first true _ c.in-Some.first _ c.in-Some.ensures.0 (sym c.starts.ensures ∙ c.if-not-starts.false))) (c.in_err-item.ensures (after_arg c.args.room ∷ stack)))

pub arguments-returns-in_default-peek : goal.arguments-returns-in_default-peek
arguments-returns-in_default-peek t c = (
  omega (arith, c.all.invariant.0, c.in_ok-item.ensures.0),
  args_last c.args.room _ _ _ _ _ _ c.in_ok-add.ensures c.in_ok-item.ensures.1 c.all.invariant.1,
  λ stack. c.all.invariant.2 stack ∙ args_begins c.args.room stack _ (heads_at is_first true _ c.in-Some.first _ c.in-Some.ensures.0 (sym c.starts.ensures ∙ c.if-not-starts.false)) ∙ c.in_ok-item.ensures.2 (after_arg c.args.room ∷ stack) ∙ end_at (after_arg c.args.room) stack _ c.in_default-peek.ensures refl,
)

pub arguments-returns-then-not-same : goal.arguments-returns-then-not-same
arguments-returns-then-not-same t c = (
  omega (arith, c.all.invariant.0, c.in_ok-item.ensures.0),
  args_last c.args.room _ _ _ _ _ _ c.in_ok-add.ensures c.in_ok-item.ensures.1 c.all.invariant.1,
  λ stack. c.all.invariant.2 stack ∙ args_begins c.args.room stack _ (heads_at is_first true _ c.in-Some.first _ c.in-Some.ensures.0 (sym c.starts.ensures ∙ c.if-not-starts.false)) ∙ c.in_ok-item.ensures.2 (after_arg c.args.room ∷ stack)
      ∙ skip_at (after_arg c.args.room) stack _ c.in-Some-peek.comma _ c.in-Some-peek.ensures.0 (comma_not (args c.args.room) c.in-Some-peek.comma.class (sym c.same.ensures ∙ c.if-not-same.true)),
)

pub arguments-all-smaller : goal.arguments-all-smaller
arguments-all-smaller t c =
    omega (arith, c.in_ok-item.ensures.0, c.in-Some-peek.ensures.1)

pub arguments-all-preserved : goal.arguments-all-preserved
arguments-all-preserved t c = (
  omega (arith, c.all.invariant.0, c.in_ok-item.ensures.0),
  args_more c.args.room _ _ _ _ c.in-Some-peek.comma _ _ _ c.in_ok-add.ensures c.in_ok-item.ensures.1 c.in-Some-peek.ensures.0 (same_is k.Comma c.in-Some-peek.comma.class (sym c.same.ensures ∙ c.if-not-same.false)) c.all.invariant.1,
  λ stack. c.all.invariant.2 stack ∙ args_begins c.args.room stack _ (heads_at is_first true _ c.in-Some.first _ c.in-Some.ensures.0 (sym c.starts.ensures ∙ c.if-not-starts.false)) ∙ c.in_ok-item.ensures.2 (after_arg c.args.room ∷ stack)
      ∙ take_at (after_arg c.args.room) stack _ c.in-Some-peek.comma _ (args c.args.room ∷ []) c.in-Some-peek.ensures.0 (ap (comma_on (args c.args.room)) (sym (same_is k.Comma c.in-Some-peek.comma.class (sym c.same.ensures ∙ c.if-not-same.false)))),
)

pub post-returns-in_default : goal.post-returns-in_default
post-returns-in_default t c =
    λ stack. short_at (a_post c.args.room) stack _ c.in_default.ensures refl

pub post-returns-in_err-inside-in-Open : goal.post-returns-in_err-inside-in-Open
post-returns-in_err-inside-in-Open t c =
    let p = err_from_is_err_and c.from_residual.result c.from_residual.ensures.1 in
    rw (p.1, p.2) (λ stack. sunk c.args.tokens.now _ c.args.at _ c.in_err-inside-in-Open.ensures.1
    (sink_at (a_post c.args.room) stack _ c.in-Some.first _ c.in-Some.ensures.0 (post_deep c.args.room c.in-Some.first.class c.in_err-inside-in-Open.ensures.0 c.in-Open.is)))

pub post-returns-in_err-given-in-Open : goal.post-returns-in_err-given-in-Open
post-returns-in_err-given-in-Open t c =
    let p = err_from_is_err_and c.from_residual-in_err-given-in-Open.result c.from_residual-in_err-given-in-Open.ensures.1 in
    rw (p.1, p.2) (λ stack. along c.args.tokens.now _ _ _ (take_at (a_post c.args.room) stack _ c.in-Some.first _ (args c.in_ok-inside-in-Open.inside ∷ token k.Close ∷ []) c.in-Some.ensures.0 (post_open c.args.room c.in_ok-inside-in-Open.inside c.in-Some.first.class c.in_ok-inside-in-Open.ensures c.in-Open.is)) (c.in_err-given-in-Open.ensures (token k.Close ∷ stack)))

pub post-returns-in_err-_close-in-Open : goal.post-returns-in_err-_close-in-Open
post-returns-in_err-_close-in-Open t c =
    let p = err_from_is_err_and c.from_residual-in_err-_close-in-Open.result c.from_residual-in_err-_close-in-Open.ensures.1 in
    rw (p.1, p.2) (λ stack. along c.args.tokens.now _ _ _ (take_at (a_post c.args.room) stack _ c.in-Some.first _ (args c.in_ok-inside-in-Open.inside ∷ token k.Close ∷ []) c.in-Some.ensures.0 (post_open c.args.room c.in_ok-inside-in-Open.inside c.in-Some.first.class c.in_ok-inside-in-Open.ensures c.in-Open.is) ∙ c.in_ok-given-in-Open.ensures.2 (token k.Close ∷ stack)) (c.in_err-_close-in-Open.ensures stack))

pub post-returns-in_ok-_close-in-Open : goal.post-returns-in_ok-_close-in-Open
post-returns-in_ok-_close-in-Open t c =
    let v = c.in_ok-given-in-Open.ensures in
    let x = c.in_ok-_close-in-Open.ensures in (
      omega (arith, v.0, x.0),
      call_at c.args.room c.in_ok-inside-in-Open.inside _ _ _ _ c.in-Some.first _ _ c.in_ok-inside-in-Open.ensures c.in-Open.is c.in-Some.ensures.0 v.1 x.1.0 (same_is k.Close _ x.1.1),
      λ stack. take_at (a_post c.args.room) stack _ c.in-Some.first _ (args c.in_ok-inside-in-Open.inside ∷ token k.Close ∷ []) c.in-Some.ensures.0 (post_open c.args.room c.in_ok-inside-in-Open.inside c.in-Some.first.class c.in_ok-inside-in-Open.ensures c.in-Open.is) ∙ v.2 (token k.Close ∷ stack) ∙ x.2 stack,
    )

pub post-returns-in_err-inside-in-OpenList : goal.post-returns-in_err-inside-in-OpenList
post-returns-in_err-inside-in-OpenList t c =
    let p = err_from_is_err_and c.from_residual-in_err-inside-in-OpenList.result c.from_residual-in_err-inside-in-OpenList.ensures.1 in
    rw (p.1, p.2) (λ stack. sunk c.args.tokens.now _ c.args.at _ c.in_err-inside-in-OpenList.ensures.1
    (sink_at (a_post c.args.room) stack _ c.in-Some.first _ c.in-Some.ensures.0 (index_deep c.args.room c.in-Some.first.class c.in_err-inside-in-OpenList.ensures.0 c.in-OpenList.is)))

pub post-returns-in_err-inner-in-OpenList : goal.post-returns-in_err-inner-in-OpenList
post-returns-in_err-inner-in-OpenList t c =
    let p = err_from_is_err_and c.from_residual-in_err-inner-in-OpenList.result c.from_residual-in_err-inner-in-OpenList.ensures.1 in
    rw (p.1, p.2) (λ stack. along c.args.tokens.now _ _ _ (take_at (a_post c.args.room) stack _ c.in-Some.first _ (a_value c.in_ok-inside-in-OpenList.inside ∷ token k.CloseList ∷ []) c.in-Some.ensures.0 (index_open c.args.room c.in_ok-inside-in-OpenList.inside c.in-Some.first.class c.in_ok-inside-in-OpenList.ensures c.in-OpenList.is)) (c.in_err-inner-in-OpenList.ensures (token k.CloseList ∷ stack)))

pub post-returns-in_err-_close-in-OpenList : goal.post-returns-in_err-_close-in-OpenList
post-returns-in_err-_close-in-OpenList t c =
    let p = err_from_is_err_and c.from_residual-in_err-_close-in-OpenList.result c.from_residual-in_err-_close-in-OpenList.ensures.1 in
    rw (p.1, p.2) (λ stack. along c.args.tokens.now _ _ _ (take_at (a_post c.args.room) stack _ c.in-Some.first _ (a_value c.in_ok-inside-in-OpenList.inside ∷ token k.CloseList ∷ []) c.in-Some.ensures.0 (index_open c.args.room c.in_ok-inside-in-OpenList.inside c.in-Some.first.class c.in_ok-inside-in-OpenList.ensures c.in-OpenList.is) ∙ c.in_ok-inner-in-OpenList.ensures.2 (token k.CloseList ∷ stack)) (c.in_err-_close-in-OpenList.ensures stack))

pub post-returns-in_ok-new-in-OpenList : goal.post-returns-in_ok-new-in-OpenList
post-returns-in_ok-new-in-OpenList t c =
    let v = c.in_ok-inner-in-OpenList.ensures in
    let x = c.in_ok-_close-in-OpenList.ensures in (
      omega (arith, v.0, x.0),
      index_at c.args.room c.in_ok-inside-in-OpenList.inside _ _ _ _ c.in-Some.first _ _ _ c.in_ok-inside-in-OpenList.ensures c.in-OpenList.is c.in-Some.ensures.0 v.1 x.1.0 (same_is k.CloseList _ x.1.1) c.in_ok-new-in-OpenList.ensures,
      λ stack. take_at (a_post c.args.room) stack _ c.in-Some.first _ (a_value c.in_ok-inside-in-OpenList.inside ∷ token k.CloseList ∷ []) c.in-Some.ensures.0 (index_open c.args.room c.in_ok-inside-in-OpenList.inside c.in-Some.first.class c.in_ok-inside-in-OpenList.ensures c.in-OpenList.is) ∙ v.2 (token k.CloseList ∷ stack) ∙ x.2 stack,
    )

pub post-returns-in_err-name-in-Dot : goal.post-returns-in_err-name-in-Dot
post-returns-in_err-name-in-Dot t c =
    let p = err_from_is_err_and c.from_residual-in_err-name-in-Dot.result c.from_residual-in_err-name-in-Dot.ensures.1 in
    rw (p.1, p.2) (λ stack. along c.args.tokens.now _ _ _ (take_at (a_post c.args.room) stack _ c.in-Some.first _ (a_word c.args.room ∷ []) c.in-Some.ensures.0 (ap (post_on c.args.room) c.in-Dot.is)) (c.in_err-name-in-Dot.ensures stack))

pub post-returns-in_ok-name-in-Dot : goal.post-returns-in_ok-name-in-Dot
post-returns-in_ok-name-in-Dot t c =
    let x = c.in_ok-name-in-Dot.ensures in
    (omega (arith, x.0), attr_at c.args.room _ _ _ c.in-Some.first _ x.1.1.0 c.in-Dot.is c.in-Some.ensures.0 x.1.0 x.1.1.1, λ stack. take_at (a_post c.args.room) stack _ c.in-Some.first _ (a_word c.args.room ∷ []) c.in-Some.ensures.0 (ap (post_on c.args.room) c.in-Dot.is) ∙ x.2 stack)

pub post-returns-in_default-class : goal.post-returns-in_default-class
post-returns-in_default-class t c =
    λ stack. stop_at (a_post c.args.room) stack _ c.in-Some.first _ c.in-Some.ensures.0 (post_wrong c.args.room c.in-Some.first.class c.in_default-class.not-Open c.in_default-class.not-OpenList c.in_default-class.not-Dot)

pub argument-returns-in_default : goal.argument-returns-in_default
argument-returns-in_default t c = λ stack. short_at (an_arg c.args.room) stack _ c.in_default.ensures refl

pub argument-returns-in_err-value : goal.argument-returns-in_err-value
argument-returns-in_err-value t c =
    let q : Keyed c.args.tokens.now c.args.at c.in-Some.name = elim c.match-peek-2.branch [
      | argument-in-Some-peek w ↦ keyed_at c.args.tokens.now c.args.at c.in-Some.name w.in-Some-peek.sign w.in-Some-peek.ensures.0 (sym w.keyed-is_keyed.ensures ∙ sym w.is_keyed-is ∙ c.if-is_keyed.true)
      | argument-in-None w ↦ let e : false ≡ true = sym w.is_keyed-is ∙ c.if-is_keyed.true in cc
    ] in
    let p = err_from_is_err_and c.from_residual.result c.from_residual.ensures.1 in
    rw (p.1, p.2) (λ stack. along c.args.tokens.now _ _ _ (keyed_run c.args.room stack _ _ _ c.in-Some.name q.0 q.1 c.in-Some.ensures.0 q.2 q.3 q.4) (c.in_err-value.ensures stack))

pub argument-returns-then-is_keyed : goal.argument-returns-then-is_keyed
argument-returns-then-is_keyed t c =
    let q : Keyed c.args.tokens.now c.args.at c.in-Some.name = elim c.match-peek-2.branch [
      | argument-in-Some-peek w ↦ keyed_at c.args.tokens.now c.args.at c.in-Some.name w.in-Some-peek.sign w.in-Some-peek.ensures.0 (sym w.keyed-is_keyed.ensures ∙ sym w.is_keyed-is ∙ c.if-is_keyed.true)
      | argument-in-None w ↦ let e : false ≡ true = sym w.is_keyed-is ∙ c.if-is_keyed.true in cc
    ] in
    let v = c.in_ok-value.ensures in (
      omega (arith, v.0),
      keyed_arg c.args.room _ _ _ _ c.in-Some.name q.0 q.1 _ c.in-Some.ensures.0 q.2 q.3 q.4 v.1,
      λ stack. keyed_run c.args.room stack _ _ _ c.in-Some.name q.0 q.1 c.in-Some.ensures.0 q.2 q.3 q.4 ∙ v.2 stack,
    )

pub argument-returns-in_err-value-2 : goal.argument-returns-in_err-value-2
argument-returns-in_err-value-2 t c =
    let q : NotKeyed c.in-Some.name (drop (c.args.at + 1) c.args.tokens.now) = elim c.match-peek-2.branch [
      | argument-in-Some-peek w ↦ not_assign_some _ _ c.in-Some.name w.in-Some-peek.sign w.in-Some-peek.ensures.0 (sym w.keyed-is_keyed.ensures ∙ sym w.is_keyed-is ∙ c.if-is_keyed.false)
      | argument-in-None w ↦ (λ b a. not_assign_none _ w.in-None.ensures)
    ] in
    let p = err_from_is_err_and c.from_residual-in_err-value-2.result c.from_residual-in_err-value-2.ensures.1 in
    rw (p.1, p.2) (λ stack. along c.args.tokens.now _ _ _ (unkeyed c.args.room stack _ c.in-Some.name _ c.in-Some.ensures.0 q) (c.in_err-value-2.ensures stack))

pub argument-returns : goal.argument-returns
argument-returns t c =
    let q : NotKeyed c.in-Some.name (drop (c.args.at + 1) c.args.tokens.now) = elim c.match-peek-2.branch [
      | argument-in-Some-peek w ↦ not_assign_some _ _ c.in-Some.name w.in-Some-peek.sign w.in-Some-peek.ensures.0 (sym w.keyed-is_keyed.ensures ∙ sym w.is_keyed-is ∙ c.if-is_keyed.false)
      | argument-in-None w ↦ (λ b a. not_assign_none _ w.in-None.ensures)
    ] in
    let v = c.in_ok-value-2.ensures in
    (v.0, positional v.1, λ stack. unkeyed c.args.room stack _ c.in-Some.name _ c.in-Some.ensures.0 q ∙ v.2 stack)

pub postfix_from-all-smaller : goal.postfix_from-all-smaller
postfix_from-all-smaller t c = omega (arith, c.in-Some.ensures.1, c.in_ok-one.ensures.0)

pub atom-returns-in-Text : goal.atom-returns-in-Text
atom-returns-in-Text t c = (
  omega arith,
  subst (λ ts. Atom c.args.room ts (s.Text c.in-Some.first.span) (drop (c.args.at + 1) c.args.tokens.now)) (sym c.in-Some.ensures.0) (a_text c.in-Text.is),
  λ stack. take_at (an_atom c.args.room) stack _ c.in-Some.first _ [] c.in-Some.ensures.0 (ap (λ j. part_on (an_atom c.args.room) j) c.in-Text.is),
)

-- a list

pub list_of-returns-in_err-inside : goal.list_of-returns-in_err-inside
list_of-returns-in_err-inside t c =
    let p = err_from_is_err_and c.from_residual.result c.from_residual.ensures.1 in
    rw (p.1, p.2) (λ stack. sunk c.args.tokens.now _ c.args.at _ c.in_err-inside.ensures.1
    (sink_at (an_atom c.args.room) stack _ c.args.bracket _ c.requires.here.0 (list_deep c.args.room c.args.bracket.class c.in_err-inside.ensures.0 c.requires.opens)))

pub list_of-returns-in_err-items : goal.list_of-returns-in_err-items
list_of-returns-in_err-items t c =
    let p = err_from_is_err_and c.from_residual-in_err-items.result c.from_residual-in_err-items.ensures.1 in
    let m = c.in_ok-inside.inside in
    rw (p.1, p.2) (λ stack. along c.args.tokens.now _ _ _
    (take_at (an_atom c.args.room) stack _ c.args.bracket _ (a_later m ∷ token k.CloseList ∷ []) c.requires.here.0 (list_open c.args.room m c.args.bracket.class c.in_ok-inside.ensures c.requires.opens))
    (c.in_err-items.ensures (token k.CloseList ∷ stack)))

pub list_of-returns-in_err-_close : goal.list_of-returns-in_err-_close
list_of-returns-in_err-_close t c =
    let p = err_from_is_err_and c.from_residual-in_err-_close.result c.from_residual-in_err-_close.ensures.1 in
    let m = c.in_ok-inside.inside in
    rw (p.1, p.2) (λ stack. along c.args.tokens.now _ _ _
    (take_at (an_atom c.args.room) stack _ c.args.bracket _ (a_later m ∷ token k.CloseList ∷ []) c.requires.here.0 (list_open c.args.room m c.args.bracket.class c.in_ok-inside.ensures c.requires.opens)
    ∙ c.in_ok-items.ensures.2 (token k.CloseList ∷ stack))
    (c.in_err-_close.ensures stack))

pub list_of-returns : goal.list_of-returns
list_of-returns t c =
    let m = c.in_ok-inside.inside in
    let v = c.in_ok-items.ensures in
    let x = c.in_ok-_close.ensures in (
      omega (arith, v.0, x.0),
      list_at c.args.room m _ _ _ _ c.args.bracket _ _ _ _ c.in_ok-inside.ensures c.requires.opens c.requires.here.0 v.1.1 x.1.0 (sym (same_is k.CloseList _ x.1.1)) v.1.2 c.new-before.ensures,
      λ stack.
          take_at (an_atom c.args.room) stack _ c.args.bracket _ (a_later m ∷ token k.CloseList ∷ []) c.requires.here.0 (list_open c.args.room m c.args.bracket.class c.in_ok-inside.ensures c.requires.opens)
          ∙ v.2 (token k.CloseList ∷ stack) ∙ x.2 stack,
    )
