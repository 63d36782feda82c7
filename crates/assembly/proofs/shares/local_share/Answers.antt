use Rattle.std.proofs.Common.{◌∙◌, ◌++◌, List, ap, map, rules}
use Rattle.std.proofs.lemmas.List.Sorted.{answers_always, length_permutation}
use Rattle.ratio.specs.Value.{fraction_of}
use Rattle.assembly.specs.Kept.{seen}
use Rattle.assembly.specs.Local.{local_entries}
use Rattle.assembly.specs.Shares.{nonzero_entries}
use Rattle.assembly.specs.declared.triple.Triple.{Triple}
use Rattle.assembly.proofs.SharesLaws.{place_of, shown}
use Rattle.assembly.proofs.shares.local_share.Goals as goal

pub returns : goal.returns
returns c =
    let values = local_entries c.args.rows.now c.args.cols.now (map fraction_of c.args.values.now) in
    let keys = answers_always _ _ _ (λ f a r g h. search rules) in
    shown values c.push_local.new.triples.items c.sort_by_key.new.self.items
    (c.in_ok-push_local.ensures ∙ ap (λ (ts : List Triple). map seen ts ++ nonzero_entries values) c.new-triples.ensures.items)
    (length_permutation c.push_local.new.triples.items c.sort_by_key.new.self.items c.sort_by_key.ensures.permutation) (c.in_ok-sort_by_key.ensures.sorted place_of keys) (c.sort_by_key.ensures.stable place_of keys)
