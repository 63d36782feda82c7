use Rattle.std.proofs.Common.{◌+◌, ◌∷◌, [], map, sym, ap, subst, ◌∙◌}
use Rattle.std.proofs.lemmas.List.{map_push}
use Rattle.data_in.specs.CoefficientValues.{fractions, fractions_in, values_in}
use Rattle.data_in.specs.DataReading.{within}
use Rattle.data_in.specs.Reader.{remaining, goes_on, behind_blocks, RiseTo}
use Rattle.data_in.proofs.BlockLaws.{behind_more, block_pushed, rise_all, rise_end}
use Rattle.data_in.proofs.read.read_blocks.Goals as goal

pub returns-in_default-clause-rising : goal.returns-in_default-clause-rising
returns-in_default-clause-rising c = rise_all 0 (map values_in c.all.blocks.items) c.all.low c.all.invariant.rise

pub all-preserved : goal.all-preserved
all-preserved c =
    let block = c.in_ok-block.block in
    let before = c.all.blocks.items in
    let bs = fractions (map values_in before) in
    let after = remaining c.read_block.new.lines (within (block.number + 1) 0) in
    record {
      says =
          c.all.invariant.says
          ∙ ap (behind_blocks bs) (c.in_ok-line.ensures.found (within c.all.low 0) ∙ ap (λ o. goes_on o c.next.new.self (within c.all.low 0)) c.in-Some.is ∙ c.in_ok-block.ensures.ok)
          ∙ behind_more bs (fractions_in (values_in block) ∷ []) after
          ∙ ap (λ cs. behind_blocks cs after) (sym (ap (λ items. fractions (map values_in items)) c.in_ok-push.ensures.items ∙ block_pushed before block));
      rise =
          subst (λ items. RiseTo 0 items (block.number + 1)) (sym (ap (map values_in) c.in_ok-push.ensures.items ∙ map_push values_in before block))
          (rise_end 0 (map values_in before) (values_in block) c.all.low c.all.invariant.rise c.in_ok-block.ensures.rises);
    }
