use Rattle.answers.proofs.TextLaws.{six_pieces}
use Rattle.answers.proofs.values_text.push_header.Goals as goal

pub returns : goal.returns
returns c =
    six_pieces c.args.text.now.items _ _ _ _ _ _ _ _ _ _ _ _ c.in_ok-extend_from_slice.ensures.items
    c.in_ok-extend_from_slice-2.ensures.items
    c.in_ok-push_count.ensures c.in_ok-push_count-2.ensures c.in_ok-push_count-3.ensures c.in_ok-extend_from_slice-3.ensures.items
