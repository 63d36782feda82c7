use Rattle.std.proofs.Common.{ap, ◌++◌, codes}
use Rattle.c_text.specs.Pieces.{text_of}
use Rattle.c_text.specs.Layout.{canonical, funs_pieces}
use Rattle.c_text.proofs.Appended.{ok_behind}
use Rattle.c_text.proofs.print.print_all.Goals as goal

pub returns-clause-ok : goal.returns-clause-ok
unfolding canonical
returns-clause-ok c = ok_behind _ _ _ _ _ _ _ c.in_ok-print_text.ensures.ok (ap (λ fs. codes "#include \"fr.h\"\n" ++ text_of (funs_pieces fs)) c.as_slice.ensures) c.print_functions.ensures.ok
