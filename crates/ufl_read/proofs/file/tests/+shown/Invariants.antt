use Rattle.ufl_read.proofs.file.tests.+shown.Given as goal

abbrev pub decreases-show : goal.decreases-show
decreases-show l = l.room

abbrev pub decreases-show_items : goal.decreases-show_items
decreases-show_items l = l.room

abbrev pub decreases-show_chain : goal.decreases-show_chain
decreases-show_chain l = l.room

abbrev pub decreases-show_args : goal.decreases-show_args
decreases-show_args l = l.room

abbrev pub decreases-show_posts : goal.decreases-show_posts
decreases-show_posts l = l.room

abbrev pub decreases-show_post : goal.decreases-show_post
decreases-show_post l = l.room
