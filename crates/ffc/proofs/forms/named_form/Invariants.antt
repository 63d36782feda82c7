use Rattle.std.proofs.Common.{◌≡◌, drop}
use Rattle.ffc.specs.Forms.{form_named}
use Rattle.ffc.proofs.forms.named_form.Given as goal

abbrev pub invariant-loop-named : goal.invariant-loop-named
invariant-loop-named l = form_named l.file l.forms l.name ≡ form_named l.file (drop l.named-index l.forms) l.name
