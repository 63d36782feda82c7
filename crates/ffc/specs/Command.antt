-- The words of a command
use Rattle.std.specs.Prelude.{ℕ, List}
use Rattle.ffc.specs.Words.{compile_words, check_words, assemble_words}
use Rattle.ffc.specs.declared.command.Command.{Command}
use Rattle.ffc.specs.declared.command.Command.TheVariants.{Compile, Check, Assemble}

abbrev pub words_of : Command → List (List ℕ)
words_of (Compile form) = compile_words form.now
words_of (Check form) = check_words form.now
words_of (Assemble form name mesh) = assemble_words form.now name.now mesh.now

-- the name of the form file
abbrev pub form_of_command : Command → List ℕ
form_of_command (Compile form) = form.now
form_of_command (Check form) = form.now
form_of_command (Assemble form name mesh) = form.now
