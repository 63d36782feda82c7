-- From the form file of a command to its words
use Rattle.std.proofs.Common.{◌≡◌, ◌≢◌, ℕ, ◌+◌, inl, inr, List, [], ◌∷◌, codes, length, take, Option, refl, sym, ap, ◌∙◌, subst}
use Rattle.ends.specs.Held.{Held}
use Rattle.slices.specs.declared.form_toks.TheConstants.{FORM_LIMIT}
use Rattle.answers.specs.declared.outcome.Outcome.{Outcome}
use Rattle.answers.specs.declared.outcome.Outcome.TheVariants.{Done, Usage, Form, NotYet, Mesh, Passed, ReadFault, WriteFault, Memory}
use Rattle.ffc.specs.declared.command.Command.{Command}
use Rattle.ffc.specs.declared.command.Command.TheVariants.{Compile, Check, Assemble}
use Rattle.ffc.specs.Answer.{AnswersFile, AnswersWords, FileCause, FormCause, HasCause, IsFormOf, IsLoaded, Wrote}
use Rattle.ffc.specs.Assemble.{AssembleCause, IsAssembledText}
use Rattle.ffc.specs.Command.{words_of, form_of_command}
use Rattle.ffc.specs.Inputs.{Loads, loads, IsText, LoadCause}
use Rattle.ffc.specs.Words.{compile_words, check_words}
use Rattle.ffc.proofs.FileLaws.{loaded_answer, loaded_cause}

-- ---- words of different shapes
same_two : (v x y : List ℕ) → v ∷ x ∷ [] ≡ v ∷ y ∷ [] → x ≡ y
same_two v x y h = cc

same_form : (a b c d e b' c' d' : List ℕ) → a ∷ b ∷ c ∷ d ∷ e ∷ [] ≡ a ∷ b' ∷ c' ∷ d' ∷ e ∷ [] → b ≡ b'
same_form a b c d e b' c' d' h = cc

same_name : (a b c d e b' c' d' : List ℕ) → a ∷ b ∷ c ∷ d ∷ e ∷ [] ≡ a ∷ b' ∷ c' ∷ d' ∷ e ∷ [] → c ≡ c'
same_name a b c d e b' c' d' h = cc

same_mesh_name : (a b c d e b' c' d' : List ℕ) → a ∷ b ∷ c ∷ d ∷ e ∷ [] ≡ a ∷ b' ∷ c' ∷ d' ∷ e ∷ [] → d ≡ d'
same_mesh_name a b c d e b' c' d' h = cc

two_five : (a b c d e x y : List ℕ) → x ∷ y ∷ [] ≡ a ∷ b ∷ c ∷ d ∷ e ∷ [] → ⊥
two_five a b c d e x y h = cc

first_word : (v w x y : List ℕ) → v ∷ x ∷ [] ≡ w ∷ y ∷ [] → v ≡ w
first_word v w x y h = cc

other_lengths : (v w : List ℕ) → length v ≢ length w → v ≡ w → ⊥
other_lengths v w h e = h (ap length e)

verbs_differ : (x y : List ℕ) → compile_words x ≡ check_words y → ⊥
verbs_differ x y h = other_lengths (codes "compile") (codes "check") (λ e. cc) (first_word (codes "compile") (codes "check") x y h)

-- ---- answers and causes of words
module _ (content : Option (List Held)) (file text : List ℕ) where
  pub answered : (command : Command) → IsText content (form_of_command command) file → AnswersFile content command file text → AnswersWords content (words_of command) text
  answered (Compile form) is h = record {
    compile = λ f e. (file, subst (λ x. IsText content x file) (same_two (codes "compile") form.now f e) is, h);
    check = λ f e. absurd (verbs_differ form.now f e);
    assemble = λ f n m e. absurd (two_five (codes "assemble") f n m (codes "-") (codes "compile") form.now e);
  }
  answered (Check form) is h = record {
    compile = λ f e. absurd (verbs_differ f form.now (sym e));
    check = λ f e. (file, subst (λ x. IsText content x file) (same_two (codes "check") form.now f e) is, h);
    assemble = λ f n m e. absurd (two_five (codes "assemble") f n m (codes "-") (codes "check") form.now e);
  }
  answered (Assemble form name mesh) is h = record {
    compile = λ f e. absurd (two_five (codes "assemble") form.now name.now mesh.now (codes "-") (codes "compile") f (sym e));
    check = λ f e. absurd (two_five (codes "assemble") form.now name.now mesh.now (codes "-") (codes "check") f (sym e));
    assemble = λ f n m e. (
      file,
      subst (λ x. IsText content x file) (same_form (codes "assemble") form.now name.now mesh.now (codes "-") f n m e) is,
      subst (λ x. IsAssembledText content file x m text) (same_name (codes "assemble") form.now name.now mesh.now (codes "-") f n m e)
          (subst (λ x. IsAssembledText content file name.now x text) (same_mesh_name (codes "assemble") form.now name.now mesh.now (codes "-") f n m e) h),
    );
  }

module _ (l : Loads) (o : Outcome) where
  pub caused : (command : Command) → FormCause l (form_of_command command) o (λ file. FileCause l command file o) → HasCause l (words_of command) o
  caused (Compile form) h = record {
    compile = λ f e. subst (λ x. FormCause l x o (λ file. FileCause l (Compile form) file o)) (same_two (codes "compile") form.now f e) h;
    check = λ f e. absurd (verbs_differ form.now f e);
    assemble = λ f n m e. absurd (two_five (codes "assemble") f n m (codes "-") (codes "compile") form.now e);
  }
  caused (Check form) h = record {
    compile = λ f e. absurd (verbs_differ f form.now (sym e));
    check = λ f e. subst (λ x. FormCause l x o (λ file. FileCause l (Check form) file o)) (same_two (codes "check") form.now f e) h;
    assemble = λ f n m e. absurd (two_five (codes "assemble") f n m (codes "-") (codes "check") form.now e);
  }
  caused (Assemble form name mesh) h = record {
    compile = λ f e. absurd (two_five (codes "assemble") form.now name.now mesh.now (codes "-") (codes "compile") f (sym e));
    check = λ f e. absurd (two_five (codes "assemble") form.now name.now mesh.now (codes "-") (codes "check") f (sym e));
    assemble = λ f n m e.
        subst (λ x. FormCause l f o (λ file. AssembleCause l file x m o)) (same_name (codes "assemble") form.now name.now mesh.now (codes "-") f n m e)
        (subst (λ x. FormCause l f o (λ file. AssembleCause l file name.now x o)) (same_mesh_name (codes "assemble") form.now name.now mesh.now (codes "-") f n m e)
        (subst (λ x. FormCause l x o (λ file. AssembleCause l file name.now mesh.now o)) (same_form (codes "assemble") form.now name.now mesh.now (codes "-") f n m e) h));
  }

-- ---- what is loaded
pub is_form_of : (command : Command) → IsFormOf (words_of command) (form_of_command command)
is_form_of (Compile form) = inl refl
is_form_of (Check form) = inr (inl refl)
is_form_of (Assemble form name mesh) = inr (inr (name.now, mesh.now, refl))

pub loaded_words : (content : Option (List Held)) (command : Command) (text file : List ℕ) → IsText content (form_of_command command) text → take (FORM_LIMIT + 1) text ≡ file
    → IsLoaded content (words_of command) file
loaded_words content command text file is e = (form_of_command command, text, is_form_of command, is, e)

-- what was loaded answers the words, and its refusal is that of the words
pub answered_words : (content : Option (List Held)) (command : Command) (text file out : List ℕ) → IsText content (form_of_command command) text → take (FORM_LIMIT + 1) text ≡ file
    → AnswersFile content command file out → AnswersWords content (words_of command) out
answered_words content command text file out is e h = answered content text out command is (loaded_answer content command text file out e h)

pub caused_words : (l : Loads) (command : Command) (text file : List ℕ) (o : Outcome) → IsText l.content (form_of_command command) text → take (FORM_LIMIT + 1) text ≡ file
    → FileCause l command file o → HasCause l (words_of command) o
caused_words l command text file o is e h = caused l o command (inr (text, is, loaded_cause l command text file o e h))

pub unloaded_words : (l : Loads) (command : Command) (o : Outcome) → LoadCause l 1 (form_of_command command) o → HasCause l (words_of command) o
unloaded_words l command o h = caused l o command (inl h)

-- ---- runs
-- what was loaded without a fault, and then answered or refused
module _ (content other : Option (List Held)) (command : Command) (name text bytes file : List ℕ) (told : other ≡ content) (named : name ≡ form_of_command command)
    (is : IsText content name text) (front : take (FORM_LIMIT + 1) text ≡ bytes) (lent : file ≡ bytes) where
  is_text : IsText content (form_of_command command) text
  is_text = subst (λ n. IsText content n text) named is

  is_front : take (FORM_LIMIT + 1) text ≡ file
  is_front = front ∙ sym lent

  pub run_cause : (before old now : ℕ) (failed : List ℕ) (o : Outcome) → old ≡ before → FileCause (loads other old now failed) command file o
      → HasCause (loads content before now failed) (words_of command) o
  run_cause before old now failed o same h =
      caused_words (loads content before now failed) command text file o is_text is_front
      (subst (λ b. FileCause (loads content b now failed) command file o) same (subst (λ k. FileCause (loads k old now failed) command file o) told h))

  pub run_answer : (out : List ℕ) → AnswersFile other command file out → AnswersWords content (words_of command) out
  run_answer out h = answered_words content command text file out is_text is_front (subst (λ k. AnswersFile k command file out) told h)

  pub run_loaded : IsLoaded content (words_of command) file
  run_loaded = loaded_words content command text file is_text is_front

pub wrote_more : (o : Outcome) (old new : Option (List ℕ)) (P Q : List ℕ → Type 0) → ((out : List ℕ) → P out → Q out) → Wrote o old new P → Wrote o old new Q
wrote_more Done old new P Q f (out, p, e) = (out, f out p, e)
wrote_more WriteFault old new P Q f (out, p, e) = (out, f out p, e)
wrote_more Usage old new P Q f e = e
wrote_more Memory old new P Q f e = e
wrote_more (Form r) old new P Q f e = e
wrote_more (NotYet n) old new P Q f e = e
wrote_more (Mesh r) old new P Q f e = e
wrote_more (Passed s) old new P Q f e = e
wrote_more (ReadFault k) old new P Q f e = e
