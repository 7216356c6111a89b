-- A run over files and text in memory, which meet no fault.
use Rattle.std.proofs.Common.{◌≡◌, ℕ, List, [], inl, inr, arith, ap, refl, subst}
use Rattle.std.specs.Prelude.{◌⊎◌, Option, None, Some, IfSome, unwrap_or}
use mathlib.Core.HProp.{h_prop_ext}
use Rattle.uz_shelf.specs.Faults.{Rose}
use Rattle.uz_shelf.specs.Files.{FileMap}
use Rattle.uz_files.specs.Answers.{AndTells, ComesOf, LoadFault, MayCome, WriteFault, one_line}
use Rattle.uz_files.specs.declared.status.Status.{Status}
use Rattle.uz_files.specs.declared.status.Status.TheVariants as status
use Rattle.uz_top.specs.Commands.{Answers, Certifies, CreatesNone, IsDecided, LacksRead, PartAnswers, StopTells, Succeeds}
use Rattle.uz_top.specs.Topics.{usage_line}
use Rattle.uz_top.specs.Words.{Command, command_of}
use Rattle.uzebox_c.specs.Run.{IsRun, told}

-- what the call of the commands promises, with counts of faults that stay at 0
pub record IsCall (words : List (List ℕ)) (came : Status) (old new : FileMap) (text printed : List ℕ) : Type 0 where
  pub usage : came ≡ status.Usage → command_of words ≡ None
  pub no_command : command_of words ≡ None → (came ≡ status.Usage) ⊎ (came ≡ status.NoMemory)
  pub usage_line : command_of words ≡ None → AndTells (ComesOf (one_line status.Usage usage_line) (Rose 0 0) came (told old text)) came
      (Rose 0 0 ⊎ Unit {0}) (told new printed)
  pub usage_files : command_of words ≡ None → Some new ≡ Some old
  pub answered : IfSome (command_of words) (λ c. AndTells (MayCome (Answers (Some old) (LoadFault 0 0) c) (PartAnswers (Some old) c)
      (WriteFault 0 0 0 0) came (told old text)) came (Rose 0 0 ⊎ Unit {0}) (told new printed))
  pub exact : IfSome (command_of words) (λ c. (came ≡ status.NoMemory) ⊎ (LoadFault 0 0 ⊎ (((came ≡ status.Unwritten) × WriteFault 0 0 0 0)
      ⊎ IsDecided (Some old) (WriteFault 0 0 0 0) c came (told old text) (told new printed))))
  pub unread : came ≡ status.Unread → IfSome (command_of words) (λ c. LoadFault 0 0 ⊎ LacksRead (Some old) c)
  pub unwritten : came ≡ status.Unwritten → WriteFault 0 0 0 0
  pub complete : IfSome (command_of words) (λ c. Succeeds (Some old) c → (LoadFault 0 0 → ⊥) → (WriteFault 0 0 0 0 → ⊥)
      → (came ≡ status.Done) ⊎ (came ≡ status.NoMemory))
  pub certified : came ≡ status.Done → IfSome (command_of words) (Certifies (Some old) (Some new))
  pub halted : came ≡ status.Stopped → IfSome (command_of words) (StopTells (Some old))
  pub untouched : IfSome (command_of words) (λ c. CreatesNone c → Some new ≡ Some old)

no_rise : Rose 0 0 → ⊥
no_rise (inl less) = omega (arith, less)
no_rise (inr most) = omega (arith, most)

no_write : WriteFault 0 0 0 0 → ⊥
no_write (inl rise) = no_rise rise
no_write (inr rise) = no_rise rise

-- what has no value is ⊥
none_is : (A : Type 0) → (A → ⊥) → A ≡ ⊥
none_is A none = h_prop_ext (λ x y. absurd (none x)) (λ x y. absurd x) none (λ x. absurd x)

any_is : (Rose 0 0 ⊎ Unit {0}) ≡ Unit {0}
any_is = h_prop_ext one (λ x y. refl) (λ x. tt) (λ x. inr tt)
  where
    one : (x y : Rose 0 0 ⊎ Unit {0}) → x ≡ y
    one (inl rise) y = absurd (no_rise rise)
    one (inr x) (inl rise) = absurd (no_rise rise)
    one (inr x) (inr y) = refl

same_some : (new old : FileMap) → Some new ≡ Some old → new ≡ old
same_some new old e = ap (λ o. unwrap_or o old) e

each_command : {P Q : Command → Type 0} (o : Option Command) → ((c : Command) → P c → Q c) → IfSome o P → IfSome o Q
each_command None f h = tt
each_command (Some c) f h = f c h

pub faultless : (words : List (List ℕ)) (came : Status) (old new : FileMap) (printed : List ℕ)
    → IsCall words came old new [] printed → IsRun words came old new printed
faultless words came old new printed call =
    let no_load : Rose 0 0 ≡ ⊥ = none_is (Rose 0 0) no_rise in
    let none_written : WriteFault 0 0 0 0 ≡ ⊥ = none_is (WriteFault 0 0 0 0) no_write in
    record {
      usage = call.usage;
      no_command = call.no_command;
      usage_line = λ none.
          subst (λ E. AndTells (ComesOf (one_line status.Usage usage_line) ⊥ came (told old [])) came E (told new printed)) any_is
          (subst (λ L. AndTells (ComesOf (one_line status.Usage usage_line) L came (told old [])) came (Rose 0 0 ⊎ Unit {0}) (told new printed)) no_load
          (call.usage_line none));
      usage_files = λ none. same_some new old (call.usage_files none);
      answered = each_command (command_of words) (λ c h.
          subst (λ E. AndTells (MayCome (Answers (Some old) ⊥ c) (PartAnswers (Some old) c) ⊥ came (told old [])) came E (told new printed)) any_is
          (subst (λ W. AndTells (MayCome (Answers (Some old) ⊥ c) (PartAnswers (Some old) c) W came (told old [])) came (Rose 0 0 ⊎ Unit {0})
          (told new printed)) none_written
          (subst (λ L. AndTells (MayCome (Answers (Some old) L c) (PartAnswers (Some old) c) (WriteFault 0 0 0 0) came (told old [])) came
          (Rose 0 0 ⊎ Unit {0}) (told new printed)) no_load h))) call.answered;
      exact = each_command (command_of words) (λ c h. decided c none_written h) call.exact;
      unread = λ is. each_command (command_of words) (λ c h. lacks c h) (call.unread is);
      unwritten = λ is. no_write (call.unwritten is);
      complete = each_command (command_of words) (λ c h well. h well no_rise no_write) call.complete;
      certified = call.certified;
      halted = call.halted;
      untouched = each_command (command_of words) (λ c h none. same_some new old (h none)) call.untouched;
    }
  where
    decided : (c : Command) → WriteFault 0 0 0 0 ≡ ⊥ → (came ≡ status.NoMemory) ⊎ (LoadFault 0 0 ⊎ (((came ≡ status.Unwritten) × WriteFault 0 0 0 0)
        ⊎ IsDecided (Some old) (WriteFault 0 0 0 0) c came (told old []) (told new printed)))
        → (came ≡ status.NoMemory) ⊎ IsDecided (Some old) ⊥ c came (told old []) (told new printed)
    decided c is (inl memory) = inl memory
    decided c is (inr (inl load)) = absurd (no_rise load)
    decided c is (inr (inr (inl write))) = absurd (no_write write.1)
    decided c is (inr (inr (inr by))) = inr (subst (λ W. IsDecided (Some old) W c came (told old []) (told new printed)) is by)

    lacks : (c : Command) → LoadFault 0 0 ⊎ LacksRead (Some old) c → LacksRead (Some old) c
    lacks c (inl load) = absurd (no_rise load)
    lacks c (inr lacking) = lacking
