use Rattle.std.proofs.Common.{ℕ, Vec, Global, ◌∙◌, ap, inl, inr}
use Rattle.avr_macro.specs.declared.origin.Origin.{Origin}
use Rattle.avr_macro.proofs.Runs.{all_expanded, cut_off, no_fewer, rose_before}
use Rattle.avr_macro.proofs.expansion.expand_files.Goals as goal

pub returns-in-Ok-run-clause-came : goal.returns-in-Ok-run-clause-came
returns-in-Ok-run-clause-came g c =
    all_expanded _ _ _ _ _ _ _ c.flat_of.result
    c.first_file.ensures.files c.in-Ok.ensures.ok c.in-Ok-first_file.ensures.begins c.in-Ok-run.ensures.runs
    (ap (λ (v : Vec ℕ Global). v.items) c.flat_of.ensures.text) (ap (λ (v : Vec Origin Global). v.items) c.flat_of.ensures.origins)

pub returns-in-Err-run-clause-came : goal.returns-in-Err-run-clause-came
returns-in-Err-run-clause-came g c =
    cut_off _ _ _ _ _ _ _ _ _ c.first_file.ensures.files c.in-Ok.ensures.ok c.in-Ok-first_file.ensures.begins (rose_before _ _
    _ c.first_file.ensures.load_faults) c.in-Err-run.ensures.runs

pub returns-in_default-clause-came : goal.returns-in_default-clause-came
returns-in_default-clause-came g c = inl (c.out_of_memory.ensures, c.in_default.ensures.err)

pub returns-in-Err-clause-came : goal.returns-in-Err-clause-came
returns-in-Err-clause-came g c = inr (inl (c.in-Ok.ensures.ok, c.in-Err.ensures.fails))

pub returns-in-Ok-run-clause-files : goal.returns-in-Ok-run-clause-files
returns-in-Ok-run-clause-files g c = c.run.ensures.files ∙ c.first_file.ensures.files

pub returns-in-Ok-run-clause-open_file : goal.returns-in-Ok-run-clause-open_file
returns-in-Ok-run-clause-open_file g c = c.run.ensures.open_file ∙ c.first_file.ensures.open_file

pub returns-in-Ok-run-clause-write_faults : goal.returns-in-Ok-run-clause-write_faults
returns-in-Ok-run-clause-write_faults g c = c.run.ensures.write_faults ∙ c.first_file.ensures.write_faults

pub returns-in-Ok-run-clause-load_faults : goal.returns-in-Ok-run-clause-load_faults
returns-in-Ok-run-clause-load_faults g c = no_fewer _ _ _ c.first_file.ensures.load_faults c.run.ensures.load_faults

pub returns-in-Err-run-clause-files : goal.returns-in-Err-run-clause-files
returns-in-Err-run-clause-files g c = c.run.ensures.files ∙ c.first_file.ensures.files

pub returns-in-Err-run-clause-open_file : goal.returns-in-Err-run-clause-open_file
returns-in-Err-run-clause-open_file g c = c.run.ensures.open_file ∙ c.first_file.ensures.open_file

pub returns-in-Err-run-clause-write_faults : goal.returns-in-Err-run-clause-write_faults
returns-in-Err-run-clause-write_faults g c = c.run.ensures.write_faults ∙ c.first_file.ensures.write_faults

pub returns-in-Err-run-clause-load_faults : goal.returns-in-Err-run-clause-load_faults
returns-in-Err-run-clause-load_faults g c = no_fewer _ _ _ c.first_file.ensures.load_faults c.run.ensures.load_faults
