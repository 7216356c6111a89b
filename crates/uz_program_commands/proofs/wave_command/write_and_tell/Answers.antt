use Rattle.std.proofs.Common.{[], ◌∷◌, ap, inl, inr, refl, Err}
use Rattle.uz_files.specs.declared.status.Status.TheVariants.{Done, NoMemory}
use Rattle.uz_files.proofs.EndingLemmas.{comes_by}
use Rattle.uz_files.proofs.TextLemmas.{takes_none}
use Rattle.uz_files.proofs.WriteLemmas.{comes_after_files, files_cut, files_lack, part_written}
use Rattle.uz_report.specs.Waves.{wave_of}
use Rattle.uz_scan.specs.Pictures.{newest_first}
use Rattle.uz_program_commands.specs.WaveCommand.{wave_file}
use Rattle.uz_program_commands.proofs.wave_command.write_and_tell.Goals as goal

pub returns-in-Ok-clause-comes : goal.returns-in-Ok-clause-comes
returns-in-Ok-clause-comes g c = λ edges holds.
    let after = g.H.Shelf.files c.write_wave.new.shelf in
    comes_by _ _ _ _ _ _ inr
    (comes_after_files (wave_file c.args.wav.now edges ∷ []) Done c.args.line.items (g.H.Shelf.files c.args.shelf.now) after
    (after, c.in-Ok.ensures.ok (newest_first edges) holds, refl) _ _ _ _ (c.end_with.ensures.comes after))

pub returns-in-Err-Failed-clause-comes : goal.returns-in-Err-Failed-clause-comes
returns-in-Err-Failed-clause-comes g c = λ edges holds.
    files_cut (wave_file c.args.wav.now edges) [] Done _ c.args.line.items _ (g.H.Shelf.files c.args.shelf.now)
    (g.H.Shelf.files c.write_wave.new.shelf) (g.K.Sink.text c.args.out.now)
    (inl (c.in-Err-Failed.ensures.failed (ap Err c.in-Err-Failed.field-0-is))) refl
    (part_written c.args.wav.now (wave_of edges) (g.H.Shelf.files c.args.shelf.now) (g.H.Shelf.files c.write_wave.new.shelf)
    (c.in-Err-Failed.ensures.err (newest_first edges) holds))

pub returns-clause-comes : goal.returns-clause-comes
returns-clause-comes g c = λ edges holds.
    files_lack (wave_file c.args.wav.now edges ∷ []) Done NoMemory c.args.line.items _ (g.H.Shelf.files c.args.shelf.now)
    (g.H.Shelf.files c.write_wave.new.shelf) _ _ refl (takes_none (g.K.Sink.text c.args.out.now))
    (part_written c.args.wav.now (wave_of edges) (g.H.Shelf.files c.args.shelf.now) (g.H.Shelf.files c.write_wave.new.shelf)
    (c.in-Err-Memory.ensures.err (newest_first edges) holds))
