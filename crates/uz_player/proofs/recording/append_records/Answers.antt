use Rattle.std.proofs.Common.{◌∙◌, subst, arith}
use Rattle.uz_player.specs.Playing.{StartsRecords}
use Rattle.uz_player.proofs.CaptureLaws.{captured_over, captured_stopped, cut_short, one_more}
use Rattle.uz_player.proofs.recording.append_records.Goals as goal

pub records-preserved-in-Ok : goal.records-preserved-in-Ok
records-preserved-in-Ok g c = record {
  written = λ start old name plays is empty.
      one_more c.records.player c.advance.new.self start old (g.H.Shelf.files c.records.shelf) (g.H.Shelf.files c.append.new.self)
      (g.H.Shelf.open_file c.records.shelf) name c.in-Row.row (c.records.invariant.open_file ∙ is) c.in-Ok.ensures.ok
      c.in-Row.ensures.next (c.records.invariant.written start old name plays is empty);
  open_file = c.append.ensures.open_file ∙ c.records.invariant.open_file;
  load_faults = c.append.ensures.load_faults ∙ c.records.invariant.load_faults;
  write_faults = omega (arith, c.records.invariant.write_faults, c.append.ensures.write_faults);
  cert = c.in-Row.ensures.same.0 ∙ c.records.invariant.cert;
  limit = c.in-Row.ensures.same.1 ∙ c.records.invariant.limit;
}

pub returns-in-Err-clause-err : goal.returns-in-Err-clause-err
returns-in-Err-clause-err g c = λ start old name plays is empty.
    cut_short c.records.player c.advance.new.self _ start old (g.H.Shelf.files c.records.shelf) (g.H.Shelf.files c.append.new.self)
    (g.H.Shelf.open_file c.records.shelf) name c.in-Row.row (c.records.invariant.open_file ∙ is) c.in-Err.ensures.err
    c.in-Row.ensures.next
    (λ s handed p. subst (λ n. StartsRecords n s handed) (c.in-Row.ensures.same.1 ∙ c.records.invariant.limit)
    (c.in-Row.ensures.part s handed p)) (c.records.invariant.written start old name plays is empty)

pub records-preserved : goal.records-preserved
records-preserved g c = record {
  written = λ start old name plays is empty.
      one_more c.records.player c.advance.new.self start old (g.H.Shelf.files c.records.shelf) (g.H.Shelf.files c.append-in-End.new.self)
      (g.H.Shelf.open_file c.records.shelf) name c.in-End.end (c.records.invariant.open_file ∙ is) c.in-Ok-append.ensures.ok
      c.in-End.ensures.next (c.records.invariant.written start old name plays is empty);
  open_file = c.append-in-End.ensures.open_file ∙ c.records.invariant.open_file;
  load_faults = c.append-in-End.ensures.load_faults ∙ c.records.invariant.load_faults;
  write_faults = omega (arith, c.records.invariant.write_faults, c.append-in-End.ensures.write_faults);
  cert = c.in-End.ensures.same.0 ∙ c.records.invariant.cert;
  limit = c.in-End.ensures.same.1 ∙ c.records.invariant.limit;
}

pub returns-in-Err-append-clause-err : goal.returns-in-Err-append-clause-err
returns-in-Err-append-clause-err g c = λ start old name plays is empty.
    cut_short c.records.player c.advance.new.self _ start old (g.H.Shelf.files c.records.shelf) (g.H.Shelf.files c.append-in-End.new.self)
    (g.H.Shelf.open_file c.records.shelf) name c.in-End.end (c.records.invariant.open_file ∙ is) c.in-Err-append.ensures.err
    c.in-End.ensures.next
    (λ s handed p. subst (λ n. StartsRecords n s handed) (c.in-End.ensures.same.1 ∙ c.records.invariant.limit)
    (c.in-End.ensures.part s handed p)) (c.records.invariant.written start old name plays is empty)

pub returns-in-Over-clause-ok : goal.returns-in-Over-clause-ok
returns-in-Over-clause-ok g c = λ start old name plays is empty.
    captured_over c.records.player c.advance.new.self _ _ start old (g.H.Shelf.files c.records.shelf) name
    (c.in-Over.ensures.same.0 ∙ c.records.invariant.cert) (c.in-Over.ensures.same.1 ∙ c.records.invariant.limit) c.in-Over.ensures.next
    (c.records.invariant.written start old name plays is empty)

pub returns-in-Stopped-clause-ok : goal.returns-in-Stopped-clause-ok
returns-in-Stopped-clause-ok g c = λ start old name plays is empty.
    captured_stopped c.records.player c.advance.new.self _ _ c.in-Stopped.pc c.in-Stopped.word start old (g.H.Shelf.files c.records.shelf)
    name (c.in-Stopped.ensures.same.0 ∙ c.records.invariant.cert) (c.in-Stopped.ensures.same.1 ∙ c.records.invariant.limit)
    c.in-Stopped.ensures.next (c.records.invariant.written start old name plays is empty)
