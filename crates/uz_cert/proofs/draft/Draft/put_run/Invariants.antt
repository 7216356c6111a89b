use Rattle.uz_cert.proofs.Common.{◌≡◌, ◌++◌, replicate}
use Rattle.uz_cert.proofs.draft.Draft.put_run.Given as goal

-- so many lines of the run are there
abbrev pub invariant-loop-line : goal.invariant-loop-line
invariant-loop-line l = l.self ≡ record l.fn.self { lines = l.fn.self.lines ++ replicate l._line l.run.kind }
