-- The names that several of these proofs use.
pub use Rattle.std.proofs.Common.{All, Bool, List, [], ap, append-nil, append_assoc, arith, bytes_eq, cond, decimal, eqb, false, inl, inr}
pub use Rattle.std.proofs.Common.{length, length-append, ltb, map, refl, replicate, subst, suc, sym, true, zero, zero-add, ℕ, ◌&&◌, ◌++◌}
pub use Rattle.std.proofs.Common.{◌+◌, ◌-◌, ◌<◌, ◌^◌, ◌∙◌, ◌∷◌, ◌≡◌, ◌≢◌, ◌≤◌, ◌⊎◌}
pub use Rattle.std.proofs.lemmas.List.Elements.{All-cons, All-head, All-nil, All-tail, All-weaker}
pub use Rattle.std.specs.Prelude.{Err, IfErr, IfOk, IfSome, None, Ok, Option, Result, Some, sum_by, ⊤}
pub use Rattle.uz_cert.specs.Kept.{EventSaid, IsAfterCells, Kept, LastIs, SaidFits}
pub use Rattle.uz_cert.specs.Reading.{Fault, Gives, IsMemory, bytes_left, cert_from, cert_of_text, cert_with, is_more, or_fault}
pub use Rattle.uz_cert.specs.Reading.{pieces_left, pieces_of, read_by, read_from, read_pieces, words_in}
pub use Rattle.uz_cert_laws.proofs.Tests.{and_true, not_number, true_not}
pub use Rattle.uz_cert_laws.specs.LineWords.{line}
pub use Rattle.uz_cert_lines.proofs.Lengths.{length_few}
pub use Rattle.uz_cert_lines.specs.Lines.{IsLengthIn, IsPointIn, SizesFit, head_line, rules_of, text_version}
pub use Rattle.uz_cert_lines.specs.declared.lines.ParsedLine.{ParsedLine}
pub use Rattle.uz_cert_lines.specs.declared.version.Version.TheVariants.{First, Second, Third}
pub use Rattle.uz_cert_writer.specs.Spelling.{line_of, runs_of, spelling}
pub use Rattle.uz_hex.proofs.Plain.{EachLacks, Lacks}
pub use Rattle.uz_schedule.specs.Limits.{EventFits, EventsFit, clock_limit, clocks_below, is_length, lengths_fit}
pub use Rattle.uz_schedule.specs.WellFormed.{CellFits, EntryFits, PointFits, RestFits, StackFits, WellFormed, instances_of}
pub use Rattle.uz_schedule.specs.declared.kinds.RuleVersion.{RuleVersion}
pub use Rattle.uz_schedule.specs.declared.kinds.RuleVersion.TheVariants.{Three, Two}
pub use Rattle.std.proofs.{lemmas.Bool.eqb-false, lemmas.Bool.eqb-true, lemmas.List.length-replicate, lemmas.List.map-append}
pub use Rattle.uz_cert.specs.{declared.draft.Draft.Draft, declared.errors.CertError.CertError, SaidLines.expected_as}
pub use Rattle.uz_cert.specs.{SaidLines.said_words, declared.expected_line.ExpectedLine.ExpectedLine, Drafts.first_draft, Drafts.lacks}
pub use Rattle.uz_cert.specs.{Drafts.with_said, Texts.IsCertificateText, Texts.IsFirstFault, Texts.IsOfVersion}
pub use Rattle.uz_cert_lines.specs.{Why.◌>>=◌, Forms.reads, Grammar.Words, declared.lines.Sizes.Sizes, declared.why.CertWhy.CertWhy}
pub use Rattle.uz_cert_lines.specs.{declared.version.Version.Version, declared.lines.KindLine.KindLine}
pub use Rattle.uz_schedule.specs.{Schedule.scanline, declared.header.Head.Head, declared.header.Cell.Cell, declared.states.Rest.Rest}
pub use Rattle.uz_schedule.specs.{declared.lines.Event.Event, declared.states.Point.Point, declared.states.Entry.Entry}
pub use Rattle.uz_schedule.specs.{declared.certificate.Cert.Cert, declared.kinds.Response.Response}
unfoldable pub use Rattle.uz_cert.specs.Drafts.{draft_after, expected_line, form_of}
unfoldable pub use Rattle.uz_cert.specs.Reading.{cert_before, line_says, version_told}
