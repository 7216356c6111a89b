-- The names that several of these proofs use.
pub use Rattle.std.proofs.Common.{Bool, List, [], ap, append-nil, append_assoc, arith, cond, decimal, drop, false, get_or, length, map}
pub use Rattle.std.proofs.Common.{refl, rules, sym, true, ℕ, ◌++◌, ◌+◌, ◌<◌, ◌∙◌, ◌∷◌, ◌≡◌, ◌≤◌}
pub use Rattle.std.proofs.lemmas.Grind.{common_steps}
pub use Rattle.std.specs.Prelude.{codes}
pub use Rattle.uz_cert_lines.specs.declared.version.Version.TheVariants.{Second}
pub use Rattle.uz_cert_writer.specs.Joined.{ended, line_end, run_lines, run_on, spaced}
pub use Rattle.uz_cert_writer.specs.Spelling.{cell_items, cell_words, ends_word, entry_words, event_words, fact_word, flag_items, item}
pub use Rattle.uz_cert_writer.specs.Spelling.{kind_words, kinds_then, line_of, pair_items, point_words, register_items, rest_words}
pub use Rattle.uz_cert_writer.specs.Spelling.{runs_of, slot_items, successor_items, unless}
pub use Rattle.uz_schedule.specs.{declared.header.Cell.Cell, declared.lines.Event.Event, declared.states.Point.Point}
