-- The names that several of these proofs use.
pub use Rattle.std.proofs.Common.{Bool, List, [], add-one, ap, append-nil, append_assoc, arith, bytes_eq, codes, cond, decimal, drop, eqb}
pub use Rattle.std.proofs.Common.{false, filter, get_or, inl, inr, leb, length, length-append, lit<, lit≤, ltb, map, negsuc, not, pos}
pub use Rattle.std.proofs.Common.{refl, subst, suc, sym, take, true, zero, ℕ, ℤ, ◌&&◌, ◌*◌, ◌++◌, ◌+◌, ◌-◌, ◌/◌, ◌<◌, ◌^◌, ◌||◌, ◌∙◌, ◌∷◌}
pub use Rattle.std.proofs.Common.{◌≡◌, ◌≢◌, ◌≤◌, ◌⊎◌}
pub use Rattle.std.proofs.lemmas.List.Elements.{All-cons, All-head, All-map, All-nil, All-tail, All-weaker}
pub use Rattle.std.specs.Prelude.{All, Err, None, Ok, Option, Result, Some, slice_get, slice_set, ⊤}
pub use Rattle.uz_cert_laws.specs.LineWords.{PlacesAre, line}
pub use Rattle.uz_cert_laws.specs.Spells.{Parts, letters_of_flags, letters_of_pairs, says, spelled, spells, word_at}
pub use Rattle.uz_cert_lines.specs.Forms.{LineForm, finish, items, number, reads, spans_of}
pub use Rattle.uz_cert_lines.specs.Items.{bytes_forms, default_flag, is_flag_z, is_handler, items_from, pair_forms, tracked_before}
pub use Rattle.uz_cert_lines.specs.Items.{tracked_count}
pub use Rattle.uz_cert_lines.specs.Lines.{least_of, none_in_main, one_of, span_of_fact, within}
pub use Rattle.uz_cert_lines.specs.Named.{NamedItem, NamedValues, ValueForm, ValueOf, a_comparison, a_number, a_range, a_register}
pub use Rattle.uz_cert_lines.specs.Named.{is_usual, named_items, named_of, named_place, successors_place, temp_forms, usual_facts}
pub use Rattle.uz_cert_lines.specs.Named.{with_named}
pub use Rattle.uz_cert_lines.specs.declared.version.Version.TheVariants.{First, Second, Third}
pub use Rattle.uz_cert_writer.specs.Spelling.{cell_items, comparison_word, ends_word, fact_word, flag_item, flag_items, flag_word}
pub use Rattle.uz_cert_writer.specs.Spelling.{four_word, item, kind_word, listed_items, numbers_from, options, pair_item, pair_items}
pub use Rattle.uz_cert_writer.specs.Spelling.{pair_word, range_word, register_item, register_items, signed_word, slope_word, slot_items}
pub use Rattle.uz_cert_writer.specs.Spelling.{successor_items, three_word, two_word, unless, value_item, value_items, value_word}
pub use Rattle.uz_hex.proofs.NumberWords.{number_again, number_read}
pub use Rattle.uz_schedule.specs.Limits.{clock_limit, rises, rises_from}
pub use Rattle.uz_schedule.specs.WellFormed.{BitFits, CellFits, ComparedFits, FactFits, PairFits, RangeFits, SplitFits}
pub use Rattle.uz_schedule.specs.WellFormed.{is_carry_and_zero_default, is_default_flag, is_zero_or_one, magnitude, spans_fit}
pub use Rattle.uz_schedule.specs.declared.facts.Against.TheVariants.{Constant, Register}
pub use Rattle.uz_schedule.specs.declared.facts.Bit.TheVariants.{Free, Old as OldBit, One, Zero}
pub use Rattle.uz_schedule.specs.declared.facts.Fact.TheVariants.{Any, Between, Line, Loop, Old, OldFlags}
pub use Rattle.uz_schedule.specs.declared.facts.PairFact.TheVariants.{Any as AnyPair, Between as BetweenPair, Line as LinePair}
pub use Rattle.uz_schedule.specs.declared.facts.PairFact.TheVariants.{Loop as LoopPair}
pub use Rattle.uz_schedule.specs.declared.kinds.Kind.TheVariants.{Alone, Handler, Main}
pub use Rattle.std.proofs.{lemmas.Fmt.decimal_digit, lemmas.Bool.Decides.nat_tests}
pub use Rattle.uz_cert_lines.specs.{Why.◌>>=◌, declared.values.Raw.Raw, declared.items.Shape.Shape, declared.items.Facts.Facts}
pub use Rattle.uz_cert_lines.specs.{declared.why.CertWhy.CertWhy, declared.version.Version.Version, declared.values.FactForms.FactForms}
pub use Rattle.uz_cert_lines.specs.{declared.lines.ParsedLine.ParsedLine, FlagNames.any_names, FlagNames.names_c_or_z, Grammar.Words}
pub use Rattle.uz_cert_lines.specs.{Grammar.next_as, Grammar.rest_of, Values.bit_of, Values.ends, Values.ends_of, Values.fact_of}
pub use Rattle.uz_cert_lines.specs.{Values.pair_of, Defaults.is_any_pair, Defaults.is_default, Defaults.is_range, Defaults.range_fact}
pub use Rattle.uz_hex.proofs.{Cuts.cut_again, Cuts.cut_read, Plain.Lacks, Plain.lacks_cons, Plain.plain}
pub use Rattle.uz_hex.specs.{Cutting.cut_at, Numbers.is_numeral, Numbers.number_below}
pub use Rattle.uz_schedule.specs.{Tracked.tracks, Schedule.scanline, declared.facts.Bit.Bit, declared.kinds.Kind.Kind}
pub use Rattle.uz_schedule.specs.{declared.facts.Fact.Fact, Ends.Ends, Ends.is_within, declared.header.Cell.Cell}
pub use Rattle.uz_schedule.specs.{declared.header.Head.Head, declared.facts.PairFact.PairFact, declared.facts.Compared.Compared}
pub use Rattle.uz_cert_lines.specs.Values.{digits}
unfoldable pub use Rattle.uz_cert_lines.specs.Grammar.{choice_of, fixed_of, number_of, slope_of}
unfoldable pub use Rattle.uz_cert_lines.specs.Items.{first_facts, read_items, take_item}
unfoldable pub use Rattle.uz_cert_lines.specs.Values.{one_number, range, raw_of, span_of, two_numbers}
