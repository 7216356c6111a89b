-- The names that several of these proofs use.
pub use Rattle.avr_table.specs.Rows.{clocks_of, words_of}
pub use Rattle.avr_table.specs.declared.Instr.{Instr}
pub use Rattle.avr_table.specs.declared.Outcome.{Outcome}
pub use Rattle.std.proofs.Common.{All, Bool, Contains, Err, List, None, Ok, Option, Result, Some, [], ap, append_assoc, arith, drop, false}
pub use Rattle.std.proofs.Common.{get_or, if◌then◌else◌, inl, inr, length, length-append, map, max, min, nat_eq, nat_le, nat_lt, not, refl}
pub use Rattle.std.proofs.Common.{replicate, reverse, slice_get, slice_index_or, slice_set, subst, suc, suc-mul, sym, take, true}
pub use Rattle.std.proofs.Common.{true≢false, zero, zero-mul, ℕ, ⊎_elim, ◌%◌, ◌&&◌, ◌*◌, ◌++◌, ◌+◌, ◌-◌, ◌/◌, ◌<◌, ◌==◌, ◌||◌, ◌∙◌, ◌∷◌}
pub use Rattle.std.proofs.Common.{◌≡◌, ◌≢◌, ◌≤◌, ◌⊎◌}
pub use Rattle.std.proofs.Math.Nat.{add-mod_right, mod-add-mod, mod-eq_of_lt, mod-lt}
pub use Rattle.std.proofs.lemmas.Bool.{and_parts, cases_Bool, cases_eq, cases_lt, eq-eqb, eqb-true, not-false}
pub use Rattle.std.proofs.lemmas.Bool.Decides.{nat_tests}
pub use Rattle.std.proofs.lemmas.List.{get_or-set_other, get_or-set_same, length-set, length-take-le, reverse-append}
pub use Rattle.std.proofs.lemmas.List.Elements.{All-head, All-tail}
pub use Rattle.std.proofs.lemmas.Option.{same_Some, slice_get-get_or, slice_get_read, slice_get_within}
pub use Rattle.std.specs.List.{flat_map}
pub use Rattle.std.specs.Prelude.{IsTrue, ⊤, ◌↔◌}
pub use Rattle.uz_core.specs.Core.{returns_from_interrupt}
pub use Rattle.uz_core.specs.Effects.{effect_of}
pub use Rattle.uz_core.specs.OperandRanges.{EffectFits}
pub use Rattle.uz_core.specs.declared.machine.AddressMode.{AddressMode}
pub use Rattle.uz_core.specs.declared.machine.AddressMode.TheVariants.{Direct, PostIncrement, PreDecrement}
pub use Rattle.uz_core.specs.declared.machine.BinaryOp.{BinaryOp}
pub use Rattle.uz_core.specs.declared.machine.Effect.{Effect}
pub use Rattle.uz_core.specs.declared.machine.Effect.TheVariants.{AddToPair, Binary, Branch, CopyByte, CopyPair, Jump, Load, LoadBit}
pub use Rattle.uz_core.specs.declared.machine.Effect.TheVariants.{LoadProgram, Multiply, NoOperation, PopByte, PushByte, SkipIf, Store}
pub use Rattle.uz_core.specs.declared.machine.Effect.TheVariants.{StoreBit, Unary, WriteFlag, WriteIoBit}
pub use Rattle.uz_core.specs.declared.machine.JumpTarget.{JumpTarget}
pub use Rattle.uz_core.specs.declared.machine.JumpTarget.TheVariants.{Absolute, Indirect, Relative}
pub use Rattle.uz_core.specs.declared.machine.Operand.{Operand}
pub use Rattle.uz_core.specs.declared.machine.Operand.TheVariants.{Constant}
pub use Rattle.uz_core.specs.declared.machine.UnaryOp.{UnaryOp}
pub use Rattle.uz_range.specs.Answers.{ends, is_known, is_single}
pub use Rattle.uz_range.specs.Rules.{bst_answer}
pub use Rattle.uz_rules.proofs.AfterLaws.{results_plain}
pub use Rattle.uz_rules.proofs.AskedLaws.{asks_none}
pub use Rattle.uz_rules.proofs.LocalLaws.{decoded_same}
pub use Rattle.uz_rules.specs.After.{next_of, results_of, timed}
pub use Rattle.uz_rules.specs.EdgeRule.{position_of}
pub use Rattle.uz_rules.specs.Inside.{KnownInItself, PlaceHolds, cells_inside, inside, restored}
unfoldable pub use Rattle.uz_rules.specs.Inside.{all_below}
pub use Rattle.uz_rules.specs.Local.{first_exit, passes}
pub use Rattle.uz_rules.specs.declared.next.Next.{Next}
pub use Rattle.uz_schedule.proofs.Modulo.{level_mod}
pub use Rattle.uz_schedule.proofs.Starts.{place_below}
pub use Rattle.uz_schedule.specs.Ends.{Ends, hull, is_within, whole_byte, whole_pair}
pub use Rattle.uz_schedule.specs.Limits.{is_length, is_top}
pub use Rattle.uz_schedule.specs.Lines.{Lines, clock_after, line_after, order_of}
pub use Rattle.uz_schedule.specs.Schedule.{event_at, frame_of, length_of, level_at, next_line, response_clocks, scanline, start_of}
pub use Rattle.uz_schedule.specs.Told.{IsInstanceTold}
pub use Rattle.uz_schedule.specs.Tracked.{depth_of, tracked}
pub use Rattle.uz_schedule.specs.WellFormed.{BitFits, HeadFits, spans_fit}
pub use Rattle.uz_schedule.specs.declared.certificate.Cert.{Cert}
pub use Rattle.uz_schedule.specs.declared.facts.Bit.{Bit}
pub use Rattle.uz_schedule.specs.declared.facts.Bit.TheVariants.{Free, Old as OldBit, One, Zero}
pub use Rattle.uz_schedule.specs.declared.facts.Compared.{Compared}
pub use Rattle.uz_schedule.specs.declared.facts.Compared.TheVariants.{Byte, Nothing, PairResult, Value}
pub use Rattle.uz_schedule.specs.declared.facts.Val.{Val}
pub use Rattle.uz_schedule.specs.declared.facts.Val.TheVariants.{Old, OldFlags, Range}
pub use Rattle.uz_schedule.specs.declared.header.Head.{Head}
pub use Rattle.uz_schedule.specs.declared.kinds.Kind.{Kind}
pub use Rattle.uz_schedule.specs.declared.kinds.Kind.TheVariants.{Alone, Handler, Main}
pub use Rattle.uz_schedule.specs.declared.lines.EventKind.{EventKind}
pub use Rattle.uz_schedule.specs.declared.lines.EventKind.TheVariants.{Leave, Pixel, Sound, Sync}
pub use Rattle.uz_schedule.specs.declared.lines.Schedule.{Schedule}
pub use Rattle.uz_schedule.specs.declared.states.Instance.{Instance}
pub use Rattle.uz_search.specs.Chains.{IsChain, IsNode, ranges_below}
pub use Rattle.uz_search.specs.Fitting.{ProgramFits, Stands}
pub use Rattle.uz_search.specs.Following.{After, Among, Flash, Follows, Shows, clock_on, clocks_between, entries, entry_at, followers_of}
pub use Rattle.uz_search.specs.Following.{line_on, line_start, lines_of, most_clocks, order_of_program, place_on, shown_at, split_at}
pub use Rattle.uz_search.specs.Limits.{ComparedKnown, Each, IsOpen, OldFits}
pub use Rattle.uz_search.specs.Loosened.{loosened, loosened_pair, loosened_register, loosened_value}
pub use Rattle.uz_search.specs.Made.{IsScheduleOf}
pub use Rattle.uz_search.specs.Marking.{KeepsMarks, MarksAll, MarksOne, MarksOwn, Seen, event_of_mark, mark_of}
pub use Rattle.uz_search.specs.Pieces.{is_split, piece_from, piece_size, pieces, pieces_each, pieces_of, split_in}
unfoldable pub use Rattle.uz_search.specs.Pieces.{first_pieces}
pub use Rattle.uz_search.specs.Places.{folded, folded_value}
pub use Rattle.uz_search.specs.Refusing.{ClosedWithoutReturn}
pub use Rattle.uz_search.specs.Returning.{ReturnAt}
pub use Rattle.uz_search.specs.Searching.{AreMarked, IsSearch, IsSearchOf, MarksWay, NotesEnd, SplitsFrom, StopHolds, Treated, Treats}
pub use Rattle.uz_search.specs.Stuck.{IsUnsteady, PassesUnsteady, StuckWith}
pub use Rattle.uz_search.specs.Tests.{is_clear_at}
unfoldable pub use Rattle.uz_search.specs.Tests.{is_clear_way}
pub use Rattle.uz_search.specs.Trails.{CameFrom, IsTrail, Leads, last_of}
pub use Rattle.uz_search.specs.Visiting.{Adds, AddsAll, ComeFrom, Extends, IsTree}
pub use Rattle.uz_search.specs.Widened.{facts_at}
unfoldable pub use Rattle.uz_search.specs.Widened.{widened}
pub use Rattle.uz_search.specs.Widenings.{is_whole, widened_all, widened_pair, widened_value}
unfoldable pub use Rattle.uz_search.specs.Widenings.{widened_by}
pub use Rattle.uz_search.specs.declared.chain.Node.{Node}
pub use Rattle.uz_search.specs.declared.examination.Stop.{Stop}
pub use Rattle.uz_search.specs.declared.found.Found.{Found}
pub use Rattle.uz_search.specs.declared.marks.Mark.{Mark}
pub use Rattle.uz_search.specs.declared.marks.Mark.TheVariants.{Unpassed}
pub use Rattle.uz_search.specs.declared.marks.Shown.{Shown}
pub use Rattle.uz_search.specs.declared.program.Program.{Program}
pub use Rattle.uz_search.specs.declared.returns.Return.{Return}
pub use Rattle.uz_search.specs.declared.widening.Widening.{Widening}
pub use Rattle.uz_search.specs.declared.widening.Widening.TheVariants.{Pair, Register}
pub use Rattle.uz_transfer.specs.Arithmetic.{add_to_pair_answer, factors_answer, is_same_register, known_operand, operation_answer}
pub use Rattle.uz_transfer.specs.Arithmetic.{unary_answer}
pub use Rattle.uz_transfer.specs.Emission.{emission, emission_at, level_after}
pub use Rattle.uz_transfer.specs.Exits.{jump_pcs, numbers_from, outcomes, targets}
pub use Rattle.uz_transfer.specs.InTime.{clock_holds}
pub use Rattle.uz_transfer.specs.Kinds.{cell_place, cell_range, is_handler, is_main}
pub use Rattle.uz_transfer.specs.Memory.{address_range, is_old, stored_in, with_cell, with_pointer_range, with_slots, with_stored}
pub use Rattle.uz_transfer.specs.Narrowed.{is_taken, left_at, left_of, narrowed, test_of, with_left, with_some_left}
pub use Rattle.uz_transfer.specs.Refusals.{fail_of, flag_fails, mask_fails, may_store, range_inside, refuse_if}
pub use Rattle.uz_transfer.specs.Step.{IsReadAt, at_exit, clears_flag, exits_of, following_of, sampled_of, step_of_row, step_unless}
pub use Rattle.uz_transfer.specs.Step.{successor}
pub use Rattle.uz_transfer.specs.Transfer.{bit_of_bool, transfer}
pub use Rattle.uz_transfer.specs.Values.{byte_hull, exact_pair, flag_at, is_pointer, known_byte, merged_flags, pair_at, pair_number}
pub use Rattle.uz_transfer.specs.Values.{pair_range, span_of, value_at, with_flag_list, with_pair_value, with_value}
pub use Rattle.uz_transfer.specs.declared.fail.Fail.{Fail}
pub use Rattle.uz_transfer.specs.declared.fail.Fail.TheVariants.{Edge}
pub use Rattle.uz_transfer.specs.declared.narrowing.Left.{Left}
pub use Rattle.uz_transfer.specs.declared.step.Exit.{Exit}
pub use Rattle.uz_transfer.specs.declared.step.Step.{Step}
pub use Rattle.uz_transfer.specs.declared.step.Test.{Test}
