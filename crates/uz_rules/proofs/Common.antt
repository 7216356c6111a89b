-- The names that several of these proofs use.
pub use Rattle.avr_decode.proofs.Unique.{unique}
pub use Rattle.avr_table.specs.Rows.{clocks_of, Reads, words_of}
pub use Rattle.avr_table.specs.declared.Instr.{Instr}
pub use Rattle.avr_table.specs.declared.Instr.TheVariants.{Nop}
pub use Rattle.avr_table.specs.declared.Outcome.{Outcome}
pub use Rattle.avr_table.specs.declared.Outcome.TheVariants.{Next, SkipOne, SkipTwo, Taken}
pub use Rattle.std.proofs.Common.{[], All, ap, append_assoc, ap₂, arith, Bool, Contains, drop, Err, false, filter, fold, if◌then◌else◌, inl}
pub use Rattle.std.proofs.Common.{inr, is_none, length, List, map, min, mul-add, mul_assoc, mul_comm, mul_left_comm, nat_eq, nat_le, nat_lt}
pub use Rattle.std.proofs.Common.{negsuc, None, not, Ok, Option, option_and_then, pos, pow-suc, pow_mono, pow_pos, refl, rules, slice_get}
pub use Rattle.std.proofs.Common.{slice_index, slice_index_or, slice_set, Some, subst, suc, suc-mul, sym, take, true, unwrap_or, zero, ℕ, ℤ}
pub use Rattle.std.proofs.Common.{◌%◌, ◌&&◌, ◌*ℤ◌, ◌*◌, ◌++◌, ◌+ℤ◌, ◌+◌, ◌-◌, ◌/◌, ◌<◌, ◌==◌, ◌^◌, ◌||◌, ◌∙◌, ◌∷◌, ◌≡◌, ◌≢◌, ◌≤◌, ◌⊎◌}
pub use Rattle.std.proofs.lemmas.Bool.{and_parts, and_right, cases_lt, eq-eqb, eqb-true, false_from_ne_true, not-false, not-true, or_cases}
pub use Rattle.std.proofs.lemmas.Bool.{or_left, or_parts, or_right}
pub use Rattle.std.proofs.lemmas.Bool.Decides.{eqb_tells, nat_tests}
pub use Rattle.std.proofs.lemmas.Int.{ints}
pub use Rattle.std.proofs.lemmas.List.{append-nil, ext_get_or, get_or-map, get_or-set_other, get_or-set_same, get_or-take}
pub use Rattle.std.proofs.lemmas.List.{get_or_append_left, get_or_default, get_or_past, get_or_push, length-append, length-map, length-set}
pub use Rattle.std.proofs.lemmas.List.{length-take-le, map-append, set-get_or, set-set, take_more}
pub use Rattle.std.proofs.lemmas.List.Elements.{All-cons, All-nil, Contains-append_left, Contains-append_right, filter_map-append}
pub use Rattle.std.proofs.lemmas.List.Elements.{recursion_from_All}
pub use Rattle.std.proofs.lemmas.Nat.Bits.{bit_at-lt, bit_at-pow_other, bit_at-suc, bit_at_above, bit_at_cat_high, bit_at_cat_low}
pub use Rattle.std.proofs.lemmas.Nat.Bits.{bit_at_lowest, bit_at_xor, same_from_bits_below}
pub use Rattle.std.proofs.lemmas.Option.{option_and_then_some, same_Some, slice_get_cases}
pub use Rattle.std.specs.FinMap.{FinMap}
pub use Rattle.std.specs.Int.{abs_diff, bit_at}
pub use Rattle.std.specs.List.{AllByRecursion, AllWithin, filter_map}
pub use Rattle.std.specs.Ordering.{nat_cmp}
pub use Rattle.std.specs.Prelude.{bit_xor, replicate, ⊤, ◌-ℤ◌}
pub use Rattle.uz_core.proofs.EffectRanges.{effect_fits}
pub use Rattle.uz_core.proofs.SregBits.{binary_seven, bit_of_merged, bit_of_with_bit, enabled_kept, or_kept, pair_seven, unary_seven}
pub use Rattle.uz_core.proofs.StateKept.{reset_is_state, state_kept}
pub use Rattle.uz_core.specs.Arithmetic.{AluResult, and_of, bit_is_set, bit_value, chained_result, difference_of, exclusive_or, flags_none}
pub use Rattle.uz_core.specs.Arithmetic.{merged_sreg, or_of, overflows, pair_difference_of, pair_result, product_of, signed, with_bit}
pub use Rattle.uz_core.specs.Core.{add_to_pair_result, binary_result, bit_equals, changed_core, content_after_loads, Core, core_byte}
pub use Rattle.uz_core.specs.Core.{effect_result, effective_address, following_pc, is_core_address, leaves_core, load_addresses}
pub use Rattle.uz_core.specs.Core.{loaded_bytes, next_pc, operand_value, outcome_of, owes_instruction, pair, pc_stores, register}
pub use Rattle.uz_core.specs.Core.{returns_from_interrupt, sample_clock, skipped_words, StepResult, stores_of, test_holds, unary_result}
pub use Rattle.uz_core.specs.Core.{with_flags, with_pair, with_pointer_after, with_register, with_sp, with_sreg, with_store}
pub use Rattle.uz_core.specs.CoreRange.{IsByte, IsCore}
pub use Rattle.uz_core.specs.Effects.{effect_of}
pub use Rattle.uz_core.specs.OperandRanges.{AddressModeFits, EffectFits, OperandFits, SkipTestFits}
pub use Rattle.uz_core.specs.PadLine.{PadHistory}
pub use Rattle.uz_core.specs.Space.{after_byte, after_store, byte_at, history_wiring, is_pin, is_store, PadWiring, plain_byte, Space}
pub use Rattle.uz_core.specs.Space.{space_after, space_loads, takes_one_bit}
pub use Rattle.uz_core.specs.StateRange.{IsState}
pub use Rattle.uz_core.specs.Timer.{count_after, is_counting, is_due, is_timer_address, matches_within, Timer, timer_after}
pub use Rattle.uz_core.specs.Turn.{after_stores, all_edge_kinds, edge_kinds, State, sync_level}
pub use Rattle.uz_core.specs.declared.machine.AddressMode.{AddressMode}
pub use Rattle.uz_core.specs.declared.machine.AddressMode.TheVariants.{Direct, Displacement, PostIncrement, PreDecrement}
pub use Rattle.uz_core.specs.declared.machine.BinaryOp.{BinaryOp}
pub use Rattle.uz_core.specs.declared.machine.EdgeKind.{EdgeKind}
pub use Rattle.uz_core.specs.declared.machine.EdgeKind.TheVariants.{Pixel as PixelEdge, Sound as SoundEdge, Sync as SyncEdge}
pub use Rattle.uz_core.specs.declared.machine.Effect.{Effect}
pub use Rattle.uz_core.specs.declared.machine.Effect.TheVariants.{AddToPair, Binary, Branch, CopyByte, CopyPair, Jump, Load, LoadBit}
pub use Rattle.uz_core.specs.declared.machine.Effect.TheVariants.{LoadProgram, Multiply, PopByte, PushByte, Return, SkipIf, Stop, Store}
pub use Rattle.uz_core.specs.declared.machine.Effect.TheVariants.{StoreBit, Unary, WriteFlag, WriteIoBit}
pub use Rattle.uz_core.specs.declared.machine.HeldStore.{HeldStore}
pub use Rattle.uz_core.specs.declared.machine.HeldStore.TheVariants.{Bit as BitCall, Byte}
pub use Rattle.uz_core.specs.declared.machine.Operand.{Operand}
pub use Rattle.uz_core.specs.declared.machine.SkipTest.TheVariants.{Equal, IoBit, RegisterBit}
pub use Rattle.uz_core.specs.declared.machine.UnaryOp.{UnaryOp}
pub use Rattle.uz_hex.specs.Cells.{byte_or_255, word_of}
pub use Rattle.uz_range.proofs.ChainedCovers.{chained_covers, value_stays}
pub use Rattle.uz_range.proofs.Narrows.{common_keeps, zero_keeps}
pub use Rattle.uz_range.proofs.PairsCover.{bld_covers, bst_covers, high_covers, low_covers, pair_add_covers, pair_sub_covers, swap_covers}
pub use Rattle.uz_range.proofs.ShapesCover.{only}
pub use Rattle.uz_range.specs.Answers.{ends, is_known, is_one, is_single}
pub use Rattle.uz_range.specs.Containment.{Admits, AdmitsAll, Covers, CoversWide, IsWithin, MayBe}
pub use Rattle.uz_range.specs.Rules.{bld_answer, bst_answer, difference_answer, high_answer, low_answer, pair_add_answer, pair_sub_answer}
pub use Rattle.uz_rules.specs.After.{if_there, IsAfter, next_of, results_of}
pub use Rattle.uz_rules.specs.ComparedHolds.{against_value, AgainstFits, ComparedHolds, FlagsAre, second_pair}
pub use Rattle.uz_rules.specs.CoreMeets.{CoreMeets, FlagHolds, ValueHolds}
pub use Rattle.uz_rules.specs.EdgeRule.{each_exit, edges_fit, position_of}
unfoldable pub use Rattle.uz_rules.specs.EdgeRule.{is_quiet}
pub use Rattle.uz_rules.specs.Events.{event_of, listed, shown, shown_at}
pub use Rattle.uz_rules.specs.FactInclusion.{has_level, is_beside, is_line_of, IsAtCount, LiesAtSome, said_at, timer_inside}
unfoldable pub use Rattle.uz_rules.specs.FactInclusion.{facts_inside, stands_beside}
pub use Rattle.uz_rules.specs.Inside.{contents_inside, flag_inside, is_old_register, pairs_inside, same_kind, same_place, value_inside}
unfoldable pub use Rattle.uz_rules.specs.Inside.{all_below}
pub use Rattle.uz_rules.specs.Limits.{InstanceLimits, LimitsGive}
pub use Rattle.uz_rules.specs.Local.{IsLocal, local_fail, OneLocal, passes, rest_in, return_fail}
pub use Rattle.uz_rules.specs.Meets.{InstanceFits, LevelMeets, Meets, TimerCounts, TimerMeets}
pub use Rattle.uz_rules.specs.MemoryMeets.{CellsHold, depth_below, HeaderHolds, HeadFits, MemoryMeets, StackHolds, Untouched}
pub use Rattle.uz_rules.specs.Moving.{IsOfPoint, IsVarying, with_cells, with_registers, with_stack}
unfoldable pub use Rattle.uz_rules.specs.Moving.{varying_from}
pub use Rattle.uz_rules.specs.NarrowingMeets.{LeftMeets, NarrowingMeets}
pub use Rattle.uz_rules.specs.OneStep.{HandlerContained, IsNoEntry}
unfoldable pub use Rattle.uz_rules.specs.Periods.{ByteRepeats}
pub use Rattle.uz_rules.specs.Successors.{lies_at, lies_in_any, lies_in_box, LiesIn, LiesInPoint, same_program_place}
unfoldable pub use Rattle.uz_rules.specs.Successors.{any_from}
pub use Rattle.uz_schedule.specs.Ends.{Ends, hull, one_number}
pub use Rattle.uz_schedule.specs.Instances.{cell_span, clock_at, clock_below, instance_at, instance_at_clock, instance_in, instance_of}
pub use Rattle.uz_schedule.specs.Instances.{is_in_box, pair_of, pairs_of, span_of_val, val_at, val_of}
pub use Rattle.uz_schedule.specs.Lines.{clock_after, Lines, order_of}
pub use Rattle.uz_schedule.specs.Schedule.{event_at, length_of, level_at, start_of}
pub use Rattle.uz_schedule.specs.WellFormed.{BitFits, HeadFits as HeaderFits, PointFits, WellFormed}
pub use Rattle.uz_schedule.specs.declared.certificate.Cert.{Cert}
pub use Rattle.uz_schedule.specs.declared.facts.Against.{Against}
pub use Rattle.uz_schedule.specs.declared.facts.Against.TheVariants.{Constant, Register}
pub use Rattle.uz_schedule.specs.declared.facts.Bit.{Bit}
pub use Rattle.uz_schedule.specs.declared.facts.Bit.TheVariants.{Free, Old as OldBit, One, Zero}
pub use Rattle.uz_schedule.specs.declared.facts.Compared.{Compared}
pub use Rattle.uz_schedule.specs.declared.facts.Compared.TheVariants.{Nothing, Pair, PairResult, Result, Value}
pub use Rattle.uz_schedule.specs.declared.facts.Fact.{Fact}
pub use Rattle.uz_schedule.specs.declared.facts.Fact.TheVariants.{Any, Line, Loop}
pub use Rattle.uz_schedule.specs.declared.facts.PairFact.{PairFact}
pub use Rattle.uz_schedule.specs.declared.facts.PairFact.TheVariants.{Any as AnyPair, Loop as LoopPair}
pub use Rattle.uz_schedule.specs.declared.facts.Val.{Val}
pub use Rattle.uz_schedule.specs.declared.facts.Val.TheVariants.{Old, OldFlags, Range}
pub use Rattle.uz_schedule.specs.declared.header.Cell.{Cell}
pub use Rattle.uz_schedule.specs.declared.header.Head.{Head}
pub use Rattle.uz_schedule.specs.declared.kinds.Kind.{Kind}
pub use Rattle.uz_schedule.specs.declared.kinds.Kind.TheVariants.{Alone, Handler, Main}
pub use Rattle.uz_schedule.specs.declared.lines.EventKind.{EventKind}
pub use Rattle.uz_schedule.specs.declared.lines.EventKind.TheVariants.{Leave, Pixel, Sound, Sync}
pub use Rattle.uz_schedule.specs.declared.lines.Schedule.{Schedule}
pub use Rattle.uz_schedule.specs.declared.states.Instance.{Instance}
pub use Rattle.uz_schedule.specs.declared.states.Point.{Point}
pub use Rattle.uz_transfer.proofs.Refused.{call_room, pop_some, push_room, return_slots}
pub use Rattle.uz_transfer.specs.Compared.{compared_after, is_three, knows_comparisons, told_after, unless_named, unless_pair_named}
pub use Rattle.uz_transfer.specs.Emission.{bit_event, byte_event, emission, emission_at, level_after, level_event, main_emits, toggle_event}
pub use Rattle.uz_transfer.specs.Kinds.{cell_place, cell_range, depth_limit, is_handler, is_main, misses, place_from, range_from, tracks}
pub use Rattle.uz_transfer.specs.Memory.{address_range, all_flags, cell_value, depth_of, flags_from, flags_number, flash_value, is_old}
pub use Rattle.uz_transfer.specs.Memory.{loaded_value, slot_value, sreg_value, stored_in, value_at_address, with_cell, with_pointer_range}
pub use Rattle.uz_transfer.specs.Memory.{with_slots, with_stored, without_slots}
pub use Rattle.uz_transfer.specs.Narrowed.{byte_span, left_of, narrowed, test_of, with_left, with_one}
pub use Rattle.uz_transfer.specs.Refusals.{cell_admits, fail_of, flag_fails, flag_is, io_fails, is_known_slot, is_setup_register, is_some}
pub use Rattle.uz_transfer.specs.Refusals.{mask_fails, may_store, range_inside, refuse_if, stored_bit, target_fails, top_fails}
pub use Rattle.uz_transfer.specs.Step.{all_exits, at_exit, clears_flag, draft_of, ends_line, exits_of, following_of, IsReadAt, IsStep}
pub use Rattle.uz_transfer.specs.Step.{sampled_of, step_of_row, step_unless, successor}
pub use Rattle.uz_transfer.specs.Transfer.{bit_of_bool, pc_values, transfer, with_flag}
pub use Rattle.uz_transfer.specs.Values.{byte_hull, each_flag, exact_pair, flag_at, is_pointer, known_byte, merged_flags, pair_at}
pub use Rattle.uz_transfer.specs.Values.{pair_number, pair_range, span_at, span_of, value_at, with_flag_list, with_pair_range}
pub use Rattle.uz_transfer.specs.Values.{with_pair_value, with_value}
pub use Rattle.uz_transfer.specs.declared.fail.Fail.{Fail}
pub use Rattle.uz_transfer.specs.declared.fail.Fail.TheVariants.{Mask}
pub use Rattle.uz_transfer.specs.declared.narrowing.Left.{Left}
pub use Rattle.uz_transfer.specs.declared.step.Exit.{Exit}
pub use Rattle.uz_transfer.specs.declared.step.Step.{Step}
