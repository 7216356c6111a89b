-- The names that several of these proofs use.
pub use Rattle.avr_decode.proofs.Unique.{unique}
pub use Rattle.avr_decode.specs.Decoded.{Decoded}
pub use Rattle.avr_table.specs.Rows.{Reads, clocks_of}
pub use Rattle.avr_table.specs.declared.Instr.{Instr}
pub use Rattle.avr_table.specs.declared.Instr.TheVariants.{Reti}
pub use Rattle.std.proofs.Common.{All, Bool, Contains, Err, List, None, Ok, Option, Result, Some, [], add-zero, ap, append_assoc, arith}
pub use Rattle.std.proofs.Common.{cond, drop, eqb, false, filter, get_or, if◌then◌else◌, inl, inr, is_none, leb, length, ltb, map, nat_eq}
pub use Rattle.std.proofs.Common.{nat_le, nat_lt, negsuc, not, option_and_then, pos, refl, slice_get, slice_index, slice_set, subst, suc}
pub use Rattle.std.proofs.Common.{sym, take, true, unwrap_or, zero, ℕ, ℤ, ◌%◌, ◌&&◌, ◌*ℤ◌, ◌*◌, ◌++◌, ◌+ℤ◌, ◌+◌, ◌-◌, ◌/◌, ◌<◌, ◌==◌, ◌^◌}
pub use Rattle.std.proofs.Common.{◌||◌, ◌↔◌, ◌∙◌, ◌∷◌, ◌≡◌, ◌≢◌, ◌≤◌, ◌⊎◌}
pub use Rattle.std.proofs.Math.Bool.{or-false, or-true}
pub use Rattle.std.proofs.Math.Nat.{add-suc}
pub use Rattle.std.proofs.lemmas.Bool.{and_from, and_parts, and_right, both_ways, cond_both, eq-eqb, eqb-true, le-leb, le-ltb, leb-true}
pub use Rattle.std.proofs.lemmas.Bool.{lt-leb, not-false, not-true, or_cases, or_left, or_right}
pub use Rattle.std.proofs.lemmas.Bool.Decides.{eqb_tells, leb_tells, nat_tests}
pub use Rattle.std.proofs.lemmas.List.{append-nil, length-map, reverse-append}
pub use Rattle.std.proofs.lemmas.List.Elements.{All-append, All-cons, All-contains, All-filter, All-get_or, All-head, All-nil, All-tail}
pub use Rattle.std.proofs.lemmas.List.Elements.{filter-append, filter_map-append}
pub use Rattle.std.proofs.lemmas.Option.{get_or_from_slice_get, same_Some, slice_get-get_or, slice_get_within}
pub use Rattle.std.specs.FinMap.{FinMap}
pub use Rattle.std.specs.Int.{bit_at}
pub use Rattle.std.specs.List.{AllByRecursion, list_all}
pub use Rattle.std.specs.Option.{option_map}
pub use Rattle.std.specs.Ordering.{nat_cmp}
pub use Rattle.std.specs.Prelude.{⊤}
pub use Rattle.uz_check.specs.Acceptance.{Accepts}
pub use Rattle.uz_check.specs.ByPosition.{AreScanlines, LiesByPosition, event_by_position, instance_by_level, instance_by_point}
pub use Rattle.uz_check.specs.ByPosition.{instance_by_position, level_by_position, position}
pub use Rattle.uz_check.specs.Certified.{Certified, clock_of}
pub use Rattle.uz_check.specs.Claim.{Follows, InTime, scheduled, until}
pub use Rattle.uz_check.specs.Folding.{FoldingLaw, boxes_even, folds, has_no_line, has_no_line_there, is_even, is_on_line, is_plain}
pub use Rattle.uz_check.specs.Folding.{keeps_by_lines, kind_of, line_before, lines_alike, pair_keeps_by_lines, same_rest, same_spans}
pub use Rattle.uz_check.specs.FrameRules.{EntryPasses, RestPasses}
pub use Rattle.uz_check.specs.FrameTests.{none_after, none_until}
pub use Rattle.uz_check.specs.ImpliedLines.{HoldTo, IsRun, RunsFrom, instances_to_check_in, instances_to_check_of, is_implied}
pub use Rattle.uz_check.specs.ImpliedLines.{lines_to_check}
pub use Rattle.uz_check.specs.Invariant.{AloneRuns, Due, HandlerRuns, Invariant, MainRuns, Running, Runs, RunsAlone, RunsHandler, RunsMain}
pub use Rattle.uz_check.specs.Invariant.{Stands, pushed}
pub use Rattle.uz_check.specs.Keeping.{edges_after}
pub use Rattle.uz_check.specs.Played.{Plays, PlaysTo}
pub use Rattle.uz_check.specs.Refusal.{FirstRefusal, Why}
unfoldable pub use Rattle.uz_check.specs.Refusal.{EntryRefusal, InstanceRefusal, LineRefusal, PointRefusal, PointsRefusal, RestRefusal}
unfoldable pub use Rattle.uz_check.specs.Refusal.{RestsRefusal, ScheduleRefusal}
pub use Rattle.uz_check.specs.Steadiness.{at_line, break_from, break_in_line, first_break, second_fall}
pub use Rattle.uz_check.specs.Steady.{IsSteady, IsSteadyLine}
pub use Rattle.uz_check.specs.Ways.{EveryTurnGoes, Goes, IsPlain, Spends}
pub use Rattle.uz_check.specs.declared.refusal.RefusedWhy.{RefusedWhy}
pub use Rattle.uz_console.specs.Entry.{Begins, BitHolds as EntryBit, CellsHold as AllHold, EntryCondition, IsIn, ends_at}
pub use Rattle.uz_console.specs.Runs.{AreTimed}
pub use Rattle.uz_core.specs.Arithmetic.{bit_is_set, with_bit}
pub use Rattle.uz_core.specs.Core.{Core, content_after_loads, is_core_address, load_addresses, pair, register, returns_from_interrupt}
pub use Rattle.uz_core.specs.Core.{sample_clock}
pub use Rattle.uz_core.specs.CoreRange.{IsByte, IsCore}
pub use Rattle.uz_core.specs.Effects.{effect_of}
pub use Rattle.uz_core.specs.PadLine.{PadHistory}
pub use Rattle.uz_core.specs.Run.{Run, TurnBefore, edges_until}
pub use Rattle.uz_core.specs.Space.{PadWiring, Space, after_byte, after_store, history_wiring, is_store, plain_byte, space_after}
pub use Rattle.uz_core.specs.Space.{space_loads, space_taken, with_plain_byte}
pub use Rattle.uz_core.specs.StateRange.{IsState}
pub use Rattle.uz_core.specs.Timer.{Timer, count_after, is_counting, matches_within, timer_after, timer_taken}
pub use Rattle.uz_core.specs.Turn.{State, Turn, address_of, after_entry, after_instruction, after_stores, all_edge_kinds, edge_kinds}
pub use Rattle.uz_core.specs.Turn.{edges_at, entry_edges, entry_stores, instruction_edges, instruction_result, sync_level}
pub use Rattle.uz_core.specs.declared.machine.Edge.{Edge}
pub use Rattle.uz_core.specs.declared.machine.EdgeKind.{EdgeKind}
pub use Rattle.uz_core.specs.declared.machine.EdgeKind.TheVariants.{Enter, Leave, Pixel, Sound}
pub use Rattle.uz_core.specs.declared.machine.Effect.{Effect}
pub use Rattle.uz_core.specs.declared.machine.Effect.TheVariants.{Return, Stop, Store}
pub use Rattle.uz_core.specs.declared.machine.HeldStore.{HeldStore}
pub use Rattle.uz_core.specs.declared.machine.HeldStore.TheVariants.{Byte}
pub use Rattle.uz_hex.specs.Cells.{IsFlash, word_of}
pub use Rattle.uz_range.specs.Answers.{ends, is_single}
pub use Rattle.uz_range.specs.Containment.{IsWithin}
pub use Rattle.uz_rules.proofs.InsideMeets.{place_tells as same_place_tells}
pub use Rattle.uz_rules.specs.CoreMeets.{CoreMeets, FlagHolds, ValueHolds}
pub use Rattle.uz_rules.specs.EdgeRule.{edges_fit, emits_as_scheduled, is_event, is_kind, position_of}
unfoldable pub use Rattle.uz_rules.specs.EdgeRule.{is_quiet}
pub use Rattle.uz_rules.specs.Events.{Shown, event_of, listed, shown, shown_at}
pub use Rattle.uz_rules.specs.Inside.{StateInside, cells_inside, inside, restored, same_bool, same_place}
unfoldable pub use Rattle.uz_rules.specs.Inside.{all_below}
pub use Rattle.uz_rules.specs.Local.{IsLocal, OneLocal, compares_edges, end_of, first_exit, has_successors, instance_fail, is_no_opcode}
pub use Rattle.uz_rules.specs.Local.{is_stop, local_fail, passes, rest_in, result_fail, return_fail, row_emits_in_main, step_fail}
pub use Rattle.uz_rules.specs.Meets.{LevelMeets, Meets, TimerCounts, TimerMeets}
pub use Rattle.uz_rules.specs.MemoryMeets.{CellsHold, HeaderHolds, depth_below}
pub use Rattle.uz_rules.specs.Successors.{LiesInPoint, lies_at, lies_in_any, lies_in_point}
unfoldable pub use Rattle.uz_rules.specs.Successors.{any_from}
pub use Rattle.uz_rules.specs.Visit.{IsVisit, Keeps}
pub use Rattle.uz_scan.specs.Lines.{is_high}
pub use Rattle.uz_scan.specs.Pictures.{newest_first}
pub use Rattle.uz_schedule.proofs.Places.{at_after, at_more, at_same, event_here, level_here}
pub use Rattle.uz_schedule.proofs.Starts.{clocks_within, event_of_place, frame_some, length_within}
pub use Rattle.uz_schedule.specs.Ends.{Ends, whole_byte}
pub use Rattle.uz_schedule.specs.Instances.{clock_at, clock_below, entry_instance, instance_at, instance_at_clock, instance_in, instance_of}
pub use Rattle.uz_schedule.specs.Instances.{is_in_box, rest_instance, val_of}
pub use Rattle.uz_schedule.specs.Limits.{ScheduleFits}
pub use Rattle.uz_schedule.specs.Lines.{Lines, clock_after, line_after, order_of, uniform}
pub use Rattle.uz_schedule.specs.Schedule.{At, event_at, event_in, event_in_kind, events_of, frame_of, length_of, level_at, next_line}
pub use Rattle.uz_schedule.specs.Schedule.{or_else, response_clocks, scanline, start_of, sync_of}
pub use Rattle.uz_schedule.specs.Tracked.{tracked, tracks as kind_tracks}
pub use Rattle.uz_schedule.specs.WellFormed.{PointFits, RestFits, WellFormed}
pub use Rattle.uz_schedule.specs.declared.certificate.Cert.{Cert}
pub use Rattle.uz_schedule.specs.declared.facts.Bit.{Bit}
pub use Rattle.uz_schedule.specs.declared.facts.Bit.TheVariants.{Free, Old as OldBit, One, Zero}
pub use Rattle.uz_schedule.specs.declared.facts.Compared.TheVariants.{Nothing}
pub use Rattle.uz_schedule.specs.declared.facts.Val.{Val}
pub use Rattle.uz_schedule.specs.declared.facts.Val.TheVariants.{Old}
pub use Rattle.uz_schedule.specs.declared.header.Cell.{Cell}
pub use Rattle.uz_schedule.specs.declared.header.Head.{Head}
pub use Rattle.uz_schedule.specs.declared.kinds.Kind.{Kind}
pub use Rattle.uz_schedule.specs.declared.kinds.Kind.TheVariants.{Alone, Handler, Main}
pub use Rattle.uz_schedule.specs.declared.kinds.Owner.{Owner}
pub use Rattle.uz_schedule.specs.declared.kinds.Owner.TheVariants.{Handler as HandlerOwner, Main as MainOwner}
pub use Rattle.uz_schedule.specs.declared.kinds.Response.{Response}
pub use Rattle.uz_schedule.specs.declared.kinds.Response.TheVariants.{Five, Four}
pub use Rattle.uz_schedule.specs.declared.lines.Event.{Event}
pub use Rattle.uz_schedule.specs.declared.lines.EventKind.{EventKind}
pub use Rattle.uz_schedule.specs.declared.lines.EventKind.TheVariants.{Sync}
pub use Rattle.uz_schedule.specs.declared.lines.Schedule.{Schedule}
pub use Rattle.uz_schedule.specs.declared.states.Instance.{Instance}
pub use Rattle.uz_schedule.specs.declared.states.Point.{Point}
pub use Rattle.uz_schedule.specs.declared.states.Rest.{Rest}
pub use Rattle.uz_transfer.specs.Compared.{knows_comparisons, with_compared}
pub use Rattle.uz_transfer.specs.Emission.{level_after, main_emits}
pub use Rattle.uz_transfer.specs.Exits.{each_exit}
pub use Rattle.uz_transfer.specs.InTime.{clock_holds, is_in_time, keeps_time, returns_with_top, sets_ahead}
pub use Rattle.uz_transfer.specs.Kinds.{cell_place, cell_range, depth_limit, is_handler, is_main}
pub use Rattle.uz_transfer.specs.Memory.{address_range, all_flags, depth_of, is_old}
pub use Rattle.uz_transfer.specs.Narrowed.{is_taken, left_at, left_of, narrowed, with_left, with_some_left}
pub use Rattle.uz_transfer.specs.Refusals.{fail_of, refuse_if}
pub use Rattle.uz_transfer.specs.Step.{IsReadAt, IsStep, ends_line, step_of_row, step_unless, successor}
pub use Rattle.uz_transfer.specs.Timer.{handler_stores, stores_top}
pub use Rattle.uz_transfer.specs.Values.{flag_at, pair_at, span_at, span_of, value_at}
pub use Rattle.uz_transfer.specs.declared.fail.Fail.{Fail}
pub use Rattle.uz_transfer.specs.declared.narrowing.Left.{Left}
pub use Rattle.uz_transfer.specs.declared.step.Exit.{Exit}
pub use Rattle.uz_transfer.specs.declared.step.Step.{Step}
