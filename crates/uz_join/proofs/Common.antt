-- The names that several of these proofs use.
pub use Rattle.arrayvec.specs.ArrayVec.{array_vec_len}
pub use Rattle.std.proofs.Common.{Bool, List, Some, [], ap, arith, drop, false, get_or, if◌then◌else◌, inl, inr, leb, length, length-append}
pub use Rattle.std.proofs.Common.{map, refl, reverse, slice_get, subst, suc, sym, take, true, true≢false, zero, ℕ, ⊎_elim, ◌%◌, ◌&&◌, ◌*◌}
pub use Rattle.std.proofs.Common.{◌++◌, ◌+◌, ◌-◌, ◌<◌, ◌∙◌, ◌∷◌, ◌≡◌, ◌≢◌, ◌≤◌}
pub use Rattle.std.proofs.lemmas.Bool.{cases_eq, eqb-true, le-leb, leb-true}
pub use Rattle.std.proofs.lemmas.Grind.{common_steps}
pub use Rattle.std.proofs.lemmas.List.{append-nil, reverse-append, reverse-reverse}
pub use Rattle.std.proofs.lemmas.Option.{slice_get_read, slice_get_within}
pub use Rattle.std.specs.Prelude.{IfSome, None, Vec, option_and_then, ◌⊎◌}
pub use Rattle.uz_join.specs.Coverage.{AreSaid, AreSaidBack, Coverage, IsOnLine, IsSaid, IsSaidBack, IsSaidOver, SaidAt, SaidBy, SaidPlace}
pub use Rattle.uz_join.specs.Coverage.{SaysInstances}
pub use Rattle.uz_join.specs.Points.{IsOrderedVal, byte_fact, fact_of, old_facts}
pub use Rattle.uz_join.specs.Replacing.{AreSoFar, IsPut}
pub use Rattle.uz_join.specs.Same.{AreTold, IsTold, IsWhollyTold, SameAt, SameInstances, SamePlace}
pub use Rattle.uz_schedule.specs.Ends.{Ends, one_number}
pub use Rattle.uz_schedule.specs.Instances.{cell_span, clock_below, instance_of, is_in_box, pairs_of, span_of_val, val_of}
pub use Rattle.uz_schedule.specs.WellFormed.{RangeFits}
pub use Rattle.uz_schedule.specs.declared.facts.Fact.{Fact}
pub use Rattle.uz_schedule.specs.declared.facts.PairFact.{PairFact}
pub use Rattle.uz_schedule.specs.declared.facts.Val.{Val}
pub use Rattle.uz_schedule.specs.declared.states.Instance.{Instance}
pub use Rattle.uz_schedule.specs.declared.states.Point.{Point}
pub use lib.Pointwise.{pointwise}
