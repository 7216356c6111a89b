use Rattle.std.specs.Prelude.{OnErr}
use Rattle.std.proofs.Common.{ℕ, ◌≤◌, refl, append-nil, Result, Ok, Err, ap, sym, subst, ◌∙◌, ◌++◌, ◌+◌, ◌<◌, length, take, drop, get_or, append_assoc, arith}
use Rattle.std.proofs.lemmas.List.{take_all}
use Rattle.uz_core.specs.declared.machine.Edge.{Edge}
use Rattle.uz_core.specs.declared.machine.EdgeKind.TheVariants.{Sync}
use Rattle.uz_scan.specs.Pictures.{NeverFalls, end_records, end_records_of, newest_first, record_of, records, row_records, row_records_of}
use Rattle.uz_scan.specs.Pictures.{shown_by}
use Rattle.uz_scan.specs.Scanning.{StandsFor}
use Rattle.uz_scan.proofs.PictureLaws.{never_falls_more, one_more, part_of_records}
use Rattle.uz_scan.proofs.whole.picture.Goals as goal

OnErr-always : {A E : Type 0} {P : Type 0} (r : Result A E) → P → OnErr r P
OnErr-always (Ok a) p = tt
OnErr-always (Err e) p = p

pub returns-in_err-add_record-clause-err : goal.returns-in_err-add_record-clause-err
returns-in_err-add_record-clause-err c =
    OnErr-always c.from_residual.result (
    let part = part_of_records c.args.edges.now c.loop-edge.edge-index in
    (part.0, c.in_err-add_record.ensures ∙ (c.loop-edge.invariant.records ∙ ap (λ x. c.args.out.now.items ++ x) part.1)))

-- an edge adds one record of a kind at most
one_edge_more : (records added edges : ℕ) → records ≤ edges → added ≤ 1 → records + added ≤ edges + 1
one_edge_more records added edges before few = omega (arith, before, few)

-- what the loop reads past the list's end, where it never reads
no_edge : Edge
no_edge = record { clock = 0; kind = Sync 0 }

pub loop-edge-preserved : goal.loop-edge-preserved
unfolding no_edge
loop-edge-preserved c =
    let edges = c.args.edges.now in
    let i = c.loop-edge.edge-index in
    let before = newest_first (take i edges) in
    let within : i < length edges = c.loop-edge-test.true in
    let more = one_more edges i no_edge within in
    let stands = c.edge-shown.ensures.stands before c.loop-edge.invariant.stands in
    let shown = c.edge-shown.ensures.shown before c.loop-edge.invariant.stands in
    let row = c.row.ensures _ stands in
    record {
      stands = subst (λ x. StandsFor c.edge-shown.new.self x) (sym more) stands;
      clocks = subst (λ x. NeverFalls x (drop (i + 1) edges)) (sym c.edge-shown.ensures.clock)
          (never_falls_more _ edges i no_edge within c.loop-edge.invariant.clocks);
      records = c.in_ok-add_record.ensures
          ∙ (ap (λ x. x ++ record_of c.edge-shown.result c.row.result.now) c.loop-edge.invariant.records
          ∙ (append_assoc c.args.out.now.items (records before) (record_of c.edge-shown.result c.row.result.now)
          ∙ (ap (λ x. c.args.out.now.items ++ (records before ++ record_of x c.row.result.now)) shown
          ∙ (ap (λ x. c.args.out.now.items ++ (records before ++ record_of (shown_by (get_or edges i no_edge) before) x)) row
          ∙ ap (λ x. c.args.out.now.items ++ records x) (sym more)))));
      rows = ap (λ x. c.loop-edge.rows + x) (c.records_added-added.ensures.rows ∙ ap row_records_of shown)
          ∙ (ap (λ x. x + row_records_of (shown_by (get_or edges i no_edge) before)) c.loop-edge.invariant.rows ∙ ap row_records
          (sym more));
      few_rows = one_edge_more _ _ _ c.loop-edge.invariant.few_rows c.records_added-added.ensures.few_rows;
      few_ends = one_edge_more _ _ _ c.loop-edge.invariant.few_ends c.records_added-added.ensures.few_ends;
      ends = ap (λ x. c.loop-edge.ends + x) (c.records_added-added.ensures.ends ∙ ap end_records_of shown)
          ∙ (ap (λ x. x + end_records_of (shown_by (get_or edges i no_edge) before)) c.loop-edge.invariant.ends ∙ ap end_records
          (sym more));
    }

none_yet : 0 ≤ 0
none_yet = omega arith

pub loop-edge-init : goal.loop-edge-init
loop-edge-init c = record {
  stands = c.new-scanner.ensures.stands;
  clocks = subst (λ clock. NeverFalls clock c.args.edges.now) (sym c.new-scanner.ensures.clock) c.requires;
  records = sym (append-nil c.args.out.now.items);
  rows = refl;
  few_rows = none_yet;
  few_ends = none_yet;
  ends = refl;
}

pub returns-clause-records : goal.returns-clause-records
returns-clause-records c = c.loop-edge.invariant.records ∙ ap (λ edges. c.args.out.now.items ++ records (newest_first edges))
    (take_all c.loop-edge.edge-index c.args.edges.now c.loop-edge-test.false)

pub returns-clause-rows : goal.returns-clause-rows
returns-clause-rows c = c.loop-edge.invariant.rows ∙ ap (λ edges. row_records (newest_first edges))
    (take_all c.loop-edge.edge-index c.args.edges.now c.loop-edge-test.false)

pub returns-clause-ends : goal.returns-clause-ends
returns-clause-ends c = c.loop-edge.invariant.ends ∙ ap (λ edges. end_records (newest_first edges))
    (take_all c.loop-edge.edge-index c.args.edges.now c.loop-edge-test.false)
