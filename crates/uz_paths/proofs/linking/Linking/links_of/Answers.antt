use Rattle.std.proofs.Common.{◌≡◌, ◌∙◌, ◌<◌, ◌≤◌, ◌^◌, List, ap, arith, length, refl, subst, sym, ℕ}
use Rattle.std.specs.Prelude.{Some, slice_get}
use Rattle.std.proofs.lemmas.Option.{slice_get_read}
use Rattle.uz_schedule.specs.declared.states.Instance.{Instance}
use Rattle.uz_paths.specs.Lists.{IsListAt}
use Rattle.uz_paths.proofs.MakeLemmas.{links_more}
use Rattle.uz_paths.proofs.NumberLemmas.{among_at}
use Rattle.uz_paths.proofs.linking.Linking.links_of.Goals as goal

pub link_of-successors-requires-clause-node : goal.link_of-successors-requires-clause-node
link_of-successors-requires-clause-node c =
    among_at c.as_slice-at-items.result.now c.args.self.now.nodes.now.keys c.loop-i.i c.at-item.result c.as_slice-at-items.ensures.keys
    c.loop-i-test.true c.at-item.is

pub loop-i-preserved : goal.loop-i-preserved
loop-i-preserved c =
    let at : slice_get c.args.self.now.nodes.now.keys c.loop-i.i ≡ Some c.at-item.result =
    ap (λ zs. slice_get zs c.loop-i.i) (sym c.as_slice-at-items.ensures.keys) ∙ slice_get_read c.as_slice-at-items.result.now
    (length c.as_slice-at-items.result.now) c.loop-i.i c.at-item.result refl c.loop-i-test.true c.at-item.is in
    record {
      lists = c.in_ok-put_list.ensures.more;
      linked = links_more c.args.self.now.image.now c.args.self.now.program.now (length c.args.rests.now) c.args.self.now.nodes.now.keys c.args.self.now.numbers.now
          c.args.self.now.count c.loop-i.i c.number_at-number.result c.at-item.result c.link_of-successors.result.items c.loop-i.links
          c.put_list.new.lists at c.number_at-number.ensures c.link_of-successors.ensures.fits c.link_of-successors.ensures.named
          (subst (IsListAt c.put_list.new.lists c.loop-i.i) c.as_slice.ensures.value c.in_ok-put_list.ensures.last) c.in_ok-put_list.ensures.kept c.loop-i.invariant.linked;
    }

few_lists : (xs nodes : List Instance) (i : ℕ) → xs ≡ nodes → i < length xs → length nodes < 524288 → i < 2 ^ 27
few_lists xs nodes i same within few = let long = ap length same in omega (arith, long, within, few)

all_past : (xs nodes : List Instance) (i k : ℕ) → xs ≡ nodes → length xs ≤ k → i < length nodes → i < k
all_past xs nodes i k same past less = let long = ap length same in omega (arith, long, past, less)

pub put_list-requires-clause-lists : goal.put_list-requires-clause-lists
put_list-requires-clause-lists c = c.loop-i.invariant.lists

pub put_list-requires-clause-few : goal.put_list-requires-clause-few
put_list-requires-clause-few c =
    few_lists _ c.args.self.now.nodes.now.keys c.loop-i.i c.as_slice-at-items.ensures.keys c.loop-i-test.true c.requires.few

pub returns : goal.returns
returns c =
    λ i less. c.loop-i.invariant.linked i
    (all_past _ c.args.self.now.nodes.now.keys i c.loop-i.i c.as_slice-at-items.ensures.keys c.loop-i-test.false less)
