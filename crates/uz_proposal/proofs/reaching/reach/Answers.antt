use Rattle.uz_proposal.proofs.ReachLemmas.{further, on_the_way, over, stops}
use Rattle.uz_proposal.proofs.reaching.reach.Goals as goal

pub pages-init : goal.pages-init
pages-init c = λ start edges run. on_the_way c.args.limit start edges c.args.console.now run

pub pages-preserved : goal.pages-preserved
pages-preserved c = λ start edges run.
    further c.args.limit start edges _ c.pages.console c.advance_page.new.self (c.pages.invariant start edges run) c.in-Full.ensures.run

pub returns-in-Over : goal.returns-in-Over
returns-in-Over c = λ start edges run.
    over c.args.limit start edges _ c.pages.console c.advance_page.new.self (c.pages.invariant start edges run) c.in-Over.ensures.run

pub returns-in-Stopped : goal.returns-in-Stopped
returns-in-Stopped c = λ start edges run.
    stops c.args.limit start edges _ c.pages.console c.advance_page.new.self c.in-Stopped.why (c.pages.invariant start edges run)
    c.in-Stopped.ensures.run
