use Rattle.std.proofs.Common.{◌++◌, List, sym, subst}
use Rattle.uz_core.specs.declared.machine.Edge.{Edge}
use Rattle.uz_console.specs.Consoles.{clock_of}
use Rattle.uz_console.specs.Runs.{AreTimed}
use Rattle.uz_report.specs.Waves as wave
use Rattle.uz_scan.specs.Pictures.{NeverFalls, newest_first}
use Rattle.uz_program_commands.proofs.HearingLemmas.{over_is_heard, page_comes_before, page_is_heard, page_never_falls, page_stands, stop_is_heard}
use Rattle.uz_program_commands.proofs.listening.listen.Goals as goal

pub hear-requires : goal.hear-requires
hear-requires c =
    let stands = c.pages.invariant.stands in
    subst (NeverFalls (wave.clock_of c.pages.wave)) (sym c.as_slice.ensures.value)
    (page_never_falls _ (clock_of c.pages.console) (clock_of c.advance_page-paged.new.self) c.advance_page-paged.new.page.items
    c.pages.invariant.timed (c.advance_page-paged.ensures.edges stands.0 stands.1))

pub pages-preserved : goal.pages-preserved
pages-preserved c =
    let stands = c.pages.invariant.stands in
    let page = c.advance_page-paged.new.page.items in
    let hears = λ (before : List Edge) (holds : wave.Holds c.pages.wave (newest_first before)).
    subst (λ es. wave.Holds c.hear.new.wave (newest_first (before ++ es))) c.as_slice.ensures.value (c.in-Ok.ensures.ok before holds) in
    record {
      heard = λ start run. page_is_heard c.args.limit start c.pages.console c.advance_page-paged.new.self c.pages.wave c.hear.new.wave page
          (c.pages.invariant.heard start run) c.in-Full.ensures.run hears;
      stands = page_stands c.args.limit c.pages.console c.advance_page-paged.new.self page c.in-Full.ensures.run stands;
      timed = page_comes_before (wave.clock_of c.pages.wave) (clock_of c.pages.console) (clock_of c.advance_page-paged.new.self) _ page
          c.pages.invariant.timed (c.advance_page-paged.ensures.edges stands.0 stands.1)
          (λ limit timed. c.in-Ok.ensures.clock limit (subst (AreTimed (wave.clock_of c.pages.wave) limit) (sym c.as_slice.ensures.value)
          timed));
    }

pub returns-in-Over : goal.returns-in-Over
returns-in-Over c =
    let page = c.advance_page-paged.new.page.items in
    let hears = λ (before : List Edge) (holds : wave.Holds c.pages.wave (newest_first before)).
    subst (λ es. wave.Holds c.hear.new.wave (newest_first (before ++ es))) c.as_slice.ensures.value (c.in-Ok.ensures.ok before holds) in
    λ start run. over_is_heard c.args.limit start c.pages.console c.advance_page-paged.new.self c.pages.wave c.hear.new.wave page
    (c.pages.invariant.heard start run) c.in-Over.ensures.run hears

pub returns-in-Stopped : goal.returns-in-Stopped
returns-in-Stopped c = λ start run.
    stop_is_heard c.args.limit start c.pages.console c.advance_page-paged.new.self c.pages.wave c.advance_page-paged.new.page.items c.pc.result
    c.in-Stopped.why (c.pages.invariant.heard start run) c.in-Stopped.ensures.run c.pc.ensures.stands
