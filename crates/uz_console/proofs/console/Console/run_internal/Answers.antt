use Rattle.std.proofs.Common.{◌≡◌, ℕ, ◌+◌, ◌<◌, ◌≤◌, false, ◌∙◌, ap, arith}
use Rattle.uz_schedule.specs.Schedule.{response_clocks}
use Rattle.uz_core.specs.Space.{Space, space_after}
use Rattle.uz_core.specs.Turn.{State}
use Rattle.uz_pads.specs.declared.pads.Pads.{Pads}
use Rattle.uz_ports.specs.Boards.{space_of, clock_of as board_clock}
use Rattle.uz_console.specs.Consoles.{state_of}
use Rattle.uz_console.proofs.InternalTurns.{leads_internally}
use Rattle.uz_console.proofs.ManyTurns.{leads_same}
use Rattle.uz_console.proofs.console.Console.run_internal.Goals as goal

pub pass_many-requires-clause-clock : goal.pass_many-requires-clause-clock
pass_many-requires-clause-clock c =
    let some : 0 < c.run_internal-passed.result = c.if-passed-gt0.true in
    let within : c.run_internal-passed.result < c.undisturbed-clocks.result = c.run_internal-passed.ensures.within some in
    let any : 0 < c.undisturbed-clocks.result = omega (arith, within) in
    let low : board_clock c.args.self.now.board + c.undisturbed-clocks.result ≤ c.args.limit =
    (c.undisturbed-clocks.ensures.free any).within in
    let most = c.requires in
    omega (arith, low, any, most)

pub pass_many-requires-clause-most : goal.pass_many-requires-clause-most
pass_many-requires-clause-most c =
    let within : c.run_internal-passed.result < c.undisturbed-clocks.result = c.run_internal-passed.ensures.within c.if-passed-gt0.true in
    let most : c.undisturbed-clocks.result ≤ 65536 = c.undisturbed-clocks.ensures.most in
    omega (arith, within, most)

pub returns-then-passed-gt0 : goal.returns-then-passed-gt0
returns-then-passed-gt0 c =
    let passed = c.run_internal-passed.result in
    let some : 0 < passed = c.if-passed-gt0.true in
    let within : passed < c.undisturbed-clocks.result = c.run_internal-passed.ensures.within some in
    let any : 0 < c.undisturbed-clocks.result = omega (arith, within) in
    let by : Space Pads → ℕ → State Pads = λ space clock. record {
      image = c.args.self.now.program;
      core = c.run_internal-passed.new.self;
      space = space;
      response = response_clocks c.args.self.now.irq;
      is_owed = false;
      clock = clock;
    } in
    leads_internally c.args.limit c.args.watched c.args.self.now _ passed c.undisturbed-clocks.result
    (c.undisturbed-clocks.ensures.watched any) (c.undisturbed-clocks.ensures.free any) within some c.run_internal-passed.ensures.run
    (ap (λ x. by x (board_clock c.pass_many.new.self)) c.pass_many.ensures.space
    ∙ ap (λ x. by (space_after passed (space_of c.args.self.now.board)) x) c.pass_many.ensures.clock)

pub returns-else-passed-gt0 : goal.returns-else-passed-gt0
returns-else-passed-gt0 c =
    let none : c.run_internal-passed.result ≡ 0 = (let few = c.if-passed-gt0.false in omega (arith, few)) in
    leads_same c.args.limit c.args.watched c.args.self.now _ (ap (λ core. record (state_of c.args.self.now) { core = core })
    (c.run_internal-passed.ensures.none none))
