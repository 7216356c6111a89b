use Rattle.std.proofs.lemmas.Result.{IfOk-weaker}
use Rattle.avr_asm.specs.Assembly.{seen_built}
use Rattle.uz_certificate_commands.specs.DemoValues.{IsSearched, IsStart}
use Rattle.uz_certificate_commands.proofs.demo_start.start_demo.Goals as goal

pub returns : goal.returns
returns c =
    let built = c.in_ok-built.built in
    IfOk-weaker c.search.result (IsSearched built.image built.hints.items) (IsStart c.args.number)
    (λ start searched. record { output = seen_built built; assembles = c.in_ok-built.ensures.assembles; searched = searched })
    c.search.ensures
