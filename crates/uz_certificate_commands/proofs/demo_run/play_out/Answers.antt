use Rattle.std.proofs.Common.{◌∙◌, [], refl, subst}
use Rattle.uz_player.specs.Playing.{cert_of, counts_of, limit_of}
use Rattle.uz_certificate_commands.specs.DemoValues.{IsPlayedOut}
use Rattle.uz_certificate_commands.proofs.demo_run.play_out.Goals as goal

pub records-init : goal.records-init
records-init c = record { plays = λ start h. ([], h); cert = refl; limit = refl }

pub records-preserved : goal.records-preserved
records-preserved c = record {
  plays = λ start h. let now = c.records.invariant.plays start h in c.in-None.ensures.goes start now.0 now.1;
  cert = c.next_end.ensures.cert ∙ c.records.invariant.cert;
  limit = c.next_end.ensures.limit ∙ c.records.invariant.limit;
}

pub returns-in-Some : goal.returns-in-Some
returns-in-Some c = λ start h.
    let now = c.records.invariant.plays start h in
    subst (λ cert. IsPlayedOut cert (limit_of c.args.player.now) start c.in-Some.end (counts_of c.next_end.new.player))
    (c.next_end.ensures.cert ∙ c.records.invariant.cert)
    (subst (λ limit. IsPlayedOut (cert_of c.next_end.new.player) limit start c.in-Some.end (counts_of c.next_end.new.player))
    (c.next_end.ensures.limit ∙ c.records.invariant.limit) (c.in-Some.ensures.goes start now.0 now.1))
