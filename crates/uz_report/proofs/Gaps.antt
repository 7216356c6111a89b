-- From each return to the next entry, out of what is told of main's time.
use Rattle.std.proofs.Common.{◌≡◌, All, ℕ, ◌+◌, ◌-◌, ◌≤◌, List, [], ◌∷◌, ◌++◌, ◌∙◌, ap, subst, arith, append_assoc}
use Rattle.std.proofs.lemmas.List.{map-append}
use Rattle.std.proofs.lemmas.List.Elements.{All-tail}
use Rattle.uz_core.specs.declared.machine.Edge.{Edge}
use Rattle.uz_core.specs.declared.machine.EdgeKind.{EdgeKind}
use Rattle.uz_core.specs.declared.machine.EdgeKind.TheVariants.{Sync, Pixel, Sound, Enter, Leave}
use Rattle.uz_schedule.specs.declared.states.Rest.{Rest}
use Rattle.uz_schedule.specs.declared.certificate.Cert.{Cert}
use Rattle.uz_schedule.specs.Schedule.{length_of}
use Rattle.uz_check.specs.ReturnTimes.{return_at}
use Rattle.uz_check.specs.Ways.{IsPlain, Phase, InMain, InHandler, MainsTime, ReturnsAt, told}
use Rattle.uz_report.specs.MainsTime.{Rested, EachGap, EachAtRest}

-- what is told after one more entry or return
one_on : (cert : Cert) (start p : ℕ) (phase : Phase) (clock : ℕ) (kind : EdgeKind) (tail : List (ℕ × EdgeKind))
    → MainsTime cert start p phase ((clock, kind) ∷ tail) → (later : Phase) × MainsTime cert start p later tail
one_on cert start p phase clock (Sync level) tail h = (phase, h)
one_on cert start p phase clock (Pixel value) tail h = (phase, h)
one_on cert start p phase clock (Sound value) tail h = (phase, h)
one_on cert start p (InMain since line at) clock (Enter count) tail h = (InHandler, h.2)
one_on cert start p InHandler clock (Enter count) tail h = absurd h
one_on cert start p (InMain since line at) clock Leave tail h = absurd h
one_on cert start p InHandler clock Leave tail (rest, returned, more) = (InMain clock rest.line rest.clock, more)

pub from_on : (cert : Cert) (start p : ℕ) (phase : Phase) (before : List Edge) (tail : List (ℕ × EdgeKind))
    → MainsTime cert start p phase (told before ++ tail) → (later : Phase) × MainsTime cert start p later tail
from_on cert start p phase [] tail h = (phase, h)
from_on cert start p phase (e ∷ before) tail h =
    let next = one_on cert start p phase e.clock e.kind (told before ++ tail) h in
    from_on cert start p next.0 before tail next.1

one_plain : (cert : Cert) (start p : ℕ) (phase : Phase) (clock : ℕ) (kind : EdgeKind) (tail : List (ℕ × EdgeKind)) → IsPlain kind
    → MainsTime cert start p phase ((clock, kind) ∷ tail) → MainsTime cert start p phase tail
one_plain cert start p phase clock (Sync level) tail plain h = h
one_plain cert start p phase clock (Pixel value) tail plain h = h
one_plain cert start p phase clock (Sound value) tail plain h = h
one_plain cert start p phase clock (Enter count) tail plain h = absurd plain
one_plain cert start p phase clock Leave tail plain h = absurd plain

past_plain : (cert : Cert) (start p : ℕ) (phase : Phase) (between : List Edge) (tail : List (ℕ × EdgeKind))
    → All (λ e. IsPlain e.kind) between → MainsTime cert start p phase (told between ++ tail) → MainsTime cert start p phase tail
past_plain cert start p phase [] tail plain h = h
past_plain cert start p phase (e ∷ between) tail plain h =
    past_plain cert start p phase between tail (All-tail (λ e. IsPlain e.kind) e between plain)
    (one_plain cert start p phase e.clock e.kind (told between ++ tail) (plain 0 e (omega arith)) h)

pub within : (length clock left entered count : ℕ) → count ≤ 3 → entered + clock ≡ left + length + count
    → (length - clock ≤ entered - left) × (entered - left ≤ length - clock + 3)
within length clock left entered count few is = (omega arith, omega arith)

-- at a return the handler ran, and the next entry is main's
at_return : (cert : Cert) (start p : ℕ) (phase : Phase) (left entered count : ℕ) (between after : List Edge)
    → All (λ e. IsPlain e.kind) between
    → MainsTime cert start p phase ((left, Leave) ∷ (told between ++ ((entered, Enter count) ∷ told after)))
    → Rested cert start p left (entered - left)
at_return cert start p (InMain since line at) left entered count between after plain h = absurd h
at_return cert start p InHandler left entered count between after plain (rest, returned, more) =
    let next = past_plain cert start p (InMain left rest.line rest.clock) between ((entered, Enter count) ∷ told after) plain more in
    record {
      rest = rest;
      returned = returned;
      within = within (length_of cert.schedule rest.line) rest.clock left entered count next.0 next.1;
    }

-- what is told of edges in parts
in_parts : (before between after : List Edge) (left entered count : ℕ)
    → told (before ++ (record { clock = left; kind = Leave } ∷ between) ++ (record { clock = entered; kind = Enter count } ∷ after))
    ≡ told before ++ ((left, Leave) ∷ (told between ++ ((entered, Enter count) ∷ told after)))
in_parts before between after left entered count =
    let tell : Edge → ℕ × EdgeKind = λ e. (e.clock, e.kind) in
    let leave : Edge = record { clock = left; kind = Leave } in
    let enter : Edge = record { clock = entered; kind = Enter count } in
    map-append tell (before ++ (leave ∷ between)) (enter ∷ after)
    ∙ ap (λ (es : List (ℕ × EdgeKind)). es ++ told (enter ∷ after)) (map-append tell before (leave ∷ between))
    ∙ append_assoc (told before) (told (leave ∷ between)) (told (enter ∷ after))

pub each_gap : (cert : Cert) (start p : ℕ) (phase : Phase) (edges : List Edge) → MainsTime cert start p phase (told edges)
    → EachGap cert start p edges
each_gap cert start p phase edges h before between after left entered count cut plain =
    let parts = ap told cut ∙ in_parts before between after left entered count in
    let at = from_on cert start p phase before ((left, Leave) ∷ (told between ++ ((entered, Enter count) ∷ told after)))
    (subst (MainsTime cert start p phase) parts h) in
    at_return cert start p at.0 left entered count between after plain at.1

-- each return
handled : (cert : Cert) (start p : ℕ) (phase : Phase) (clock : ℕ) (tail : List (ℕ × EdgeKind))
    → MainsTime cert start p phase ((clock, Leave) ∷ tail) → (rest : Rest) × ReturnsAt cert start p clock rest
handled cert start p (InMain since line at) clock tail h = absurd h
handled cert start p InHandler clock tail (rest, returned, more) = (rest, returned)

pub each_at_rest : (cert : Cert) (start p : ℕ) (phase : Phase) (edges : List Edge) → MainsTime cert start p phase (told edges)
    → EachAtRest cert start p edges
each_at_rest cert start p phase edges h clock there =
    let parts = ap told there.cut ∙ map-append (λ (e : Edge). (e.clock, e.kind)) there.before (return_at clock ∷ there.after) in
    let at = from_on cert start p phase there.before ((clock, Leave) ∷ told there.after) (subst (MainsTime cert start p phase) parts h) in
    handled cert start p at.0 clock (told there.after) at.1
