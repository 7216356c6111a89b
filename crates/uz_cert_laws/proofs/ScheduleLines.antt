-- The lines of the schedule, and the line of a rest.
use Rattle.uz_cert_laws.proofs.Common.{◌≡◌, ℕ, ◌≤◌, ◌∷◌, map, decimal, codes, lit≤, sym, ◌∙◌, ap, append-nil, arith, Ok, clock_limit}
use Rattle.uz_cert_laws.proofs.Common.{Head, Words, reads, ParsedLine, ends_word, line, PlacesAre, zero, suc, ◌+◌, ◌<◌, ◌^◌, Bool, true}
use Rattle.uz_cert_laws.proofs.Common.{false, cond, eqb, List, [], refl, Result, scanline, choice_of, number, finish, within, Version}
use Rattle.uz_cert_laws.proofs.Common.{First, Second, Third, CertWhy, word_at, Parts, says, spells}
use Rattle.uz_cert_lines.specs.Lines.{rest_form, length_for, KindLineFits, kind_form, event_after, event_form, fall_form, run_form}
use Rattle.uz_cert_lines.specs.Lines.{end_form}
use Rattle.uz_cert_writer.specs.Spelling.{rest_words, kind_words, event_words, event_kind_words, run_words}
use Rattle.uz_cert_laws.proofs.Numbers.{is_within as within_so, one_of_so, rising_so, IsWithin, is_within, other_so}
use Rattle.uz_schedule.specs.declared.lines.EventKind.TheVariants.{Sync, Pixel, Sound, Leave}
use Rattle.uz_cert_lines.proofs.Lengths.{length_few, least_length, no_other_length, length_asked}
use Rattle.uz_cert_laws.specs.LineWords.{RunFits}
use Rattle.uz_cert_lines.specs.{declared.lines.Run.Run, declared.lines.KindLine.KindLine}
use Rattle.uz_cert_laws.proofs.{Spans.bytes_of, FormLaws.IsReadable, FormLaws.form_again, FormLaws.form_only, FormLaws.Fit}
use Rattle.uz_schedule.specs.{WellFormed.RestFits, declared.states.Rest.Rest, declared.lines.Event.Event}
use Rattle.uz_schedule.specs.{declared.lines.EventKind.EventKind, Limits.most_events, Limits.is_length, Limits.KindFits, Limits.EventFits}
use Rattle.uz_cert_lines.specs.declared.lines.ParsedLine.TheVariants as parsed

-- kind

abbrev told : ParsedLine → Result ParsedLine CertWhy
told says = Ok says

length_so : (events clocks : ℕ) → events ≤ clocks → is_length clocks ≡ true → IsWithin (length_for events) clocks
length_so events clocks few is = grind (arith, length_few clocks is, least_length events clocks few is, no_other_length clocks is)

pub kind_sound : (version : Version) → IsReadable (kind_form version)
kind_sound First = (lit≤ tt, λ n i. tt)
kind_sound Second = (lit≤ tt, λ n i. (lit≤ tt, λ m j. tt))
kind_sound Third = (lit≤ tt, λ n i. (lit≤ tt, λ m j. tt))

-- with the length
said_again : (k : KindLine) → KindLineFits Second k → reads (kind_form Second) (line (kind_words Second k.events k.clocks)) ≡ told (parsed.Kind k)
said_again k f =
    let few = f.few in
    let most = length_few k.clocks f.clocks in
    form_again (kind_form Second) (k.events, (k.clocks, tt)) (kind_sound Second)
    (is_within 1 (most_events + 1) k.events (lit≤ tt) f.some (omega (arith, few, most)), (length_so k.events k.clocks few f.clocks, tt))

said_only : (words : Words) (says : ParsedLine) → reads (kind_form Second) words ≡ told says
    → (k : KindLine) × (says ≡ parsed.Kind k) × (words ≡ line (kind_words Second k.events k.clocks)) × KindLineFits Second k
said_only words says e =
    let r = form_only (kind_form Second) words says (kind_sound Second) e in
    let n = r.3.0 in
    let m = r.3.1.0 in
    let fits = length_asked r.0.0 r.0.1.0 (omega (arith, n.below)) m.low m.below m.outside in
    (record { events = r.0.0; clocks = r.0.1.0 }, r.1, r.2, record { some = n.low; few = fits.0; clocks = fits.1 })

pub kind_again : (version : Version) (k : KindLine) → KindLineFits version k
    → reads (kind_form version) (line (kind_words version k.events k.clocks)) ≡ told (parsed.Kind k)
kind_again First k f =
    let few = f.few in
    let same = f.clocks in
    form_again (kind_form First) (k.events, tt) (kind_sound First)
    (is_within 1 (most_events + 1) k.events (lit≤ tt) f.some (omega (arith, few, same)), tt)
    ∙ ap (λ (m : ℕ). told (parsed.Kind (record { events = k.events; clocks = m }))) (sym same)
kind_again Second k f = said_again k f
kind_again Third k f = said_again k (record { some = f.some; few = f.few; clocks = f.clocks })

pub kind_only : (version : Version) (words : Words) (says : ParsedLine) → reads (kind_form version) words ≡ told says
    → (k : KindLine) × (says ≡ parsed.Kind k) × (words ≡ line (kind_words version k.events k.clocks)) × KindLineFits version k
kind_only First words says e =
    let r = form_only (kind_form First) words says (kind_sound First) e in (
      record { events = r.0.0; clocks = scanline },
      r.1,
      r.2,
      record { some = r.3.0.low; few = omega (arith, r.3.0.below); clocks = refl },
    )
kind_only Second words says e = said_only words says e
kind_only Third words says e =
    let m = said_only words says e in
    (m.0, m.1, m.2, record { some = m.3.some; few = m.3.few; clocks = m.3.clocks })

-- events

abbrev event_choices : List (List ℕ)
event_choices = codes "sync" ∷ codes "pixel" ∷ codes "sound" ∷ codes "leave" ∷ []

after_sound : (clock n : ℕ) → IsReadable (event_after clock n)
after_sound clock n = by (eqb n 0) (eqb n 1) (eqb n 2)
  where
    by : (a b c : Bool) → IsReadable (cond a (number (within 0 2) (λ level. finish (parsed.Event (record { clock = clock; kind = Sync level }))))
        (cond b (finish (parsed.Event (record { clock = clock; kind = Pixel }))) (cond c (finish (parsed.Event (record {
          clock = clock;
          kind = Sound;
        })))
        (finish (parsed.Event (record { clock = clock; kind = Leave }))))))
    by true b c = (lit≤ tt, λ l i. tt)
    by false true c = tt
    by false false true = tt
    by false false false = tt

pub event_sound : (clocks least : ℕ) → clocks ≤ scanline → IsReadable (event_form clocks least)
event_sound clocks least few = (omega (arith, few), λ clock i n. after_sound clock n)

event_so : (clocks least clock : ℕ) (kind : EventKind) → clocks ≤ scanline → KindFits kind → clock < clocks → least ≤ clock
    → reads (event_form clocks least) (line (decimal clock ∷ event_kind_words kind)) ≡ told (parsed.Event (record { clock = clock; kind = kind }))
unfolding choice_of
event_so clocks least clock (Sync level) few f b l =
    form_again (event_form clocks least) (clock, (0, (level, tt))) (event_sound clocks least few)
    (rising_so least clocks clock (omega (arith, few)) l b, (refl, (is_within 0 2 level (lit≤ tt) (omega arith) (omega arith), tt)))
event_so clocks least clock Pixel few f b l =
    form_again (event_form clocks least) (clock, (1, tt)) (event_sound clocks least few)
    (rising_so least clocks clock (omega (arith, few)) l b, (refl, tt))
event_so clocks least clock Sound few f b l =
    form_again (event_form clocks least) (clock, (2, tt)) (event_sound clocks least few)
    (rising_so least clocks clock (omega (arith, few)) l b, (refl, tt))
event_so clocks least clock Leave few f b l =
    form_again (event_form clocks least) (clock, (3, tt)) (event_sound clocks least few)
    (rising_so least clocks clock (omega (arith, few)) l b, (refl, tt))

pub event_again : (clocks least : ℕ) (e : Event) → clocks ≤ scanline → EventFits e → e.clock < clocks → least ≤ e.clock
    → reads (event_form clocks least) (line (event_words e)) ≡ told (parsed.Event e)
event_again clocks least e few f b l = event_so clocks least e.clock e.kind few f.kind b l

after_read : (clock n : ℕ) (p : Parts (event_after clock n)) → choice_of event_choices (word_at event_choices n) ≡ Ok n
    → Fit (event_after clock n) p
    → (kind : EventKind) × (says (event_after clock n) p ≡ parsed.Event (record { clock = clock; kind = kind }))
    × (word_at event_choices n ∷ spells (event_after clock n) p ≡ event_kind_words kind) × KindFits kind
unfolding choice_of
after_read clock zero p e f = (Sync p.0, refl, refl, omega (arith, f.0.below))
after_read clock (suc zero) p e f = (Pixel, refl, refl, tt)
after_read clock (suc (suc zero)) p e f = (Sound, refl, refl, tt)
after_read clock (suc (suc (suc zero))) p e f = (Leave, refl, refl, tt)
after_read clock (suc (suc (suc (suc n)))) p e f = absurd cc

pub event_only : (clocks least : ℕ) (words : Words) (says : ParsedLine) → clocks ≤ scanline → reads (event_form clocks least) words ≡ told says
    → (e : Event) × (says ≡ parsed.Event e) × (words ≡ line (event_words e)) × EventFits e × (e.clock < clocks) × (least ≤ e.clock)
event_only clocks least words says few e =
    let r = form_only (event_form clocks least) words says (event_sound clocks least few) e in
    let clock = r.0.0 in
    let below : clock < clocks = r.3.0.below in
    let k = after_read clock r.0.1.0 r.0.1.1 r.3.1.0 r.3.1.1 in (
      record { clock = clock; kind = k.0 },
      r.1 ∙ k.1,
      r.2 ∙ ap (λ ws. line (decimal clock ∷ ws)) k.2,
      record { clock = omega (arith, few, below); kind = k.3 },
      below,
      r.3.0.least,
    )

-- fall

pub fall_sound : IsReadable fall_form
fall_sound = (lit≤ tt, λ n i. tt)

pub fall_again : (clock : ℕ) → 1 ≤ clock → clock < clock_limit → reads fall_form (line (codes "fall" ∷ decimal clock ∷ [])) ≡ Ok
    (parsed.Fall clock)
fall_again n a b = form_again fall_form (n, tt) fall_sound (is_within 1 clock_limit n (lit≤ tt) a b, tt)

pub fall_only : (words : Words) (says : ParsedLine) → reads fall_form words ≡ Ok says
    → (clock : ℕ) × (says ≡ parsed.Fall clock) × (words ≡ line (codes "fall" ∷ decimal clock ∷ [])) × (1 ≤ clock) × (clock < clock_limit)
fall_only words says e =
    let r = form_only fall_form words says fall_sound e in
    (r.0.0, r.1, r.2, r.3.0.low, r.3.0.below)

-- runs

pub run_sound : (kinds left before : ℕ) → kinds ≤ 2 ^ 31 → left < 2 ^ 31 → IsReadable (run_form kinds left before)
run_sound kinds left before k l = (omega arith, λ count i. (omega arith, λ kind j. tt))

pub run_again : (kinds left before count kind : ℕ) → kinds ≤ 2 ^ 31 → left < 2 ^ 31 → RunFits kinds left before count kind
    → reads (run_form kinds left before) (line (run_words (count, kind))) ≡ Ok (parsed.Run (record { count = count; kind = kind }))
run_again kinds left before count kind k l f =
    form_again (run_form kinds left before) (count, (kind, tt)) (run_sound kinds left before k l)
    (is_within 1 (left + 1) count (omega arith) f.some (omega (arith, f.few)), (other_so kinds before kind f.there f.other, tt))

pub run_only : (kinds left before : ℕ) (words : Words) (says : ParsedLine) → kinds ≤ 2 ^ 31 → left < 2 ^ 31 → reads (run_form kinds left before)
    words ≡ Ok says
    → (r : Run) × (says ≡ parsed.Run r) × (words ≡ line (run_words (r.count, r.kind))) × RunFits kinds left before r.count r.kind
run_only kinds left before words says k l e =
    let r = form_only (run_form kinds left before) words says (run_sound kinds left before k l) e in
    let n = r.3.0 in
    let m = r.3.1.0 in (
      record { count = r.0.0; kind = r.0.1.0 },
      r.1,
      r.2,
      record { some = n.low; few = omega (arith, n.below); there = m.below; other = m.other },
    )

-- end

pub end_again : reads end_form (line (codes "end" ∷ [])) ≡ Ok parsed.End
end_again = form_again end_form tt tt tt

pub end_only : (words : Words) (says : ParsedLine) → reads end_form words ≡ Ok says → (says ≡ parsed.End) × (words ≡ line (codes "end" ∷ []))
end_only words says e = let r = form_only end_form words says tt e in (r.1, r.2)

pub rest_sound : (h : Head) (lines points least : ℕ) → PlacesAre h lines points → IsReadable (rest_form lines points h.cells.items least)
rest_sound h lines points least a =
    let few : lines ≤ 525 = a.lines_few in
    let many : points ≤ 524288 = a.points_few in
    (omega arith, λ line i. (lit≤ tt, λ clock j. (omega arith, λ vector k. (bytes_of h h.cells.items a.each, λ es. tt))))

pub rest_again : (h : Head) (lines points least : ℕ) (r : Rest) → PlacesAre h lines points → RestFits h lines points r → least ≤ r.line
    → reads (rest_form lines points h.cells.items least) (line (rest_words r)) ≡ Ok (parsed.Rest r)
rest_again h lines points least r a f l =
    let few : lines ≤ 525 = a.lines_few in
    let many : points ≤ 524288 = a.points_few in
    ap (λ ws. reads (rest_form lines points h.cells.items least)
    (line (codes "rest" ∷ decimal r.line ∷ decimal r.clock ∷ decimal r.vector ∷ ws))) (sym (append-nil (map (ends_word 255) r.cells.items)))
    ∙ form_again (rest_form lines points h.cells.items least) (r.line, (r.clock, (r.vector, (r.cells.items, tt))))
    (rest_sound h lines points least a) (
      rising_so least lines r.line (omega arith) l f.line,
      (
        within_so 0 clock_limit r.clock (lit≤ tt) (omega arith) f.clock,
        (one_of_so points r.vector (omega arith) f.vector, ((f.cells.ranges, f.cells.within), tt)),
      ),
    )

pub rest_only : (h : Head) (lines points least : ℕ) (words : Words) (says : ParsedLine) → PlacesAre h lines points
    → reads (rest_form lines points h.cells.items least) words ≡ Ok says
    → (r : Rest) × (says ≡ parsed.Rest r) × (words ≡ line (rest_words r)) × RestFits h lines points r × (least ≤ r.line)
rest_only h lines points least words says a e =
    let r = form_only (rest_form lines points h.cells.items least) words says (rest_sound h lines points least a) e in
    let p = r.0 in
    let f = r.3 in
    let es = p.1.1.1.0 in (
      record { line = p.0; clock = p.1.0; vector = p.1.1.0; cells = record { items = es } },
      r.1,
      r.2 ∙ ap (λ ws. line (codes "rest" ∷ decimal p.0 ∷ decimal p.1.0 ∷ decimal p.1.1.0 ∷ ws)) (append-nil (map (ends_word 255) es)),
      record {
        line = f.0.below;
        clock = f.1.0.below;
        vector = f.1.1.0.below;
        cells = record { ranges = f.1.1.1.0.0; within = f.1.1.1.0.1 };
      },
      f.0.least,
    )
