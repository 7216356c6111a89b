-- Joining points leaves what was asked of a certificate.
use Rattle.std.proofs.Common.{◌≡◌, ◌∙◌, sym, ap, refl, subst, ℕ, List, [], length, map}
use Rattle.std.specs.Prelude.{Contains, None, Option, Some, slice_get, Result, Ok, Err, IfOk, IfSome}
use Rattle.std.specs.Ordering.{nat_cmp}
use Rattle.std.specs.FinMap.{FinMap}
use Rattle.std.proofs.lemmas.Option.{get_or_from_slice_get, slice_get-get_or, slice_get_within}
use Rattle.uz_schedule.specs.Schedule.{length_of}
use Rattle.uz_schedule.specs.declared.certificate.Cert.{Cert}
use Rattle.uz_schedule.specs.declared.lines.Schedule.{Schedule}
use Rattle.uz_schedule.specs.declared.states.Entry.{Entry}
use Rattle.uz_schedule.specs.declared.states.Rest.{Rest}
use Rattle.uz_join.specs.Joined.{SameButPoints, rest_unnumbered}
use Rattle.uz_join.specs.Coverage.{SaysInstances}
use Rattle.uz_search.specs.declared.program.Program.{Program}
use Rattle.uz_schedule.specs.declared.states.Instance.{Instance}
use Rattle.uz_search.proofs.Lists.{in_map, of_map}
use Rattle.uz_search.specs.declared.found.Found.{Found}
use Rattle.uz_search.specs.Following.{Among}
use Rattle.uz_search.specs.Searching.{IsEnded}
use Rattle.uz_search.specs.Trails.{OnTrail}
use Rattle.uz_paths.specs.declared.joined.JoinedParts.{JoinedParts}
use Rattle.uz_paths.specs.Finding.{IsFoundBy, IsReturn}
use Rattle.uz_paths.specs.JoinedParts.{AreJoinedOf, joined_cert}
use Rattle.uz_paths.specs.Rests.{rests_of}
use Rattle.uz_paths.proofs.RestLemmas.{is_return}
use Rattle.uz_paths.proofs.SplitLemmas.{still_say}

-- a return is told of but the vector's number
again : (image : FinMap nat_cmp ℕ) (p : Program) (a b : Rest) → rest_unnumbered a ≡ rest_unnumbered b → IsReturn image p a → IsReturn image
    p b
again image p a b same r = record {
  at = r.at;
  on_trail = r.on_trail;
  end = r.end;
  returns = r.returns;
  line = sym (ap (λ (z : Rest). z.line) same) ∙ r.line;
  clock = sym (ap (λ (z : Rest). z.clock) same) ∙ r.clock;
  cells = sym (ap (λ (z : Rest). z.cells) same) ∙ r.cells;
}

pub found_joined : (image : FinMap nat_cmp ℕ) (p : Program) (entry : Entry) (a b : Cert) → SameButPoints a b → IsFoundBy image p entry a
    → IsFoundBy image p entry b
found_joined image p entry a b same f = record {
  head = sym same.head ∙ f.head;
  lines = sym (ap (λ (s : Schedule). length s.lines) same.schedule) ∙ f.lines;
  lengths = λ l. sym (ap (λ (s : Schedule). length_of s l) same.schedule) ∙ f.lengths l;
  fall = sym (ap (λ (s : Schedule). s.fall) same.schedule) ∙ f.fall;
  enters = ap (λ (e : Entry). record e { id = b.entry.id }) (sym same.entry) ∙ ap (λ (e : Entry). record e { id = b.entry.id }) f.enters;
  rests = rests;
}
  where
    rests : (rest : Rest) → Contains b.rests rest → IsReturn image p rest
    rests rest has =
        let at : slice_get b.rests has.0 ≡ Some rest = slice_get-get_or b.rests has.0 rest has.1 ∙ ap (λ r. Some r) has.2 in
        let there : slice_get (map rest_unnumbered a.rests) has.0 ≡ Some (rest_unnumbered rest) = ap (λ rs. slice_get rs has.0) same.rests
        ∙ in_map rest_unnumbered b.rests has.0 rest at in
        let old = of_map rest_unnumbered a.rests has.0 (rest_unnumbered rest) there in
        again image p old.0 rest old.2 (f.rests old.0 (
          has.0,
          slice_get_within a.rests has.0 old.0 old.1,
          get_or_from_slice_get a.rests
              has.0 old.0 old.0 old.1,
        ))

-- where there is one
pub some_found_joined : (image : FinMap nat_cmp ℕ) (p : Program) (entry : Entry) (a : Cert) (answer : Option Cert)
    → IfSome answer (SameButPoints a) → IsFoundBy image p entry a → IfSome answer (IsFoundBy image p entry)
some_found_joined image p entry a None same f = tt
some_found_joined image p entry a (Some b) same f = found_joined image p entry a b same f

-- the certificate of joined points is what was asked
pub found_parts : (image : FinMap nat_cmp ℕ) (p : Program) (entry : Entry) (found : Found) (parts : JoinedParts) (cert : Cert)
    → cert ≡ joined_cert p parts → AreJoinedOf p entry found parts → IsEnded image p found
    → ((x : Instance) → Among found.nodes.keys x → OnTrail image p x) → IsFoundBy image p entry cert
found_parts image p entry found parts cert is a ended trails =
    let plain : Cert = record {
      head = p.head;
      schedule = parts.schedule;
      rests = rests_of found.returns.items;
      entry = entry;
      points = [];
    } in
    let found_plain : IsFoundBy image p entry plain = record {
      head = refl;
      lines = a.schedule.count;
      lengths = a.schedule.lengths;
      fall = a.schedule.falls;
      enters = refl;
      rests = is_return image p found (rests_of found.returns.items) refl ended trails;
    } in
    let same : SameButPoints plain (joined_cert p parts) = record {
      head = refl;
      schedule = refl;
      entry = sym a.enters;
      rests = sym a.rests;
    } in
    subst (IsFoundBy image p entry) (sym is) (found_joined image p entry plain (joined_cert p parts) same found_plain)

-- so an answer, where it is one
pub found_ok : (image : FinMap nat_cmp ℕ) (p : Program) (entry : Entry) (found : Found) (parts : JoinedParts) (answer : Result Cert Program)
    → IfOk answer (λ cert. cert ≡ joined_cert p parts) → AreJoinedOf p entry found parts → IsEnded image p found
    → ((x : Instance) → Among found.nodes.keys x → OnTrail image p x) → IfOk answer (IsFoundBy image p entry)
found_ok image p entry found parts (Ok cert) is a ended trails = found_parts image p entry found parts cert is a ended trails
found_ok image p entry found parts (Err q) is a ended trails = tt

-- and its points say what the instances say
pub said_ok : (p : Program) (nodes : List Instance) (parts : JoinedParts) (answer : Result Cert Program)
    → IfOk answer (λ cert. cert ≡ joined_cert p parts) → SaysInstances nodes parts.points.items
    → IfOk answer (λ cert. SaysInstances nodes cert.points)
said_ok p nodes parts (Ok cert) is said = subst (λ (z : Cert). SaysInstances nodes z.points) (sym is)
    (still_say p.splits nodes parts.points.items said)
said_ok p nodes parts (Err q) is said = tt
