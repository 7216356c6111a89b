-- A file that goes on record by record.
use Rattle.std.proofs.Common.{◌≡◌, inl, inr, ℕ, ◌+◌, cond, List, [], ◌++◌, length, take, refl, sym, ap, subst, ◌∙◌, append_assoc}
use Rattle.std.specs.Prelude.{Option, Some, None, min, unwrap_or}
use Rattle.std.specs.Ordering.{is_eq}
use Rattle.std.specs.Cmp.{tied_itself}
use Rattle.std.specs.Cmp.Lexicographic.{nat_list_cmp_total}
use Rattle.std.specs.FinMap.{get, insert, get-insert}
use Rattle.std.proofs.lemmas.List.{take-append-le, take_min}
use Rattle.std.proofs.Math.Nat.{min-le_right}
use Rattle.std.proofs.Math.Seq.{take-append-add}
use Rattle.uz_shelf.specs.Files.{AppendsAll, AppendsPrefix, Creates, CreatesOrKeeps, FileMap, WritesFile, bytes_so_far}
use Rattle.uz_shelf.proofs.HeldLemmas.{insert_again}
use Rattle.uz_core.specs.PadLine.{PadHistory}
use Rattle.uz_core.specs.Turn.{State}
use Rattle.uz_scan.specs.Pictures.{newest_first, records}
use Rattle.uz_core.specs.declared.machine.Edge.{Edge}
use Rattle.uz_core.specs.Run.{IsClockRun, IsStoppedRun}
use Rattle.uz_schedule.specs.declared.certificate.Cert.{Cert}
use Rattle.uz_player.specs.Counting.{EntersAt}
use Rattle.uz_player.specs.declared.player.Player.{Player}
use Rattle.uz_player.specs.declared.player.Played.TheVariants as played
use Rattle.uz_player.specs.Playing.{IsNext, IsPlayed, Plays, StartsRecords, cert_of, counts_of, limit_of}
use Rattle.uz_player.specs.declared.recording.RunEnd.TheVariants as end
use Rattle.uz_player.specs.Captures.{IsCapturePart, IsPlayedInto, IsWhole}

so_far : (m : FileMap) (name bytes : List ℕ) → bytes_so_far (insert m name bytes) name ≡ bytes
so_far m name bytes =
    ap (λ o. unwrap_or o []) (get-insert nat_list_cmp_total m name bytes name)
    ∙ ap (λ b. unwrap_or (cond b (Some bytes) (get m name)) []) (ap is_eq (tied_itself nat_list_cmp_total name))

-- a file that is open goes on by a piece
appended : (old mid new : Option FileMap) (opened : Option (List ℕ)) (name before piece : List ℕ) → WritesFile old name before mid
    → opened ≡ Some name → AppendsAll mid opened piece new → WritesFile old name (before ++ piece) new
appended None mid new opened name before piece written is appends = subst (λ m. AppendsAll m opened piece new) written appends
appended (Some m) mid new opened name before piece written is appends =
    let at_name : AppendsAll mid (Some name) piece new = subst (λ o. AppendsAll mid o piece new) is appends in
    let at_new : new ≡ Some (insert (insert m name before) name (bytes_so_far (insert m name before) name ++ piece)) =
    subst (λ x. AppendsAll x (Some name) piece new) written at_name in
    at_new ∙ ap Some (insert_again m name before (bytes_so_far (insert m name before) name ++ piece) ∙ ap (λ b. insert m name (b ++ piece))
    (so_far m name before))

pub created : (old new : Option FileMap) (name : List ℕ) → Creates old name new → WritesFile old name [] new
created None new name creates = creates
created (Some m) new name creates = creates

-- the file isn't made, or it stays empty
pub not_created : (limit : ℕ) (start : State PadHistory) (old new : Option FileMap) (name : List ℕ) → CreatesOrKeeps old name new
    → IsCapturePart limit start old name new
not_created limit start old new name (inl same) = inl same
not_created limit start old new name (inr creates) = inr (record {
  edges = [];
  last = start;
  part = record { turns = 0; all_edges = []; run = (refl, refl); in_time = refl };
  count = 0;
  file = created old new name creates;
})

-- the records that are handed out are in the file
abbrev pub IsWrittenSoFar : Player → State PadHistory → Option FileMap → List ℕ → Option FileMap → Type 0
IsWrittenSoFar player start old name new = (handed : List ℕ) × Plays player start handed × WritesFile old name handed new

pub one_more : (was is : Player) (start : State PadHistory) (old mid new : Option FileMap) (opened : Option (List ℕ)) (name piece : List ℕ)
    → opened ≡ Some name → AppendsAll mid opened piece new →
    ((start : State PadHistory) (handed : List ℕ) → Plays was start handed → Plays is start (handed ++ piece)) → IsWrittenSoFar was start
    old name mid → IsWrittenSoFar is start old name new
one_more was is start old mid new opened name piece same appends next (handed, plays, written) =
    (handed ++ piece, next start handed plays, appended old mid new opened name handed piece written same appends)

-- so many bytes of the whole, where a piece is cut
cut_in : (handed piece more whole : List ℕ) (count : ℕ) → whole ≡ (handed ++ piece) ++ more
    → take (length handed + min count (length piece)) whole ≡ handed ++ take count piece
cut_in handed piece more whole count is =
    let k = min count (length piece) in
    ap (take (length handed + k)) (is ∙ append_assoc handed piece more)
    ∙ (take-append-add handed (piece ++ more) k
    ∙ ap (λ t. handed ++ t) (take-append-le k piece more (min-le_right count (length piece)) ∙ take_min count piece))

-- a record is cut
pub cut_short : (was is : Player) (limit : ℕ) (start : State PadHistory) (old mid new : Option FileMap) (opened : Option (List ℕ))
    (name piece : List ℕ) → opened ≡ Some name → AppendsPrefix mid opened piece new →
    ((start : State PadHistory) (handed : List ℕ) → Plays was start handed → Plays is start (handed ++ piece))
    → ((start : State PadHistory) (handed : List ℕ) → Plays is start handed → StartsRecords limit start handed) →
    IsWrittenSoFar was start old name mid → IsCapturePart limit start old name new
cut_short was is limit start old mid new opened name piece same (count, appends) next part (handed, plays, written) =
    let starts = part start (handed ++ piece) (next start handed plays) in
    inr (record {
      edges = starts.edges;
      last = starts.last;
      part = starts.part;
      count = length handed + min count (length piece);
      file = subst (λ t. WritesFile old name t new)
          (sym (cut_in handed piece starts.more (records (newest_first starts.edges)) count starts.whole))
          (appended old mid new opened name handed (take count piece) written same appends);
    })

-- the run is at its end

whole : (is : Player) (cert : Cert) (limit : ℕ) (start : State PadHistory) (edges : List Edge) (handed : List ℕ) (old new : Option FileMap)
    (name : List ℕ) → cert_of is ≡ cert → limit_of is ≡ limit → IsPlayed is start handed edges → WritesFile old name handed new →
    IsWhole cert limit start edges (counts_of is) old name new
whole is cert limit start edges handed old new name same_cert same_limit played written = record {
  file = subst (λ b. WritesFile old name b new) played.records written;
  counted = played.counts;
  entered = subst (λ c. EntersAt c limit start (counts_of is).entered) same_cert
      (subst (λ n. EntersAt (cert_of is) n start (counts_of is).entered) same_limit played.entered);
}

pub captured_over : (was is : Player) (cert : Cert) (limit : ℕ) (start : State PadHistory) (old new : Option FileMap) (name : List ℕ)
    → cert_of is ≡ cert → limit_of is ≡ limit → IsNext was is played.Over → IsWrittenSoFar was start old name new →
    IsPlayedInto cert limit start end.Over (counts_of is) old name new
captured_over was is cert limit start old new name same_cert same_limit next (handed, plays, written) =
    let over = next start handed plays in (
      over.0,
      over.1,
      subst (λ n. IsClockRun n start over.0 over.1) same_limit over.2,
      whole is cert limit start over.0 handed old new name
          same_cert same_limit over.3 written,
    )

pub captured_stopped : (was is : Player) (cert : Cert) (limit pc word : ℕ) (start : State PadHistory) (old new : Option FileMap)
    (name : List ℕ) → cert_of is ≡ cert → limit_of is ≡ limit → IsNext was is (played.Stopped pc word) → IsWrittenSoFar was start old name
    new →
    IsPlayedInto cert limit start (end.Stopped pc word) (counts_of is) old name new
captured_stopped was is cert limit pc word start old new name same_cert same_limit next (handed, plays, written) =
    let stop = next start handed plays in (
      stop.0,
      stop.1,
      subst (λ n. IsStoppedRun n start stop.0 stop.1) same_limit stop.2,
      stop.3,
      stop.4,
      stop.5,
      whole is cert limit start stop.0 handed old new name same_cert same_limit stop.6 written,
    )
