-- What reading one line says of the line, both ways.
use Rattle.std.proofs.Common.{◌≡◌, ◌≢◌, ℕ, ◌+◌, List, [], ◌∷◌, ◌++◌, length, Result, Ok, Err, ◌⊎◌, inl, inr, refl, sym, ap, subst, ◌∙◌}
use Rattle.std.proofs.Common.{arith}
use Rattle.std.specs.Prelude.{slice_index}
use Rattle.std.proofs.lemmas.List.{append-nil}
use Rattle.uz_hex.specs.Records.{Record, record_bytes, Encodes, Spells, given, given_by, base_after, numbered}
use Rattle.uz_hex.specs.HexText.{InFlash, Agree, Holds, Stands, IsLeast}
use Rattle.uz_hex.specs.Reading.{Flash, bytes_of, kind_of, address_of, data_of, place, and_more, after_record, after_line, ◌>>=◌}
use Rattle.uz_hex.specs.declared.records.RecordType.{RecordType}
use Rattle.uz_hex.specs.declared.records.RecordType.TheVariants.{Data, EndOfFile, ExtendedSegment, StartSegment, ExtendedLinear}
use Rattle.uz_hex.specs.declared.records.RecordType.TheVariants.{StartLinear}
use Rattle.uz_hex.specs.declared.records.Progress.{Progress}
use Rattle.uz_hex.specs.declared.records.Progress.TheVariants.{More, Ended}
use Rattle.uz_hex.specs.declared.errors.HexWhy.{HexWhy}
use Rattle.uz_hex.specs.declared.errors.HexWhy.TheVariants as why
use Rattle.uz_hex.proofs.WhyLaws.{Clear, clear_more, is_least, nothing_stands, same_least}
use Rattle.uz_hex.proofs.DigitLaws.{encodes_same, bytes_ok, bytes_err}
use Rattle.uz_hex.proofs.RecordLaws.{kind_ok, kind_err, length_clear, spelled_by, counts_record, spells_read}
use Rattle.uz_hex.proofs.PlaceLaws.{place_ok, place_err, agree_held, Clash, Past}

-- ---- a line is one record

same_record : (a b : Record) → a.address ≡ b.address → a.kind ≡ b.kind → a.bytes ≡ b.bytes → a ≡ b
same_record a b ea ek eb = λ i. record { address = ea i; kind = ek i; bytes = eb i }

pub spells_same : (line : List ℕ) (a b : Record) → Spells line a → Spells line b → a ≡ b
spells_same line a b sa sb =
    let one = encodes_same line (record_bytes a sa.checksum) (record_bytes b sb.checksum) sa.encoded sb.encoded in
    let ra = spells_read line a sa in
    let rb = spells_read line b sb in
    let kinds : Ok a.kind ≡ Ok b.kind = sym ra.kind ∙ (ap kind_of one ∙ rb.kind) in
    same_record a b (sym ra.address ∙ (ap address_of one ∙ rb.address)) (cc kinds) (sym ra.rest ∙ (ap data_of one ∙ rb.rest))

-- ---- of a line that spells a record nothing stands

record_clear : (base : ℕ) (es : List (ℕ × ℕ)) (line : List ℕ) (r : Record) → Spells line r → Clear base es line 6
record_clear base es line r s =
    let read = spells_read line r s in
    let kind = kind_ok (record_bytes r s.checksum) r.kind read.kind in
    length_clear base es line (record_bytes r s.checksum) r.kind s.encoded (counts_record r s.checksum) kind.0 kind.1 kind.2

range_clear : (base : ℕ) (es : List (ℕ × ℕ)) (line : List ℕ) (r : Record) → Spells line r → InFlash (given base r) → Clear base es line 7
range_clear base es line r s flash = clear_more base es line 6 why.Range refl (record_clear base es line r s) (λ past.
    let low = subst (λ q. InFlash (given base q)) (spells_same line r past.0 s past.1) flash past.2 past.3 past.4 in
    let high = past.5 in absurd (omega arith))

sound_clear : (base : ℕ) (es : List (ℕ × ℕ)) (line : List ℕ) (r : Record) → Spells line r → InFlash (given base r)
    → Agree (es ++ given base r) → Clear base es line 8
sound_clear base es line r s flash agree = clear_more base es line 7 why.Conflict refl (range_clear base es line r s flash) (λ clash.
    clash.7 (subst (λ q. Agree (es ++ given base q)) (spells_same line r clash.0 s clash.1) agree clash.2 clash.3 clash.4 clash.5 clash.6))

blank_stands : (base : ℕ) (es : List (ℕ × ℕ)) (w : HexWhy) → Stands base es [] w → ⊥
blank_stands base es why.NoColon s = s.0 refl
blank_stands base es why.BadDigit s = cc s.1
blank_stands base es why.Short s = cc s.1
blank_stands base es why.Sum s = cc s.1.1
blank_stands base es why.Kind s = cc s.1.1
blank_stands base es why.Length s = cc s.2.1
blank_stands base es why.Range s = cc s.1.encoded.1
blank_stands base es why.Conflict s = cc s.1.encoded.1
blank_stands base es why.NoEnd s = s
blank_stands base es why.Memory s = s

-- ---- what came of a line

-- the line was blank, or a record that was placed
abbrev Went : ℕ → Flash → List (ℕ × ℕ) → List ℕ → ℕ → Flash → Type 0
Went base flash es line next held = ((line ≡ []) × (next ≡ base) × (held ≡ flash))
    ⊎ ((r : Record) × Spells line r × (r.kind ≢ EndOfFile) × (next ≡ base_after base r) × Holds held (es ++ given base r)
    × InFlash (given base r))

abbrev pub LineEffect : ℕ → Flash → List (ℕ × ℕ) → List ℕ → Result (Progress × Flash) HexWhy → Type 0
LineEffect base flash es line (Ok (More next, held)) = Went base flash es line next held
LineEffect base flash es line (Ok (Ended, held)) = (r : Record) × Spells line r × (r.kind ≡ EndOfFile) × (held ≡ flash)
LineEffect base flash es line (Err w) = IsLeast base es line w

-- nothing is added
holds_nil : (flash : Flash) (es : List (ℕ × ℕ)) → Holds flash es → Holds flash (es ++ [])
holds_nil flash es h = subst (Holds flash) (sym (append-nil es)) h

in_flash_nil : InFlash []
in_flash_nil at b g = absurd g

placed_outcome : (base : ℕ) (flash : Flash) (es : List (ℕ × ℕ)) (line : List ℕ) (r : Record) (result : Result Flash HexWhy) → Holds flash es
    → Spells line r → r.kind ≡ Data
    → given base r ≡ numbered (base + r.address) r.bytes → base_after base r ≡ base
    → place flash (base + r.address) r.bytes ≡ result → LineEffect base flash es line (and_more base result)
placed_outcome base flash es line r (Ok held) h s data' given_is base_is is =
    let ok = place_ok r.bytes (base + r.address) flash held es is h in
    inr (
      r,
      s,
      (λ e. cc (sym data' ∙ e)),
      sym base_is,
      subst (λ g. Holds held (es ++ g)) (sym given_is) ok.0,
      subst InFlash (sym given_is)
          ok.1,
    )
placed_outcome base flash es line r (Err w) h s data' given_is base_is is =
    elim (place_err r.bytes (base + r.address) flash w es is h) [
      | inl past ↦
          let far = subst Past (sym given_is) past.1 in
          subst (IsLeast base es line) (sym past.0) (is_least base es line 6 why.Range refl (record_clear base es line r s)
          (r, s, far.0, far.1, far.2, far.3))
      | inr clash ↦
          let flash_ok = subst InFlash (sym given_is) clash.1 in
          let two = subst (λ g. Clash (es ++ g)) (sym given_is) clash.2 in
          subst (IsLeast base es line) (sym clash.0) (is_least base es line 7 why.Conflict refl (range_clear base es line r s flash_ok)
          (r, s, two.0, two.1, two.2, two.3, two.4, two.5))
    ]

record_outcome : (base : ℕ) (flash : Flash) (es : List (ℕ × ℕ)) (line bytes : List ℕ) (kind : RecordType) → Holds flash es
    → Spells line (record { address = address_of bytes; kind = kind; bytes = data_of bytes }) → LineEffect base flash es line
    (after_record base flash bytes kind)
record_outcome base flash es line bytes Data h s = placed_outcome base flash es line _
    (place flash (base + address_of bytes) (data_of bytes)) h s refl refl refl refl
record_outcome base flash es line bytes EndOfFile h s = (_, s, refl, refl)
record_outcome base flash es line bytes ExtendedSegment h s = inr (_, s, (λ e. cc e), refl, holds_nil flash es h, in_flash_nil)
record_outcome base flash es line bytes StartSegment h s = inr (_, s, (λ e. cc e), refl, holds_nil flash es h, in_flash_nil)
record_outcome base flash es line bytes ExtendedLinear h s = inr (_, s, (λ e. cc e), refl, holds_nil flash es h, in_flash_nil)
record_outcome base flash es line bytes StartLinear h s = inr (_, s, (λ e. cc e), refl, holds_nil flash es h, in_flash_nil)

kind_outcome : (base : ℕ) (flash : Flash) (es : List (ℕ × ℕ)) (line bytes : List ℕ) (result : Result RecordType HexWhy) → Holds flash es
    → Encodes line bytes → slice_index bytes 0 + 5 ≡ length bytes → kind_of bytes ≡ result → LineEffect base flash es line
    (result >>= after_record base flash bytes)
kind_outcome base flash es line bytes (Ok kind) h e counts is =
    let k = kind_ok bytes kind is in
    record_outcome base flash es line bytes kind h (spelled_by line bytes kind e counts k.0 k.1 k.2)
kind_outcome base flash es line bytes (Err w) h e counts is = kind_err base es line bytes w e counts is

filled_outcome : (base : ℕ) (flash : Flash) (es : List (ℕ × ℕ)) (c : ℕ) (line : List ℕ) (result : Result (List ℕ) HexWhy) → Holds flash es
    → bytes_of (c ∷ line) ≡ result → LineEffect base flash es (c ∷ line)
    (result >>= (λ bytes. kind_of bytes >>= after_record base flash bytes))
filled_outcome base flash es c line (Ok bytes) h is =
    let ok = bytes_ok c line bytes is in
    kind_outcome base flash es (c ∷ line) bytes (kind_of bytes) h ok.0 ok.1 refl
filled_outcome base flash es c line (Err w) h is = bytes_err base es c line w is

pub outcome : (base : ℕ) (flash : Flash) (es : List (ℕ × ℕ)) (line : List ℕ) → Holds flash es → LineEffect base flash es line
    (after_line base flash line)
outcome base flash es [] h = inl (refl, refl, refl)
outcome base flash es (c ∷ line) h = filled_outcome base flash es c line (bytes_of (c ∷ line)) h refl

-- ---- what comes of a line

spells_filled : (line : List ℕ) (r : Record) → Spells line r → line ≢ []
spells_filled line r s e = cc (sym e ∙ s.encoded.1)

went_on : (base : ℕ) (flash : Flash) (es : List (ℕ × ℕ)) (line : List ℕ) (r : Record) (result : Result (Progress × Flash) HexWhy)
    → Spells line r → r.kind ≢ EndOfFile → InFlash (given base r) → Agree (es ++ given base r) → LineEffect base flash es line result
    → (held : Flash) × (result ≡ Ok (More (base_after base r), held)) × Holds held (es ++ given base r)
went_on base flash es line r (Ok (More next, held)) s more flash_ok agree (inl blank) = absurd (spells_filled line r s blank.0)
went_on base flash es line r (Ok (More next, held)) s more flash_ok agree (inr came) =
    let same = spells_same line came.0 r came.1 s in
    (held, ap (λ n. Ok (More n, held)) (came.3 ∙ ap (base_after base) same), subst (λ q. Holds held (es ++ given base q)) same came.4)
went_on base flash es line r (Ok (Ended, held)) s more flash_ok agree came =
    let same = spells_same line came.0 r came.1 s in
    absurd (more (ap (λ (q : Record). q.kind) (sym same) ∙ came.2))
went_on base flash es line r (Err w) s more flash_ok agree least =
    absurd (nothing_stands base es line (sound_clear base es line r s flash_ok agree) w least.stands)

pub goes_on : (base : ℕ) (flash : Flash) (es : List (ℕ × ℕ)) (line : List ℕ) (r : Record) → Holds flash es
    → Spells line r → r.kind ≢ EndOfFile → InFlash (given base r) → Agree (es ++ given base r)
    → (held : Flash) × (after_line base flash line ≡ Ok (More (base_after base r), held)) × Holds held (es ++ given base r)
goes_on base flash es line r h s more flash_ok agree = went_on base flash es line r (after_line base flash line) s more flash_ok agree
    (outcome base flash es line h)

-- an end record gives nothing
end_gives : (base : ℕ) (r : Record) → r.kind ≡ EndOfFile → given base r ≡ []
end_gives base r e = ap (λ k. given_by k (base + r.address) r.bytes) e

end_clear : (base : ℕ) (flash : Flash) (es : List (ℕ × ℕ)) (line : List ℕ) (r : Record) → Holds flash es → Spells line r
    → r.kind ≡ EndOfFile → Clear base es line 8
end_clear base flash es line r h s e = sound_clear base es line r s (subst InFlash (sym (end_gives base r e)) in_flash_nil)
    (subst (λ g. Agree (es ++ g)) (sym (end_gives base r e)) (agree_held flash (es ++ []) (holds_nil flash es h)))

ended_by : (base : ℕ) (flash : Flash) (es : List (ℕ × ℕ)) (line : List ℕ) (r : Record) (result : Result (Progress × Flash) HexWhy)
    → Holds flash es
    → Spells line r → r.kind ≡ EndOfFile → LineEffect base flash es line result → result ≡ Ok (Ended, flash)
ended_by base flash es line r (Ok (More next, held)) h s e (inl blank) = absurd (spells_filled line r s blank.0)
ended_by base flash es line r (Ok (More next, held)) h s e (inr came) =
    let same = spells_same line came.0 r came.1 s in
    absurd (came.2 (ap (λ (q : Record). q.kind) same ∙ e))
ended_by base flash es line r (Ok (Ended, held)) h s e came = ap (λ f. Ok (Ended, f)) came.3
ended_by base flash es line r (Err w) h s e least = absurd (nothing_stands base es line (end_clear base flash es line r h s e) w
    least.stands)

pub ends : (base : ℕ) (flash : Flash) (es : List (ℕ × ℕ)) (line : List ℕ) (r : Record) → Holds flash es → Spells line r → r.kind ≡ EndOfFile
    → after_line base flash line ≡ Ok (Ended, flash)
ends base flash es line r h s e = ended_by base flash es line r (after_line base flash line) h s e (outcome base flash es line h)

failed_by : (base : ℕ) (flash : Flash) (es : List (ℕ × ℕ)) (line : List ℕ) (w : HexWhy) (result : Result (Progress × Flash) HexWhy)
    → Holds flash es
    → IsLeast base es line w → LineEffect base flash es line result → result ≡ Err w
failed_by base flash es line w (Ok (More next, held)) h least (inl blank) =
    absurd (blank_stands base es w (subst (λ l. Stands base es l w) blank.0 least.stands))
failed_by base flash es line w (Ok (More next, held)) h least (inr came) =
    absurd (nothing_stands base es line (sound_clear base es line came.0 came.1 came.5 (agree_held held (es ++ given base came.0) came.4)) w
    least.stands)
failed_by base flash es line w (Ok (Ended, held)) h least came =
    absurd (nothing_stands base es line (end_clear base flash es line came.0 h came.1 came.2) w least.stands)
failed_by base flash es line w (Err v) h least other = ap Err (same_least base es line v w other least)

pub fails : (base : ℕ) (flash : Flash) (es : List (ℕ × ℕ)) (line : List ℕ) (w : HexWhy) → Holds flash es → IsLeast base es line w
    → after_line base flash line ≡ Err w
fails base flash es line w h least = failed_by base flash es line w (after_line base flash line) h least (outcome base flash es line h)
