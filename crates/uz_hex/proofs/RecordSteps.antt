-- Steps of the code that reads a record.
use Rattle.std.proofs.Common.{◌≡◌, ℕ, ◌*◌, ◌/◌, ◌<◌, List, length, Result, Ok, Err, refl, arith}
use Rattle.std.proofs.lemmas.Bool.Decides.{nat_tests}
use Rattle.hex.specs.Hex.{decode_of}
use Rattle.hex.proofs.HexLemmas.{decode_of-ok}
use Rattle.hex.specs.declared.error.FromHexError.{FromHexError}
use Rattle.uz_hex.specs.Reading.{counted}
use Rattle.uz_hex.specs.declared.errors.HexWhy.TheVariants as why

-- more digits than a record can have
pub counted_long : (digits : List ℕ) → 260 < length digits / 2 → counted (decode_of digits) ≡ Err why.Short
counted_long digits h = by_result (decode_of digits) refl
  where
    by_result : (r : Result (List ℕ) FromHexError) → decode_of digits ≡ r → counted r ≡ Err why.Short
    by_result (Err e) is = refl
    by_result (Ok bytes) is =
        let ok = decode_of-ok digits bytes is in
        let twice : length digits ≡ 2 * length bytes = ok.2 in
        let small = ok.3 0 in
        grind (arith, nat_tests)
