-- The words of what the flags tell: read as they are written, and only so.
use Rattle.uz_cert_laws.proofs.Common.{◌≡◌, ℕ, ◌<◌, ◌≤◌, ◌^◌, true, false, leb, List, ◌∷◌, ◌++◌, decimal, codes, bytes_eq, lit<, lit≤}
use Rattle.uz_cert_laws.proofs.Common.{refl, sym, ◌∙◌, ap, subst, arith, Option, Some, None, Ok, Err, cut_at, cut_read, cut_again, ◌>>=◌}
use Rattle.uz_cert_laws.proofs.Common.{◌+◌, Result, CertWhy, RangeFits, one_number, ends, two_word, three_word, four_word}
use Rattle.uz_cert_laws.proofs.Common.{comparison_word, ComparedFits, SplitFits, Register, Constant, Compared}
use Rattle.uz_cert_writer.specs.Spelling.{split_word}
use Rattle.uz_cert_lines.specs.Comparisons.{two_listed, three_listed, four_listed, in_range, is_nothing, value_told, register_told}
use Rattle.uz_cert_lines.specs.Comparisons.{constant_told, registers_told, constants_told, result_told, results_told, pair_named}
use Rattle.uz_cert_lines.specs.Comparisons.{comparison_named, comparison_cut, comparison}
use Rattle.uz_cert_lines.specs.Named.{is_none}
use Rattle.uz_cert_laws.proofs.Tests.{tested, fine_is, fault_not, passed, so, bind_ok, then, le_is, is_le, word_is}
use Rattle.uz_cert_laws.proofs.Numbers.{one_only, one_so, decimal_lacks_below, lacks, lacks_is}
use Rattle.uz_schedule.specs.declared.facts.Compared.TheVariants as told
use Rattle.uz_cert_lines.specs.declared.why.CertWhy.TheVariants as why

-- what a word is read as, where just what is written is read and only that

record IsRead {B : Type 0} (read : List ℕ → Result B CertWhy) (word : B → List ℕ) (In : B → Type 0) : Type 0 where
  only : (w : List ℕ) (n : B) → read w ≡ Ok n → (w ≡ word n) × In n
  so : (n : B) → In n → read (word n) ≡ Ok n

one_read : (limit : ℕ) → limit ≤ 2 ^ 32 → IsRead (one_number 0 limit) decimal (λ n. n < limit)
one_read limit l = record {
  only = λ w n e. let is = one_only 0 limit n w l e in (is.0, is.2);
  so = λ n h. one_so 0 limit n l (omega arith) h;
}

-- a number, a comma (44) and what is read after it
abbrev parts : {B : Type 0} → ℕ → (List ℕ → Result B CertWhy) → Option (List ℕ × List ℕ) → Result (ℕ × B) CertWhy
parts a more None = Err why.Word
parts a more (Some p) = one_number 0 a p.0 >>= (λ m. more p.1 >>= (λ n. Ok (m, n)))

then_read : {B : Type 0} {more : List ℕ → Result B CertWhy} {word : B → List ℕ} {In : B → Type 0} (a : ℕ) → a ≤ 2 ^ 32 → IsRead more word In
    → IsRead (λ w. parts a more (cut_at 44 w)) (λ n. decimal n.0 ++ 44 ∷ word n.1) (λ n. (n.0 < a) × In n.1)
then_read {B} {more} {word} {In} a l r = record {
  only = λ w n e. by_cut w n (cut_at 44 w) refl e;
  so = λ n h.
      ap (parts a more) (cut_again 44 (decimal n.0) (word n.1) (decimal_lacks_below 44 n.0 (lit< tt) (omega (arith, h.0))))
      ∙ then (one_number 0 a (decimal n.0)) (λ x. more (word n.1) >>= (λ y. Ok (x, y))) n.0 (Ok n) (one_so 0 a n.0 l (omega arith) h.0)
      (then (more (word n.1)) (λ y. Ok (n.0, y)) n.1 (Ok n) (r.so n.1 h.1) refl);
}
  where
    by_cut : (w : List ℕ) (n : ℕ × B) (o : Option (List ℕ × List ℕ)) → cut_at 44 w ≡ o → parts a more o ≡ Ok n
        → (w ≡ decimal n.0 ++ 44 ∷ word n.1) × ((n.0 < a) × In n.1)
    by_cut w n None c e = absurd cc
    by_cut w n (Some p) c e =
        let m = bind_ok (one_number 0 a p.0) (λ m. more p.1 >>= (λ k. Ok (m, k))) n e in
        let k = bind_ok (more p.1) (λ k. Ok (m.0, k)) n m.2 in
        let front = one_only 0 a m.0 p.0 l m.1 in
        let back = r.only p.1 k.0 k.1 in
        subst (λ (q : ℕ × B). (w ≡ decimal q.0 ++ 44 ∷ word q.1) × ((q.0 < a) × In q.1)) (fine_is {A = ℕ × B} (m.0, k.0) n k.2)
        (cut_read 44 w p c ∙ ap (λ t. t ++ 44 ∷ p.1) front.0 ∙ ap (λ t. decimal m.0 ++ 44 ∷ t) back.0, (front.2, back.1))

two_read : (a b : ℕ) → a ≤ 2 ^ 32 → b ≤ 2 ^ 32 → IsRead (two_listed a b) (λ n. two_word n.0 n.1) (λ n. (n.0 < a) × (n.1 < b))
unfolding two_listed
two_read a b la lb = then_read a la (one_read b lb)

three_read : (a b c : ℕ) → a ≤ 2 ^ 32 → b ≤ 2 ^ 32 → c ≤ 2 ^ 32
    → IsRead (three_listed a b c) (λ n. three_word n.0 n.1.0 n.1.1) (λ n. (n.0 < a) × ((n.1.0 < b) × (n.1.1 < c)))
unfolding three_listed
three_read a b c la lb lc = then_read a la (two_read b c lb lc)

four_read : (a b : ℕ) → a ≤ 2 ^ 32 → b ≤ 2 ^ 32
    → IsRead (four_listed a b) (λ n. four_word n.0 n.1.0 n.1.1.0 n.1.1.1)
    (λ n. (n.0 < a) × ((n.1.0 < b) × ((n.1.1.0 < b) × (n.1.1.1 < b))))
unfolding four_listed
four_read a b la lb = then_read a la (three_read b b b lb lb lb)

-- what follows each name: only what is written is read

-- a name, its colon (58) and these numbers spell it, and it is within the limits
abbrev Tells : List ℕ → List ℕ → Compared → Type 0
Tells name w x = (name ++ 58 ∷ w ≡ comparison_word x) × ComparedFits x

told_only : {B : Type 0} {read : List ℕ → Result B CertWhy} {word : B → List ℕ} {In : B → Type 0} → IsRead read word In
    → (name : List ℕ) (make : B → Compared) → ((n : B) → name ++ 58 ∷ word n ≡ comparison_word (make n))
    → ((n : B) → In n → ComparedFits (make n)) → (w : List ℕ) (x : Compared) → read w >>= (λ n. Ok (make n)) ≡ Ok x → Tells name w x
told_only {B} {read} r name make spelled fits w x e =
    let m = bind_ok (read w) (λ n. Ok (make n)) x e in
    let n = r.only w m.0 m.1 in
    subst (Tells name w) (fine_is (make m.0) x m.2) (ap (λ t. name ++ 58 ∷ t) n.0 ∙ spelled m.0, fits m.0 n.1)

-- a register, a constant below a limit, and the ends of a range that are below it too
abbrev Ranged : Type 0
Ranged = ℕ × (ℕ × (ℕ × ℕ))

ranged_only : (a top : ℕ) → a ≤ 2 ^ 32 → top + 1 ≤ 2 ^ 32 → (name : List ℕ) (make : Ranged → Compared)
    → ((n : Ranged) → name ++ 58 ∷ four_word n.0 n.1.0 n.1.1.0 n.1.1.1 ≡ comparison_word (make n))
    → ((n : Ranged) → n.0 < a → n.1.0 ≤ top → RangeFits top (ends n.1.1.0 n.1.1.1) → ComparedFits (make n))
    → (w : List ℕ) (x : Compared) → four_listed a (top + 1) w >>= (λ n. in_range n.1.1.0 n.1.1.1 (make n)) ≡ Ok x → Tells name w x
ranged_only a top la lt name make spelled fits w x e =
    let m = bind_ok (four_listed a (top + 1) w) (λ n. in_range n.1.1.0 n.1.1.1 (make n)) x e in
    let n = (four_read a (top + 1) la lt).only w m.0 m.1 in
    let p = passed (leb m.0.1.1.0 m.0.1.1.1) (Ok (make m.0)) why.Order x m.2 in
    subst (Tells name w) (fine_is (make m.0) x p.1) (
      ap (λ t. name ++ 58 ∷ t) n.0 ∙ spelled m.0,
      fits m.0 n.1.0 (omega (arith, n.1.1.0)) (record { order = le_is m.0.1.1.0 m.0.1.1.1 p.0; high = omega (arith, n.1.1.1.1) }),
    )

-- the names

named_at : (name wanted w : List ℕ) (x : Compared) → bytes_eq name wanted ≡ true → Tells wanted w x → Tells name w x
named_at name wanted w x t h = subst (λ (v : List ℕ). Tells v w x) (sym (word_is name wanted t)) h

pair_only : (name w : List ℕ) (x : Compared) → pair_named name w ≡ Ok x → Tells name w x
unfolding pair_named registers_told constants_told results_told
pair_only name w x e =
    tested (bytes_eq name (codes "cpw")) e
    (λ t e. named_at name (codes "cpw") w x t (told_only (three_read 31 32 32 (lit≤ tt) (lit≤ tt) (lit≤ tt)) (codes "cpw")
    (λ n. told.Pair n.0 (Register n.1.0) n.1.1) (λ n. refl) (λ n h. (h.0, h.1.0, h.1.1)) w x e))
    (λ _ e. tested (bytes_eq name (codes "cpiw")) e
    (λ t e. named_at name (codes "cpiw") w x t (told_only (three_read 31 256 32 (lit≤ tt) (lit≤ tt) (lit≤ tt)) (codes "cpiw")
    (λ n. told.Pair n.0 (Constant n.1.0) n.1.1) (λ n. refl) (λ n h. (h.0, omega (arith, h.1.0), h.1.1)) w x e))
    (λ _ e. tested (bytes_eq name (codes "subw")) e
    (λ t e. named_at name (codes "subw") w x t (ranged_only 31 65535 (lit≤ tt) (lit≤ tt) (codes "subw")
    (λ n. told.PairResult n.0 n.1.0 (ends n.1.1.0 n.1.1.1)) (λ n. refl) (λ n h k r. (h, k, r)) w x e))
    (λ _ e. absurd (fault_not why.Word x e))))

name_only : (name w : List ℕ) (x : Compared) → comparison_named name w ≡ Ok x → Tells name w x
unfolding comparison_named value_told register_told constant_told result_told
name_only name w x e =
    tested (bytes_eq name (codes "tst")) e
    (λ t e. named_at name (codes "tst") w x t
    (told_only (one_read 32 (lit≤ tt)) (codes "tst") (λ d. told.Value d) (λ n. refl) (λ n h. h) w x e))
    (λ _ e. tested (bytes_eq name (codes "cp")) e
    (λ t e. named_at name (codes "cp") w x t
    (told_only (two_read 32 32 (lit≤ tt) (lit≤ tt)) (codes "cp") (λ n. told.Byte n.0 (Register n.1)) (λ n. refl) (λ n h. h) w x e))
    (λ _ e. tested (bytes_eq name (codes "cpi")) e
    (λ t e. named_at name (codes "cpi") w x t (told_only (two_read 32 256 (lit≤ tt) (lit≤ tt)) (codes "cpi")
    (λ n. told.Byte n.0 (Constant n.1)) (λ n. refl) (λ n h. (h.0, omega (arith, h.1))) w x e))
    (λ _ e. tested (bytes_eq name (codes "sub")) e
    (λ t e. named_at name (codes "sub") w x t (ranged_only 32 255 (lit≤ tt) (lit≤ tt) (codes "sub")
    (λ n. told.Result n.0 n.1.0 (ends n.1.1.0 n.1.1.1)) (λ n. refl) (λ n h k r. (h, k, r)) w x e))
    (λ _ e. pair_only name w x e))))

pub comparison_only : (w : List ℕ) (x : Compared) → comparison w ≡ Ok x → (w ≡ comparison_word x) × ComparedFits x
unfolding comparison
comparison_only w x e = by_cut (cut_at 58 w) refl e
  where
    by_cut : (o : Option (List ℕ × List ℕ)) → cut_at 58 w ≡ o → comparison_cut o ≡ Ok x → (w ≡ comparison_word x) × ComparedFits x
    by_cut None c e = absurd cc
    by_cut (Some p) c e =
        let is = name_only p.0 p.1 x e in
        (cut_read 58 w p c ∙ is.0, is.1)

-- what is written is read

named_so : (name w : List ℕ) → lacks 58 name ≡ true → comparison (name ++ 58 ∷ w) ≡ comparison_named name w
unfolding comparison
named_so name w e = ap comparison_cut (cut_again 58 name w (lacks_is 58 name e))

-- what is read after a name
told_so : {B : Type 0} {read : List ℕ → Result B CertWhy} {word : B → List ℕ} {In : B → Type 0} → IsRead read word In
    → (name : List ℕ) → lacks 58 name ≡ true → (make : B → Result Compared CertWhy) (n : B) (x : Compared) → In n
    → ((w : List ℕ) → comparison_named name w ≡ read w >>= make) → make n ≡ Ok x → comparison (name ++ 58 ∷ word n) ≡ Ok x
told_so {B} {read} {word} r name lack make n x i is made =
    named_so name (word n) lack ∙ is (word n) ∙ then (read (word n)) make n (Ok x) (r.so n i) made

pub comparison_so : (x : Compared) → ComparedFits x → is_nothing x ≡ false → comparison (comparison_word x) ≡ Ok x
unfolding comparison_named pair_named value_told register_told constant_told registers_told constants_told result_told results_told
comparison_so told.Nothing f o = absurd cc
comparison_so (told.Value d) f o =
    told_so (one_read 32 (lit≤ tt)) (codes "tst") refl (λ n. Ok (told.Value n)) d (told.Value d) f (λ w. refl) refl
comparison_so (told.Byte d (Register r)) f o =
    told_so (two_read 32 32 (lit≤ tt) (lit≤ tt)) (codes "cp") refl (λ n. Ok (told.Byte n.0 (Register n.1))) (d, r)
    (told.Byte d (Register r)) f (λ w. refl) refl
comparison_so (told.Byte d (Constant k)) f o =
    told_so (two_read 32 256 (lit≤ tt) (lit≤ tt)) (codes "cpi") refl (λ n. Ok (told.Byte n.0 (Constant n.1))) (d, k)
    (told.Byte d (Constant k)) (f.0, omega (arith, f.1)) (λ w. refl) refl
comparison_so (told.Pair d (Register r) high) f o =
    told_so (three_read 31 32 32 (lit≤ tt) (lit≤ tt) (lit≤ tt)) (codes "cpw") refl (λ n. Ok (told.Pair n.0 (Register n.1.0) n.1.1))
    (d, (r, high)) (told.Pair d (Register r) high) (f.0, (f.1, f.2)) (λ w. refl) refl
comparison_so (told.Pair d (Constant k) high) f o =
    told_so (three_read 31 256 32 (lit≤ tt) (lit≤ tt) (lit≤ tt)) (codes "cpiw") refl (λ n. Ok (told.Pair n.0 (Constant n.1.0) n.1.1))
    (d, (k, high)) (told.Pair d (Constant k) high) (f.0, (omega (arith, f.1), f.2)) (λ w. refl) refl
comparison_so (told.Result d k old) f o =
    let order : old.lo ≤ old.hi = f.2.order in
    let high : old.hi ≤ 255 = f.2.high in
    told_so (four_read 32 256 (lit≤ tt) (lit≤ tt)) (codes "sub") refl
    (λ n. in_range n.1.1.0 n.1.1.1 (told.Result n.0 n.1.0 (ends n.1.1.0 n.1.1.1))) (d, (k, (old.lo, old.hi))) (told.Result d k old)
    (f.0, (omega (arith, f.1), (omega (arith, order, high), omega (arith, high)))) (λ w. refl)
    (so (leb old.lo old.hi) (Ok (told.Result d k old)) (Err why.Order) (is_le old.lo old.hi order))
comparison_so (told.PairResult d k old) f o =
    let order : old.lo ≤ old.hi = f.2.order in
    let high : old.hi ≤ 65535 = f.2.high in
    told_so (four_read 31 65536 (lit≤ tt) (lit≤ tt)) (codes "subw") refl
    (λ n. in_range n.1.1.0 n.1.1.1 (told.PairResult n.0 n.1.0 (ends n.1.1.0 n.1.1.1))) (d, (k, (old.lo, old.hi))) (told.PairResult d k old)
    (f.0, (omega (arith, f.1), (omega (arith, order, high), omega (arith, high)))) (λ w. refl)
    (so (leb old.lo old.hi) (Ok (told.PairResult d k old)) (Err why.Order) (is_le old.lo old.hi order))

-- by default nothing is told

pub nothing_is : (x : Compared) → is_nothing x ≡ true → x ≡ told.Nothing
nothing_is told.Nothing e = refl
nothing_is (told.Byte d source) e = absurd cc
nothing_is (told.Pair d low high) e = absurd cc
nothing_is (told.Result d k old) e = absurd cc
nothing_is (told.PairResult d k old) e = absurd cc
nothing_is (told.Value d) e = absurd cc

-- the register of a cover

pub split_only : (w : List ℕ) (x : Option ℕ) → one_number 0 32 w >>= (λ r. Ok (Some r)) ≡ Ok x → (w ≡ split_word x) × SplitFits x
split_only w x e =
    let m = bind_ok (one_number 0 32 w) (λ r. Ok (Some r)) x e in
    let n = one_only 0 32 m.0 w (lit≤ tt) m.1 in
    subst (λ (o : Option ℕ). (w ≡ split_word o) × SplitFits o) (fine_is (Some m.0) x m.2) (n.0, n.2)

pub split_so : (x : Option ℕ) → SplitFits x → is_none x ≡ false → one_number 0 32 (split_word x) >>= (λ r. Ok (Some r)) ≡ Ok x
split_so None f o = absurd cc
split_so (Some r) f o =
    then (one_number 0 32 (decimal r)) (λ k. Ok (Some k)) r (Ok (Some r)) (one_so 0 32 r (lit≤ tt) (omega arith) f) refl

pub none_is : (x : Option ℕ) → is_none x ≡ true → x ≡ None
none_is None e = refl
none_is (Some r) e = absurd cc
