-- The items that facts are spelled as: registers, pairs, flags and cells as lists of optional items.
use Rattle.uz_cert_laws.proofs.Common.{nat_tests, ◌≡◌, ℕ, zero, suc, ◌+◌, ◌<◌, ◌≤◌, Bool, true, false, cond, ◌&&◌, eqb, List, [], ◌∷◌}
use Rattle.uz_cert_laws.proofs.Common.{map, length, decimal, lit≤, refl, sym, ◌∙◌, ap, subst, arith, Option, Some, slice_get}
use Rattle.uz_cert_laws.proofs.Common.{Ends, tracks, is_default_flag, Kind, Main, Handler, Alone, Cell, Fact, Any, Between, Line, Loop}
use Rattle.uz_cert_laws.proofs.Common.{Old, OldFlags, PairFact, Bit, Zero, One, Free, is_default, is_any_pair, is_range, range_fact}
use Rattle.uz_cert_laws.proofs.Common.{default_flag, tracked_before, Shape, options, numbers_from, item, fact_word, register_item}
use Rattle.uz_cert_laws.proofs.Common.{register_items, cell_items, AnyPair, BetweenPair, LinePair, LoopPair, OldBit}
use Rattle.uz_cert_laws.proofs.Tests.{and_true, number_is, same_number, so, else_so}
use Rattle.uz_cert_lines.specs.Items.{default_regs, default_cells}
use Rattle.uz_cert_laws.proofs.{ItemForms.cell_form, Facts.FactIn, Facts.part_not_whole}

-- the keys: registers by number, pairs and flags by letter, cells by number

abbrev pub registers : List ℕ
registers = numbers_from 0 32

-- the cells that a kind tracks, each with its number
abbrev pub numbered_cells : Kind → ℕ → List Cell → List (ℕ × Cell)
numbered_cells kind i [] = []
numbered_cells kind i (c ∷ cs) = cond (tracks kind c.owner) ((i, c) ∷ numbered_cells kind (suc i) cs) (numbered_cells kind (suc i) cs)

-- the items and the defaults by key

abbrev pub any_pair : ℕ → PairFact → Bool
any_pair letter f = is_any_pair f

abbrev pub usual_flag : Kind → ℕ → Bit → Bool
usual_flag kind letter b = is_default_flag kind b

abbrev pub in_range : ℕ × Cell → Fact → Bool
in_range p f = is_range p.1.range f

abbrev pub cell_word : ℕ × Cell → Fact → List ℕ
cell_word p f = item (109 ∷ decimal p.0) (fact_word f)

abbrev pub usual_fact : Kind → ℕ → Fact
usual_fact Main r = Any
usual_fact Handler r = Old r
usual_fact Alone r = Any

abbrev pub usual_pair : ℕ → PairFact
usual_pair letter = AnyPair

abbrev pub usual_bit : Kind → ℕ → Bit
usual_bit kind letter = default_flag kind

abbrev pub usual_cell : ℕ × Cell → Fact
usual_cell p = range_fact p.1.range

-- the items are these

pub registers_are : (kind : Kind) (r n : ℕ) (fs : List Fact) → length fs ≡ n
    → register_items kind r fs ≡ options (is_default kind) register_item (numbers_from r n) fs
registers_are kind r n fs e = ap (λ m. options (is_default kind) register_item (numbers_from r m) fs) e

no_values : (ks : List (ℕ × Cell)) → options in_range cell_word ks [] ≡ []
no_values [] = refl
no_values (k ∷ ks) = refl

pub cells_are : (kind : Kind) (i : ℕ) (cs : List Cell) (fs : List Fact)
    → cell_items kind i cs fs ≡ options in_range cell_word (numbered_cells kind i cs) fs
cells_are kind i [] fs = refl
cells_are kind i (c ∷ cs) [] = sym (no_values (numbered_cells kind i (c ∷ cs)))
cells_are kind i (c ∷ cs) (f ∷ fs) = grind (arith, cells_are kind (suc i) cs fs, cells_are kind (suc i) cs (f ∷ fs))

-- the defaults are these

pub registers_usual : (kind : Kind) → default_regs kind ≡ map (usual_fact kind) registers
registers_usual Main = refl
registers_usual Handler = refl
registers_usual Alone = refl

pub cells_usual : (kind : Kind) (i : ℕ) (cs : List Cell) → default_cells kind cs ≡ map usual_cell (numbered_cells kind i cs)
cells_usual kind i [] = refl
cells_usual kind i (c ∷ cs) = grind (arith, cells_usual kind (suc i) cs)

-- a default is left out, and nothing else that may stand there

pub register_default : (kind : Kind) (r : ℕ) → is_default kind r (usual_fact kind r) ≡ true
register_default Main r = refl
register_default Handler r = same_number r
register_default Alone r = refl

any_only : (f : Fact) → is_default Main 0 f ≡ true → f ≡ Any
any_only Any e = refl
any_only (Between x) e = absurd cc
any_only (Line a b) e = absurd cc
any_only (Loop a b) e = absurd cc
any_only (Old q) e = absurd cc
any_only OldFlags e = absurd cc

own_only : (r : ℕ) (f : Fact) → is_default Handler r f ≡ true → f ≡ Old r
own_only r Any e = absurd cc
own_only r (Between x) e = absurd cc
own_only r (Line a b) e = absurd cc
own_only r (Loop a b) e = absurd cc
own_only r (Old q) e = ap (λ n. Old n) (number_is q r e)
own_only r OldFlags e = absurd cc

pub register_only : (kind : Kind) (r : ℕ) (f : Fact) → is_default kind r f ≡ true → f ≡ usual_fact kind r
register_only Main r f e = any_only f e
register_only Handler r f e = own_only r f e
register_only Alone r f e = any_only f e

pub pair_usual_only : (f : PairFact) → is_any_pair f ≡ true → f ≡ AnyPair
pair_usual_only AnyPair e = refl
pair_usual_only (BetweenPair x) e = absurd cc
pair_usual_only (LinePair a b) e = absurd cc
pair_usual_only (LoopPair a b) e = absurd cc

pub flag_default : (kind : Kind) → is_default_flag kind (default_flag kind) ≡ true
flag_default Main = refl
flag_default Handler = refl
flag_default Alone = refl

pub flag_usual_only : (kind : Kind) (b : Bit) → is_default_flag kind b ≡ true → b ≡ default_flag kind
flag_usual_only kind Zero e = absurd cc
flag_usual_only kind One e = absurd cc
flag_usual_only Main Free e = refl
flag_usual_only Handler Free e = absurd cc
flag_usual_only Alone Free e = refl
flag_usual_only Main OldBit e = absurd cc
flag_usual_only Handler OldBit e = refl
flag_usual_only Alone OldBit e = absurd cc

pub range_default : (range : Ends) → is_range range (range_fact range) ≡ true
range_default range = grind (arith, nat_tests)

ends_are_same : (a b : Ends) → a.lo ≡ b.lo → a.hi ≡ b.hi → a ≡ b
ends_are_same a b e f = λ i. record { lo = e i; hi = f i }

pub range_only_usual : (shape : Shape) (c : Cell) (f : Fact) → FactIn (cell_form shape c) f → is_range c.range f ≡ true → f ≡ range_fact
    c.range
range_only_usual shape c Any i e = sym (so (eqb c.range.lo 0 && eqb c.range.hi 255) Any (Between c.range) e)
range_only_usual shape c (Between x) i e =
    let two = and_true (eqb x.lo c.range.lo) (eqb x.hi c.range.hi) e in
    let same : x ≡ c.range = ends_are_same x c.range (number_is x.lo c.range.lo two.0) (number_is x.hi c.range.hi two.1) in
    ap (λ y. Between y) same
    ∙ sym (else_so (eqb c.range.lo 0 && eqb c.range.hi 255) Any (Between c.range)
    (subst (λ (y : Ends). (eqb y.lo 0 && eqb y.hi 255) ≡ false) same (part_not_whole 255 x i.0)))
range_only_usual shape c (Line a b) i e = absurd cc
range_only_usual shape c (Loop a b) i e = absurd cc
range_only_usual shape c (Old r) i e = absurd cc
range_only_usual shape c OldFlags i e = absurd cc

-- places of keys

pub count_at : (a n r : ℕ) → r < n → slice_get (numbers_from a n) r ≡ Some (a + r)
count_at a zero r h = absurd (omega arith)
count_at a (suc n) zero h = let same : a ≡ a + 0 = omega arith in ap (λ k. Some k) same
count_at a (suc n) (suc r) h =
    let same : suc a + r ≡ a + suc r = omega arith in
    count_at (suc a) n r (omega arith) ∙ ap (λ k. Some k) same

pub register_at : (r : ℕ) → r < 32 → slice_get registers r ≡ Some r
register_at r h = let same : 0 + r ≡ r = omega arith in count_at 0 32 r h ∙ ap (λ k. Some k) same

numbered_same : (a b : ℕ) (x y : Cell) → a ≡ b → x ≡ y → ◌≡◌ {A = Option (ℕ × Cell)} (Some (a, x)) (Some (b, y))
numbered_same a b x y e f = let pair : ◌≡◌ {A = ℕ × Cell} (a, x) (b, y) = cc in ap (λ (p : ℕ × Cell). Some p) pair

pub cell_number : (kind : Kind) (cs : List Cell) (i a : ℕ) (c : Cell) → slice_get cs i ≡ Some c → tracks kind c.owner ≡ true
    → slice_get (numbered_cells kind a cs) (tracked_before kind i cs) ≡ Some (a + i, c)
cell_number kind [] i a c e t = absurd cc
cell_number kind (x ∷ xs) zero a c e t =
    let same : x ≡ c = cc in
    ap (λ b. slice_get (cond b ((a, x) ∷ numbered_cells kind (suc a) xs) (numbered_cells kind (suc a) xs)) 0)
    (ap (λ (y : Cell). tracks kind y.owner) same ∙ t)
    ∙ numbered_same a (a + 0) x c (omega arith) same
cell_number kind (x ∷ xs) (suc i) a c e t = grind (arith, cell_number kind xs i (suc a) c e t)

pub cells_before_next : (kind : Kind) (cs : List Cell) (i : ℕ) (c : Cell) → slice_get cs i ≡ Some c → tracks kind c.owner ≡ true
    → tracked_before kind (suc i) cs ≡ suc (tracked_before kind i cs)
cells_before_next kind [] i c e t = absurd cc
cells_before_next kind (x ∷ xs) zero c e t =
    let same : x ≡ c = cc in
    ap (λ b. cond b (0 + 1) 0) (ap (λ (y : Cell). tracks kind y.owner) same ∙ t)
cells_before_next kind (x ∷ xs) (suc i) c e t = grind (arith, cells_before_next kind xs i c e t)

pub cells_before_rise : (kind : Kind) (cs : List Cell) (i j : ℕ) → i ≤ j → tracked_before kind i cs ≤ tracked_before kind j cs
cells_before_rise kind [] zero zero h = lit≤ tt
cells_before_rise kind [] zero (suc j) h = lit≤ tt
cells_before_rise kind [] (suc i) zero h = lit≤ tt
cells_before_rise kind [] (suc i) (suc j) h = lit≤ tt
cells_before_rise kind (x ∷ xs) zero j h = omega arith
cells_before_rise kind (x ∷ xs) (suc i) zero h = absurd (omega arith)
cells_before_rise kind (x ∷ xs) (suc i) (suc j) h = grind (arith, cells_before_rise kind xs i j (omega arith))
