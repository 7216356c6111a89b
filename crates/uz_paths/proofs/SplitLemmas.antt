-- Points with their splits, and the splits of programs.
use Rattle.std.proofs.Common.{◌≡◌, ◌∙◌, ◌<◌, ◌≤◌, ◌+◌, ◌++◌, sym, ap, refl, arith, ℕ, zero, suc, List, [], ◌∷◌, Bool, true, false, map}
use Rattle.std.proofs.Common.{drop, length, set, subst, take}
use Rattle.std.proofs.lemmas.Option.{same_Some}
use Rattle.std.specs.Prelude.{Some, nat_eq, slice_get, if◌then◌else◌}
use Rattle.uz_schedule.specs.declared.kinds.RuleVersion.TheVariants.{Three}
use Rattle.uz_schedule.specs.declared.states.Instance.{Instance}
use Rattle.uz_schedule.specs.declared.states.Point.{Point}
use Rattle.uz_search.specs.Pieces.{split_in}
use Rattle.uz_search.specs.declared.program.Program.{Program}
use Rattle.uz_search.specs.declared.splitting.Split.{Split}
use Rattle.uz_search.proofs.Lists.{in_map, of_map}
use Rattle.uz_join.specs.Coverage.{IsSaid, IsSaidOver, SaysInstances}
use Rattle.uz_paths.specs.Splits.{AreRegisters, SplitsFit, with_split}

-- a program without splits has none that doesn't fit
pub none_fit : (p : Program) → p.splits ≡ [] → SplitsFit p
none_fit p none pc r e = absurd (let found : split_in [] pc ≡ Some r = ap (λ splits. split_in splits pc) (sym none) ∙ e in cc)

-- a register that is found is one of these
found_register : (splits : List Split) (pc r : ℕ) → AreRegisters splits → split_in splits pc ≡ Some r → r < 32
found_register [] pc r all e = absurd (cc)
found_register (s ∷ splits) pc r all e = by (λ h. found_register splits pc r (λ i t at. all (suc i) t at) h) (nat_eq s.pc pc) e
  where
    by : (split_in splits pc ≡ Some r → r < 32) → (b : Bool) → (if b then Some s.register else split_in splits pc) ≡ Some r → r < 32
    by later true e = let same : s.register ≡ r = same_Some s.register r e in subst (λ n. n < 32) same (all 0 s refl)
    by later false e = later e

pub none_registers : (splits : List Split) → splits ≡ [] → AreRegisters splits
none_registers splits none i s at = absurd (let there : slice_get [] i ≡ Some s = ap (λ l. slice_get l i) (sym none) ∙ at in cc)

-- one more register
pub registers_more : (splits : List Split) (s : Split) → AreRegisters splits → s.register < 32 → AreRegisters (splits ++ s ∷ [])
registers_more [] s all less zero t at = let same : s ≡ t = same_Some s t at in subst (λ (z : Split). z.register < 32) same less
registers_more [] s all less (suc i) t at = absurd (cc)
registers_more (x ∷ xs) s all less zero t at = all 0 t at
registers_more (x ∷ xs) s all less (suc i) t at = registers_more xs s (λ j u there. all (suc j) u there) less i t at

-- registers fit where version 3 judges
pub registers_fit : (p : Program) (splits : List Split) → AreRegisters splits → p.splits ≡ splits → p.head.version ≡ Three → SplitsFit p
registers_fit p splits all is three pc r e = (found_register splits pc r all (ap (λ l. split_in l pc) (sym is) ∙ e), three)

-- What points say

-- a point says the same, whatever it is split by
still_said : (splits : List Split) (q : Point) (l c : ℕ) (x : Instance) → IsSaid q l c x → IsSaid (with_split splits q) l c x
still_said splits q l c x s = record { box = s.box; line = s.line; clock = s.clock; is = s.is }

still_over : (splits : List Split) (nodes : List Instance) (q : Point) → IsSaidOver nodes q → IsSaidOver nodes (with_split splits q)
still_over splits nodes q over l c low high least most =
    let s = over l c low high least most in
    record { place = s.place; instance = s.instance; there = s.there; said = still_said splits q l c s.instance s.said }

pub still_say : (splits : List Split) (nodes : List Instance) (points : List Point) → SaysInstances nodes points
    → SaysInstances nodes (map (with_split splits) points)
still_say splits nodes points h = record {
  all = λ i x at. let s = h.all i x at in (
    s.0,
    s.1,
    record {
      point = with_split splits s.2.point;
      there = in_map (with_split splits) points s.0 s.2.point s.2.there;
      said = still_said splits s.2.point x.line s.1 x s.2.said;
    },
  );
  only = λ n q at. let old = of_map (with_split splits) points n q at in
      subst (IsSaidOver nodes) old.2 (still_over splits nodes old.0 (h.only n old.0 old.1));
}

-- Each point in its turn

-- the first k of a list are changed, and one more
pub at_turn : {A : Type 0} (f : A → A) (xs : List A) (k : ℕ) (x : A) → slice_get xs k ≡ Some x
    → slice_get (map f (take k xs) ++ drop k xs) k ≡ Some x
at_turn f [] k x e = absurd (cc)
at_turn f (y ∷ ys) zero x e = e
at_turn f (y ∷ ys) (suc k) x e = at_turn f ys k x e

next_set : {A : Type 0} (f : A → A) (xs : List A) (k : ℕ) (x : A) → slice_get xs k ≡ Some x
    → set (map f (take k xs) ++ drop k xs) k (f x) ≡ map f (take (suc k) xs) ++ drop (suc k) xs
next_set f [] k x e = absurd (cc)
next_set f (y ∷ ys) zero x e = ap (λ z. f z ∷ ys) (sym (same_Some y x e))
next_set f (y ∷ ys) (suc k) x e = ap (λ zs. f y ∷ zs) (next_set f ys k x e)

pub one_set : {A : Type 0} (f : A → A) (xs : List A) (k : ℕ) (x : A) → slice_get xs k ≡ Some x
    → set (map f (take k xs) ++ drop k xs) k (f x) ≡ map f (take (k + 1) xs) ++ drop (k + 1) xs
one_set f xs k x e =
    next_set f xs k x e ∙ ap (λ n. map f (take n xs) ++ drop n xs) (let next : suc k ≡ k + 1 = omega arith in next)

pub all_set : {A : Type 0} (f : A → A) (xs : List A) (k : ℕ) → length xs ≤ k → map f (take k xs) ++ drop k xs ≡ map f xs
all_set f [] zero h = refl
all_set f [] (suc k) h = refl
all_set f (y ∷ ys) zero h = absurd (omega arith)
all_set f (y ∷ ys) (suc k) h = ap (λ zs. f y ∷ zs) (all_set f ys k (omega arith))
