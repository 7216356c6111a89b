-- The clocks of the returns among edges.
use Rattle.std.proofs.Common.{◌≡◌, inl, inr, ℕ, ◌<◌, List, [], ◌∷◌, ◌++◌, cond, map, refl, sym, ◌∙◌, ap, subst}
use Rattle.std.specs.Prelude.{Option, Some, None}
use Rattle.std.specs.List.{cons_option, filter_map, flat_map}
use Rattle.std.proofs.lemmas.List.Elements.{filter_map-append}
use Rattle.uz_core.specs.declared.machine.Edge.{Edge}
use Rattle.uz_core.specs.declared.machine.EdgeKind.{EdgeKind}
use Rattle.uz_core.specs.declared.machine.EdgeKind.TheVariants.{Sync, Pixel, Sound, Enter, Leave}
use Rattle.uz_check.specs.ReturnTimes.{HasReturn, return_at}
use Rattle.uz_report.specs.MainsTime.{Gap, edges_of, entries_and_returns, is_entry_or_return}
use Rattle.uz_report.proofs.Rising.{Among, Rising, among_right}

abbrev pub same : ℕ → ℕ
same clock = clock

abbrev clock_of : EdgeKind → ℕ → Option ℕ
clock_of (Sync level) clock = None
clock_of (Pixel value) clock = None
clock_of (Sound value) clock = None
clock_of (Enter count) clock = None
clock_of Leave clock = Some clock

abbrev pub returns : List Edge → List ℕ
returns edges = filter_map (λ e. clock_of e.kind e.clock) edges

pub returns_append : (a b : List Edge) → returns (a ++ b) ≡ returns a ++ returns b
returns_append a b = filter_map-append (λ (e : Edge). clock_of e.kind e.clock) a b

-- of entries and returns alone
one_of_both : (e : Edge) (es : List Edge) (kind : EdgeKind) → e.kind ≡ kind → returns (entries_and_returns es) ≡ returns es
    → returns (cond (is_entry_or_return kind) (e ∷ entries_and_returns es) (entries_and_returns es)) ≡ cons_option (clock_of kind e.clock)
    (returns es)
one_of_both e es (Sync level) is more = more
one_of_both e es (Pixel value) is more = more
one_of_both e es (Sound value) is more = more
one_of_both e es (Enter count) is more = ap (λ k. cons_option (clock_of k e.clock) (returns (entries_and_returns es))) is ∙ more
one_of_both e es Leave is more =
    ap (λ k. cons_option (clock_of k e.clock) (returns (entries_and_returns es))) is ∙ ap (λ (xs : List ℕ). e.clock ∷ xs) more

pub of_both : (edges : List Edge) → returns (entries_and_returns edges) ≡ returns edges
of_both [] = refl
of_both (e ∷ es) = one_of_both e es e.kind refl (of_both es)

-- of gaps
pub of_gaps : (gaps : List Gap) → returns (flat_map edges_of gaps) ≡ map (λ (g : Gap). g.left) gaps
of_gaps [] = refl
of_gaps (g ∷ gaps) = ap (λ (xs : List ℕ). g.left ∷ xs) (of_gaps gaps)

-- one of them cuts the edges
further : (e : Edge) (edges : List Edge) (clock : ℕ) → HasReturn edges clock → HasReturn (e ∷ edges) clock
further e edges clock h = record { before = e ∷ h.before; after = h.after; cut = ap (λ es. e ∷ es) h.cut }

one_cut : (e : Edge) (es : List Edge) (kind : EdgeKind) (clock : ℕ) → e.kind ≡ kind → Among clock (cons_option (clock_of kind e.clock) (returns es))
    → (Among clock (returns es) → HasReturn es clock) → HasReturn (e ∷ es) clock
one_cut e es (Sync level) clock is among more = further e es clock (more among)
one_cut e es (Pixel value) clock is among more = further e es clock (more among)
one_cut e es (Sound value) clock is among more = further e es clock (more among)
one_cut e es (Enter count) clock is among more = further e es clock (more among)
one_cut e es Leave clock is (inl at) more = record {
  before = [];
  after = es;
  cut = ap (λ (k : EdgeKind). record { clock = e.clock; kind = k } ∷ es) is ∙ ap (λ (n : ℕ). return_at n ∷ es) at;
}
one_cut e es Leave clock is (inr later) more = further e es clock (more later)

pub cut_at : (edges : List Edge) (clock : ℕ) → Among clock (returns edges) → HasReturn edges clock
cut_at [] clock none = absurd none
cut_at (e ∷ es) clock among = one_cut e es e.kind clock refl among (cut_at es clock)

pub among_returns : (edges : List Edge) (clock : ℕ) → HasReturn edges clock → Among clock (returns edges)
among_returns edges clock h =
    subst (Among clock) (sym (ap returns h.cut ∙ returns_append h.before (return_at clock ∷ h.after)))
    (among_right clock (returns h.before) (clock ∷ returns h.after) (inl refl))

-- each later one comes later
abbrev pub Rise : List Edge → Type 0
Rise edges = (before between after : List Edge) (left again : ℕ)
    → edges ≡ before ++ return_at left ∷ (between ++ return_at again ∷ after) → left < again

rest_rise : (e : Edge) (es : List Edge) → Rise (e ∷ es) → Rise es
rest_rise e es h before between after left again cut = h (e ∷ before) between after left again (ap (λ (xs : List Edge). e ∷ xs) cut)

one_rises : (e : Edge) (es : List Edge) (kind : EdgeKind) → e.kind ≡ kind → Rise (e ∷ es) → Rising same (returns es)
    → Rising same (cons_option (clock_of kind e.clock) (returns es))
one_rises e es (Sync level) is h more = more
one_rises e es (Pixel value) is h more = more
one_rises e es (Sound value) is h more = more
one_rises e es (Enter count) is h more = more
one_rises e es Leave is h more = (
  λ clock among. (let there = cut_at es clock among in
      h [] there.before there.after e.clock clock (ap (λ (k : EdgeKind). record { clock = e.clock; kind = k } ∷ es) is
      ∙ ap (λ (xs : List Edge). return_at e.clock ∷ xs) there.cut)),
  more,
)

pub returns_rise : (edges : List Edge) → Rise edges → Rising same (returns edges)
returns_rise [] h = tt
returns_rise (e ∷ es) h = one_rises e es e.kind refl h (returns_rise es (rest_rise e es h))
