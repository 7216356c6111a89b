-- Events among edges, and the events of a stretch of the schedule.
use Rattle.uz_check.proofs.Common.{◌≡◌, ◌⊎◌, inl, inr, ℕ, zero, suc, ◌+◌, ◌≤◌, Bool, true, false, cond, leb, List, [], ◌∷◌, ◌++◌, refl, sym}
use Rattle.uz_check.proofs.Common.{◌∙◌, ap, subst, arith, Option, Some, None, filter, nat_lt, EventKind, Edge, edges_until, AreTimed, Shown}
use Rattle.uz_check.proofs.Common.{event_of, listed, shown, shown_at, scheduled, edges_after, le-ltb}
use Rattle.uz_check.proofs.RunParts.{timed_ends}
use Rattle.std.proofs.lemmas.Bool.{lt-ltb}
use Rattle.std.specs.List.{cons_option}

abbrev pub Among : {X : Type 0} → X → List X → Type 0
Among x [] = ⊥
Among x (y ∷ ys) = (y ≡ x) ⊎ Among x ys

pub among_left : {X : Type 0} (x : X) (a b : List X) → Among x a → Among x (a ++ b)
among_left {X} x (y ∷ a) b (inl is) = inl is
among_left {X} x (y ∷ a) b (inr later) = inr (among_left x a b later)
among_left {X} x [] b none = absurd none

pub among_right : {X : Type 0} (x : X) (a b : List X) → Among x b → Among x (a ++ b)
among_right {X} x [] b h = h
among_right {X} x (y ∷ a) b h = inr (among_right x a b h)

pub among_both : {X : Type 0} (x : X) (a b : List X) → Among x (a ++ b) → Among x a ⊎ Among x b
among_both {X} x [] b h = inr h
among_both {X} x (y ∷ a) b (inl is) = inl (inl is)
among_both {X} x (y ∷ a) b (inr later) =
    elim (among_both x a b later) [
      | inl left ↦ inl (inr left)
      | inr right ↦ inr right
    ]

-- Edges that are events

shown_here : (o : Option EventKind) (clock : ℕ) (rest : List Shown) (kind : EventKind) → o ≡ Some kind
    → Among (record { clock = clock; kind = kind }) (cons_option (shown_at o clock) rest)
shown_here o clock rest kind is =
    subst (λ p. Among (record { clock = clock; kind = kind }) (cons_option (shown_at p clock) rest)) (sym is) (inl refl)

shown_later : (o : Option EventKind) (clock : ℕ) (rest : List Shown) (x : Shown) → Among x rest
    → Among x (cons_option (shown_at o clock) rest)
shown_later None clock rest x h = h
shown_later (Some kind) clock rest x h = inr h

pub edge_shown : (edges : List Edge) (e : Edge) (kind : EventKind) → Among e edges → event_of e.kind ≡ Some kind
    → Among (record { clock = e.clock; kind = kind }) (shown edges)
edge_shown [] e kind none is = absurd none
edge_shown (x ∷ edges) e kind (inl same) is =
    subst (λ (n : ℕ). Among (record { clock = n; kind = kind }) (shown (x ∷ edges))) (ap (λ (y : Edge). y.clock) same)
    (shown_here (event_of x.kind) x.clock (shown edges) kind (ap (λ (y : Edge). event_of y.kind) same ∙ is))
edge_shown (x ∷ edges) e kind (inr later) is = shown_later (event_of x.kind) x.clock (shown edges) _ (edge_shown edges e kind later is)

-- the edge that an event is
pub record IsEventOf (edges : List Edge) (x : Shown) : Type 0 where
  pub edge : Edge
  pub among : Among edge edges
  pub clock : edge.clock ≡ x.clock
  pub kind : event_of edge.kind ≡ Some x.kind

first_or_later : (o : Option EventKind) (clock : ℕ) (rest : List Shown) (x : Shown) → Among x (cons_option (shown_at o clock) rest)
    → ((clock ≡ x.clock) × (o ≡ Some x.kind)) ⊎ Among x rest
first_or_later None clock rest x h = inr h
first_or_later (Some kind) clock rest x (inl is) = inl (ap (λ (y : Shown). y.clock) is, ap (λ (y : Shown). Some y.kind) is)
first_or_later (Some kind) clock rest x (inr later) = inr later

pub event_edge : (edges : List Edge) (x : Shown) → Among x (shown edges) → IsEventOf edges x
event_edge [] x none = absurd none
event_edge (e ∷ edges) x h =
    elim (first_or_later (event_of e.kind) e.clock (shown edges) x h) [
      | inl (at, is) ↦ record { edge = e; among = inl refl; clock = at; kind = is }
      | inr later ↦ (let more = event_edge edges x later in record {
        edge = more.edge;
        among = inr more.among;
        clock = more.clock;
        kind = more.kind;
      })
    ]

-- Events of the schedule

pub scheduled_has : (at : ℕ → Option EventKind) (p clock n i : ℕ) (kind : EventKind) → 1 ≤ i → i ≤ n → at (p + i) ≡ Some kind
    → Among (record { clock = clock + i; kind = kind }) (scheduled at p clock n)
scheduled_has at p clock zero i kind some few is = absurd (omega arith)
scheduled_has at p clock (suc n) zero kind some few is = absurd (omega arith)
scheduled_has at p clock (suc n) (suc zero) kind some few is =
    let place : p + 1 ≡ suc p = omega arith in
    let here : at (suc p) ≡ Some kind = ap at (sym place) ∙ is in
    let when : suc clock ≡ clock + 1 = omega arith in
    among_left _ (listed (shown_at (at (suc p)) (suc clock))) (scheduled at (suc p) (suc clock) n)
    (subst (λ o. Among (record { clock = clock + 1; kind = kind }) (listed (shown_at o (suc clock)))) (sym here)
    (inl (ap (λ (c : ℕ). record { clock = c; kind = kind }) when)))
scheduled_has at p clock (suc n) (suc (suc i)) kind some few is =
    let place : suc p + suc i ≡ p + suc (suc i) = omega arith in
    let when : suc clock + suc i ≡ clock + suc (suc i) = omega arith in
    among_right _ (listed (shown_at (at (suc p)) (suc clock))) (scheduled at (suc p) (suc clock) n)
    (subst (λ (c : ℕ). Among (record { clock = c; kind = kind }) (scheduled at (suc p) (suc clock) n)) when
    (scheduled_has at (suc p) (suc clock) n (suc i) kind (omega arith) (omega arith) (ap at place ∙ is)))

-- the position of an event
pub record StandsAt (at : ℕ → Option EventKind) (p clock n : ℕ) (x : Shown) : Type 0 where
  pub steps : ℕ
  pub some : 1 ≤ steps
  pub few : steps ≤ n
  pub clock_is : x.clock ≡ clock + steps
  pub event : at (p + steps) ≡ Some x.kind

one_listed : (o : Option EventKind) (clock : ℕ) (x : Shown) → Among x (listed (shown_at o clock)) → (clock ≡ x.clock) × (o ≡ Some x.kind)
one_listed None clock x none = absurd none
one_listed (Some kind) clock x (inl is) = (ap (λ (y : Shown). y.clock) is, ap (λ (y : Shown). Some y.kind) is)
one_listed (Some kind) clock x (inr none) = absurd none

pub scheduled_stands : (at : ℕ → Option EventKind) (p clock n : ℕ) (x : Shown) → Among x (scheduled at p clock n) → StandsAt at p clock n x
scheduled_stands at p clock zero x none = absurd none
scheduled_stands at p clock (suc n) x h =
    elim (among_both x (listed (shown_at (at (suc p)) (suc clock))) (scheduled at (suc p) (suc clock) n) h) [
      | inl here ↦
          let one = one_listed (at (suc p)) (suc clock) x here in
          record {
            steps = 1;
            some = omega arith;
            few = omega arith;
            clock_is = sym one.0 ∙ omega arith;
            event = ap at (omega arith)
                ∙ one.1;
          }
      | inr later ↦
          let more = scheduled_stands at (suc p) (suc clock) n x later in
          record {
            steps = suc more.steps;
            some = omega arith;
            few = (let g = more.few in omega arith);
            clock_is = more.clock_is
                ∙ omega arith;
            event = ap at (omega arith) ∙ more.event;
          }
    ]

-- After a clock

kept_after : (limit clock : ℕ) (edges : List Edge) (e : Edge) (b : Bool) → nat_lt clock e.clock ≡ false → edges_after clock edges ≡ []
    → edges_after clock (cond b (e ∷ edges) edges) ≡ []
kept_after limit clock edges e true not_after none = ap (λ t. cond t (e ∷ edges_after clock edges) (edges_after clock edges)) not_after
    ∙ none
kept_after limit clock edges e false not_after none = none

-- no edge up to a clock is after it
pub none_after : (limit clock from to : ℕ) (edges : List Edge) → AreTimed from to edges → to ≤ clock → edges_after clock
    (edges_until limit edges) ≡ []
none_after limit clock from to [] t before = refl
none_after limit clock from to (e ∷ edges) t before =
    let here : e.clock ≤ to = timed_ends e.clock to edges t.1 in
    kept_after limit clock (edges_until limit edges) e (leb e.clock limit) (le-ltb clock e.clock (omega arith))
    (none_after limit clock e.clock to edges t.1 before)

-- The events at the clocks that a test takes

cut_one : (e : Edge) (es : List Edge) (b : Bool) → shown (cond b (e ∷ es) es) ≡ cond b
    (cons_option (shown_at (event_of e.kind) e.clock) (shown es)) (shown es)
cut_one e es true = refl
cut_one e es false = refl

one_shown : (test : ℕ → Bool) (clock : ℕ) (o : Option EventKind) (rest : List Shown) (b : Bool) → test clock ≡ b
    → filter (λ x. test x.clock) (cons_option (shown_at o clock) rest) ≡ cond b (cons_option (shown_at o clock)
    (filter (λ x. test x.clock) rest)) (filter (λ x. test x.clock) rest)
one_shown test clock None rest true e = refl
one_shown test clock (Some kind) rest true e = rw e refl
one_shown test clock (Some kind) rest false e = rw e refl
one_shown test clock o rest b e = refl

pub shown_filtered : (test : ℕ → Bool) (edges : List Edge) → shown (filter (λ e. test e.clock) edges)
    ≡ filter (λ x. test x.clock) (shown edges)
shown_filtered test [] = refl
shown_filtered test (e ∷ es) =
    cut_one e (filter (λ e. test e.clock) es) (test e.clock)
    ∙ (ap (λ rest. cond (test e.clock) (cons_option (shown_at (event_of e.kind) e.clock) rest) rest) (shown_filtered test es)
    ∙ sym (one_shown test e.clock (event_of e.kind) (shown es) (test e.clock) refl))

abbrev events_after : ℕ → List Shown → List Shown
events_after clock events = filter (λ x. nat_lt clock x.clock) events

-- the events of a stretch are after its clock
stretch_after : (at : ℕ → Option EventKind) (p clock n from : ℕ) → from ≤ clock → events_after from (scheduled at p clock n) ≡ scheduled at
    p clock n
stretch_after at p clock zero from before = refl
stretch_after at p clock (suc n) from before = by_event (at (suc p)) (stretch_after at (suc p) (suc clock) n from (omega arith))
  where
    by_event : (o : Option EventKind) → events_after from (scheduled at (suc p) (suc clock) n) ≡ scheduled at (suc p) (suc clock) n →
        events_after from (listed (shown_at o (suc clock)) ++ scheduled at (suc p) (suc clock) n) ≡ listed (shown_at o (suc clock))
        ++ scheduled at (suc p) (suc clock) n
    by_event None same = same
    by_event (Some kind) same =
        ap (λ t. cond t (record { clock = suc clock; kind = kind } ∷ events_after from (scheduled at (suc p) (suc clock) n))
        (events_after from (scheduled at (suc p) (suc clock) n))) (lt-ltb from (suc clock) (omega (arith, before)))
        ∙ ap (λ xs. record { clock = suc clock; kind = kind } ∷ xs) same

pub stretch_is_after : (at : ℕ → Option EventKind) (p clock n : ℕ) (edges : List Edge) → shown edges ≡ scheduled at p clock n
    → shown (edges_after clock edges) ≡ scheduled at p clock n
stretch_is_after at p clock n edges same =
    shown_filtered (nat_lt clock) edges ∙ (ap (events_after clock) same ∙ stretch_after at p clock n clock (omega arith))
