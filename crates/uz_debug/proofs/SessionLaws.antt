-- A command has one reply and leads to one state of the debugger.
use Rattle.std.proofs.Common.{◌≡◌, ℕ, ◌+◌, ◌-◌, nat_le, List, [], ◌∷◌, ◌++◌, Bool, true, false, inl, inr, sym, ◌∙◌, ap}
use Rattle.std.proofs.Common.{subst, arith}
use Rattle.std.proofs.lemmas.Bool.{cases_lt}
use Rattle.std.specs.Prelude.{Option, Some, None, MatchBool}
use Rattle.std.specs.Ordering.{nat_cmp}
use Rattle.std.specs.FinSet as set
use Rattle.std.specs.FinMap as map
use Rattle.uz_hex.specs.Cells.{word_of}
use Rattle.uz_core.specs.PadLine.{PadHistory}
use Rattle.uz_core.specs.Space.{history_wiring}
use Rattle.uz_core.specs.Turn.{State, state_byte}
use Rattle.uz_debug.specs.declared.command.Command.{Command}
use Rattle.uz_debug.specs.declared.command.Command.TheVariants as command
use Rattle.uz_debug.specs.declared.command.DebugWhy.{DebugWhy}
use Rattle.uz_debug.specs.declared.command.Reply.{Reply}
use Rattle.uz_debug.specs.declared.command.Reply.TheVariants as reply
use Rattle.uz_debug.specs.Sessions.{Session, IsEnd, TellsPlace, TellsStop, TellsEnd, IsRefused, Does, Runs, GoesTo, GoesToSlot, Acts}
use Rattle.uz_debug.specs.Sessions.{at_turn, last_turn}
use Rattle.uz_debug.specs.SessionText.{IsLineOf, Prints, shown_text}
use Rattle.uz_debug.proofs.RunLemmas.{one_state}

place_same : (start : State PadHistory) (at : ℕ) (x y : Reply) → TellsPlace start at x → TellsPlace start at y → x ≡ y
place_same start at (reply.At t c p) (reply.At u d q) (a, s, here, clock, pc) (b, r, there, time, place) =
    let same : s ≡ r = one_state start at s r here there in
    let clocks : c ≡ d = clock ∙ (ap (λ (z : State PadHistory). z.clock) same ∙ sym time) in
    let pcs : p ≡ q = pc ∙ (ap (λ (z : State PadHistory). z.core.pc) same ∙ sym place) in
    ap (λ n. reply.At n c p) (a ∙ sym b) ∙ (ap (λ n. reply.At u n p) clocks ∙ ap (λ n. reply.At u d n) pcs)
place_same start at (reply.At t c p) y a b = absurd b
place_same start at x y a b = absurd a

stop_same : (start : State PadHistory) (at : ℕ) (x y : Reply) → TellsStop start at x → TellsStop start at y → x ≡ y
stop_same start at (reply.Stopped t p w) (reply.Stopped u q v) (a, s, here, stuck, pc, word) (b, r, there, stuck', place, code) =
    let same : s ≡ r = one_state start at s r here there in
    let pcs : p ≡ q = pc ∙ (ap (λ (z : State PadHistory). z.core.pc) same ∙ sym place) in
    let words : w ≡ v = word ∙ (ap (λ (z : State PadHistory). word_of z.image z.core.pc) same ∙ sym code) in
    ap (λ n. reply.Stopped n p w) (a ∙ sym b) ∙ (ap (λ n. reply.Stopped u n w) pcs ∙ ap (λ n. reply.Stopped u q n) words)
stop_same start at (reply.Stopped t p w) y a b = absurd b
stop_same start at x y a b = absurd a

end_same : (start : State PadHistory) (stops : set.FinSet nat_cmp) (from count t u : ℕ) → IsEnd start stops from count t → IsEnd start stops
    from count u → t ≡ u
end_same start stops from count t u a b = elim (cases_lt t u) [
  | inl below ↦ absurd (b.first t a.onward below a.ends)
  | inr on ↦ elim (cases_lt u t) [ inl below ↦ absurd (a.first u b.onward below b.ends) | inr same ↦ omega arith ]
]

tells_same : (start : State PadHistory) (stops : set.FinSet nat_cmp) (from count at : ℕ) (x y : Reply) → TellsEnd start stops from count at
    x → TellsEnd start stops from count at y → x ≡ y
tells_same start stops from count at x y (inl a) (inl b) = place_same start at x y a.1 b.1
tells_same start stops from count at x y (inl a) (inr b) = absurd (b.0 a.0)
tells_same start stops from count at x y (inr a) (inl b) = absurd (a.0 b.0)
tells_same start stops from count at x y (inr a) (inr b) = stop_same start at x y a.1 b.1

abbrev Same : Reply → Reply → Session → Session → Type 0
Same x y a b = (x ≡ y) × (a ≡ b)

both_match : (b : Bool) (P Q P' Q' R : Type 0) → (P → P' → R) → (Q → Q' → R) → MatchBool b P Q → MatchBool b P' Q' → R
both_match true P Q P' Q' R f g p q = f p q
both_match false P Q P' Q' R f g p q = g p q

runs_same : (start : State PadHistory) (stops : set.FinSet nat_cmp) (count : ℕ) (old a b : Session) (x y : Reply) → Runs start stops count
    old x a → Runs start stops count old y b → Same x y a b
runs_same start stops count old a b x y (t, end, tells, is) (u, end', tells', is') =
    let turns : t ≡ u = end_same start stops old.turn count t u end end' in (
      tells_same start stops old.turn count u x y (subst (λ n. TellsEnd start stops old.turn count n x) turns tells) tells',
      is
          ∙ (ap (λ n. at_turn n old) turns ∙ sym is'),
    )

goes_same : (start : State PadHistory) (turn : ℕ) (old a b : Session) (x y : Reply) → GoesTo start turn old x a → GoesTo start turn old y b
    → Same x y a b
goes_same start turn old a b x y p q = (place_same start turn x y p.0 q.0, p.1 ∙ sym q.1)

refused_same : (why : DebugWhy) (old a b : Session) (x y : Reply) → IsRefused why old x a → IsRefused why old y b → Same x y a b
refused_same why old a b x y p q = (p.0 ∙ sym q.0, p.1 ∙ sym q.1)

does_same : (done : Reply) (after a b : Session) (x y : Reply) → Does done after x a → Does done after y b → Same x y a b
does_same done after a b x y p q = (p.0 ∙ sym q.0, p.1 ∙ sym q.1)

slot_same : (start : State PadHistory) (slot : Option ℕ) (old a b : Session) (x y : Reply) → GoesToSlot start slot old x a
    → GoesToSlot start slot old y b → Same x y a b
slot_same start (Some turn) old a b x y p q = goes_same start turn old a b x y p q
slot_same start None old a b x y p q = (p.0 ∙ sym q.0, p.1 ∙ sym q.1)

pub acts_same : (start : State PadHistory) (old a b : Session) (c : Command) (x y : Reply) → Acts start old c x a → Acts start old c y b
    → Same x y a b
acts_same start old a b (command.Step count) x y p q =
    both_match (nat_le (old.turn + count) last_turn) _ _ _ _ _ (runs_same start set.empty count old a b x y) (refused_same _ old a b x y) p
    q
acts_same start old a b (command.Run count) x y p q =
    both_match (nat_le (old.turn + count) last_turn) _ _ _ _ _ (runs_same start old.breakpoints count old a b x y)
    (refused_same _ old a b x y) p q
acts_same start old a b (command.Back count) x y p q =
    both_match (nat_le count old.turn) _ _ _ _ _ (goes_same start (old.turn - count) old a b x y) (refused_same _ old a b x y) p q
acts_same start old a b (command.Break pc) x y p q = both_match _ _ _ _ _ _ (does_same _ _ a b x y) (refused_same _ old a b x y) p q
acts_same start old a b (command.Clear pc) x y p q = both_match _ _ _ _ _ _ (does_same _ _ a b x y) (refused_same _ old a b x y) p q
acts_same start old a b (command.Save slot) x y p q = (p.0 ∙ sym q.0, p.1 ∙ sym q.1)
acts_same start old a b (command.Load slot) x y p q = slot_same start (map.get old.slots slot) old a b x y p q
acts_same start old a b command.Show x y p q = (p.0 ∙ sym q.0, p.1 ∙ sym q.1)
acts_same start old a b (command.Mem at count) x y p q = (p.0 ∙ sym q.0, p.1 ∙ sym q.1)

-- The lines of commands are one text

line_same : (start : State PadHistory) (turn : ℕ) (c : Command) (answer : Reply) (x y : List ℕ) → IsLineOf start turn c answer x
    → IsLineOf start turn c answer y → x ≡ y
line_same start turn c (reply.At t k p) x y a b = a ∙ sym b
line_same start turn c (reply.Stopped t p w) x y a b = a ∙ sym b
line_same start turn c reply.Fine x y a b = a ∙ sym b
line_same start turn c reply.Shown x y (s, here, is) (r, there, are) =
    let same : s ≡ r = one_state start turn s r here there in
    is ∙ (ap (λ (z : State PadHistory). shown_text c turn z.clock z.core.pc (state_byte history_wiring z)) same ∙ sym are)
line_same start turn c (reply.Refused why) x y a b = a ∙ sym b

pub prints_same : (start : State PadHistory) (old : Session) (cs : List Command) (x y : List ℕ) (m n : Session) → Prints start old cs x m
    → Prints start old cs y n → (x ≡ y) × (m ≡ n)
prints_same start old [] x y m n p q = (p.0 ∙ sym q.0, p.1 ∙ sym q.1)
prints_same start old (c ∷ cs) x y m n (answer, mid, line, rest, acts, is, prints, cut) (
  answer',
  mid',
  line',
  rest',
  acts',
  is',
  prints',
  cut',
) =
    let same = acts_same start old mid mid' c answer answer' acts acts' in
    let moved : IsLineOf start mid'.turn c answer' line = subst (λ (z : Session). IsLineOf start z.turn c answer' line) same.1
    (subst (λ r. IsLineOf start mid.turn c r line) same.0 is) in
    let lines : line ≡ line' = line_same start mid'.turn c answer' line line' moved is' in
    let more = prints_same start mid' cs rest rest' m n (subst (λ z. Prints start z cs rest m) same.1 prints) prints' in
    (cut ∙ (ap (λ l. l ++ rest) lines ∙ (ap (λ r. line' ++ r) more.0 ∙ sym cut')), more.1)
