-- Plain fields stand for what their play stands for, and a play that is made of them for the same.
use Rattle.std.proofs.Common.{◌≡◌, ℕ, ◌≤◌, Bool, true, false, List, [], ◌∷◌, drop, take, length, min, nat_le, refl, sym, ◌∙◌, ap, subst, arith}
use Rattle.std.proofs.lemmas.Bool.Decides.{nat_tests}
use Rattle.std.proofs.lemmas.List.{drop_all}
use Rattle.std.specs.Prelude.{slice_index_or}
use Rattle.std.specs.Ordering.{nat_cmp}
use Rattle.std.specs.FinMap.{FinMap}
use Rattle.uz_core.specs.Core.{Core}
use Rattle.uz_core.specs.declared.machine.Edge.{Edge}
use Rattle.uz_core.specs.PadLine.{PadHistory}
use Rattle.uz_core.specs.Turn as machine
use Rattle.uz_pads.specs.declared.pads.Pads.{Pads}
use Rattle.uz_pads.specs.Pads.{list_of, pad_state_of}
use Rattle.uz_ports.specs.declared.board.Board.{Board}
use Rattle.uz_ports.specs.Boards as board
use Rattle.uz_console.specs.Consoles.{StateStandsFor, state_of}
use Rattle.uz_console.specs.Runs.{AreTimed}
use Rattle.uz_scan.specs.ScanStates.{HasSeen}
use Rattle.uz_scan.specs.Scanning as scanning
use Rattle.uz_scan.specs.declared.states.ScanState.{ScanState}
use Rattle.uz_player.specs.declared.play.Play.{Play}
use Rattle.uz_player.specs.declared.state.EdgeState.{EdgeState}
use Rattle.uz_player.specs.declared.state.PictureState.{PictureState}
use Rattle.uz_player.specs.declared.state.State.{State}
use Rattle.uz_player.specs.Frames.{IsAt, clock_of, left_of}
use Rattle.uz_player.specs.StateParts.{BoardStands, default_edge}
use Rattle.uz_player.specs.States.{StandsFor, core_in, edge_in, edges_in, flag, left_in, no_edge, pad_in, pads_in, picture_in, remembering, response_in, timer_in}

timed_again : (a b c d : ℕ) (xs ys : List Edge) → b ≡ a → d ≡ c → ys ≡ xs → AreTimed a c xs → AreTimed b d ys
timed_again a b c d xs ys e f g h = subst (λ n. AreTimed n d ys) (sym e) (subst (λ n. AreTimed a n ys) (sym f)
    (subst (λ es. AreTimed a c es) (sym g) h))

pub seen_in : (p : PictureState) (s : ScanState) (edges : List Edge) → s ≡ picture_in p → HasSeen (picture_in p) edges → HasSeen s edges
seen_in p s edges e h = subst (λ x. HasSeen x edges) (sym e) h

pub seen_of : (p : PictureState) (s : ScanState) (edges : List Edge) → picture_in p ≡ s → HasSeen s edges → HasSeen (picture_in p) edges
seen_of p s edges e h = subst (λ x. HasSeen x edges) (sym e) h

-- a console's state over a board that was made of plain fields
abbrev made : FinMap nat_cmp ℕ → State → Board → machine.State Pads
made image state b = record {
  image = image;
  core = core_in state.core;
  space = board.space_of b;
  response = response_in state.response;
  is_owed = flag state.core.owed;
  clock = board.clock_of b;
}

made_stands : (image : FinMap nat_cmp ℕ) (state : State) (b : Board) → BoardStands state b → (s : machine.State PadHistory)
    (seen : List Edge) → StandsFor state s seen → image ≡ s.image
    → StateStandsFor (made image state b) (remembering (pads_in state.pads) s)
made_stands image state b made s seen h same = record {
  image = sym same;
  core = h.core.0;
  bytes = h.bytes ∙ sym made.bytes;
  timer = h.timer ∙ sym made.timer;
  pads = made.pads s.space.pads h.pads;
  response = h.clocks.1;
  is_owed = h.core.1;
  clock = h.clocks.0 ∙ sym made.clock;
}

pub made_at : (image : FinMap nat_cmp ℕ) (state : State) (b : Board) (play : Play) → BoardStands state b
    → state_of play.console ≡ made image state b
    → ((edges : List Edge) → HasSeen (picture_in state.picture) edges → scanning.StandsFor play.scanner edges)
    → scanning.clock_of play.scanner ≡ state.picture.clock → left_of play ≡ left_in state
    → (s : machine.State PadHistory) (seen : List Edge) → StandsFor state s seen → image ≡ s.image
    → IsAt play (remembering (pads_in state.pads) s) seen
made_at image state b play made_of is scanned at left s seen h same =
    let clock : clock_of play ≡ state.clock = ap (λ (t : machine.State Pads). t.clock) is ∙ made_of.clock in
    record {
      stands = subst (λ (t : machine.State Pads). StateStandsFor t (remembering (pads_in state.pads) s)) (sym is)
          (made_stands image state b made_of s seen h same);
      picture = scanned seen h.picture;
      timed = timed_again state.picture.clock (scanning.clock_of play.scanner) state.clock (clock_of play) (left_in state) (left_of play)
          at clock left h.timed;
    }

pub made_again : (image : FinMap nat_cmp ℕ) (state : State) (b : Board) (core : Core) (response : ℕ) → core ≡ core_in state.core
    → response ≡ response_in state.response →
    (let t : machine.State Pads = record {
      image = image;
      core = core;
      space = board.space_of b;
      response = response;
      is_owed = flag state.core.owed;
      clock = board.clock_of b;
    } in t) ≡ made image state b
made_again image state b core response e f =
    let by : Core → ℕ → machine.State Pads = λ k n. record {
      image = image;
      core = k;
      space = board.space_of b;
      response = n;
      is_owed = flag state.core.owed;
      clock = board.clock_of b;
    } in
    ap (λ k. by k response) e ∙ ap (λ n. by (core_in state.core) n) f

-- the fields are a play's
pub record IsOf (state : State) (play : Play) : Type 0 where
  pub core : core_in state.core ≡ (state_of play.console).core
  pub owed : flag state.core.owed ≡ (state_of play.console).is_owed
  pub bytes : state.bytes ≡ (state_of play.console).space.bytes
  pub timer : timer_in state.timer ≡ (state_of play.console).space.timer
  pub pads : (pad_in state.pads ≡ (pad_state_of (state_of play.console).space.pads).current)
      × (state.pads.level ≡ (pad_state_of (state_of play.console).space.pads).level)
      × (state.pads.moves ≡ (pad_state_of (state_of play.console).space.pads).moves)
  pub clocks : (state.clock ≡ clock_of play) × (response_in state.response ≡ (state_of play.console).response)
  pub picture : ((edges : List Edge) → scanning.StandsFor play.scanner edges → HasSeen (picture_in state.picture) edges)
      × (state.picture.clock ≡ scanning.clock_of play.scanner)
  pub left : left_in state ≡ left_of play

pub fields_stand : (state : State) (play : Play) → IsOf state play → (s : machine.State PadHistory) (seen : List Edge) → IsAt play s seen
    → StandsFor state s seen
fields_stand state play is s seen at =
    let pads = (state_of play.console).space.pads in
    record {
      core = ((at.stands).core ∙ sym is.core, (at.stands).is_owed ∙ sym is.owed);
      bytes = (at.stands).bytes ∙ sym is.bytes;
      timer = (at.stands).timer ∙ sym is.timer;
      pads = record {
        list = list_of pads;
        next = (pad_state_of pads).next;
        stands = record {
          pairs = (at.stands).pads.pairs;
          begun = (at.stands).pads.begun;
          level = is.pads.1 ∙ (at.stands).pads.level;
          next = (at.stands).pads.next;
          current = is.pads.0 ∙ (at.stands).pads.current;
          moves = is.pads.2 ∙ (at.stands).pads.moves;
        };
      };
      clocks = ((at.stands).clock ∙ sym is.clocks.0, (at.stands).response ∙ sym is.clocks.1);
      picture = is.picture.0 seen at.picture;
      timed = timed_again (scanning.clock_of play.scanner) state.picture.clock (clock_of play) state.clock (left_of play) (left_in state)
          is.picture.1 is.clocks.0 is.left at.timed;
    }

-- Edges that were seen

pub seen_or_all : {A : Type 0} → (n : ℕ) (xs : List A) → length xs ≤ 4 → drop (min n 4) xs ≡ drop n xs
seen_or_all n xs few = by_test (nat_le n 4) refl
  where
    within : (n : ℕ) → nat_le n 4 ≡ true → min n 4 ≡ n
    within n e = grind (arith, nat_tests)

    past : (n len : ℕ) → nat_le n 4 ≡ false → len ≤ 4 → (len ≤ min n 4) × (len ≤ n)
    past n len e h = (one n len e h, two n len e h)
      where
        one : (n len : ℕ) → nat_le n 4 ≡ false → len ≤ 4 → len ≤ min n 4
        one n len e h = grind (arith, nat_tests)

        two : (n len : ℕ) → nat_le n 4 ≡ false → len ≤ 4 → len ≤ n
        two n len e h = grind (arith, nat_tests)

    by_test : (b : Bool) → nat_le n 4 ≡ b → drop (min n 4) xs ≡ drop n xs
    by_test true e = ap (λ k. drop k xs) (within n e)
    by_test false e = let p = past n (length xs) e few in drop_all (min n 4) xs p.0 ∙ sym (drop_all n xs p.1)

pub left_again : (state : State) (play : Play) → edges_in state ≡ play.edges.items → state.edges_seen ≡ min play.next 4
    → length play.edges.items ≤ 4 → left_in state ≡ left_of play
left_again state play edges seen few =
    ap (λ es. drop state.edges_seen es) edges ∙ (ap (λ k. drop k play.edges.items) seen ∙ seen_or_all play.next play.edges.items few)

-- Edges as plain fields

too_many : (a b c e f : Edge) (more : List Edge) → length (a ∷ b ∷ c ∷ e ∷ f ∷ more) ≤ 4 → ⊥
too_many a b c e f more h = omega arith

all_of : (xs : List Edge) → length xs ≤ 4 →
    take (length xs) (slice_index_or xs 0 default_edge ∷ slice_index_or xs 1 default_edge ∷ slice_index_or xs 2 default_edge
    ∷ slice_index_or xs 3 default_edge ∷ []) ≡ xs
all_of [] h = refl
all_of (a ∷ []) h = refl
all_of (a ∷ b ∷ []) h = refl
all_of (a ∷ b ∷ c ∷ []) h = refl
all_of (a ∷ b ∷ c ∷ e ∷ []) h = refl
all_of (a ∷ b ∷ c ∷ e ∷ f ∷ more) h = absurd (too_many a b c e f more h)

pub four_edges : (state : State) (a b c e : EdgeState) (xs items : List Edge) → xs ≡ items → length xs ≤ 4
    → edge_in a ≡ slice_index_or xs 0 default_edge → edge_in b ≡ slice_index_or xs 1 default_edge
    → edge_in c ≡ slice_index_or xs 2 default_edge → edge_in e ≡ slice_index_or xs 3 default_edge
    → state.edges ≡ a ∷ b ∷ c ∷ e ∷ [] → state.edge_count ≡ length items → edges_in state ≡ items
four_edges state a b c e xs items same few one two three four are count =
    let n = state.edge_count in
    let first : Edge → Edge → Edge → Edge → List Edge = λ p q r s. p ∷ q ∷ r ∷ s ∷ [] in
    ap (λ es. take n (first (edge_in (slice_index_or es 0 no_edge)) (edge_in (slice_index_or es 1 no_edge))
    (edge_in (slice_index_or es 2 no_edge)) (edge_in (slice_index_or es 3 no_edge)))) are ∙
    (ap (λ x. take n (first x (edge_in b) (edge_in c) (edge_in e))) one ∙
    (ap (λ x. take n (first (slice_index_or xs 0 default_edge) x (edge_in c) (edge_in e))) two ∙
    (ap (λ x. take n (first (slice_index_or xs 0 default_edge) (slice_index_or xs 1 default_edge) x (edge_in e))) three ∙
    (ap (λ x. take n (first (slice_index_or xs 0 default_edge) (slice_index_or xs 1 default_edge) (slice_index_or xs 2 default_edge) x)) four ∙
    (ap (λ k. take k (first (slice_index_or xs 0 default_edge) (slice_index_or xs 1 default_edge) (slice_index_or xs 2 default_edge)
    (slice_index_or xs 3 default_edge))) (count ∙ ap (λ (ys : List Edge). length ys) (sym same)) ∙
    (all_of xs few ∙ same))))))
