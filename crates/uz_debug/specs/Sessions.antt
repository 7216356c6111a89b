-- What a debugger does: its state, and what each command does to it.
--
-- The state is a turn number, a set of breakpoints and numbered slots that each keep a turn number. What the console is at
-- a turn isn't part of it: a run from reset says so.
use Rattle.std.specs.Prelude.{◌≡◌, ℕ, ◌+◌, ◌-◌, ◌<◌, ◌≤◌, ◌||◌, nat_le, nat_lt, List, [], ◌∷◌, Option, Some, None, ◌⊎◌, IsTrue, MatchBool}
use Rattle.std.specs.Ordering.{nat_cmp}
use Rattle.std.specs.FinSet as set
use Rattle.std.specs.FinMap as map
use Rattle.uz_hex.specs.Cells.{word_of}
use Rattle.uz_core.specs.declared.machine.Edge.{Edge}
use Rattle.uz_core.specs.PadLine.{PadHistory}
use Rattle.uz_core.specs.Turn.{State}
use Rattle.uz_core.specs.Run.{MachineTurn, Run, HasNoTurn}
use Rattle.uz_debug.specs.declared.command.Command.{Command}
use Rattle.uz_debug.specs.declared.command.Command.TheVariants as command
use Rattle.uz_debug.specs.declared.command.Reply.{Reply}
use Rattle.uz_debug.specs.declared.command.Reply.TheVariants as reply
use Rattle.uz_debug.specs.declared.command.DebugWhy.{DebugWhy}
use Rattle.uz_debug.specs.declared.command.DebugWhy.TheVariants.{Limit, Far, Breaks, Unset}

-- the state of the machine after so many turns from a start
abbrev pub IsAfter : State PadHistory → ℕ → State PadHistory → Type 0
IsAfter start turn s = (edges : List Edge) × Run MachineTurn turn start edges s

-- The debugger's state: the turn where it is, at most 64 breakpoints, and the turns that slots 0 to 9 keep
pub record Session : Type 0 where
  pub turn : ℕ
  pub breakpoints : set.FinSet nat_cmp
  pub slots : map.FinMap nat_cmp ℕ

abbrev pub session_at_reset : Session
session_at_reset = record { turn = 0; breakpoints = set.empty; slots = map.empty }

-- the greatest turn number
abbrev pub last_turn : ℕ
last_turn = 100000000

-- Commands within their ranges
abbrev pub IsInRange : Command → Type 0
IsInRange (command.Step count) = (1 ≤ count) × (count ≤ 100000000)
IsInRange (command.Run count) = (1 ≤ count) × (count ≤ 100000000)
IsInRange (command.Back count) = (1 ≤ count) × (count ≤ 100000000)
IsInRange (command.Break pc) = pc < 32768
IsInRange (command.Clear pc) = pc < 32768
IsInRange (command.Save slot) = slot < 10
IsInRange (command.Load slot) = slot < 10
IsInRange command.Show = Unit {0}
IsInRange (command.Mem at count) = (1 ≤ count) × (count ≤ 16)

-- Where a run ends that begins at a turn and goes so many turns on, with these breakpoints heeded

-- the pc at a turn is a breakpoint
abbrev pub IsBreak : State PadHistory → set.FinSet nat_cmp → ℕ → Type 0
IsBreak start stops turn = (s : State PadHistory) × IsAfter start turn s × IsTrue (set.contains stops s.core.pc)

-- no turn goes on from a turn
abbrev pub IsStuck : State PadHistory → ℕ → Type 0
IsStuck start turn = (s : State PadHistory) × IsAfter start turn s × HasNoTurn s

-- the run's length is made, or a breakpoint stands at a turn behind the one where it begins
abbrev pub IsArrived : State PadHistory → set.FinSet nat_cmp → ℕ → ℕ → ℕ → Type 0
IsArrived start stops from count turn = (turn ≡ from + count) ⊎ ((from < turn) × IsBreak start stops turn)

-- the first turn, from where the run begins on, at which it has arrived or is stuck
pub record IsEnd (start : State PadHistory) (stops : set.FinSet nat_cmp) (from count turn : ℕ) : Type 0 where
  pub onward : from ≤ turn
  pub ends : IsArrived start stops from count turn ⊎ IsStuck start turn
  pub first : (k : ℕ) → from ≤ k → k < turn → IsArrived start stops from count k ⊎ IsStuck start k → ⊥

-- Replies

-- where the debugger is
abbrev pub TellsPlace : State PadHistory → ℕ → Reply → Type 0
TellsPlace start at (reply.At turn clock pc) = (turn ≡ at) × (s : State PadHistory) × IsAfter start at s × (clock ≡ s.clock)
    × (pc ≡ s.core.pc)
TellsPlace start at answer = ⊥

-- where it is, and that no turn goes on from there
abbrev pub TellsStop : State PadHistory → ℕ → Reply → Type 0
TellsStop start at (reply.Stopped turn pc word) =
    (turn ≡ at) × (s : State PadHistory) × IsAfter start at s × HasNoTurn s × (pc ≡ s.core.pc) × (word ≡ word_of s.image s.core.pc)
TellsStop start at answer = ⊥

-- a run's reply: At where it has arrived, and Stopped where it is only stuck
abbrev pub TellsEnd : State PadHistory → set.FinSet nat_cmp → ℕ → ℕ → ℕ → Reply → Type 0
TellsEnd start stops from count turn answer =
    (IsArrived start stops from count turn × TellsPlace start turn answer) ⊎
    ((IsArrived start stops from count turn → ⊥) × TellsStop start turn answer)

-- What commands do

abbrev pub IsRefused : DebugWhy → Session → Reply → Session → Type 0
IsRefused why old answer new = (answer ≡ reply.Refused why) × (new ≡ old)

abbrev pub Does : Reply → Session → Reply → Session → Type 0
Does done after answer new = (answer ≡ done) × (new ≡ after)

-- the turn alone changes
abbrev pub at_turn : ℕ → Session → Session
at_turn turn session = record session { turn = turn }

abbrev pub Runs : State PadHistory → set.FinSet nat_cmp → ℕ → Session → Reply → Session → Type 0
Runs start stops count old answer new =
    (turn : ℕ) × IsEnd start stops old.turn count turn × TellsEnd start stops old.turn count turn answer × (new ≡ at_turn turn old)

abbrev pub GoesTo : State PadHistory → ℕ → Session → Reply → Session → Type 0
GoesTo start turn old answer new = TellsPlace start turn answer × (new ≡ at_turn turn old)

-- to the turn that a slot keeps
abbrev pub GoesToSlot : State PadHistory → Option ℕ → Session → Reply → Session → Type 0
GoesToSlot start (Some turn) old answer new = GoesTo start turn old answer new
GoesToSlot start None old answer new = IsRefused Unset old answer new

-- one command, from a state of the debugger to the next
abbrev pub Acts : State PadHistory → Session → Command → Reply → Session → Type 0
Acts start old (command.Step count) answer new =
    MatchBool (nat_le (old.turn + count) last_turn) (Runs start set.empty count old answer new) (IsRefused Limit old answer new)
Acts start old (command.Run count) answer new =
    MatchBool (nat_le (old.turn + count) last_turn) (Runs start old.breakpoints count old answer new) (IsRefused Limit old answer new)
Acts start old (command.Back count) answer new =
    MatchBool (nat_le count old.turn) (GoesTo start (old.turn - count) old answer new) (IsRefused Far old answer new)
Acts start old (command.Break pc) answer new =
    MatchBool (set.contains old.breakpoints pc || nat_lt (set.len old.breakpoints) 64)
    (Does reply.Fine (record old { breakpoints = set.insert old.breakpoints pc }) answer new) (IsRefused Breaks old answer new)
Acts start old (command.Clear pc) answer new =
    MatchBool (set.contains old.breakpoints pc)
    (Does reply.Fine (record old { breakpoints = set.remove old.breakpoints pc }) answer new) (IsRefused Unset old answer new)
Acts start old (command.Save slot) answer new = Does reply.Fine (record old { slots = map.insert old.slots slot old.turn }) answer new
Acts start old (command.Load slot) answer new = GoesToSlot start (map.get old.slots slot) old answer new
Acts start old command.Show answer new = Does reply.Shown old answer new
Acts start old (command.Mem at count) answer new = Does reply.Shown old answer new

-- many commands, each with its reply
abbrev pub ActsInTurn : State PadHistory → Session → List (Command × Reply) → Session → Type 0
ActsInTurn start old [] new = new ≡ old
ActsInTurn start old (act ∷ acts) new = (mid : Session) × Acts start old act.0 act.1 mid × ActsInTurn start mid acts new
