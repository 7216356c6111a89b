-- The lines of the sample console, examples/console.asm, cut at the three numbers and the wait that differ from one demo to another.
use Rattle.std.specs.Prelude.{ℕ, List, [], ◌∷◌, ◌++◌, codes}
use Prim.Native.Char.{code}

-- each line with an LF (10) after it
unfoldable pub ended : List (List ℕ) → List ℕ
ended [] = []
ended (l ∷ ls) = l ++ (code "\n" ∷ ended ls)

-- names of RAM bytes
abbrev pub names : List (List ℕ)
names =
    codes ".equ line = 0x100"
    ∷ codes ".equ tone = 0x101"
    ∷ codes ".equ pad = 0x102"
    ∷ []

-- the other hints, and the vectors of reset and of timer 1
abbrev pub hints : List (List ℕ)
hints =
    codes ".stack 0x10C0, 0x10FF, 8, 16"
    ∷ codes ".cell line, handler, 0, 38, 0"
    ∷ codes ".start main, loop"
    ∷ codes ".org 0"
    ∷ codes "  jmp reset"
    ∷ codes ".org 0x34"
    ∷ codes "  jmp handler"
    ∷ []

-- reset: the stack, the ports, and timer 1 with a match every scanline
abbrev pub reset : List (List ℕ)
reset =
    codes "reset: ldi r16,16"
    ∷ codes "  out SPH,r16"
    ∷ codes "  ldi r16,255"
    ∷ codes "  out SPL,r16"
    ∷ codes "  out DDRC,r16"
    ∷ codes "  ldi r16,1"
    ∷ codes "  out DDRB,r16"
    ∷ codes "  out PORTB,r16"
    ∷ codes "  ldi r16,12"
    ∷ codes "  out DDRA,r16"
    ∷ codes "  ldi r16,7"
    ∷ codes "  sts OCR1AH,r16"
    ∷ codes "  ldi r16,27"
    ∷ codes "  sts OCR1AL,r16"
    ∷ codes "  ldi r16,2"
    ∷ codes "  sts TIMSK1,r16"
    ∷ codes "  ldi r16,9"
    ∷ codes "  sts TCCR1B,r16"
    ∷ codes "  sei"
    ∷ []

-- main: the pads are read again and again
abbrev pub main_loop : List (List ℕ)
main_loop =
    codes "loop: sbi PORTA,2"
    ∷ codes "  cbi PORTA,2"
    ∷ codes "  ldi r18,16"
    ∷ codes "bit: in r19,PINA"
    ∷ codes "  lsr r19"
    ∷ codes "  ror r21"
    ∷ codes "  ror r20"
    ∷ codes "  sbi PORTA,3"
    ∷ codes "  cbi PORTA,3"
    ∷ codes "  dec r18"
    ∷ codes "  brne bit"
    ∷ codes "  sts pad,r20"
    ∷ codes "  sts pad+1,r21"
    ∷ codes "  rjmp loop"
    ∷ []

-- the handler: the jitter is removed, sync falls, and a sound is made
abbrev pub handler : List (List ℕ)
handler =
    codes "handler: push r31"
    ∷ codes "  push r30"
    ∷ codes "  in r30,SREG"
    ∷ codes "  push r30"
    ∷ codes "  lds r30,TCNT1L"
    ∷ codes "  subi r30,15"
    ∷ codes "  cpi r30,1"
    ∷ codes "  brlo ."
    ∷ codes "  cpi r30,2"
    ∷ codes "  brlo ."
    ∷ codes "  cpi r30,3"
    ∷ codes "  brlo ."
    ∷ codes "  cbi PORTB,0"
    ∷ codes "  lds r30,tone"
    ∷ codes "  subi r30,249"
    ∷ codes "  sts tone,r30"
    ∷ codes "  sts OCR2A,r30"
    ∷ []

-- a line that shows nothing
abbrev pub blank : List (List ℕ)
blank =
    codes "  lds r30,line"
    ∷ codes "  cpi r30,3"
    ∷ codes "  brlo broad"
    ∷ codes "  ldi r31,40"
    ∷ codes "w1: dec r31"
    ∷ codes "  brne w1"
    ∷ codes "  nop"
    ∷ codes "  sbi PORTB,0"
    ∷ codes "  cpi r30,38"
    ∷ codes "  brsh draw"
    ∷ codes "done: inc r30"
    ∷ codes "  sts line,r30"
    ∷ codes "leave: pop r30"
    ∷ codes "  out SREG,r30"
    ∷ codes "  pop r30"
    ∷ codes "  pop r31"
    ∷ codes "  reti"
    ∷ codes "broad: ldi r31,250"
    ∷ codes "w2: dec r31"
    ∷ codes "  brne w2"
    ∷ codes "  ldi r31,250"
    ∷ codes "w3: dec r31"
    ∷ codes "  brne w3"
    ∷ codes "  sbi PORTB,0"
    ∷ codes "  rjmp done"
    ∷ []

-- the picture begins: r30 counts its lines down
abbrev pub draw : List (List ℕ)
draw =
    codes "draw: push r29"
    ∷ []

-- a line of the picture, up to its pixels
abbrev pub row : List (List ℕ)
row =
    codes "  rjmp ."
    ∷ codes "row: mov r29,r30"
    ∷ codes "  ldi r31,75"
    ∷ codes "w4: dec r31"
    ∷ codes "  brne w4"
    ∷ []

-- its pixels, 11 clocks apart
abbrev pub pix : List (List ℕ)
pix =
    codes "pix: out PORTC,r29"
    ∷ codes "  inc r29"
    ∷ codes "  rjmp ."
    ∷ codes "  rjmp ."
    ∷ codes "  rjmp ."
    ∷ codes "  dec r31"
    ∷ codes "  brne pix"
    ∷ codes "  ldi r29,0"
    ∷ codes "  out PORTC,r29"
    ∷ codes "  dec r30"
    ∷ codes "  breq drawn"
    ∷ []

-- the next line begins
abbrev pub next_row : List (List ℕ)
next_row =
    codes "  cbi PORTB,0"
    ∷ codes "  lds r29,tone"
    ∷ codes "  subi r29,249"
    ∷ codes "  sts tone,r29"
    ∷ codes "  sts OCR2A,r29"
    ∷ codes "  ldi r31,41"
    ∷ codes "w6: dec r31"
    ∷ codes "  brne w6"
    ∷ codes "  rjmp ."
    ∷ codes "  sbi PORTB,0"
    ∷ codes "  ldi r31,2"
    ∷ codes "  out TIFR1,r31"
    ∷ codes "  rjmp ."
    ∷ codes "  rjmp ."
    ∷ codes "  rjmp row"
    ∷ []

-- the last one is drawn
abbrev pub drawn : List (List ℕ)
drawn =
    codes "drawn: pop r29"
    ∷ codes "  ldi r30,0"
    ∷ codes "  sts line,r30"
    ∷ codes "  rjmp leave"
    ∷ []
